-- What a host of plain numbers is told: the inequalities hold of it, and of nothing else.
use Rattle.std.specs.Prelude.{Some, None, Option}
use mathlib.Core.Path.{◌≡◌, refl, sym, ap, ap₂, subst, ◌∙◌}
use mathlib.Core.List.{List, [], ◌∷◌}
use Prim.Native.Nat.{ℕ, ◌+◌, ◌≤◌, ◌<◌}
use native.Mathlib.Omega.{arith}
use lib.ListN.{length, length-append}
use borrow.Author.Tests.{le-leb, lt-leb}
use Rattle.units.proofs.Cases.{by_order}
use Rattle.model.specs.declared.call.Call.{Call}
use Rattle.lines.specs.CallLines.{call_of}
use Rattle.lines.specs.CallText.{line_of_numbers, call_line}
use Rattle.lines.proofs.RoundTrip.{no_read}
use Rattle.call_writer.specs.declared.LinePut.{LinePut}
use Rattle.call_writer.specs.Writing.{written_of, written_length, line_of_reading, put_of}
use Rattle.call_writer.specs.Putting.{line_bytes, IsCall, PutTells, PutsTell, PutTellsAlone}
use Rattle.call_writer.proofs.WritingLaws.{told_nothing, numbers_kept}

-- the length is that of the line, or of none
pub put_bytes : (room at : ℕ) (r : Option Call) → (put_of room at r).length ≡ written_length (written_of room at (line_of_reading r))
unfolding put_of
put_bytes room at (Some c) = refl
put_bytes room at None = told_nothing room at

-- by its two numbers
put_is : (p : LinePut) {code bytes : ℕ} → (p.code ≡ code) × (p.length ≡ bytes) → p ≡ record { code = code; length = bytes }
put_is p h = ap₂ (λ (code bytes : ℕ). record { code = code; length = bytes }) h.0 h.1

module _ (size place : ℕ) (ns : List ℕ) where
  -- ---- no call
  none_tells : call_of ns ≡ None → PutTells size place ns 20 0
  none_tells e =
      record {
        no_call = λ n. (refl, refl);
        short = λ i. absurd (no_read i.call (sym e ∙ i.read));
        fits = λ i. absurd (no_read i.call (sym e ∙ i.read));
        told_20 = λ z. e;
        told_21 = λ z. absurd (omega (arith, z));
        told_0 = λ z. absurd (omega (arith, z));
      }

  -- ---- a call
  module _ (c : Call) (e : call_of ns ≡ Some c) where
    is_call : IsCall ns
    is_call = record { call = c; read = e }

    bytes_are : length (call_line c) ≡ line_bytes ns
    bytes_are = ap (λ (r : Option Call). length (line_of_reading r)) (sym e) ∙ ap length (numbers_kept ns c e) ∙ length-append (line_of_numbers ns) (10 ∷ [])

    short_tells : size < place + line_bytes ns → PutTells size place ns 21 0
    short_tells h =
        record {
          no_call = λ n. absurd (no_read c (sym n ∙ e));
          short = λ i s. (refl, refl);
          fits = λ i f. absurd (omega (arith, h, f));
          told_20 = λ z. absurd (omega (arith, z));
          told_21 = λ z. (is_call, h);
          told_0 = λ z. absurd (omega (arith, z));
        }

    fits_tells : place + line_bytes ns ≤ size → PutTells size place ns 0 (line_bytes ns)
    fits_tells h =
        record {
          no_call = λ n. absurd (no_read c (sym n ∙ e));
          short = λ i s. absurd (omega (arith, h, s));
          fits = λ i f. (refl, refl);
          told_20 = λ z. absurd (omega (arith, z));
          told_21 = λ z. absurd (omega (arith, z));
          told_0 = λ z. (is_call, h, omega arith);
        }

    is_short : size < place + line_bytes ns → put_of size place (Some c) ≡ record { code = 21; length = 0 }
    unfolding put_of written_of
    is_short h = rw (lt-leb (place + length (call_line c)) size (omega (arith, h, bytes_are)))

    is_written : place + line_bytes ns ≤ size → put_of size place (Some c) ≡ record { code = 0; length = line_bytes ns }
    unfolding put_of written_of
    is_written h = rw (le-leb (place + length (call_line c)) size (omega (arith, h, bytes_are)), bytes_are)

  -- ---- by the reading
  tells : (r : Option Call) → call_of ns ≡ r → PutTells size place ns (put_of size place r).code (put_of size place r).length
  unfolding put_of
  tells None e = none_tells e
  tells (Some c) e =
      by_order size (place + line_bytes ns)
      (λ h. subst (λ (p : LinePut). PutTells size place ns p.code p.length) (sym (is_short c e h)) (short_tells c e h))
      (λ h. subst (λ (p : LinePut). PutTells size place ns p.code p.length) (sym (is_written c e h)) (fits_tells c e h))

  alone : (p : LinePut) → PutTells size place ns p.code p.length → (r : Option Call) → call_of ns ≡ r → p ≡ put_of size place r
  unfolding put_of
  alone p t None e = put_is p (t.no_call e)
  alone p t (Some c) e =
      by_order size (place + line_bytes ns)
      (λ h. put_is p (t.short (is_call c e) h) ∙ sym (is_short c e h))
      (λ h. put_is p (t.fits (is_call c e) h) ∙ sym (is_written c e h))

pub puts_tell : PutsTell
puts_tell size place ns = tells size place ns (call_of ns) refl

pub put_tells_alone : PutTellsAlone
put_tells_alone size place ns p t = alone size place ns p t (call_of ns) refl
