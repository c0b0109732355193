-- Laws of what the call writer answers.
use Rattle.std.specs.Prelude.{Some, None}
use mathlib.Core.Path.{◌≡◌, sym, ap, ◌∙◌}
use mathlib.Core.List.{List, [], ◌∷◌, ◌++◌, append_assoc}
use Prim.Native.Nat.{ℕ, ◌+◌, ◌-◌, ◌≤◌, ◌<◌}
use native.Mathlib.Omega.{arith}
use lib.Dec.{leb}
use lib.ListN.{length, take, drop, length-append, length-drop}
use lib.Seq.{length-take-le, take_at, drop_at}
use borrow.Author.Tests.{lt-ltb, le-ltb, le-leb, lt-leb}
use Rattle.units.proofs.Cases.{by_test, by_order}
use Rattle.decimal.specs.Buffer.{put_at}
use Rattle.decimal.proofs.Put.{put_length, from_fits, from_short}
use Rattle.lines.specs.CallText.{line_of_numbers, line_of_call}
use Rattle.lines.proofs.RoundTrip.{numbers_call}
use Rattle.call_writer.specs.Writing.{written_of, written_length, line_of_reading, RefusedWhen, OutsidesKept, NumbersKept}

module _ (out : List ℕ) (at : ℕ) (text : List ℕ) where
  pub told_fits : at + length text ≤ length out → Some (length text) ≡ written_of (length out) at text
  unfolding written_of
  told_fits h = rw (le-leb _ _ h)

  pub told_short : length out < at + length text → None ≡ written_of (length out) at text
  unfolding written_of
  told_short h = rw (lt-leb _ _ h)

-- of no text nothing is told
pub told_nothing : (room at : ℕ) → 0 ≡ written_length (written_of room at [])
unfolding written_of
told_nothing room at = by_test (leb (at + 0) room) (λ t. rw t) (λ t. rw t)

pub refused_when : RefusedWhen
unfolding written_of
refused_when out at text =
    let rest : length (drop at out) ≡ length out - at = length-drop at out in
    by_order (length out) (at + length text)
    (λ short.
    by_order (length out) at
    (λ past. rw (lt-leb _ _ short, lt-ltb _ _ past))
    (λ within. rw (lt-leb _ _ short, le-ltb _ _ within, lt-ltb (length (drop at out)) (length text) (omega arith))))
    (λ fits.
    rw (le-leb _ _ fits, le-ltb (length out) at (omega arith), le-ltb (length (drop at out)) (length text) (omega arith)))

pub outsides_kept : OutsidesKept
unfolding put_at
outsides_kept out at text =
    by_order (length out) (at + length text)
    (λ short.
    let same = from_short out text at short in
    record { size = ap length same; before = ap (take at) same; after = ap (drop (at + length text)) same })
    (λ fits.
    let put = from_fits out text at fits in
    let front : length (take at out) ≡ at = length-take-le at out (omega arith) in
    let both : length (take at out ++ text) ≡ at + length text = length-append (take at out) text ∙ omega (arith, front) in
    record {
      size = ap length put ∙ put_length out text at fits;
      before = ap (take at) put ∙ take_at (take at out) _ at front;
      after =
          ap (drop (at + length text)) (put ∙ sym (append_assoc (take at out) text _))
          ∙ drop_at (take at out ++ text) _ (at + length text) both;
    })

pub numbers_kept : NumbersKept
unfolding line_of_call
numbers_kept ns c e = ap line_of_reading e ∙ ap (λ (ms : List ℕ). line_of_numbers ms ++ (10 ∷ [])) (numbers_call ns c e)
