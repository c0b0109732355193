-- The code and the values of what is read of a line are those of its bytes.
use Rattle.std.specs.Prelude.{Some, None, Option}
use mathlib.Core.Path.{◌≡◌, refl, sym, ap, ◌∙◌, subst}
use mathlib.Core.Bool.{Bool, true, false, cond}
use mathlib.Core.List.{List, [], ◌∷◌}
use Prim.Native.Nat.{ℕ, zero, suc}
use native.Mathlib.Omega.{arith}
use lib.ListN.{length, drop}
use lib.Dec.{eqb, eqb-zero-suc, eqb-suc-zero, eqb-suc-suc}
use Rattle.units.proofs.Cases.{by_test}
use Rattle.model.specs.declared.call.Call.{Call}
use Rattle.model.specs.Kinds.{Kind, Taking, from_fields, kinds}
use Rattle.fields.specs.Grammar.{line_numbers}
use Rattle.lines.specs.declared.call.LineAt.{LineAt}
use Rattle.lines.specs.CallLines.{read_in, of_kind, call_of, call_of_numbers, reading_of, line_in, line_at}
use Rattle.lines.specs.ReadingCode.{reading_code, reading_values, has_kind, is_call, code_in, values_in, line_code, line_values, Tells, ReadingsTell}
use Rattle.lines.proofs.RoundTrip.{numbers_call}

-- ---- the code

fields_code : (n : ℕ) (f : Taking n) (fields : List ℕ) → reading_code (from_fields n f fields) ≡ cond (eqb (length fields) n) 0 20
fields_code zero c [] = refl
fields_code zero c (a ∷ fields) = rw (eqb-suc-zero (length fields))
fields_code (suc n) f [] = rw (eqb-zero-suc n)
fields_code (suc n) f (a ∷ fields) = rw (eqb-suc-suc (length fields) n) (fields_code n (f a) fields)

kind_code : (ks : List Kind) (number : ℕ) (fields : List ℕ) → reading_code (read_in ks number fields) ≡ cond (has_kind ks number (length fields)) 0 20
kind_code [] number fields = refl
kind_code (k ∷ ks) number fields =
    by_test (eqb number k.number)
    (λ t. rw t (fields_code k.fields k.call fields))
    (λ t. rw t (kind_code ks number fields))

numbers_code : (ns : List ℕ) → reading_code (call_of ns) ≡ cond (is_call ns) 0 20
unfolding of_kind
numbers_code [] = refl
numbers_code (number ∷ fields) = kind_code kinds number fields

-- ---- the values

-- a reading with a code by a test, and its values by the same test
by_code : (r : Option Call) (t : Bool) (ns : List ℕ) → reading_code r ≡ cond t 0 20 → ((c : Call) → r ≡ Some c → reading_values r ≡ ns) → reading_values r ≡ cond t ns []
by_code (Some c) true ns e f = f c refl
by_code (Some c) false ns e f = absurd (omega (arith, e))
by_code None true ns e f = absurd (omega (arith, e))
by_code None false ns e f = refl

numbers_values : (ns : List ℕ) → reading_values (call_of ns) ≡ cond (is_call ns) ns []
numbers_values ns = by_code (call_of ns) (is_call ns) ns (numbers_code ns) (λ c e. ap reading_values e ∙ numbers_call ns c e)

-- ---- a line

of_numbers : (m : Option (List ℕ)) → (reading_code (call_of_numbers m) ≡ code_in m) × (reading_values (call_of_numbers m) ≡ values_in m)
of_numbers None = (refl, refl)
of_numbers (Some ns) = (numbers_code ns, numbers_values ns)

pub readings_tell : ReadingsTell
unfolding reading_of line_code line_values
readings_tell line = record { code = (of_numbers (line_numbers line)).0; values = (of_numbers (line_numbers line)).1 }

-- with the equation that names the line
pub call_told : (line : List ℕ) (r : Option Call) → r ≡ reading_of line → (r ≡ reading_of line) × Tells line r
call_told line r e = (e, subst (Tells line) (sym e) (readings_tell line))

pub line_told : (bytes : List ℕ) (from : ℕ) (l : LineAt) → l ≡ line_at bytes from
    → (l ≡ line_at bytes from) × Tells (line_in (drop from bytes)) l.reading
unfolding line_at
line_told bytes from l e = (e, (call_told (line_in (drop from bytes)) l.reading (ap (λ (x : LineAt). x.reading) e)).1)
