-- How long a call's line is, by the table of kinds: its number, and for each field a comma and one to ten digits.
use Rattle.std.specs.Prelude.{Some}
use mathlib.Core.Path.{◌≡◌, refl, ap, subst}
use mathlib.Core.Bool.{Bool, true, false, ◌&&◌}
use mathlib.Core.List.{List, [], ◌∷◌, map}
use Prim.Native.Nat.{ℕ, zero, suc, ◌+◌, ◌*◌, ◌≤◌}
use native.Mathlib.Omega.{arith}
use lib.Dec.{leb, eqb}
use lib.ListN.{length, length-append}
use borrow.Author.Tests.{leb-true, eqb-true}
use Rattle.units.specs.Decimal.{digits}
use Rattle.units.proofs.Cases.{false_not_true, by_test}
use Rattle.decimal.proofs.Digits.{digits_some}
use Rattle.model.specs.declared.call.Call.{Call}
use Rattle.model.specs.Kinds.{Taking, Kind, from_fields, kinds}
use Rattle.lines.specs.CallLines.{read_in, of_kind}
use Rattle.lines.specs.CallText.{join_parts, line_of_numbers, line_of_call, Small}
use Rattle.lines.proofs.RoundTrip.{Remade, remade, numbers_length, no_read}
use Rattle.call_writer.specs.Writing.{longest_call, LinesBounded}

-- ---- the table

-- a kind has a field, and its longest line is no longer
abbrev fits : Kind → Bool
fits k = leb 1 k.fields && leb (length (digits k.number) + 11 * k.fields + 1) longest_call

abbrev all_fit : List Kind → Bool
all_fit [] = true
all_fit (k ∷ ks) = fits k && all_fit ks

kinds_fit : all_fit kinds ≡ true
unfolding digits
kinds_fit = refl

both : (x y : Bool) → (x && y) ≡ true → (x ≡ true) × (y ≡ true)
both true y e = (refl, e)
both false y e = absurd (false_not_true e)

-- as many fields as the kind has
fields_count : (n : ℕ) (f : Taking n) (fields : List ℕ) (c : Call) → from_fields n f fields ≡ Some c → length fields ≡ n
fields_count zero d [] c e = refl
fields_count zero d (a ∷ fields) c e = absurd (no_read c e)
fields_count (suc n) f [] c e = absurd (no_read c e)
fields_count (suc n) f (a ∷ fields) c e = ap suc (fields_count n (f a) fields c e)

read_fits : (ks : List Kind) → all_fit ks ≡ true → (number : ℕ) (fields : List ℕ) (c : Call) → read_in ks number fields ≡ Some c
    → (1 ≤ length fields) × (length (digits number) + 11 * length fields + 1 ≤ longest_call)
read_fits [] t number fields c e = absurd (no_read c e)
read_fits (k ∷ ks) t number fields c e =
    let all = both (fits k) (all_fit ks) t in
    let here = both _ _ all.0 in
    let some : 1 ≤ k.fields = leb-true _ _ here.0 in
    let most : length (digits k.number) + 11 * k.fields + 1 ≤ longest_call = leb-true _ _ here.1 in
    by_test (eqb number k.number)
    (λ is.
    let same : number ≡ k.number = eqb-true number k.number is in
    let count : length fields ≡ k.fields = fields_count k.fields k.call fields c (rw is at e) in
    (omega (arith, some, count), omega (arith, most, count, ap (λ (n : ℕ). length (digits n)) same)))
    (λ is. read_fits ks all.1 number fields c (rw is at e))

-- ---- a call

-- a digit, and a comma and a digit for each number after the first
numbers_least : (n : ℕ) (ns : List ℕ) → 1 + 2 * length ns ≤ length (join_parts (map digits (n ∷ ns)))
numbers_least n [] = omega (arith, digits_some n)
numbers_least n (m ∷ ns) =
    omega (arith, digits_some n, numbers_least m ns, length-append (digits n) (44 ∷ join_parts (map digits (m ∷ ns))))

pub lines_bounded : LinesBounded
unfolding line_of_call line_of_numbers of_kind
lines_bounded c s =
    let r : Remade c = remade c in
    let size = length-append (line_of_call c) (10 ∷ []) in
    let numbers : length (line_of_call c) ≡ length (line_of_numbers (r.number ∷ r.fields)) = ap (λ (ns : List ℕ). length (line_of_numbers ns)) r.is in
    let fit = read_fits kinds kinds_fit r.number r.fields c r.call in
    record {
      least = omega (arith, size, numbers, numbers_least r.number r.fields, fit.0);
      most = omega (arith, size, numbers, numbers_length r.number r.fields (subst Small r.is s).1, fit.1);
    }
