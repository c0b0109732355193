-- What a caller of the reader needs: a line's numbers where the reader stops at its end or short of it, and the numbers of its answer.
use Rattle.std.specs.Prelude.{Some, None, Option}
use mathlib.Core.Path.{◌≡◌, refl}
use mathlib.Core.List.{List, [], ◌∷◌, ◌++◌}
use Prim.Native.Nat.{ℕ, ◌≤◌, ◌<◌}
use native.Mathlib.Omega.{arith}
use lib.ListN.{length, take, drop}
use lib.Seq.{take-append_seam}
use lib.Dec.{leb, eqb}
use borrow.Author.Tests.{le-leb, lt-leb}
use Rattle.units.proofs.Cases.{by_test}
use Rattle.fields.specs.Grammar.{is_digit, parts_of, cons_number, number_of, all_numbers, line_numbers}
use Rattle.fields.specs.Fields.{is_field_byte, field_bytes, fields_end, with_numbers, fields_at}
use Rattle.fields.proofs.Scan.{on_all, all_cons, all_snoc, first_bad}

cons_none : (m : Option ℕ) → cons_number m None ≡ None
cons_none None = refl
cons_none (Some n) = refl

-- digits, then bytes that are not all digits and commas
stops_from : (line ds : List ℕ) → length (field_bytes line) < length line → all_numbers (on_all ds (parts_of line)) ≡ None
stops_from [] ds h = absurd (omega arith)
stops_from (b ∷ bs) ds h =
    by_test
    (eqb b 44)
    (λ e.
    let less : length (field_bytes bs) < length bs = omega (arith, rw e at h) in
    rw (e, all_cons ds [] (parts_of bs), stops_from bs [] less) (cons_none (number_of (ds ++ []))))
    (λ e.
    by_test
    (is_digit b)
    (λ t.
    let less : length (field_bytes bs) < length bs = omega (arith, rw (e, t) at h) in
    rw (e, ← all_snoc ds b (parts_of bs)) (stops_from bs (ds ++ (b ∷ [])) less))
    (λ t. rw e (first_bad ds b (parts_of bs) t)))

-- a line with a byte that is neither digit nor comma has no numbers
pub stops_short : (line : List ℕ) → length (field_bytes line) < length line → all_numbers (parts_of line) ≡ None
stops_short line h = stops_from line [] h

pub all_field_bytes : (line : List ℕ) → length line ≤ length (field_bytes line) → field_bytes line ≡ line
all_field_bytes [] h = refl
all_field_bytes (b ∷ bs) h =
    by_test
    (is_field_byte b)
    (λ e.
    let less : length bs ≤ length (field_bytes bs) = omega (arith, rw e at h) in
    rw (e, all_field_bytes bs less))
    (λ e. absurd (omega (arith, rw e at h)))

-- at most 80 bytes
pub line_short : (l : List ℕ) → length l ≤ 80 → line_numbers l ≡ all_numbers (parts_of l)
unfolding line_numbers
line_short l h = rw (le-leb _ _ h)

pub line_long : (l : List ℕ) → 80 < length l → line_numbers l ≡ None
unfolding line_numbers
line_long l h = rw (lt-leb _ _ h)

-- the numbers of an answer
pub numbers_in : (stop : ℕ) (ns : List ℕ) → length ns ≤ 8
    → take (with_numbers stop (Some ns)).count (with_numbers stop (Some ns)).values ≡ ns
numbers_in stop ns h = rw (le-leb _ _ h) (take-append_seam ns _)

pub numbers_many : (stop : ℕ) (ns : List ℕ) → 8 < length ns
    → take (with_numbers stop (Some ns)).count (with_numbers stop (Some ns)).values ≡ []
numbers_many stop ns h = rw (lt-leb _ _ h)

-- its stop
numbers_stop : (stop : ℕ) (m : Option (List ℕ)) → (with_numbers stop m).stop ≡ stop
numbers_stop stop None = refl
numbers_stop stop (Some ns) = by_test (leb (length ns) 8) (λ e. rw e) (λ e. rw e)

pub fields_stop : (bytes : List ℕ) (from : ℕ) → (fields_at bytes from).stop ≡ fields_end bytes from
unfolding fields_at
fields_stop bytes from = numbers_stop (fields_end bytes from) (all_numbers (parts_of (field_bytes (drop from bytes))))
