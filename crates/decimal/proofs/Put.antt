-- Laws of `put_at`, `put_into`, `put_count` and `put_from`.
use mathlib.Core.Path.{◌≡◌, refl, sym, ap, ◌∙◌}
use Prim.Native.Nat.{ℕ, zero, suc, ◌+◌, ◌-◌, ◌≤◌, ◌<◌}
use native.Mathlib.Omega.{arith}
use native.Mathlib.Nat.{le_of_suc-le-suc, not-suc-le-zero, zero-add, add_assoc}
use mathlib.Core.List.{List, [], ◌∷◌, ◌++◌, append_assoc, append-nil}
use lib.ListN.{length, take, drop, set, length-append, length-drop, drop_of_length-le, take-append-drop}
use lib.Seq.{take_all, drop-cons, set_at, length-take-le, drop-drop, take_at, drop-append-add, sets, sets-eq}
use lib.Dec.{leb}
use borrow.Author.Tests.{leb-true, le-leb, lt-leb}
use Rattle.units.proofs.Cases.{by_test}
use Rattle.decimal.specs.Buffer.{put_at, put_into, put_count, put_from}

module _ (out text : List ℕ) where
  pub put_start : put_at out 0 text ≡ text ++ drop (length text) out
  unfolding put_at
  put_start = rw zero-add

  pub put_at_lem : length text ≤ length out → put_into out text ≡ put_at out 0 text
  unfolding put_into
  put_at_lem h = rw (le-leb _ _ h)

  pub put_fits : length text ≤ length out → put_into out text ≡ text ++ drop (length text) out
  put_fits h = put_at_lem h ∙ put_start

  pub put_short : length out < length text → put_into out text ≡ out
  unfolding put_into
  put_short h = rw (lt-leb _ _ h)

  pub count_fits : length text ≤ length out → put_count out text ≡ length text
  unfolding put_count
  count_fits h = rw (le-leb _ _ h)

  pub count_short : length out < length text → put_count out text ≡ 0
  unfolding put_count
  count_short h = rw (lt-leb _ _ h)

  pub count_within : put_count out text ≤ length out
  unfolding put_count
  count_within = by_test (leb (length text) (length out)) (λ t. rw t (leb-true _ _ t)) (λ t. rw t (omega arith))

  -- what a writer of all the text answers and leaves
  pub put_whole : {p : ℕ} {y : List ℕ} → p ≡ length text → y ≡ put_at out 0 text → length text ≤ length out
      → (p ≡ put_count out text) × (y ≡ put_into out text)
  put_whole e w h = (e ∙ sym (count_fits h), w ∙ sym (put_at_lem h))

  pub from_fits : (at : ℕ) → at + length text ≤ length out → put_from out at text ≡ put_at out at text
  unfolding put_from
  from_fits at h = rw (le-leb _ _ h)

  pub from_short : (at : ℕ) → length out < at + length text → put_from out at text ≡ out
  unfolding put_from
  from_short at h = rw (lt-leb _ _ h)

-- what text put into a part is, where it fits and where it does not
pub ruleset puts = (put_at_lem, put_short, count_fits, count_short)

-- a store at i, and what stands from i on
drop_store : (l : List ℕ) (i a : ℕ) → i < length l → drop i (set l i a) ≡ a ∷ drop (suc i) l
drop_store [] i a h = absurd (not-suc-le-zero h)
drop_store (x ∷ l) zero a h = refl
drop_store (x ∷ l) (suc i) a h = drop_store l i a (le_of_suc-le-suc h)

-- a digit stored before what is written joins it: i is j less one
pub joins : (before l : List ℕ) (i j a : ℕ) → j ≡ suc i → i < length l
    → before ++ drop i (set l i a) ≡ (before ++ (a ∷ [])) ++ drop j l
joins before l i j a e h = rw (e, drop_store l i a h, append_assoc)

-- the part of a list from an index on, as a loan of it has it
pub part_all : (xs : List ℕ) (at : ℕ) → take (length xs - at) (drop at xs) ≡ drop at xs
part_all xs at = take_all (length xs - at) (drop at xs) (omega (arith, length-drop at xs))

part_none : (xs : List ℕ) (at : ℕ) → drop (length xs - at) (drop at xs) ≡ []
part_none xs at = drop_of_length-le (drop at xs) {i = length xs - at} (omega (arith, length-drop at xs))

-- text put into the part from at on, when the part is back
pub put_part : (xs t : List ℕ) (at : ℕ) → at + length t ≤ length xs
    → take at xs ++ (put_into (take (length xs - at) (drop at xs)) t ++ drop (length xs - at) (drop at xs)) ≡ put_at xs at t
unfolding put_at
put_part xs t at h =
    rw (part_all xs at, part_none xs at, append-nil, put_fits (drop at xs) t (omega (arith, length-drop at xs)), drop-drop (length t) at xs)

-- text put into the part from at on, and then one byte after it
pub put_field : (xs d : List ℕ) (at e : ℕ) → at + length d + 1 ≤ length xs
    → set (take at xs ++ (put_at (drop at xs) 0 d ++ drop (length xs - at) (drop at xs))) (at + length d) e
    ≡ put_at xs at (d ++ (e ∷ []))
unfolding put_at
put_field xs d at e h =
    let rest = drop at xs in
    let lr : length rest ≡ length xs - at = length-drop at xs in
    let p = take at xs ++ d in
    let lp : length p ≡ at + length d = length-append (take at xs) d ∙ ap (λ (k : ℕ). k + length d) (length-take-le at xs (omega arith)) in
    let tail : drop (suc (length d)) rest ≡ drop (at + length (d ++ (e ∷ []))) xs =
    drop-drop (suc (length d)) at xs ∙ ap (λ (k : ℕ). drop (at + k) xs) (omega (arith, length-append d (e ∷ []))) in
    ap (λ (l : List ℕ). set (take at xs ++ (put_at rest 0 d ++ l)) (at + length d) e) (part_none xs at)
    ∙ ap (λ (l : List ℕ). set (take at xs ++ l) (at + length d) e)
    (append-nil (put_at rest 0 d) ∙ put_start rest d ∙ ap (λ (l : List ℕ). d ++ l) (drop-cons rest (length d) 0 (omega arith)))
    ∙ ap (λ (l : List ℕ). set l (at + length d) e) (sym (append_assoc (take at xs) d _))
    ∙ set_at p _ _ e (at + length d) lp
    ∙ append_assoc (take at xs) d _
    ∙ ap (λ (l : List ℕ). take at xs ++ (d ++ (e ∷ l))) tail
    ∙ ap (λ (l : List ℕ). take at xs ++ l) (sym (append_assoc d (e ∷ []) _))

-- the same where the part is lent, and the digits are k
pub put_ended : (xs d : List ℕ) (at k e : ℕ) → k ≡ length d → at + length d + 1 ≤ length xs
    → set (take at xs ++ (put_at (take (length xs - at) (drop at xs)) 0 d ++ drop (length xs - at) (drop at xs))) (at + k) e
    ≡ put_at xs at (d ++ (e ∷ []))
put_ended xs d at k e is h = rw (is, part_all xs at) (put_field xs d at e h)

pub put_length : (xs t : List ℕ) (at : ℕ) → at + length t ≤ length xs → length (put_at xs at t) ≡ length xs
unfolding put_at
put_length xs t at h =
    let rest = drop (at + length t) xs in
    omega (arith, length-append (take at xs) (t ++ rest), length-take-le at xs (omega arith), length-append t rest, length-drop (at + length t) xs)

-- text put after text is the two put at once
pub put_put : (xs a b : List ℕ) (at : ℕ) → at + length a + length b ≤ length xs
    → put_at (put_at xs at a) (at + length a) b ≡ put_at xs at (a ++ b)
unfolding put_at
put_put xs a b at h =
    let rest = drop (at + length a) xs in
    let p = take at xs ++ a in
    let lp : length p ≡ at + length a = length-append (take at xs) a ∙ ap (λ (k : ℕ). k + length a) (length-take-le at xs (omega arith)) in
    ap (λ (l : List ℕ). take (at + length a) l ++ (b ++ drop (at + length a + length b) l)) (sym (append_assoc (take at xs) a rest))
    ∙ ap (λ (l : List ℕ). l ++ (b ++ drop (at + length a + length b) (p ++ rest))) (take_at p rest (at + length a) lp)
    ∙ ap (λ (k : ℕ). p ++ (b ++ drop (k + length b) (p ++ rest))) (sym lp)
    ∙ ap (λ (l : List ℕ). p ++ (b ++ l)) (drop-append-add p rest (length b) ∙ drop-drop (length b) (at + length a) xs)
    ∙ append_assoc (take at xs) a _
    ∙ ap (λ (l : List ℕ). take at xs ++ l) (sym (append_assoc a b _))
    ∙ ap (λ (k : ℕ). take at xs ++ ((a ++ b) ++ drop k xs)) (add_assoc at (length a) (length b) ∙ ap (λ (k : ℕ). at + k) (sym (length-append a b)))

-- bytes stored one after the other
pub put_bytes : (xs bytes : List ℕ) (at : ℕ) → at + length bytes ≤ length xs → sets xs at bytes ≡ put_at xs at bytes
unfolding put_at
put_bytes xs bytes at h = sets-eq bytes xs at h ∙ append_assoc (take at xs) bytes _

-- a run of texts put one after the other from index at on: y has t, and p is the index after it
pub record Run (xs : List ℕ) (at : ℕ) (t y : List ℕ) (p : ℕ) : Type 0 where
  pub text : y ≡ put_at xs at t
  pub place : p ≡ at + length t

pub run_none : (xs : List ℕ) (at : ℕ) → Run xs at [] xs at
unfolding put_at
run_none xs at =
    let same : at + 0 ≡ at = omega arith in
    record { text = sym (ap (λ (k : ℕ). take at xs ++ drop k xs) same ∙ take-append-drop at xs); place = sym same }

-- no text changes nothing
pub from_nothing : (out : List ℕ) (at : ℕ) → put_from out at [] ≡ out
unfolding put_from
from_nothing out at = by_test (leb (at + 0) (length out)) (λ t. rw t (sym (run_none out at).text)) (λ t. rw t)

pub run_one : (xs : List ℕ) (at : ℕ) (u y : List ℕ) (p : ℕ) → y ≡ put_at xs at u → p ≡ at + length u → Run xs at u y p
run_one xs at u y p e l = record { text = e; place = l }

pub run_more : (xs : List ℕ) (at : ℕ) (t y u z : List ℕ) (p q : ℕ) → Run xs at t y p → at + length t + length u ≤ length xs
    → z ≡ put_at y p u → q ≡ p + length u → Run xs at (t ++ u) z q
run_more xs at t y u z p q r h e l =
    record {
      text =
          e
          ∙ ap (λ (w : List ℕ). put_at w p u) r.text
          ∙ ap (λ (k : ℕ). put_at (put_at xs at t) k u) r.place
          ∙ put_put xs t u at h;
      place = omega (arith, r.place, length-append t u);
    }

-- the whole run that fits
pub run_all : (xs t y : List ℕ) (p : ℕ) → Run xs 0 t y p → length t ≤ length xs → (p ≡ put_count xs t) × (y ≡ put_into xs t)
run_all xs t y p r h = put_whole xs t (omega (arith, r.place)) r.text h

-- what a writer of nothing answers and leaves
pub put_nothing : (out text : List ℕ) → length out < length text → (0 ≡ put_count out text) × (out ≡ put_into out text)
put_nothing out text h = (sym (count_short out text h), sym (put_short out text h))
