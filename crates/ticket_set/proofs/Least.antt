-- The least member: what `next_of` says, and that the machine's trailing zeros give it.
use mathlib.Core.Bool.{Bool, true, false, cond}
use mathlib.Core.Path.{◌≡◌, refl, sym, ap, ◌∙◌}
use mathlib.Core.Logic.{⊎_elim}
use Prim.Native.Nat.{ℕ, zero, suc, ◌+◌, ◌/◌, ◌%◌, ◌^◌, ◌≤◌, ◌<◌}
use native.Mathlib.Nat.{div-one, pow-suc, div-div-eq-div-mul, eq-or-lt_of_le, add-zero}
use native.Mathlib.Omega.{arith}
use lib.Dec.{ltb, leb-zero, leb-suc-suc}
use lib.Count.{count_trailing_zeros, under}
use Rattle.std.specs.Prelude.{Some, None}
use Rattle.ticket_set.specs.TicketSet.{bit, removed, count_of, next_from, next_of}
use Rattle.ticket_set.proofs.Bits.{bit_cases}
use Rattle.ticket_set.proofs.Laws.{none_member, bit_of_empty, count_removed}

-- one step of the search
pub next_here : (d i m : ℕ) → bit m i ≡ 1 → next_from (suc d) i m ≡ Some i
unfolding next_from
next_here d i m e = rw e

pub next_there : (d i m : ℕ) → bit m i ≡ 0 → next_from (suc d) i m ≡ next_from d (suc i) m
unfolding next_from
next_there d i m e = rw e

-- ---- what the search says

-- k is the least member from i on, and below i + d
pub record Least (d i m k : ℕ) : Type 0 where
  pub from : i ≤ k
  pub inside : k < i + d
  pub set : bit m k ≡ 1
  pub below : (j : ℕ) → i ≤ j → j < k → bit m j ≡ 0

pub from_least : (d i m k : ℕ) → next_from d i m ≡ Some k → Least d i m k
unfolding next_from
from_least zero i m k e = absurd (let z : ◌≡◌ {A = ℕ} 0 1 = cc in omega arith)
from_least (suc d) i m k e =
    ⊎_elim (λ (z : bit m i ≡ 0). later z (from_least d (suc i) m k (sym (next_there d i m z) ∙ e))) (λ (o : bit m i ≡ 1). here o (cc (next_here d i m o, e))) (bit_cases m i)
  where
    here : bit m i ≡ 1 → i ≡ k → Least (suc d) i m k
    here o q = record { from = omega arith; inside = omega arith; set = rw (sym q) o; below = λ j a b. absurd (omega arith) }

    later : bit m i ≡ 0 → Least d (suc i) m k → Least (suc d) i m k
    later z r = record {
      from = omega arith;
      inside = omega arith;
      set = r.set;
      below = λ j a b. ⊎_elim (λ (q : i ≡ j). rw (sym q) z) (λ (l : i < j). r.below j l b) (eq-or-lt_of_le a);
    }

from_none : (d i m : ℕ) → next_from d i m ≡ None → (j : ℕ) → i ≤ j → j < i + d → bit m j ≡ 0
from_none zero i m e j a b = absurd (omega arith)
from_none (suc d) i m e j a b =
    ⊎_elim (λ (z : bit m i ≡ 0).
    ⊎_elim (λ (q : i ≡ j). rw (sym q) z) (λ (l : i < j). from_none d (suc i) m (sym (next_there d i m z) ∙ e) j l (omega arith)) (eq-or-lt_of_le a))
    (λ (o : bit m i ≡ 1). absurd (let h = next_here d i m o in let z : ◌≡◌ {A = ℕ} 0 1 = cc in omega arith)) (bit_cases m i)

pub next_at : (m k : ℕ) → next_of m ≡ Some k → Least 64 0 m k
unfolding next_of
next_at m k e = from_least 64 0 m k e

pub next_nothing : (m : ℕ) → m < 2 ^ 64 → next_of m ≡ None → m ≡ 0
unfolding next_of
next_nothing m h e = none_member m h (λ i l. from_none 64 0 m e i (omega arith) (omega arith))

from_zero : (d i : ℕ) → next_from d i 0 ≡ None
unfolding next_from
from_zero zero i = refl
from_zero (suc d) i = next_there d i 0 (bit_of_empty i) ∙ from_zero d (suc i)

pub next_of_empty : next_of 0 ≡ None
unfolding next_of
next_of_empty = from_zero 64 0

-- ---- the machine's trailing zeros

zeros_from : (d i m : ℕ) → let t = count_trailing_zeros d (m / 2 ^ i) in next_from d i m ≡ cond (ltb t d) (Some (i + t)) None
unfolding next_from count_trailing_zeros bit
zeros_from zero i m = refl
zeros_from (suc d) i m =
    ⊎_elim (λ (z : bit m i ≡ 0). next_there d i m z ∙ zeros_from d (suc i) m ∙ later z) (λ (o : bit m i ≡ 1). next_here d i m o ∙ here o) (bit_cases m i)
  where
    here : bit m i ≡ 1 → Some i ≡ cond (ltb (under (m / 2 ^ i % 2) (count_trailing_zeros d (m / 2 ^ i / 2))) (suc d)) (Some (i + under (m / 2 ^ i % 2) (count_trailing_zeros d (m / 2 ^ i / 2)))) None
    here o = rw (o, leb-suc-suc, leb-zero, add-zero)

    later : bit m i ≡ 0 → cond (ltb (count_trailing_zeros d (m / 2 ^ suc i)) d) (Some (suc i + count_trailing_zeros d (m / 2 ^ suc i))) None ≡ cond (ltb (under (m / 2 ^ i % 2) (count_trailing_zeros d (m / 2 ^ i / 2))) (suc d)) (Some (i + under (m / 2 ^ i % 2) (count_trailing_zeros d (m / 2 ^ i / 2)))) None
    later z =
        let e : m / 2 ^ i / 2 ≡ m / 2 ^ suc i = div-div-eq-div-mul m (2 ^ i) 2 ∙ ap (λ (x : ℕ). m / x) (sym (pow-suc 2 i)) in
        let s : i + suc (count_trailing_zeros d (m / 2 ^ suc i)) ≡ suc i + count_trailing_zeros d (m / 2 ^ suc i) = omega arith in
        rw (z, e, leb-suc-suc, s)

pub zeros_next : (m : ℕ) → m < 2 ^ 64 → (m ≡ 0 → ⊥) → next_of m ≡ Some (count_trailing_zeros 64 m)
unfolding next_of
zeros_next m h n = go (ltb (count_trailing_zeros 64 m) 64) (rw div-one at (zeros_from 64 0 m))
  where
    go : (b : Bool) → next_from 64 0 m ≡ cond b (Some (0 + count_trailing_zeros 64 m)) None → next_from 64 0 m ≡ Some (count_trailing_zeros 64 m)
    go true e = e ∙ ap Some (omega arith)
    go false e = absurd (n (next_nothing m h e))

-- ---- taking the next ticket off

pub next_taken : (m k : ℕ) → next_of m ≡ Some k → (k < 64) × (bit m k ≡ 1) × (count_of (removed m k) + 1 ≡ count_of m)
next_taken m k e =
    let l : Least 64 0 m k = next_at m k e in
    let i : k < 64 = omega arith in (i, l.set, count_removed m k i l.set)
