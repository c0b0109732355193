-- The members in rising order: the next one first, then the members of the set without it.
use mathlib.Core.Path.{◌≡◌, refl, sym, ap, ◌∙◌}
use mathlib.Core.List.{[], ◌∷◌}
use mathlib.Core.Logic.{⊎_elim}
use Prim.Native.Nat.{ℕ, zero, suc, ◌≤◌}
use native.Mathlib.Omega.{arith}
use Rattle.std.specs.Prelude.{Some, None}
use Rattle.ticket_set.specs.TicketSet.{bit, removed, next_from, next_of, members_from, members_of}
use Rattle.ticket_set.proofs.Bits.{bit_cases, bit_removed_same, bit_removed_other}
use Rattle.ticket_set.proofs.Least.{next_here, next_there, from_least}

-- one step
pub members_here : (d i m : ℕ) → bit m i ≡ 1 → members_from (suc d) i m ≡ i ∷ members_from d (suc i) m
unfolding members_from
members_here d i m e = rw e

pub members_there : (d i m : ℕ) → bit m i ≡ 0 → members_from (suc d) i m ≡ members_from d (suc i) m
unfolding members_from
members_there d i m e = rw e

-- sets that agree from a ticket on have the same members from there on
members_agree : (d i m n : ℕ) → ((j : ℕ) → i ≤ j → bit m j ≡ bit n j) → members_from d i m ≡ members_from d i n
unfolding members_from
members_agree zero i m n h = refl
members_agree (suc d) i m n h =
    let rest : members_from d (suc i) m ≡ members_from d (suc i) n = members_agree d (suc i) m n (λ j l. h j (omega arith)) in
    ⊎_elim
    (λ (z : bit m i ≡ 0). members_there d i m z ∙ rest ∙ sym (members_there d i n (sym (h i (omega arith)) ∙ z)))
    (λ (o : bit m i ≡ 1). members_here d i m o ∙ ap (◌∷◌ i) rest ∙ sym (members_here d i n (sym (h i (omega arith)) ∙ o)))
    (bit_cases m i)

next_first : (d i m k : ℕ) → next_from d i m ≡ Some k → members_from d i m ≡ k ∷ members_from d i (removed m k)
unfolding next_from
next_first zero i m k e = absurd (let z : ◌≡◌ {A = ℕ} 0 1 = cc in omega arith)
next_first (suc d) i m k e =
    ⊎_elim
    (λ (z : bit m i ≡ 0). later z (next_first d (suc i) m k (sym (next_there d i m z) ∙ e)))
    (λ (o : bit m i ≡ 1). here o (cc (next_here d i m o, e)))
    (bit_cases m i)
  where
    without : members_from d (suc i) m ≡ members_from (suc d) i (removed m i)
    without =
        members_agree d (suc i) m (removed m i) (λ j l. sym (bit_removed_other m i j (λ q. omega arith)))
        ∙ sym (members_there d i (removed m i) (bit_removed_same m i))

    here : bit m i ≡ 1 → i ≡ k → members_from (suc d) i m ≡ k ∷ members_from (suc d) i (removed m k)
    here o q = rw (sym q) (members_here d i m o ∙ ap (◌∷◌ i) without)

    later : bit m i ≡ 0 → members_from d (suc i) m ≡ k ∷ members_from d (suc i) (removed m k) → members_from (suc d) i m ≡ k ∷ members_from (suc d) i (removed m k)
    later z r =
        let one : bit m k ≡ 1 = (from_least (suc d) i m k e).set in
        members_there d i m z ∙ r
        ∙ ap (◌∷◌ k) (sym (members_there d i (removed m k) (bit_removed_other m k i (λ q. omega (arith, ap (bit m) q, one, z)) ∙ z)))

pub members_next : (m k : ℕ) → next_of m ≡ Some k → members_of m ≡ k ∷ members_of (removed m k)
unfolding next_of members_of
members_next m k e = next_first 64 0 m k e

next_none : (d i m : ℕ) → next_from d i m ≡ None → members_from d i m ≡ []
unfolding members_from
next_none zero i m e = refl
next_none (suc d) i m e =
    ⊎_elim
    (λ (z : bit m i ≡ 0). members_there d i m z ∙ next_none d (suc i) m (sym (next_there d i m z) ∙ e))
    (λ (o : bit m i ≡ 1). absurd (let h = next_here d i m o in let z : ◌≡◌ {A = ℕ} 0 1 = cc in omega arith))
    (bit_cases m i)

pub members_nothing : (m : ℕ) → next_of m ≡ None → members_of m ≡ []
unfolding next_of members_of
members_nothing m e = next_none 64 0 m e
