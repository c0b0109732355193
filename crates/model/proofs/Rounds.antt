-- A round in history: what one changed part changes, that the round covers what it owes, and what it leaves.
use Prim.Native.Nat.{◌+◌, ◌-◌, ◌<◌, ◌≤◌, suc, zero, ℕ}
use mathlib.Core.Logic.{◌⊎◌, inl, inr}
use mathlib.Core.Path.{◌∙◌, ◌≡◌, ap, refl, sym}
use native.Mathlib.Nat.{eq-zero-or-pos}
use native.Mathlib.Omega.{arith}
use Rattle.model.specs.History.{Current, G, OrderTerms, P, Part, RoundLog, Stage, T, absent, came_in, claimed, holds, is_waiting, moved_out, offer_on, put, running, settled, taken, ticket_count, waiting, waiting_count, went_out, when_same, with_part}
use Rattle.model.specs.Sides.{offered, other}
use Rattle.model.specs.WholeRun.{RoundPays, unclaimed, current_holds, holds_of, rounds_total}
use Rattle.model.specs.declared.state.Round.{Round}
use Rattle.pricing.specs.Prices.{share_got, share_paid}
use Rattle.pricing.specs.declared.Side.{Side}
use Rattle.pricing.specs.declared.Side.TheVariants.{Buy, Sell}
use Rattle.ticket_set.specs.TicketSet.{bit, count_of}
use Rattle.units.specs.Sums.{sum_to}
use Rattle.model.proofs.Inv.{ClaimsAt, PartOk, RoundOk, claimed_ok}
use Rattle.model.proofs.Reading.{put_each, put_other, put_same}
use Rattle.model.proofs.SideLaw.{SideLaw, count_on, got_sum, on, on_both, paid_sum, side_law}
use Rattle.pricing.proofs.Shares.{got_none, paid_le_offer, paid_none}
use Rattle.units.proofs.Sums.{only_same, sum_add, sum_at, sum_ext, sum_le, sum_zero, term_le, zero_terms}

-- ---- a sum over parts after one part changed

pub parts_at : (f : ℕ → Part → ℕ) (g : ℕ → Part) (k : ℕ) (q : Part) → k < 64
    → sum_to 64 (λ j. f j (put g k q j)) + f k (g k) ≡ sum_to 64 (λ j. f j (g j)) + f k q
parts_at f g k q hk =
    let a : f k (put g k q k) ≡ f k q = ap (λ v. f k v) (put_same g k q) in
    omega (
      arith,
      sum_at 64 k (λ j. f j (g j)) (λ j. f j (put g k q j)) hk (λ j lj d. ap (λ v. f j v) (put_other g k q j d)),
    )

module _ (b : RoundLog) (k : ℕ) (q : Part) (hk : k < 64) where
  pub T_part : (x : Side) → T (with_part b k q) x + offer_on x (b.part k) ≡ T b x + offer_on x q
  T_part x = parts_at (λ j p. offer_on x p) b.part k q hk

  pub went_out_part : (x : Side) → went_out (with_part b k q) x + moved_out x (b.part k) ≡ went_out b x + moved_out x q
  went_out_part x = omega (arith, parts_at (λ j p. moved_out x p) b.part k q hk)

  pub came_in_part : (x : Side) → came_in (with_part b k q) x + offer_on x (b.part k) ≡ came_in b x + offer_on x q
  came_in_part x = omega (arith, T_part x)

-- ---- what a settled round owes

-- what is due of the token that x offers, for one part: its refund, and what the other side's ticket gets
abbrev pub due_part : RoundLog → Side → Part → ℕ
due_part b x q =
    (offer_on x q - share_paid (offer_on x q) (P b x) (T b x)) + share_got (offer_on (other x) q) (G b (other x)) (T b (other x))

-- a claimed part was paid what is due
due_claimed : (b : RoundLog) (x side : Side) (o : ℕ)
    → when_same x side (o - share_paid o (P b side) (T b side)) + when_same (other x) side (share_got o (G b side) (T b side))
    ≡ (when_same x side o - share_paid (when_same x side o) (P b x) (T b x)) + share_got (when_same (other x) side o) (G b (other x)) (T b (other x))
due_claimed b Buy Buy o = omega (arith, got_none (G b Sell) (T b Sell))
due_claimed b Buy Sell o = omega arith
due_claimed b Sell Buy o = omega arith
due_claimed b Sell Sell o = omega (arith, got_none (G b Buy) (T b Buy))

due_eq : (hi lo : ℕ) (b : RoundLog) (x : Side) (q : Part) → PartOk settled hi lo b q → is_waiting q ≡ 0 → moved_out x q ≡ due_part b x q
due_eq hi lo b x absent k w = omega (arith, got_none (G b (other x)) (T b (other x)))
due_eq hi lo b x (waiting terms o) k w = omega arith
due_eq hi lo b x (claimed terms o s got) k w = rw (k.1.s_is, k.1.got_is) (due_claimed b x terms.side o)

due_le : (hi lo : ℕ) (b : RoundLog) (x : Side) (q : Part) → PartOk settled hi lo b q → moved_out x q ≤ due_part b x q
due_le hi lo b x absent k = omega arith
due_le hi lo b x (waiting terms o) k = omega arith
due_le hi lo b x (claimed terms o s got) k = omega (arith, due_eq hi lo b x (claimed terms o s got) k refl)

-- all that is due, and all that tickets pay, is all that was offered and all that the other side's tickets get
due_sum : (b : RoundLog) (x : Side) → P b x ≤ T b x → sum_to 64 (λ k. due_part b x (b.part k)) + paid_sum b x ≡ T b x + got_sum b (other x)
unfolding paid_sum got_sum
due_sum b x within =
    let s : ℕ → ℕ = λ k. share_paid (offer_on x (b.part k)) (P b x) (T b x) in
    let q : ℕ → ℕ = λ k. share_got (offer_on (other x) (b.part k)) (G b (other x)) (T b (other x)) in
    let e1 = sum_add 64 (λ k. (offer_on x (b.part k) - s k) + q k) s in
    let e2 = sum_add 64 (λ k. offer_on x (b.part k)) q in
    let e3 : sum_to 64 (λ k. (offer_on x (b.part k) - s k) + q k + s k) ≡ sum_to 64 (λ k. offer_on x (b.part k) + q k) =
    sum_ext 64 _ _ (λ k l. omega (arith, fits k l (eq-zero-or-pos (T b x)))) in
    omega arith
  where
    fits : (k : ℕ) → k < 64 → (T b x ≡ 0) ⊎ (0 < T b x) → share_paid (offer_on x (b.part k)) (P b x) (T b x) ≤ offer_on x (b.part k)
    fits k l (inl z) =
        omega (arith, ap (λ o. share_paid o (P b x) (T b x)) (zero_terms 64 (λ j. offer_on x (b.part j)) z k l) ∙ paid_none (P b x) (T b x))
    fits k l (inr p) = paid_le_offer (offer_on x (b.part k)) (P b x) (T b x) p within

module _ (hi lo : ℕ) (b : RoundLog) (parts : (k : ℕ) → k < 64 → PartOk settled hi lo b (b.part k)) (within : (x : Side) → P b x ≤ T b x)
    (empty : (x : Side) → T b x ≡ 0 → G b x ≡ 0) where
  law : (x : Side) → SideLaw b x
  law x = side_law b x (within x) (empty x)

  -- all that is due is covered
  all_due : (x : Side) → sum_to 64 (λ k. due_part b x (b.part k)) + taken b x ≤ came_in b x
  all_due Buy = omega (arith, due_sum b Buy (within Buy), (law Buy).paid_enough, (law Sell).got_within)
  all_due Sell = omega (arith, due_sum b Sell (within Sell), (law Sell).paid_enough, (law Buy).got_within)

  pub covers : (x : Side) → went_out b x ≤ came_in b x
  covers x =
      omega (
        arith,
        all_due x,
        sum_le 64 (λ k. moved_out x (b.part k)) (λ k. due_part b x (b.part k)) (λ k l. due_le hi lo b x (b.part k) (parts k l)),
      )

  -- the tickets of both sides are all tickets
  counts : (x : Side) → count_on b x + count_on b (other x) ≡ ticket_count b
  unfolding count_on
  counts x =
      sym (sum_add 64 (λ k. on x (b.part k)) (λ k. on (other x) (b.part k)))
      ∙ sum_ext 64 _ _ (λ k l. on_both x (b.part k))

  -- what is left once all that is due is paid is less than the number of tickets
  left_over : (x : Side) → 0 < ticket_count b → came_in b x < sum_to 64 (λ k. due_part b x (b.part k)) + taken b x + ticket_count b
  left_over x pos = go x (eq-zero-or-pos (count_on b x)) (eq-zero-or-pos (count_on b (other x)))
    where
      go : (x : Side) → (count_on b x ≡ 0) ⊎ (0 < count_on b x) → (count_on b (other x) ≡ 0) ⊎ (0 < count_on b (other x))
          → came_in b x < sum_to 64 (λ k. due_part b x (b.part k)) + taken b x + ticket_count b
      go x (inl u) (inl v) = absurd (omega (arith, counts x))
      go Buy (inl u) (inr v) = omega (arith, counts Buy, due_sum b Buy (within Buy), (law Buy).none_paid u, (law Sell).got_close v)
      go Sell (inl u) (inr v) = omega (arith, counts Sell, due_sum b Sell (within Sell), (law Sell).none_paid u, (law Buy).got_close v)
      go Buy (inr u) (inl v) = omega (arith, counts Buy, due_sum b Buy (within Buy), (law Buy).paid_close u, (law Sell).none_got v)
      go Sell (inr u) (inl v) = omega (arith, counts Sell, due_sum b Sell (within Sell), (law Sell).paid_close u, (law Buy).none_got v)
      go Buy (inr u) (inr v) = omega (arith, counts Buy, due_sum b Buy (within Buy), (law Buy).paid_close u, (law Sell).got_close v)
      go Sell (inr u) (inr v) = omega (arith, counts Sell, due_sum b Sell (within Sell), (law Sell).paid_close u, (law Buy).got_close v)

  -- what a round holds when all its tickets are claimed
  pub leaves : ((k : ℕ) → k < 64 → is_waiting (b.part k) ≡ 0) → 0 < ticket_count b → (x : Side) → holds b x < ticket_count b
  leaves over pos x =
      let e : sum_to 64 (λ k. moved_out x (b.part k)) ≡ sum_to 64 (λ k. due_part b x (b.part k)) =
      sum_ext 64 _ _ (λ k l. due_eq hi lo b x (b.part k) (parts k l) (over k l)) in
      omega (arith, left_over x pos, covers x)

-- ---- the tickets that wait

-- the count of set bits is the number of tickets that wait
pub marks_count : (s : ℕ) (b : RoundLog) → ((k : ℕ) → k < 64 → bit s k ≡ is_waiting (b.part k)) → count_of s ≡ waiting_count b
unfolding count_of
marks_count s b e = sum_ext 64 _ _ e

pub none_waiting : (b : RoundLog) → waiting_count b ≡ 0 → (k : ℕ) → k < 64 → is_waiting (b.part k) ≡ 0
none_waiting b e k l = zero_terms 64 (λ j. is_waiting (b.part j)) e k l

-- the set after one part changed
pub marks_part : (s s' k : ℕ) (b : RoundLog) (q : Part) → bit s' k ≡ is_waiting q → ((j : ℕ) → (j ≡ k → ⊥) → bit s' j ≡ bit s j)
    → ((j : ℕ) → j < 64 → bit s j ≡ is_waiting (b.part j)) → (j : ℕ) → j < 64 → bit s' j ≡ is_waiting ((with_part b k q).part j)
marks_part s s' k b q here there marks j hj =
    put_each (λ i v. bit s' i ≡ is_waiting v) b.part k q j (λ e. here) (λ d. there j d ∙ marks j hj)

-- a part that does not wait is not unclaimed
pub not_unclaimed : (q : Part) → is_waiting q ≡ 0 → unclaimed q ≡ absent
not_unclaimed absent e = refl
not_unclaimed (waiting terms o) e = absurd (omega arith)
not_unclaimed (claimed terms o s got) e = refl

-- what a part that waits put in is within its side's total
pub offer_within : (b : RoundLog) (k : ℕ) → k < 64 → (terms : OrderTerms) (o : ℕ) → b.part k ≡ waiting terms o → o ≤ T b terms.side
offer_within b k hk terms o e =
    let own : offer_on terms.side (b.part k) ≡ o = ap (offer_on terms.side) e ∙ self terms.side o in
    omega (arith, term_le 64 k (λ j. offer_on terms.side (b.part j)) hk)
  where
    self : (x : Side) (n : ℕ) → when_same x x n ≡ n
    self Buy n = refl
    self Sell n = refl

-- ---- before claims, nothing has moved out by claims

module _ (g : Stage) (early : ClaimsAt g → ⊥) (hi lo : ℕ) (b : RoundLog) where
  no_claims : (z : Side) (q : Part) → PartOk g hi lo b q → moved_out z q ≡ 0
  no_claims z absent k = refl
  no_claims z (waiting terms o) k = refl
  no_claims z (claimed terms o s got) k = absurd (early k.0)

  pub went_zero : ((k : ℕ) → k < 64 → PartOk g hi lo b (b.part k)) → (z : Side) → went_out b z ≡ taken b z
  went_zero ok z =
      omega (arith, sum_zero 64 (λ k. moved_out z (b.part k)) (λ k l. no_claims z (b.part k) (ok k l)))

  -- such a part is as right at a later stage, and with other trades
  pub part_early : (g' : Stage) (b' : RoundLog) (q : Part) → PartOk g hi lo b q → PartOk g' hi lo b' q
  part_early g' b' absent k = tt
  part_early g' b' (waiting terms o) k = k
  part_early g' b' (claimed terms o s got) k = absurd (early k.0)

  -- and is still unclaimed
  pub early_part : (q : Part) → PartOk g hi lo b q → q ≡ unclaimed q
  early_part absent k = refl
  early_part (waiting terms o) k = refl
  early_part (claimed terms o s got) k = absurd (early k.0)

-- what a round holds of a token is within what all rounds hold of it
pub held_within : (mk : ℕ) (f : ℕ → Current) (b : RoundLog) (x : Side) → 0 < mk → mk < 4 → f mk ≡ running b → holds b x ≤ rounds_total f (offered x mk)
unfolding rounds_total
held_within zero f b x p l e = absurd (omega arith)
held_within (suc j) f b x p l e =
    let a : current_holds (suc j) (f (suc j)) (offered x (suc j)) ≡ holds_of (suc j) b (offered x (suc j)) = ap (λ (v : Current). current_holds (suc j) v (offered x (suc j))) e in
    omega (arith, term_le 3 j (λ n. current_holds (suc n) (f (suc n)) (offered x (suc j))) (omega arith), part x)
  where
    part : (x : Side) → holds b x ≤ holds_of (suc j) b (offered x (suc j))
    part Buy = omega (arith, only_same 0 (holds b Buy))
    part Sell = omega (arith, only_same (suc j) (holds b Sell))

-- ---- what the statement says of a round

pub round_pays : {g : Stage} {r : Round} {b : RoundLog} → RoundOk g r b → RoundPays b
round_pays {g} {r} {b} k =
    record {
      covered = λ x. omega (arith, k.held x);
      shares =
          λ j lj terms o s got e.
          let w = claimed_ok g r.hi.0 r.lo.0 b (b.part j) (k.parts j lj) terms o s got e in
          (w.s_is, w.got_is);
    }
