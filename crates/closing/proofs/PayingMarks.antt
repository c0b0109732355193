-- A market that is paying marks a ticket, in every state that calls can leave.
use Prim.Native.Nat.{◌-◌, ◌<◌, ◌≤◌, ℕ}
use mathlib.Core.Bool.{Bool, cond, false, true}
use mathlib.Core.Path.{◌∙◌, ◌≡◌, refl, subst, sym}
use native.Mathlib.Decide.{ℕ_discrete}
use native.Mathlib.Omega.{arith}
use lib.Dec.{eqb}
use lib.ListN.{length}
use borrow.Author.Tests.{eq-eqb, ltb-false, not-false}
use Rattle.units.proofs.Cases.{false_not_true}
use Rattle.units.proofs.Decide.{Passed}
use Rattle.ticket_set.specs.TicketSet.{count_of}
use Rattle.model.specs.Bounds.{OrderBounds, TicketBounds}
use Rattle.model.specs.Calls.{bid_quote, bid_round, claimed_round, done_of, opened_round, paying_or_closed, settled_phase, tests_of, got_in, share_in}
use Rattle.model.specs.History.{History}
use Rattle.model.specs.Run.{Reachable, after_call, at_first, step_of}
use Rattle.model.specs.Sides.{gives, offered, side_of, takes, wanted}
use Rattle.model.specs.State.{credit, debit, is_entered, order_in, phase, resting_or, round_in, ticket, to_residue, with_phase, with_ticket}
use Rattle.model.specs.declared.answer.Outcome.{Outcome}
use Rattle.model.specs.declared.call.Call.{Call}
use Rattle.model.specs.declared.state.Exchange.{Exchange}
use Rattle.model.specs.declared.state.Order.{Order}
use Rattle.model.specs.declared.state.Phase.{Phase}
use Rattle.model.specs.declared.state.Phase.TheVariants.{Auction, Closed, Collect, Paying}
use Rattle.model.specs.declared.state.Round.{Round}
use Rattle.pricing.specs.declared.Side.{Side}
use Rattle.model.proofs.Frames.{inside}
use Rattle.model.proofs.Inv.{Inv, entered_is, resting_is}
use Rattle.model.proofs.Reach.{reachable_inv}
use Rattle.model.proofs.Reading.{phase_other, phase_same}
use Rattle.model.proofs.Steps.{step_apart}
use Rattle.model.proofs.WholeRun.{fresh_phase}

-- of a phase
abbrev pub Marked : Phase → Type 0
Marked Closed = Unit {0}
Marked (Collect r) = Unit {0}
Marked (Auction r) = Unit {0}
Marked (Paying r) = count_of r.tickets ≡ 0 → ⊥

pub record AllMarked (h : Exchange) : Type 0 where
  pub marked : (n : ℕ) → 0 < n → n < 4 → Marked (phase h n)

-- one market's phase changed, in a state g whose markets are h's
marked_set : (h g : Exchange) (mk : ℕ) (p : Phase) → AllMarked h → ((n : ℕ) → phase g n ≡ phase h n) → 0 < mk → mk ≤ length g.markets
    → Marked p → AllMarked (with_phase g mk p)
marked_set h g mk p k same pos lm q = record { marked = λ n pn ln. go n pn ln (ℕ_discrete n mk) }
  where
    go : (n : ℕ) → 0 < n → n < 4 → Dec (n ≡ mk) → Marked (phase (with_phase g mk p) n)
    go n pn ln (yes e) = subst (λ (a : ℕ). Marked (phase (with_phase g mk p) a)) (sym e) (subst Marked (sym (phase_same g mk p pos lm)) q)
    go n pn ln (no d) = subst Marked (sym (phase_other g mk p n d ∙ same n)) (k.marked n pn ln)

-- a settle or a claim leaves a market paying only where a ticket is marked
none_counted : (c : ℕ) → eqb c 0 ≡ false → c ≡ 0 → ⊥
none_counted c e z = false_not_true (sym e ∙ eq-eqb c 0 z)

settled_marked : (r : Round) → Marked (settled_phase r)
settled_marked r = go (eqb (count_of r.tickets) 0) refl
  where
    go : (t : Bool) → eqb (count_of r.tickets) 0 ≡ t → Marked (cond t Closed (Paying r))
    go true e = tt
    go false e = none_counted (count_of r.tickets) e

claim_marked : (h g : Exchange) (mk : ℕ) (r : Round) → AllMarked h → ((n : ℕ) → phase g n ≡ phase h n) → 0 < mk → mk ≤ length g.markets
    → AllMarked (paying_or_closed g mk r)
claim_marked h g mk r k same pos lm = go (eqb (count_of r.tickets) 0) refl
  where
    go : (t : Bool) → eqb (count_of r.tickets) 0 ≡ t
        → AllMarked (cond t (with_phase (to_residue (to_residue g 0 r.quote.0) mk r.base.0) mk Closed) (with_phase g mk (Paying r)))
    go true e = marked_set h (to_residue (to_residue g 0 r.quote.0) mk r.base.0) mk Closed k same pos lm tt
    go false e = marked_set h g mk (Paying r) k same pos lm (none_counted (count_of r.tickets) e)

module _ (h : Exchange) (y : History) (i : Inv h y) (k : AllMarked h) where
  size : (mk : ℕ) → mk < 4 → mk ≤ length h.markets
  size mk l = omega (arith, i.sized.markets)

  done_marked : (c : Call) → Passed (tests_of h c) → AllMarked (done_of h c).exchange
  done_marked (Call.Deposit m t n) p = record { marked = k.marked }
  done_marked (Call.Withdraw m t n) p = record { marked = k.marked }
  done_marked (Call.Order a m mk sd lim n) p = record { marked = k.marked }
  done_marked (Call.Cancel a m) p = record { marked = k.marked }
  done_marked (Call.Open mk at r w len) p =
      let r3 = inside mk 1 3 p.0 in
      record { marked = (marked_set h h mk (Collect (opened_round at r w len)) k (λ n. refl) (omega arith) (size mk (omega arith)) tt).marked }
  done_marked (Call.Enter a) p =
      let ha : a < 64 = omega (arith, ltb-false 63 a p.0) in
      let o : Order = order_in (ticket h a) in
      let ok : OrderBounds o = subst TicketBounds (resting_is (ticket h a) p.1.0 p.1.1.0) (i.ticket_bounds a ha) in
      record { marked = (marked_set h h o.market (Collect _) k (λ n. refl) ok.market_low (size o.market ok.market_high) tt).marked }
  done_marked (Call.Match mk at) p =
      let r3 = inside mk 1 3 p.0 in
      record { marked = (marked_set h h mk (Auction _) k (λ n. refl) (omega arith) (size mk (omega arith)) tt).marked }
  done_marked (Call.Bid mk m at sd n bound) p =
      let r3 = inside mk 1 3 p.1.0 in
      let r : Round = round_in (phase h mk) in
      let x : Side = side_of sd in
      let qt : ℕ = bid_quote r x at n in
      record { marked = (marked_set h (credit (debit h m (wanted x mk) (gives x n qt)) m (offered x mk) (takes x n qt)) mk (Auction (bid_round r x n qt)) k (λ a. refl) (omega arith) (size mk (omega arith)) tt).marked }
  done_marked (Call.Settle mk at) p =
      let r3 = inside mk 1 3 p.0 in
      let r : Round = round_in (phase h mk) in
      record { marked = (marked_set h h mk (settled_phase r) k (λ n. refl) (omega arith) (size mk (omega arith)) (settled_marked r)).marked }
  done_marked (Call.Claim a) p =
      let ha : a < 64 = omega (arith, ltb-false 63 a p.0) in
      let o : Order = order_in (ticket h a) in
      let ok : OrderBounds o = subst TicketBounds (entered_is (ticket h a) (not-false (is_entered (ticket h a)) p.1.1.0)) (i.ticket_bounds a ha) in
      let r : Round = round_in (phase h o.market) in
      let s : ℕ = share_in r o in
      let got : ℕ = got_in r o in
      claim_marked h (credit (with_ticket h a (resting_or o (o.offer.0 - s))) o.member (wanted o.side o.market) got) o.market
      (claimed_round r a o.side (o.offer.0 - s) got) k (λ n. refl) ok.market_low (size o.market ok.market_high)
  done_marked (Call.Leave a m) p =
      let ha : a < 64 = omega (arith, ltb-false 63 a p.1.0) in
      let o : Order = order_in (ticket h a) in
      let ok : OrderBounds o = subst TicketBounds (entered_is (ticket h a) (not-false (is_entered (ticket h a)) p.1.1.1.0)) (i.ticket_bounds a ha) in
      record { marked = (marked_set h h o.market (Collect _) k (λ n. refl) ok.market_low (size o.market ok.market_high) tt).marked }

  step_marked : (c : Call) → AllMarked (step_of h c).exchange
  step_marked c = step_apart h c (λ (out : Outcome). AllMarked out.exchange) (λ r. k) (done_marked c)

pub reachable_marked : {x : Exchange} → Reachable x → AllMarked x
reachable_marked at_first = record { marked = λ n p l. subst Marked (sym (fresh_phase n l)) tt }
reachable_marked (after_call {x} l c) = step_marked x (reachable_inv l).0 (reachable_inv l).1 (reachable_marked l) c
