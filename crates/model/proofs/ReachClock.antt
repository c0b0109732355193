-- A round's blocks are not after the last block accepted, in every state that calls can leave.
use Prim.Native.Nat.{◌-◌, ◌<◌, ◌≤◌, ℕ}
use mathlib.Core.Bool.{Bool, cond, false, true}
use mathlib.Core.Path.{◌∙◌, ◌≡◌, refl, subst, sym}
use native.Mathlib.Decide.{ℕ_discrete}
use native.Mathlib.Nat.{le_refl}
use native.Mathlib.Omega.{arith}
use lib.Dec.{eqb}
use lib.ListN.{length}
use borrow.Author.Tests.{ltb-false, not-false}
use Rattle.model.specs.Bounds.{OrderBounds, TicketBounds}
use Rattle.model.specs.Calls.{bid_quote, bid_round, claimed_round, done_of, opened_round, paying_or_closed, settled_phase, tests_of, got_in, share_in}
use Rattle.model.specs.History.{History}
use Rattle.model.specs.Run.{Reachable, after_call, at_first, step_of}
use Rattle.model.specs.Sides.{gives, offered, side_of, takes, wanted}
use Rattle.model.specs.State.{blank_round, credit, debit, is_entered, last_block, order_in, phase, resting_or, round_in, ticket, to_residue, with_phase, with_ticket}
use Rattle.model.specs.declared.answer.Outcome.{Outcome}
use Rattle.model.specs.declared.call.Call.{Call}
use Rattle.model.specs.declared.state.Exchange.{Exchange}
use Rattle.model.specs.declared.state.Order.{Order}
use Rattle.model.specs.declared.state.Phase.{Phase}
use Rattle.model.specs.declared.state.Phase.TheVariants.{Auction, Closed, Collect, Paying}
use Rattle.model.specs.declared.state.Round.{Round}
use Rattle.pricing.specs.declared.Side.{Side}
use Rattle.ticket_set.specs.TicketSet.{count_of}
use Rattle.model.proofs.Frames.{inside}
use Rattle.model.proofs.Inv.{Inv, entered_is, resting_is}
use Rattle.model.proofs.Reach.{reachable_inv}
use Rattle.model.proofs.Reading.{phase_other, phase_same}
use Rattle.model.proofs.Steps.{step_apart}
use Rattle.model.proofs.WholeRun.{fresh_phase}
use Rattle.units.proofs.Decide.{Passed}

pub record Past (r : Round) (b : ℕ) : Type 0 where
  pub opened : r.opened.0 ≤ b
  pub start : r.start.0 ≤ b

pub record Clock (h : Exchange) : Type 0 where
  pub past : (n : ℕ) → 0 < n → n < 4 → Past (round_in (phase h n)) (last_block h)

later : {r : Round} {a b : ℕ} → a ≤ b → Past r a → Past r b
later l k = record { opened = omega (arith, k.opened); start = omega (arith, k.start) }

nought : (b : ℕ) → Past blank_round b
nought b = record { opened = omega arith; start = omega arith }

-- one market's phase changed, in a state g whose markets are h's, at a block b that is not before h's last
clock_set : (h g : Exchange) (mk b : ℕ) (p : Phase) → Clock h → ((n : ℕ) → phase g n ≡ phase h n) → 0 < mk → mk ≤ length g.markets
    → last_block h ≤ b → Past (round_in p) b → (n : ℕ) → 0 < n → n < 4 → Past (round_in (phase (with_phase g mk p) n)) b
clock_set h g mk b p k same pos lm l q n pn ln = go (ℕ_discrete n mk)
  where
    go : Dec (n ≡ mk) → Past (round_in (phase (with_phase g mk p) n)) b
    go (yes e) =
        subst (λ (a : ℕ). Past (round_in (phase (with_phase g mk p) a)) b) (sym e)
        (subst (λ (v : Phase). Past (round_in v) b) (sym (phase_same g mk p pos lm)) q)
    go (no d) =
        subst (λ (v : Phase). Past (round_in v) b) (sym (phase_other g mk p n d ∙ same n)) (later l (k.past n pn ln))

-- a settle or a claim leaves the round as it was opened, or closes the market
closing : (t : Bool) (r : Round) (b : ℕ) → Past r b → Past (round_in (cond t Closed (Paying r))) b
closing true r b q = nought b
closing false r b q = q

claim_clock : (h g : Exchange) (mk : ℕ) (r : Round) → Clock h → ((n : ℕ) → phase g n ≡ phase h n) → last_block g ≡ last_block h → 0 < mk → mk ≤ length g.markets
    → Past r (last_block h) → Clock (paying_or_closed g mk r)
claim_clock h g mk r k same e pos lm q = go (eqb (count_of r.tickets) 0)
  where
    l : last_block h ≤ last_block g
    l = omega arith

    go : (t : Bool) → Clock (cond t (with_phase (to_residue (to_residue g 0 r.quote.0) mk r.base.0) mk Closed) (with_phase g mk (Paying r)))
    go true = record { past = clock_set h (to_residue (to_residue g 0 r.quote.0) mk r.base.0) mk (last_block g) Closed k same pos lm l (nought (last_block g)) }
    go false = record { past = clock_set h g mk (last_block g) (Paying r) k same pos lm l (later l q) }

module _ (h : Exchange) (y : History) (i : Inv h y) (k : Clock h) where
  size : (mk : ℕ) → mk < 4 → mk ≤ length h.markets
  size mk l = omega (arith, i.sized.markets)

  done_clock : (c : Call) → Passed (tests_of h c) → Clock (done_of h c).exchange
  done_clock (Call.Deposit m t n) p = record { past = k.past }
  done_clock (Call.Withdraw m t n) p = record { past = k.past }
  done_clock (Call.Order a m mk sd lim n) p = record { past = k.past }
  done_clock (Call.Cancel a m) p = record { past = k.past }
  done_clock (Call.Open mk at r w len) p =
      let r3 = inside mk 1 3 p.0 in
      let l : last_block h ≤ at = ltb-false at (last_block h) p.1.1.1.0 in
      record { past = clock_set h h mk at (Collect (opened_round at r w len)) k (λ n. refl) (omega arith) (size mk (omega arith)) l (record { opened = le_refl at; start = omega arith }) }
  done_clock (Call.Enter a) p =
      let ha : a < 64 = omega (arith, ltb-false 63 a p.0) in
      let o : Order = order_in (ticket h a) in
      let ok : OrderBounds o = subst TicketBounds (resting_is (ticket h a) p.1.0 p.1.1.0) (i.ticket_bounds a ha) in
      let q = k.past o.market ok.market_low ok.market_high in
      record { past = clock_set h h o.market (last_block h) _ k (λ n. refl) ok.market_low (size o.market ok.market_high) (le_refl (last_block h)) (record { opened = q.opened; start = q.start }) }
  done_clock (Call.Match mk at) p =
      let r3 = inside mk 1 3 p.0 in
      let l : last_block h ≤ at = ltb-false at (last_block h) p.1.1.0 in
      let q = k.past mk (omega arith) (omega arith) in
      record { past = clock_set h h mk at _ k (λ n. refl) (omega arith) (size mk (omega arith)) l (record { opened = omega (arith, q.opened); start = le_refl at }) }
  done_clock (Call.Bid mk m at sd n bound) p =
      let r3 = inside mk 1 3 p.1.0 in
      let l : last_block h ≤ at = ltb-false at (last_block h) p.1.1.1.1.1.0 in
      let r : Round = round_in (phase h mk) in
      let x : Side = side_of sd in
      let qt : ℕ = bid_quote r x at n in
      let q = k.past mk (omega arith) (omega arith) in
      record { past = clock_set h (credit (debit h m (wanted x mk) (gives x n qt)) m (offered x mk) (takes x n qt)) mk at (Auction (bid_round r x n qt)) k (λ a. refl) (omega arith) (size mk (omega arith)) l (record { opened = omega (arith, q.opened); start = omega (arith, q.start) }) }
  done_clock (Call.Settle mk at) p =
      let r3 = inside mk 1 3 p.0 in
      let l : last_block h ≤ at = ltb-false at (last_block h) p.1.1.0 in
      let r : Round = round_in (phase h mk) in
      let q = later l (k.past mk (omega arith) (omega arith)) in
      record { past = clock_set h h mk at (settled_phase r) k (λ n. refl) (omega arith) (size mk (omega arith)) l (closing (eqb (count_of r.tickets) 0) r at q) }
  done_clock (Call.Claim a) p =
      let ha : a < 64 = omega (arith, ltb-false 63 a p.0) in
      let o : Order = order_in (ticket h a) in
      let ok : OrderBounds o = subst TicketBounds (entered_is (ticket h a) (not-false (is_entered (ticket h a)) p.1.1.0)) (i.ticket_bounds a ha) in
      let r : Round = round_in (phase h o.market) in
      let s : ℕ = share_in r o in
      let got : ℕ = got_in r o in
      let q = k.past o.market ok.market_low ok.market_high in
      claim_clock h (credit (with_ticket h a (resting_or o (o.offer.0 - s))) o.member (wanted o.side o.market) got) o.market
      (claimed_round r a o.side (o.offer.0 - s) got) k (λ n. refl) refl ok.market_low (size o.market ok.market_high)
      (record { opened = q.opened; start = q.start })
  done_clock (Call.Leave a m) p =
      let ha : a < 64 = omega (arith, ltb-false 63 a p.1.0) in
      let o : Order = order_in (ticket h a) in
      let ok : OrderBounds o = subst TicketBounds (entered_is (ticket h a) (not-false (is_entered (ticket h a)) p.1.1.1.0)) (i.ticket_bounds a ha) in
      let q = k.past o.market ok.market_low ok.market_high in
      record { past = clock_set h h o.market (last_block h) _ k (λ n. refl) ok.market_low (size o.market ok.market_high) (le_refl (last_block h)) (record { opened = q.opened; start = q.start }) }

  step_clock : (c : Call) → Clock (step_of h c).exchange
  step_clock c = step_apart h c (λ (out : Outcome). Clock out.exchange) (λ r. k) (done_clock c)

pub reachable_clock : {x : Exchange} → Reachable x → Clock x
reachable_clock at_first = record { past = λ n p l. subst (λ (v : Phase). Past (round_in v) 0) (sym (fresh_phase n l)) (nought 0) }
reachable_clock (after_call {x} l c) = step_clock x (reachable_inv l).0 (reachable_inv l).1 (reachable_clock l) c
