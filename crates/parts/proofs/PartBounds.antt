-- The parts of a bounded state are bounded as the work on them asks.
use Prim.Native.Nat.{ℕ, ◌+◌, ◌≤◌, ◌<◌}
use mathlib.Core.Path.{◌≡◌, refl, sym, ap, subst, ◌∙◌}
use native.Mathlib.Omega.{arith}
use Rattle.units.specs.Counts.{largest}
use Rattle.units.proofs.Sums.{only_same}
use Rattle.pricing.specs.declared.Side.{Side}
use Rattle.pricing.specs.declared.Side.TheVariants.{Buy, Sell}
use Rattle.ledger.specs.Balances.{cell_of, row_of}
use Rattle.ledger.proofs.Laws.{rows_taken}
use Rattle.model.specs.declared.state.Order.{Order}
use Rattle.model.specs.declared.state.TicketState.{TicketState}
use Rattle.model.specs.declared.state.TicketState.TheVariants.{Free, Resting, Entered}
use Rattle.model.specs.declared.state.Round.{Round}
use Rattle.model.specs.declared.state.Phase.{Phase}
use Rattle.model.specs.declared.state.Phase.TheVariants.{Collect, Auction, Paying}
use Rattle.model.specs.declared.state.Exchange.{Exchange}
use Rattle.model.specs.Sides.{other, offered, wanted}
use Rattle.model.specs.State.{balance, supply, residue, ticket, phase, round_in, market_at}
use Rattle.model.specs.WholeRun.{resting_in}
use Rattle.model.specs.Bounds.{Bounded, EnteredBounds, OrderBounds, TicketBounds, PhaseBounds, held_in, held_of}
use Rattle.parts.specs.Asked.{BankBounds, CancelBounds, EnterBounds, LeaveBounds, MatchBounds, BidBounds, PayBounds}
use Rattle.parts.specs.Parts.{ticket_market, ticket_member, supply_at, residue_at, ticket_at}
use Rattle.model.proofs.Frames.{offered_lt}

-- a ticket's places are places of the state
ticket_in : (s : TicketState) → TicketBounds s → (0 < ticket_market s) × (ticket_market s < 4) × (ticket_member s < 16)
ticket_in Free b = (omega arith, omega arith, omega arith)
ticket_in (Resting o) b = (b.market_low, b.market_high, b.member)
ticket_in (Entered o) b = (b.market_low, b.market_high, b.member)

-- a round holds what one of its sides offers
held_le : (r : Round) (side : Side) (n : ℕ) → 0 < n → held_in r side ≤ held_of n r (offered side n)
held_le r Buy n pos = omega (arith, only_same 0 (held_in r Buy))
held_le r Sell n pos = omega (arith, only_same n (held_in r Sell))

module _ (x : Exchange) (b : Bounded x) where
  pub ticket_places : (k : ℕ) → k < 64 → (0 < ticket_market (ticket x k)) × (ticket_market (ticket x k) < 4) × (ticket_member (ticket x k) < 16)
  ticket_places k hk = ticket_in (ticket x k) (b.ticket_bounds k hk)

  -- a balance, a round's holding and the residue of one token
  beside : (m n : ℕ) → m < 16 → 0 < n → n < 4 → (side : Side)
      → cell_of (row_of x.ledger m) (offered side n) + held_in (round_in (phase x n)) side + residue x (offered side n) ≤ largest
  beside m n hm pos h side =
      omega (
        arith,
        (rows_taken x.ledger m).cells (offered side n),
        b.within m 0 n (offered side n) hm (omega arith) pos h (offered_lt side n h),
        b.small (offered side n) (offered_lt side n h),
        held_le (round_in (phase x n)) side n pos,
      )

  pub bank_bounds : (m t : ℕ) → m < 16 → t < 4 → BankBounds (row_of x.ledger m) (supply_at x t) t
  bank_bounds m t hm ht = (ht, omega (arith, (rows_taken x.ledger m).cells t, b.within m 0 1 t hm (omega arith) (omega arith) (omega arith) ht))

  -- a resting ticket's offer, and a balance and a round's holding of its token
  rest_beside : (k : ℕ) → k < 64 → (o : Order) → ticket x k ≡ Resting o → (m : ℕ) → m < 16
      → cell_of (row_of x.ledger m) (offered o.side o.market) + o.offer.0 + held_in (round_in (phase x o.market)) o.side ≤ largest
  rest_beside k hk o e m hm =
      let ok : OrderBounds o = subst TicketBounds e (b.ticket_bounds k hk) in
      let t : ℕ = offered o.side o.market in
      let ht : t < 4 = offered_lt o.side o.market ok.market_high in
      let w : balance x m t + resting_in (Resting o) t + held_of o.market (round_in (phase x o.market)) t + residue x t ≤ supply x t =
      subst (λ (s : TicketState). balance x m t + resting_in s t + held_of o.market (round_in (phase x o.market)) t + residue x t ≤ supply x t) e
      (b.within m k o.market t hm hk ok.market_low ok.market_high ht) in
      omega (
        arith,
        (rows_taken x.ledger m).cells t,
        w,
        only_same t o.offer.0,
        b.small t ht,
        held_le (round_in (phase x o.market)) o.side o.market ok.market_low,
      )

  pub cancel_bounds : (m k : ℕ) → m < 16 → k < 64 → CancelBounds (row_of x.ledger m) (ticket_at x k)
  cancel_bounds m k hm hk o e =
      ((subst TicketBounds e (b.ticket_bounds k hk)).market_high, omega (arith, rest_beside k hk o e m hm))

  pub enter_bounds : (k : ℕ) → k < 64 → EnterBounds (ticket_at x k) (market_at x.markets (ticket_market (ticket x k)))
  enter_bounds k hk o r e ep =
      let ok : OrderBounds o = subst TicketBounds e (b.ticket_bounds k hk) in
      let ep1 : phase x o.market ≡ Collect r = sym (ap (λ (s : TicketState). phase x (ticket_market s)) e) ∙ ep in
      let cb = subst PhaseBounds ep1 (b.phase_bounds o.market ok.market_low ok.market_high) in
      let w = rest_beside k hk o e 0 (omega arith) in
      let h : held_in (round_in (phase x o.market)) o.side ≡ held_in r o.side = ap (λ (p : Phase). held_in (round_in p) o.side) ep1 in
      (omega (arith, w, h, cb.1.held o.side), omega (arith, w, h))

  -- in its market's phase
  entered_there : (k : ℕ) → k < 64 → (o : Order) (p : Phase) → ticket x k ≡ Entered o → phase x o.market ≡ p → EnteredBounds (round_in p) k o
  entered_there k hk o p e ep = subst (λ (q : Phase). EnteredBounds (round_in q) k o) ep (b.entered k hk o e)

  pub leave_bounds : (k : ℕ) → k < 64 → LeaveBounds (ticket_at x k) (market_at x.markets (ticket_market (ticket x k)))
  leave_bounds k hk o r e ep =
      let ok : OrderBounds o = subst TicketBounds e (b.ticket_bounds k hk) in
      let ep1 : phase x o.market ≡ Collect r = sym (ap (λ (s : TicketState). phase x (ticket_market s)) e) ∙ ep in
      let cb = subst PhaseBounds ep1 (b.phase_bounds o.market ok.market_low ok.market_high) in
      let l = (entered_there k hk o (Collect r) e ep1).offer in
      (l, omega (arith, l, cb.1.held o.side))

  pub match_bounds : (n : ℕ) → 0 < n → n < 4 → MatchBounds (market_at x.markets n)
  match_bounds n pos h r e =
      let t = (subst PhaseBounds e (b.phase_bounds n pos h)).0.terms in
      omega (arith, t.low, t.order_low)

  pub bid_bounds : (n m : ℕ) → 0 < n → n < 4 → m < 16 → (r : Round) → phase x n ≡ Auction r → BidBounds r (row_of x.ledger m) x.last n
  bid_bounds n m pos h hm r e =
      let p = subst PhaseBounds e (b.phase_bounds n pos h) in
      record {
        round = p.0;
        auction = p.1;
        started = omega (arith, b.started n pos h, ap (λ (q : Phase). (round_in q).start.0) e);
        market = h;
        cells = (rows_taken x.ledger m).shaped b.rows hm;
        beside = λ side. omega (arith, beside m n hm pos h side, ap (λ (q : Phase). held_in (round_in q) side) e);
      }

  pub pay_bounds : (k : ℕ) → k < 64 → (o : Order) (r : Round) → ticket x k ≡ Entered o → phase x o.market ≡ Paying r
      → PayBounds o r (row_of x.ledger o.member) (residue_at x 0) (residue_at x o.market) k
  pay_bounds k hk o r et ep =
      let ok : OrderBounds o = subst TicketBounds et (b.ticket_bounds k hk) in
      let held : (side : Side) → held_in (round_in (phase x o.market)) side ≡ held_in r side = λ side. ap (λ (q : Phase). held_in (round_in q) side) ep in
      let w : (side : Side) → cell_of (row_of x.ledger o.member) (offered side o.market) + held_in r side + residue x (offered side o.market) ≤ largest =
      λ side. omega (arith, beside o.member o.market ok.member ok.market_low ok.market_high side, held side) in
      record {
        order = ok;
        round = subst PhaseBounds ep (b.phase_bounds o.market ok.market_low ok.market_high);
        entered = entered_there k hk o (Paying r) et ep;
        claim = b.claims k hk o r et ep;
        balance_fits = omega (arith, subst (λ (t : ℕ). cell_of (row_of x.ledger o.member) t + held_in r (other o.side) + residue x t ≤ largest) (wants o.side o.market) (w (other o.side)));
        quote_fits = omega (arith, w Buy);
        base_fits = omega (arith, w Sell);
      }
    where
      wants : (side : Side) (n : ℕ) → offered (other side) n ≡ wanted side n
      wants Buy n = refl
      wants Sell n = refl
