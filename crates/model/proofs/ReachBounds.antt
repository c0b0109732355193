-- Every state that calls can leave is bounded as the code needs it.
use Prim.Native.Nat.{◌+◌, ◌-◌, ◌<◌, ◌≤◌, suc, zero, ℕ}
use mathlib.Core.Bool.{Bool, cond}
use mathlib.Core.Path.{◌∙◌, ◌≡◌, ap, ap₂, refl, subst, sym}
use native.Mathlib.Omega.{arith}
use borrow.Author.Tests.{eq-eqb}
use Rattle.model.specs.Calls.{got_in, share_in}
use Rattle.model.specs.Bounds.{AuctionBounds, ClaimBounds, CollectBounds, EnteredBounds, OrderBounds, PhaseBounds, ReachableBounded, RoundBounds, TicketBounds, held_in, held_of}
use Rattle.model.specs.History.{Current, History, OrderTerms, Part, RoundLog, Stage, absent, auctioning, claimed, collecting, holds, idle, is_waiting, log_of, running, taken, waiting, went_out, when_same}
use Rattle.model.specs.Sides.{other}
use Rattle.model.specs.State.{balance, is_closed, phase, residue, round_in, supply, ticket, totals_of}
use Rattle.model.specs.WholeRun.{current_holds, entered_in, holds_of, order_with, part_in, resting, resting_in, resting_total, rounds_total, terms_of, unclaimed}
use Rattle.model.specs.declared.state.Exchange.{Exchange}
use Rattle.model.specs.declared.state.Order.{Order}
use Rattle.model.specs.declared.state.Phase.{Phase}
use Rattle.model.specs.declared.state.Phase.TheVariants.{Auction, Closed, Collect, Paying}
use Rattle.model.specs.declared.state.Round.{Round}
use Rattle.model.specs.declared.state.TicketState.{TicketState}
use Rattle.model.specs.declared.state.TicketState.TheVariants.{Entered, Resting}
use Rattle.pricing.specs.declared.Side.{Side}
use Rattle.pricing.specs.declared.Side.TheVariants.{Buy, Sell}
use Rattle.ticket_set.specs.TicketSet.{bit}
use Rattle.units.specs.Sums.{only}
use Rattle.ledger.proofs.Laws.{balances_within}
use Rattle.model.proofs.Inv.{Inv, MarketOk, Quiet, RoundOk, in_supply, running_is}
use Rattle.model.proofs.KeepsClaim.{moved_le, s_le, waiting_is}
use Rattle.model.proofs.Reach.{reachable_inv}
use Rattle.model.proofs.ReachClock.{reachable_clock}
use Rattle.model.proofs.Rounds.{offer_within, went_zero}
use Rattle.model.proofs.TicketOf.{entered_of}
use Rattle.ticket_set.proofs.Laws.{bit_of_empty}
use Rattle.units.proofs.Sums.{only_zero, term_le}

-- what a round holds, by state and by history
held_is : {g : Stage} {r : Round} {b : RoundLog} → RoundOk g r b → (x : Side) → holds b x ≡ held_in r x
held_is k x = omega (arith, k.held x)

held_of_is : (n t : ℕ) {g : Stage} {r : Round} {b : RoundLog} → RoundOk g r b → held_of n r t ≡ holds_of n b t
held_of_is n t k = ap₂ (λ u v. only 0 u t + only n v t) (sym (held_is k Buy)) (sym (held_is k Sell))

held_of_phase : (n t : ℕ) (p : Phase) (c : Current) → MarketOk p c → held_of n (round_in p) t ≡ current_holds n c t
held_of_phase n t Closed idle k = omega (arith, only_zero 0 t, only_zero n t)
held_of_phase n t Closed (running b) k = absurd k
held_of_phase n t (Collect r) idle k = absurd k
held_of_phase n t (Collect r) (running b) k = held_of_is n t k.0
held_of_phase n t (Auction r) idle k = absurd k
held_of_phase n t (Auction r) (running b) k = held_of_is n t k
held_of_phase n t (Paying r) idle k = absurd k
held_of_phase n t (Paying r) (running b) k = held_of_is n t k

-- one round of three
round_le : (f : ℕ → Current) (n t : ℕ) → 0 < n → n < 4 → current_holds n (f n) t ≤ rounds_total f t
unfolding rounds_total
round_le f zero t p l = absurd (omega arith)
round_le f (suc j) t p l = term_le 3 j (λ a. current_holds (suc a) (f (suc a)) t) (omega arith)

-- one ticket of 64
resting_le : (x : Exchange) (k t : ℕ) → k < 64 → resting_in (ticket x k) t ≤ resting x t
unfolding resting_total
resting_le x k t l = term_le 64 k (λ j. resting_in (ticket x j) t) l

-- ---- rounds

round_bounds : {g : Stage} {r : Round} {b : RoundLog} → RoundOk g r b → RoundBounds r
round_bounds k =
    record {
      terms = k.terms;
      paid = λ x. omega (arith, k.total x, k.paid x, k.within x);
      total = λ x. omega (arith, k.total x, k.small_total x);
      got = λ x. omega (arith, k.got x, k.small_got x);
      tickets = k.marks_small;
    }

collect_bounds : {r : Round} {b : RoundLog} → RoundOk collecting r b → Quiet b → CollectBounds r
collect_bounds {r} {b} k q =
    record {
      held = λ x. omega (arith, k.held x, k.total x, went_zero collecting (λ e. e) r.hi.0 r.lo.0 b k.parts x, q.taken_zero x, q.given_zero x);
      paid = λ x. omega (arith, k.paid x, q.traded_zero x, q.taken_zero x);
      got = λ x. omega (arith, k.got x, q.traded_zero (other x), q.given_zero (other x));
    }

-- in auction, one side at a time
unsold_side : (r : Round) (b : RoundLog) → RoundOk auctioning r b → (x : Side) → went_out b x ≡ taken b x → (totals_of r x).total.0 ≤ (totals_of r x).paid.0 + held_in r x
unsold_side r b k x w = omega (arith, k.held x, k.total x, k.paid x)

got_side : (r : Round) (b : RoundLog) → RoundOk auctioning r b → (x : Side) → went_out b (other x) ≡ taken b (other x) → (totals_of r x).got.0 ≤ held_in r (other x)
got_side r b k x w = omega (arith, k.held (other x), k.got x, k.within (other x))

auction_bounds : {r : Round} {b : RoundLog} → RoundOk auctioning r b → AuctionBounds r
auction_bounds {r} {b} k = record { unsold = unsold1; got = got1 }
  where
    went : (x : Side) → went_out b x ≡ taken b x
    went x = went_zero auctioning (λ e. e) r.hi.0 r.lo.0 b k.parts x

    unsold1 : (x : Side) → (totals_of r x).total.0 ≤ (totals_of r x).paid.0 + held_in r x
    unsold1 x = unsold_side r b k x (went x)

    got1 : (x : Side) → (totals_of r x).got.0 ≤ held_in r (other x)
    got1 x = got_side r b k x (went (other x))

phase_ok : (p : Phase) (c : Current) → MarketOk p c → PhaseBounds p
phase_ok Closed c k = tt
phase_ok (Collect r) idle k = absurd k
phase_ok (Collect r) (running b) k = (round_bounds k.0, collect_bounds k.0 k.1)
phase_ok (Auction r) idle k = absurd k
phase_ok (Auction r) (running b) k = (round_bounds k, auction_bounds k)
phase_ok (Paying r) idle k = absurd k
phase_ok (Paying r) (running b) k = round_bounds k

-- ---- tickets in the rounds' sets

-- the sets of a market's round, by its parts
marks_in : (p : Phase) (c : Current) → MarketOk p c → (k : ℕ) → k < 64 → bit (round_in p).tickets k ≡ is_waiting (part_in c k)
marks_in Closed idle m k l = bit_of_empty k
marks_in Closed (running b) m k l = absurd m
marks_in (Collect r) idle m k l = absurd m
marks_in (Collect r) (running b) m k l = m.0.marks k l
marks_in (Auction r) idle m k l = absurd m
marks_in (Auction r) (running b) m k l = m.marks k l
marks_in (Paying r) idle m k l = absurd m
marks_in (Paying r) (running b) m k l = m.marks k l

-- and what a part of it put in is within the total of its side
total_in : (p : Phase) (c : Current) → MarketOk p c → (k : ℕ) → k < 64 → (terms : OrderTerms) (o : ℕ) → part_in c k ≡ waiting terms o
    → o ≤ (totals_of (round_in p) terms.side).total.0
total_in p idle m k l terms o e = absurd (let z : ◌≡◌ {A = ℕ} 0 1 = cc in omega arith)
total_in Closed (running b) m k l terms o e = absurd m
total_in (Collect r) (running b) m k l terms o e = omega (arith, m.0.total terms.side, offer_within b k l terms o e)
total_in (Auction r) (running b) m k l terms o e = omega (arith, m.total terms.side, offer_within b k l terms o e)
total_in (Paying r) (running b) m k l terms o e = omega (arith, m.total terms.side, offer_within b k l terms o e)

not_waiting : (q : Part) → unclaimed q ≡ absent → is_waiting q ≡ 0
not_waiting absent e = refl
not_waiting (waiting terms n) e = absurd (let z : ◌≡◌ {A = ℕ} 0 1 = cc in omega arith)
not_waiting (claimed terms n s got) e = refl

-- what a claim moves out of its own side's token and out of the other's
refund_of : (side : Side) (a b : ℕ) → a ≤ when_same side side a + when_same (other side) side b
refund_of Buy a b = omega arith
refund_of Sell a b = omega arith

payment_of : (side : Side) (a b : ℕ) → b ≤ when_same (other side) side a + when_same (other (other side)) side b
payment_of Buy a b = omega arith
payment_of Sell a b = omega arith

-- a ticket whose part waits in a market's round is entered with an order of that market
order_of : (t : TicketState) (mk : ℕ) (p : Part) → is_waiting p ≡ 1 → entered_in t mk ≡ unclaimed p → (o : Order) × (o.market ≡ mk) × (t ≡ Entered o)
order_of t mk absent w e = absurd (omega arith)
order_of t mk (waiting terms o) w e = (order_with terms mk o, refl, entered_of t terms mk o e)
order_of t mk (claimed terms o s got) w e = absurd (omega arith)

module _ (x : Exchange) (y : History) (i : Inv x y) where
  pub marked_order : (n : ℕ) → 0 < n → n < 4 → (k : ℕ) → k < 64 → bit (round_in (phase x n)).tickets k ≡ 1 → (o : Order) × (o.market ≡ n) × (ticket x k ≡ Entered o)
  marked_order n p q k l e =
      order_of (ticket x k) n (part_in (y.rounds n) k) (sym (marks_in (phase x n) (y.rounds n) (i.markets n p q) k l) ∙ e) (i.tickets.places_are k l n p q)

  rests1 : (k : ℕ) → k < 64 → (o : Order) → ticket x k ≡ Resting o → bit (round_in (phase x o.market)).tickets k ≡ 0
  rests1 k l o e =
      let ok : OrderBounds o = subst TicketBounds e (i.ticket_bounds k l) in
      marks_in (phase x o.market) (y.rounds o.market) (i.markets o.market ok.market_low ok.market_high) k l
      ∙ not_waiting (part_in (y.rounds o.market) k) (sym (i.tickets.places_are k l o.market ok.market_low ok.market_high) ∙ ap (λ t. entered_in t o.market) e)

  -- a ticket that entered waits in its market's round, whatever its phase
  entered1 : (k : ℕ) → k < 64 → (o : Order) → ticket x k ≡ Entered o → EnteredBounds (round_in (phase x o.market)) k o
  entered1 k l o e =
      let ok : OrderBounds o = subst TicketBounds e (i.ticket_bounds k l) in
      let c : Current = y.rounds o.market in
      let mk = i.markets o.market ok.market_low ok.market_high in
      let q : part_in c k ≡ waiting (terms_of o) o.offer.0 =
      waiting_is (part_in c k) (terms_of o) o.offer.0
      (sym (i.tickets.places_are k l o.market ok.market_low ok.market_high)
      ∙ ap (λ t. entered_in t o.market) e
      ∙ ap (λ (v : Bool). cond v (waiting (terms_of o) o.offer.0) absent) (eq-eqb o.market o.market refl)) in
      record {
        member = marks_in (phase x o.market) c mk k l ∙ ap is_waiting q;
        offer = total_in (phase x o.market) c mk k l (terms_of o) o.offer.0 q;
      }

  claims1 : (k : ℕ) → k < 64 → (o : Order) (r : Round) → ticket x k ≡ Entered o → phase x o.market ≡ Paying r → ClaimBounds r o (share_in r o) (got_in r o)
  claims1 k l o r et ep =
      let ok : OrderBounds o = subst TicketBounds et (i.ticket_bounds k l) in
      let b : RoundLog = log_of (y.rounds o.market) in
      let er : y.rounds o.market ≡ running b =
      running_is (phase x o.market) (y.rounds o.market) (ap is_closed ep) (i.markets o.market ok.market_low ok.market_high) in
      let mv = moved_le x y i k l o r b et ep er in
      record {
        paid = s_le x y i k l o r b et ep er;
        refund = omega (arith, mv o.side, refund_of o.side (o.offer.0 - share_in r o) (got_in r o));
        payment = omega (arith, mv (other o.side), payment_of o.side (o.offer.0 - share_in r o) (got_in r o));
      }

  within1 : (m k n t : ℕ) → m < 16 → k < 64 → 0 < n → n < 4 → t < 4
      → balance x m t + resting_in (ticket x k) t + held_of n (round_in (phase x n)) t + residue x t ≤ supply x t
  within1 m k n t hm hk pn ln lt =
      omega (
        arith,
        balances_within x.ledger m t hm,
        resting_le x k t hk,
        held_of_phase n t (phase x n) (y.rounds n) (i.markets n pn ln),
        round_le y.rounds n t pn ln,
        in_supply i t lt,
      )

pub reachable_bounded : ReachableBounded
reachable_bounded x l =
    let y = (reachable_inv l).0 in
    let i = (reachable_inv l).1 in
    let c = reachable_clock l in
    record {
      rows = i.sized.shaped;
      supplies = i.sized.supplies;
      residues = i.sized.residues;
      tickets = i.sized.tickets;
      markets = i.sized.markets;
      within = within1 x y i;
      small = i.bounded;
      ticket_bounds = i.ticket_bounds;
      phase_bounds = λ n p q. phase_ok (phase x n) (y.rounds n) (i.markets n p q);
      rests = rests1 x y i;
      marked = marked_order x y i;
      entered = entered1 x y i;
      claims = claims1 x y i;
      opened = λ n p q. (c.past n p q).opened;
      started = λ n p q. (c.past n p q).start;
    }
