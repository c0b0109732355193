-- A ticket that enters a round which collects, or leaves it, keeps the invariant: one law for both ways.
use Prim.Native.Nat.{◌+◌, ◌<◌, ◌^◌, ◌≤◌, ℕ}
use mathlib.Core.Bool.{Bool, cond}
use mathlib.Core.Path.{◌∙◌, ◌≡◌, ap, refl, subst, subst₂, sym}
use native.Mathlib.Omega.{arith}
use lib.ListN.{length}
use borrow.Author.Tests.{eq-eqb, ltb-false, ne_eqb, not-false}
use Rattle.model.specs.Bounds.{OrderBounds, TicketBounds, held_in}
use Rattle.model.specs.Calls.{enter_done, enter_tests, entered_round, leave_done, leave_tests, left_round}
use Rattle.model.specs.History.{Current, G, History, Part, PlacedOrder, RoundLog, T, absent, came_in, changed_at, collecting, holds, is_waiting, log_of, market_in, moved_out, offer_on, part_of, put, running, waiting, went_out, when_same, with_accepted, with_event, with_part, with_round}
use Rattle.model.specs.Sides.{offered, other}
use Rattle.model.specs.State.{is_closed, is_collect, is_entered, order_in, phase, residue, round_in, ticket, totals_of, with_held, with_phase, with_sides, with_ticket, with_tickets}
use Rattle.model.specs.WholeRun.{balances, current_holds, entered_in, holds_of, part_in, placed_in, resting, resting_in, rounds_total, terms_of, unclaimed}
use Rattle.model.specs.declared.state.Exchange.{Exchange}
use Rattle.model.specs.declared.state.Order.{Order}
use Rattle.model.specs.declared.state.Phase.{Phase}
use Rattle.model.specs.declared.state.Phase.TheVariants.{Collect}
use Rattle.model.specs.declared.state.Round.{Round}
use Rattle.model.specs.declared.state.TicketState.{TicketState}
use Rattle.model.specs.declared.state.TicketState.TheVariants.{Entered, Resting}
use Rattle.pricing.specs.declared.Side.{Side}
use Rattle.pricing.specs.declared.Side.TheVariants.{Buy, Sell}
use Rattle.pricing.specs.declared.Totals.{Totals}
use Rattle.ticket_set.specs.TicketSet.{bit}
use Rattle.units.specs.Counts.{largest}
use Rattle.units.specs.Sums.{only}
use Rattle.model.proofs.Frames.{bounds_set, each_ticket, markets_set, offered_lt, offered_split, places_part}
use Rattle.model.proofs.Inv.{Inv, MarketOk, PartOk, Quiet, RoundOk, changed_at_lem, collect_is, entered_is, resting_is, running_is}
use Rattle.model.proofs.Reading.{Sized, in_rounds_set, put_each, put_same, resting_set, sized_phase, sized_ticket}
use Rattle.model.proofs.Rounds.{T_part, came_in_part, early_part, held_within, marks_part, offer_within, part_early, went_zero, went_out_part}
use Rattle.ticket_set.proofs.Bits.{bit_inserted_other, bit_inserted_same, bit_removed_other, bit_removed_same, inserted_lt, removed_lt}
use Rattle.units.proofs.Decide.{Passed}
use Rattle.units.proofs.Sums.{only_add, only_zero}
use Rattle.model.specs.declared.call.Call.TheVariants as Call

-- ---- a ticket with an order, at rest and in its market's round

pub data Place : Type 0 where
  at_rest in_round : Place

abbrev pub state_at : Place → Order → TicketState
state_at at_rest o = Resting o
state_at in_round o = Entered o

abbrev pub part_at : Place → Order → Part
part_at at_rest o = absent
part_at in_round o = waiting (terms_of o) o.offer.0

-- how much of its offer n is in the round
abbrev entered_at : Place → ℕ → ℕ
entered_at at_rest n = 0
entered_at in_round n = n

when_same_zero : (x side : Side) → when_same x side 0 ≡ 0
when_same_zero Buy Buy = refl
when_same_zero Buy Sell = refl
when_same_zero Sell Buy = refl
when_same_zero Sell Sell = refl

offer_at : (p : Place) (o : Order) (x : Side) → offer_on x (part_at p o) ≡ when_same x o.side (entered_at p o.offer.0)
offer_at at_rest o x = sym (when_same_zero x o.side)
offer_at in_round o x = refl

moved_at : (p : Place) (o : Order) (x : Side) → moved_out x (part_at p o) ≡ 0
moved_at at_rest o x = refl
moved_at in_round o x = refl

-- what is not in the round rests
resting_at : (p : Place) (o : Order) (u : ℕ)
    → resting_in (state_at p o) u + only (offered o.side o.market) (entered_at p o.offer.0) u ≡ only (offered o.side o.market) o.offer.0 u
resting_at at_rest o u = omega (arith, only_zero (offered o.side o.market) u)
resting_at in_round o u = omega arith

placed_at : (p : Place) (o : Order) → placed_in (state_at p o) ≡ placed_in (Resting o)
placed_at at_rest o = refl
placed_at in_round o = refl

order_at : (p : Place) (o : Order) → TicketBounds (state_at p o) ≡ OrderBounds o
order_at at_rest o = refl
order_at in_round o = refl

here_at : (p : Place) (o : Order) → entered_in (state_at p o) o.market ≡ unclaimed (part_at p o)
here_at at_rest o = refl
here_at in_round o = ap (λ (v : Bool). cond v (part_at in_round o) absent) (eq-eqb o.market o.market refl)

there_at : (p : Place) (o : Order) (a : ℕ) → (a ≡ o.market → ⊥) → entered_in (state_at p o) a ≡ absent
there_at at_rest o a d = refl
there_at in_round o a d = ap (λ (v : Bool). cond v (part_at in_round o) absent) (ne_eqb a o.market d)

-- ---- a round from which some of a side's offers go, and to which some come

abbrev changed_round : Round → (buys sells : Totals) (quote base tickets : ℕ) → Round
changed_round r buys sells quote base tickets = with_tickets (with_held (with_sides r buys sells) quote base) tickets

-- on side x
record Changed (r r1 : Round) (side : Side) (gone come : ℕ) (x : Side) : Type 0 where
  total : (totals_of r1 x).total.0 + when_same x side gone ≡ (totals_of r x).total.0 + when_same x side come
  paid : (totals_of r1 x).paid.0 ≡ (totals_of r x).paid.0
  got : (totals_of r1 x).got.0 ≡ (totals_of r x).got.0
  held : held_in r1 x + when_same x side gone ≡ held_in r x + when_same x side come

-- the set of tickets, after that of ticket k changed
record Marked (s s1 k : ℕ) (q : Part) : Type 0 where
  here : bit s1 k ≡ is_waiting q
  there : (j : ℕ) → (j ≡ k → ⊥) → bit s1 j ≡ bit s j
  small : s1 < 2 ^ 64

-- ---- what is known of an enter or a leave that passed its tests

module _ (h : Exchange) (k : ℕ) where
  -- ticket k's order, and the phase of its market
  abbrev pub order : Order
  order = order_in (ticket h k)

  abbrev pub market_phase : Phase
  market_phase = phase h order.market

  -- the ticket is there, and its market's round collects
  abbrev pub Told : Place → Type 0
  Told p = (k < 64) × (ticket h k ≡ state_at p order) × (market_phase ≡ Collect (round_in market_phase))

  pub enter_tells : Passed (enter_tests h k) → Told at_rest
  enter_tells p = (
    omega (arith, ltb-false 63 k p.0),
    resting_is (ticket h k) p.1.0 p.1.1.0,
    collect_is market_phase (not-false (is_collect market_phase) p.1.1.1.0),
  )

  pub leave_tells : (member : ℕ) → Passed (leave_tests h k member) → Told in_round
  leave_tells member p = (
    omega (arith, ltb-false 63 k p.1.0),
    entered_is (ticket h k) (not-false (is_entered (ticket h k)) p.1.1.1.0),
    collect_is market_phase (not-false (is_collect market_phase) p.1.1.1.1.0),
  )

-- ---- ticket k goes from one place to the other, in its market's round

module _ (h : Exchange) (y : History) (i : Inv h y) (k : ℕ) (from : Place) (tells : Told h k from) where
  abbrev o : Order
  o = order h k

  abbrev mk : ℕ
  mk = o.market

  abbrev side : Side
  side = o.side

  abbrev n : ℕ
  n = o.offer.0

  -- the round in the state, and in history
  abbrev r : Round
  r = round_in (market_phase h k)

  abbrev b : RoundLog
  b = log_of (y.rounds mk)

  abbrev hk : k < 64
  hk = tells.0

  abbrev et : ticket h k ≡ state_at from o
  et = tells.1

  pub o_ok : OrderBounds o
  o_ok = subst (λ (A : Type 0). A) (order_at from o) (subst TicketBounds et (i.ticket_bounds k hk))

  pub runs : y.rounds mk ≡ running b
  runs = running_is (market_phase h k) (y.rounds mk) (ap is_closed tells.2) (i.markets mk o_ok.market_low o_ok.market_high)

  both_ok : RoundOk collecting r b × Quiet b
  both_ok = subst₂ MarketOk tells.2 runs (i.markets mk o_ok.market_low o_ok.market_high)

  pub r_ok : RoundOk collecting r b
  r_ok = both_ok.0

  -- just what is in it is held
  held_all : (x : Side) → held_in r x ≡ T b x
  held_all x =
      omega (arith, r_ok.held x, went_zero collecting (λ e. e) r.hi.0 r.lo.0 b r_ok.parts x, both_ok.1.taken_zero x, both_ok.1.given_zero x)

  pub part_is : b.part k ≡ part_at from o
  part_is =
      early_part collecting (λ e. e) r.hi.0 r.lo.0 b (b.part k) (r_ok.parts k hk)
      ∙ ap (λ (c : Current). unclaimed (part_in c k)) (sym runs)
      ∙ sym (i.tickets.places_are k hk mk o_ok.market_low o_ok.market_high)
      ∙ ap (λ (t : TicketState). entered_in t mk) et
      ∙ here_at from o
      ∙ kept from
    where
      kept : (p : Place) → unclaimed (part_at p o) ≡ part_at p o
      kept at_rest = refl
      kept in_round = refl

  module _ (to : Place) (buys sells : Totals) (quote base tickets : ℕ)
      (c : (x : Side) → Changed r (changed_round r buys sells quote base tickets) side (entered_at from n) (entered_at to n) x)
      (m : Marked r.tickets tickets k (part_at to o))
      (ok : PartOk collecting r.hi.0 r.lo.0 b (part_at to o)) where
    abbrev gone : ℕ
    gone = entered_at from n

    abbrev come : ℕ
    come = entered_at to n

    abbrev q1 : Part
    q1 = part_at to o

    abbrev b1 : RoundLog
    b1 = with_part b k q1

    abbrev r1 : Round
    r1 = changed_round r buys sells quote base tickets

    T1 : (x : Side) → T b1 x + when_same x side gone ≡ T b x + when_same x side come
    T1 x = omega (arith, T_part b k q1 hk x, ap (offer_on x) part_is, offer_at from o x, offer_at to o x)

    came1 : (x : Side) → came_in b1 x + when_same x side gone ≡ came_in b x + when_same x side come
    came1 x = omega (arith, came_in_part b k q1 hk x, ap (offer_on x) part_is, offer_at from o x, offer_at to o x)

    went1 : (x : Side) → went_out b1 x ≡ went_out b x
    went1 x = omega (arith, went_out_part b k q1 hk x, ap (moved_out x) part_is, moved_at from o x, moved_at to o x)

    held1 : (x : Side) → held_in r1 x + went_out b1 x ≡ came_in b1 x
    held1 x = omega (arith, came1 x, went1 x, r_ok.held x, (c x).held)

    quiet1 : Quiet b1
    quiet1 =
        record { traded_zero = both_ok.1.traded_zero; taken_zero = both_ok.1.taken_zero; given_zero = both_ok.1.given_zero }

    G_zero : (x : Side) → G b1 x ≡ 0
    G_zero x = omega (arith, quiet1.traded_zero (other x), quiet1.given_zero (other x))

    abbrev h1 : Exchange
    h1 = with_phase h mk (Collect r1)

    abbrev h2 : Exchange
    h2 = with_ticket h1 k (state_at to o)

    sized1 : Sized h1
    sized1 = sized_phase h mk (Collect r1) i.sized

    kl : k < length h1.tickets
    kl = omega (arith, i.sized.tickets)

    holds1 : (x : Side) → holds b1 x + when_same x side gone ≡ holds b x + when_same x side come
    holds1 x = omega (arith, held1 x, went1 x, (c x).held, r_ok.held x)

    holds_of1 : (u : ℕ) → holds_of mk b1 u + only (offered side mk) gone u ≡ holds_of mk b u + only (offered side mk) come u
    holds_of1 u =
        omega (
          arith,
          only_add 0 (holds b1 Buy) (when_same Buy side gone) u,
          only_add mk (holds b1 Sell) (when_same Sell side gone) u,
          only_add 0 (holds b Buy) (when_same Buy side come) u,
          only_add mk (holds b Sell) (when_same Sell side come) u,
          ap (λ v. only 0 v u) (holds1 Buy),
          ap (λ v. only mk v u) (holds1 Sell),
          offered_split side mk gone u,
          offered_split side mk come u,
        )

    rounds1 : (u : ℕ) → rounds_total (put y.rounds mk (running b1)) u + holds_of mk b u ≡ rounds_total y.rounds u + holds_of mk b1 u
    rounds1 u =
        let e : current_holds mk (y.rounds mk) u ≡ holds_of mk b u = ap (λ (v : Current). current_holds mk v u) runs in
        omega (arith, in_rounds_set y mk (running b1) o_ok.market_low o_ok.market_high u)

    conserved1 : (u : ℕ) → u < 4 → balances h2 u + resting h2 u + rounds_total (put y.rounds mk (running b1)) u + residue h2 u + y.withdrawn u ≡ y.deposited u
    conserved1 u hu =
        omega (
          arith,
          resting_set h1 k (state_at to o) sized1 hk u,
          ap (λ t. resting_in t u) et,
          resting_at from o u,
          resting_at to o u,
          rounds1 u,
          holds_of1 u,
          i.books.conserved u hu,
        )

    -- all that is in the round is held, and what is held is within the supply
    small1 : (x : Side) → T b1 x ≤ largest
    small1 x =
        let u : ℕ = offered x mk in
        let hu : u < 4 = offered_lt x mk o_ok.market_high in
        omega (
          arith,
          held1 x,
          went_zero collecting (λ e. e) r.hi.0 r.lo.0 b r_ok.parts x,
          went1 x,
          both_ok.1.taken_zero x,
          held_within mk (put y.rounds mk (running b1)) b1 x o_ok.market_low o_ok.market_high (put_same y.rounds mk (running b1)),
          conserved1 u hu,
          i.books.supplied u hu,
          i.bounded u hu,
        )

    round1 : RoundOk collecting r1 b1
    round1 =
        record {
          stage = r_ok.stage;
          total = λ x. omega (arith, T1 x, (c x).total, r_ok.total x);
          paid = λ x. (c x).paid ∙ r_ok.paid x;
          got = λ x. (c x).got ∙ r_ok.got x;
          held = held1;
          marks = marks_part r.tickets tickets k b q1 m.here m.there r_ok.marks;
          marks_small = m.small;
          within = λ x. omega (arith, quiet1.traded_zero x, quiet1.taken_zero x);
          empty = λ x e. G_zero x;
          rate = r_ok.rate;
          parts =
              λ j hj. put_each (λ a q. PartOk collecting r.hi.0 r.lo.0 b1 q) b.part k q1 j
              (λ e. part_early collecting (λ e. e) r.hi.0 r.lo.0 b collecting b1 q1 ok)
              (λ d. part_early collecting (λ e. e) r.hi.0 r.lo.0 b collecting b1 (b.part j) (r_ok.parts j hj));
          terms = r_ok.terms;
          small_total = small1;
          small_got = λ x. omega (arith, G_zero x);
        }

    moves : Inv h2 (with_round y mk (running b1))
    moves =
        record {
          sized = sized_ticket h1 k (state_at to o) sized1;
          bounded = i.bounded;
          ticket_bounds = bounds_set h1 k (state_at to o) kl (subst (λ (A : Type 0). A) (sym (order_at to o)) o_ok) i.ticket_bounds;
          markets = markets_set h mk (Collect r1) y.rounds (running b1) o_ok.market_low (omega (arith, i.sized.markets, o_ok.market_high)) (round1, quiet1) i.markets;
          books = record { conserved = conserved1; supplied = i.books.supplied; accounts = i.books.accounts };
          tickets =
              record {
                tickets_are =
                    λ j hj. each_ticket h1 k (state_at to o) kl (λ a t. placed_in t ≡ placed_in (ticket h a)) (placed_at to o ∙ sym (placed_at from o) ∙ sym (ap placed_in et)) j (λ d. refl) ∙ i.tickets.tickets_are j hj;
                places_are =
                    places_part h1 k (state_at to o) kl i.tickets mk b q1 (running b1) runs o_ok.market_low o_ok.market_high (λ j hj. refl)
                    (here_at to o)
                    (λ a d. there_at to o a d ∙ sym (ap (λ t. entered_in t a) et ∙ there_at from o a d));
              };
          past = i.past;
        }

  -- history, which has the ticket's order, makes the ticket's part q
  pub part_told : (q : PlacedOrder → Part)
      → with_round y mk (running (with_part b k (q (placed_in (Resting o)))))
      ≡ with_round y (market_in (y.orders k)) (changed_at collecting (λ b. with_part b k (q (y.orders k))) (y.rounds (market_in (y.orders k))))
  part_told q =
      ap (with_round y mk) (sym (changed_at_lem collecting (λ b. with_part b k (q (placed_in (Resting o)))) (y.rounds mk) b runs r_ok.stage))
      ∙ ap (λ (v : PlacedOrder). with_round y (market_in v) (changed_at collecting (λ b. with_part b k (q v)) (y.rounds (market_in v))))
      (sym (placed_at from o) ∙ sym (ap placed_in et) ∙ i.tickets.tickets_are k hk)

-- ---- enter

enter_changes : (r : Round) (k n : ℕ) (side x : Side) → Changed r (entered_round r k side n) side 0 n x
enter_changes r k n Buy Buy = record { total = omega arith; paid = refl; got = refl; held = omega arith }
enter_changes r k n Buy Sell = record { total = omega arith; paid = refl; got = refl; held = omega arith }
enter_changes r k n Sell Buy = record { total = omega arith; paid = refl; got = refl; held = omega arith }
enter_changes r k n Sell Sell = record { total = omega arith; paid = refl; got = refl; held = omega arith }

pub enter_keeps : (h : Exchange) (y : History) (k : ℕ) → Inv h y → Passed (enter_tests h k)
    → Inv (enter_done h k).exchange (with_event y (Call.Enter k) (enter_done h k).answer)
unfolding with_event with_accepted
enter_keeps h y k i p =
    let t : Told h k at_rest = enter_tells h k p in
    let ok : OrderBounds (order h k) = o_ok h y i k at_rest t in
    let s : ℕ = (round_in (market_phase h k)).tickets in
    subst (Inv (enter_done h k).exchange) (part_told h y i k at_rest t part_of)
    (moves h y i k at_rest t in_round _ _ _ _ _ (enter_changes (round_in (market_phase h k)) k (order h k).offer.0 (order h k).side)
    (record { here = bit_inserted_same s k; there = bit_inserted_other s k; small = inserted_lt s k (r_ok h y i k at_rest t).marks_small t.0 })
    (record { limit_pos = ok.limit; offer_pos = ok.offer; within = p.1.1.1.1.0 }))

-- ---- leave

leave_changes : (r : Round) (k n : ℕ) (side : Side) → n ≤ (totals_of r side).total.0 → n ≤ held_in r side → (x : Side) → Changed r (left_round r k side n) side n 0 x
leave_changes r k n Buy t l Buy = record { total = omega arith; paid = refl; got = refl; held = omega arith }
leave_changes r k n Buy t l Sell = record { total = omega arith; paid = refl; got = refl; held = omega arith }
leave_changes r k n Sell t l Buy = record { total = omega arith; paid = refl; got = refl; held = omega arith }
leave_changes r k n Sell t l Sell = record { total = omega arith; paid = refl; got = refl; held = omega arith }

pub leave_keeps : (h : Exchange) (y : History) (k m : ℕ) → Inv h y → Passed (leave_tests h k m)
    → Inv (leave_done h k).exchange (with_event y (Call.Leave k m) (leave_done h k).answer)
unfolding with_event with_accepted
leave_keeps h y k m i p =
    let t : Told h k in_round = leave_tells h k m p in
    let o : Order = order h k in
    let b : RoundLog = log_of (y.rounds o.market) in
    let s : ℕ = (round_in (market_phase h k)).tickets in
    let ok : RoundOk collecting (round_in (market_phase h k)) b = r_ok h y i k in_round t in
    let l : o.offer.0 ≤ T b o.side = offer_within b k t.0 (terms_of o) o.offer.0 (part_is h y i k in_round t) in
    subst (Inv (leave_done h k).exchange) (part_told h y i k in_round t (λ v. absent))
    (moves h y i k in_round t at_rest _ _ _ _ _
    (leave_changes (round_in (market_phase h k)) k o.offer.0 o.side (omega (arith, ok.total o.side)) (omega (arith, held_all h y i k in_round t o.side)))
    (record { here = bit_removed_same s k; there = bit_removed_other s k; small = removed_lt s k ok.marks_small })
    tt)
