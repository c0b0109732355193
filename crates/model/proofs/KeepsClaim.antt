-- Claim keeps the invariant, the last claim of a round too, and pays what the statement says.
use Prim.Native.Nat.{◌+◌, ◌-◌, ◌<◌, ◌≤◌, suc, zero, ℕ}
use mathlib.Core.Bool.{Bool, cond, false, true}
use mathlib.Core.List.{◌∷◌}
use mathlib.Core.Path.{◌∙◌, ◌≡◌, ap, ap₂, refl, subst, subst₂, sym}
use native.Mathlib.Omega.{arith}
use lib.Dec.{eqb}
use lib.ListN.{length}
use borrow.Author.Tests.{eq-eqb, eqb-true, ltb-false, ne_eqb, not-false}
use Rattle.model.specs.Bounds.{OrderBounds, TicketBounds, held_in}
use Rattle.model.specs.Calls.{claim_done, claim_tests, claim_with, claimed_round, paying_or_closed}
use Rattle.model.specs.History.{Current, G, History, P, Part, PlacedOrder, RoundLog, T, OrderTerms, absent, came_in, claimed, claimed_as, end_or_round, holds, idle, is_ticket, is_waiting, log_of, moved_out, offer_on, placed_or, put, running, settled, ticket_count, waiting, waiting_count, went_out, when_same, with_accepted, with_claim, with_credit, with_end, with_event, with_order, with_part, with_payout, with_round}
use Rattle.model.specs.Sides.{offered, other, wanted}
use Rattle.model.specs.State.{balance, credit, is_closed, is_entered, is_paying, order_in, phase, residue, resting_or, round_in, ticket, to_residue, totals_of, with_phase, with_ticket}
use Rattle.model.specs.WholeRun.{All, LimitKept, PaysOut, TicketsAgree, balances, cons, current_holds, entered_in, got_by, holds_of, in_rounds, paid_by, part_in, placed_in, put_by, resting, resting_in, rounds_total, terms_of, unclaimed}
use Rattle.model.specs.declared.state.Exchange.{Exchange}
use Rattle.model.specs.declared.state.Order.{Order}
use Rattle.model.specs.declared.state.Phase.TheVariants.{Closed, Paying}
use Rattle.model.specs.declared.state.Round.{Round}
use Rattle.model.specs.declared.state.TicketState.{TicketState}
use Rattle.model.specs.declared.state.TicketState.TheVariants.{Entered}
use Rattle.pricing.specs.Prices.{fetches, share_got, share_paid}
use Rattle.pricing.specs.declared.Side.{Side}
use Rattle.pricing.specs.declared.Side.TheVariants.{Buy, Sell}
use Rattle.ticket_set.specs.TicketSet.{bit, count_of, removed}
use Rattle.units.specs.Sums.{only, sum_over}
use Rattle.ledger.proofs.Laws.{credits}
use Rattle.model.proofs.Frames.{bounds_set, markets_set, placed_set, places_part, wanted_lt}
use Rattle.model.proofs.Inv.{ClaimedOk, Inv, MarketOk, PartOk, RoundOk, WaitingOk, ended_at_lem, entered_is, paying_is, running_is}
use Rattle.model.proofs.Reading.{Sized, account_credit, fewer_of, in_rounds_set, put_each, put_same, residue_plus, resting_set, sized_credit, sized_phase, sized_residue, sized_ticket, ticket_other, ticket_same}
use Rattle.model.proofs.Rounds.{T_part, came_in_part, covers, leaves, marks_count, marks_part, none_waiting, not_unclaimed, offer_within, round_pays, went_out_part}
use Rattle.pricing.proofs.Limits.{limit_kept}
use Rattle.pricing.proofs.Shares.{paid_le_offer}
use Rattle.ticket_set.proofs.Bits.{bit_removed_other, bit_removed_same, removed_lt}
use Rattle.units.proofs.Decide.{Passed}
use Rattle.units.proofs.Sums.{only_add, only_zero, term_le}
use Rattle.model.specs.declared.call.Call.TheVariants as Call

-- ---- small facts, each by cases

pub waiting_is : (q : Part) (terms : OrderTerms) (n : ℕ) → unclaimed q ≡ waiting terms n → q ≡ waiting terms n
waiting_is absent terms n e = cc
waiting_is (waiting terms' n') terms n e = e
waiting_is (claimed terms' n' s g) terms n e = cc

says_resting : (o : Order) (rest n : ℕ) → entered_in (resting_or o rest) n ≡ absent
says_resting o zero n = refl
says_resting o (suc rest) n = refl

placed_resting : (o : Order) (rest : ℕ) → placed_in (resting_or o rest) ≡ placed_or (terms_of o) o.market rest
placed_resting o zero = refl
placed_resting o (suc rest) = refl

ok_resting : (o : Order) (rest : ℕ) → OrderBounds o → TicketBounds (resting_or o rest)
ok_resting o zero k = tt
ok_resting o (suc rest) k =
    record { member = k.member; market_low = k.market_low; market_high = k.market_high; limit = k.limit; offer = omega arith }

resting_rest : (o : Order) (rest u : ℕ) → resting_in (resting_or o rest) u ≡ only (offered o.side o.market) rest u
resting_rest o zero u = sym (only_zero (offered o.side o.market) u)
resting_rest o (suc rest) u = refl

-- what a claim moves out of the two tokens is its refund and its payment
moved_split : (side : Side) (mk a b u : ℕ)
    → only 0 (when_same Buy side a + when_same Sell side b) u + only mk (when_same Sell side a + when_same Buy side b) u
    ≡ only (offered side mk) a u + only (wanted side mk) b u
moved_split Buy mk a b u = omega (arith, only_add 0 a 0 u, only_zero 0 u, only_add mk 0 b u, only_zero mk u)
moved_split Sell mk a b u = omega (arith, only_add 0 0 b u, only_zero 0 u, only_add mk a 0 u, only_zero mk u)

held_claimed : (r : Round) (k : ℕ) (side x : Side) (a b : ℕ) → held_in (claimed_round r k side a b) x ≡ held_in r x - (when_same x side a + when_same (other x) side b)
held_claimed r k Buy Buy a b = omega arith
held_claimed r k Buy Sell a b = omega arith
held_claimed r k Sell Buy a b = omega arith
held_claimed r k Sell Sell a b = omega arith

-- ---- the claim of ticket k with order o, in round r of history b

module _ (h : Exchange) (y : History) (i : Inv h y) (k : ℕ) (hk : k < 64) (o : Order) (r : Round) (b : RoundLog)
    (et : ticket h k ≡ Entered o) (ep : phase h o.market ≡ Paying r) (er : y.rounds o.market ≡ running b) where
  abbrev mk : ℕ
  mk = o.market

  abbrev side : Side
  side = o.side

  abbrev terms : OrderTerms
  terms = terms_of o

  abbrev n : ℕ
  n = o.offer.0

  abbrev s : ℕ
  s = share_paid n (totals_of r side).paid.0 (totals_of r side).total.0

  abbrev got : ℕ
  got = share_got n (totals_of r side).got.0 (totals_of r side).total.0

  abbrev rest : ℕ
  rest = n - s

  abbrev q1 : Part
  q1 = claimed terms n s got

  abbrev b1 : RoundLog
  b1 = with_part b k q1

  abbrev r1 : Round
  r1 = claimed_round r k side rest got

  o_ok : OrderBounds o
  o_ok = subst TicketBounds et (i.ticket_bounds k hk)

  r_ok : RoundOk settled r b
  r_ok = subst₂ MarketOk ep er (i.markets mk o_ok.market_low o_ok.market_high)

  -- its part waits in the round
  part_is : b.part k ≡ waiting terms n
  part_is =
      waiting_is (b.part k) terms n
      (ap (λ (c : Current). unclaimed (part_in c k)) (sym er)
      ∙ sym (i.tickets.places_are k hk mk o_ok.market_low o_ok.market_high)
      ∙ ap (λ (t : TicketState). entered_in t mk) et
      ∙ ap (λ (q : Bool). cond q (waiting terms n) absent) (eq-eqb mk mk refl))

  waits : WaitingOk r.hi.0 r.lo.0 terms n
  waits = subst (PartOk settled r.hi.0 r.lo.0 b) part_is (r_ok.parts k hk)

  s_is : s ≡ paid_by b terms n
  s_is = ap₂ (λ p t. share_paid n p t) (r_ok.paid side) (r_ok.total side)

  got_is : got ≡ got_by b terms n
  got_is = ap₂ (λ p t. share_got n p t) (r_ok.got side) (r_ok.total side)

  offer_le : n ≤ T b side
  offer_le = offer_within b k hk terms n part_is

  T_pos : 0 < T b side
  T_pos = omega (arith, offer_le, o_ok.offer)

  pub s_le : s ≤ n
  s_le = rw s_is (paid_le_offer n (P b side) (T b side) T_pos (r_ok.within side))

  T1 : (x : Side) → T b1 x ≡ T b x
  T1 x = omega (arith, T_part b k q1 hk x, ap (offer_on x) part_is)

  claimed_move : (t : OrderTerms) (a c d : ℕ) → ClaimedOk b t a c d → ClaimedOk b1 t a c d
  claimed_move t a c d w =
      record { offer_pos = w.offer_pos; s_is = rw (T1 t.side) w.s_is; got_is = rw (T1 t.side) w.got_is }

  part_move : (q : Part) → PartOk settled r.hi.0 r.lo.0 b q → PartOk settled r.hi.0 r.lo.0 b1 q
  part_move absent w = tt
  part_move (waiting t a) w = w
  part_move (claimed t a c d) w = (tt, claimed_move t a c d w.1)

  parts1 : (j : ℕ) → j < 64 → PartOk settled r.hi.0 r.lo.0 b1 (b1.part j)
  parts1 j hj =
      put_each (λ a q. PartOk settled r.hi.0 r.lo.0 b1 q) b.part k q1 j
      (λ e. (tt, claimed_move terms n s got (record { offer_pos = o_ok.offer; s_is = s_is; got_is = got_is })))
      (λ d. part_move (b.part j) (r_ok.parts j hj))

  within1 : (x : Side) → P b1 x ≤ T b1 x
  within1 x = omega (arith, T1 x, r_ok.within x)

  empty1 : (x : Side) → T b1 x ≡ 0 → G b1 x ≡ 0
  empty1 x e = r_ok.empty x (sym (T1 x) ∙ e)

  came1 : (x : Side) → came_in b1 x ≡ came_in b x
  came1 x = omega (arith, came_in_part b k q1 hk x, ap (offer_on x) part_is)

  went1 : (x : Side) → went_out b1 x ≡ went_out b x + moved_out x q1
  went1 x = omega (arith, went_out_part b k q1 hk x, ap (moved_out x) part_is)

  -- the round holds what the claim moves out
  pub moved_le : (x : Side) → moved_out x q1 ≤ held_in r x
  moved_le x = omega (arith, came1 x, went1 x, r_ok.held x, covers r.hi.0 r.lo.0 b1 parts1 within1 empty1 x)

  held1 : (x : Side) → held_in r1 x + went_out b1 x ≡ came_in b1 x
  held1 x = omega (arith, came1 x, went1 x, r_ok.held x, moved_le x, held_claimed r k side x rest got)

  marks1 : (j : ℕ) → j < 64 → bit r1.tickets j ≡ is_waiting (b1.part j)
  marks1 = marks_part r.tickets (removed r.tickets k) k b q1 (bit_removed_same r.tickets k) (bit_removed_other r.tickets k) r_ok.marks

  round1 : RoundOk settled r1 b1
  round1 =
      record {
        stage = r_ok.stage;
        total = total1;
        paid = paid1;
        got = got1;
        held = held1;
        marks = marks1;
        marks_small = removed_lt r.tickets k r_ok.marks_small;
        within = within1;
        empty = empty1;
        rate = r_ok.rate;
        parts = parts1;
        terms = r_ok.terms;
        small_total = λ x. omega (arith, T1 x, r_ok.small_total x);
        small_got = r_ok.small_got;
      }
    where
      total1 : (x : Side) → (totals_of r1 x).total.0 ≡ T b1 x
      total1 Buy = r_ok.total Buy ∙ sym (T1 Buy)
      total1 Sell = r_ok.total Sell ∙ sym (T1 Sell)

      paid1 : (x : Side) → (totals_of r1 x).paid.0 ≡ P b1 x
      paid1 Buy = r_ok.paid Buy
      paid1 Sell = r_ok.paid Sell

      got1 : (x : Side) → (totals_of r1 x).got.0 ≡ G b1 x
      got1 Buy = r_ok.got Buy
      got1 Sell = r_ok.got Sell

  -- ---- the state and history before the market's own change

  abbrev h1 : Exchange
  h1 = with_ticket h k (resting_or o rest)

  abbrev h2 : Exchange
  h2 = credit h1 o.member (wanted side mk) got

  abbrev y2 : History
  y2 =
      with_credit
      (with_order (with_payout y (record { terms = terms; s = s; got = got })) k (placed_or terms mk rest))
      o.member (wanted side mk) got

  sized1 : Sized h1
  sized1 = sized_ticket h k (resting_or o rest) i.sized

  sized2 : Sized h2
  sized2 = sized_credit h1 o.member (wanted side mk) got sized1

  kl : k < length h.tickets
  kl = omega (arith, i.sized.tickets)

  bounds2 : (j : ℕ) → j < 64 → TicketBounds (ticket h2 j)
  bounds2 = bounds_set h k (resting_or o rest) kl (ok_resting o rest o_ok) i.ticket_bounds

  -- tickets, whatever the market's round becomes, if its unclaimed parts are as b1's are
  tickets2 : (c : Current) → ((j : ℕ) → j < 64 → unclaimed (b1.part j) ≡ unclaimed (part_in c j))
      → TicketsAgree (ticket h2) y2.orders (put y.rounds mk c)
  tickets2 c same =
      record {
        tickets_are = placed_set h k (resting_or o rest) kl i.tickets (placed_or terms mk rest) (placed_resting o rest);
        places_are =
            places_part h k (resting_or o rest) kl i.tickets mk b q1 c er o_ok.market_low o_ok.market_high same
            (says_resting o rest mk)
            (λ a d. says_resting o rest a ∙ sym (ap (λ t. entered_in t a) et ∙ ap (λ (q : Bool). cond q (waiting terms n) absent) (ne_eqb a mk d)));
      }

  accounts2 : (j : ℕ) → j < 16 → (u : ℕ) → u < 4 → balance h2 j u + y2.debits j u ≡ y2.credits j u
  accounts2 =
      account_credit h.ledger y.credits y.debits i.sized.shaped o.member (wanted side mk) got o_ok.member (wanted_lt side mk o_ok.market_high) i.books.accounts

  market_in : mk ≤ length h.markets
  market_in = omega (arith, i.sized.markets, o_ok.market_high)

  limit_is_kept : fetches side o.limit.0 (s - 1) ≤ got
  limit_is_kept =
      rw (s_is, got_is)
      (limit_kept side o.limit.0 r.hi.0 r.lo.0 n (P b side) (G b side) (T b side) T_pos waits.limit_pos waits.within (r_ok.rate side))

  limits2 : All LimitKept y2.payouts
  limits2 = cons (record { kept = limit_is_kept }) i.past.limits

  -- ---- amounts

  holds_b : (x : Side) → holds b x ≡ holds b1 x + moved_out x q1
  holds_b x = omega (arith, came1 x, went1 x, r_ok.held x, moved_le x)

  holds_b1 : (x : Side) → holds b1 x ≡ held_in r1 x
  holds_b1 x = omega (arith, held1 x)

  -- the round held what it holds now, the refund and the payment
  holds_of_b : (u : ℕ) → holds_of mk b u ≡ holds_of mk b1 u + (only (offered side mk) rest u + only (wanted side mk) got u)
  holds_of_b u =
      let e0 : only 0 (holds b Buy) u ≡ only 0 (holds b1 Buy + moved_out Buy q1) u = ap (λ v. only 0 v u) (holds_b Buy) in
      let e1 : only mk (holds b Sell) u ≡ only mk (holds b1 Sell + moved_out Sell q1) u = ap (λ v. only mk v u) (holds_b Sell) in
      omega (arith, only_add 0 (holds b1 Buy) (moved_out Buy q1) u, only_add mk (holds b1 Sell) (moved_out Sell q1) u, moved_split side mk rest got u)

  resting2 : (u : ℕ) → ◌≡◌ {A = ℕ} (resting_in (ticket h k) u) 0
  resting2 u = ap (λ t. resting_in t u) et

  -- balances and resting offers together grow by the refund and the payment
  grown : (u : ℕ) → balances h2 u + resting h2 u ≡ balances h u + resting h u + (only (offered side mk) rest u + only (wanted side mk) got u)
  grown u =
      omega (
        arith,
        (credits h.ledger o.member (wanted side mk) got).total i.sized.shaped o_ok.member (wanted_lt side mk o_ok.market_high) u,
        resting_set h k (resting_or o rest) i.sized hk u,
        resting2 u,
        resting_rest o rest u,
      )

  -- the rounds' sum with another round c at the market
  rounds2 : (c : Current) (u : ℕ) → rounds_total (put y.rounds mk c) u + holds_of mk b u ≡ in_rounds y u + current_holds mk c u
  rounds2 c u =
      let e : current_holds mk (y.rounds mk) u ≡ holds_of mk b u = ap (λ (v : Current). current_holds mk v u) er in
      omega (arith, in_rounds_set y mk c o_ok.market_low o_ok.market_high u)

  -- ---- not the last claim

  goes_on : Inv (with_phase h2 mk (Paying r1)) (with_round y2 mk (running b1))
  goes_on =
      record {
        sized = sized_phase h2 mk (Paying r1) sized2;
        bounded = i.bounded;
        ticket_bounds = bounds2;
        markets = markets_set h2 mk (Paying r1) y.rounds (running b1) o_ok.market_low market_in round1 i.markets;
        books =
            record {
              conserved = λ u hu. omega (arith, grown u, rounds2 (running b1) u, holds_of_b u, i.books.conserved u hu);
              supplied = i.books.supplied;
              accounts = accounts2;
            };
        tickets = tickets2 (running b1) (λ j hj. refl);
        past = record { residue_is = i.past.residue_is; ended_well = i.past.ended_well; limits = limits2 };
      }

  -- ---- the last claim

  abbrev h3 : Exchange
  h3 = to_residue h2 0 r1.quote.0

  abbrev h4 : Exchange
  h4 = to_residue h3 mk r1.base.0

  sized3 : Sized h3
  sized3 = sized_residue h2 0 (residue h2 0 + r1.quote.0) sized2

  sized4 : Sized h4
  sized4 = sized_residue h3 mk (residue h3 mk + r1.base.0) sized3

  -- the residue gets what the round holds
  residue4 : (u : ℕ) → residue h4 u ≡ residue h u + holds_of mk b1 u
  residue4 u =
      let e0 : only 0 r1.quote.0 u ≡ only 0 (holds b1 Buy) u = ap (λ v. only 0 v u) (sym (holds_b1 Buy)) in
      let e1 : only mk r1.base.0 u ≡ only mk (holds b1 Sell) u = ap (λ v. only mk v u) (sym (holds_b1 Sell)) in
      omega (
        arith,
        residue_plus h2 0 r1.quote.0 u (omega (arith, sized2.residues)),
        residue_plus h3 mk r1.base.0 u (omega (arith, sized3.residues, o_ok.market_high)),
      )

  has_ticket : 0 < ticket_count b1
  has_ticket =
      let e : is_ticket (b1.part k) ≡ 1 = ap is_ticket (put_same b.part k q1) in
      omega (arith, term_le 64 k (λ j. is_ticket (b1.part j)) hk)

  into : (u : ℕ) → u < 4 → residue h4 u ≡ sum_over (put_by u) (record { market = mk; log = b1 } ∷ y.ended)
  unfolding sum_over
  into u hu = omega (arith, residue4 u, i.past.residue_is u hu)

  closes : waiting_count b1 ≡ 0 → Inv (with_phase h4 mk Closed) (with_end y2 mk b1)
  closes last =
      record {
        sized = sized_phase h4 mk Closed sized4;
        bounded = i.bounded;
        ticket_bounds = bounds2;
        markets = markets_set h4 mk Closed y.rounds idle o_ok.market_low market_in tt i.markets;
        books =
            record {
              conserved = λ u hu. omega (arith, grown u, rounds2 idle u, holds_of_b u, residue4 u, i.books.conserved u hu);
              supplied = i.books.supplied;
              accounts = accounts2;
            };
        tickets = tickets2 idle (λ j hj. not_unclaimed (b1.part j) (none_waiting b1 last j hj));
        past =
            record {
              residue_is = into;
              ended_well =
                  cons
                  (record {
                    pays = round_pays round1;
                    fewer = λ pos. fewer_of mk b1 (ticket_count b1) o_ok.market_low pos (leaves r.hi.0 r.lo.0 b1 parts1 within1 empty1 (none_waiting b1 last) pos);
                    nothing_put = λ e x. absurd (omega (arith, has_ticket));
                  })
                  i.past.ended_well;
              limits = limits2;
            };
      }

  -- ---- both

  ends : Inv (paying_or_closed h2 mk r1) (end_or_round y2 mk b1)
  ends = go (eqb (waiting_count b1) 0) refl
    where
      go : (q : Bool) → eqb (waiting_count b1) 0 ≡ q → Inv (paying_or_closed h2 mk r1) (end_or_round y2 mk b1)
      go true e = rw (marks_count r1.tickets b1 marks1, e) (closes (eqb-true (waiting_count b1) 0 e))
      go false e = rw (marks_count r1.tickets b1 marks1, e) goes_on

  -- history's own terms: the log of the market's round, and the part that was waiting there
  claim_ends : Inv (claim_with h k o r).exchange (with_claim y k (placed_in (Entered o)) s got)
  claim_ends =
      subst (λ (v : History). Inv (paying_or_closed h2 mk r1) v)
      (sym (ended_at_lem settled (λ b. with_part b k (claimed_as (b.part k) s got)) y2 mk (y.rounds mk) b er r_ok.stage))
      (subst (λ (q : Part). Inv (paying_or_closed h2 mk r1) (end_or_round y2 mk (with_part b k (claimed_as q s got)))) (sym part_is) ends)

  -- ---- what the claim pays

  -- closing or not, tickets and balances are those before the market's own change
  frame : (q : Bool) → (v : Exchange) → v ≡ cond q (with_phase h4 mk Closed) (with_phase h2 mk (Paying r1))
      → ((j : ℕ) → ticket v j ≡ ticket h2 j) × ((m t : ℕ) → balance v m t ≡ balance h2 m t)
  frame true v e = (λ j. ap (λ a. ticket a j) e, λ m t. ap (λ a. balance a m t) e)
  frame false v e = (λ j. ap (λ a. ticket a j) e, λ m t. ap (λ a. balance a m t) e)

  framed : ((j : ℕ) → ticket (paying_or_closed h2 mk r1) j ≡ ticket h2 j) × ((m t : ℕ) → balance (paying_or_closed h2 mk r1) m t ≡ balance h2 m t)
  framed = frame (eqb (count_of r1.tickets) 0) (paying_or_closed h2 mk r1) refl

  pub pays : PaysOut h k o s got (claim_with h k o r)
  pays =
      record {
        accepted = refl;
        within = s_le;
        rest = framed.0 k ∙ ticket_same h k (resting_or o rest) kl;
        other_tickets = λ j d. framed.0 j ∙ ticket_other h k (resting_or o rest) j d;
        payment =
            λ t lt. framed.1 o.member t
            ∙ (credits h.ledger o.member (wanted side mk) got).own i.sized.shaped o_ok.member (wanted_lt side mk o_ok.market_high) t;
        other_balances = λ m t d. framed.1 m t ∙ (credits h.ledger o.member (wanted side mk) got).others m t d;
      }

  pub shares_are : (s ≡ paid_by b terms n) × (got ≡ got_by b terms n)
  shares_are = (s_is, got_is)

-- ---- the call

pub claim_keeps : (h : Exchange) (y : History) (k : ℕ) → Inv h y → Passed (claim_tests h k)
    → Inv (claim_done h k).exchange (with_event y (Call.Claim k) (claim_done h k).answer)
unfolding with_event with_accepted
claim_keeps h y k i p =
    let hk : k < 64 = omega (arith, ltb-false 63 k p.0) in
    let o : Order = order_in (ticket h k) in
    let et : ticket h k ≡ Entered o = entered_is (ticket h k) (not-false (is_entered (ticket h k)) p.1.1.0) in
    let r : Round = round_in (phase h o.market) in
    let ep : phase h o.market ≡ Paying r = paying_is (phase h o.market) (not-false (is_paying (phase h o.market)) p.1.1.1.0) in
    let ok : OrderBounds o = subst TicketBounds et (i.ticket_bounds k hk) in
    let er : y.rounds o.market ≡ running (log_of (y.rounds o.market)) =
    running_is (phase h o.market) (y.rounds o.market) (ap is_closed ep) (i.markets o.market ok.market_low ok.market_high) in
    let ey : placed_in (Entered o) ≡ y.orders k = sym (ap placed_in et) ∙ i.tickets.tickets_are k hk in
    subst
    (λ (v : PlacedOrder).
    Inv (claim_done h k).exchange
    (with_claim y k v
    (share_paid o.offer.0 (totals_of r o.side).paid.0 (totals_of r o.side).total.0)
    (share_got o.offer.0 (totals_of r o.side).got.0 (totals_of r o.side).total.0)))
    ey
    (claim_ends h y i k hk o r (log_of (y.rounds o.market)) et ep er)
