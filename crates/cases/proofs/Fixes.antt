-- What the whole-run statement fixes, from its clauses.
use Prim.Native.Nat.{◌+◌}
use mathlib.Core.Path.{◌≡◌, ◌∙◌, refl}
use native.Mathlib.Omega.{arith}
use Rattle.pricing.specs.declared.Side.TheVariants.{Buy, Sell}
use Rattle.model.specs.declared.state.TicketState.TheVariants.{Free, Resting, Entered}
use Rattle.model.specs.declared.state.Exchange.{Exchange}
use Rattle.model.specs.State.{balance, supply, residue, ticket}
use Rattle.model.specs.Run.{Engine}
use Rattle.model.specs.History.{log_of}
use Rattle.model.specs.WholeRun.{Whole, SettledTicket, PaysOut, balances, resting}
use Rattle.cases.specs.Fixes.{told, told_settled, FixesSettled, FixesPaid, FixesLeft, late_leave, FixesLate, answered, told_day, FixesDay}
use Rattle.cases.specs.Literals.{order, terms}
use Rattle.cases.specs.KindCases.{claim_request}
use Rattle.model.specs.Day.{day_orders, day_collect, day_auction, printed}
use Rattle.cases.specs.Examples.{last_places_ended, last_places_settled, last_places_paid, sells_left}
use Rattle.units.specs.Decimal.{digits}
use Rattle.model.specs.Answers.{answer_line}
use Rattle.model.proofs.Computing.{past_computes}
use Rattle.model.proofs.Day.{has_round}
use Rattle.model.proofs.TicketOf.{entered_of, rests_of, free_of, order_of}

-- tickets 63 and 2 are settled there
last_settled : SettledTicket told_settled 63 (terms 15 Sell 1000000) 3 5 (log_of (told_settled.rounds 3))
unfolding told last_places_ended last_places_settled past_computes
last_settled = record { ticket_range = omega arith; market_low = omega arith; market_high = omega arith; round = has_round (told_settled.rounds 3) tt; stage = refl; part = refl }

full_settled : SettledTicket told_settled 2 (terms 14 Buy 1000000) 3 3 (log_of (told_settled.rounds 3))
unfolding told last_places_ended last_places_settled past_computes
full_settled = record { ticket_range = omega arith; market_low = omega arith; market_high = omega arith; round = has_round (told_settled.rounds 3) tt; stage = refl; part = refl }

last_pays : (f : Engine) (x : Exchange) → Whole f x told_settled → PaysOut x 63 (order 15 3 Sell 1000000 5) 4 3 (f x (claim_request 40 9 63))
unfolding told last_places_ended last_places_settled past_computes answer_line digits
last_pays f x w = (w.engine.settled_pays 63 (terms 15 Sell 1000000) 3 5 _ last_settled).1 40 9 (omega arith)

full_pays : (f : Engine) (x : Exchange) → Whole f x told_settled → PaysOut x 2 (order 14 3 Buy 1000000 3) 3 3 (f x (claim_request 7 8 2))
unfolding told last_places_ended last_places_settled past_computes answer_line digits
full_pays f x w = (w.engine.settled_pays 2 (terms 14 Buy 1000000) 3 3 _ full_settled).1 7 8 (omega arith)

pub fixes_settled : FixesSettled
unfolding told last_places_ended last_places_settled past_computes
fixes_settled f x w =
    let s0 : supply x 0 + 0 ≡ 301 = w.books.supplied 0 (omega arith) in
    let s3 : supply x 3 + 1 ≡ 90 = w.books.supplied 3 (omega arith) in
    let r0 : residue x 0 ≡ 2 = w.past.residue_is 0 (omega arith) in
    let r3 : residue x 3 ≡ 2 = w.past.residue_is 3 (omega arith) in
    let c0 : balances x 0 + resting x 0 + 4 + residue x 0 + 0 ≡ 301 = w.books.conserved 0 (omega arith) in
    let c3 : balances x 3 + resting x 3 + 5 + residue x 3 + 1 ≡ 90 = w.books.conserved 3 (omega arith) in
    let a140 : balance x 14 0 + 7 ≡ 200 = w.books.accounts 14 (omega arith) 0 (omega arith) in
    let a143 : balance x 14 3 + 80 ≡ 94 = w.books.accounts 14 (omega arith) 3 (omega arith) in
    let a150 : balance x 15 0 + 301 ≡ 337 = w.books.accounts 15 (omega arith) 0 (omega arith) in
    let a153 : balance x 15 3 + 11 ≡ 78 = w.books.accounts 15 (omega arith) 3 (omega arith) in
    let a00 : balance x 0 0 + 0 ≡ 0 = w.books.accounts 0 (omega arith) 0 (omega arith) in
    let t0 : ticket x 0 ≡ Free = free_of (ticket x 0) (w.tickets.tickets_are 0 (omega arith)) in
    let t2 : ticket x 2 ≡ Entered (order 14 3 Buy 1000000 3) = entered_of (ticket x 2) _ 3 _ (w.tickets.places_are 2 (omega arith) 3 (omega arith) (omega arith)) in
    let t62 : ticket x 62 ≡ Resting (order 15 3 Buy 2500000 33) = rests_of (ticket x 62) _ _ _ (w.tickets.tickets_are 62 (omega arith)) (w.tickets.places_are 62 (omega arith) 3 (omega arith) (omega arith)) in
    let t63 : ticket x 63 ≡ Entered (order 15 3 Sell 1000000 5) = entered_of (ticket x 63) _ 3 _ (w.tickets.places_are 63 (omega arith) 3 (omega arith) (omega arith)) in
    let p = last_pays f x w in
    let q = full_pays f x w in
    record {
      supply_0 = omega (arith, s0);
      supply_3 = omega (arith, s3);
      residue_0 = r0;
      residue_3 = r3;
      sum_0 = omega (arith, r0, c0);
      sum_3 = omega (arith, r3, c3);
      seller_0 = omega (arith, a150);
      seller_3 = omega (arith, a153);
      buyer_0 = omega (arith, a140);
      buyer_3 = omega (arith, a143);
      none_0 = omega (arith, a00);
      ticket_0 = t0;
      ticket_1 = rests_of (ticket x 1) _ _ _ (w.tickets.tickets_are 1 (omega arith)) (w.tickets.places_are 1 (omega arith) 3 (omega arith) (omega arith));
      ticket_2 = t2;
      ticket_62 = t62;
      ticket_63 = t63;
      order_63 = order_of (ticket x 63) _ _ _ (w.tickets.tickets_are 63 (omega arith));
      short_stays = w.engine.refused_stays (claim_request 40 8 63) _;
      refused_stays = w.engine.refused_stays (claim_request 40 80 1) _;
      last_paid =
          record {
            answered = p.accepted;
            ticket_63 = p.rest;
            ticket_62 = p.other_tickets 62 (λ e. omega (arith, e)) ∙ t62;
            ticket_2 = p.other_tickets 2 (λ e. omega (arith, e)) ∙ t2;
            ticket_0 = p.other_tickets 0 (λ e. omega (arith, e)) ∙ t0;
            seller_0 = omega (arith, a150, p.payment 0 (omega arith));
            seller_3 = omega (arith, a153, p.payment 3 (omega arith));
            buyer_0 = omega (arith, a140, p.other_balances 14 0 (λ e. omega (arith, e)));
            buyer_3 = omega (arith, a143, p.other_balances 14 3 (λ e. omega (arith, e)));
            others = p.other_balances;
          };
      full_paid =
          record {
            answered = q.accepted;
            ticket_2 = q.rest;
            ticket_63 = q.other_tickets 63 (λ e. omega (arith, e)) ∙ t63;
            buyer_0 = omega (arith, a140, q.payment 0 (omega arith));
            buyer_3 = omega (arith, a143, q.payment 3 (omega arith));
            seller_3 = omega (arith, a153, q.other_balances 15 3 (λ e. omega (arith, e)));
          };
    }

pub fixes_paid : FixesPaid
unfolding told last_places_ended last_places_settled last_places_paid past_computes
fixes_paid f x w =
    let r0 : residue x 0 ≡ 3 = w.past.residue_is 0 (omega arith) in
    let r3 : residue x 3 ≡ 3 = w.past.residue_is 3 (omega arith) in
    let c0 : balances x 0 + resting x 0 + 0 + residue x 0 + 0 ≡ 301 = w.books.conserved 0 (omega arith) in
    let c3 : balances x 3 + resting x 3 + 0 + residue x 3 + 1 ≡ 90 = w.books.conserved 3 (omega arith) in
    let a150 : balance x 15 0 + 301 ≡ 340 = w.books.accounts 15 (omega arith) 0 (omega arith) in
    let a143 : balance x 14 3 + 80 ≡ 97 = w.books.accounts 14 (omega arith) 3 (omega arith) in
    record {
      residue_0 = r0;
      residue_1 = w.past.residue_is 1 (omega arith);
      residue_3 = r3;
      sum_0 = omega (arith, r0, c0);
      sum_3 = omega (arith, r3, c3);
      seller_0 = omega (arith, a150);
      buyer_3 = omega (arith, a143);
      ticket_2 = free_of (ticket x 2) (w.tickets.tickets_are 2 (omega arith));
      ticket_63 = rests_of (ticket x 63) _ _ _ (w.tickets.tickets_are 63 (omega arith)) (w.tickets.places_are 63 (omega arith) 3 (omega arith) (omega arith));
    }

pub fixes_left : FixesLeft
unfolding told sells_left past_computes
fixes_left f x w =
    let r0 : residue x 0 ≡ 0 = w.past.residue_is 0 (omega arith) in
    let r3 : residue x 3 ≡ 0 = w.past.residue_is 3 (omega arith) in
    let c0 : balances x 0 + resting x 0 + 35 + residue x 0 + 0 ≡ 380 = w.books.conserved 0 (omega arith) in
    let c3 : balances x 3 + resting x 3 + 98 + residue x 3 + 0 ≡ 300 = w.books.conserved 3 (omega arith) in
    let a153 : balance x 15 3 + 170 ≡ 200 = w.books.accounts 15 (omega arith) 3 (omega arith) in
    let a130 : balance x 13 0 + 275 ≡ 300 = w.books.accounts 13 (omega arith) 0 (omega arith) in
    record {
      ticket_63 = rests_of (ticket x 63) _ _ _ (w.tickets.tickets_are 63 (omega arith)) (w.tickets.places_are 63 (omega arith) 3 (omega arith) (omega arith));
      ticket_5 = rests_of (ticket x 5) _ _ _ (w.tickets.tickets_are 5 (omega arith)) (w.tickets.places_are 5 (omega arith) 3 (omega arith) (omega arith));
      ticket_62 = entered_of (ticket x 62) _ 3 _ (w.tickets.places_are 62 (omega arith) 3 (omega arith) (omega arith));
      ticket_6 = entered_of (ticket x 6) _ 3 _ (w.tickets.places_are 6 (omega arith) 3 (omega arith) (omega arith));
      sum_0 = omega (arith, r0, c0);
      sum_3 = omega (arith, r3, c3);
      seller_3 = omega (arith, a153);
      buyer_0 = omega (arith, a130);
    }

pub fixes_late : FixesLate
unfolding told sells_left late_leave past_computes
fixes_late f x w = entered_of (ticket x 62) _ 3 _ (w.tickets.places_are 62 (omega arith) 3 (omega arith) (omega arith))

-- ticket 0 of the day
first_settled : SettledTicket told_day 0 (terms 0 Buy 3000000) 1 600 (log_of (told_day.rounds 1))
unfolding answered day_orders day_collect day_auction printed past_computes
first_settled = record { ticket_range = omega arith; market_low = omega arith; market_high = omega arith; round = has_round (told_day.rounds 1) tt; stage = refl; part = refl }

first_pays : (f : Engine) (x : Exchange) → Whole f x told_day → PaysOut x 0 (order 0 1 Buy 3000000 600) 600 240 (f x (claim_request 12 13 0))
unfolding answered day_orders day_collect day_auction printed past_computes answer_line digits
first_pays f x w = (w.engine.settled_pays 0 (terms 0 Buy 3000000) 1 600 _ first_settled).1 12 13 (omega arith)

pub fixes_day : FixesDay
unfolding answered day_orders day_collect day_auction printed past_computes
fixes_day f x w =
    let s0 : supply x 0 + 0 ≡ 1500 = w.books.supplied 0 (omega arith) in
    let s1 : supply x 1 + 0 ≡ 300 = w.books.supplied 1 (omega arith) in
    let r0 : residue x 0 ≡ 0 = w.past.residue_is 0 (omega arith) in
    let r1 : residue x 1 ≡ 0 = w.past.residue_is 1 (omega arith) in
    let c0 : balances x 0 + resting x 0 + 750 + residue x 0 + 0 ≡ 1500 = w.books.conserved 0 (omega arith) in
    let c1 : balances x 1 + resting x 1 + 240 + residue x 1 + 0 ≡ 300 = w.books.conserved 1 (omega arith) in
    let a00 : balance x 0 0 + 600 ≡ 1000 = w.books.accounts 0 (omega arith) 0 (omega arith) in
    let a01 : balance x 0 1 + 0 ≡ 0 = w.books.accounts 0 (omega arith) 1 (omega arith) in
    let a20 : balance x 2 0 + 150 ≡ 500 = w.books.accounts 2 (omega arith) 0 (omega arith) in
    let a21 : balance x 2 1 + 0 ≡ 60 = w.books.accounts 2 (omega arith) 1 (omega arith) in
    let t1 : ticket x 1 ≡ Entered (order 1 1 Sell 2000000 300) = entered_of (ticket x 1) _ 1 _ (w.tickets.places_are 1 (omega arith) 1 (omega arith) (omega arith)) in
    let p = first_pays f x w in
    record {
      supply_0 = omega (arith, s0);
      supply_1 = omega (arith, s1);
      residue_0 = r0;
      residue_1 = r1;
      sum_0 = omega (arith, r0, c0);
      sum_1 = omega (arith, r1, c1);
      buyer_0 = omega (arith, a00);
      buyer_1 = omega (arith, a01);
      maker_0 = omega (arith, a20);
      maker_1 = omega (arith, a21);
      ticket_0 = entered_of (ticket x 0) _ 1 _ (w.tickets.places_are 0 (omega arith) 1 (omega arith) (omega arith));
      ticket_1 = t1;
      first_paid =
          record {
            answered = p.accepted;
            ticket_0 = p.rest;
            ticket_1 = p.other_tickets 1 (λ e. omega (arith, e)) ∙ t1;
            buyer_0 = omega (arith, a00, p.payment 0 (omega arith));
            buyer_1 = omega (arith, a01, p.payment 1 (omega arith));
            maker_0 = omega (arith, a20, p.other_balances 2 0 (λ e. omega (arith, e)));
          };
    }
