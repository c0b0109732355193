-- The calls on the parts of the state that they touch: what a form comes to, a call's work on its parts, and the state with the parts put back.
-- The laws in proofs/OnParts.antt say that this is the call itself; a reader who believes model/specs/Calls.antt need not believe this page.
use Rattle.std.specs.Prelude.{ℕ, ◌+◌, ◌-◌, cond, List, eqb, get_or, set, Ok, Err}
use Rattle.units.specs.declared.Amount.{Amount}
use Rattle.units.specs.declared.Block.{Block}
use Rattle.units.specs.Counts.{amount, block}
use Rattle.units.specs.Decide.{Test, decide}
use Rattle.ticket_set.specs.TicketSet.{count_of}
use Rattle.pricing.specs.declared.Side.{Side}
use Rattle.pricing.specs.Prices.{high_bound, low_bound}
use Rattle.ledger.specs.declared.Row.{Row}
use Rattle.ledger.specs.Balances.{cell_of, credited_row, debited_row, with_row}
use Rattle.model.specs.declared.state.Order.{Order}
use Rattle.model.specs.declared.state.Ticket.{Ticket}
use Rattle.model.specs.declared.state.TicketState.{TicketState}
use Rattle.model.specs.declared.state.TicketState.TheVariants.{Free, Resting, Entered}
use Rattle.model.specs.declared.state.Round.{Round}
use Rattle.model.specs.declared.state.Phase.TheVariants.{Collect, Auction}
use Rattle.model.specs.declared.state.Market.{Market}
use Rattle.model.specs.declared.state.Exchange.{Exchange}
use Rattle.model.specs.declared.answer.Outcome.{Outcome}
use Rattle.model.specs.declared.answer.Refusal.{Refusal}
use Rattle.parts.specs.After.{Claimed, Traded, Joined, Moved, Placed, Banked, Form}
use Rattle.model.specs.Sides.{offered, wanted, gives, takes}
use Rattle.model.specs.State.{order_in, resting_or, free_ticket, round_in, totals_of, set_market, set_ledger, set_supply, set_residue, set_tickets, set_markets, set_last}
use Rattle.model.specs.Calls.{share_in, got_in, deposit_rest, withdraw_rest, order_rest, cancel_rest, open_rest, enter_rest, match_rest, bid_rest, settle_rest, claim_rest, leave_rest, opened_round, entered_round, left_round, trade_of, matched_round, bid_quote, bid_round, settled_phase, claimed_round}

-- ---- a call's form: what its numbers alone decide

unfoldable pub form_of : List (Test Refusal) → Form
form_of ts = decide ts Err (Ok tt)

-- what is done by a form
abbrev pub by_form : {B : Type 0} → Form → (Refusal → B) → B → B
by_form (Ok tt) refuse out = out
by_form (Err r) refuse out = refuse r

-- ---- a ticket's places

-- the market of a ticket; a free one, which every call on it refuses, is given market 1
abbrev pub ticket_market : TicketState → ℕ
ticket_market Free = 1
ticket_market (Resting o) = o.market
ticket_market (Entered o) = o.market

-- and the member, 0 where it is free
abbrev pub ticket_member : TicketState → ℕ
ticket_member t = (order_in t).member

-- ---- parts taken out

abbrev pub supply_at : Exchange → ℕ → Amount
supply_at x t = get_or x.supply t (amount 0)

abbrev pub residue_at : Exchange → ℕ → Amount
residue_at x t = get_or x.residue t (amount 0)

abbrev pub ticket_at : Exchange → ℕ → Ticket
ticket_at x k = get_or x.tickets k free_ticket

-- ---- 1, 2: a member's row and a token's supply

abbrev pub refused_banked : Row → Amount → Refusal → Banked
refused_banked row supply why = record { answer = Err why; row = row; supply = supply }

abbrev pub deposited_on : Row → Amount → ℕ → ℕ → Banked
deposited_on row supply token n =
    record { answer = Ok ((cell_of row token + n), 0); row = credited_row row token n; supply = amount (supply.0 + n) }

unfoldable pub deposit_on : Row → Amount → ℕ → ℕ → Banked
deposit_on row supply token n =
    decide (deposit_rest supply.0 n) (refused_banked row supply) (deposited_on row supply token n)

abbrev pub withdrawn_on : Row → Amount → ℕ → ℕ → Banked
withdrawn_on row supply token n =
    record { answer = Ok ((cell_of row token - n), 0); row = debited_row row token n; supply = amount (supply.0 - n) }

unfoldable pub withdraw_on : Row → Amount → ℕ → ℕ → Banked
withdraw_on row supply token n =
    decide (withdraw_rest (cell_of row token) n) (refused_banked row supply) (withdrawn_on row supply token n)

abbrev pub put_banked : Exchange → ℕ → ℕ → Banked → Outcome
put_banked x member token p =
    record { answer = p.answer; exchange = set_supply (set_ledger x (with_row x.ledger member p.row)) (set x.supply token p.supply) }

-- ---- 3, 4: a member's row and a ticket

abbrev pub refused_placed : Row → Ticket → Refusal → Placed
refused_placed row ticket why = record { answer = Err why; row = row; ticket = ticket }

abbrev pub ordered_on : Row → Order → Placed
ordered_on row o =
    record {
      answer = Ok (o.offer.0, 0);
      row = debited_row row (offered o.side o.market) o.offer.0;
      ticket = record { state = Resting o };
    }

unfoldable pub order_on : Row → Ticket → Order → Placed
order_on row t o =
    decide (order_rest t.state (cell_of row (offered o.side o.market)) o.offer.0) (refused_placed row t) (ordered_on row o)

abbrev pub cancelled_on : Row → Order → Placed
cancelled_on row o =
    record {
      answer = Ok (o.offer.0, 0);
      row = credited_row row (offered o.side o.market) o.offer.0;
      ticket = free_ticket;
    }

unfoldable pub cancel_on : Row → Ticket → ℕ → Placed
cancel_on row t member =
    decide (cancel_rest t.state member) (refused_placed row t) (cancelled_on row (order_in t.state))

abbrev pub put_placed : Exchange → ℕ → ℕ → Placed → Outcome
put_placed x member k p =
    record { answer = p.answer; exchange = set_tickets (set_ledger x (with_row x.ledger member p.row)) (set x.tickets k p.ticket) }

-- ---- 5, 7, 9: a market and the last block

abbrev pub refused_moved : Market → Block → Refusal → Moved
refused_moved market last why = record { answer = Err why; market = market; last = last }

abbrev pub opened_on : ℕ → ℕ → ℕ → ℕ → Moved
opened_on at r w len =
    record {
      answer = Ok ((high_bound r w), (low_bound r w));
      market = record { phase = Collect (opened_round at r w len) };
      last = block at;
    }

unfoldable pub open_on : Market → Block → ℕ → ℕ → ℕ → ℕ → Moved
open_on market last at r w len =
    decide (open_rest market.phase last.0 at) (refused_moved market last) (opened_on at r w len)

abbrev pub matched_on : Round → ℕ → Moved
matched_on r at =
    record {
      answer = Ok ((trade_of r).base.0, (trade_of r).quote.0);
      market = record { phase = Auction (matched_round r at (trade_of r)) };
      last = block at;
    }

unfoldable pub match_on : Market → Block → ℕ → Moved
match_on market last at =
    decide (match_rest market.phase last.0 at) (refused_moved market last) (matched_on (round_in market.phase) at)

abbrev pub settled_on : Round → ℕ → Moved
settled_on r at =
    record {
      answer = Ok (r.buys.paid.0, r.sells.paid.0);
      market = record { phase = settled_phase r };
      last = block at;
    }

unfoldable pub settle_on : Market → Block → ℕ → Moved
settle_on market last at =
    decide (settle_rest market.phase last.0 at) (refused_moved market last) (settled_on (round_in market.phase) at)

abbrev pub put_moved : Exchange → ℕ → Moved → Outcome
put_moved x market p =
    record { answer = p.answer; exchange = set_last (set_markets x (set_market x.markets market p.market)) p.last }

-- ---- 6, 11: a ticket and its market

abbrev pub refused_joined : Ticket → Market → Refusal → Joined
refused_joined ticket market why = record { answer = Err why; ticket = ticket; market = market }

abbrev pub entered_on : Order → Round → ℕ → Joined
entered_on o r k =
    record {
      answer = Ok (((totals_of r o.side).total.0 + o.offer.0), 0);
      ticket = record { state = Entered o };
      market = record { phase = Collect (entered_round r k o.side o.offer.0) };
    }

unfoldable pub enter_on : Ticket → Market → ℕ → Joined
enter_on t market k =
    decide (enter_rest t.state market.phase) (refused_joined t market) (entered_on (order_in t.state) (round_in market.phase) k)

abbrev pub left_on : Order → Round → ℕ → Joined
left_on o r k =
    record {
      answer = Ok (o.offer.0, 0);
      ticket = record { state = Resting o };
      market = record { phase = Collect (left_round r k o.side o.offer.0) };
    }

unfoldable pub leave_on : Ticket → Market → ℕ → ℕ → Joined
leave_on t market k member =
    decide (leave_rest t.state market.phase member) (refused_joined t market) (left_on (order_in t.state) (round_in market.phase) k)

abbrev pub put_joined : Exchange → ℕ → ℕ → Joined → Outcome
put_joined x k market p =
    record { answer = p.answer; exchange = set_markets (set_tickets x (set x.tickets k p.ticket)) (set_market x.markets market p.market) }

-- ---- 8: a market, the maker's row and the last block

abbrev pub refused_traded : Market → Row → Block → Refusal → Traded
refused_traded market row last why = record { answer = Err why; market = market; row = row; last = last }

-- n base for q quote in market number, at a block
abbrev pub traded_on : Round → Row → ℕ → ℕ → Side → ℕ → ℕ → Traded
traded_on r row number at s n q =
    record {
      answer = Ok (n, q);
      market = record { phase = Auction (bid_round r s n q) };
      row = credited_row (debited_row row (wanted s number) (gives s n q)) (offered s number) (takes s n q);
      last = block at;
    }

unfoldable pub bid_on : Market → Row → Block → ℕ → ℕ → Side → ℕ → ℕ → Traded
bid_on market row last number at s n bound =
    let r = round_in market.phase in
    decide (bid_rest market.phase last.0 at s n bound (cell_of row (wanted s number))) (refused_traded market row last)
    (traded_on r row number at s n (bid_quote r s at n))

abbrev pub put_traded : Exchange → ℕ → ℕ → Traded → Outcome
put_traded x market member p =
    record {
      answer = p.answer;
      exchange = set_last (set_markets (set_ledger x (with_row x.ledger member p.row)) (set_market x.markets market p.market)) p.last;
    }

-- ---- 10: a ticket, its market, its member's row and two cells of the residue

abbrev pub refused_claimed : Ticket → Market → Row → Amount → Amount → Refusal → Claimed
refused_claimed ticket market row quote base why =
    record { answer = Err why; ticket = ticket; market = market; row = row; quote = quote; base = base }

-- the residue's cell, with what the round still held where its last ticket is gone
abbrev pub swept_into : Amount → Round → Amount → Amount
swept_into cell r held = cond (eqb (count_of r.tickets) 0) (amount (cell.0 + held.0)) cell

-- order o pays s and gets got; r is its round after that
abbrev pub paid_on : Row → Amount → Amount → Order → ℕ → ℕ → Round → Claimed
paid_on row quote base o s got r =
    record {
      answer = Ok (s, got);
      ticket = record { state = resting_or o (o.offer.0 - s) };
      market = record { phase = settled_phase r };
      row = credited_row row (wanted o.side o.market) got;
      quote = swept_into quote r r.quote;
      base = swept_into base r r.base;
    }

unfoldable pub claim_on : Ticket → Market → Row → Amount → Amount → ℕ → Claimed
claim_on t market row quote base k =
    let o = order_in t.state in
    let r = round_in market.phase in
    decide (claim_rest t.state market.phase) (refused_claimed t market row quote base)
    (paid_on row quote base o (share_in r o) (got_in r o) (claimed_round r k o.side (o.offer.0 - share_in r o) (got_in r o)))

abbrev pub put_claimed : Exchange → ℕ → ℕ → ℕ → Claimed → Outcome
put_claimed x k market member p =
    record {
      answer = p.answer;
      exchange =
          set_markets
          (set_tickets
          (set_residue (set_ledger x (with_row x.ledger member p.row)) (set (set x.residue 0 p.quote) market p.base))
          (set x.tickets k p.ticket))
          (set_market x.markets market p.market);
    }
