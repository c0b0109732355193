-- What is read off a state and the changes of a round, on data where every number is another; and what entering and leaving at once give.
use Rattle.std.specs.Prelude.{ℕ, Bool, ◌≡◌, List, [], ◌∷◌, ◌++◌, length, Ok}
use Rattle.units.specs.Counts.{amount, price, block}
use Rattle.pricing.specs.declared.Side.TheVariants.{Buy, Sell}
use Rattle.pricing.specs.declared.Totals.{Totals}
use Rattle.model.specs.declared.state.TicketState.{TicketState}
use Rattle.model.specs.declared.state.TicketState.TheVariants.{Resting, Entered}
use Rattle.model.specs.declared.state.Round.{Round}
use Rattle.model.specs.declared.state.Phase.{Phase}
use Rattle.model.specs.declared.state.Phase.TheVariants.{Collect, Paying}
use Rattle.model.specs.declared.state.Exchange.{Exchange}
use Rattle.model.specs.declared.call.Call.TheVariants.{Enter, Leave}
use Rattle.model.specs.State.{is_free, is_entered, is_closed, is_collect, is_auction, is_paying}
use Rattle.model.specs.State.{with_start, with_tickets, with_buys, with_sells, with_quote, with_base, with_sides, with_held, opened_between, blank_round, balance, supply, residue, last_block, ticket, order_in, phase, round_in, with_supply, with_residue, with_ticket, with_phase, with_block, credit, debit, to_residue, fresh_exchange}
use Rattle.model.specs.Calls.{accept, left_round}
use Rattle.model.specs.Run.{step_of, Reachable, Request, request_of}
use Rattle.model.specs.Submissions.{Submission, single, model_engine, events_of, state_after}
use Rattle.model.specs.History.{absent, history_of}
use Rattle.model.specs.WholeRun.{part_in}
use Rattle.model.specs.EnterLeave.{EnterLeave, LeaveEnter, LeftAbsent, EnterForgotten}
use Rattle.cases.specs.Literals.{order, totals}

-- how many rows, supplies, residues, tickets and markets a state has
abbrev pub sizes : Exchange → List ℕ
sizes x = length x.ledger.rows ∷ length x.supply ∷ length x.residue ∷ length x.tickets ∷ length x.markets ∷ []

-- whether a ticket is free, and whether it is in a round
abbrev pub ticket_tests : TicketState → List Bool
ticket_tests t = is_free t ∷ is_entered t ∷ []

-- whether a market is closed, collects, is in auction, pays
abbrev pub phase_tests : Phase → List Bool
phase_tests p = is_closed p ∷ is_collect p ∷ is_auction p ∷ is_paying p ∷ []

-- a round whose numbers are all different
abbrev pub numbered : Round
numbered =
    record {
      reference = price 1;
      hi = price 2;
      lo = price 3;
      length = 4;
      opened = block 5;
      start = block 6;
      tickets = 7;
      buys = totals 8 9 10;
      sells = totals 11 12 13;
      quote = amount 14;
      base = amount 15;
    }

abbrev pub totals_fields : Totals → List ℕ
totals_fields t = t.total.0 ∷ t.paid.0 ∷ t.got.0 ∷ []

abbrev pub round_fields : Round → List ℕ
round_fields r =
    r.reference.0
    ∷ r.hi.0
    ∷ r.lo.0
    ∷ r.length
    ∷ r.opened.0
    ∷ r.start.0
    ∷ r.tickets
    ∷ r.buys.total.0
    ∷ r.buys.paid.0
    ∷ r.buys.got.0
    ∷ r.sells.total.0
    ∷ r.sells.paid.0
    ∷ r.sells.got.0
    ∷ r.quote.0
    ∷ r.base.0
    ∷ []

-- with one thing changed, with both sides and all that it holds changed, without ticket 1's buy of 7, without ticket 2's sell of 5, as it opens
-- at block 20 around 21 for 22 blocks, and blank
unfoldable pub rounds_changed : List Round
rounds_changed =
    with_start numbered 20
    ∷ with_tickets numbered 20
    ∷ with_buys numbered (totals 20 21 22)
    ∷ with_sells numbered (totals 20 21 22)
    ∷ with_quote numbered 20
    ∷ with_base numbered 20
    ∷ with_sides numbered (totals 20 21 22) (totals 23 24 25)
    ∷ with_held numbered 20 21
    ∷ left_round numbered 1 Buy 7
    ∷ left_round numbered 2 Sell 5
    ∷ opened_between 20 21 22 (price 23) (price 24)
    ∷ blank_round
    ∷ []

-- a state whose numbers are all different, and what is read off it at the first and at the last places
abbrev pub numbered_state : Exchange
numbered_state =
    with_block
    (with_phase (with_ticket (with_residue (with_supply (credit fresh_exchange 0 0 1) 0 2) 0 3) 0 (Resting (order 0 1 Buy 1 4))) 1 (Collect (opened_between 0 0 5 (price 0) (price 0))))
    6

abbrev pub state_numbers : Exchange → List ℕ
state_numbers x =
    balance x 0 0
    ∷ supply x 0
    ∷ residue x 0
    ∷ (order_in (ticket x 0)).offer.0
    ∷ (round_in (phase x 1)).length
    ∷ last_block x
    ∷ balance x 15 3
    ∷ supply x 3
    ∷ residue x 3
    ∷ (order_in (ticket x 63)).offer.0
    ∷ (round_in (phase x 3)).length
    ∷ []

unfoldable pub states_changed : List Exchange
states_changed =
    numbered_state
    ∷ credit numbered_state 15 3 20
    ∷ debit numbered_state 0 0 1
    ∷ with_supply numbered_state 3 20
    ∷ with_residue numbered_state 3 20
    ∷ to_residue numbered_state 0 20
    ∷ with_ticket numbered_state 63 (Resting (order 0 1 Buy 1 20))
    ∷ with_phase numbered_state 3 (Paying (opened_between 0 0 20 (price 0) (price 0)))
    ∷ with_phase numbered_state 0 (Paying (opened_between 0 0 20 (price 0) (price 0)))
    ∷ with_block numbered_state 20
    ∷ []

-- ---- "Entering and leaving at once gives the very house that was there before"

-- ticket 63 rests with its sell of 170, which makes the sells' total 268; or is in the round, whose sells' total is 268. So it is in sells_left
-- and sells_paid
abbrev pub EntersAndLeaves : Type 0
EntersAndLeaves =
    (x : Exchange) → Reachable x → ticket x 63 ≡ Resting (order 15 3 Sell 2250000 170) → (step_of x (Enter 63)).answer ≡ Ok (268, 0)
    → step_of (step_of x (Enter 63)).exchange (Leave 63 15) ≡ accept 170 0 x

abbrev pub LeavesAndEnters : Type 0
LeavesAndEnters =
    (x : Exchange) → Reachable x → ticket x 63 ≡ Entered (order 15 3 Sell 2250000 170) → (round_in (phase x 3)).sells ≡ totals 268 0 0
    → (step_of x (Leave 63 15)).answer ≡ Ok (170, 0)
    → step_of (step_of x (Leave 63 15)).exchange (Enter 63) ≡ accept 268 0 x

-- ticket 63 enters on line 40 and leaves on line 41, after any list and with any answers
abbrev pub entering : Request
entering = record { line = 40; room = 11; call = Enter 63 }

abbrev pub leaving : Request
leaving = record { line = 41; room = 11; call = Leave 63 15 }

abbrev pub LeavesAbsent : Type 0
LeavesAbsent =
    (ss : List Submission) (a b : ℕ)
    → let x : Exchange = state_after model_engine fresh_exchange ss in
    ticket x 63 ≡ Entered (order 15 3 Sell 2250000 170) → (request_of x leaving).answer ≡ Ok (a, b)
    → part_in ((history_of (events_of model_engine fresh_exchange (ss ++ (single leaving ∷ [])))).rounds 3) 63 ≡ absent

abbrev pub EntersForgotten : Type 0
EntersForgotten =
    (ss : List Submission) (a b c d : ℕ)
    → let x : Exchange = state_after model_engine fresh_exchange ss in
    (request_of x entering).answer ≡ Ok (a, b) → (request_of (request_of x entering).exchange leaving).answer ≡ Ok (c, d)
    → history_of (events_of model_engine fresh_exchange (ss ++ (single entering ∷ single leaving ∷ []))) ≡ history_of (events_of model_engine fresh_exchange ss)

pub record EnterLeaveUsed : Type 0 where
  pub enter_leave : EnterLeave → EntersAndLeaves
  pub leave_enter : LeaveEnter → LeavesAndEnters
  pub left_absent : LeftAbsent → LeavesAbsent
  pub enter_forgotten : EnterForgotten → EntersForgotten
