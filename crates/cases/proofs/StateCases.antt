-- What is read off a state and the changes of a round, computed.
use Prim.Native.Nat.{ℕ}
use mathlib.Core.Bool.{true, false}
use mathlib.Core.Path.{◌≡◌, ap, refl, subst}
use mathlib.Core.List.{[], ◌∷◌, ◌++◌, map}
use Rattle.pricing.specs.declared.Side.TheVariants.{Buy, Sell}
use Rattle.model.specs.declared.state.TicketState.TheVariants.{Free, Resting, Entered}
use Rattle.model.specs.declared.state.Phase.TheVariants.{Closed, Collect, Auction, Paying}
use Rattle.pricing.specs.declared.Totals.{Totals}
use Rattle.model.specs.declared.state.TicketState.{TicketState}
use Rattle.model.specs.declared.call.Call.TheVariants.{Enter, Leave}
use Rattle.model.specs.State.{fresh_exchange, blank_round, order_in, resting_or, phase, round_in, totals_of}
use Rattle.model.specs.Calls.{accept}
use Rattle.model.specs.Run.{step_of}
use Rattle.model.specs.Submissions.{single, model_engine, events_of}
use Rattle.model.specs.History.{absent, history_of}
use Rattle.model.specs.WholeRun.{part_in}
use Rattle.cases.specs.Literals.{order}
use Rattle.cases.specs.StateCases.{sizes, ticket_tests, phase_tests, numbered, totals_fields, round_fields, rounds_changed, state_numbers, states_changed, EnterLeaveUsed, entering, leaving}
use Rattle.ledger.proofs.Laws.{fresh_all_zero}
use Rattle.model.proofs.Computing.{call_computes}

-- the sixteen rows by the ledger's law
pub fresh_sizes : sizes fresh_exchange ≡ 16 ∷ 4 ∷ 4 ∷ 64 ∷ 3 ∷ []
fresh_sizes = ap (λ (n : ℕ). n ∷ 4 ∷ 4 ∷ 64 ∷ 3 ∷ []) fresh_all_zero.shaped.rows

pub tickets_told : map ticket_tests (Free ∷ Resting (order 1 2 Sell 3 4) ∷ Entered (order 1 2 Sell 3 4) ∷ []) ≡ (true ∷ false ∷ []) ∷ (false ∷ false ∷ []) ∷ (false ∷ true ∷ []) ∷ []
tickets_told = refl

pub orders_told : map order_in (Free ∷ Resting (order 1 2 Sell 3 4) ∷ Entered (order 5 6 Sell 7 8) ∷ []) ≡ order 0 0 Buy 0 0 ∷ order 1 2 Sell 3 4 ∷ order 5 6 Sell 7 8 ∷ []
orders_told = refl

pub rests_told : map (resting_or (order 1 2 Sell 3 4)) (0 ∷ 1 ∷ 9 ∷ []) ≡ Free ∷ Resting (order 1 2 Sell 3 1) ∷ Resting (order 1 2 Sell 3 9) ∷ []
rests_told = refl

pub phases_told
    : map phase_tests (Closed ∷ Collect numbered ∷ Auction numbered ∷ Paying numbered ∷ [])
    ≡ (true ∷ false ∷ false ∷ false ∷ []) ∷ (false ∷ true ∷ false ∷ false ∷ []) ∷ (false ∷ false ∷ true ∷ false ∷ []) ∷ (false ∷ false ∷ false ∷ true ∷ []) ∷ []
phases_told = refl

pub rounds_told : map round_in (Closed ∷ Collect numbered ∷ Auction numbered ∷ Paying numbered ∷ []) ≡ blank_round ∷ numbered ∷ numbered ∷ numbered ∷ []
rounds_told = refl

pub sides_told : map (λ s. totals_fields (totals_of numbered s)) (Buy ∷ Sell ∷ []) ≡ (8 ∷ 9 ∷ 10 ∷ []) ∷ (11 ∷ 12 ∷ 13 ∷ []) ∷ []
sides_told = refl

pub rounds_changed_lem
    : map round_fields rounds_changed
    ≡ (1 ∷ 2 ∷ 3 ∷ 4 ∷ 5 ∷ 20 ∷ 7 ∷ 8 ∷ 9 ∷ 10 ∷ 11 ∷ 12 ∷ 13 ∷ 14 ∷ 15 ∷ [])
    ∷ (1 ∷ 2 ∷ 3 ∷ 4 ∷ 5 ∷ 6 ∷ 20 ∷ 8 ∷ 9 ∷ 10 ∷ 11 ∷ 12 ∷ 13 ∷ 14 ∷ 15 ∷ [])
    ∷ (1 ∷ 2 ∷ 3 ∷ 4 ∷ 5 ∷ 6 ∷ 7 ∷ 20 ∷ 21 ∷ 22 ∷ 11 ∷ 12 ∷ 13 ∷ 14 ∷ 15 ∷ [])
    ∷ (1 ∷ 2 ∷ 3 ∷ 4 ∷ 5 ∷ 6 ∷ 7 ∷ 8 ∷ 9 ∷ 10 ∷ 20 ∷ 21 ∷ 22 ∷ 14 ∷ 15 ∷ [])
    ∷ (1 ∷ 2 ∷ 3 ∷ 4 ∷ 5 ∷ 6 ∷ 7 ∷ 8 ∷ 9 ∷ 10 ∷ 11 ∷ 12 ∷ 13 ∷ 20 ∷ 15 ∷ [])
    ∷ (1 ∷ 2 ∷ 3 ∷ 4 ∷ 5 ∷ 6 ∷ 7 ∷ 8 ∷ 9 ∷ 10 ∷ 11 ∷ 12 ∷ 13 ∷ 14 ∷ 20 ∷ [])
    ∷ (1 ∷ 2 ∷ 3 ∷ 4 ∷ 5 ∷ 6 ∷ 7 ∷ 20 ∷ 21 ∷ 22 ∷ 23 ∷ 24 ∷ 25 ∷ 14 ∷ 15 ∷ [])
    ∷ (1 ∷ 2 ∷ 3 ∷ 4 ∷ 5 ∷ 6 ∷ 7 ∷ 8 ∷ 9 ∷ 10 ∷ 11 ∷ 12 ∷ 13 ∷ 20 ∷ 21 ∷ [])
    ∷ (1 ∷ 2 ∷ 3 ∷ 4 ∷ 5 ∷ 6 ∷ 5 ∷ 1 ∷ 9 ∷ 10 ∷ 11 ∷ 12 ∷ 13 ∷ 7 ∷ 15 ∷ [])
    ∷ (1 ∷ 2 ∷ 3 ∷ 4 ∷ 5 ∷ 6 ∷ 3 ∷ 8 ∷ 9 ∷ 10 ∷ 6 ∷ 12 ∷ 13 ∷ 14 ∷ 10 ∷ [])
    ∷ (21 ∷ 23 ∷ 24 ∷ 22 ∷ 20 ∷ 0 ∷ 0 ∷ 0 ∷ 0 ∷ 0 ∷ 0 ∷ 0 ∷ 0 ∷ 0 ∷ 0 ∷ [])
    ∷ (0 ∷ 0 ∷ 0 ∷ 0 ∷ 0 ∷ 0 ∷ 0 ∷ 0 ∷ 0 ∷ 0 ∷ 0 ∷ 0 ∷ 0 ∷ 0 ∷ 0 ∷ [])
    ∷ []
unfolding rounds_changed call_computes
rounds_changed_lem = refl

pub states_changed_lem
    : map state_numbers states_changed
    ≡ (1 ∷ 2 ∷ 3 ∷ 4 ∷ 5 ∷ 6 ∷ 0 ∷ 0 ∷ 0 ∷ 0 ∷ 0 ∷ [])
    ∷ (1 ∷ 2 ∷ 3 ∷ 4 ∷ 5 ∷ 6 ∷ 20 ∷ 0 ∷ 0 ∷ 0 ∷ 0 ∷ [])
    ∷ (0 ∷ 2 ∷ 3 ∷ 4 ∷ 5 ∷ 6 ∷ 0 ∷ 0 ∷ 0 ∷ 0 ∷ 0 ∷ [])
    ∷ (1 ∷ 2 ∷ 3 ∷ 4 ∷ 5 ∷ 6 ∷ 0 ∷ 20 ∷ 0 ∷ 0 ∷ 0 ∷ [])
    ∷ (1 ∷ 2 ∷ 3 ∷ 4 ∷ 5 ∷ 6 ∷ 0 ∷ 0 ∷ 20 ∷ 0 ∷ 0 ∷ [])
    ∷ (1 ∷ 2 ∷ 23 ∷ 4 ∷ 5 ∷ 6 ∷ 0 ∷ 0 ∷ 0 ∷ 0 ∷ 0 ∷ [])
    ∷ (1 ∷ 2 ∷ 3 ∷ 4 ∷ 5 ∷ 6 ∷ 0 ∷ 0 ∷ 0 ∷ 20 ∷ 0 ∷ [])
    ∷ (1 ∷ 2 ∷ 3 ∷ 4 ∷ 5 ∷ 6 ∷ 0 ∷ 0 ∷ 0 ∷ 0 ∷ 20 ∷ [])
    ∷ (1 ∷ 2 ∷ 3 ∷ 4 ∷ 5 ∷ 6 ∷ 0 ∷ 0 ∷ 0 ∷ 0 ∷ 0 ∷ [])
    ∷ (1 ∷ 2 ∷ 3 ∷ 4 ∷ 5 ∷ 20 ∷ 0 ∷ 0 ∷ 0 ∷ 0 ∷ 0 ∷ [])
    ∷ []
unfolding states_changed call_computes
states_changed_lem = refl

pub enter_leave_used : EnterLeaveUsed
enter_leave_used =
    record {
      enter_leave = λ h x r e a.
          subst (λ (t : TicketState). step_of (step_of x (Enter 63)).exchange (Leave 63 (order_in t).member) ≡ accept (order_in t).offer.0 0 x) e (h x r 63 268 0 a);
      leave_enter = λ h x r e g a.
          subst (λ (t : Totals). step_of (step_of x (Leave 63 15)).exchange (Enter 63) ≡ accept t.total.0 0 x) g
          (subst (λ (t : TicketState). step_of (step_of x (Leave 63 15)).exchange (Enter 63) ≡ accept (totals_of (round_in (phase x (order_in t).market)) (order_in t).side).total.0 0 x) e (h x r 63 15 170 0 a));
      left_absent = λ h qs a b e l.
          subst (λ (t : TicketState). part_in ((history_of (events_of model_engine fresh_exchange (qs ++ (single leaving ∷ [])))).rounds (order_in t).market) 63 ≡ absent) e
          (h qs leaving 63 15 refl a b l);
      enter_forgotten = λ h qs. h qs entering leaving 63 15 refl refl;
    }
