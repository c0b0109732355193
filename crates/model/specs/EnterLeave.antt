-- L2: "Entering and leaving at once gives the very house that was there before", and so do leaving and entering, of every state that calls can leave;
-- and "the enter it undoes no longer counts there", of the history of every list.
use Rattle.std.specs.Prelude.{ℕ, List, [], ◌∷◌, ◌++◌, ◌≡◌, Ok}
use Rattle.model.specs.declared.state.Exchange.{Exchange}
use Rattle.model.specs.declared.state.Round.{Round}
use Rattle.model.specs.declared.state.Order.{Order}
use Rattle.model.specs.declared.call.Call.TheVariants as Call
use Rattle.model.specs.State.{ticket, order_in, phase, round_in, totals_of, fresh_exchange}
use Rattle.model.specs.Calls.{accept}
use Rattle.model.specs.Run.{step_of, Reachable, Request, request_of}
use Rattle.model.specs.Submissions.{Submission, single, model_engine, events_of, state_after}
use Rattle.model.specs.History.{History, absent, history_of}
use Rattle.model.specs.WholeRun.{part_in}

-- an enter that is accepted, and then its member's leave, which answers the offer and 0
abbrev pub EnterLeave : Type 0
EnterLeave =
    (x : Exchange) → Reachable x → (k a b : ℕ) → (step_of x (Call.Enter k)).answer ≡ Ok (a, b)
    → let o : Order = order_in (ticket x k) in
    step_of (step_of x (Call.Enter k)).exchange (Call.Leave k o.member) ≡ accept o.offer.0 0 x

-- a leave that is accepted, and then the ticket's enter, which answers its side's total from before and 0
abbrev pub LeaveEnter : Type 0
LeaveEnter =
    (x : Exchange) → Reachable x → (k member a b : ℕ) → (step_of x (Call.Leave k member)).answer ≡ Ok (a, b)
    → let o : Order = order_in (ticket x k) in
    let r : Round = round_in (phase x o.market) in
    step_of (step_of x (Call.Leave k member)).exchange (Call.Enter k) ≡ accept (totals_of r o.side).total.0 0 x

-- after any list of submissions, a leave that is accepted: its ticket is none of its round's, whatever was told since its enter
abbrev pub LeftAbsent : Type 0
LeftAbsent =
    (ss : List Submission) (leave : Request) (k member : ℕ) → leave.call ≡ Call.Leave k member
    → let x : Exchange = state_after model_engine fresh_exchange ss in
    (a b : ℕ) → (request_of x leave).answer ≡ Ok (a, b)
    → let y : History = history_of (events_of model_engine fresh_exchange (ss ++ (single leave ∷ []))) in
    part_in (y.rounds (order_in (ticket x k)).market) k ≡ absent

-- a list of submissions with an enter and a leave of the same ticket after it, both accepted, tells history what the list alone tells
abbrev pub EnterForgotten : Type 0
EnterForgotten =
    (ss : List Submission) (enter leave : Request) (k member : ℕ) → enter.call ≡ Call.Enter k → leave.call ≡ Call.Leave k member
    → let x : Exchange = state_after model_engine fresh_exchange ss in
    (a b c d : ℕ) → (request_of x enter).answer ≡ Ok (a, b) → (request_of (request_of x enter).exchange leave).answer ≡ Ok (c, d)
    → history_of (events_of model_engine fresh_exchange (ss ++ (single enter ∷ single leave ∷ []))) ≡ history_of (events_of model_engine fresh_exchange ss)
