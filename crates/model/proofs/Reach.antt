-- The states that calls can leave: some history fits each of them, and they are the states that lists of submissions leave. Lists of orders spelled out.
use mathlib.Core.Bool.{Bool, cond, false, true}
use mathlib.Core.List.{List, [], ◌++◌, ◌∷◌, map}
use mathlib.Core.Path.{◌∙◌, ◌≡◌, ap, refl, subst}
use native.Mathlib.Nat.{le_refl}
use lib.Dec.{ltb}
use lib.ListN.{length}
use Rattle.model.specs.Answers.{answer_line}
use Rattle.model.specs.Calls.{refuse}
use Rattle.model.specs.History.{History, no_history, with_event}
use Rattle.model.specs.OrderLists.{Listed, list_done, order_call}
use Rattle.model.specs.Run.{Event, Reachable, Request, after_call, after_calls, answers_to_calls, at_first, request_of, step_of}
use Rattle.model.specs.Submissions.{LeftByRun, ReachableIsRun, RunsSpelledOut, SpelledOut, Submission, events_of, left_by, list_told, model_engine, order_list, orders_told, single, state_after}
use Rattle.model.specs.State.{fresh_exchange}
use Rattle.model.specs.declared.answer.Outcome.{Outcome}
use Rattle.model.specs.declared.answer.Refusal.TheVariants.{BufferTooShort}
use Rattle.model.specs.declared.call.Call.{Call}
use Rattle.model.specs.declared.orders.OrderFields.{OrderFields}
use Rattle.model.specs.declared.state.Exchange.{Exchange}
use Rattle.model.proofs.Codes.{rooms_first}
use Rattle.model.proofs.Inv.{Inv}
use Rattle.model.proofs.OrderLists.{list_apart, orders_reachable}
use Rattle.model.proofs.WholeRun.{fresh_inv, step_keeps}

pub reachable_inv : {x : Exchange} → Reachable x → (y : History) × Inv x y
reachable_inv at_first = (no_history, fresh_inv)
reachable_inv (after_call {x} l c) =
    let p = reachable_inv l in
    (with_event p.0 c (step_of x c).answer, step_keeps x p.0 p.1 c)

-- ---- by calls and by submissions

reachable_request : (x : Exchange) → Reachable x → (q : Request) → Reachable (request_of x q).exchange
unfolding request_of
reachable_request x l q = go (ltb q.room (length (answer_line q.line (step_of x q.call).answer)))
  where
    go : (t : Bool) → Reachable (cond t (refuse x BufferTooShort) (step_of x q.call)).exchange
    go true = l
    go false = after_call l q.call

reachable_submission : (x : Exchange) → Reachable x → (s : Submission) → Reachable (left_by model_engine x s)
reachable_submission x l (single q) = reachable_request x l q
reachable_submission x l (order_list fs ps) = orders_reachable x l fs ps

reachable_from : (x : Exchange) → Reachable x → (ss : List Submission) → Reachable (state_after model_engine x ss)
unfolding state_after
reachable_from x l [] = l
reachable_from x l (s ∷ ss) = reachable_from (left_by model_engine x s) (reachable_submission x l s) ss

after_more : (x : Exchange) (ss : List Submission) (s : Submission) → state_after model_engine x (ss ++ (s ∷ [])) ≡ left_by model_engine (state_after model_engine x ss) s
unfolding state_after
after_more x [] s = refl
after_more x (r ∷ ss) s = after_more (left_by model_engine x r) ss s

-- a call with exactly enough room
roomy : Exchange → Call → Request
roomy x c = record { line = 1; room = length (answer_line 1 (step_of x c).answer); call = c }

roomy_steps : (x : Exchange) (c : Call) → request_of x (roomy x c) ≡ step_of x c
unfolding roomy
roomy_steps x c = (rooms_first x (roomy x c)).enough (le_refl (length (answer_line 1 (step_of x c).answer)))

no_submissions : state_after model_engine fresh_exchange [] ≡ fresh_exchange
unfolding state_after
no_submissions = refl

run_to : {x : Exchange} → Reachable x → LeftByRun x
run_to at_first = ([], no_submissions)
run_to (after_call {x} l c) =
    let p = run_to l in (
      p.0 ++ (single (roomy x c) ∷ []),
      after_more fresh_exchange p.0 (single (roomy x c))
          ∙ ap (λ (v : Exchange). (request_of v (roomy x c)).exchange) p.1
          ∙ ap (λ (o : Outcome). o.exchange) (roomy_steps x c),
    )

pub reachable_is_run : ReachableIsRun
reachable_is_run x = (λ l. run_to l, λ p. subst Reachable p.1 (reachable_from fresh_exchange at_first p.0))

-- ---- lists of orders spelled out

-- a call before what is spelled out already, as a request with room
one_more : (x : Exchange) (c : Call) (es : List Event) (y : Exchange) → SpelledOut (step_of x c).exchange es y → SpelledOut x (record { call = c; answer = (step_of x c).answer } ∷ es) y
unfolding events_of state_after roomy
one_more x c es y p =
    record {
      requests = roomy x c ∷ p.requests;
      tell =
          ap (λ (o : Outcome). record { call = c; answer = o.answer } ∷ events_of model_engine o.exchange (map single p.requests)) (roomy_steps x c)
          ∙ ap (λ (l : List Event). record { call = c; answer = (step_of x c).answer } ∷ l) p.tell;
      leave = ap (λ (o : Outcome). state_after model_engine o.exchange (map single p.requests)) (roomy_steps x c) ∙ p.leave;
    }

-- the orders of a list that is made
orders_more : (x : Exchange) (fs : List OrderFields) (es : List Event) (y : Exchange) → SpelledOut (list_done x fs).exchange es y
    → SpelledOut x (orders_told fs (list_done x fs).answers ++ es) y
unfolding after_calls answers_to_calls orders_told
orders_more x [] es y p = p
orders_more x (f ∷ fs) es y p =
    one_more x (order_call f) (orders_told fs (list_done (step_of x (order_call f)).exchange fs).answers ++ es) y (orders_more (step_of x (order_call f)).exchange fs es y p)

pub runs_spelled_out : RunsSpelledOut
unfolding events_of state_after
runs_spelled_out x [] = record { requests = []; tell = refl; leave = refl }
runs_spelled_out x (single q ∷ ss) =
    let p : SpelledOut (request_of x q).exchange _ _ = runs_spelled_out (request_of x q).exchange ss in
    record {
      requests = q ∷ p.requests;
      tell = ap (λ (l : List Event). record { call = q.call; answer = (request_of x q).answer } ∷ l) p.tell;
      leave = p.leave;
    }
runs_spelled_out x (order_list fs ps ∷ ss) =
    list_apart x fs ps (λ (l : Listed). SpelledOut x (list_told fs l.answer l.answers ++ events_of model_engine l.exchange ss) (state_after model_engine l.exchange ss))
    (runs_spelled_out x ss) (λ e m. orders_more x fs _ _ (runs_spelled_out (list_done x fs).exchange ss))
