-- The list of a whole run: requests, and the calls on the house that have no line. "The list holds any of the ten calls with any fields, accepted or turned
-- down, 21 included, and any call on the house that is added later". A call that is added without a line is a case of `Submission`, a function of
-- `WholeEngine`, a clause of `told_by` and of `left_by`, and what the statement says of it a part of `WholeHouse` (WholeRun.antt).
use Rattle.std.specs.Prelude.{List, [], ◌∷◌, ◌++◌, map, ◌≡◌, Ok, Err}
use Rattle.model.specs.declared.state.Exchange.{Exchange}
use Rattle.model.specs.Answers.{Answer}
use Rattle.model.specs.declared.orders.OrderFields.{OrderFields}
use Rattle.model.specs.declared.orders.AnswerPlace.{AnswerPlace}
use Rattle.model.specs.State.{fresh_exchange}
use Rattle.model.specs.Run.{Request, Engine, request_of, Event, Reachable}
use Rattle.model.specs.OrderLists.{Listed, order_call, orders_of}

-- an element of the list: a request, or a list of orders with the places of its answers
pub data Submission : Type 0 where
  single : Request → Submission
  order_list : List OrderFields → List AnswerPlace → Submission

-- an engine of lists of orders takes one in a state
abbrev pub ListEngine : Type 0
ListEngine = Exchange → List OrderFields → List AnswerPlace → Listed

-- an engine of the whole house: a function for each sort of element
pub record WholeEngine : Type 0 where
  pub request : Engine
  pub order_list : ListEngine

-- the model's
abbrev pub model_engine : WholeEngine
model_engine = record { request = request_of; order_list = orders_of }

-- each order of a list with the answer in its place; an order past the last answer would go untold, which `all-answered` of the statement rules out
unfoldable pub orders_told : List OrderFields → List AnswerPlace → List Event
orders_told [] ps = []
orders_told (f ∷ fs) [] = []
orders_told (f ∷ fs) (p ∷ ps) = record { call = order_call f; answer = p.answer } ∷ orders_told fs ps

-- an accepted list tells one event for each of its orders, in their order; a refused one tells nothing
abbrev pub list_told : List OrderFields → Answer → List AnswerPlace → List Event
list_told fs (Ok (a, b)) ps = orders_told fs ps
list_told fs (Err r) ps = []

-- what an element tells, and the state after it
abbrev pub told_by : WholeEngine → Exchange → Submission → List Event
told_by e x (single q) = record { call = q.call; answer = (e.request x q).answer } ∷ []
told_by e x (order_list fs ps) = list_told fs (e.order_list x fs ps).answer (e.order_list x fs ps).answers

abbrev pub left_by : WholeEngine → Exchange → Submission → Exchange
left_by e x (single q) = (e.request x q).exchange
left_by e x (order_list fs ps) = (e.order_list x fs ps).exchange

-- "The first gets the fresh house, each other one the house that the call before it left": what an engine answers to a list, and the state after it
unfoldable pub events_of : WholeEngine → Exchange → List Submission → List Event
events_of e x [] = []
events_of e x (s ∷ ss) = told_by e x s ++ events_of e (left_by e x s) ss

unfoldable pub state_after : WholeEngine → Exchange → List Submission → Exchange
state_after e x [] = x
state_after e x (s ∷ ss) = state_after e (left_by e x s) ss

-- the states that such runs leave are those that calls can leave
abbrev pub LeftByRun : Exchange → Type 0
LeftByRun x = (ss : List Submission) × (state_after model_engine fresh_exchange ss ≡ x)

abbrev pub ReachableIsRun : Type 0
ReachableIsRun = (x : Exchange) → (Reachable x → LeftByRun x) × (LeftByRun x → Reachable x)

-- Lists of orders spelled out: requests alone that tell the same and leave the same state, a request for each order of an accepted list
pub record SpelledOut (x : Exchange) (told : List Event) (left : Exchange) : Type 0 where
  pub requests : List Request
  pub tell : events_of model_engine x (map single requests) ≡ told
  pub leave : state_after model_engine x (map single requests) ≡ left

abbrev pub RunsSpelledOut : Type 0
RunsSpelledOut = (x : Exchange) (ss : List Submission) → SpelledOut x (events_of model_engine x ss) (state_after model_engine x ss)
