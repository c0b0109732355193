-- Document 02, L5, a morning's orders at once: "A call takes a lent list of orders, up to 64, and a lent list of answers as long." It has no kind and no
-- line, and so neither 20 nor 21.
use Rattle.std.specs.Prelude.{ℕ, ◌≤◌, not, ◌||◌, List, [], ◌∷◌, ◌++◌, map, ◌≡◌, eqb, length, Ok, Err}
use Rattle.units.specs.Ranges.{most_orders}
use Rattle.units.specs.Decide.{Test, when, decide}
use Rattle.model.specs.declared.state.Exchange.{Exchange}
use Rattle.model.specs.declared.call.Call.{Call}
use Rattle.model.specs.declared.answer.Refusal.{Refusal}
use Rattle.model.specs.declared.answer.Refusal.TheVariants.{BadOrderList}
use Rattle.model.specs.Answers.{Answer}
use Rattle.model.specs.declared.answer.Outcome.{Outcome}
use Rattle.model.specs.declared.orders.OrderFields.{OrderFields}
use Rattle.model.specs.declared.orders.AnswerPlace.{AnswerPlace}
use Rattle.model.specs.Calls.{above}
use Rattle.model.specs.Run.{step_of, after_calls, answers_to_calls, Reachable}

-- an order of the list, as the single call
abbrev pub order_call : OrderFields → Call
order_call f = Call.Order f.ticket f.member f.market f.side f.limit f.amount

-- an answer in its place
abbrev pub place_of : Answer → AnswerPlace
place_of a = record { answer = a }

-- the call's own answer, the list of answers and the state after it
pub record Listed : Type 0 where
  pub answer : Answer
  pub answers : List AnswerPlace
  pub exchange : Exchange

-- "Refused: 22 for the whole call, tested before all else, when the lists differ in length or have more than 64 places". Where they do not differ, both have
-- more or neither has, so one of the two lengths is tested
abbrev pub list_tests : (orders places : ℕ) → List (Test Refusal)
list_tests orders places = when (not (eqb orders places) || above orders most_orders) BadOrderList ∷ []

-- "both lists and the house then stay", with "two zeros", as every refusal. The list of orders is lent to be read, so that no call can change it
abbrev pub list_refused : Exchange → List AnswerPlace → Refusal → Listed
list_refused x places r = record { answer = Err r; answers = places; exchange = x }

-- "The house and answers afterwards are those of the orders made singly from first to last, refused ones in their places. A refused order takes its place in
-- the answers and doesn't stop those after it." The call's own answer is "0 .. with two zeros"
abbrev pub list_done : Exchange → List OrderFields → Listed
list_done x orders =
    let calls : List Call = map order_call orders in
    record { answer = Ok (0, 0); answers = map place_of (answers_to_calls x calls); exchange = after_calls x calls }

unfoldable pub orders_of : Exchange → List OrderFields → List AnswerPlace → Listed
orders_of x orders places = decide (list_tests (length orders) (length places)) (list_refused x places) (list_done x orders)

-- ---- what follows

-- a state that a list leaves is one that calls can leave
abbrev pub OrdersReachable : Type 0
OrdersReachable = (x : Exchange) → Reachable x → (orders : List OrderFields) (places : List AnswerPlace) → Reachable (orders_of x orders places).exchange

-- The next three fix what an accepted list does, by the single order alone.

-- "An empty list changes nothing", whatever places are lent
pub record NothingChanges (x : Exchange) (places : List AnswerPlace) (l : Listed) : Type 0 where
  pub state : l.exchange ≡ x
  pub answers : l.answers ≡ places

abbrev pub EmptyList : Type 0
EmptyList = (x : Exchange) (places : List AnswerPlace) → NothingChanges x places (orders_of x [] places)

-- a list of one order is that order
abbrev pub ListOfOne : Type 0
ListOfOne =
    (x : Exchange) (f : OrderFields) (p : AnswerPlace) → let o : Outcome = step_of x (order_call f) in
    orders_of x (f ∷ []) (p ∷ []) ≡ record { answer = Ok (0, 0); answers = place_of o.answer ∷ []; exchange = o.exchange }

-- a list cut in two and made by two calls gives the same state and the same answers
pub record CutAlike (whole first second : Listed) : Type 0 where
  pub state : whole.exchange ≡ second.exchange
  pub answers : whole.answers ≡ first.answers ++ second.answers
  pub whole_accepted : whole.answer ≡ Ok (0, 0)
  pub first_accepted : first.answer ≡ Ok (0, 0)
  pub second_accepted : second.answer ≡ Ok (0, 0)

abbrev pub ListsCut : Type 0
ListsCut =
    (x : Exchange) (fs gs : List OrderFields) (ps qs : List AnswerPlace) → length fs ≡ length ps → length gs ≡ length qs → length (fs ++ gs) ≤ most_orders
    → let first : Listed = orders_of x fs ps in
    CutAlike (orders_of x (fs ++ gs) (ps ++ qs)) first (orders_of first.exchange gs qs)
