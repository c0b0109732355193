-- Demand 1, in the words of the order: "Any call with any numbers, from any state that calls can leave: accepted exactly when no refusal of 01 holds, moving exactly
-- what 01's steps give; else the first refusal in 01's order, two zeros, nothing changed". One statement of a code, two numbers and what is seen after a call, over
-- the conditions of Refusals.antt and the moves of Moves.antt. The engine's step meets it, and no other answer and view do. The same of L5's list of orders. 20 and
-- 21 are of lines and of lent buffers (`RoomFirst`; replay's `LineCodes`).
use Rattle.std.specs.Prelude.{ℕ, ◌<◌, ◌≡◌, List, [], ◌∷◌}
use Rattle.model.specs.declared.state.Exchange.{Exchange}
use Rattle.model.specs.declared.call.Call.{Call}
use Rattle.model.specs.declared.orders.OrderFields.{OrderFields}
use Rattle.model.specs.declared.orders.AnswerPlace.{AnswerPlace}
use Rattle.model.specs.View.{View, view}
use Rattle.model.specs.Answers.{Answer, code_of, first_of, second_of}
use Rattle.model.specs.Refusals.{Coded, ListCoded}
use Rattle.model.specs.Moves.{Moved}
use Rattle.model.specs.Run.{step_of, Reachable}
use Rattle.model.specs.OrderLists.{orders_of}

-- the view is the whole state: of the states that calls can leave no two have the same one
abbrev pub ViewsTell : Type 0
ViewsTell = (x y : Exchange) → Reachable x → Reachable y → view x ≡ view y → x ≡ y

-- ---- a call

-- from what is seen before it (x): a code, two numbers, and what is seen after it (y)
pub record Answered (x : View) (c : Call) (code a b : ℕ) (y : View) : Type 0 where
  pub coded : Coded x c code
  pub moves : code ≡ 0 → Moved c x y a b
  pub zeros : 0 < code → (a ≡ 0) × (b ≡ 0)
  pub stays : 0 < code → y ≡ x

-- an answer has these three numbers
abbrev pub AnsweredBy : View → Call → Answer → View → Type 0
AnsweredBy x c r y = Answered x c (code_of r) (first_of r) (second_of r) y

abbrev pub CallsAnswered : Type 0
CallsAnswered = (x : Exchange) → Reachable x → (c : Call) → AnsweredBy (view x) c (step_of x c).answer (view (step_of x c).exchange)

-- no other code, numbers and view are so
abbrev pub AnswersAlone : Type 0
AnswersAlone =
    (x y z : View) (c : Call) (m a b n d e : ℕ) → Answered x c m a b y → Answered x c n d e z → (n ≡ m) × (d ≡ a) × (e ≡ b) × (z ≡ y)

-- in any state, a refused call answers two zeros and leaves the whole state
abbrev pub RefusedStays : Type 0
RefusedStays =
    (x : Exchange) (c : Call)
    → let out = step_of x c in
    0 < code_of out.answer → (first_of out.answer ≡ 0) × (second_of out.answer ≡ 0) × (out.exchange ≡ x)

-- ---- a list of orders

-- "those of the orders made singly from first to last, refused ones in their places": each order from what the one before it left, its answer in its place
pub data MadeSingly : View → List OrderFields → List AnswerPlace → View → Type 0 where
  made_none : {x : View} → MadeSingly x [] [] x
  made_next : {x y z : View} {f : OrderFields} {fs : List OrderFields} {p : AnswerPlace} {ps : List AnswerPlace}
      → AnsweredBy x (Call.Order f.ticket f.member f.market f.side f.limit f.amount) p.answer y → MadeSingly y fs ps z
      → MadeSingly x (f ∷ fs) (p ∷ ps) z

-- from what is seen before the call (x) and the places before it: its answer, the places after it, and what is seen after it (y)
pub record ListAnswered (x : View) (fs : List OrderFields) (before : List AnswerPlace) (r : Answer) (after : List AnswerPlace) (y : View) : Type 0 where
  pub coded : ListCoded fs before (code_of r)
  -- "The call's own answer is 0, or its refusal, with two zeros"
  pub zeros : (first_of r ≡ 0) × (second_of r ≡ 0)
  pub made : code_of r ≡ 0 → MadeSingly x fs after y
  -- "both lists and the house then stay"
  pub stays : code_of r ≡ 22 → (y ≡ x) × (after ≡ before)

abbrev pub ListsAnswered : Type 0
ListsAnswered =
    (x : Exchange) → Reachable x → (fs : List OrderFields) (ps : List AnswerPlace)
    → let l = orders_of x fs ps in
    ListAnswered (view x) fs ps l.answer l.answers (view l.exchange)

-- the same code and numbers in two answers, and in each place of two lists
abbrev pub SameAnswer : Answer → Answer → Type 0
SameAnswer r s = (code_of s ≡ code_of r) × (first_of s ≡ first_of r) × (second_of s ≡ second_of r)

pub data SamePlaces : List AnswerPlace → List AnswerPlace → Type 0 where
  same_none : SamePlaces [] []
  same_next : {p q : AnswerPlace} {ps qs : List AnswerPlace} → SameAnswer p.answer q.answer → SamePlaces ps qs → SamePlaces (p ∷ ps) (q ∷ qs)

-- no other answers, places and view are so
abbrev pub ListsAlone : Type 0
ListsAlone =
    (x y z : View) (fs : List OrderFields) (before ps qs : List AnswerPlace) (r s : Answer)
    → ListAnswered x fs before r ps y → ListAnswered x fs before s qs z
    → SameAnswer r s × SamePlaces ps qs × (z ≡ y)

-- in any state: a list's code, its two zeros, and that a refused one leaves the whole state
abbrev pub ListsCoded : Type 0
ListsCoded =
    (x : Exchange) (fs : List OrderFields) (ps : List AnswerPlace)
    → let l = orders_of x fs ps in
    ListCoded fs ps (code_of l.answer) × (first_of l.answer ≡ 0) × (second_of l.answer ≡ 0)

abbrev pub ListStays : Type 0
ListStays =
    (x : Exchange) (fs : List OrderFields) (ps : List AnswerPlace)
    → let l = orders_of x fs ps in
    code_of l.answer ≡ 22 → (l.exchange ≡ x) × (l.answers ≡ ps)
