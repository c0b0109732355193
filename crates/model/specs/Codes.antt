-- That a step is the decision over its call's tests, and that these have the codes of its kind (Kinds.antt), rising.
use Rattle.std.specs.Prelude.{ℕ, ◌<◌, ◌≤◌, ◌≡◌, List, [], ◌∷◌, map, length}
use Rattle.units.specs.Decide.{Test, decide}
use Rattle.model.specs.declared.state.Exchange.{Exchange}
use Rattle.model.specs.declared.call.Call.{Call}
use Rattle.model.specs.declared.answer.Refusal.{Refusal}
use Rattle.model.specs.declared.answer.Refusal.TheVariants.{BufferTooShort}
use Rattle.model.specs.Answers.{refusal_code, code_of, answer_line}
use Rattle.model.specs.Calls.{refuse, tests_of, done_of}
use Rattle.model.specs.Kinds.{kinds, kind_of, codes_in}
use Rattle.model.specs.Run.{step_of, Request, request_of}

-- the codes that a call tests: those of its kind
abbrev pub codes_of : Call → List ℕ
codes_of c = codes_in kinds (kind_of c)

-- each number is above the one before it
abbrev pub Rising : List ℕ → Type 0
Rising [] = Unit {0}
Rising (a ∷ []) = Unit {0}
Rising (a ∷ (b ∷ l)) = (a < b) × Rising (b ∷ l)

-- "Every call tests in rising number the conditions that name it, and those of 1 to 5 whose field it has; the first that holds is returned"
pub record TestsRising (x : Exchange) (c : Call) : Type 0 where
  pub step_is : step_of x c ≡ decide (tests_of x c) (refuse x) (done_of x c)
  pub done_accepts : code_of (done_of x c).answer ≡ 0
  pub codes_are : map (λ (t : Test Refusal). refusal_code t.reason) (tests_of x c) ≡ codes_of c
  pub rising : Rising (codes_of c)

-- the statement, of all calls
abbrev pub CodesRising : Type 0
CodesRising = (x : Exchange) (c : Call) → TestsRising x c

-- 21 "goes before every other code; nothing is written or moved": a request is refused where the room is less than the line that its call would
-- be answered with, and is its call otherwise
pub record RoomFirst (x : Exchange) (q : Request) : Type 0 where
  pub short : q.room < length (answer_line q.line (step_of x q.call).answer) → request_of x q ≡ refuse x BufferTooShort
  pub enough : length (answer_line q.line (step_of x q.call).answer) ≤ q.room → request_of x q ≡ step_of x q.call

abbrev pub RoomsFirst : Type 0
RoomsFirst = (x : Exchange) (q : Request) → RoomFirst x q
