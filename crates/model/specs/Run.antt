-- One step, a run of calls, a request, and the states that calls can leave.
use Rattle.std.specs.Prelude.{ℕ, cond, List, [], ◌∷◌, ltb, length}
use Rattle.units.specs.Decide.{decide}
use Rattle.model.specs.declared.state.Exchange.{Exchange}
use Rattle.model.specs.declared.call.Call.{Call}
use Rattle.model.specs.declared.answer.Outcome.{Outcome}
use Rattle.model.specs.declared.answer.Refusal.TheVariants.{BufferTooShort}
use Rattle.model.specs.State.{fresh_exchange}
use Rattle.model.specs.Answers.{Answer, answer_line}
use Rattle.model.specs.Calls.{refuse, tests_of, done_of}

-- one call: its tests, and what it does where none applies
unfoldable pub step_of : Exchange → Call → Outcome
step_of x c = decide (tests_of x c) (refuse x) (done_of x c)

-- calls made one after the other, without lines and rooms: the state after them, and their answers
unfoldable pub after_calls : Exchange → List Call → Exchange
after_calls x [] = x
after_calls x (c ∷ cs) = after_calls (step_of x c).exchange cs

unfoldable pub answers_to_calls : Exchange → List Call → List Answer
answers_to_calls x [] = []
answers_to_calls x (c ∷ cs) = (step_of x c).answer ∷ answers_to_calls (step_of x c).exchange cs

-- a call with the number of its line and the bytes lent for its answer line
pub record Request : Type 0 where
  pub line : ℕ
  pub room : ℕ
  pub call : Call

-- an engine of requests takes one in a state
abbrev pub Engine : Type 0
Engine = Exchange → Request → Outcome

-- the outcome where its answer line fits into the room
abbrev pub fitted : Exchange → ℕ → ℕ → Outcome → Outcome
fitted x line room out = cond (ltb room (length (answer_line line out.answer))) (refuse x BufferTooShort) out

-- 21: "lent buffer shorter than the answer line with its end byte. It goes before every other code; nothing is written or moved"
unfoldable pub request_of : Engine
request_of x q = fitted x q.line q.room (step_of x q.call)

-- a call with its answer: all that history is worked from
pub record Event : Type 0 where
  pub call : Call
  pub answer : Answer

-- a state that calls can leave: "A host gets a house only as the fresh one or from a call". Fields are any numbers here; that a block
-- fits 32 bits is what its type says in a contract.
pub data Reachable : Exchange → Type 0 where
  at_first : Reachable fresh_exchange
  after_call : {x : Exchange} → Reachable x → (c : Call) → Reachable (step_of x c).exchange
