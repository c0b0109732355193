-- A line taken, and a list of lines: document 01's "A whole run" said of lines.
use Rattle.std.specs.Prelude.{ℕ, ◌≡◌, cond, List, [], ◌∷◌, ltb, length, Some, None, Option}
use Rattle.model.specs.declared.call.Call.{Call}
use Rattle.model.specs.declared.state.Exchange.{Exchange}
use Rattle.model.specs.declared.answer.Outcome.{Outcome}
use Rattle.model.specs.declared.answer.Refusal.TheVariants.{MalformedLine}
use Rattle.model.specs.State.{fresh_exchange}
use Rattle.model.specs.Answers.{Answer, answer_line}
use Rattle.model.specs.Calls.{refuse}
use Rattle.model.specs.Run.{Reachable, step_of, Engine, fitted, Event}
use Rattle.model.specs.History.{History, history_of}
use Rattle.model.specs.WholeRun.{Whole}
use Rattle.lines.specs.CallLines.{reading_of}
use Rattle.lines.specs.CallText.{line_of_call}
use Rattle.replay.specs.declared.line.Taken.{Taken}

-- ---- one line

-- what a line does: its call, or 20, "It is then no call, and 1 to 19 aren't tested"
abbrev pub outcome_of : Exchange → Option Call → Outcome
outcome_of x None = refuse x MalformedLine
outcome_of x (Some c) = step_of x c

-- a line without its byte 10
unfoldable pub line_outcome : Exchange → List ℕ → Outcome
line_outcome x line = outcome_of x (reading_of line)

-- its answer line
unfoldable pub line_text : Exchange → ℕ → List ℕ → List ℕ
line_text x number line = answer_line number (line_outcome x line).answer

-- a line without its byte 10, its number, and the bytes lent for its answer line
pub record LineRequest : Type 0 where
  pub number : ℕ
  pub room : ℕ
  pub line : List ℕ

-- an engine takes a line in a state
abbrev pub LineEngine : Type 0
LineEngine = Exchange → LineRequest → Outcome

-- 21: "It goes before every other code; nothing is written or moved"
unfoldable pub line_request_of : LineEngine
line_request_of x q = fitted x q.number q.room (line_outcome x q.line)

-- what is written: its answer line, or nothing where there is too little room
abbrev pub written_text : Exchange → LineRequest → List ℕ
written_text x q = cond (ltb q.room (length (line_text x q.number q.line))) [] (line_text x q.number q.line)

-- the answer, how many bytes were written, and the state after it
unfoldable pub taken_of : Exchange → ℕ → List ℕ → ℕ → Taken
taken_of x number line room =
    let q : LineRequest = record { number = number; room = room; line = line } in
    record { answered = record { answer = (line_request_of x q).answer; used = length (written_text x q) }; exchange = (line_request_of x q).exchange }

-- ---- a list of lines, each in the state that the line before it left

unfoldable pub state_after_lines : LineEngine → Exchange → List LineRequest → Exchange
state_after_lines g x [] = x
state_after_lines g x (q ∷ qs) = state_after_lines g (g x q).exchange qs

-- what a line tells: its call with the answer; a line that is no call tells nothing
abbrev pub tells : Option Call → Answer → List Event → List Event
tells None a es = es
tells (Some c) a es = record { call = c; answer = a } ∷ es

unfoldable pub events_of_lines : LineEngine → Exchange → List LineRequest → List Event
events_of_lines g x [] = []
events_of_lines g x (q ∷ qs) = tells (reading_of q.line) (g x q).answer (events_of_lines g (g x q).exchange qs)

-- ---- the statement

-- an engine of lines takes a call as the line that the call is written as; no other line is read as that call (`line-round` of lines/proofs)
abbrev pub by_lines : LineEngine → Engine
by_lines g x q = g x (record { number = q.line; room = q.room; line = line_of_call q.call })

-- after a list of lines: the whole-run statement, and that a line which is no call leaves the state
pub record WholeOfLines (g : LineEngine) (x : Exchange) (y : History) : Type 0 where
  pub whole : Whole (by_lines g) x y
  pub others_stay : (q : LineRequest) → reading_of q.line ≡ None → (g x q).exchange ≡ x

-- for every list of lines with their numbers and rooms, of any engine
abbrev pub WholeRunOfLinesBy : LineEngine → Type 0
WholeRunOfLinesBy g =
    (qs : List LineRequest) → WholeOfLines g (state_after_lines g fresh_exchange qs) (history_of (events_of_lines g fresh_exchange qs))

-- and of the model's
abbrev pub WholeRunOfLines : Type 0
WholeRunOfLines = WholeRunOfLinesBy line_request_of

-- a state that calls can leave stays one
abbrev pub LinesReachable : Type 0
LinesReachable = (x : Exchange) → Reachable x → (q : LineRequest) → Reachable (line_request_of x q).exchange
