-- The whole day, bytes in and bytes out: "prints a header and a line per input line".
use Rattle.std.specs.Prelude.{ℕ, ◌+◌, cond, List, [], ◌∷◌, ◌++◌, eqb, ◌≡◌, length, take}
use Rattle.model.specs.declared.state.Exchange.{Exchange}
use Rattle.model.specs.State.{fresh_exchange}
use Rattle.fields.specs.Grammar.{on_first}
use Rattle.lines.specs.AnswerText.{header}
use Rattle.replay.specs.Lines.{LineRequest, line_outcome, line_text, line_request_of, written_text, state_after_lines}

-- the lines of an input, without their bytes 10: "A last line without byte 10 counts if it has bytes"
abbrev pub lines_of : List ℕ → List (List ℕ)
lines_of [] = []
lines_of (b ∷ bs) = cond (eqb b 10) ([] ∷ lines_of bs) (on_first b (lines_of bs))

-- the answer lines to lines, numbered from n + 1 on
abbrev pub answer_text : Exchange → ℕ → List (List ℕ) → List ℕ
answer_text x n [] = []
answer_text x n (l ∷ ls) = line_text x (n + 1) l ++ answer_text (line_outcome x l).exchange (n + 1) ls

-- "It stops after line 4,294,967,295"
abbrev pub last_line : ℕ
last_line = 4294967295

unfoldable pub day_of : List ℕ → List ℕ
day_of input = header ++ answer_text fresh_exchange 0 (take last_line (lines_of input))

-- ---- the day as a run of lines

-- lines numbered from n + 1 on, each with just the room that its answer line takes
abbrev pub numbered : Exchange → ℕ → List (List ℕ) → List LineRequest
numbered x n [] = []
numbered x n (l ∷ ls) =
    record { number = n + 1; room = length (line_text x (n + 1) l); line = l } ∷ numbered (line_outcome x l).exchange (n + 1) ls

abbrev pub day_lines : List ℕ → List LineRequest
day_lines input = numbered fresh_exchange 0 (take last_line (lines_of input))

-- the state that a day leaves; so the whole-run statement holds of it
abbrev pub day_state : List ℕ → Exchange
day_state input = state_after_lines line_request_of fresh_exchange (day_lines input)

-- what a run of lines writes
abbrev pub run_text : Exchange → List LineRequest → List ℕ
run_text x [] = []
run_text x (q ∷ qs) = written_text x q ++ run_text (line_request_of x q).exchange qs

abbrev pub DayIsRun : Type 0
DayIsRun = (input : List ℕ) → day_of input ≡ header ++ run_text fresh_exchange (day_lines input)
