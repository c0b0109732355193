-- "its number from 1 .. It stops after line 4,294,967,295": which lines are answered, said with that number.
use Rattle.std.specs.Prelude.{ℕ, zero, suc, ◌+◌, ◌-◌, ◌≤◌, min, ◌≡◌, List, [], ◌∷◌, ◌++◌, map, length, take}
use Rattle.model.specs.declared.state.Exchange.{Exchange}
use Rattle.model.specs.State.{fresh_exchange}
use Rattle.lines.specs.AnswerText.{header}
use Rattle.replay.specs.Lines.{LineRequest, line_request_of, state_after_lines}
use Rattle.replay.specs.Days.{lines_of, answer_text, day_of, numbered, day_lines}
use Rattle.replay.specs.Pieces.{Stream, after, text_of, end_text, ended}

-- so many numbers, from a on
abbrev pub count_from : ℕ → ℕ → List ℕ
count_from a zero = []
count_from a (suc k) = a ∷ count_from (a + 1) k

-- a day answers its lines, numbered from 1, and none after 4,294,967,295
pub record DayStops (input : List ℕ) : Type 0 where
  pub text : day_of input ≡ header ++ answer_text fresh_exchange 0 (take 4294967295 (lines_of input))
  pub numbers : map (λ (q : LineRequest). q.number) (day_lines input) ≡ count_from 1 (min 4294967295 (length (lines_of input)))

-- a stream after n lines and before the next
abbrev pub between : Exchange → ℕ → Stream
between x n = record { exchange = x; done = n; line = [] }

-- from there on 4,294,967,295 - n lines more are answered, and no line has a number above 4,294,967,295
pub record StreamStops (x : Exchange) (n : ℕ) (input : List ℕ) : Type 0 where
  pub text : text_of (between x n) input ++ end_text (after (between x n) input) ≡ answer_text x n (take (4294967295 - n) (lines_of input))
  pub state :
      (ended (after (between x n) input)).exchange ≡ state_after_lines line_request_of x (numbered x n (take (4294967295 - n) (lines_of input)))
  pub done : n ≤ 4294967295 → (ended (after (between x n) input)).done ≡ min 4294967295 (n + length (lines_of input))

abbrev pub LastLine : Type 0
LastLine = ((input : List ℕ) → DayStops input) × ((x : Exchange) (n : ℕ) (input : List ℕ) → StreamStops x n input)
