-- How much room a day can need: a host that lends so much lends enough.
use Rattle.std.specs.Prelude.{ℕ, ◌+◌, ◌*◌, ◌≤◌, List, length}
use Rattle.lines.specs.AnswerText.{header, longest_answer}
use Rattle.replay.specs.Days.{day_of, lines_of, last_line}

-- no answer line is longer than 35 bytes, and after the last line none is written
pub record RoomBounded (input : List ℕ) : Type 0 where
  pub by_lines : length (day_of input) ≤ length header + longest_answer * length (lines_of input)
  pub by_last : length (day_of input) ≤ length header + longest_answer * last_line

abbrev pub RoomsBounded : Type 0
RoomsBounded = (input : List ℕ) → RoomBounded input
