-- What taking whole lines promises.
use Rattle.std.specs.Prelude.{ℕ, ◌≤◌, ◌<◌, List, length}
use Rattle.lines.specs.AnswerText.{longest_answer}
use Rattle.lines.specs.CallLines.{line_in}
use Rattle.replay.specs.declared.day.Day.{Day}
use Rattle.replay.specs.declared.day.Fed.{Fed}
use Rattle.replay.specs.Days.{last_line}
use Rattle.replay.specs.Pieces.{Advanced}

-- nothing is taken, or at least the line that ends first; and that line is taken where lines are still read and any answer line fits
pub record WholeLines (d : Day) (input out out' : List ℕ) (r : Fed) : Type 0 where
  pub advanced : Advanced d input out out' r
  pub whole : 0 < r.used → length (line_in input) < r.used
  pub goes_on : d.done < last_line → longest_answer ≤ length out → length (line_in input) < length input → length (line_in input) < r.used
