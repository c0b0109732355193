-- A line taken once its end has come.
use Rattle.std.specs.Prelude.{ℕ, ◌+◌, ◌≤◌, ◌≡◌, List, [], length, take}
use Rattle.model.specs.declared.state.Exchange.{Exchange}
use Rattle.lines.specs.CallLines.{line_in}
use Rattle.replay.specs.declared.day.Day.{Day}
use Rattle.replay.specs.declared.day.Fed.{Fed}
use Rattle.replay.specs.Lines.{line_outcome, line_text}
use Rattle.replay.specs.Pieces.{stream_of}

-- the line l taken on day d: the day after it, in which no line has begun, and its answer line
pub record LineEnded (d : Day) (l out' : List ℕ) (r : Fed) : Type 0 where
  pub state : stream_of r.day ≡ record { exchange = (line_outcome d.exchange l).exchange; done = d.done + 1; line = [] }
  pub count : r.wrote ≡ length (line_text d.exchange (d.done + 1) l)
  pub text : take r.wrote out' ≡ line_text d.exchange (d.done + 1) l
  pub fits : r.wrote ≤ length out'

-- of a line's text, bytes that do what it does, and have no byte 10 among them
pub record Unbroken (text bytes : List ℕ) : Type 0 where
  pub inside : length bytes ≤ length text
  pub no_ten : length bytes ≤ length (line_in bytes)
  pub same : (x : Exchange) → line_outcome x bytes ≡ line_outcome x text
