-- What a line that ends gives of any day, line and bytes: it is the stream's next byte, 10.
use Rattle.std.specs.Prelude.{ℕ, ◌≤◌, ◌<◌, ◌≡◌, List, length, take}
use Rattle.replay.specs.declared.day.Day.{Day}
use Rattle.replay.specs.declared.day.Fed.{Fed}
use Rattle.replay.specs.Days.{last_line}
use Rattle.replay.specs.Pieces.{stream_of, next_byte, byte_text}
use Rattle.stream.specs.Lines.{LineEnded}

pub record LinesUsed : Type 0 where
  pub state : (d : Day) (out : List ℕ) (r : Fed) → d.done < last_line → LineEnded d (stream_of d).line out r → stream_of r.day ≡ next_byte (stream_of d) 10
  pub count : (d : Day) (out : List ℕ) (r : Fed) → d.done < last_line → LineEnded d (stream_of d).line out r → r.wrote ≡ length (byte_text (stream_of d) 10)
  pub text : (d : Day) (out : List ℕ) (r : Fed) → d.done < last_line → LineEnded d (stream_of d).line out r → take r.wrote out ≡ byte_text (stream_of d) 10
  pub fits : (d : Day) (l out : List ℕ) (r : Fed) → LineEnded d l out r → r.wrote ≤ length out
