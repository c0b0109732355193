-- A line that ends, used.
use borrow.Author.Tests.{lt-ltb}
use Rattle.replay.specs.Days.{last_line}
use Rattle.replay.specs.Pieces.{next_byte, byte_text, end_line}
use Rattle.stream.specs.Examples.{LinesUsed}

pub lines_used : LinesUsed
unfolding next_byte byte_text end_line
lines_used =
    record {
      state = λ d out r h e. rw (lt-ltb d.done last_line h) e.state;
      count = λ d out r h e. rw (lt-ltb d.done last_line h) e.count;
      text = λ d out r h e. rw (lt-ltb d.done last_line h) e.text;
      fits = λ d l out r e. e.fits;
    }
