-- What a computed day unfolds, named once.
use Rattle.units.specs.Decimal.{digits}
use Rattle.fields.specs.Grammar.{number_of, line_numbers}
use Rattle.lines.specs.CallLines.{of_kind, reading_of}
use Rattle.model.specs.Answers.{answer_line}
use Rattle.model.proofs.Computing.{call_computes}
use Rattle.replay.specs.Lines.{line_outcome, line_text}
use Rattle.replay.specs.Days.{day_of}
use Rattle.replay.specs.Pieces.{end_line, next_byte, byte_text}

-- a line
unfoldable pub line_computes : Unit {0}
unfolding call_computes line_outcome line_text reading_of of_kind line_numbers number_of answer_line digits
line_computes = tt

-- a day, whole or in pieces
unfoldable pub day_computes : Unit {0}
unfolding line_computes day_of end_line next_byte byte_text
day_computes = tt
