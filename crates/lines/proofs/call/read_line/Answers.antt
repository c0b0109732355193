-- `lines::call::read_line` meets its contract: the reader stopped short of the line's end, or the line is too long, or its call is that of the numbers read.
use mathlib.Core.Path.{◌∙◌}
use native.Mathlib.Omega.{arith}
use Rattle.lines.proofs.CallLaws.{end_is, line_stops, line_too_long, line_read}
use Rattle.lines.proofs.ReadingCode.{line_told}
use Rattle.lines.proofs.call.read_line.Goals as goal

pub returns-then-f-end : goal.returns-then-f-end
returns-then-f-end c =
    let told = line_told _ _ _ (line_stops _ _ _ _ c.read_fields-f.ensures c.line_end-end.ensures c.if-f-end.true) in
    record { value = told.0; tells = told.1 }

pub overflow_sub-end : goal.overflow_sub-end
overflow_sub-end c = omega (arith, c.line_end-end.ensures ∙ end_is _ _ _ c.read_fields-f.ensures)

pub returns-then-end-from-gt-LONGEST_LINE : goal.returns-then-end-from-gt-LONGEST_LINE
returns-then-end-from-gt-LONGEST_LINE c =
    let told = line_told _ _ _ (line_too_long _ _ _ (c.line_end-end.ensures ∙ end_is _ _ _ c.read_fields-f.ensures) c.if-end-from-gt-LONGEST_LINE.true) in
    record { value = told.0; tells = told.1 }

pub returns : goal.returns
returns c =
    let told = line_told _ _ _
    (line_read _ _ _ _ _ c.read_fields-f.ensures c.line_end-end.ensures c.if-f-end.false c.if-end-from-gt-LONGEST_LINE.false c.call_of.ensures) in
    record { value = told.0; tells = told.1 }
