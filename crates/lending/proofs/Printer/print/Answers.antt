use Rattle.lending.proofs.Taking.{written_part}
use Rattle.lending.proofs.Printer.print.Goals as goal

pub slice_bounds-print_text-end : goal.slice_bounds-print_text-end
slice_bounds-print_text-end g c = written_part _ _ _ _ c.write_answer-used.ensures.value c.write_answer-used.auto.out
