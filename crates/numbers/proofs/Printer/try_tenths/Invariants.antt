use Rattle.numbers.proofs.Printer.try_tenths.Given as goal

abbrev pub decreases-loop-m : goal.decreases-loop-m
decreases-loop-m g l = l.m
