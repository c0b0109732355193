use Rattle.decimal.proofs.Storing.{Storing}
use Rattle.decimal.proofs.write_number.Given as goal

abbrev pub invariant-loop-i : goal.invariant-loop-i
invariant-loop-i l = Storing l.fn.out l.fn.n l.out l.i l.m
