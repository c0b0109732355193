-- A call that failed moved no byte.
use Rattle.std.specs.Io.KnownBytes.{Keeps}
use Rattle.stdio.proofs.write_some.Given as goal

abbrev pub invariant-turns : goal.invariant-turns
invariant-turns g l = Keeps (g.W.Write.contents l.initial.to) (g.W.Write.contents l.to)
