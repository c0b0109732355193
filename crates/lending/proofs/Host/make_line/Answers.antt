use Rattle.lending.proofs.Taking.{line_reachable, line_within}
use Rattle.lending.proofs.Host.make_line.Goals as goal

pub invariant_of-self : goal.invariant_of-self
invariant_of-self c = (line_reachable _ _ _ _ _ c.take_line_lent.ensures.1 c.self.invariant.0, c.self.invariant.1, c.self.invariant.2)

pub returns-clause-within : goal.returns-clause-within
returns-clause-within c = line_within _ _ _ _ _ _ c.take_line_lent.ensures.0 c.take_line_lent.auto.out
