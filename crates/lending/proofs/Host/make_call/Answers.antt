use Rattle.lending.proofs.Taking.{step_reachable}
use Rattle.lending.proofs.Host.make_call.Goals as goal

pub invariant_of-self : goal.invariant_of-self
invariant_of-self c = (step_reachable _ _ _ c.step_lent.ensures.1 c.self.invariant.0, c.self.invariant.1, c.self.invariant.2)
