use Rattle.std.proofs.Common.{arith}
use Rattle.lending.proofs.Taking.{list_reachable}
use Rattle.lending.proofs.Host.place_gathered.Goals as goal

pub invariant_of-self : goal.invariant_of-self
invariant_of-self c = (list_reachable _ _ _ _ c.place_orders_lent-answer.ensures.1 c.self.invariant.0, omega arith, c.self.invariant.2)
