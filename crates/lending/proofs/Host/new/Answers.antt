use Rattle.std.proofs.Common.{arith, rules}
use Rattle.lending.proofs.Taking.{fresh_reachable}
use Rattle.lending.proofs.Host.new.Goals as goal

pub invariant_of-result : goal.invariant_of-result
invariant_of-result c = (fresh_reachable _ c.fresh.ensures, omega arith, search rules)
