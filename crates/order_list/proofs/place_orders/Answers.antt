-- `order_list::place_orders` meets its contract.
use native.Mathlib.Omega.{arith}
use Rattle.model.specs.Calls.{order_of}
use Rattle.model.specs.Run.{step_of}
use Rattle.order_list.proofs.Turns.{one_more}
use Rattle.order_list.proofs.place_orders.Goals as goal

pub loop-i-preserved : goal.loop-i-preserved
unfolding step_of order_of
loop-i-preserved c = one_more _ _ c.order-o.ensures (omega arith) (omega arith) c.loop-i.invariant
