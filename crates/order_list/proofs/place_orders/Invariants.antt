use Rattle.order_list.proofs.Turns.{Made}
use Rattle.order_list.proofs.place_orders.Given as goal

abbrev pub invariant-loop-i : goal.invariant-loop-i
invariant-loop-i l = Made l.fn.x l.list l.exchange l.answers l.i
