-- The edges of document 01, computed.
use mathlib.Core.Path.{◌≡◌, refl}
use mathlib.Core.List.{map}
use Rattle.model.specs.Scripts.{worked_accounts, summed, deposits_in}
use Rattle.model.specs.Day.{day_orders, day_collect}
use Rattle.model.specs.Edges.{last_outcome, worked_edge, match_of_two, three_buys, edges, edge_accounts}
use Rattle.model.proofs.Computing.{call_computes, history_computes}

-- for every edge, the definitions give the paper's numbers
pub edges_hold : map worked_edge edges ≡ edges
unfolding edges match_of_two three_buys day_orders day_collect worked_edge last_outcome call_computes
edges_hold = refl

-- the theorem's numbers where rounding left something, and that they add up
pub edge_accounts_lem : map worked_accounts edge_accounts ≡ edge_accounts
unfolding edge_accounts three_buys worked_accounts history_computes
edge_accounts_lem = refl

pub edge_adds_up : map summed edge_accounts ≡ map deposits_in edge_accounts
unfolding edge_accounts summed deposits_in
edge_adds_up = refl
