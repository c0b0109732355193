-- What history makes of orders, parts and rounds, computed.
use mathlib.Core.Bool.{true, false}
use mathlib.Core.Path.{◌≡◌, refl}
use mathlib.Core.List.{[], ◌∷◌, map}
use lib.ListN.{replicate}
use Rattle.pricing.specs.declared.Side.TheVariants.{Buy, Sell}
use Rattle.model.specs.History.{no_order, placed, absent, waiting, claimed, part_of, claimed_as, same_stage}
use Rattle.cases.specs.Literals.{terms}
use Rattle.cases.specs.HistoryCases.{lessened, order_numbers, parts, part_numbers, stages, log_numbers, logs_changed, current_numbers, changes, ends, end_numbers, leaves, leave_numbers}
use Rattle.model.proofs.Computing.{past_computes}

pub orders_lessened : lessened ≡ placed (terms 7 Sell 9) 3 3 ∷ no_order ∷ no_order ∷ no_order ∷ []
unfolding lessened
orders_lessened = refl

pub orders_numbered : map order_numbers (no_order ∷ placed (terms 7 Buy 9) 3 5 ∷ placed (terms 7 Sell 9) 3 5 ∷ []) ≡ (0 ∷ 0 ∷ 0 ∷ 0 ∷ 0 ∷ []) ∷ (7 ∷ 9 ∷ 3 ∷ 0 ∷ 3 ∷ []) ∷ (7 ∷ 9 ∷ 3 ∷ 3 ∷ 0 ∷ []) ∷ []
orders_numbered = refl

-- an enter's part; a claim of each part, which only one that waits takes
pub parts_entered : map part_of (no_order ∷ placed (terms 7 Sell 9) 3 5 ∷ []) ≡ absent ∷ waiting (terms 7 Sell 9) 5 ∷ []
parts_entered = refl

pub parts_claimed : map (λ p. claimed_as p 2 1) parts ≡ absent ∷ claimed (terms 7 Buy 9) 5 2 1 ∷ claimed (terms 7 Buy 9) 5 4 3 ∷ claimed (terms 7 Sell 9) 5 4 3 ∷ []
unfolding parts
parts_claimed = refl

pub parts_numbered
    : map part_numbers parts
    ≡ (0 ∷ 0 ∷ 0 ∷ 0 ∷ 0 ∷ 0 ∷ []) ∷ (5 ∷ 0 ∷ 0 ∷ 0 ∷ 1 ∷ 1 ∷ []) ∷ (5 ∷ 0 ∷ 1 ∷ 3 ∷ 1 ∷ 0 ∷ []) ∷ (0 ∷ 5 ∷ 3 ∷ 1 ∷ 1 ∷ 0 ∷ []) ∷ []
unfolding parts
parts_numbered = refl

pub stages_told
    : map (λ g. map (same_stage g) stages) stages
    ≡ (true ∷ false ∷ false ∷ []) ∷ (false ∷ true ∷ false ∷ []) ∷ (false ∷ false ∷ true ∷ []) ∷ []
unfolding stages
stages_told = refl

pub logs_changed_lem
    : map log_numbers logs_changed
    ≡ (1 ∷ 2 ∷ 3 ∷ 4 ∷ 5 ∷ 6 ∷ 7 ∷ 8 ∷ [])
    ∷ (2 ∷ 2 ∷ 3 ∷ 4 ∷ 5 ∷ 6 ∷ 7 ∷ 8 ∷ [])
    ∷ (1 ∷ 20 ∷ 3 ∷ 4 ∷ 5 ∷ 6 ∷ 7 ∷ 8 ∷ [])
    ∷ (1 ∷ 2 ∷ 20 ∷ 4 ∷ 5 ∷ 6 ∷ 7 ∷ 8 ∷ [])
    ∷ (1 ∷ 2 ∷ 3 ∷ 20 ∷ 5 ∷ 6 ∷ 7 ∷ 8 ∷ [])
    ∷ (1 ∷ 2 ∷ 3 ∷ 4 ∷ 20 ∷ 21 ∷ 7 ∷ 8 ∷ [])
    ∷ (1 ∷ 2 ∷ 3 ∷ 4 ∷ 5 ∷ 6 ∷ 20 ∷ 21 ∷ [])
    ∷ (1 ∷ 2 ∷ 20 ∷ 21 ∷ 5 ∷ 6 ∷ 7 ∷ 8 ∷ [])
    ∷ (2 ∷ 2 ∷ 3 ∷ 4 ∷ 5 ∷ 6 ∷ 7 ∷ 8 ∷ [])
    ∷ (1 ∷ 2 ∷ 3 ∷ 4 ∷ 25 ∷ 6 ∷ 37 ∷ 8 ∷ [])
    ∷ (1 ∷ 2 ∷ 3 ∷ 4 ∷ 5 ∷ 26 ∷ 7 ∷ 38 ∷ [])
    ∷ (0 ∷ 0 ∷ 0 ∷ 0 ∷ 0 ∷ 0 ∷ 0 ∷ 0 ∷ [])
    ∷ []
unfolding logs_changed
logs_changed_lem = refl

pub rounds_at_stage : map current_numbers changes ≡ [] ∷ (9 ∷ []) ∷ (4 ∷ []) ∷ (0 ∷ []) ∷ (4 ∷ []) ∷ []
unfolding changes
rounds_at_stage = refl

pub rounds_ended : map end_numbers ends ≡ ((7 ∷ []), []) ∷ ((7 ∷ []), []) ∷ ((9 ∷ []), []) ∷ ([], (9 ∷ [])) ∷ []
unfolding ends past_computes
rounds_ended = refl

-- only in its own market's round while that collects is the ticket no longer one of the round's; its order stays, and nothing moves
pub tickets_left
    : map leave_numbers leaves
    ≡ ((2 ∷ 4 ∷ 5 ∷ []), (1 ∷ 0 ∷ 7 ∷ []), placed (terms 7 Buy 9) 3 6, replicate 6 0)
    ∷ ((2 ∷ 4 ∷ 5 ∷ []), (2 ∷ 6 ∷ 7 ∷ []), placed (terms 7 Buy 9) 3 6, replicate 6 0)
    ∷ ((2 ∷ 4 ∷ 5 ∷ []), (2 ∷ 6 ∷ 7 ∷ []), placed (terms 7 Buy 9) 3 6, replicate 6 0)
    ∷ ((2 ∷ 4 ∷ 5 ∷ []), [], placed (terms 7 Buy 9) 3 6, replicate 6 0)
    ∷ ((2 ∷ 4 ∷ 5 ∷ []), (2 ∷ 6 ∷ 7 ∷ []), placed (terms 7 Buy 9) 3 6, replicate 6 0)
    ∷ []
unfolding leaves past_computes
tickets_left = refl
