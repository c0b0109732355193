-- Calls and their numbers in eight places, worked by hand.
use Rattle.std.specs.Prelude.{List, [], ◌∷◌}
use Rattle.model.specs.declared.call.Call.{Call}
use Rattle.model.specs.declared.call.Call.TheVariants.{Deposit, Open, Bid, Claim, Leave}
use Rattle.call_numbers.specs.declared.CallNumbers.{CallNumbers}

unfoldable pub calls_counted : List (Call × CallNumbers)
calls_counted =
    (Deposit 15 3 1000, record { count = 4; values = 1 ∷ 15 ∷ 3 ∷ 1000 ∷ 0 ∷ 0 ∷ 0 ∷ 0 ∷ [] })
    ∷ (Open 3 20 2500000 100000 64, record { count = 6; values = 5 ∷ 3 ∷ 20 ∷ 2500000 ∷ 100000 ∷ 64 ∷ 0 ∷ 0 ∷ [] })
    ∷ (Bid 2 13 19 0 60 150, record { count = 7; values = 8 ∷ 2 ∷ 13 ∷ 19 ∷ 0 ∷ 60 ∷ 150 ∷ 0 ∷ [] })
    ∷ (Claim 9, record { count = 2; values = 10 ∷ 9 ∷ 0 ∷ 0 ∷ 0 ∷ 0 ∷ 0 ∷ 0 ∷ [] })
    ∷ (Leave 61 4, record { count = 3; values = 11 ∷ 61 ∷ 4 ∷ 0 ∷ 0 ∷ 0 ∷ 0 ∷ 0 ∷ [] })
    ∷ []
