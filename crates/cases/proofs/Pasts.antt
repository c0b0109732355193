-- What history says of given runs, computed.
use mathlib.Core.Path.{◌≡◌, refl}
use mathlib.Core.List.{[], ◌∷◌, map}
use Rattle.model.specs.Scripts.{calls_of}
use Rattle.model.specs.Day.{day_orders, day_collect, day_auction, day_claims}
use Rattle.model.specs.Edges.{three_buys}
use Rattle.cases.specs.Examples.{first_round, second_round, second_paid, late_matches, last_places_ended, last_places_settled, last_places_paid, sells_left, sells_paid}
use Rattle.cases.specs.Pasts.{numbers_in, worked_past, pasts, all_waiting, all_claimed, full_rounds, many_resting}
use Rattle.model.specs.History.{running}
use Rattle.model.specs.WholeRun.{resting_total, rounds_total}
use Rattle.model.proofs.Computing.{history_computes}

pub pasts_hold : map worked_past pasts ≡ pasts
unfolding pasts worked_past day_orders day_collect day_auction day_claims three_buys first_round second_round second_paid late_matches last_places_ended last_places_settled last_places_paid sells_left sells_paid calls_of history_computes
pasts_hold = refl

pub rounds_full : (numbers_in 3 all_waiting ∷ numbers_in 3 all_claimed ∷ []) ≡ full_rounds
unfolding full_rounds history_computes
rounds_full = refl

-- 64 times 2; 3 times 128 quote, and the base of market 2 among them
pub totals_full : (resting_total many_resting 3 ∷ rounds_total (λ n. running all_waiting) 0 ∷ rounds_total (λ n. running all_claimed) 2 ∷ []) ≡ 128 ∷ 384 ∷ 123 ∷ []
unfolding history_computes
totals_full = refl
