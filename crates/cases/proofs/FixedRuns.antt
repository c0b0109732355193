-- The model meets the statement on these scripts, so that the numbers which it fixes are those of a run.
use mathlib.Core.List.{◌++◌}
use native.Mathlib.Omega.{arith}
use Rattle.model.specs.State.{fresh_exchange}
use Rattle.model.specs.Run.{request_of}
use Rattle.model.specs.Submissions.{model_engine, state_after}
use Rattle.model.specs.History.{log_of}
use Rattle.model.specs.WholeRun.{All, LimitKept, RoundPays, EndedWell}
use Rattle.model.specs.Scripts.{requests, calls_of}
use Rattle.model.specs.Day.{day_orders, day_collect, day_auction, until_settle, printed}
use Rattle.cases.specs.Examples.{last_places_ended, last_places_settled, last_places_paid, last_places, sells_left}
use Rattle.cases.specs.Fixes.{told, told_settled, told_paid, SettledFixed, PaidFixed, LeftFixed, answered, DayFixed}
use Rattle.model.proofs.Computing.{history_computes}
use Rattle.cases.proofs.Fixes.{fixes_settled, fixes_paid, fixes_left, fixes_day}
use Rattle.model.proofs.Day.{has_round}
use Rattle.model.proofs.WholeRun.{whole_run}

pub model_settled : SettledFixed request_of (state_after model_engine fresh_exchange (requests (calls_of (last_places_ended ++ last_places_settled))))
unfolding told last_places_ended last_places_settled calls_of history_computes
model_settled = fixes_settled request_of _ (whole_run (requests (calls_of (last_places_ended ++ last_places_settled)))).whole

pub model_paid : PaidFixed (state_after model_engine fresh_exchange (requests (calls_of last_places)))
unfolding told last_places_ended last_places_settled last_places_paid calls_of history_computes
model_paid = fixes_paid request_of _ (whole_run (requests (calls_of last_places))).whole

pub model_left : LeftFixed (state_after model_engine fresh_exchange (requests (calls_of sells_left)))
unfolding told sells_left calls_of history_computes
model_left = fixes_left request_of _ (whole_run (requests (calls_of sells_left))).whole

pub model_day : DayFixed request_of (state_after model_engine fresh_exchange (requests until_settle))
unfolding answered day_orders day_collect day_auction printed history_computes
model_day = fixes_day request_of _ (whole_run (requests until_settle)).whole

-- and its rounds pay: the one with a claim of 4 and 3 made and another to come, and the three that ended
pub round_pays : RoundPays (log_of (told_settled.rounds 3))
unfolding told last_places_ended last_places_settled calls_of history_computes
round_pays = (whole_run (requests (calls_of (last_places_ended ++ last_places_settled)))).whole.rounds.solvent 3 (omega arith) (omega arith) _ (has_round (told_settled.rounds 3) tt)

pub ended_well : All EndedWell told_paid.ended
unfolding told last_places_ended last_places_settled last_places_paid calls_of history_computes
ended_well = (whole_run (requests (calls_of last_places))).whole.past.ended_well

pub limits_kept : All LimitKept told_paid.payouts
unfolding told last_places_ended last_places_settled last_places_paid calls_of history_computes
limits_kept = (whole_run (requests (calls_of last_places))).whole.past.limits
