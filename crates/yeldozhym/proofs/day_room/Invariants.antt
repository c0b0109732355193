use Prim.Native.Nat.{◌-◌}
use lib.ListN.{length}
use Rattle.replay.specs.Pieces.{stream_of}
use Rattle.yeldozhym.proofs.DayLaws.{Worked}
use Rattle.yeldozhym.proofs.day_room.Given as goal

abbrev pub invariant-loop-from : goal.invariant-loop-from
invariant-loop-from l = Worked l.input l.from (stream_of l.day) l.room

abbrev pub decreases-loop-from : goal.decreases-loop-from
decreases-loop-from l = length l.input - l.from
