use mathlib.Core.Path.{◌≡◌}
use mathlib.Core.List.{List}
use Prim.Native.Nat.{ℕ, ◌-◌, ◌≤◌}
use lib.ListN.{length}
use Rattle.decimal.specs.Buffer.{put_at}
use Rattle.decimal.proofs.Put.{Run}
use Rattle.lines.specs.AnswerText.{header}
use Rattle.replay.specs.Pieces.{stream_of}
use Rattle.replay.specs.Days.{day_of}
use Rattle.yeldozhym.proofs.DayLaws.{front, Worked}
use Rattle.yeldozhym.proofs.write_day.Given as goal

abbrev pub invariant-loop-from : goal.invariant-loop-from
invariant-loop-from l =
    record {
      worked : Worked l.input l.from (stream_of l.day) l.at;
      run : (xs : List ℕ) → l.initial.out ≡ put_at xs 0 header → length (day_of l.input) ≤ length xs → Run xs 0 (front l.input l.from) l.out l.at;
    }

abbrev pub decreases-loop-from : goal.decreases-loop-from
decreases-loop-from l = length l.input - l.from
