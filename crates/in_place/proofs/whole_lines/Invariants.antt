use mathlib.Core.List.{[]}
use Prim.Native.Nat.{◌-◌, ◌≤◌, ◌<◌}
use lib.ListN.{length}
use Rattle.model.specs.Run.{Reachable}
use Rattle.lines.specs.CallLines.{line_in}
use Rattle.replay.proofs.StreamLaws.{begun}
use Rattle.replay.proofs.FeedLaws.{SoFar}
use Rattle.in_place.proofs.whole_lines.Given as goal

abbrev pub invariant-loop-i : goal.invariant-loop-i
invariant-loop-i l =
    record {
      in_input : l.i ≤ length l.input;
      reachable : Reachable l.exchange;
      so_far : SoFar (begun l.initial.exchange l.initial.done []) l.input l.initial.out l.i (begun l.exchange l.done []) l.at l.out;
      first : 0 < l.i → length (line_in l.input) < l.i;
    }

abbrev pub decreases-loop-i : goal.decreases-loop-i
decreases-loop-i l = length l.input - l.i
