-- Each turn writes a part of what is left.
use Rattle.std.proofs.Common.{length, take, ◌-◌, ◌≤◌}
use Rattle.std.specs.Io.KnownBytes.{Appends}
use Rattle.stdio.proofs.write.Given as goal

abbrev pub invariant-loop-count : goal.invariant-loop-count
invariant-loop-count g l =
    record {
      bound : l.count ≤ length l.text;
      bytes : Appends (g.W.Write.contents l.initial.to) (g.W.Write.contents l.to) (take l.count l.text);
    }

abbrev pub decreases-loop-count : goal.decreases-loop-count
decreases-loop-count g l = length l.text - l.count
