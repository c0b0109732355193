use mathlib.Core.Path.{◌≡◌}
use Prim.Native.Nat.{◌+◌, ◌-◌}
use lib.ListN.{length, drop}
use Rattle.lines.specs.CallLines.{line_in}
use Rattle.lines.proofs.call.line_end.Given as goal

-- the line ends at the same place when read from i on
abbrev pub invariant-loop-i : goal.invariant-loop-i
invariant-loop-i l = l.i + length (line_in (drop l.i l.fn.bytes)) ≡ l.fn.from + length (line_in (drop l.fn.from l.fn.bytes))

abbrev pub decreases-loop-i : goal.decreases-loop-i
decreases-loop-i l = length l.fn.bytes - l.i
