use mathlib.Core.Path.{◌≡◌}
use Prim.Native.Nat.{◌+◌, ◌*◌, ◌≤◌}
use lib.ListN.{length, take}
use Rattle.call_writer.proofs.Text.{comma_text}
use Rattle.call_writer.proofs.line_size.Given as goal

-- size is what the numbers so far take, each with its comma, and a comma for each of the others but the last
abbrev pub invariant-loop-n : goal.invariant-loop-n
invariant-loop-n l =
    (l.n-index ≤ length l.fn.numbers)
    × (l.size + 1 + l.n-index ≡ length (comma_text (take l.n-index l.fn.numbers)) + length l.fn.numbers)
    × (l.size + 1 ≤ length l.fn.numbers + 10 * l.n-index)
