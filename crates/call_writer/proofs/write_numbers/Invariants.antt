use mathlib.Core.Path.{◌≡◌}
use Prim.Native.Nat.{◌≤◌}
use lib.ListN.{length, take}
use Rattle.decimal.proofs.Put.{Run}
use Rattle.call_writer.proofs.Text.{comma_text}
use Rattle.call_writer.proofs.write_numbers.Given as goal

-- next is the index after the numbers so far, each with a comma after it
abbrev pub invariant-loop-n : goal.invariant-loop-n
invariant-loop-n l =
    (l.n-index ≤ l.last) × Run l.fn.out l.fn.at (comma_text (take l.n-index l.fn.numbers)) l.out l.next × (length l.out ≡ length l.fn.out)
