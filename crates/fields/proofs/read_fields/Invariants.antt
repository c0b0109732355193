use mathlib.Core.Bool.{true, false}
use Prim.Native.Nat.{◌-◌}
use lib.ListN.{length}
use Rattle.fields.proofs.Scan.{Reads}
use Rattle.fields.proofs.read_fields.Given as goal

abbrev pub invariant-digits : goal.invariant-digits
invariant-digits l = Reads l.fn.bytes l.fn.from l.values l.count l.i true l.value

abbrev pub decreases-digits : goal.decreases-digits
decreases-digits l = length l.bytes - l.i

abbrev pub invariant-line : goal.invariant-line
invariant-line l = Reads l.fn.bytes l.fn.from l.values l.count l.i false 0

abbrev pub decreases-line : goal.decreases-line
decreases-line l = 8 - l.count
