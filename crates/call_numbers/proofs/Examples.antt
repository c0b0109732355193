-- Calls and their numbers, computed.
use mathlib.Core.Path.{◌≡◌, refl}
use mathlib.Core.List.{map}
use Rattle.model.specs.declared.call.Call.{Call}
use Rattle.call_numbers.specs.declared.CallNumbers.{CallNumbers}
use Rattle.call_numbers.specs.Numbers.{call_numbers}
use Rattle.call_numbers.specs.Examples.{calls_counted}

pub calls_counted_lem : map (λ (e : Call × CallNumbers). (e.0, call_numbers e.0)) calls_counted ≡ calls_counted
unfolding calls_counted call_numbers
calls_counted_lem = refl
