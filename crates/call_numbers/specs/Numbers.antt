-- A call as plain numbers: the row of `numbers_of_call` in as many places as the field reader has.
use Rattle.std.specs.Prelude.{◌++◌, ◌-◌, length, replicate}
use Rattle.model.specs.declared.call.Call.{Call}
use Rattle.model.specs.Kinds.{numbers_of_call}
use Rattle.fields.specs.Fields.{most_numbers}
use Rattle.call_numbers.specs.declared.CallNumbers.{CallNumbers}

-- how many numbers a call has, and the numbers; places that are left are 0
unfoldable pub call_numbers : Call → CallNumbers
call_numbers c =
    record { count = length (numbers_of_call c); values = numbers_of_call c ++ replicate (most_numbers - length (numbers_of_call c)) 0 }
