-- `lines::call::read_call` meets its contract: byte 10 stands inside, or the line is all that is there.
use native.Mathlib.Omega.{arith}
use Rattle.lines.proofs.CallLaws.{ten_inside, stands_alone}
use Rattle.lines.proofs.ReadingCode.{call_told}
use Rattle.lines.proofs.call.read_call.Goals as goal

pub returns-then-l-line : goal.returns-then-l-line
returns-then-l-line c =
    let told = call_told _ _ (ten_inside _ _ c.read_line-l.ensures.value (omega arith)) in
    record { value = told.0; tells = told.1 }

pub returns : goal.returns
returns c =
    let told = call_told _ _ (stands_alone _ _ c.read_line-l.ensures.value (omega arith)) in
    record { value = told.0; tells = told.1 }
