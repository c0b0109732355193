-- The statements of Writing.antt and RoundTrips.antt used: at places that just fit and beside them, on a line of four bytes.
use Rattle.std.specs.Prelude.{ℕ, ◌+◌, ◌≤◌, ◌≡◌, List, [], ◌∷◌, ◌++◌, length, drop, Some, None}
use Rattle.decimal.specs.Buffer.{put_from}
use Rattle.model.specs.declared.call.Call.{Call}
use Rattle.model.specs.declared.call.Call.TheVariants.{Enter}
use Rattle.model.specs.Kinds.{numbers_of_call}
use Rattle.lines.specs.CallLines.{call_of, line_at}
use Rattle.lines.specs.CallText.{line_of_numbers, call_line, Small}
use Rattle.call_writer.specs.Writing.{written_of, RefusedWhen, OutsideKept, OutsidesKept, LineBounded, LinesBounded, line_of_reading, NumbersKept}
use Rattle.call_writer.specs.RoundTrips.{WrittenRead, LineOf, ReadWritten, WrittenOver}

-- 6,0LF, four bytes
abbrev pub enter_line : List ℕ
enter_line = 54 ∷ 44 ∷ 48 ∷ 10 ∷ []

pub record LawsUsed : Type 0 where
  -- six bytes: four fit at place 2 and not at 3; no bytes fit at 6, and not at 7
  pub just_fits : RefusedWhen → written_of 6 2 enter_line ≡ Some 4
  pub too_short : RefusedWhen → written_of 6 3 enter_line ≡ None
  pub none_at_end : RefusedWhen → written_of 6 6 [] ≡ Some 0
  pub past_end : RefusedWhen → written_of 6 7 [] ≡ None
  -- text at place 1
  pub outside : OutsidesKept → (out text : List ℕ) → OutsideKept out 1 text
  pub after : (out text : List ℕ) → OutsideKept out 1 text → drop (1 + length text) (put_from out 1 text) ≡ drop (1 + length text) out
  -- no line is shorter than 4 bytes, and none longer than 68
  pub least : (c : Call) → LineBounded c → 4 ≤ length (call_line c)
  pub most : (c : Call) → LineBounded c → length (call_line c) ≤ 68
  pub largest : LinesBounded → Small (numbers_of_call (Enter 4294967295)) → LineBounded (Enter 4294967295)
  -- the numbers 6 and 0
  pub numbers : NumbersKept → (c : Call) → call_of (6 ∷ 0 ∷ []) ≡ Some c → line_of_reading (call_of (6 ∷ 0 ∷ [])) ≡ line_of_numbers (6 ∷ 0 ∷ []) ++ (10 ∷ [])
  -- 6,0LF at place 2 of six bytes
  pub read_there : WrittenRead → (out : List ℕ) → length out ≡ 6 → line_at (put_from out 2 (call_line (Enter 0))) 2 ≡ record { reading = Some (Enter 0); end = 5 }
  -- at the start of any bytes
  pub line_there : ReadWritten → (bytes : List ℕ) → (line_at bytes 0).reading ≡ Some (Enter 0) → LineOf bytes 0 (Enter 0) (line_at bytes 0).end
  pub over_there : WrittenOver → (bytes : List ℕ) → (line_at bytes 0).reading ≡ Some (Enter 0) → put_from bytes 0 (call_line (Enter 0)) ≡ bytes
