-- Document 02's L1, over bytes and places: a call written and read again, and a line read and written again.
use Rattle.std.specs.Prelude.{ℕ, ◌+◌, ◌≤◌, ◌≡◌, cond, List, ◌++◌, ltb, length, drop, Some, None, Option}
use Rattle.decimal.specs.Buffer.{put_from}
use Rattle.model.specs.declared.call.Call.{Call}
use Rattle.model.specs.Kinds.{numbers_of_call}
use Rattle.lines.specs.CallLines.{line_at}
use Rattle.lines.specs.CallText.{line_of_call, call_line, Small}

-- "Any call written and read again is the same call": what was written at a place is read there as that call, and ends where its line ends
abbrev pub WrittenRead : Type 0
WrittenRead = (out : List ℕ) (at : ℕ) (c : Call) → Small (numbers_of_call c) → at + length (call_line c) ≤ length out
    → line_at (put_from out at (call_line c)) at ≡ record { reading = Some c; end = at + length (line_of_call c) }

-- the same of a call in code, whose fields are all small: where its line was written, it is read there
abbrev pub ReadAgain : List ℕ → ℕ → Call → Option ℕ → Type 0
ReadAgain out at c (Some n) = line_at out at ≡ record { reading = Some c; end = at + length (line_of_call c) }
ReadAgain out at c None = Unit {0}

-- "A line that the reader accepts is the line the writer makes of it, but for a missing byte 10 at the very end": the bytes from a place on, of
-- which those up to end were read as the call c
pub record LineOf (bytes : List ℕ) (from : ℕ) (c : Call) (end : ℕ) : Type 0 where
  pub ends : end ≡ from + length (line_of_call c)
  -- with its byte 10, and then what follows; at the very end, without
  pub line : drop from bytes ≡ cond (ltb end (length bytes)) (call_line c ++ drop (end + 1) bytes) (line_of_call c)

abbrev pub ReadWritten : Type 0
ReadWritten = (bytes : List ℕ) (from : ℕ) (c : Call) → (line_at bytes from).reading ≡ Some c → LineOf bytes from c (line_at bytes from).end

-- so a line that was read, written again where it stands, leaves every byte as it was; at the very end it does not fit
abbrev pub WrittenOver : Type 0
WrittenOver = (bytes : List ℕ) (from : ℕ) (c : Call) → (line_at bytes from).reading ≡ Some c → put_from bytes from (call_line c) ≡ bytes
