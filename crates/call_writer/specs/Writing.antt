-- Document 02's L1, "Lines out as well as in": what the call writer answers. The line is `call_line`, the buffer after it `put_from`.
use Rattle.std.specs.Prelude.{ℕ, ◌+◌, ◌≤◌, ◌≡◌, cond, ◌||◌, List, [], ◌∷◌, ◌++◌, length, take, drop, leb, ltb, Some, None, Option}
use Rattle.decimal.specs.Buffer.{put_from}
use Rattle.model.specs.declared.call.Call.{Call}
use Rattle.model.specs.Kinds.{numbers_of_call}
use Rattle.lines.specs.CallLines.{call_of}
use Rattle.lines.specs.CallText.{line_of_numbers, call_line, Small}
use Rattle.call_writer.specs.declared.LinePut.{LinePut}

-- text written at a place of a buffer of room bytes: "with the length", or "Refused: 21 when the place is past the buffer's end or what
-- follows it is too short"
unfoldable pub written_of : ℕ → ℕ → List ℕ → Option ℕ
written_of room at text = cond (leb (at + length text) room) (Some (length text)) None

-- the same by the request's two tests
abbrev pub RefusedWhen : Type 0
RefusedWhen = (out : List ℕ) (at : ℕ) (text : List ℕ)
    → written_of (length out) at text ≡ cond (ltb (length out) at || ltb (length (drop at out)) (length text)) None (Some (length text))

-- "Bytes outside the line stay", and of 21 "no byte changed": the buffer after text was written at a place, or was not
pub record OutsideKept (out : List ℕ) (at : ℕ) (text : List ℕ) : Type 0 where
  pub size : length (put_from out at text) ≡ length out
  pub before : take at (put_from out at text) ≡ take at out
  pub after : drop (at + length text) (put_from out at text) ≡ drop (at + length text) out

abbrev pub OutsidesKept : Type 0
OutsidesKept = (out : List ℕ) (at : ℕ) (text : List ℕ) → OutsideKept out at text

-- ---- in the paper's numbers

abbrev pub written_code : Option ℕ → ℕ
written_code (Some n) = 0
written_code None = 21

-- the line's bytes, its byte 10 among them; of 21, "with length 0"
abbrev pub written_length : Option ℕ → ℕ
written_length (Some n) = n
written_length None = 0

-- ---- how long a line is

-- a digit for the kind, a comma, a digit for one field, and byte 10: so 0 is no line's length
abbrev pub shortest_call : ℕ
shortest_call = 4

-- a digit for the kind, six times a comma and ten digits, and byte 10
abbrev pub longest_call : ℕ
longest_call = 68

pub record LineBounded (c : Call) : Type 0 where
  pub least : shortest_call ≤ length (call_line c)
  pub most : length (call_line c) ≤ longest_call

abbrev pub LinesBounded : Type 0
LinesBounded = (c : Call) → Small (numbers_of_call c) → LineBounded c

-- ---- plain numbers

-- what is written of a kind number and fields: the line of the call that they are, and nothing where they are none's
abbrev pub line_of_reading : Option Call → List ℕ
line_of_reading (Some c) = call_line c
line_of_reading None = []

-- that line has the very numbers, in their order
abbrev pub NumbersKept : Type 0
NumbersKept = (ns : List ℕ) (c : Call) → call_of ns ≡ Some c → line_of_reading (call_of ns) ≡ line_of_numbers ns ++ (10 ∷ [])

-- code and length of a call
abbrev pub told_of : Option ℕ → LinePut
told_of w = record { code = written_code w; length = written_length w }

-- what is told of plain numbers at a place of a buffer of room bytes; what is no call has no line that could fit or not, so it is 20 at every place
unfoldable pub put_of : ℕ → ℕ → Option Call → LinePut
put_of room at (Some c) = told_of (written_of room at (call_line c))
put_of room at None = record { code = 20; length = 0 }
