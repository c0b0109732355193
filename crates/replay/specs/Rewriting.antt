-- Document 02's L1, for a file: its lines read as calls, and written again.
use Rattle.std.specs.Prelude.{ℕ, ◌+◌, ◌≤◌, ◌≡◌, cond, List, [], ◌∷◌, ◌++◌, map, eqb, length, Some}
use Rattle.decimal.specs.Buffer.{put_from}
use Rattle.model.specs.declared.call.Call.{Call}
use Rattle.model.specs.Kinds.{numbers_of_call}
use Rattle.lines.specs.CallLines.{reading_of}
use Rattle.lines.specs.CallText.{call_line, Small}
use Rattle.replay.specs.Days.{lines_of}

-- calls written one after the other
abbrev pub calls_text : List Call → List ℕ
calls_text [] = []
calls_text (c ∷ cs) = call_line c ++ calls_text cs

-- the same by the writer, each call at the place where the one before it ended
abbrev pub written_calls : List ℕ → ℕ → List Call → List ℕ
written_calls out at [] = out
written_calls out at (c ∷ cs) = written_calls (put_from out at (call_line c)) (at + length (call_line c)) cs

abbrev pub CallsJoined : Type 0
CallsJoined = (out : List ℕ) (at : ℕ) (cs : List Call) → at + length (calls_text cs) ≤ length out → written_calls out at cs ≡ put_from out at (calls_text cs)

-- every line of an input is a call, and these are the calls
abbrev pub AreCalls : List ℕ → List Call → Type 0
AreCalls input cs = map reading_of (lines_of input) ≡ map Some cs

-- an input with byte 10 at its end: added where it has bytes and the last is another
abbrev pub with_end : List ℕ → List ℕ
with_end [] = []
with_end (b ∷ []) = cond (eqb b 10) (b ∷ []) (b ∷ 10 ∷ [])
with_end (b ∷ (d ∷ bs)) = b ∷ with_end (d ∷ bs)

-- "A line that the reader accepts is the line the writer makes of it, but for a missing byte 10 at the very end": an input all of whose lines are
-- calls, written again line by line, is that input, with byte 10 added where its last line had none
abbrev pub InputsRewritten : Type 0
InputsRewritten = (input : List ℕ) (cs : List Call) → AreCalls input cs → calls_text cs ≡ with_end input

-- no number above 4,294,967,295
abbrev pub AllSmall : List Call → Type 0
AllSmall [] = Unit {0}
AllSmall (c ∷ cs) = Small (numbers_of_call c) × AllSmall cs

-- "Any call written and read again is the same call": so are calls written one after the other
abbrev pub CallsReread : Type 0
CallsReread = (cs : List Call) → AllSmall cs → AreCalls (calls_text cs) cs
