-- Files and the calls that their lines are, worked by hand: read, written again, and with byte 10 at their end.
use Rattle.std.specs.Prelude.{ℕ, ◌+◌, ◌≡◌, List, [], ◌∷◌, ◌++◌, map, length, Some, None, Option}
use Rattle.decimal.specs.Buffer.{put_from}
use Rattle.model.specs.declared.call.Call.{Call}
use Rattle.model.specs.declared.call.Call.TheVariants.{Deposit, Enter, Claim}
use Rattle.model.specs.Day.{day}
use Rattle.lines.specs.CallLines.{reading_of}
use Rattle.replay.specs.Days.{lines_of}
use Rattle.replay.specs.Examples.{paper_input}
use Rattle.replay.specs.Rewriting.{calls_text, written_calls, CallsJoined, with_end}
use Rattle.replay.specs.StreamExamples.{five, six, line}

-- ---- every line is a call

-- an input and calls; what the input's lines are read as, the input with byte 10 at its end, and the text that the calls are written as
pub record FileOfCalls : Type 0 where
  pub input : List ℕ
  pub calls : List Call
  pub readings : List (Option Call)
  pub ended : List ℕ
  pub text : List ℕ

abbrev file : List ℕ → List Call → List (Option Call) → List ℕ → List ℕ → FileOfCalls
file input calls readings ended text = record { input = input; calls = calls; readings = readings; ended = ended; text = text }

-- the calls of an input, and the text that they are written as
abbrev of_calls : List ℕ → List Call → List ℕ → FileOfCalls
of_calls input calls text = file input calls (map Some calls) text text

-- the same input and calls, with what the definitions give
abbrev pub rewritten : FileOfCalls → FileOfCalls
rewritten e = file e.input e.calls (map reading_of (lines_of e.input)) (with_end e.input) (calls_text e.calls)

unfoldable pub files_of_calls : List FileOfCalls
files_of_calls =
    of_calls [] [] []  -- no bytes
    ∷ of_calls (line five) (Deposit 0 0 5 ∷ []) (line five)  -- a line with byte 10
    ∷ of_calls five (Deposit 0 0 5 ∷ []) (line five)  -- and without it
    ∷ of_calls (line five ++ line six) (Deposit 0 0 5 ∷ Deposit 0 0 6 ∷ []) (line five ++ line six)  -- two lines
    ∷ of_calls (line five ++ six) (Deposit 0 0 5 ∷ Deposit 0 0 6 ∷ []) (line five ++ line six)  -- the last without byte 10
    ∷ of_calls paper_input day paper_input  -- document 01's day
    ∷ []

-- ---- some line is none

-- an input, what its lines are read as, and the input with byte 10 at its end
unfoldable pub other_files : List (List ℕ × List (Option Call) × List ℕ)
other_files =
    ((10 ∷ []), (None ∷ []), (10 ∷ []))  -- LF
    ∷ ((9 ∷ []), (None ∷ []), (9 ∷ 10 ∷ []))  -- TAB
    ∷ ((11 ∷ []), (None ∷ []), (11 ∷ 10 ∷ []))  -- VT
    ∷ (line five ++ line [], (Some (Deposit 0 0 5) ∷ None ∷ []), line five ++ line [])  -- 1,0,0,5LF LF
    ∷ (line [] ++ five, (None ∷ Some (Deposit 0 0 5) ∷ []), line [] ++ line five)  -- LF 1,0,0,5
    ∷ ((54 ∷ 44 ∷ 48 ∷ 48 ∷ 10 ∷ []), (None ∷ []), (54 ∷ 44 ∷ 48 ∷ 48 ∷ 10 ∷ []))  -- 6,00LF
    ∷ []

-- ---- the largest numbers

abbrev pub largest_calls : List Call
largest_calls = Claim 4294967295 ∷ Enter 4294967295 ∷ []

-- calls, and what the lines of their text are read as: "a value above 4,294,967,295" is no call's
unfoldable pub largest_reread : List (List Call × List (Option Call))
largest_reread =
    (largest_calls, map Some largest_calls)
    ∷ ((Claim 4294967296 ∷ Enter 4294967295 ∷ []), (None ∷ Some (Enter 4294967295) ∷ []))
    ∷ []

-- ---- by the writer, from place 2 on

-- their text just fits
abbrev pub WrittenUsed : Type 0
WrittenUsed = CallsJoined → (out : List ℕ) → 2 + length (calls_text largest_calls) ≡ length out
    → written_calls out 2 largest_calls ≡ put_from out 2 (calls_text largest_calls)
