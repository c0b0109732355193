-- How much room days need, worked by hand; and the bounds of Room.antt used, reached, and refused one byte further.
use Rattle.std.specs.Prelude.{ℕ, ◌+◌, ◌*◌, ◌≤◌, ◌≡◌, List, [], ◌∷◌, ◌++◌, length}
use Rattle.model.specs.State.{fresh_exchange}
use Rattle.replay.specs.Days.{day_of, lines_of}
use Rattle.replay.specs.Examples.{paper_input}
use Rattle.replay.specs.Lines.{line_text}
use Rattle.yeldozhym.specs.Room.{RoomsBounded}

-- no slack at the highest reference price: hi and lo have ten digits each, as no answer has more
-- 5,1,1,1000000000,0,1
abbrev pub open_one : List ℕ
open_one = 53 ∷ 44 ∷ 49 ∷ 44 ∷ 49 ∷ 44 ∷ 49 ∷ 48 ∷ 48 ∷ 48 ∷ 48 ∷ 48 ∷ 48 ∷ 48 ∷ 48 ∷ 48 ∷ 44 ∷ 48 ∷ 44 ∷ 49 ∷ []

-- 5,2,1,1000000000,0,1
abbrev pub open_two : List ℕ
open_two = 53 ∷ 44 ∷ 50 ∷ 44 ∷ 49 ∷ 44 ∷ 49 ∷ 48 ∷ 48 ∷ 48 ∷ 48 ∷ 48 ∷ 48 ∷ 48 ∷ 48 ∷ 48 ∷ 44 ∷ 48 ∷ 44 ∷ 49 ∷ []

-- 5,3,1,1000000000,0,1
abbrev pub open_three : List ℕ
open_three = 53 ∷ 44 ∷ 51 ∷ 44 ∷ 49 ∷ 44 ∷ 49 ∷ 48 ∷ 48 ∷ 48 ∷ 48 ∷ 48 ∷ 48 ∷ 48 ∷ 48 ∷ 48 ∷ 44 ∷ 48 ∷ 44 ∷ 49 ∷ []

-- an input's day needs so many bytes
unfoldable pub rooms : List (ℕ × ℕ)
rooms =
    -- no line: the header alone
    (length (day_of []), 23)
    -- an empty line is no call: 1,20,0,0LF
    ∷ (length (day_of (10 ∷ [])), 32)
    -- 5,1,1,1000000000,0,1, with and without its byte 10: 1,0,1000000000,1000000000LF
    ∷ (length (day_of (open_one ++ (10 ∷ []))), 49)
    ∷ (length (day_of open_one), 49)
    -- three such lines; the third one again is refused with 11
    ∷ (length (day_of (open_one ++ (10 ∷ open_two ++ (10 ∷ open_three)))), 101)
    ∷ (length (day_of (open_one ++ (10 ∷ open_two ++ (10 ∷ open_three ++ (10 ∷ open_three))))), 110)
    -- document 01's day
    ∷ (length (day_of paper_input), 187)
    ∷ []

-- the answer line to 5,1,1,1000000000,0,1, as lines 1, 999,999,999, 1,000,000,000 and the last
unfoldable pub answers : List (ℕ × ℕ)
answers =
    (length (line_text fresh_exchange 1 open_one), 26)
    ∷ (length (line_text fresh_exchange 999999999 open_one), 34)
    ∷ (length (line_text fresh_exchange 1000000000 open_one), 35)
    ∷ (length (line_text fresh_exchange 4294967295 open_one), 35)
    ∷ []

-- the bounds used, of any input: 23 bytes and 35 for each line; and 23 and 35 × 4,294,967,295
pub record RoomsUsed : Type 0 where
  pub by_lines : RoomsBounded → (input : List ℕ) → length (day_of input) ≤ 23 + 35 * length (lines_of input)
  pub by_last : RoomsBounded → (input : List ℕ) → length (day_of input) ≤ 150323855348
  -- without a line there is no more than the header
  pub no_line : RoomsBounded → (input : List ℕ) → lines_of input ≡ [] → length (day_of input) ≤ 23

-- one byte less for the header, or for an answer line, is too little
pub record RoomsRefused : Type 0 where
  pub header : ((input : List ℕ) → length (day_of input) ≤ 22 + 35 * length (lines_of input)) → ⊥
  pub line : ((n : ℕ) → length (line_text fresh_exchange n open_one) ≤ 34) → ⊥
