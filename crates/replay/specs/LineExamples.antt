-- Lines taken, worked by hand: with just the room, with one byte less, and in a list.
use Rattle.std.specs.Prelude.{ℕ, List, [], ◌∷◌, ◌++◌, Ok, Err}
use Rattle.model.specs.declared.answer.Refusal.TheVariants.{BufferTooShort}
use Rattle.model.specs.declared.call.Call.TheVariants.{Deposit}
use Rattle.model.specs.Answers.{Answer, code_of, first_of, second_of}
use Rattle.model.specs.Run.{Event, Request}
use Rattle.model.specs.State.{balance, fresh_exchange}
use Rattle.replay.specs.declared.line.Taken.{Taken}
use Rattle.replay.specs.Lines.{LineRequest, taken_of}
use Rattle.replay.specs.StreamExamples.{five, six, line}

-- ---- one line

-- a line, its number and the room; its code and two numbers, how many bytes are written, and then member 0's balance of token 0
pub record LineTaken : Type 0 where
  pub number : ℕ
  pub bytes : List ℕ
  pub room : ℕ
  pub code : ℕ
  pub first : ℕ
  pub second : ℕ
  pub used : ℕ
  pub held : ℕ

abbrev takes : ℕ → List ℕ → ℕ → ℕ → ℕ → ℕ → ℕ → ℕ → LineTaken
takes number bytes room code first second used held =
    record { number = number; bytes = bytes; room = room; code = code; first = first; second = second; used = used; held = held }

abbrev told : ℕ → List ℕ → ℕ → Taken → LineTaken
told number bytes room t =
    let a : Answer = t.answered.answer in
    takes number bytes room (code_of a) (first_of a) (second_of a) t.answered.used (balance t.exchange 0 0)

abbrev pub taken : LineTaken → LineTaken
taken e = told e.number e.bytes e.room (taken_of fresh_exchange e.number e.bytes e.room)

-- "21 lent buffer shorter than the answer line with its end byte. It goes before every other code; nothing is written or moved."
unfoldable pub lines_taken : List LineTaken
lines_taken =
    -- a deposit, answered by 7,0,5,0 and byte 10
    takes 7 five 9 0 5 0 8 5
    ∷ takes 7 five 8 0 5 0 8 5
    ∷ takes 7 five 7 21 0 0 0 0
    ∷ takes 7 five 0 21 0 0 0 0
    -- an empty line, answered by 10,20,0,0 and byte 10
    ∷ takes 10 [] 10 20 0 0 10 0
    ∷ takes 10 [] 9 21 0 0 0 0
    -- a withdrawal from nothing, answered by 1,19,0,0 and byte 10
    ∷ takes 1 (50 ∷ 44 ∷ 48 ∷ 44 ∷ 48 ∷ 44 ∷ 53 ∷ []) 9 19 0 0 9 0  -- 2,0,0,5
    ∷ takes 1 (50 ∷ 44 ∷ 48 ∷ 44 ∷ 48 ∷ 44 ∷ 53 ∷ []) 8 21 0 0 0 0  -- 2,0,0,5
    ∷ []

-- ---- a list

abbrev asks : ℕ → ℕ → List ℕ → LineRequest
asks number room bytes = record { number = number; room = room; line = bytes }

abbrev tells : ℕ → Answer → Event
tells n a = record { call = Deposit 0 0 n; answer = a }

-- two deposits, the second with too little room at first, and two empty lines, the first with too little room
unfoldable pub asked : List LineRequest
asked = asks 1 8 five ∷ asks 2 8 [] ∷ asks 3 9 [] ∷ asks 4 8 six ∷ asks 5 9 six ∷ []

-- what is written, the calls with their answers, and member 0's balance of token 0 at the end
unfoldable pub asked_text : List ℕ
asked_text =
    (49 ∷ 44 ∷ 48 ∷ 44 ∷ 53 ∷ 44 ∷ 48 ∷ 10 ∷ [])  -- 1,0,5,0
    ++ (51 ∷ 44 ∷ 50 ∷ 48 ∷ 44 ∷ 48 ∷ 44 ∷ 48 ∷ 10 ∷ [])  -- 3,20,0,0
    ++ (53 ∷ 44 ∷ 48 ∷ 44 ∷ 49 ∷ 49 ∷ 44 ∷ 48 ∷ 10 ∷ [])  -- 5,0,11,0

unfoldable pub asked_events : List Event
asked_events = tells 5 (Ok (5, 0)) ∷ tells 6 (Err BufferTooShort) ∷ tells 6 (Ok (11, 0)) ∷ []

-- ---- the lines of a day

-- bytes, and the lines that they are
unfoldable pub lines_in : List (List ℕ × List (List ℕ))
lines_in =
    ([], [])  -- no bytes
    ∷ ((10 ∷ []), ([] ∷ []))  -- LF
    ∷ ((49 ∷ []), ((49 ∷ []) ∷ []))  -- 1
    ∷ ((49 ∷ 10 ∷ []), ((49 ∷ []) ∷ []))  -- 1LF
    ∷ ((49 ∷ 10 ∷ 10 ∷ 50 ∷ 51 ∷ []), ((49 ∷ []) ∷ [] ∷ (50 ∷ 51 ∷ []) ∷ []))  -- 1LF LF 23
    ∷ ((9 ∷ 11 ∷ 13 ∷ 10 ∷ 49 ∷ 44 ∷ 10 ∷ []), ((9 ∷ 11 ∷ 13 ∷ []) ∷ (49 ∷ 44 ∷ []) ∷ []))  -- TAB VT CR LF 1,LF
    ∷ []

-- a day's lines, each with its number and just the room that its answer takes: 1,0,5,0 and 2,20,0,0 and 3,0,11,0
unfoldable pub day_asked : List LineRequest
day_asked = asks 1 8 five ∷ asks 2 9 [] ∷ asks 3 9 six ∷ []

unfoldable pub day_bytes : List ℕ
day_bytes = line five ++ line [] ++ six

-- the same deposits as lines 9 and 10: 9,0,5,0 and 10,0,11,0
unfoldable pub tenth_asked : List LineRequest
tenth_asked = asks 9 8 five ∷ asks 10 10 six ∷ []

-- the deposit of 5 units as a request on line 7
abbrev pub deposit_asked : ℕ → Request
deposit_asked room = record { line = 7; room = room; call = Deposit 0 0 5 }
