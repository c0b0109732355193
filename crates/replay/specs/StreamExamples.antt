-- Streams of bytes computed: at the last line, before it and after it; a line that is cut, and one that is too long; and pieces.
use Rattle.std.specs.Prelude.{ℕ, List, [], ◌∷◌, ◌++◌, replicate}
use Rattle.model.specs.State.{balance, fresh_exchange}
use Rattle.replay.specs.declared.day.Day.{Day}
use Rattle.replay.specs.Pieces.{Stream, start, after, text_of, end_text, ended, written_by, after_all}

-- what is written; then how many lines were answered, what is kept of a line that has begun, and member 0's balance of token 0
pub record Came : Type 0 where
  pub text : List ℕ
  pub done : ℕ
  pub kept : List ℕ
  pub held : ℕ

abbrev came : List ℕ → ℕ → List ℕ → ℕ → Came
came text done kept held = record { text = text; done = done; kept = kept; held = held }

abbrev came_by : List ℕ → Stream → Came
came_by text s = came text s.done s.line (balance s.exchange 0 0)

-- a stream in the fresh state after so many lines, with the bytes of a line that has begun; bytes that come, what comes of them, and of the
-- input's end after them
pub record StreamRun : Type 0 where
  pub done : ℕ
  pub begun : List ℕ
  pub input : List ℕ
  pub read : Came
  pub finished : Came

abbrev runs : ℕ → List ℕ → List ℕ → Came → Came → StreamRun
runs done begun input read finished = record { done = done; begun = begun; input = input; read = read; finished = finished }

-- the same bytes, with what the definitions give
abbrev pub streamed : StreamRun → StreamRun
streamed e =
    let s : Stream = record { exchange = fresh_exchange; done = e.done; line = e.begun } in
    runs e.done e.begun e.input (came_by (text_of s e.input) (after s e.input)) (came_by (end_text (after s e.input)) (ended (after s e.input)))

-- pieces of an input from the day's start on, and what comes of them and of its end
pub record PiecesRun : Type 0 where
  pub pieces : List (List ℕ)
  pub finished : Came

abbrev cut : List (List ℕ) → Came → PiecesRun
cut pieces finished = record { pieces = pieces; finished = finished }

abbrev pub came_of : List (List ℕ) → Came
came_of pieces = came_by (written_by start pieces) (after_all start pieces)

abbrev pub pieced : PiecesRun → PiecesRun
pieced e = cut e.pieces (came_of e.pieces)

-- ---- lines

-- deposits by member 0 of 5, 6 and 7 units of token 0
abbrev pub five : List ℕ
five = 49 ∷ 44 ∷ 48 ∷ 44 ∷ 48 ∷ 44 ∷ 53 ∷ []  -- 1,0,0,5

abbrev pub six : List ℕ
six = 49 ∷ 44 ∷ 48 ∷ 44 ∷ 48 ∷ 44 ∷ 54 ∷ []  -- 1,0,0,6

abbrev seven : List ℕ
seven = 49 ∷ 44 ∷ 48 ∷ 44 ∷ 48 ∷ 44 ∷ 55 ∷ []  -- 1,0,0,7

-- a line with its byte 10
abbrev pub line : List ℕ → List ℕ
line l = l ++ (10 ∷ [])

-- so many digits 1
abbrev ones : ℕ → List ℕ
ones n = replicate n 49

-- ---- "It stops after line 4,294,967,295"

unfoldable pub last_lines : List StreamRun
last_lines =
    -- at it: the line that comes is the last, and what follows is not read
    runs 4294967294 [] (line five ++ line six)
    (came (52 ∷ 50 ∷ 57 ∷ 52 ∷ 57 ∷ 54 ∷ 55 ∷ 50 ∷ 57 ∷ 53 ∷ 44 ∷ 48 ∷ 44 ∷ 53 ∷ 44 ∷ 48 ∷ 10 ∷ []) 4294967295 [] 5)  -- 4294967295,0,5,0
    (came [] 4294967295 [] 5)
    -- the last line without byte 10
    ∷ runs 4294967294 [] five
    (came [] 4294967294 five 0)
    (came (52 ∷ 50 ∷ 57 ∷ 52 ∷ 57 ∷ 54 ∷ 55 ∷ 50 ∷ 57 ∷ 53 ∷ 44 ∷ 48 ∷ 44 ∷ 53 ∷ 44 ∷ 48 ∷ 10 ∷ []) 4294967295 [] 5)  -- 4294967295,0,5,0
    -- begun in an earlier piece, and bytes of another line after it
    ∷ runs 4294967294 five ((10 ∷ []) ++ six)
    (came (52 ∷ 50 ∷ 57 ∷ 52 ∷ 57 ∷ 54 ∷ 55 ∷ 50 ∷ 57 ∷ 53 ∷ 44 ∷ 48 ∷ 44 ∷ 53 ∷ 44 ∷ 48 ∷ 10 ∷ []) 4294967295 [] 5)  -- 4294967295,0,5,0
    (came [] 4294967295 [] 5)
    -- an empty line is the last too
    ∷ runs 4294967294 [] (line [] ++ line five)
    (came (52 ∷ 50 ∷ 57 ∷ 52 ∷ 57 ∷ 54 ∷ 55 ∷ 50 ∷ 57 ∷ 53 ∷ 44 ∷ 50 ∷ 48 ∷ 44 ∷ 48 ∷ 44 ∷ 48 ∷ 10 ∷ []) 4294967295 [] 0)  -- 4294967295,20,0,0
    (came [] 4294967295 [] 0)
    -- before it: two lines are answered and a third is not
    ∷ runs 4294967293 [] (line five ++ line six ++ line seven)
    (came (52 ∷ 50 ∷ 57 ∷ 52 ∷ 57 ∷ 54 ∷ 55 ∷ 50 ∷ 57 ∷ 52 ∷ 44 ∷ 48 ∷ 44 ∷ 53 ∷ 44 ∷ 48 ∷ 10 ∷ 52 ∷ 50 ∷ 57 ∷ 52 ∷ 57 ∷ 54 ∷ 55 ∷ 50 ∷ 57 ∷ 53 ∷ 44 ∷ 48 ∷ 44 ∷ 49 ∷ 49 ∷ 44 ∷ 48 ∷ 10 ∷ []) 4294967295 [] 11)  -- 4294967294,0,5,0 and 4294967295,0,11,0
    (came [] 4294967295 [] 11)
    ∷ runs 4294967293 [] (line five ++ six)
    (came (52 ∷ 50 ∷ 57 ∷ 52 ∷ 57 ∷ 54 ∷ 55 ∷ 50 ∷ 57 ∷ 52 ∷ 44 ∷ 48 ∷ 44 ∷ 53 ∷ 44 ∷ 48 ∷ 10 ∷ []) 4294967294 six 5)  -- 4294967294,0,5,0
    (came (52 ∷ 50 ∷ 57 ∷ 52 ∷ 57 ∷ 54 ∷ 55 ∷ 50 ∷ 57 ∷ 53 ∷ 44 ∷ 48 ∷ 44 ∷ 49 ∷ 49 ∷ 44 ∷ 48 ∷ 10 ∷ []) 4294967295 [] 11)  -- 4294967295,0,11,0
    ∷ runs 4294967293 [] (line five)
    (came (52 ∷ 50 ∷ 57 ∷ 52 ∷ 57 ∷ 54 ∷ 55 ∷ 50 ∷ 57 ∷ 52 ∷ 44 ∷ 48 ∷ 44 ∷ 53 ∷ 44 ∷ 48 ∷ 10 ∷ []) 4294967294 [] 5)  -- 4294967294,0,5,0
    (came [] 4294967294 [] 5)
    ∷ runs 4294967293 [] five
    (came [] 4294967293 five 0)
    (came (52 ∷ 50 ∷ 57 ∷ 52 ∷ 57 ∷ 54 ∷ 55 ∷ 50 ∷ 57 ∷ 52 ∷ 44 ∷ 48 ∷ 44 ∷ 53 ∷ 44 ∷ 48 ∷ 10 ∷ []) 4294967294 [] 5)  -- 4294967294,0,5,0
    -- after it: nothing is read or written, and the state stays
    ∷ runs 4294967295 [] (line five ++ line six)
    (came [] 4294967295 [] 0)
    (came [] 4294967295 [] 0)
    ∷ runs 4294967295 [] five
    (came [] 4294967295 [] 0)
    (came [] 4294967295 [] 0)
    ∷ runs 4294967295 five (10 ∷ [])
    (came [] 4294967295 five 0)
    (came [] 4294967295 five 0)
    ∷ runs 4294967295 five []
    (came [] 4294967295 five 0)
    (came [] 4294967295 five 0)
    ∷ []

-- ---- a line that is cut or too long

unfoldable pub cut_lines : List StreamRun
cut_lines =
    -- from the day's start on
    runs 0 [] []
    (came [] 0 [] 0)
    (came [] 0 [] 0)
    ∷ runs 0 [] (line five ++ (49 ∷ 44 ∷ []))  -- 1,
    (came (49 ∷ 44 ∷ 48 ∷ 44 ∷ 53 ∷ 44 ∷ 48 ∷ 10 ∷ []) 1 (49 ∷ 44 ∷ []) 5)  -- 1,0,5,0 and 1, kept
    (came (50 ∷ 44 ∷ 50 ∷ 48 ∷ 44 ∷ 48 ∷ 44 ∷ 48 ∷ 10 ∷ []) 2 [] 5)  -- 2,20,0,0
    ∷ runs 1 (49 ∷ 44 ∷ []) (48 ∷ 44 ∷ 48 ∷ 44 ∷ 54 ∷ 10 ∷ [])  -- 1, and 0,0,6LF
    (came (50 ∷ 44 ∷ 48 ∷ 44 ∷ 54 ∷ 44 ∷ 48 ∷ 10 ∷ []) 2 [] 6)  -- 2,0,6,0
    (came [] 2 [] 6)
    -- bytes 9, 11 and 13 end no line
    ∷ runs 8 five (9 ∷ 11 ∷ 13 ∷ [])
    (came [] 8 (five ++ (9 ∷ 11 ∷ 13 ∷ [])) 0)
    (came (57 ∷ 44 ∷ 50 ∷ 48 ∷ 44 ∷ 48 ∷ 44 ∷ 48 ∷ 10 ∷ []) 9 [] 0)  -- 9,20,0,0
    -- of a line that goes on 81 bytes are kept: they tell that it is too long
    ∷ runs 0 (ones 79) (ones 1)
    (came [] 0 (ones 80) 0)
    (came (49 ∷ 44 ∷ 50 ∷ 48 ∷ 44 ∷ 48 ∷ 44 ∷ 48 ∷ 10 ∷ []) 1 [] 0)  -- 1,20,0,0
    ∷ runs 0 (ones 80) (ones 1)
    (came [] 0 (ones 81) 0)
    (came (49 ∷ 44 ∷ 50 ∷ 48 ∷ 44 ∷ 48 ∷ 44 ∷ 48 ∷ 10 ∷ []) 1 [] 0)  -- 1,20,0,0
    ∷ runs 0 (ones 81) (ones 1)
    (came [] 0 (ones 81) 0)
    (came (49 ∷ 44 ∷ 50 ∷ 48 ∷ 44 ∷ 48 ∷ 44 ∷ 48 ∷ 10 ∷ []) 1 [] 0)  -- 1,20,0,0
    ∷ runs 0 (ones 80) (ones 120)
    (came [] 0 (ones 81) 0)
    (came (49 ∷ 44 ∷ 50 ∷ 48 ∷ 44 ∷ 48 ∷ 44 ∷ 48 ∷ 10 ∷ []) 1 [] 0)  -- 1,20,0,0
    -- its first 81
    ∷ runs 0 five (ones 120)
    (came [] 0 (five ++ ones 74) 0)
    (came (49 ∷ 44 ∷ 50 ∷ 48 ∷ 44 ∷ 48 ∷ 44 ∷ 48 ∷ 10 ∷ []) 1 [] 0)  -- 1,20,0,0
    -- and the line after it is read
    ∷ runs 0 (ones 80) (line [] ++ line five)
    (came (49 ∷ 44 ∷ 50 ∷ 48 ∷ 44 ∷ 48 ∷ 44 ∷ 48 ∷ 10 ∷ 50 ∷ 44 ∷ 48 ∷ 44 ∷ 53 ∷ 44 ∷ 48 ∷ 10 ∷ []) 2 [] 5)  -- 1,20,0,0 and 2,0,5,0
    (came [] 2 [] 5)
    ∷ runs 0 (ones 80) (line (ones 1) ++ line five)
    (came (49 ∷ 44 ∷ 50 ∷ 48 ∷ 44 ∷ 48 ∷ 44 ∷ 48 ∷ 10 ∷ 50 ∷ 44 ∷ 48 ∷ 44 ∷ 53 ∷ 44 ∷ 48 ∷ 10 ∷ []) 2 [] 5)  -- 1,20,0,0 and 2,0,5,0
    (came [] 2 [] 5)
    ∷ runs 0 (ones 81) (line [] ++ line five)
    (came (49 ∷ 44 ∷ 50 ∷ 48 ∷ 44 ∷ 48 ∷ 44 ∷ 48 ∷ 10 ∷ 50 ∷ 44 ∷ 48 ∷ 44 ∷ 53 ∷ 44 ∷ 48 ∷ 10 ∷ []) 2 [] 5)  -- 1,20,0,0 and 2,0,5,0
    (came [] 2 [] 5)
    ∷ runs 0 (ones 81) (line (ones 2) ++ five)
    (came (49 ∷ 44 ∷ 50 ∷ 48 ∷ 44 ∷ 48 ∷ 44 ∷ 48 ∷ 10 ∷ []) 1 five 0)  -- 1,20,0,0
    (came (50 ∷ 44 ∷ 48 ∷ 44 ∷ 53 ∷ 44 ∷ 48 ∷ 10 ∷ []) 2 [] 5)  -- 2,0,5,0
    ∷ []

-- ---- pieces

unfoldable pub pieces : List PiecesRun
pieces =
    -- none, and empty ones
    cut [] (came [] 0 [] 0)
    ∷ cut ([] ∷ [] ∷ []) (came [] 0 [] 0)
    -- two lines, cut anywhere
    ∷ cut (line five ∷ line six ∷ []) (came (49 ∷ 44 ∷ 48 ∷ 44 ∷ 53 ∷ 44 ∷ 48 ∷ 10 ∷ 50 ∷ 44 ∷ 48 ∷ 44 ∷ 49 ∷ 49 ∷ 44 ∷ 48 ∷ 10 ∷ []) 2 [] 11)  -- 1,0,5,0 and 2,0,11,0
    ∷ cut ((49 ∷ 44 ∷ 48 ∷ 44 ∷ []) ∷ (48 ∷ 44 ∷ 53 ∷ []) ∷ ((10 ∷ []) ++ six) ∷ [])  -- 1,0, and 0,5 and LF 1,0,0,6
    (came (49 ∷ 44 ∷ 48 ∷ 44 ∷ 53 ∷ 44 ∷ 48 ∷ 10 ∷ 50 ∷ 44 ∷ 48 ∷ 44 ∷ 49 ∷ 49 ∷ 44 ∷ 48 ∷ 10 ∷ []) 2 [] 11)  -- 1,0,5,0 and 2,0,11,0
    ∷ cut (five ∷ (10 ∷ []) ∷ [] ∷ (49 ∷ []) ∷ [] ∷ (44 ∷ 48 ∷ 44 ∷ 48 ∷ 44 ∷ 54 ∷ 10 ∷ []) ∷ [])  -- 1,0,0,5 and LF and 1 and ,0,0,6LF
    (came (49 ∷ 44 ∷ 48 ∷ 44 ∷ 53 ∷ 44 ∷ 48 ∷ 10 ∷ 50 ∷ 44 ∷ 48 ∷ 44 ∷ 49 ∷ 49 ∷ 44 ∷ 48 ∷ 10 ∷ []) 2 [] 11)  -- 1,0,5,0 and 2,0,11,0
    -- 79, 80, 81, 82 and 200 bytes that are no call, with byte 10 and then another line
    ∷ cut (ones 79 ∷ (line [] ++ line five) ∷ []) (came (49 ∷ 44 ∷ 50 ∷ 48 ∷ 44 ∷ 48 ∷ 44 ∷ 48 ∷ 10 ∷ 50 ∷ 44 ∷ 48 ∷ 44 ∷ 53 ∷ 44 ∷ 48 ∷ 10 ∷ []) 2 [] 5)  -- 1,20,0,0 and 2,0,5,0
    ∷ cut (ones 80 ∷ (line [] ++ line five) ∷ []) (came (49 ∷ 44 ∷ 50 ∷ 48 ∷ 44 ∷ 48 ∷ 44 ∷ 48 ∷ 10 ∷ 50 ∷ 44 ∷ 48 ∷ 44 ∷ 53 ∷ 44 ∷ 48 ∷ 10 ∷ []) 2 [] 5)  -- 1,20,0,0 and 2,0,5,0
    ∷ cut (ones 81 ∷ (line [] ++ line five) ∷ []) (came (49 ∷ 44 ∷ 50 ∷ 48 ∷ 44 ∷ 48 ∷ 44 ∷ 48 ∷ 10 ∷ 50 ∷ 44 ∷ 48 ∷ 44 ∷ 53 ∷ 44 ∷ 48 ∷ 10 ∷ []) 2 [] 5)  -- 1,20,0,0 and 2,0,5,0
    ∷ cut (ones 82 ∷ (line [] ++ line five) ∷ []) (came (49 ∷ 44 ∷ 50 ∷ 48 ∷ 44 ∷ 48 ∷ 44 ∷ 48 ∷ 10 ∷ 50 ∷ 44 ∷ 48 ∷ 44 ∷ 53 ∷ 44 ∷ 48 ∷ 10 ∷ []) 2 [] 5)  -- 1,20,0,0 and 2,0,5,0
    ∷ cut (ones 200 ∷ (line [] ++ line five) ∷ []) (came (49 ∷ 44 ∷ 50 ∷ 48 ∷ 44 ∷ 48 ∷ 44 ∷ 48 ∷ 10 ∷ 50 ∷ 44 ∷ 48 ∷ 44 ∷ 53 ∷ 44 ∷ 48 ∷ 10 ∷ []) 2 [] 5)  -- 1,20,0,0 and 2,0,5,0
    -- a call and then spaces, 80 and 81 bytes in all
    ∷ cut (six ∷ replicate 73 32 ∷ (line [] ++ line five) ∷ []) (came (49 ∷ 44 ∷ 50 ∷ 48 ∷ 44 ∷ 48 ∷ 44 ∷ 48 ∷ 10 ∷ 50 ∷ 44 ∷ 48 ∷ 44 ∷ 53 ∷ 44 ∷ 48 ∷ 10 ∷ []) 2 [] 5)  -- 1,20,0,0 and 2,0,5,0
    ∷ cut (six ∷ replicate 74 32 ∷ (line [] ++ line five) ∷ []) (came (49 ∷ 44 ∷ 50 ∷ 48 ∷ 44 ∷ 48 ∷ 44 ∷ 48 ∷ 10 ∷ 50 ∷ 44 ∷ 48 ∷ 44 ∷ 53 ∷ 44 ∷ 48 ∷ 10 ∷ []) 2 [] 5)  -- 1,20,0,0 and 2,0,5,0
    -- cut within, and without byte 10
    ∷ cut (ones 79 ∷ ones 1 ∷ []) (came (49 ∷ 44 ∷ 50 ∷ 48 ∷ 44 ∷ 48 ∷ 44 ∷ 48 ∷ 10 ∷ []) 1 [] 0)  -- 1,20,0,0
    ∷ cut (ones 80 ∷ ones 1 ∷ []) (came (49 ∷ 44 ∷ 50 ∷ 48 ∷ 44 ∷ 48 ∷ 44 ∷ 48 ∷ 10 ∷ []) 1 [] 0)  -- 1,20,0,0
    ∷ cut (ones 81 ∷ ones 1 ∷ []) (came (49 ∷ 44 ∷ 50 ∷ 48 ∷ 44 ∷ 48 ∷ 44 ∷ 48 ∷ 10 ∷ []) 1 [] 0)  -- 1,20,0,0
    ∷ cut (ones 100 ∷ ones 100 ∷ []) (came (49 ∷ 44 ∷ 50 ∷ 48 ∷ 44 ∷ 48 ∷ 44 ∷ 48 ∷ 10 ∷ []) 1 [] 0)  -- 1,20,0,0
    -- the longest call, 67 bytes, cut after 40: member 4294967295 is above 15
    ∷ cut
    ((51 ∷ 44 ∷ 52 ∷ 50 ∷ 57 ∷ 52 ∷ 57 ∷ 54 ∷ 55 ∷ 50 ∷ 57 ∷ 53 ∷ 44 ∷ 52 ∷ 50 ∷ 57 ∷ 52 ∷ 57 ∷ 54 ∷ 55 ∷ 50 ∷ 57 ∷ 53 ∷ 44 ∷ 52 ∷ 50 ∷ 57 ∷ 52 ∷ 57 ∷ 54 ∷ 55 ∷ 50 ∷ 57 ∷ 53 ∷ 44 ∷ 52 ∷ 50 ∷ 57 ∷ 52 ∷ 57 ∷ [])  -- 3,4294967295,4294967295,4294967295,42949
    ∷ (54 ∷ 55 ∷ 50 ∷ 57 ∷ 53 ∷ 44 ∷ 52 ∷ 50 ∷ 57 ∷ 52 ∷ 57 ∷ 54 ∷ 55 ∷ 50 ∷ 57 ∷ 53 ∷ 44 ∷ 52 ∷ 50 ∷ 57 ∷ 52 ∷ 57 ∷ 54 ∷ 55 ∷ 50 ∷ 57 ∷ 53 ∷ 10 ∷ [])  -- 67295,4294967295,4294967295LF
    ∷ line five
    ∷ [])
    (came (49 ∷ 44 ∷ 49 ∷ 44 ∷ 48 ∷ 44 ∷ 48 ∷ 10 ∷ 50 ∷ 44 ∷ 48 ∷ 44 ∷ 53 ∷ 44 ∷ 48 ∷ 10 ∷ []) 2 [] 5)  -- 1,1,0,0 and 2,0,5,0
    ∷ []

-- a line of 79 bytes or more (`long_lines` of fields) without byte 10 and with it, and then a deposit without byte 10 and with it
abbrev pub long_pieces : List ℕ → List (List (List ℕ))
long_pieces l = (l ∷ []) ∷ (l ∷ line [] ∷ []) ∷ (l ∷ line [] ∷ five ∷ []) ∷ (line l ∷ line five ∷ []) ∷ []

-- what comes of each
unfoldable pub long_came : List Came
long_came =
    came (49 ∷ 44 ∷ 50 ∷ 48 ∷ 44 ∷ 48 ∷ 44 ∷ 48 ∷ 10 ∷ []) 1 [] 0  -- 1,20,0,0
    ∷ came (49 ∷ 44 ∷ 50 ∷ 48 ∷ 44 ∷ 48 ∷ 44 ∷ 48 ∷ 10 ∷ []) 1 [] 0  -- 1,20,0,0
    ∷ came (49 ∷ 44 ∷ 50 ∷ 48 ∷ 44 ∷ 48 ∷ 44 ∷ 48 ∷ 10 ∷ 50 ∷ 44 ∷ 48 ∷ 44 ∷ 53 ∷ 44 ∷ 48 ∷ 10 ∷ []) 2 [] 5  -- 1,20,0,0 and 2,0,5,0
    ∷ came (49 ∷ 44 ∷ 50 ∷ 48 ∷ 44 ∷ 48 ∷ 44 ∷ 48 ∷ 10 ∷ 50 ∷ 44 ∷ 48 ∷ 44 ∷ 53 ∷ 44 ∷ 48 ∷ 10 ∷ []) 2 [] 5  -- 1,20,0,0 and 2,0,5,0
    ∷ []

-- pieces and the bytes that they are
unfoldable pub pieces_joined : List (List (List ℕ) × List ℕ)
pieces_joined =
    ([], [])  -- none
    ∷ (([] ∷ []), [])  -- an empty one
    ∷ (((49 ∷ 44 ∷ []) ∷ [] ∷ (48 ∷ []) ∷ (10 ∷ 50 ∷ []) ∷ []), (49 ∷ 44 ∷ 48 ∷ 10 ∷ 50 ∷ []))  -- 1, and an empty one and 0 and LF 2
    ∷ []

-- ---- what the code keeps

-- a day after three lines that keeps two bytes of the next, 1 and a comma
abbrev pub kept_day : Day
kept_day = record { exchange = fresh_exchange; done = 3; len = 2; line = 49 ∷ 44 ∷ replicate 79 0 }

abbrev pub kept_stream : Stream
kept_stream = record { exchange = fresh_exchange; done = 3; line = 49 ∷ 44 ∷ [] }
