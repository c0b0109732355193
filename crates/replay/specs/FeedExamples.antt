-- What feeding promises, on given days: what `FedBy` fixes there, what meets it, and what it refuses.
use Rattle.std.specs.Prelude.{ℕ, ◌<◌, ◌≡◌, List, [], ◌∷◌, ◌++◌, length, take, replicate}
use Rattle.model.specs.State.{balance, credit, with_supply, fresh_exchange}
use Rattle.replay.specs.declared.day.Day.{Day}
use Rattle.replay.specs.declared.day.Fed.{Fed}
use Rattle.replay.specs.Pieces.{Advanced, FedBy}
use Rattle.replay.specs.StreamExamples.{five, six, line}

-- a day in the fresh state after so many lines, that keeps these bytes of the next
abbrev pub day_with : ℕ → List ℕ → Day
day_with done kept = record { exchange = fresh_exchange; done = done; len = length kept; line = kept ++ (55 ∷ 55 ∷ 55 ∷ []) }

-- the day after the deposit of 5 units, which was its seventh line
abbrev pub day_paid : Day
day_paid = record { exchange = credit (with_supply fresh_exchange 0 5) 0 0 5; done = 7; len = 0; line = five }

abbrev pub fed : Day → (used wrote : ℕ) → Fed
fed d used wrote = record { day = d; used = used; wrote = wrote }

-- a buffer of so many bytes 9, and the answer to the deposit
abbrev pub nines : ℕ → List ℕ
nines n = replicate n 9

abbrev pub paid : List ℕ
paid = 55 ∷ 44 ∷ 48 ∷ 44 ∷ 53 ∷ 44 ∷ 48 ∷ 10 ∷ []  -- 7,0,5,0

-- ---- what it fixes

-- how much was taken and written, and the buffer after it; then how many lines were answered, what is kept, and member 0's balance of token 0
pub record FedSo (took put : ℕ) (left : List ℕ) (lines : ℕ) (begun : List ℕ) (units : ℕ) (out' : List ℕ) (r : Fed) : Type 0 where
  pub used : r.used ≡ took
  pub wrote : r.wrote ≡ put
  pub buffer : out' ≡ left
  pub done : r.day.done ≡ lines
  pub kept : take r.day.len r.day.line ≡ begun
  pub held : balance r.day.exchange 0 0 ≡ units

pub record FedUsed : Type 0 where
  -- 1, is kept, and 0 comes; no line ends: all is taken, with any buffer
  pub no_bytes : (out out' : List ℕ) (r : Fed) → FedBy (day_with 3 (49 ∷ 44 ∷ [])) [] out out' r → FedSo 0 0 out 3 (49 ∷ 44 ∷ []) 0 out' r
  pub cut_line :
      (out out' : List ℕ) (r : Fed) → FedBy (day_with 3 (49 ∷ 44 ∷ [])) (48 ∷ []) out out' r → FedSo 1 0 out 3 (49 ∷ 44 ∷ 48 ∷ []) 0 out' r
  -- a line ends whose answer, 7,0,5,0 and byte 10, needs 8 bytes: with 10 and with 8 it is taken, with 7 nothing is
  pub room_left : (out' : List ℕ) (r : Fed) → FedBy (day_with 6 []) (line five) (nines 10) out' r → FedSo 8 8 (paid ++ nines 2) 7 [] 5 out' r
  pub just_room : (out' : List ℕ) (r : Fed) → FedBy (day_with 6 []) (line five) (nines 8) out' r → FedSo 8 8 paid 7 [] 5 out' r
  pub too_short : (out' : List ℕ) (r : Fed) → FedBy (day_with 6 []) (line five) (nines 7) out' r → FedSo 0 0 (nines 7) 6 [] 0 out' r
  -- begun in an earlier piece
  pub begun_ends : (out' : List ℕ) (r : Fed) → FedBy (day_with 6 five) (10 ∷ []) (nines 8) out' r → FedSo 1 8 paid 7 [] 5 out' r
  pub begun_waits : (out' : List ℕ) (r : Fed) → FedBy (day_with 6 five) (10 ∷ []) (nines 7) out' r → FedSo 0 0 (nines 7) 6 five 0 out' r
  -- of two lines at least the first, and not both: 8,0,11,0 has no room
  pub first_taken : (out' : List ℕ) (r : Fed) → FedBy (day_with 6 []) (line five ++ line six) (nines 8) out' r → 7 < r.used
  pub second_waits : (out' : List ℕ) (r : Fed) → FedBy (day_with 6 []) (line five ++ line six) (nines 8) out' r → r.used ≡ 16 → ⊥
  -- after the last line all is taken, and nothing written
  pub over :
      (out out' : List ℕ) (r : Fed) → FedBy (day_with 4294967295 five) (line six ++ line six) out out' r → FedSo 16 0 out 4294967295 five 0 out' r
  -- with 35 bytes, on any day, something
  pub goes_on : (d : Day) (b : ℕ) (bs out' : List ℕ) (r : Fed) → FedBy d (b ∷ bs) (nines 35) out' r → 0 < r.used

-- ---- what meets it

pub record FedMet : Type 0 where
  -- no bytes, and a cut line, with any buffer
  pub no_bytes : (out : List ℕ) → FedBy (day_with 3 []) [] out out (fed (day_with 3 []) 0 0)
  pub cut_line : (out : List ℕ) → FedBy (day_with 3 (49 ∷ 44 ∷ [])) (48 ∷ []) out out (fed (day_with 3 (49 ∷ 44 ∷ 48 ∷ [])) 1 0)
  pub room_left : FedBy (day_with 6 []) (line five) (nines 10) (paid ++ nines 2) (fed day_paid 8 8)
  pub too_short : FedBy (day_with 6 []) (line five) (nines 7) (nines 7) (fed (day_with 6 []) 0 0)
  pub over : FedBy (day_with 4294967295 []) (line five) [] [] (fed (day_with 4294967295 []) 8 0)

-- ---- what it refuses

pub record FedRefused : Type 0 where
  -- a cut line that is not taken: 1, and 0
  pub cut_left : FedBy (day_with 3 (49 ∷ 44 ∷ [])) (48 ∷ []) [] [] (fed (day_with 3 (49 ∷ 44 ∷ [])) 0 0) → ⊥
  -- a line with just the room that is not taken, or not to its end
  pub line_left : FedBy (day_with 6 []) (line five) (nines 8) (nines 8) (fed (day_with 6 []) 0 0) → ⊥
  pub end_left : FedBy (day_with 6 []) (line five) (nines 8) (nines 8) (fed (day_with 6 five) 7 0) → ⊥
  -- bytes taken of a line without the room
  pub part_taken : FedBy (day_with 6 []) (line five) (nines 7) (nines 7) (fed (day_with 6 five) 7 0) → ⊥
  pub one_taken : FedBy (day_with 6 []) (line five) (nines 7) (nines 7) (fed (day_with 6 (49 ∷ [])) 1 0) → ⊥
  -- bytes left after the last line
  pub over_left : FedBy (day_with 4294967295 []) (line five) [] [] (fed (day_with 4294967295 []) 0 0) → ⊥
  -- and, whatever is taken: a byte more than there are, another count, a byte of the text, a byte after it, a text longer than the buffer
  pub over_input : Advanced (day_with 6 []) (line five) (nines 10) (paid ++ nines 2) (fed day_paid 9 8) → ⊥
  pub count_less : Advanced (day_with 6 []) (line five) (nines 10) (paid ++ nines 2) (fed day_paid 8 7) → ⊥
  pub count_more : Advanced (day_with 6 []) (line five) (nines 10) (paid ++ nines 2) (fed day_paid 8 9) → ⊥
  pub text_other : Advanced (day_with 6 []) (line five) (nines 10) (56 ∷ 44 ∷ 48 ∷ 44 ∷ 53 ∷ 44 ∷ 48 ∷ 10 ∷ nines 2) (fed day_paid 8 8) → ⊥  -- 8,0,5,0
  pub end_other : Advanced (day_with 6 []) (line five) (nines 10) (paid ++ (9 ∷ 0 ∷ [])) (fed day_paid 8 8) → ⊥
  pub buffer_shorter : Advanced (day_with 6 []) (line five) (nines 10) (paid ++ nines 1) (fed day_paid 8 8) → ⊥
  pub no_room : Advanced (day_with 6 []) (line five) (nines 7) paid (fed day_paid 8 8) → ⊥
  -- another state: nothing deposited, another line, a byte kept
  pub not_moved : Advanced (day_with 6 []) (line five) (nines 10) (paid ++ nines 2) (fed (day_with 7 []) 8 8) → ⊥
  pub not_counted : Advanced (day_with 6 []) (line []) (nines 10) (55 ∷ 44 ∷ 50 ∷ 48 ∷ 44 ∷ 48 ∷ 44 ∷ 48 ∷ 10 ∷ 9 ∷ []) (fed (day_with 6 []) 1 9) → ⊥  -- 7,20,0,0
  pub kept_more : Advanced (day_with 6 (49 ∷ [])) (44 ∷ []) [] [] (fed (day_with 6 (49 ∷ 44 ∷ 44 ∷ [])) 1 0) → ⊥
  pub kept_less : Advanced (day_with 6 (49 ∷ [])) (44 ∷ []) [] [] (fed (day_with 6 (49 ∷ [])) 1 0) → ⊥
