-- The day in pieces: what has been read so far, and what each piece of the input makes the program write.
use Rattle.std.specs.Prelude.{ℕ, ◌+◌, ◌≤◌, ◌<◌, ◌≡◌, cond, List, [], ◌∷◌, ◌++◌, ltb, eqb, length, take, drop}
use Rattle.model.specs.declared.state.Exchange.{Exchange}
use Rattle.model.specs.State.{fresh_exchange}
use Rattle.replay.specs.declared.day.Day.{Day}
use Rattle.replay.specs.declared.day.Fed.{Fed}
use Rattle.replay.specs.Lines.{line_outcome, line_text}
use Rattle.lines.specs.CallLines.{line_in}
use Rattle.lines.specs.Kept.{kept_bytes}
use Rattle.model.specs.Run.{Reachable}
use Rattle.lines.specs.AnswerText.{header, longest_answer}
use Rattle.replay.specs.Days.{day_of, day_state, last_line}

-- ---- byte by byte

-- the state, how many lines were answered, and the bytes of the line that has begun; 81 of them tell that it is too long
pub record Stream : Type 0 where
  pub exchange : Exchange
  pub done : ℕ
  pub line : List ℕ

abbrev pub start : Stream
start = record { exchange = fresh_exchange; done = 0; line = [] }

-- the line ends
unfoldable pub end_line : Stream → Stream
end_line s = record { exchange = (line_outcome s.exchange s.line).exchange; done = s.done + 1; line = [] }

abbrev pub line_more : Stream → ℕ → Stream
line_more s b = record { exchange = s.exchange; done = s.done; line = take kept_bytes (s.line ++ (b ∷ [])) }

-- one byte; after the last line nothing is read
unfoldable pub next_byte : Stream → ℕ → Stream
next_byte s b = cond (ltb s.done last_line) (cond (eqb b 10) (end_line s) (line_more s b)) s

unfoldable pub byte_text : Stream → ℕ → List ℕ
byte_text s b = cond (ltb s.done last_line) (cond (eqb b 10) (line_text s.exchange (s.done + 1) s.line) []) []

-- a piece: where it leaves the stream, and what it makes the program write
abbrev pub after : Stream → List ℕ → Stream
after s [] = s
after s (b ∷ bs) = after (next_byte s b) bs

abbrev pub text_of : Stream → List ℕ → List ℕ
text_of s [] = []
text_of s (b ∷ bs) = byte_text s b ++ text_of (next_byte s b) bs

-- at the input's end: a line that has begun counts as if its byte 10 had come
abbrev pub last_bytes : List ℕ → List ℕ
last_bytes [] = []
last_bytes (b ∷ bs) = 10 ∷ []

abbrev pub end_text : Stream → List ℕ
end_text s = text_of s (last_bytes s.line)

abbrev pub ended : Stream → Stream
ended s = after s (last_bytes s.line)

-- what pieces make the program write, one after the other, and the input that they are
abbrev pub written_by : Stream → List (List ℕ) → List ℕ
written_by s [] = end_text s
written_by s (p ∷ ps) = text_of s p ++ written_by (after s p) ps

abbrev pub after_all : Stream → List (List ℕ) → Stream
after_all s [] = ended s
after_all s (p ∷ ps) = after_all (after s p) ps

abbrev pub joined : List (List ℕ) → List ℕ
joined [] = []
joined (p ∷ ps) = p ++ joined ps

-- any cutting of the input gives the day's text, and leaves the day's state
pub record CutAnywhere (ps : List (List ℕ)) : Type 0 where
  pub text : header ++ written_by start ps ≡ day_of (joined ps)
  pub state : (after_all start ps).exchange ≡ day_state (joined ps)

abbrev pub AnyCutting : Type 0
AnyCutting = (ps : List (List ℕ)) → CutAnywhere ps

-- a state that calls can leave stays one
abbrev pub StaysReachable : Type 0
StaysReachable = (s : Stream) → Reachable s.exchange → (bs : List ℕ) → Reachable (after s bs).exchange

-- ---- what feeding promises

-- what the code keeps between two pieces
abbrev pub stream_of : Day → Stream
stream_of d = record { exchange = d.exchange; done = d.done; line = take d.len d.line }

-- how many bytes of the input were taken; what these make the program write stands at the start of the buffer, whose other bytes are as they were
pub record Advanced (d : Day) (input out out' : List ℕ) (r : Fed) : Type 0 where
  pub within : r.used ≤ length input
  pub count : r.wrote ≡ length (text_of (stream_of d) (take r.used input))
  pub fits : r.wrote ≤ length out
  pub text : out' ≡ text_of (stream_of d) (take r.used input) ++ drop r.wrote out
  pub state : stream_of r.day ≡ after (stream_of d) (take r.used input)

-- the line that ends first
abbrev pub first_line : List ℕ → List ℕ
first_line input = line_in input ++ (10 ∷ [])

-- how much of the input is taken is free but for this: all of it where no line ends in it; where one does, at least the line that ends first if its
-- answer fits, and nothing if it does not, as 21 has it; all of it after the last line; and something where any answer line fits
pub record FedBy (d : Day) (input out out' : List ℕ) (r : Fed) : Type 0 where
  pub advanced : Advanced d input out out' r
  pub no_end : length (line_in input) ≡ length input → r.used ≡ length input
  pub answers : length (line_in input) < length input → length (text_of (stream_of d) (first_line input)) ≤ length out → length (line_in input) < r.used
  pub waits : length (line_in input) < length input → length out < length (text_of (stream_of d) (first_line input)) → r.used ≡ 0
  pub over : last_line ≤ d.done → r.used ≡ length input
  pub goes_on : 0 < length input → longest_answer ≤ length out → 0 < r.used

-- ---- a whole day fed

-- bytes fed from day d on, in pieces of any size with any buffers, of which each feeding takes what it takes; what was written for them; and the day after them
pub data Feeding : Day → List ℕ → List ℕ → Day → Type 0 where
  nothing_fed : (d : Day) → Feeding d [] [] d
  then_fed :
      (d d' : Day) (piece more text out out' : List ℕ) (r : Fed) → Advanced d piece out out' r → Feeding r.day (drop r.used piece ++ more) text d'
      → Feeding d (piece ++ more) (take r.wrote out' ++ text) d'

-- whatever was fed from a fresh day on, and a last line then finished: the answers are the day's text after its header, and the state is the day's
abbrev pub FedIsDay : Type 0
FedIsDay =
    (d₀ d : Day) (input text out out' : List ℕ) (r : Fed) → stream_of d₀ ≡ start → Feeding d₀ input text d → Advanced d (last_bytes (stream_of d).line) out out' r
    → r.used ≡ length (last_bytes (stream_of d).line)
    → (header ++ (text ++ take r.wrote out') ≡ day_of input) × (r.day.exchange ≡ day_state input)
