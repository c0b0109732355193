-- What stands while a day is worked: the bytes of the input that were taken, and the front of the day's text that they make.
use mathlib.Core.Path.{◌≡◌, refl, sym, ap, ◌∙◌, subst}
use mathlib.Core.Bool.{false}
use mathlib.Core.List.{List, [], ◌∷◌, ◌++◌, append_assoc, append-nil}
use Prim.Native.Nat.{ℕ, zero, suc, ◌+◌, ◌-◌, ◌≤◌, ◌<◌}
use native.Mathlib.Omega.{arith}
use native.Mathlib.Nat.{not-suc-le-zero}
use lib.Dec.{eqb}
use lib.ListN.{length, take, drop, length-append, length-take, length-drop, take-append-drop, drop_of_length-le}
use lib.Seq.{take-add, take_all}
use borrow.Author.Tests.{lt-ltb, eqb-true}
use Rattle.decimal.specs.Buffer.{put_at, put_into}
use Rattle.decimal.proofs.Put.{put_fits, put_part, part_all, Run, run_more}
use Rattle.units.proofs.Cases.{by_test, by_order}
use Rattle.model.specs.Run.{Reachable, at_first}
use Rattle.lines.specs.AnswerText.{header}
use Rattle.lines.specs.CallLines.{line_in}
use Rattle.lines.specs.Kept.{kept_bytes}
use Rattle.lines.proofs.CallLaws.{line_within}
use Rattle.replay.specs.declared.day.Day.{Day}
use Rattle.replay.specs.declared.day.Fed.{Fed}
use Rattle.replay.specs.Days.{day_of, last_line}
use Rattle.replay.specs.Pieces.{Stream, start, next_byte, byte_text, after, text_of, last_bytes, end_text, stream_of, Advanced, first_line, FedBy}
use Rattle.replay.proofs.StreamLaws.{text_append, over_text, next_piece, after_reachable}
use Rattle.replay.proofs.DayText.{any_cutting}
use Rattle.replay.proofs.FeedLaws.{some_begun}

-- ---- the day's text, cut after some bytes of the input

-- what these bytes make
abbrev pub front : List ℕ → ℕ → List ℕ
front input from = header ++ text_of start (take from input)

-- what is still to come where the bytes bs are left
abbrev pub rest : Stream → List ℕ → List ℕ
rest s bs = text_of s bs ++ end_text (after s bs)

day_parts : (input : List ℕ) (from : ℕ) → day_of input ≡ front input from ++ rest (after start (take from input)) (drop from input)
day_parts input from =
    let a : List ℕ = take from input in
    let b : List ℕ = drop from input in
    sym (ap day_of (ap (λ (l : List ℕ). a ++ l) (append-nil b) ∙ take-append-drop from input)) ∙ sym (any_cutting (a ∷ b ∷ [])).text

-- ---- worked so far

-- the first from bytes of the input were taken, s is the stream after them, and at the length of what they make
pub record Worked (input : List ℕ) (from : ℕ) (s : Stream) (at : ℕ) : Type 0 where
  pub inside : from ≤ length input
  pub state : s ≡ after start (take from input)
  pub count : at ≡ length (front input from)

pub worked_start : (input : List ℕ) (s : Stream) → s ≡ start → Worked input 0 s 23
worked_start input s e = record { inside = omega arith; state = e; count = refl }

module _ (input : List ℕ) (from : ℕ) (s : Stream) (at : ℕ) (w : Worked input from s at) where
  pub worked_reachable : Reachable s.exchange
  worked_reachable = subst (λ (v : Stream). Reachable v.exchange) (sym w.state) (after_reachable start at_first (take from input))

  -- what is still to come
  pub worked_rest : day_of input ≡ front input from ++ rest s (drop from input)
  worked_rest = day_parts input from ∙ ap (λ (v : Stream). front input from ++ rest v (drop from input)) (sym w.state)

  pub worked_room : at + length (rest s (drop from input)) ≡ length (day_of input)
  worked_room = omega (arith, w.count, ap length worked_rest, length-append (front input from) (rest s (drop from input)))

  -- all was taken
  pub worked_all : length input ≤ from → day_of input ≡ front input from ++ end_text s
  worked_all h = worked_rest ∙ ap (λ (l : List ℕ). front input from ++ rest s l) (drop_of_length-le input {i = from} h)

-- a part more is fed
module _ (input : List ℕ) (from : ℕ) (d : Day) (at : ℕ) (w : Worked input from (stream_of d) at) (part out out' : List ℕ) (r : Fed) (p : part ≡ drop from input)
    (a : Advanced d part out out' r)
  where
    pub more_front : front input (from + r.used) ≡ front input from ++ text_of (stream_of d) (take r.used part)
    more_front =
        ap (λ (l : List ℕ). header ++ text_of start l) (take-add from r.used input)
        ∙ ap (λ (l : List ℕ). header ++ l) (text_append start (take from input) (take r.used (drop from input)))
        ∙ sym (append_assoc header (text_of start (take from input)) _)
        ∙ ap (λ (v : Stream). front input from ++ text_of v (take r.used (drop from input))) (sym w.state)
        ∙ ap (λ (l : List ℕ). front input from ++ text_of (stream_of d) (take r.used l)) (sym p)

    pub worked_more : Worked input (from + r.used) (stream_of r.day) (at + r.wrote)
    worked_more =
        record {
          inside = omega (arith, a.within, ap length p, length-drop from input, w.inside);
          state = next_piece start (stream_of d) (stream_of r.day) input part from r.used p w.state a.state;
          count = omega (arith, w.count, a.count, ap length more_front, length-append (front input from) (text_of (stream_of d) (take r.used part)));
        }

-- ---- its length

pub header_fits : (input : List ℕ) → 23 ≤ length (day_of input)
header_fits input = omega (arith, worked_room input 0 start 23 (worked_start input start refl))

-- ---- something is taken

-- a byte that is no byte 10 begins a line
begins : (s : Stream) (b : ℕ) → s.done < last_line → eqb b 10 ≡ false → 0 < length (next_byte s b).line
unfolding next_byte
begins s b h e = rw (lt-ltb s.done last_line h, e) (omega (arith, length-take kept_bytes (s.line ++ (b ∷ [])), length-append s.line (b ∷ [])))

-- the line that ends first is answered within what is still to come
pub first_fits : (s : Stream) (bs : List ℕ) → 0 < length bs + length s.line → length (text_of s (first_line bs)) ≤ length (rest s bs)
first_fits s [] h = omega (arith, ap (λ (l : List ℕ). length (text_of s l)) (some_begun s.line (omega arith)))
first_fits s (b ∷ bs) h =
    let s' : Stream = next_byte s b in
    let all : length (rest s (b ∷ bs)) ≡ length (byte_text s b) + length (rest s' bs) =
    ap length (append_assoc (byte_text s b) (text_of s' bs) (end_text (after s' bs))) ∙ length-append (byte_text s b) (rest s' bs) in
    by_order s.done last_line
    (λ l.
    by_test (eqb b 10)
    (λ e. rw e (omega (arith, all, length-append (byte_text s 10) [], ap (λ (k : ℕ). length (byte_text s k)) (eqb-true b 10 e))))
    (λ e. rw e (omega (arith, all, length-append (byte_text s b) (text_of s' (first_line bs)), first_fits s' bs (omega (arith, begins s b l e))))))
    (λ over. omega (arith, ap length (over_text s over (first_line (b ∷ bs)))))

-- the last line where it has no byte 10
pub last_line_lem : (l : List ℕ) → 0 < length (last_bytes l) → first_line (last_bytes l) ≡ last_bytes l
last_line_lem [] h = absurd (not-suc-le-zero h)
last_line_lem (b ∷ l) h = refl

pub takes_some : (d : Day) (bs out out' : List ℕ) (r : Fed) → FedBy d bs out out' r → 0 < length bs → length (text_of (stream_of d) (first_line bs)) ≤ length out → 0 < r.used
takes_some d bs out out' r f h fits =
    by_order (length (line_in bs)) (length bs)
    (λ inside. omega (arith, f.answers inside fits))
    (λ whole. omega (arith, f.no_end (omega (arith, whole, line_within bs)), h))

-- ---- the last line is finished

one_byte : (l : List ℕ) → length (last_bytes l) ≤ 1
one_byte [] = omega arith
one_byte (b ∷ l) = omega arith

module _ (d : Day) (out out' : List ℕ) (r : Fed) (a : Advanced d (last_bytes (stream_of d).line) out out' r) (some : 0 < length (last_bytes (stream_of d).line) → 0 < r.used)
  where
    all : length (last_bytes (stream_of d).line) ≤ r.used
    all = go (length (last_bytes (stream_of d).line)) (one_byte (stream_of d).line) some
      where
        go : (n : ℕ) → n ≤ 1 → (0 < n → 0 < r.used) → n ≤ r.used
        go zero h t = omega arith
        go (suc n) h t = omega (arith, t (omega arith), h)

    pub end_is : text_of (stream_of d) (take r.used (last_bytes (stream_of d).line)) ≡ end_text (stream_of d)
    end_is = ap (text_of (stream_of d)) (take_all r.used (last_bytes (stream_of d).line) all)

    pub end_count : r.wrote ≡ length (end_text (stream_of d))
    end_count = a.count ∙ ap length end_is

-- ---- into a buffer

-- text fed into the part from at on, when the part is back: t stood before it
module _ (xs t out : List ℕ) (at : ℕ) (run : Run xs 0 t out at) (d : Day) (bs last : List ℕ) (r : Fed) (a : Advanced d bs (take (length out - at) (drop at out)) last r)
    (fits : at + r.wrote ≤ length out) (room : at + r.wrote ≤ length xs)
  where
    part : List ℕ
    part = take (length out - at) (drop at out)

    text : List ℕ
    text = text_of (stream_of d) (take r.used bs)

    filled : last ≡ put_into part text
    unfolding part text
    filled =
        a.text
        ∙ ap (λ (k : ℕ). text ++ drop k part) a.count
        ∙ sym (put_fits part text (omega (arith, a.count, fits, ap length (part_all out at), length-drop at out)))

    back : take at out ++ (last ++ drop (length out - at) (drop at out)) ≡ put_at out at text
    unfolding part text
    back =
        ap (λ (l : List ℕ). take at out ++ (l ++ drop (length out - at) (drop at out))) filled
        ∙ put_part out text at (omega (arith, a.count, fits))

    pub fed_run : Run xs 0 (t ++ text_of (stream_of d) (take r.used bs)) (take at out ++ (last ++ drop (length out - at) (drop at out))) (at + r.wrote)
    unfolding text
    fed_run = run_more xs 0 t out text _ at (at + r.wrote) run (omega (arith, run.place, a.count, room)) back (ap (λ (k : ℕ). at + k) a.count)
