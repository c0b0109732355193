-- The kept line taken with its end byte.
use Prim.Native.Nat.{ℕ, ◌+◌, ◌≤◌, ◌<◌}
use mathlib.Core.Path.{◌≡◌, refl, ap, ◌∙◌, subst}
use mathlib.Core.List.{List, [], ◌∷◌, ◌++◌}
use native.Mathlib.Omega.{arith}
use native.Mathlib.Numerals.{add-one}
use lib.ListN.{length, take, drop, set, length-append, length-drop}
use lib.Seq.{take-suc-set, take_at}
use Rattle.lines.specs.AnswerText.{longest_answer}
use Rattle.lines.specs.CallLines.{line_in}
use Rattle.model.specs.Answers.{answer_line}
use Rattle.model.specs.declared.answer.Outcome.{Outcome}
use Rattle.replay.specs.declared.day.Day.{Day}
use Rattle.replay.specs.declared.day.Fed.{Fed}
use Rattle.replay.specs.Days.{last_line}
use Rattle.replay.specs.Lines.{line_text}
use Rattle.replay.specs.Pieces.{text_of, stream_of}
use Rattle.replay.proofs.StreamLaws.{begun}
use Rattle.replay.proofs.FeedLaws.{line_alone, ten_among, alone_after, alone_count, alone_written}
use Rattle.in_place.specs.Loop.{WholeLines}
use Rattle.stream.specs.Lines.{LineEnded, Unbroken}

-- a text with byte 10 among its bytes does what no bytes do
pub broken : (text : List ℕ) → length (line_in text) < length text → Unbroken text []
broken text h = record { inside = omega arith; no_ten = omega arith; same = λ x. ten_among x text h }

-- a text at the start of longer bytes, with one byte after it
text_ended : (room t : List ℕ) (b : ℕ) → length t < length room → take (length t + 1) (set (t ++ drop (length t) room) (length t) b) ≡ t ++ (b ∷ [])
text_ended room t b h =
    let inside : length t < length (t ++ drop (length t) room) = omega (arith, length-append t (drop (length t) room), length-drop (length t) room) in
    rw add-one
    (take-suc-set (t ++ drop (length t) room) (length t) b inside ∙ ap (λ (l : List ℕ). l ++ (b ∷ [])) (take_at t (drop (length t) room) (length t) refl))

-- r is what was done to p, unbroken, and a byte 10 after it
module _ (d : Day) (text p : List ℕ) (f : Unbroken text p) (lines_left : d.done < last_line) (none : d.len ≡ 0)
    (room copy out out' : List ℕ) (r : Fed) (space : length p < length room) (copied : copy ≡ p)
    (lines : WholeLines d (take (length p + 1) (set (copy ++ drop (length p) room) (length p) 10)) out out' r) (lent : longest_answer ≤ length out)
  where
    w : WholeLines d (p ++ (10 ∷ [])) out out' r
    w = subst (λ (i : List ℕ). WholeLines d i out out' r) (ap (λ (t : List ℕ). take (length p + 1) (set (t ++ drop (length p) room) (length p) 10)) copied ∙ text_ended room p 10 space) lines

    whole : length (line_in (p ++ (10 ∷ []))) < r.used
    whole = w.goes_on lines_left lent (omega (arith, ap length (line_alone p f.no_ten), length-append p (10 ∷ [])))

    same_answer : line_text d.exchange (d.done + 1) p ≡ line_text d.exchange (d.done + 1) text
    unfolding line_text
    same_answer = ap (λ (o : Outcome). answer_line (d.done + 1) o.answer) (f.same d.exchange)

    pub line_ended : LineEnded d text out' r
    line_ended =
        let a = w.advanced in
        record {
          state =
              alone_after d lines_left none p f.no_ten out out' r a whole
              ∙ ap (λ (o : Outcome). begun o.exchange (d.done + 1) []) (f.same d.exchange);
          count = alone_count d lines_left none p f.no_ten out out' r a whole ∙ ap length same_answer;
          text = alone_written d lines_left none p f.no_ten out out' r a whole ∙ same_answer;
          fits =
              omega
              (arith, ap length a.text, a.count, length-append (text_of (stream_of d) (take r.used (p ++ (10 ∷ [])))) (drop r.wrote out));
        }
