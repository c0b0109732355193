-- Laws of a stream of bytes: pieces put together, a line within a piece, and the line that is kept.
use Rattle.std.specs.Prelude.{None}
use mathlib.Core.Path.{◌≡◌, refl, sym, ap, ◌∙◌}
use mathlib.Core.Bool.{true, false}
use mathlib.Core.List.{List, [], ◌∷◌, ◌++◌, append_assoc, append-nil}
use Prim.Native.Nat.{ℕ, ◌+◌, ◌≤◌, ◌<◌}
use native.Mathlib.Omega.{arith}
use lib.Dec.{ltb, eqb}
use lib.ListN.{length, take, drop, length-drop}
use lib.Seq.{take_all, length-take-le, take-add}
use borrow.Author.Tests.{lt-ltb, le-ltb}
use Rattle.units.proofs.Cases.{by_test, by_order}
use Rattle.model.specs.declared.state.Exchange.{Exchange}
use Rattle.model.specs.declared.answer.Outcome.{Outcome}
use Rattle.model.specs.Answers.{answer_line}
use Rattle.model.specs.Run.{Reachable}
use Rattle.fields.proofs.LineLaws.{line_long}
use Rattle.lines.specs.CallLines.{reading_of, line_in, line_at}
use Rattle.lines.proofs.CallLaws.{line_within}
use Rattle.lines.specs.Kept.{kept_bytes}
use Rattle.lines.proofs.KeptLaws.{kept}
use Rattle.lines.specs.declared.call.LineAt.{LineAt}
use Rattle.replay.specs.Lines.{outcome_of, line_outcome, line_text}
use Rattle.replay.specs.Days.{last_line}
use Rattle.replay.specs.Pieces.{Stream, end_line, next_byte, byte_text, after, text_of, StaysReachable}
use Rattle.replay.proofs.LineRun.{reachable_line}

-- ---- pieces put together

pub after_append : (s : Stream) (a b : List ℕ) → after s (a ++ b) ≡ after (after s a) b
after_append s [] b = refl
after_append s (x ∷ a) b = after_append (next_byte s x) a b

pub text_append : (s : Stream) (a b : List ℕ) → text_of s (a ++ b) ≡ text_of s a ++ text_of (after s a) b
text_append s [] b = refl
text_append s (x ∷ a) b =
    ap (λ (t : List ℕ). byte_text s x ++ t) (text_append (next_byte s x) a b) ∙ sym (append_assoc (byte_text s x) (text_of (next_byte s x) a) _)

-- ---- the line that is kept: 81 bytes do what the whole line does

too_long : (p : List ℕ) → 80 < length p → reading_of p ≡ None
unfolding reading_of
too_long p h = rw (line_long p h)

same_reading : (p : List ℕ) → reading_of (take kept_bytes p) ≡ reading_of p
same_reading p =
    by_order kept_bytes (length p)
    (λ h. too_long (take 81 p) (omega (arith, length-take-le 81 p (omega arith))) ∙ sym (too_long p (omega arith)))
    (λ h. ap reading_of (take_all 81 p h))

pub same_outcome : (x : Exchange) (p : List ℕ) → line_outcome x (take kept_bytes p) ≡ line_outcome x p
unfolding line_outcome
same_outcome x p = ap (outcome_of x) (same_reading p)

pub same_text : (x : Exchange) (n : ℕ) (p : List ℕ) → line_text x n (take kept_bytes p) ≡ line_text x n p
unfolding line_text
same_text x n p = ap (λ (o : Outcome). answer_line n o.answer) (same_outcome x p)

-- ---- a stream after the bytes p of a line

abbrev pub begun : Exchange → ℕ → List ℕ → Stream
begun x n p = record { exchange = x; done = n; line = take kept_bytes p }

module _ (x : Exchange) (n : ℕ) (p : List ℕ) where
  -- a byte 10
  pub end_byte : n < last_line → (b : ℕ) → eqb b 10 ≡ true → next_byte (begun x n p) b ≡ begun (line_outcome x p).exchange (n + 1) []
  unfolding next_byte end_line
  end_byte h b e = rw (lt-ltb n last_line h, e) (ap (λ (o : Outcome). begun o.exchange (n + 1) []) (same_outcome x p))

  pub end_text_lem : n < last_line → (b : ℕ) → eqb b 10 ≡ true → byte_text (begun x n p) b ≡ line_text x (n + 1) p
  unfolding byte_text
  end_text_lem h b e = rw (lt-ltb n last_line h, e) (same_text x (n + 1) p)

  -- any other byte
  pub more_byte : n < last_line → (b : ℕ) → eqb b 10 ≡ false → next_byte (begun x n p) b ≡ begun x n (p ++ (b ∷ []))
  unfolding next_byte
  more_byte h b e = rw (lt-ltb n last_line h, e) (ap (λ (l : List ℕ). record { exchange = x; done = n; line = l }) (kept kept_bytes p (b ∷ [])))

  pub more_text : n < last_line → (b : ℕ) → eqb b 10 ≡ false → byte_text (begun x n p) b ≡ []
  unfolding byte_text
  more_text h b e = rw (lt-ltb n last_line h, e)

-- after the last line nothing happens
module _ (s : Stream) (h : last_line ≤ s.done) where
  over_byte : (b : ℕ) → next_byte s b ≡ s
  unfolding next_byte
  over_byte b = rw (le-ltb s.done last_line h)

  over_silent : (b : ℕ) → byte_text s b ≡ []
  unfolding byte_text
  over_silent b = rw (le-ltb s.done last_line h)

  pub over_after : (bs : List ℕ) → after s bs ≡ s
  over_after [] = refl
  over_after (b ∷ bs) = ap (λ (v : Stream). after v bs) (over_byte b) ∙ over_after bs

  pub over_text : (bs : List ℕ) → text_of s bs ≡ []
  over_text [] = refl
  over_text (b ∷ bs) =
      ap (λ (t : List ℕ). t ++ text_of (next_byte s b) bs) (over_silent b) ∙ ap (λ (v : Stream). text_of v bs) (over_byte b) ∙ over_text bs

-- ---- the line at the front of some bytes

-- its bytes are no byte 10: they only join the line
pub line_after : (x : Exchange) (n : ℕ) → n < last_line → (bs p : List ℕ) → after (begun x n p) (line_in bs) ≡ begun x n (p ++ line_in bs)
line_after x n h [] p = ap (begun x n) (sym (append-nil p))
line_after x n h (b ∷ bs) p =
    by_test (eqb b 10)
    (λ e. rw e (ap (begun x n) (sym (append-nil p))))
    (λ e.
    rw e
    (ap (λ (s : Stream). after s (line_in bs)) (more_byte x n p h b e)
    ∙ line_after x n h bs (p ++ (b ∷ []))
    ∙ ap (begun x n) (append_assoc p (b ∷ []) (line_in bs))))

pub line_silent : (x : Exchange) (n : ℕ) → n < last_line → (bs p : List ℕ) → text_of (begun x n p) (line_in bs) ≡ []
line_silent x n h [] p = refl
line_silent x n h (b ∷ bs) p =
    by_test (eqb b 10)
    (λ e. rw e)
    (λ e.
    rw e
    (ap (λ (t : List ℕ). t ++ text_of (next_byte (begun x n p) b) (line_in bs)) (more_text x n p h b e)
    ∙ ap (λ (s : Stream). text_of s (line_in bs)) (more_byte x n p h b e)
    ∙ line_silent x n h bs (p ++ (b ∷ []))))

-- with its byte 10 it is answered
module _ (x : Exchange) (n : ℕ) (h : n < last_line) (bs p : List ℕ) where
  pub ended_after : after (begun x n p) (line_in bs ++ (10 ∷ [])) ≡ begun (line_outcome x (p ++ line_in bs)).exchange (n + 1) []
  ended_after =
      after_append (begun x n p) (line_in bs) (10 ∷ [])
      ∙ ap (λ (s : Stream). next_byte s 10) (line_after x n h bs p)
      ∙ end_byte x n (p ++ line_in bs) h 10 refl

  pub ended_text : text_of (begun x n p) (line_in bs ++ (10 ∷ [])) ≡ line_text x (n + 1) (p ++ line_in bs)
  ended_text =
      text_append (begun x n p) (line_in bs) (10 ∷ [])
      ∙ ap (λ (t : List ℕ). t ++ text_of (after (begun x n p) (line_in bs)) (10 ∷ [])) (line_silent x n h bs p)
      ∙ append-nil (byte_text (after (begun x n p) (line_in bs)) 10)
      ∙ ap (λ (s : Stream). byte_text s 10) (line_after x n h bs p)
      ∙ end_text_lem x n (p ++ line_in bs) h 10 refl

-- ---- where the line lies

-- what reading the line at a place answers
module _ (l : LineAt) (bytes : List ℕ) (from : ℕ) (is : l ≡ line_at bytes from) where
  pub line_end_is : l.end ≡ from + length (line_in (drop from bytes))
  unfolding line_at
  line_end_is = ap (λ (r : LineAt). r.end) is

  pub line_read_is : l.reading ≡ reading_of (line_in (drop from bytes))
  unfolding line_at
  line_read_is = ap (λ (r : LineAt). r.reading) is

pub line_inside : (bytes : List ℕ) (from : ℕ) → from ≤ length bytes → from + length (line_in (drop from bytes)) ≤ length bytes
line_inside bytes from h = omega (arith, line_within (drop from bytes), length-drop from bytes)

-- ---- pieces of an input fed one after the other: s is the stream after the bytes before from, and s' after used bytes more

pub next_piece : (s₀ s s' : Stream) (input part : List ℕ) (from used : ℕ) → part ≡ drop from input → s ≡ after s₀ (take from input) → s' ≡ after s (take used part)
    → s' ≡ after s₀ (take (from + used) input)
next_piece s₀ s s' input part from used p e f =
    f
    ∙ ap (λ (v : Stream). after v (take used part)) e
    ∙ ap (λ (l : List ℕ). after (after s₀ (take from input)) (take used l)) p
    ∙ sym (ap (after s₀) (take-add from used input) ∙ after_append s₀ (take from input) (take used (drop from input)))

-- ---- states that calls can leave

byte_reachable : (s : Stream) → Reachable s.exchange → (b : ℕ) → Reachable (next_byte s b).exchange
unfolding next_byte end_line
byte_reachable s l b =
    by_test (ltb s.done last_line)
    (λ e. rw e (by_test (eqb b 10) (λ t. rw t (reachable_line s.exchange l s.line)) (λ t. rw t l)))
    (λ e. rw e l)

pub after_reachable : StaysReachable
after_reachable s l [] = l
after_reachable s l (b ∷ bs) = after_reachable (next_byte s b) (byte_reachable s l b) bs
