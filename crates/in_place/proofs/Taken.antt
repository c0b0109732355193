-- A line that lies whole in the input, read, done and answered: what the turn takes, and what it writes.
use mathlib.Core.Path.{◌≡◌, sym, ap, ◌∙◌, subst}
use mathlib.Core.List.{List, []}
use Prim.Native.Nat.{ℕ, ◌+◌, ◌-◌, ◌≤◌, ◌<◌}
use borrow.Rule.Slice.PartMut.{put_mid}
use native.Mathlib.Omega.{arith}
use lib.ListN.{length, take, drop}
use Rattle.decimal.specs.Buffer.{put_at, put_count, put_into}
use Rattle.decimal.proofs.Put.{put_part}
use Rattle.model.specs.Run.{Reachable}
use Rattle.model.specs.declared.answer.Outcome.{Outcome}
use Rattle.model.specs.declared.state.Exchange.{Exchange}
use Rattle.model.specs.Answers.{answer_line}
use Rattle.lines.specs.AnswerText.{longest_answer}
use Rattle.lines.specs.CallLines.{line_at, line_in}
use Rattle.lines.specs.declared.call.LineAt.{LineAt}
use Rattle.replay.specs.Lines.{line_outcome, line_text, outcome_of}
use Rattle.replay.proofs.LineRun.{line_outcome_is, reachable_line, text_is}
use Rattle.replay.proofs.StreamLaws.{begun, line_end_is, line_read_is}
use Rattle.replay.proofs.FeedLaws.{SoFar, so_far_line}
use Rattle.replay.specs.Days.{last_line}
use Rattle.replay.specs.Pieces.{Stream}
use Rattle.in_place.proofs.Turn.{line_whole, part_count, room_for, turn_less}

-- the line read at i, which ends before the input does
module _ (input : List ℕ) (i : ℕ) (l : LineAt) (read : l ≡ line_at input i) where
  line : List ℕ
  line = line_in (drop i input)

  pub ends : l.end ≡ i + length (line_in (drop i input))
  ends = line_end_is l input i read

  module _ (inside : i ≤ length input) (other : l.end ≡ length input → ⊥) where
    pub whole : l.end < length input
    whole = line_whole input i l.end ends inside other

    pub taken_more : l.end + 1 ≤ length input
    taken_more = omega (arith, whole)

    pub left_less : length input - (l.end + 1) < length input - i
    left_less = turn_less input i l.end ends whole

    -- done on the state x, and its answer written at a place of the buffer
    module _ (x : Exchange) (h : Reachable x) (n at : ℕ) (out : List ℕ) (o : Outcome) (done : o ≡ outcome_of x l.reading)
        (fits : at ≤ length out) (left : longest_answer ≤ length out - at) (bound : length (answer_line (n + 1) o.answer) ≤ longest_answer) where
      is : o ≡ line_outcome x (line_in (drop i input))
      is = line_outcome_is x (line_in (drop i input)) l.reading o (line_read_is l input i read) done

      text : List ℕ
      text = line_text x (n + 1) (line_in (drop i input))

      told : answer_line (n + 1) o.answer ≡ text
      unfolding text
      told = text_is x (n + 1) (line_in (drop i input)) [] o is

      pub next_state : o.exchange ≡ (line_outcome x (line_in (drop i input))).exchange
      next_state = ap (λ (v : Outcome). v.exchange) is

      pub next_reachable : Reachable o.exchange
      next_reachable = subst Reachable (sym next_state) (reachable_line x h (line_in (drop i input)))

      room : at + length text ≤ length out
      room = room_for at (length out) (length text) fits left (subst (λ (t : List ℕ). length t ≤ longest_answer) told bound)

      -- the bytes lent for the answer are those from the place on
      module _ (used : ℕ) (new : List ℕ) (value : used ≡ put_count (take (length out - at) (drop at out)) (answer_line (n + 1) o.answer))
          (after : new ≡ put_into (take (length out - at) (drop at out)) (answer_line (n + 1) o.answer)) where
        wrote : used ≡ length text
        wrote = value ∙ ap (put_count (take (length out - at) (drop at out))) told ∙ part_count out text at room

        put : put_mid at (length out - at) out new ≡ put_at out at text
        put = ap (put_mid at (length out - at) out) (after ∙ ap (put_into (take (length out - at) (drop at out))) told) ∙ put_part out text at room

        pub place_fits : at + used ≤ length out
        place_fits = subst (λ (k : ℕ). at + k ≤ length out) (sym wrote) room

        pub so_far_taken : (s₀ : Stream) (out₀ : List ℕ) → length out ≡ length out₀ → n < last_line
            → SoFar s₀ input out₀ i (begun x n []) at out → SoFar s₀ input out₀ (l.end + 1) (begun o.exchange (n + 1) []) (at + used) (put_mid at (length out - at) out new)
        unfolding text
        so_far_taken s₀ out₀ same lines_left f =
            so_far_line s₀ input out₀ i x n at out f lines_left l.end ends whole o.exchange (at + used) _
            next_state
            (subst (λ (k : ℕ). at + length text ≤ k) same room)
            (ap (λ (k : ℕ). at + k) wrote)
            put
