-- One line of a piece: where it ends, what is kept of it, and its answer put into the buffer.
use mathlib.Core.Path.{◌≡◌, sym, ap, ◌∙◌}
use mathlib.Core.List.{List, [], ◌++◌}
use Prim.Native.Nat.{ℕ, ◌+◌, ◌≤◌, ◌<◌, min}
use native.Mathlib.Nat.{zero-add}
use native.Mathlib.Omega.{arith}
use lib.ListN.{length, take}
use Rattle.std.proofs.lemmas.List.{take_min}
use Rattle.decimal.specs.Buffer.{put_count, put_into}
use Rattle.decimal.proofs.Put.{put_short, put_at_lem, count_fits}
use Rattle.model.specs.declared.answer.Outcome.{Outcome}
use Rattle.lines.specs.AnswerText.{longest_answer}
use Rattle.lines.specs.CallLines.{line_in}
use Rattle.lines.specs.Kept.{kept_bytes}
use Rattle.lines.specs.declared.kept.Kept.{Kept}
use Rattle.lines.proofs.CallLaws.{line_front, line_within}
use Rattle.replay.specs.declared.day.Day.{Day}
use Rattle.replay.specs.declared.day.Fed.{Fed}
use Rattle.replay.specs.Days.{last_line}
use Rattle.replay.specs.Lines.{line_outcome, line_text}
use Rattle.replay.specs.Pieces.{FedBy, stream_of}
use Rattle.replay.proofs.LineRun.{some_text, count_none, count_some}
use Rattle.replay.proofs.StreamLaws.{begun, same_outcome, same_text}
use Rattle.replay.proofs.FeedLaws.{line_goes_on, line_waits, line_ends}
use Rattle.stream.specs.Lines.{LineEnded}

module _ (d : Day) (input : List ℕ) (places : length d.line ≡ kept_bytes) (lines_left : d.done < last_line) (end : ℕ) (is_end : end ≡ 0 + length (line_in input)) where
  ends : end ≡ length (line_in input)
  ends = is_end ∙ zero-add _

  pub inside : end ≤ length input
  inside = omega (arith, ends, line_within input)

  -- the line that is kept
  module _ (before : ℕ) (is_before : before ≡ min d.len kept_bytes) (k : Kept) (line_value : take k.len k.line ≡ take kept_bytes (take before d.line ++ take end input)) where
    same : take before d.line ≡ take d.len d.line
    same = rw (is_before, ← places) (take_min d.len d.line)

    kept : take k.len k.line ≡ take kept_bytes (take d.len d.line ++ take end input)
    kept = line_value ∙ ap (λ (l : List ℕ). take kept_bytes (l ++ take end input)) same

    kept_full : take k.len k.line ≡ take kept_bytes (take d.len d.line ++ line_in input)
    kept_full = kept ∙ ap (λ (l : List ℕ). take kept_bytes (take d.len d.line ++ l)) (ap (λ (n : ℕ). take n input) ends ∙ line_front input)

    -- it goes on after the input
    pub kept_on : (out : List ℕ) → end ≡ length input
        → FedBy d input out out (record { day = record { exchange = d.exchange; done = d.done; len = k.len; line = k.line }; used = end; wrote = 0 })
    kept_on out e = line_goes_on d input lines_left places out _ ends e _ _ kept

    -- it was taken: r is what that answered, new the bytes of its answer
    module _ (r : Fed) (new : List ℕ) (e : LineEnded (record { exchange = d.exchange; done = d.done; len = 0; line = k.line }) (take k.len k.line) new r)
        (room : length new ≡ longest_answer)
      where
        whole : List ℕ
        whole = take d.len d.line ++ line_in input

        text : List ℕ
        text = line_text d.exchange (d.done + 1) whole

        text_is : line_text d.exchange (d.done + 1) (take k.len k.line) ≡ text
        unfolding text whole
        text_is = ap (line_text d.exchange (d.done + 1)) kept_full ∙ same_text d.exchange (d.done + 1) whole

        moved : stream_of r.day ≡ begun (line_outcome d.exchange whole).exchange (d.done + 1) []
        unfolding whole
        moved =
            e.state
            ∙ ap (λ (l : List ℕ). begun (line_outcome d.exchange l).exchange (d.done + 1) []) kept_full
            ∙ ap (λ (o : Outcome). begun o.exchange (d.done + 1) []) (same_outcome d.exchange whole)

        given : take r.wrote new ≡ text
        given = e.text ∙ text_is

        small : length text ≤ longest_answer
        small = omega (arith, e.count, e.fits, room, ap length text_is)

        -- and its answer put into out
        module _ (out out' : List ℕ) (wrote : ℕ) (value : wrote ≡ put_count out (take r.wrote new)) (after : out' ≡ put_into out (take r.wrote new)) (other : end ≡ length input → ⊥) where
          counted : wrote ≡ put_count out text
          counted = value ∙ ap (put_count out) given

          put : out' ≡ put_into out text
          put = after ∙ ap (put_into out) given

          pub waits : wrote ≡ 0 → FedBy d input out out' (record { day = d; used = 0; wrote = 0 })
          unfolding text whole
          waits none =
              let short : length out < length text = count_none out text (some_text d.exchange (d.done + 1) whole) (sym counted ∙ none) in
              line_waits d input lines_left places out _ (omega (arith, ends, inside, other)) (put ∙ put_short out text short) short small

          pub taken : (wrote ≡ 0 → ⊥) → FedBy d input out out' (record { day = r.day; used = end + 1; wrote = wrote })
          unfolding text whole
          taken some =
              let fits = count_some out text (λ z. some (counted ∙ z)) in
              let count = counted ∙ count_fits out text fits in
              line_ends d input lines_left places out _ _ ends (omega (arith, inside, other)) _ _
              moved
              count
              (omega (arith, fits, count))
              (put ∙ put_at_lem out text fits)
