-- One turn of the loop: its line's place in the input, and its answer's in the buffer.
use Prim.Native.Nat.{ℕ, zero, suc, ◌+◌, ◌-◌, ◌≤◌, ◌<◌}
use mathlib.Core.Path.{◌≡◌, refl, ap, ◌∙◌}
use mathlib.Core.Logic.{◌⊎◌, ⊎_elim}
use mathlib.Core.List.{List, []}
use native.Mathlib.Omega.{arith}
use lib.ListN.{length, take, drop, length-drop}
use Rattle.decimal.specs.Buffer.{put_count}
use Rattle.decimal.proofs.Put.{part_all, count_fits}
use Rattle.lines.specs.AnswerText.{longest_answer}
use Rattle.lines.specs.CallLines.{line_in}
use Rattle.model.specs.declared.state.Exchange.{Exchange}
use Rattle.replay.specs.Days.{last_line}
use Rattle.replay.proofs.FeedLaws.{SoFar, so_far_length, none_taken}
use Rattle.replay.proofs.StreamLaws.{begun, line_inside}

-- the line lies whole in the input
module _ (input : List ℕ) (i end : ℕ) (ends : end ≡ i + length (line_in (drop i input))) where
  pub line_whole : i ≤ length input → (end ≡ length input → ⊥) → end < length input
  line_whole h other = omega (arith, ends, line_inside input i h, other)

  pub turn_less : end < length input → length input - (end + 1) < length input - i
  turn_less whole = omega (arith, ends, whole)

-- there is room for its answer
pub room_for : (at all text : ℕ) → at ≤ all → longest_answer ≤ all - at → text ≤ longest_answer → at + text ≤ all
room_for at all text h room small = omega arith

pub part_count : (out text : List ℕ) (at : ℕ) → at + length text ≤ length out → put_count (take (length out - at) (drop at out)) text ≡ length text
part_count out text at h =
    ap (λ (l : List ℕ). put_count l text) (part_all out at) ∙ count_fits (drop at out) text (omega (arith, h, length-drop at out))

-- the loop is left at the input's end, after the last line, for want of room, or at a line that does not end: not before the first line that can be taken
pub goes_on : (x₀ x : Exchange) (n₀ n : ℕ) (input out₀ : List ℕ) (i at : ℕ) (out : List ℕ) → SoFar (begun x₀ n₀ []) input out₀ i (begun x n []) at out
    → (0 < i → length (line_in input) < i)
    → (length input ≤ i) ⊎ ((last_line ≤ n) ⊎ ((length out - at < longest_answer) ⊎ (i + length (line_in (drop i input)) ≡ length input)))
    → n₀ < last_line → longest_answer ≤ length out₀ → length (line_in input) < length input → length (line_in input) < i
goes_on x₀ x n₀ n input out₀ zero at out f first stop lines_left room whole =
    let none : (n ≡ n₀) × (at ≡ 0) = none_taken x₀ x n₀ n input out₀ 0 at out f refl in
    let same : length out ≡ length out₀ = so_far_length _ _ _ _ _ _ _ f in
    absurd
    (⊎_elim
    (λ h. omega (arith, h, whole))
    (⊎_elim (λ h. omega (arith, h, none.0, lines_left)) (⊎_elim (λ h. omega (arith, h, none.1, same, room)) (λ h. omega (arith, h, whole))))
    stop)
goes_on x₀ x n₀ n input out₀ (suc i) at out f first stop lines_left room whole = first (omega arith)
