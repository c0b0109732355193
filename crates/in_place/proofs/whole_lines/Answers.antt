-- `in_place::whole_lines` meets its contract: each turn takes a line that lies whole in the input.
use mathlib.Core.Path.{◌≡◌, sym, ◌∙◌}
use mathlib.Core.Logic.{inl, inr}
use Prim.Native.Nat.{◌≤◌}
use native.Mathlib.Omega.{arith}
use lib.ListN.{length}
use Rattle.replay.proofs.StreamLaws.{line_end_is}
use Rattle.replay.proofs.FeedLaws.{advanced, first_taken, so_far_length, unbegun}
use Rattle.in_place.proofs.Taken.{ends, left_less, next_reachable, place_fits, so_far_taken, taken_more, whole}
use Rattle.in_place.proofs.Turn.{goes_on}
use Rattle.in_place.proofs.whole_lines.Goals as goal
use Rattle.in_place.proofs.whole_lines.Goals.{then-loop-i-test+then-done-lt-LAST_LINE+else-out-at-ge-LONGEST_ANSWER, then-loop-i-test+else-done-lt-LAST_LINE, else-loop-i-test, then-loop-i-test+then-done-lt-LAST_LINE+then-out-at-ge-LONGEST_ANSWER+then-l-input}

pub overflow_add-at : goal.overflow_add-at
overflow_add-at c =
    let l = c.loop-i in
    let v = l.invariant in
    let w = c.write_answer-at in
    let same : length l.out ≡ length c.args.out.now = so_far_length _ _ _ _ _ _ _ v.so_far in
    let fits : l.at ≤ length l.out = omega (arith, same, v.so_far.room) in
    omega (
      arith,
      place_fits _ _ _ c.read_line-l.ensures.value v.in_input c.if-l-input.false l.exchange v.reachable l.done l.at l.out _ c.apply_reading-answer.ensures
          fits c.if-out-at-ge-LONGEST_ANSWER.true w.ensures.a_len_bound w.result w.new.out w.ensures.value w.ensures.out_after,
    )

pub overflow_add-i : goal.overflow_add-i
overflow_add-i c = omega (arith, whole _ _ _ c.read_line-l.ensures.value c.loop-i.invariant.in_input c.if-l-input.false)

pub loop-i-preserved : goal.loop-i-preserved
loop-i-preserved c =
    let l = c.loop-i in
    let v = l.invariant in
    let w = c.write_answer-at in
    let read = c.read_line-l.ensures.value in
    let same : length l.out ≡ length c.args.out.now = so_far_length _ _ _ _ _ _ _ v.so_far in
    let fits : l.at ≤ length l.out = omega (arith, same, v.so_far.room) in
    record {
      in_input = taken_more _ _ _ read v.in_input c.if-l-input.false;
      reachable =
          next_reachable _ _ _ read v.in_input c.if-l-input.false l.exchange v.reachable l.done l.at l.out _ c.apply_reading-answer.ensures
          fits c.if-out-at-ge-LONGEST_ANSWER.true w.ensures.a_len_bound;
      so_far =
          so_far_taken _ _ _ read v.in_input c.if-l-input.false l.exchange v.reachable l.done l.at l.out _ c.apply_reading-answer.ensures
          fits c.if-out-at-ge-LONGEST_ANSWER.true w.ensures.a_len_bound w.result w.new.out w.ensures.value w.ensures.out_after
          _ _ same c.if-done-lt-LAST_LINE.true v.so_far;
      first = λ p. first_taken _ _ _ (ends _ _ _ read) v.first;
    }

-- ---- the loop is left
pub returns : goal.returns
returns c =
    let i = c.loop-i.invariant in
    record {
      advanced = advanced _ _ _ _ _ _ (unbegun _ c.requires.len_value) i.so_far i.in_input;
      whole = i.first;
      goes_on =
          goes_on _ _ _ _ _ _ _ _ _ i.so_far i.first
          (elim c.loop-i-test.branch [
            | else-loop-i-test w ↦ inl w.loop-i-test.false
            | then-loop-i-test+else-done-lt-LAST_LINE w ↦ inr (inl w.if-done-lt-LAST_LINE.false)
            | then-loop-i-test+then-done-lt-LAST_LINE+else-out-at-ge-LONGEST_ANSWER w ↦ inr (inr (inl w.if-out-at-ge-LONGEST_ANSWER.false))
            | then-loop-i-test+then-done-lt-LAST_LINE+then-out-at-ge-LONGEST_ANSWER+then-l-input w ↦
                inr (inr (inr (sym (line_end_is _ _ _ w.read_line-l.ensures.value) ∙ w.if-l-input.true)))
          ]);
    }
