-- `stream::end_line` meets its contract: the loop takes the line that the bytes and a byte 10 are.
use mathlib.Core.Path.{◌≡◌}
use native.Mathlib.Omega.{arith}
use borrow.Author.Rules.{rules}
use lib.ListN.{length, length-take}
use Rattle.stream.proofs.Ended.{line_ended}
use Rattle.stream.proofs.end_line.Goals as goal

pub returns : goal.returns
returns c =
    let r = c.requires in
    let kept : length c.args.d.line ≡ 81 = search rules in
    line_ended c.args.d _ _ c.unbroken-line.ensures r.done_lt_last_line r.len_value _ _ _ _ _ (omega (arith, kept, length-take c.args.len c.args.d.line)) c.copy_from_slice.ensures.after c.whole_lines.ensures r.longest_answer_in_bounds
