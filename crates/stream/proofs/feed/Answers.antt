-- `stream::feed` meets its contract: one of the two kinds of work.
use native.Mathlib.Nat.{pos_of_ne-zero}
use Rattle.replay.proofs.FeedLaws.{fed_whole, fed_over}
use Rattle.stream.proofs.feed.Goals as goal

pub returns-then-d-ge-LAST_LINE : goal.returns-then-d-ge-LAST_LINE
returns-then-d-ge-LAST_LINE c = fed_over _ _ _ c.if-d-ge-LAST_LINE.true

pub returns : goal.returns
returns c =
    let some = pos_of_ne-zero c.if-r-eq0.false in
    fed_whole _ _ _ _ _ c.whole_lines-r.ensures.advanced c.if-d-ge-LAST_LINE.false some (c.whole_lines-r.ensures.whole some)
