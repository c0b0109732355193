-- `yeldozhym::write_day` meets its contract: a front of the day's text is written.
use Rattle.yeldozhym.proofs.Turns.{left_less, more_run, some_written, worked}
use Rattle.yeldozhym.proofs.write_day.Goals as goal

pub loop-from-smaller : goal.loop-from-smaller
loop-from-smaller c =
    let l = c.loop-from in
    left_less c.args.input.now l.from l.day l.at l.invariant.worked _ _ c.feed-fed.result c.feed-fed.ensures c.loop-from-test.true
    (some_written c.args.input.now l.from l.day l.at l.invariant.worked c.args.out.now c.requires l.out (l.invariant.run _ c.write_header.ensures c.requires) _ c.feed-fed.result c.feed-fed.ensures c.loop-from-test.true)

pub loop-from-preserved : goal.loop-from-preserved
loop-from-preserved c =
    let l = c.loop-from in
    record {
      worked = worked c.args.input.now l.from l.day l.at l.invariant.worked _ _ c.feed-fed.result c.feed-fed.ensures;
      run = λ xs e h. more_run c.args.input.now l.from l.day l.at l.invariant.worked xs h l.out (l.invariant.run xs e h) _ c.feed-fed.result c.feed-fed.ensures;
    }
