-- `yeldozhym::day_room` meets its contract: what was counted so far is the length of a front of the day's text.
use native.Mathlib.Omega.{arith}
use Rattle.yeldozhym.proofs.Lengths.{rooms_bounded}
use Rattle.yeldozhym.proofs.Turns.{place_small, room_is, worked}
use Rattle.yeldozhym.proofs.day_room.Goals as goal

pub overflow_add-room : goal.overflow_add-room
overflow_add-room c =
    let l = c.loop-from in
    let h = place_small c.args.input.now l.from l.day l.room l.invariant _ _ c.feed-fed.result c.feed-fed.ensures in
    omega (arith, h)

pub loop-from-preserved : goal.loop-from-preserved
loop-from-preserved c =
    let l = c.loop-from in
    worked c.args.input.now l.from l.day l.room l.invariant _ _ c.feed-fed.result c.feed-fed.ensures

pub overflow_add-result : goal.overflow_add-result
overflow_add-result c =
    let l = c.loop-from in
    let all = room_is c.args.input.now l.from l.day l.room l.invariant c.loop-from-test.false l.scratch _ c.finish-last.result c.finish-last.ensures (omega (arith, c.loop-from-test.array_long)) in
    omega (arith, all, (rooms_bounded c.args.input.now).by_last)

pub returns : goal.returns
returns c =
    let l = c.loop-from in
    room_is c.args.input.now l.from l.day l.room l.invariant c.loop-from-test.false l.scratch _ c.finish-last.result c.finish-last.ensures (omega (arith, c.loop-from-test.array_long))
