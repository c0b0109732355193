-- `stream::one_line` meets its contract: the line goes on, waits for room, or ends and is answered.
use borrow.Author.Rules.{rules}
use Rattle.stream.proofs.OneLine.{kept_on, taken, waits}
use Rattle.stream.proofs.one_line.Goals as goal

pub returns-then-end-input : goal.returns-then-end-input
returns-then-end-input c =
    let k = c.keep-kept in
    kept_on c.args.d _ (search rules) c.requires.done_lt_last_line _ c.line_end-end.ensures _ c.min.ensures k.result k.ensures.line_value _ c.if-end-input.true

pub returns-then-wrote-eq0 : goal.returns-then-wrote-eq0
returns-then-wrote-eq0 c =
    let k = c.keep-kept in
    let e = c.end_line-ended in
    let w = c.put_text-wrote in
    waits c.args.d _ (search rules) c.requires.done_lt_last_line _ c.line_end-end.ensures _ c.min.ensures k.result k.ensures.line_value e.result e.new.out e.ensures
    e.auto.out _ w.new.out w.result w.ensures.value w.ensures.out_after c.if-end-input.false c.if-wrote-eq0.true

pub returns : goal.returns
returns c =
    let k = c.keep-kept in
    let e = c.end_line-ended in
    let w = c.put_text-wrote in
    taken c.args.d _ (search rules) c.requires.done_lt_last_line _ c.line_end-end.ensures _ c.min.ensures k.result k.ensures.line_value e.result e.new.out e.ensures
    e.auto.out _ w.new.out w.result w.ensures.value w.ensures.out_after c.if-end-input.false c.if-wrote-eq0.false
