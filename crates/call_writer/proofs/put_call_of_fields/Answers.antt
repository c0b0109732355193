-- `call_writer::put_call_of_fields` meets its contract: the line of the call that the numbers are, or 20 and nothing.
use Rattle.std.specs.Prelude.{Option}
use mathlib.Core.Path.{sym, ap, ◌∙◌}
use Rattle.model.specs.declared.call.Call.{Call}
use lib.ListN.{length}
use Rattle.decimal.specs.Buffer.{put_from}
use Rattle.decimal.proofs.Put.{from_nothing}
use Rattle.call_writer.specs.Writing.{line_of_reading, told_of, put_of}
use Rattle.call_writer.proofs.put_call_of_fields.Goals as goal

pub returns-in-Some-clause-value : goal.returns-in-Some-clause-value
unfolding put_of
returns-in-Some-clause-value c =
    c.line_told.ensures
    ∙ ap told_of c.write_call.ensures.value
    ∙ ap (put_of (length c.args.out.now) c.args.at) (sym (sym c.call_of_fields.ensures ∙ c.in-Some.is))

pub returns-in-None-clause-value : goal.returns-in-None-clause-value
unfolding put_of
returns-in-None-clause-value c = ap (put_of (length c.args.out.now) c.args.at) (sym (sym c.call_of_fields.ensures ∙ c.in-None.is))

pub returns-in-None-clause-out_after : goal.returns-in-None-clause-out_after
returns-in-None-clause-out_after c =
    sym (from_nothing c.args.out.now c.args.at)
    ∙ ap (λ (r : Option Call). put_from c.args.out.now c.args.at (line_of_reading r)) (sym (sym c.call_of_fields.ensures ∙ c.in-None.is))
