-- `call_writer::write_call_of_fields` meets its contract: the line of the call that the numbers are, or nothing.
use Rattle.std.specs.Prelude.{Option}
use mathlib.Core.Path.{sym, ap, ◌∙◌}
use Rattle.model.specs.declared.call.Call.{Call}
use lib.ListN.{length}
use Rattle.decimal.specs.Buffer.{put_from}
use Rattle.decimal.proofs.Put.{from_nothing}
use Rattle.call_writer.specs.Writing.{line_of_reading, written_length, written_of}
use Rattle.call_writer.proofs.WritingLaws.{told_nothing}
use Rattle.call_writer.proofs.write_call_of_fields.Goals as goal

pub returns-in-None-clause-value : goal.returns-in-None-clause-value
returns-in-None-clause-value c =
    told_nothing (length c.args.out.now) c.args.at
    ∙ ap (λ (r : Option Call). written_length (written_of (length c.args.out.now) c.args.at (line_of_reading r))) (sym (sym c.call_of_fields.ensures ∙ c.in-None.is))

pub returns-in-None-clause-out_after : goal.returns-in-None-clause-out_after
returns-in-None-clause-out_after c =
    sym (from_nothing c.args.out.now c.args.at)
    ∙ ap (λ (r : Option Call). put_from c.args.out.now c.args.at (line_of_reading r)) (sym (sym c.call_of_fields.ensures ∙ c.in-None.is))
