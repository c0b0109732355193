-- The statements in the numbers of specs/LawExamples.antt.
use mathlib.Core.List.{[], ◌∷◌}
use native.Mathlib.Omega.{arith}
use Rattle.units.specs.Decimal.{digits}
use Rattle.decimal.specs.Examples.{hashes}
use Rattle.model.specs.declared.call.Call.TheVariants.{Enter}
use Rattle.lines.specs.CallText.{line_of_numbers, line_of_call}
use Rattle.call_writer.specs.LawExamples.{enter_line, LawsUsed}

pub laws_used : LawsUsed
unfolding line_of_call line_of_numbers digits
laws_used =
    record {
      just_fits = λ w. w (hashes 6) 2 enter_line;
      too_short = λ w. w (hashes 6) 3 enter_line;
      none_at_end = λ w. w (hashes 6) 6 [];
      past_end = λ w. w (hashes 6) 7 [];
      outside = λ w out text. w out 1 text;
      after = λ out text k. k.after;
      least = λ c b. b.least;
      most = λ c b. b.most;
      largest = λ w s. w (Enter 4294967295) s;
      numbers = λ w c r. w (6 ∷ 0 ∷ []) c r;
      read_there = λ w out e. w out 2 (Enter 0) (omega arith, (omega arith, tt)) (omega (arith, e));
      line_there = λ w bytes r. w bytes 0 (Enter 0) r;
      over_there = λ w bytes r. w bytes 0 (Enter 0) r;
    }
