-- Days, computed.
use Rattle.std.specs.Prelude.{Option}
use mathlib.Core.Path.{◌≡◌, refl}
use mathlib.Core.List.{List, map}
use Prim.Native.Nat.{ℕ}
use Rattle.fields.specs.Examples.{long_lines}
use Rattle.replay.specs.Days.{day_of}
use Rattle.replay.specs.Examples.{paper_input, paper_output, fields_input, fields_output, lowered_input, lowered_output, small_days, long_days, long_texts}
use Rattle.replay.proofs.Computing.{day_computes}

pub paper_day : day_of paper_input ≡ paper_output
unfolding paper_input paper_output day_computes
paper_day = refl

pub fields_day : day_of fields_input ≡ fields_output
unfolding fields_input fields_output day_computes
fields_day = refl

pub lowered_day : day_of lowered_input ≡ lowered_output
unfolding lowered_input lowered_output day_computes
lowered_day = refl

pub small_days_lem : map (λ (e : List ℕ × List ℕ). day_of e.0) small_days ≡ map (λ (e : List ℕ × List ℕ). e.1) small_days
unfolding small_days day_computes
small_days_lem = refl

-- lines of 79, 80, 81, 82 and 201 bytes
pub long_days_lem : map (λ (e : ℕ × List ℕ × Option (List ℕ)). map day_of (long_days e.1)) long_lines ≡ map (λ (e : ℕ × List ℕ × Option (List ℕ)). long_texts) long_lines
unfolding long_lines long_texts day_computes
long_days_lem = refl
