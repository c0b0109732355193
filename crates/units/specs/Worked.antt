-- Computed cases: pairs of what the definitions give and what was worked by hand from document 01.
use Rattle.std.specs.Prelude.{List, map}

abbrev pub given : {A : Type 0} → List (A × A) → List A
given cs = map (λ c. c.0) cs

abbrev pub by_hand : {A : Type 0} → List (A × A) → List A
by_hand cs = map (λ c. c.1) cs
