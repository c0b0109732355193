-- The line before the first answer, how long an answer line can be, and its text after the number.
use Rattle.std.specs.Prelude.{ℕ, List, [], ◌∷◌, ◌++◌}
use Rattle.units.specs.Decimal.{digits}

-- "line,code,first,second" and byte 10
abbrev pub header : List ℕ
header =
    108 ∷ 105 ∷ 110 ∷ 101 ∷ 44 ∷ 99 ∷ 111 ∷ 100 ∷ 101 ∷ 44 ∷ 102 ∷ 105 ∷ 114 ∷ 115 ∷ 116 ∷ 44 ∷ 115 ∷ 101 ∷ 99 ∷ 111 ∷ 110 ∷ 100 ∷ 10 ∷ []

-- ten digits for the line's number and for each of an acceptance's numbers, one for its code, three commas and byte 10; a refusal's is shorter
abbrev pub longest_answer : ℕ
longest_answer = 35

-- what follows the number and its comma: code 0 and two numbers, or a refusal's code and two zeros
abbrev pub accepted_text : ℕ → ℕ → List ℕ
accepted_text first second = 48 ∷ 44 ∷ (digits first ++ (44 ∷ (digits second ++ (10 ∷ []))))

abbrev pub refused_text : ℕ → List ℕ
refused_text code = digits code ++ (44 ∷ 48 ∷ 44 ∷ 48 ∷ 10 ∷ [])
