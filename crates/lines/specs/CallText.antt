-- The line that a call is written as, without its byte 10 and with it.
use Rattle.std.specs.Prelude.{ℕ, ◌≤◌, ◌≡◌, List, [], ◌∷◌, ◌++◌, map, Some}
use Rattle.units.specs.Counts.{largest}
use Rattle.units.specs.Decimal.{digits}
use Rattle.model.specs.declared.call.Call.{Call}
use Rattle.model.specs.Kinds.{numbers_of_call}
use Rattle.lines.specs.CallLines.{reading_of}

-- parts with a comma between each two
abbrev pub join_parts : List (List ℕ) → List ℕ
join_parts [] = []
join_parts (p ∷ []) = p
join_parts (p ∷ (q ∷ ps)) = p ++ (44 ∷ join_parts (q ∷ ps))

unfoldable pub line_of_numbers : List ℕ → List ℕ
line_of_numbers ns = join_parts (map digits ns)

unfoldable pub line_of_call : Call → List ℕ
line_of_call c = line_of_numbers (numbers_of_call c)

-- "one call in, its line with byte 10 out"
abbrev pub call_line : Call → List ℕ
call_line c = line_of_call c ++ (10 ∷ [])

-- ---- written and read

-- no number above 4,294,967,295, as the fields of a call in code
abbrev pub Small : List ℕ → Type 0
Small [] = Unit {0}
Small (n ∷ ns) = (n ≤ largest) × Small ns

-- a call's line is read as that call
abbrev pub CallRound : Type 0
CallRound = (c : Call) → Small (numbers_of_call c) → reading_of (line_of_call c) ≡ Some c

-- and no other line is
abbrev pub LineRound : Type 0
LineRound = (line : List ℕ) (c : Call) → reading_of line ≡ Some c → line_of_call c ≡ line
