-- What a reading tells, in the paper's numbers. "Any answer that is an enum has a definition. The definition gives this paper's number and values
-- for each of the enum's cases, and the promises use it."
use Rattle.std.specs.Prelude.{ℕ, ◌≡◌, Bool, false, cond, List, [], ◌∷◌, length, eqb, Some, None, Option}
use Rattle.model.specs.declared.call.Call.{Call}
use Rattle.model.specs.Kinds.{Kind, kinds, numbers_of_call}
use Rattle.fields.specs.Grammar.{line_numbers}
use Rattle.lines.specs.CallLines.{reading_of}

-- 0 for a call, whose values are its kind's number and its fields; 20 for none, which has no values
abbrev pub reading_code : Option Call → ℕ
reading_code (Some c) = 0
reading_code None = 20

abbrev pub reading_values : Option Call → List ℕ
reading_values (Some c) = numbers_of_call c
reading_values None = []

-- ---- the same by the bytes of a line, without its byte 10

-- whether a kind has this number and so many fields
abbrev pub has_kind : List Kind → ℕ → ℕ → Bool
has_kind [] number count = false
has_kind (k ∷ ks) number count = cond (eqb number k.number) (eqb count k.fields) (has_kind ks number count)

abbrev pub is_call : List ℕ → Bool
is_call [] = false
is_call (number ∷ fields) = has_kind kinds number (length fields)

abbrev pub code_in : Option (List ℕ) → ℕ
code_in None = 20
code_in (Some ns) = cond (is_call ns) 0 20

abbrev pub values_in : Option (List ℕ) → List ℕ
values_in None = []
values_in (Some ns) = cond (is_call ns) ns []

-- 20: "line not of the form below"
unfoldable pub line_code : List ℕ → ℕ
line_code line = code_in (line_numbers line)

unfoldable pub line_values : List ℕ → List ℕ
line_values line = values_in (line_numbers line)

-- a reading tells this of a line
pub record Tells (line : List ℕ) (r : Option Call) : Type 0 where
  pub code : reading_code r ≡ line_code line
  pub values : reading_values r ≡ line_values line

abbrev pub ReadingsTell : Type 0
ReadingsTell = (line : List ℕ) → Tells line (reading_of line)
