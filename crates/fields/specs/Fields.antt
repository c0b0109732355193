-- What the field reader answers: the numbers from a place on, and where it stopped.
use Rattle.std.specs.Prelude.{ℕ, ◌+◌, ◌*◌, ◌-◌, Bool, false, cond, ◌&&◌, ◌||◌, List, [], ◌∷◌, ◌++◌, length, drop, get_or, replicate, leb, ltb, eqb, Some, None, Option}
use Rattle.units.specs.Counts.{largest}
use Rattle.fields.specs.declared.Fields.{Fields}
use Rattle.fields.specs.declared.FieldStep.{FieldStep}
use Rattle.fields.specs.declared.FieldStep.TheVariants.{Value, End, Bad}
use Rattle.fields.specs.Grammar.{is_digit, parts_of, all_numbers}

abbrev pub is_field_byte : ℕ → Bool
is_field_byte b = eqb b 44 || is_digit b

-- "The field reader stops at the first byte that is neither digit nor comma": the bytes before it
abbrev pub field_bytes : List ℕ → List ℕ
field_bytes [] = []
field_bytes (b ∷ bs) = cond (is_field_byte b) (b ∷ field_bytes bs) []

-- its place
unfoldable pub fields_end : List ℕ → ℕ → ℕ
fields_end bytes from = from + length (field_bytes (drop from bytes))

-- more than any kind has
abbrev pub most_numbers : ℕ
most_numbers = 8

-- numbers, where there are at most most_numbers: those that are not there are 0
abbrev pub with_numbers : ℕ → Option (List ℕ) → Fields
with_numbers stop None = record { count = 0; values = replicate most_numbers 0; stop = stop }
with_numbers stop (Some ns) =
    cond (leb (length ns) most_numbers)
    (record { count = length ns; values = ns ++ replicate (most_numbers - length ns) 0; stop = stop })
    (record { count = 0; values = replicate most_numbers 0; stop = stop })

unfoldable pub fields_at : List ℕ → ℕ → Fields
fields_at bytes from = with_numbers (fields_end bytes from) (all_numbers (parts_of (field_bytes (drop from bytes))))

-- ---- its steps

-- a field's value v with the byte b after it: it ends where b is no digit; it is no number where it is a lone 0 so far, or where the
-- value passes 4,294,967,295
unfoldable pub field_step : Bool → ℕ → ℕ → FieldStep
field_step started v b =
    cond (is_digit b)
    (cond (started && eqb v 0) Bad (cond (leb (v * 10 + (b - 48)) largest) (Value (v * 10 + (b - 48))) Bad))
    End

-- the byte at a place as a field's first; at the bytes' end there is none
unfoldable pub first_step : List ℕ → ℕ → FieldStep
first_step bytes at = cond (ltb at (length bytes)) (field_step false 0 (get_or bytes at 0)) End

unfoldable pub comma_at : List ℕ → ℕ → Bool
comma_at bytes at = cond (ltb at (length bytes)) (eqb (get_or bytes at 0) 44) false
