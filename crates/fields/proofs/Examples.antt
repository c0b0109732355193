-- The form of a line and the field reader, computed.
use Rattle.std.specs.Prelude.{Option}
use mathlib.Core.Path.{◌≡◌, refl}
use mathlib.Core.Bool.{Bool}
use mathlib.Core.List.{List, map}
use Prim.Native.Nat.{ℕ}
use lib.ListN.{length}
use Rattle.fields.specs.declared.FieldStep.{FieldStep}
use Rattle.fields.specs.Grammar.{is_digit, number_of, line_numbers}
use Rattle.fields.specs.Fields.{is_field_byte, fields_end, fields_at, field_step, first_step, comma_at}
use Rattle.fields.specs.Examples.{bytes_told, field_numbers, line_numbers_read, long_lines, FieldsRead, fields_read, steps_told, places_told}

pub bytes_told_lem : map (λ (e : ℕ × Bool × Bool). (e.0, is_digit e.0, is_field_byte e.0)) bytes_told ≡ bytes_told
unfolding bytes_told
bytes_told_lem = refl

pub field_numbers_lem : map (λ (e : List ℕ × Option ℕ). (e.0, number_of e.0)) field_numbers ≡ field_numbers
unfolding field_numbers number_of
field_numbers_lem = refl

pub line_numbers_read_lem : map (λ (e : List ℕ × Option (List ℕ)). (e.0, line_numbers e.0)) line_numbers_read ≡ line_numbers_read
unfolding line_numbers_read line_numbers number_of
line_numbers_read_lem = refl

-- with their lengths
pub long_lines_lem : map (λ (e : ℕ × List ℕ × Option (List ℕ)). (length e.1, e.1, line_numbers e.1)) long_lines ≡ long_lines
unfolding long_lines line_numbers number_of
long_lines_lem = refl

pub fields_read_lem : map (λ (e : FieldsRead). fields_at e.bytes e.from) fields_read ≡ map (λ (e : FieldsRead). e.fields) fields_read
unfolding fields_read fields_at fields_end number_of
fields_read_lem = refl

pub steps_told_lem : map (λ (e : Bool × ℕ × ℕ × FieldStep). (e.0, e.1, e.2, field_step e.0 e.1 e.2)) steps_told ≡ steps_told
unfolding steps_told field_step
steps_told_lem = refl

pub places_told_lem : map (λ (e : List ℕ × ℕ × FieldStep × Bool). (e.0, e.1, first_step e.0 e.1, comma_at e.0 e.1)) places_told ≡ places_told
unfolding places_told first_step field_step comma_at
places_told_lem = refl
