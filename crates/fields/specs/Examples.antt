-- Bytes, and what they are by the form of a line: borders of a digit, a number and a line, worked by hand.
use Rattle.std.specs.Prelude.{ℕ, zero, suc, Bool, true, false, List, [], ◌∷◌, replicate, Some, None, Option}
use Rattle.fields.specs.declared.Fields.{Fields}
use Rattle.fields.specs.declared.FieldStep.{FieldStep}
use Rattle.fields.specs.declared.FieldStep.TheVariants.{Value, End, Bad}

-- ---- a byte, a number, a line

-- whether a byte is a digit, and whether it is a digit or a comma
unfoldable pub bytes_told : List (ℕ × Bool × Bool)
bytes_told =
    (0, false, false)  -- NUL
    ∷ (10, false, false)  -- the end byte
    ∷ (43, false, false)  -- +
    ∷ (44, false, true)  -- ,
    ∷ (45, false, false)  -- -
    ∷ (47, false, false)  -- /
    ∷ (48, true, true)  -- 0
    ∷ (53, true, true)  -- 5
    ∷ (57, true, true)  -- 9
    ∷ (58, false, false)  -- :
    ∷ (255, false, false)  -- the last byte
    ∷ []

-- the bytes of a field, and the number that it is
unfoldable pub field_numbers : List (List ℕ × Option ℕ)
field_numbers =
    ([], None)  -- an empty field
    ∷ ((48 ∷ []), Some 0)  -- 0
    ∷ ((53 ∷ []), Some 5)  -- 5
    ∷ ((57 ∷ []), Some 9)  -- 9
    ∷ ((47 ∷ []), None)  -- /
    ∷ ((58 ∷ []), None)  -- :
    ∷ ((49 ∷ 48 ∷ []), Some 10)  -- 10
    ∷ ((48 ∷ 48 ∷ []), None)  -- 00
    ∷ ((48 ∷ 49 ∷ []), None)  -- 01
    ∷ ((49 ∷ 47 ∷ []), None)  -- 1/
    ∷ ((49 ∷ 58 ∷ []), None)  -- 1:
    ∷ ((47 ∷ 49 ∷ []), None)  -- /1
    ∷ ((58 ∷ 49 ∷ []), None)  -- :1
    ∷ ((49 ∷ 43 ∷ 50 ∷ []), None)  -- 1+2
    ∷ ((45 ∷ 49 ∷ []), None)  -- -1
    ∷ ((49 ∷ 50 ∷ 51 ∷ 52 ∷ 53 ∷ 54 ∷ 55 ∷ 56 ∷ 57 ∷ 48 ∷ []), Some 1234567890)  -- 1234567890
    ∷ ((52 ∷ 50 ∷ 57 ∷ 52 ∷ 57 ∷ 54 ∷ 55 ∷ 50 ∷ 57 ∷ 52 ∷ []), Some 4294967294)  -- 4294967294
    ∷ ((52 ∷ 50 ∷ 57 ∷ 52 ∷ 57 ∷ 54 ∷ 55 ∷ 50 ∷ 57 ∷ 53 ∷ []), Some 4294967295)  -- 4294967295
    ∷ ((52 ∷ 50 ∷ 57 ∷ 52 ∷ 57 ∷ 54 ∷ 55 ∷ 50 ∷ 57 ∷ 54 ∷ []), None)  -- 4294967296
    ∷ ((57 ∷ 57 ∷ 57 ∷ 57 ∷ 57 ∷ 57 ∷ 57 ∷ 57 ∷ 57 ∷ 57 ∷ []), None)  -- 9999999999
    ∷ ((49 ∷ 48 ∷ 48 ∷ 48 ∷ 48 ∷ 48 ∷ 48 ∷ 48 ∷ 48 ∷ 48 ∷ 48 ∷ []), None)  -- 10000000000
    ∷ ((48 ∷ 52 ∷ 50 ∷ 57 ∷ 52 ∷ 57 ∷ 54 ∷ 55 ∷ 50 ∷ 57 ∷ 53 ∷ []), None)  -- 04294967295
    ∷ []

-- a line, and its numbers
unfoldable pub line_numbers_read : List (List ℕ × Option (List ℕ))
line_numbers_read =
    ([], None)  -- an empty line
    ∷ ((55 ∷ []), Some (7 ∷ []))  -- 7
    ∷ ((55 ∷ 44 ∷ 49 ∷ 50 ∷ 44 ∷ 48 ∷ []), Some (7 ∷ 12 ∷ 0 ∷ []))  -- 7,12,0
    ∷ ((44 ∷ []), None)  -- ,
    ∷ ((55 ∷ 44 ∷ []), None)  -- 7,
    ∷ ((44 ∷ 55 ∷ []), None)  -- ,7
    ∷ ((55 ∷ 44 ∷ 44 ∷ 49 ∷ 50 ∷ []), None)  -- 7,,12
    ∷ ((55 ∷ 43 ∷ 49 ∷ 50 ∷ []), None)  -- 7+12
    ∷ ((55 ∷ 45 ∷ 49 ∷ 50 ∷ []), None)  -- 7-12
    ∷ ((55 ∷ 59 ∷ 49 ∷ 50 ∷ []), None)  -- 7;12
    ∷ ((55 ∷ 44 ∷ 48 ∷ 49 ∷ []), None)  -- 7,01
    ∷ ((55 ∷ 44 ∷ 52 ∷ 50 ∷ 57 ∷ 52 ∷ 57 ∷ 54 ∷ 55 ∷ 50 ∷ 57 ∷ 54 ∷ []), None)  -- 7,4294967296
    ∷ ((49 ∷ 44 ∷ 50 ∷ 44 ∷ 51 ∷ 44 ∷ 52 ∷ 44 ∷ 53 ∷ 44 ∷ 54 ∷ 44 ∷ 55 ∷ 44 ∷ 56 ∷ 44 ∷ 57 ∷ []), Some (1 ∷ 2 ∷ 3 ∷ 4 ∷ 5 ∷ 6 ∷ 7 ∷ 8 ∷ 9 ∷ []))  -- 1,2,3,4,5,6,7,8,9
    ∷ []

-- so many times a comma and 1
abbrev comma_ones : ℕ → List ℕ
comma_ones zero = []
comma_ones (suc n) = 44 ∷ 49 ∷ comma_ones n

-- lines of 79, 80, 81, 82 and 201 bytes, how many they are, and their numbers: "At most 80 bytes before byte 10"
unfoldable pub long_lines : List (ℕ × List ℕ × Option (List ℕ))
long_lines =
    (79, 49 ∷ comma_ones 39, Some (replicate 40 1))  -- 1,1,..,1
    ∷ (80, 49 ∷ 50 ∷ comma_ones 39, Some (12 ∷ replicate 39 1))  -- 12,1,..,1
    ∷ (81, 49 ∷ comma_ones 40, None)  -- 1,1,..,1
    ∷ (82, 49 ∷ 50 ∷ comma_ones 40, None)  -- 12,1,..,1
    ∷ (201, 49 ∷ comma_ones 100, None)  -- 1,1,..,1
    -- and not of numbers
    ∷ (79, replicate 79 49, None)  -- 11..1
    ∷ (80, replicate 80 49, None)  -- 11..1
    ∷ (81, replicate 81 49, None)  -- 11..1
    ∷ (201, replicate 201 49, None)  -- 11..1
    ∷ (80, comma_ones 40, None)  -- ,1,1,..,1
    ∷ []

-- ---- the reader

-- bytes, a place, and what is read from there on
pub record FieldsRead : Type 0 where
  pub bytes : List ℕ
  pub from : ℕ
  pub fields : Fields

abbrev reads : List ℕ → ℕ → ℕ → List ℕ → ℕ → FieldsRead
reads bytes from count values stop = record { bytes = bytes; from = from; fields = record { count = count; values = values; stop = stop } }

unfoldable pub fields_read : List FieldsRead
fields_read =
    reads [] 0 0 (0 ∷ 0 ∷ 0 ∷ 0 ∷ 0 ∷ 0 ∷ 0 ∷ 0 ∷ []) 0  -- no bytes
    ∷ reads (55 ∷ []) 0 1 (7 ∷ 0 ∷ 0 ∷ 0 ∷ 0 ∷ 0 ∷ 0 ∷ 0 ∷ []) 1  -- 7
    ∷ reads (55 ∷ 44 ∷ 49 ∷ 50 ∷ 10 ∷ 57 ∷ []) 0 2 (7 ∷ 12 ∷ 0 ∷ 0 ∷ 0 ∷ 0 ∷ 0 ∷ 0 ∷ []) 4  -- 7,12LF9
    ∷ reads (55 ∷ 44 ∷ 49 ∷ 50 ∷ 10 ∷ 57 ∷ []) 2 1 (12 ∷ 0 ∷ 0 ∷ 0 ∷ 0 ∷ 0 ∷ 0 ∷ 0 ∷ []) 4  -- 7,12LF9
    ∷ reads (55 ∷ 44 ∷ 49 ∷ 50 ∷ 10 ∷ 57 ∷ []) 3 1 (2 ∷ 0 ∷ 0 ∷ 0 ∷ 0 ∷ 0 ∷ 0 ∷ 0 ∷ []) 4  -- 7,12LF9
    ∷ reads (55 ∷ 44 ∷ 49 ∷ 50 ∷ 10 ∷ 57 ∷ []) 4 0 (0 ∷ 0 ∷ 0 ∷ 0 ∷ 0 ∷ 0 ∷ 0 ∷ 0 ∷ []) 4  -- 7,12LF9
    ∷ reads (55 ∷ 44 ∷ 49 ∷ 50 ∷ 10 ∷ 57 ∷ []) 5 1 (9 ∷ 0 ∷ 0 ∷ 0 ∷ 0 ∷ 0 ∷ 0 ∷ 0 ∷ []) 6  -- 7,12LF9
    ∷ reads (55 ∷ 44 ∷ 49 ∷ 50 ∷ 10 ∷ 57 ∷ []) 6 0 (0 ∷ 0 ∷ 0 ∷ 0 ∷ 0 ∷ 0 ∷ 0 ∷ 0 ∷ []) 6  -- 7,12LF9
    ∷ reads (55 ∷ 44 ∷ 49 ∷ 50 ∷ 10 ∷ 57 ∷ []) 7 0 (0 ∷ 0 ∷ 0 ∷ 0 ∷ 0 ∷ 0 ∷ 0 ∷ 0 ∷ []) 7  -- 7,12LF9
    ∷ reads (55 ∷ 44 ∷ 49 ∷ 50 ∷ 10 ∷ 57 ∷ []) 1 0 (0 ∷ 0 ∷ 0 ∷ 0 ∷ 0 ∷ 0 ∷ 0 ∷ 0 ∷ []) 4  -- 7,12LF9
    ∷ reads (49 ∷ 50 ∷ 58 ∷ 51 ∷ []) 0 1 (12 ∷ 0 ∷ 0 ∷ 0 ∷ 0 ∷ 0 ∷ 0 ∷ 0 ∷ []) 2  -- 12:3
    ∷ reads (49 ∷ 50 ∷ 47 ∷ 51 ∷ []) 0 1 (12 ∷ 0 ∷ 0 ∷ 0 ∷ 0 ∷ 0 ∷ 0 ∷ 0 ∷ []) 2  -- 12/3
    ∷ reads (49 ∷ 50 ∷ 43 ∷ 51 ∷ []) 0 1 (12 ∷ 0 ∷ 0 ∷ 0 ∷ 0 ∷ 0 ∷ 0 ∷ 0 ∷ []) 2  -- 12+3
    ∷ reads (49 ∷ 50 ∷ 45 ∷ 51 ∷ []) 0 1 (12 ∷ 0 ∷ 0 ∷ 0 ∷ 0 ∷ 0 ∷ 0 ∷ 0 ∷ []) 2  -- 12-3
    ∷ reads (55 ∷ 44 ∷ 48 ∷ 50 ∷ 44 ∷ 51 ∷ 59 ∷ []) 0 0 (0 ∷ 0 ∷ 0 ∷ 0 ∷ 0 ∷ 0 ∷ 0 ∷ 0 ∷ []) 6  -- 7,02,3;
    ∷ reads (55 ∷ 44 ∷ 44 ∷ 51 ∷ 59 ∷ []) 0 0 (0 ∷ 0 ∷ 0 ∷ 0 ∷ 0 ∷ 0 ∷ 0 ∷ 0 ∷ []) 4  -- 7,,3;
    ∷ reads (55 ∷ 44 ∷ 59 ∷ []) 0 0 (0 ∷ 0 ∷ 0 ∷ 0 ∷ 0 ∷ 0 ∷ 0 ∷ 0 ∷ []) 2  -- 7,;
    ∷ reads (55 ∷ 44 ∷ 52 ∷ 50 ∷ 57 ∷ 52 ∷ 57 ∷ 54 ∷ 55 ∷ 50 ∷ 57 ∷ 54 ∷ 44 ∷ 49 ∷ 59 ∷ []) 0 0 (0 ∷ 0 ∷ 0 ∷ 0 ∷ 0 ∷ 0 ∷ 0 ∷ 0 ∷ []) 14  -- 7,4294967296,1;
    ∷ reads (55 ∷ 44 ∷ 52 ∷ 50 ∷ 57 ∷ 52 ∷ 57 ∷ 54 ∷ 55 ∷ 50 ∷ 57 ∷ 53 ∷ 44 ∷ 49 ∷ 59 ∷ []) 0 3 (7 ∷ 4294967295 ∷ 1 ∷ 0 ∷ 0 ∷ 0 ∷ 0 ∷ 0 ∷ []) 14  -- 7,4294967295,1;
    ∷ reads (49 ∷ 44 ∷ 50 ∷ 44 ∷ 51 ∷ 44 ∷ 52 ∷ 44 ∷ 53 ∷ 44 ∷ 54 ∷ 44 ∷ 55 ∷ 59 ∷ []) 0 7 (1 ∷ 2 ∷ 3 ∷ 4 ∷ 5 ∷ 6 ∷ 7 ∷ 0 ∷ []) 13  -- 1,2,3,4,5,6,7;
    ∷ reads (49 ∷ 44 ∷ 50 ∷ 44 ∷ 51 ∷ 44 ∷ 52 ∷ 44 ∷ 53 ∷ 44 ∷ 54 ∷ 44 ∷ 55 ∷ 44 ∷ 56 ∷ 59 ∷ []) 0 8 (1 ∷ 2 ∷ 3 ∷ 4 ∷ 5 ∷ 6 ∷ 7 ∷ 8 ∷ []) 15  -- 1,2,3,4,5,6,7,8;
    ∷ reads (49 ∷ 44 ∷ 50 ∷ 44 ∷ 51 ∷ 44 ∷ 52 ∷ 44 ∷ 53 ∷ 44 ∷ 54 ∷ 44 ∷ 55 ∷ 44 ∷ 56 ∷ 44 ∷ 57 ∷ 59 ∷ []) 0 0 (0 ∷ 0 ∷ 0 ∷ 0 ∷ 0 ∷ 0 ∷ 0 ∷ 0 ∷ []) 17  -- 1,2,3,4,5,6,7,8,9;
    ∷ []

-- ---- its steps

-- whether the field has begun, its value so far, a byte, and the step
unfoldable pub steps_told : List (Bool × ℕ × ℕ × FieldStep)
steps_told =
    (false, 0, 47, End)
    ∷ (false, 0, 48, Value 0)
    ∷ (false, 0, 57, Value 9)
    ∷ (false, 0, 58, End)
    ∷ (false, 0, 44, End)
    ∷ (true, 0, 48, Bad)
    ∷ (true, 0, 57, Bad)
    ∷ (true, 0, 47, End)
    ∷ (true, 0, 58, End)
    ∷ (true, 1, 48, Value 10)
    ∷ (true, 12, 55, Value 127)
    ∷ (false, 12, 55, Value 127)
    ∷ (true, 429496729, 53, Value 4294967295)
    ∷ (true, 429496729, 54, Bad)
    ∷ (true, 429496730, 48, Bad)
    ∷ (true, 4294967295, 44, End)
    ∷ (true, 4294967295, 57, Bad)
    ∷ []

-- bytes, a place, the step of the byte there as a field's first, and whether it is a comma
unfoldable pub places_told : List (List ℕ × ℕ × FieldStep × Bool)
places_told =
    ([], 0, End, false)  -- no bytes
    ∷ ((55 ∷ 44 ∷ 48 ∷ 43 ∷ []), 0, Value 7, false)  -- 7,0+
    ∷ ((55 ∷ 44 ∷ 48 ∷ 43 ∷ []), 1, End, true)  -- 7,0+
    ∷ ((55 ∷ 44 ∷ 48 ∷ 43 ∷ []), 2, Value 0, false)  -- 7,0+
    ∷ ((55 ∷ 44 ∷ 48 ∷ 43 ∷ []), 3, End, false)  -- 7,0+
    ∷ ((55 ∷ 44 ∷ 48 ∷ 43 ∷ []), 4, End, false)  -- 7,0+
    ∷ ((45 ∷ 44 ∷ []), 0, End, false)  -- -,
    ∷ ((45 ∷ 44 ∷ []), 1, End, true)  -- -,
    ∷ ((45 ∷ 44 ∷ []), 2, End, false)  -- -,
    ∷ []
