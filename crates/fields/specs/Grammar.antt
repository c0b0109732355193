-- Document 01's "Day lines": the form of a line, without its byte 10.
use Rattle.std.specs.Prelude.{ℕ, ◌+◌, ◌*◌, ◌-◌, Bool, true, false, not, cond, ◌&&◌, List, [], ◌∷◌, length, leb, eqb, Some, None, Option}
use Rattle.units.specs.Counts.{largest}

-- ---- a number

-- the bytes 48 to 57
abbrev pub is_digit : ℕ → Bool
is_digit b = leb 48 b && leb b 57

abbrev pub all_digits : List ℕ → Bool
all_digits [] = true
all_digits (b ∷ bs) = is_digit b && all_digits bs

-- "A number has no sign and no needless leading zero": one digit, or several of which the first is not 0
abbrev pub is_number : List ℕ → Bool
is_number [] = false
is_number (d ∷ []) = is_digit d
is_number (d ∷ (e ∷ ds)) = not (eqb d 48) && all_digits (d ∷ (e ∷ ds))

-- the digits ds read in decimal, after digits that read as n
abbrev pub value_from : ℕ → List ℕ → ℕ
value_from n [] = n
value_from n (d ∷ ds) = value_from (n * 10 + (d - 48)) ds

-- the number that a field is, unless it is none or "a value above 4,294,967,295"
unfoldable pub number_of : List ℕ → Option ℕ
number_of ds = cond (is_number ds && leb (value_from 0 ds) largest) (Some (value_from 0 ds)) None

-- ---- a line: "the kind, then that kind's fields, parted by commas"

-- b before the first part
abbrev pub on_first : ℕ → List (List ℕ) → List (List ℕ)
on_first b [] = (b ∷ []) ∷ []
on_first b (p ∷ ps) = (b ∷ p) ∷ ps

-- the bytes between commas (byte 44)
abbrev pub parts_of : List ℕ → List (List ℕ)
parts_of [] = [] ∷ []
parts_of (b ∷ bs) = cond (eqb b 44) ([] ∷ parts_of bs) (on_first b (parts_of bs))

-- a number before numbers, where all are
abbrev pub cons_number : Option ℕ → Option (List ℕ) → Option (List ℕ)
cons_number None m = None
cons_number (Some n) None = None
cons_number (Some n) (Some ns) = Some (n ∷ ns)

-- the numbers of all parts, where each is one
abbrev pub all_numbers : List (List ℕ) → Option (List ℕ)
all_numbers [] = Some []
all_numbers (p ∷ ps) = cons_number (number_of p) (all_numbers ps)

-- "At most 80 bytes before byte 10; a longer line is one line and gets 20"
abbrev pub longest_line : ℕ
longest_line = 80

-- the numbers of a line, where it is of this form
unfoldable pub line_numbers : List ℕ → Option (List ℕ)
line_numbers line = cond (leb (length line) longest_line) (all_numbers (parts_of line)) None
