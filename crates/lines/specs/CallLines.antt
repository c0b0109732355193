-- The call that a line is, "by kind number and fields", or none; and the line at a place of an input.
use Rattle.std.specs.Prelude.{ℕ, ◌+◌, cond, List, [], ◌∷◌, length, drop, eqb, Some, None, Option}
use Rattle.model.specs.declared.call.Call.{Call}
use Rattle.model.specs.Kinds.{Kind, from_fields, kinds}
use Rattle.lines.specs.declared.call.LineAt.{LineAt}
use Rattle.fields.specs.Grammar.{line_numbers}

-- ---- by kind number

-- the call of the kind with this number
abbrev pub read_in : List Kind → ℕ → List ℕ → Option Call
read_in [] number fields = None
read_in (k ∷ ks) number fields = cond (eqb number k.number) (from_fields k.fields k.call fields) (read_in ks number fields)

-- "An empty line, an unknown kind, a wrong number of fields or a value above 4,294,967,295 gets 20": here an unknown kind and a wrong number
-- of fields do
unfoldable pub of_kind : ℕ → List ℕ → Option Call
of_kind number fields = read_in kinds number fields

-- the call of a line's numbers; no kind is no call
abbrev pub call_of : List ℕ → Option Call
call_of [] = None
call_of (kind ∷ fields) = of_kind kind fields

-- a line whose parts are not all numbers has none: so has "An empty line", whose one part is empty, and one with "a value above 4,294,967,295"
abbrev pub call_of_numbers : Option (List ℕ) → Option Call
call_of_numbers None = None
call_of_numbers (Some ns) = call_of ns

-- a line without its byte 10: 20's "line not of the form below. It is then no call"
unfoldable pub reading_of : List ℕ → Option Call
reading_of line = call_of_numbers (line_numbers line)

-- ---- lines in an input

-- the bytes before the first byte 10, or all
abbrev pub line_in : List ℕ → List ℕ
line_in [] = []
line_in (b ∷ bs) = cond (eqb b 10) [] (b ∷ line_in bs)

-- the line that begins at a place, and where it ends: at its byte 10, or at the end of the bytes. From their end on there is no line: the answer
-- is then the empty line's, and its end the place itself
unfoldable pub line_at : List ℕ → ℕ → LineAt
line_at bytes from =
    record { reading = reading_of (line_in (drop from bytes)); end = from + length (line_in (drop from bytes)) }
