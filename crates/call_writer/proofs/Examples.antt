-- Calls written at places of a buffer, and lines read and written again, computed.
use Rattle.std.specs.Prelude.{None, Some, Option}
use mathlib.Core.Path.{◌≡◌, refl}
use mathlib.Core.List.{List, [], ◌∷◌, ◌++◌, map}
use Prim.Native.Nat.{ℕ}
use lib.ListN.{length}
use Rattle.units.specs.Decimal.{digits}
use Rattle.fields.specs.Grammar.{number_of, line_numbers}
use Rattle.decimal.specs.Buffer.{put_at, put_from}
use Rattle.decimal.specs.Examples.{hashes}
use Rattle.model.specs.declared.answer.Refusal.TheVariants.{MalformedLine, BufferTooShort}
use Rattle.model.specs.declared.call.Call.TheVariants.{Enter}
use Rattle.model.specs.Answers.{refusal_code}
use Rattle.lines.specs.declared.call.LineAt.{LineAt}
use Rattle.lines.specs.CallLines.{of_kind, call_of, reading_of, line_at}
use Rattle.lines.specs.CallText.{line_of_numbers, line_of_call, call_line}
use Rattle.lines.specs.LineExamples.{CallLine, call_lines, no_calls}
use Rattle.call_writer.specs.declared.LinePut.{LinePut}
use Rattle.call_writer.specs.Writing.{written_of, written_code, written_length, shortest_call, longest_call, line_of_reading, put_of}
use Rattle.call_writer.specs.RoundTrips.{LineOf, ReadAgain}
use Rattle.call_writer.specs.Examples.{longest_bid, CallPut, calls_put, put_at_one, FieldsPut, fields_put, LineAgain, lines_again}

-- what a computed line unfolds
unfoldable text_computes : Unit {0}
unfolding line_of_call line_of_numbers digits put_at put_from
text_computes = tt

-- code, length and buffer after
abbrev Told : Type 0
Told = ℕ × ℕ × List ℕ

abbrev told : CallPut → Option ℕ → Told
told e w = (written_code w, written_length w, put_from (hashes e.room) e.place (call_line e.call))

abbrev defined : CallPut → Told
defined e = told e (written_of e.room e.place (call_line e.call))

abbrev by_hand : CallPut → Told
by_hand e = (e.code, e.bytes, e.after)

pub calls_put_lem : map defined calls_put ≡ map by_hand calls_put
unfolding text_computes written_of calls_put
calls_put_lem = refl

-- a call of each kind
pub kinds_put : map (λ (e : CallLine). defined (put_at_one e)) call_lines ≡ map (λ (e : CallLine). by_hand (put_at_one e)) call_lines
unfolding text_computes written_of call_lines
kinds_put = refl

-- the shortest line and the longest
pub line_bounds : (length (call_line (Enter 0)) ∷ length (call_line longest_bid) ∷ []) ≡ shortest_call ∷ longest_call ∷ []
unfolding text_computes
line_bounds = refl

-- "Refused: 21 when the place is past the buffer's end or what follows it is too short": the number of that refusal
pub refused_code : written_code None ≡ refusal_code BufferTooShort
refused_code = refl

-- ---- plain numbers

pub numbers_lines : map (λ (e : CallLine). line_of_reading (call_of e.numbers)) call_lines ≡ map (λ (e : CallLine). e.bytes ++ (10 ∷ [])) call_lines
unfolding text_computes of_kind call_lines
numbers_lines = refl

-- nothing is written of an unknown kind or a wrong number of fields
pub nothing_written : map (λ (ns : List ℕ). line_of_reading (call_of ns)) no_calls ≡ map (λ (ns : List ℕ). []) no_calls
unfolding of_kind no_calls
nothing_written = refl

-- code, length and buffer after
abbrev told_of_fields : FieldsPut → LinePut → Told
told_of_fields e p = (p.code, p.length, put_from (hashes e.room) e.place (line_of_reading (call_of (e.kind ∷ e.fields))))

pub fields_put_lem : map (λ (e : FieldsPut). told_of_fields e (put_of e.room e.place (call_of (e.kind ∷ e.fields)))) fields_put
    ≡ map (λ (e : FieldsPut). (e.code, e.bytes, e.after)) fields_put
unfolding text_computes written_of put_of of_kind fields_put
fields_put_lem = refl

-- the number of 20's refusal
pub no_call_code : (room at : ℕ) → (put_of room at None).code ≡ refusal_code MalformedLine
unfolding put_of
no_call_code room at = refl

-- ---- lines read, then written

abbrev again_at : List ℕ → ℕ → LineAt → LineAgain
again_at bytes from at =
    record { bytes = put_from bytes from (line_of_reading at.reading); from = from; reading = at.reading; end = at.end; line = line_of_reading at.reading }

-- the bytes stay as they were, also where the last line has no byte 10 and the line written is too long
pub lines_again_lem : map (λ (e : LineAgain). again_at e.bytes e.from (line_at e.bytes e.from)) lines_again ≡ lines_again
unfolding text_computes line_at reading_of line_numbers number_of of_kind lines_again
lines_again_lem = refl

-- ---- the statements, on bytes

-- 6,0 at the very end has no byte 10; 6,0LF has it, and so has 6,0LF x
pub very_end : LineOf (54 ∷ 44 ∷ 48 ∷ []) 0 (Enter 0) 3
unfolding text_computes
very_end = record { ends = refl; line = refl }

pub all_ended : LineOf (54 ∷ 44 ∷ 48 ∷ 10 ∷ []) 0 (Enter 0) 3
unfolding text_computes
all_ended = record { ends = refl; line = refl }

pub before_end : LineOf (54 ∷ 44 ∷ 48 ∷ 10 ∷ 120 ∷ []) 0 (Enter 0) 3
unfolding text_computes
before_end = record { ends = refl; line = refl }

-- ##6,0LF is read at place 2
pub read_again : ReadAgain (35 ∷ 35 ∷ 54 ∷ 44 ∷ 48 ∷ 10 ∷ []) 2 (Enter 0) (Some 4)
unfolding text_computes line_at reading_of line_numbers number_of of_kind
read_again = refl
