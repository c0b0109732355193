-- Lines read and written, computed.
use Rattle.std.specs.Prelude.{Ok, Err, Some, None, Option}
use mathlib.Core.Path.{◌≡◌, refl}
use mathlib.Core.List.{List, [], ◌∷◌, ◌++◌, map}
use Prim.Native.Nat.{ℕ}
use lib.ListN.{length}
use Rattle.units.specs.Decimal.{digits}
use Rattle.fields.specs.Grammar.{number_of, line_numbers}
use Rattle.fields.specs.Examples.{long_lines}
use Rattle.model.specs.declared.call.Call.{Call}
use Rattle.model.specs.declared.answer.Refusal.{Refusal}
use Rattle.model.specs.declared.call.Call.TheVariants.{Enter}
use Rattle.model.specs.Answers.{refusal_code, answer_line}
use Rattle.lines.specs.AnswerText.{header, longest_answer, accepted_text, refused_text}
use Rattle.lines.specs.CallLines.{of_kind, call_of, reading_of, line_at}
use Rattle.lines.specs.CallText.{join_parts, line_of_numbers, line_of_call}
use Rattle.lines.specs.Kept.{kept_bytes}
use Rattle.lines.specs.ReadingCode.{reading_code, reading_values, code_in, line_code, line_values}
use Rattle.lines.specs.LineExamples.{LineRead, lines_read, CallLine, call_lines, no_calls, lines_at, long_at, read_at, long_tail, acceptances, refusals, header_words}

-- what a computed line unfolds
unfoldable line_computes : Unit {0}
unfolding reading_of of_kind line_numbers number_of line_code line_values
line_computes = tt

pub lines_read_lem : map {B = (Option Call) × ℕ × ℕ} (λ (e : LineRead). (reading_of e.bytes, reading_code (reading_of e.bytes), line_code e.bytes)) lines_read
    ≡ map {B = (Option Call) × ℕ × ℕ} (λ (e : LineRead). (e.reading, e.code, e.code)) lines_read
unfolding line_computes lines_read
lines_read_lem = refl

pub calls_read : map (λ (e : CallLine). reading_of e.bytes) call_lines ≡ map (λ (e : CallLine). Some e.call) call_lines
unfolding line_computes call_lines
calls_read = refl

pub calls_written : map (λ (e : CallLine). line_of_call e.call) call_lines ≡ map (λ (e : CallLine). e.bytes) call_lines
unfolding line_of_call line_of_numbers digits call_lines
calls_written = refl

-- a call's code is 0, and its values are its numbers
pub calls_coded : map {B = ℕ × ℕ × List ℕ × List ℕ} (λ (e : CallLine). (line_code e.bytes, reading_code (Some e.call), line_values e.bytes, reading_values (Some e.call))) call_lines
    ≡ map {B = ℕ × ℕ × List ℕ × List ℕ} (λ (e : CallLine). (0, 0, e.numbers, e.numbers)) call_lines
unfolding line_computes call_lines
calls_coded = refl

-- of any other numbers it is 20
pub no_calls_lem : map {B = (Option Call) × ℕ × List ℕ × ℕ} (λ (ns : List ℕ). (call_of ns, reading_code (call_of ns), reading_values (call_of ns), code_in (Some ns))) no_calls
    ≡ map {B = (Option Call) × ℕ × List ℕ × ℕ} (λ (ns : List ℕ). (None, 20, [], 20)) no_calls
unfolding of_kind no_calls
no_calls_lem = refl

pub lines_at_lem : map (λ (e : List ℕ × ℕ × (Option Call) × ℕ). line_at e.0 e.1) lines_at
    ≡ map (λ (e : List ℕ × ℕ × (Option Call) × ℕ). record { reading = e.2; end = e.3 }) lines_at
unfolding line_computes line_at lines_at
lines_at_lem = refl

-- of lines of 79, 80, 81, 82 and 201 bytes
pub long_lines_at : map (λ (e : ℕ × List ℕ × Option (List ℕ)). long_at e.0 e.1) long_lines ≡ map (λ (e : ℕ × List ℕ × Option (List ℕ)). read_at e.0) long_lines
unfolding line_computes line_at long_lines
long_lines_at = refl

pub long_tail_at : line_at long_tail 0 ∷ line_at long_tail 78 ∷ [] ≡ record { reading = None; end = 81 } ∷ record { reading = Some (Enter 1); end = 81 } ∷ []
unfolding line_computes line_at
long_tail_at = refl

-- ---- answers

pub acceptances_written : map (λ (e : ℕ × ℕ × ℕ × List ℕ × ℕ). (e.0, e.1, e.2, accepted_text e.1 e.2, length (answer_line e.0 (Ok (e.1, e.2))))) acceptances ≡ acceptances
unfolding acceptances answer_line digits
acceptances_written = refl

pub refusals_written : map (λ (e : ℕ × Refusal × List ℕ × ℕ). (e.0, e.1, refused_text (refusal_code e.1), length (answer_line e.0 (Err e.1)))) refusals ≡ refusals
unfolding refusals answer_line digits
refusals_written = refl

-- "line,code,first,second" and byte 10
pub header_words_lem : header ≡ join_parts header_words ++ (10 ∷ [])
unfolding header_words
header_words_lem = refl

-- the last acceptance has as many bytes; no answer line has more (`answer-bound`)
pub longest_is : longest_answer ≡ 35
longest_is = refl

-- a line of 81 bytes is too long
pub kept_is : kept_bytes ≡ 81
kept_is = refl
