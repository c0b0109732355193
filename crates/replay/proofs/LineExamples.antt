-- Lines taken, computed.
use Rattle.std.specs.Prelude.{Ok, Err}
use mathlib.Core.Path.{◌≡◌, refl}
use mathlib.Core.List.{List, [], ◌∷◌, map}
use Prim.Native.Nat.{ℕ}
use Rattle.model.specs.declared.answer.Refusal.TheVariants.{BufferTooShort}
use Rattle.lines.specs.CallText.{line_of_numbers, line_of_call}
use Rattle.model.specs.State.{balance, fresh_exchange}
use Rattle.replay.specs.Lines.{line_request_of, taken_of, state_after_lines, events_of_lines, by_lines}
use Rattle.replay.specs.Days.{lines_of, numbered, day_lines, day_state, run_text}
use Rattle.replay.specs.LineExamples.{taken, lines_taken, asked, asked_text, asked_events, lines_in, day_asked, day_bytes, tenth_asked, deposit_asked}
use Rattle.replay.specs.StreamExamples.{five, six}
use Rattle.replay.proofs.Computing.{line_computes}

pub lines_taken_lem : map taken lines_taken ≡ lines_taken
unfolding lines_taken taken_of line_request_of line_computes
lines_taken_lem = refl

pub list_written : run_text fresh_exchange asked ≡ asked_text
unfolding asked asked_text line_request_of line_computes
list_written = refl

pub list_told : events_of_lines line_request_of fresh_exchange asked ≡ asked_events
unfolding asked asked_events events_of_lines line_request_of line_computes
list_told = refl

pub list_leaves : balance (state_after_lines line_request_of fresh_exchange asked) 0 0 ≡ 11
unfolding asked state_after_lines line_request_of line_computes
list_leaves = refl

pub lines_in_lem : map (λ (e : List ℕ × List (List ℕ)). lines_of e.0) lines_in ≡ map (λ (e : List ℕ × List (List ℕ)). e.1) lines_in
unfolding lines_in
lines_in_lem = refl

pub day_asked_lem : day_lines day_bytes ≡ day_asked
unfolding day_bytes day_asked line_computes
day_asked_lem = refl

pub tenth_asked_lem : numbered fresh_exchange 8 (five ∷ (six ∷ [])) ≡ tenth_asked
unfolding tenth_asked line_computes
tenth_asked_lem = refl

pub day_leaves : balance (day_state day_bytes) 0 0 ≡ 11
unfolding day_bytes state_after_lines line_request_of line_computes
day_leaves = refl

-- a call taken as its line, 1,0,0,5: the answer, 7,0,5,0 and byte 10, needs 8 bytes
pub by_its_line : ((by_lines line_request_of fresh_exchange (deposit_asked 8)).answer ≡ Ok (5, 0)) × ((by_lines line_request_of fresh_exchange (deposit_asked 7)).answer ≡ Err BufferTooShort)
unfolding line_of_call line_of_numbers line_request_of line_computes
by_its_line = (refl, refl)
