-- A file whose lines are calls, written again line by line, is the same file; and calls written one after the other are read again.
use Rattle.std.specs.Prelude.{Some}
use mathlib.Core.Path.{◌≡◌, refl, sym, ap, ◌∙◌, subst}
use mathlib.Core.List.{List, [], ◌∷◌, ◌++◌, map, append_assoc}
use Prim.Native.Nat.{ℕ, ◌+◌, ◌≤◌}
use native.Mathlib.Omega.{arith}
use lib.Dec.{eqb}
use lib.ListN.{length, length-append}
use borrow.Author.Tests.{eqb-true}
use Rattle.units.proofs.Cases.{by_test}
use Rattle.decimal.specs.Buffer.{put_at, put_from}
use Rattle.decimal.proofs.Put.{put_length, put_put, from_fits, from_nothing}
use Rattle.fields.specs.Grammar.{on_first}
use Rattle.model.specs.declared.call.Call.{Call}
use Rattle.model.specs.Kinds.{numbers_of_call}
use Rattle.lines.specs.CallLines.{reading_of, line_in}
use Rattle.lines.specs.CallText.{line_of_call, call_line, Small}
use Rattle.lines.proofs.RoundTrip.{call_round, one_line, line_round}
use Rattle.replay.specs.Days.{lines_of}
use Rattle.replay.specs.Rewriting.{calls_text, CallsJoined, with_end, InputsRewritten, CallsReread}

-- ---- by the writer

pub calls_joined : CallsJoined
calls_joined out at [] h = sym (from_nothing out at)
calls_joined out at (c ∷ cs) h =
    let text = calls_text cs in
    let both : length (call_line c ++ text) ≡ length (call_line c) + length text = length-append (call_line c) text in
    let fits : at + length (call_line c) ≤ length out = omega (arith, both) in
    let put : put_from out at (call_line c) ≡ put_at out at (call_line c) = from_fits out (call_line c) at fits in
    let room : at + length (call_line c) + length text ≤ length (put_from out at (call_line c)) =
    omega (arith, both, ap length put, put_length out (call_line c) at fits) in
    calls_joined (put_from out at (call_line c)) (at + length (call_line c)) cs room
    ∙ from_fits (put_from out at (call_line c)) text (at + length (call_line c)) room
    ∙ ap (λ (l : List ℕ). put_at l (at + length (call_line c)) text) put
    ∙ put_put out (call_line c) text at (omega (arith, both))
    ∙ sym (from_fits out (call_line c ++ text) at h)

-- ---- read, then written

-- lines, each with its byte 10
abbrev lines_text : List (List ℕ) → List ℕ
lines_text [] = []
lines_text (l ∷ ls) = (l ++ (10 ∷ [])) ++ lines_text ls

-- calls are written as the lines that were read
calls_lines : (ls : List (List ℕ)) (cs : List Call) → map reading_of ls ≡ map Some cs → calls_text cs ≡ lines_text ls
calls_lines [] [] e = refl
calls_lines [] (c ∷ cs) e = absurd (omega (arith, ap length e))
calls_lines (l ∷ ls) [] e = absurd (omega (arith, ap length e))
calls_lines (l ∷ ls) (c ∷ cs) e =
    let here : reading_of l ≡ Some c = cc in
    let others : map reading_of ls ≡ map Some cs = cc in
    rw (line_round l c here, calls_lines ls cs others)

-- a byte before the first of some lines
text_first : (b d : ℕ) (bs : List ℕ) → lines_text (on_first b (lines_of (d ∷ bs))) ≡ b ∷ lines_text (lines_of (d ∷ bs))
text_first b d bs = by_test (eqb d 10) (λ e. rw e) (λ e. rw e (on_first_lem (lines_of bs)))
  where
    on_first_lem : (ls : List (List ℕ)) → lines_text (on_first b (on_first d ls)) ≡ b ∷ lines_text (on_first d ls)
    on_first_lem [] = refl
    on_first_lem (l ∷ ls) = refl

-- the lines of an input make it again, with byte 10 at its end
lines_ended : (input : List ℕ) → lines_text (lines_of input) ≡ with_end input
lines_ended [] = refl
lines_ended (b ∷ []) = by_test (eqb b 10) (λ e. rw (e, eqb-true b 10 e)) (λ e. rw e)
lines_ended (b ∷ (d ∷ bs)) =
    by_test (eqb b 10) (λ e. rw (e, eqb-true b 10 e, lines_ended (d ∷ bs))) (λ e. rw (e, text_first b d bs, lines_ended (d ∷ bs)))

pub inputs_rewritten : InputsRewritten
inputs_rewritten input cs e = calls_lines (lines_of input) cs e ∙ lines_ended input

-- ---- written, then read

-- bytes before byte 10 are the first line
line_first : (l rest : List ℕ) → lines_of (line_in l ++ (10 ∷ rest)) ≡ line_in l ∷ lines_of rest
line_first [] rest = refl
line_first (b ∷ l) rest = by_test (eqb b 10) (λ e. rw e) (λ e. rw (e, e, line_first l rest))

-- so a call's line is the first, which has none
call_first : (c : Call) → Small (numbers_of_call c) → (rest : List ℕ) → lines_of (line_of_call c ++ (10 ∷ rest)) ≡ line_of_call c ∷ lines_of rest
call_first c s rest = subst (λ (l : List ℕ). lines_of (l ++ (10 ∷ rest)) ≡ l ∷ lines_of rest) (one_line c s) (line_first (line_of_call c) rest)

pub calls_reread : CallsReread
calls_reread [] s = refl
calls_reread (c ∷ cs) s =
    rw
    (append_assoc (line_of_call c) (10 ∷ []) (calls_text cs), call_first c s.0 (calls_text cs), call_round c s.0, calls_reread cs s.1)
