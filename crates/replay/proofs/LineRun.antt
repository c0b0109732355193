-- One line, and the whole_run theorem said of lines: a list of lines runs as the list of its calls.
use Rattle.std.specs.Prelude.{Err, Some, None, Option}
use mathlib.Core.Path.{◌≡◌, refl, sym, ap, ◌∙◌, subst, subst₂}
use mathlib.Core.Bool.{Bool, true, false, cond}
use mathlib.Core.List.{List, [], ◌∷◌}
use Prim.Native.Nat.{ℕ, ◌≤◌, ◌<◌}
use native.Mathlib.Nat.{ne_of_gt}
use lib.Dec.{ltb}
use lib.ListN.{length}
use borrow.Author.Tests.{lt-ltb, le-ltb}
use Rattle.units.proofs.Cases.{by_order}
use Rattle.decimal.specs.Buffer.{put_into, put_count}
use Rattle.decimal.proofs.Put.{count_fits, count_short}
use Rattle.lines.proofs.AnswerLines.{answer_pos}
use Rattle.model.specs.declared.state.Exchange.{Exchange}
use Rattle.model.specs.declared.call.Call.{Call}
use Rattle.model.specs.declared.answer.Outcome.{Outcome}
use Rattle.model.specs.declared.answer.Refusal.{Refusal}
use Rattle.model.specs.declared.answer.Refusal.TheVariants.{MalformedLine, BufferTooShort}
use Rattle.model.specs.declared.call.Call.TheVariants.{Claim}
use Rattle.model.specs.Answers.{Answer, answer_line}
use Rattle.model.specs.Calls.{refuse}
use Rattle.model.specs.State.{fresh_exchange}
use Rattle.model.specs.Run.{Reachable, after_call, Request, fitted, request_of, Event}
use Rattle.model.specs.Submissions.{Submission, single, model_engine, events_of, state_after}
use Rattle.model.specs.History.{History, history_of}
use Rattle.model.specs.WholeRun.{Whole, PaysOut, got_by, order_with, paid_by}
use Rattle.model.proofs.WholeRun.{whole_run}
use Rattle.lines.specs.AnswerText.{longest_answer}
use Rattle.lines.specs.CallLines.{reading_of}
use Rattle.lines.specs.CallText.{line_of_call}
use Rattle.lines.proofs.RoundTrip.{call_round}
use native.Mathlib.Omega.{arith}
use Rattle.replay.specs.declared.line.Taken.{Taken}
use Rattle.replay.specs.Lines.{outcome_of, line_outcome, line_text, LineRequest, line_request_of, taken_of, state_after_lines, events_of_lines, WholeOfLines, LinesReachable, WholeRunOfLines}

-- ---- one line

-- a line taken in a state that calls can leave leaves one
reachable_reading : (x : Exchange) → Reachable x → (r : Option Call) → Reachable (outcome_of x r).exchange
reachable_reading x l (Some c) = after_call l c
reachable_reading x l None = l

pub reachable_line : (x : Exchange) → Reachable x → (line : List ℕ) → Reachable (line_outcome x line).exchange
unfolding line_outcome
reachable_line x l line = reachable_reading x l (reading_of line)

-- the outcome worked out of what was read is the line's
pub line_outcome_is : (x : Exchange) (line : List ℕ) (r : Option Call) (o : Outcome) → r ≡ reading_of line → o ≡ outcome_of x r → o ≡ line_outcome x line
unfolding line_outcome
line_outcome_is x line r o e f = f ∙ ap (outcome_of x) e

-- the request that a line with a call is
abbrev as_request : LineRequest → Call → Request
as_request q c = record { line = q.number; room = q.room; call = c }

line_call : (x : Exchange) (q : LineRequest) (c : Call) → reading_of q.line ≡ Some c → line_request_of x q ≡ request_of x (as_request q c)
unfolding line_request_of line_outcome request_of
line_call x q c e = ap (λ (r : Option Call). fitted x q.number q.room (outcome_of x r)) e

-- a line without a call leaves the state
stays : (x : Exchange) (t : Bool) (a b : Refusal) → (cond t (refuse x a) (refuse x b)).exchange ≡ x
stays x true a b = refl
stays x false a b = refl

line_none : (x : Exchange) (q : LineRequest) → reading_of q.line ≡ None → (line_request_of x q).exchange ≡ x
unfolding line_request_of line_outcome
line_none x q e =
    ap (λ (r : Option Call). (fitted x q.number q.room (outcome_of x r)).exchange) e
    ∙ stays x (ltb q.room (length (answer_line q.number (Err MalformedLine)))) BufferTooShort MalformedLine

by_reading {ℓ} : {P : Type ℓ} (r : Option Call) → ((c : Call) → r ≡ Some c → P) → (r ≡ None → P) → P
by_reading (Some c) f g = f c refl
by_reading None f g = g refl

-- ---- with and without room

module _ (x : Exchange) (q : LineRequest) where
  pub line_short : q.room < length (line_text x q.number q.line) → line_request_of x q ≡ refuse x BufferTooShort
  unfolding line_request_of line_text
  line_short h = rw (lt-ltb _ _ h)

  pub line_fits : length (line_text x q.number q.line) ≤ q.room → line_request_of x q ≡ line_outcome x q.line
  unfolding line_request_of line_text
  line_fits h = rw (le-ltb _ _ h)

-- ---- a line taken: o is its outcome, used and ys what writing its answer into xs answered and left

pub some_text : (x : Exchange) (n : ℕ) (l : List ℕ) → 0 < length (line_text x n l)
unfolding line_text
some_text x n l = answer_pos n (line_outcome x l).answer

-- how much was written tells whether it fits
pub count_none : (xs t : List ℕ) → 0 < length t → put_count xs t ≡ 0 → length xs < length t
count_none xs t p e = by_order (length xs) (length t) (λ h. h) (λ h. absurd (ne_of_gt p (sym (count_fits xs t h) ∙ e)))

pub count_some : (xs t : List ℕ) → (put_count xs t ≡ 0 → ⊥) → length t ≤ length xs
count_some xs t z = by_order (length xs) (length t) (λ h. absurd (z (count_short xs t h))) (λ h. h)

module _ (x : Exchange) (n : ℕ) (l xs : List ℕ) (o : Outcome) (is : o ≡ line_outcome x l) where
  pub text_is : answer_line n o.answer ≡ line_text x n l
  unfolding line_text
  text_is = ap (λ (v : Outcome). answer_line n v.answer) is

  pub take_put : (ys : List ℕ) → ys ≡ put_into xs (answer_line n o.answer) → ys ≡ put_into xs (line_text x n l)
  take_put ys e = e ∙ ap (put_into xs) text_is

  pub take_bound : length (answer_line n o.answer) ≤ longest_answer → length (line_text x n l) ≤ longest_answer
  take_bound h = subst (λ (t : List ℕ). length t ≤ longest_answer) text_is h

  module _ (used : ℕ) (wrote : used ≡ put_count xs (answer_line n o.answer)) where
    counted : used ≡ put_count xs (line_text x n l)
    counted = wrote ∙ ap (put_count xs) text_is

    pub take_short : used ≡ 0 → ◌≡◌ {A = Taken} (record { answered = record { answer = Err BufferTooShort; used = 0 }; exchange = x }) (taken_of x n l (length xs))
    unfolding taken_of
    take_short e =
        let q : LineRequest = record { number = n; room = length xs; line = l } in
        let short : length xs < length (line_text x n l) = count_none xs (line_text x n l) (some_text x n l) (sym counted ∙ e) in
        sym (rw (line_short x q short, lt-ltb _ _ short))

    pub take_fits : (used ≡ 0 → ⊥) → ◌≡◌ {A = Taken} (record { answered = record { answer = o.answer; used = used }; exchange = o.exchange }) (taken_of x n l (length xs))
    unfolding taken_of
    take_fits z =
        let q : LineRequest = record { number = n; room = length xs; line = l } in
        let fits : length (line_text x n l) ≤ length xs = count_some xs (line_text x n l) (λ e. z (counted ∙ e)) in
        rw (line_fits x q fits, le-ltb _ _ fits, counted ∙ count_fits xs (line_text x n l) fits, is)

pub lines_reachable : LinesReachable
lines_reachable x l q =
    by_order q.room (length (line_text x q.number q.line))
    (λ h. subst (λ (o : Outcome). Reachable o.exchange) (sym (line_short x q h)) l)
    (λ h. subst (λ (o : Outcome). Reachable o.exchange) (sym (line_fits x q h)) (reachable_line x l q.line))

-- ---- a list of lines

abbrev event : Call → Answer → Event
event c a = record { call = c; answer = a }

-- the requests that its lines with calls are
abbrev requested : Option Call → LineRequest → List Submission → List Submission
requested None q qs = qs
requested (Some c) q qs = single (as_request q c) ∷ qs

abbrev requests_in : List LineRequest → List Submission
requests_in [] = []
requests_in (q ∷ qs) = requested (reading_of q.line) q (requests_in qs)

same_state : (x : Exchange) (qs : List LineRequest) → state_after model_engine x (requests_in qs) ≡ state_after_lines line_request_of x qs
unfolding state_after state_after_lines
same_state x [] = refl
same_state x (q ∷ qs) =
    by_reading (reading_of q.line)
    (λ c e.
    rw e
    (ap (λ (o : Outcome). state_after model_engine o.exchange (requests_in qs)) (sym (line_call x q c e))
    ∙ same_state (line_request_of x q).exchange qs))
    (λ e.
    rw e
    (ap (λ (v : Exchange). state_after model_engine v (requests_in qs)) (sym (line_none x q e))
    ∙ same_state (line_request_of x q).exchange qs))

same_events : (x : Exchange) (qs : List LineRequest) → events_of model_engine x (requests_in qs) ≡ events_of_lines line_request_of x qs
unfolding events_of events_of_lines
same_events x [] = refl
same_events x (q ∷ qs) =
    by_reading (reading_of q.line)
    (λ c e.
    rw e
    (ap (λ (o : Outcome). event c o.answer ∷ events_of model_engine o.exchange (requests_in qs)) (sym (line_call x q c e))
    ∙ ap (λ (es : List Event). event c (line_request_of x q).answer ∷ es) (same_events (line_request_of x q).exchange qs)))
    (λ e.
    rw e
    (ap (λ (v : Exchange). events_of model_engine v (requests_in qs)) (sym (line_none x q e))
    ∙ same_events (line_request_of x q).exchange qs))

-- ---- the statement

-- a refused line leaves the state
line_refused : (x : Exchange) (y : History) → Whole request_of x y → (q : LineRequest) (why : Refusal) → (line_request_of x q).answer ≡ Err why → (line_request_of x q).exchange ≡ x
line_refused x y w q why r =
    by_reading (reading_of q.line)
    (λ c e.
    let s = line_call x q c e in
    ap (λ (o : Outcome). o.exchange) s ∙ w.engine.refused_stays (as_request q c) why (sym (ap (λ (o : Outcome). o.answer) s) ∙ r))
    (λ e. line_none x q e)

of_lines : (x : Exchange) (y : History) → Whole request_of x y → WholeOfLines line_request_of x y
of_lines x y w =
    record {
      whole =
          record {
            books = w.books;
            tickets = w.tickets;
            rounds = w.rounds;
            past = w.past;
            engine =
                record {
                  refused_stays = λ q why r. line_refused x y w (record { number = q.line; room = q.room; line = line_of_call q.call }) why r;
                  settled_pays =
                      λ k terms market o b t. (
                        (w.engine.settled_pays k terms market o b t).0,
                        λ line room fits.
                            subst (PaysOut x k (order_with terms market o) (paid_by b terms o) (got_by b terms o))
                            (sym (line_call x (record { number = line; room = room; line = line_of_call (Claim k) }) (Claim k)
                            (call_round (Claim k) (omega arith, (omega (arith, t.ticket_range), tt)))))
                            ((w.engine.settled_pays k terms market o b t).1 line room fits),
                      );
                };
          };
      others_stay = λ q e. line_none x q e;
    }

pub whole_run_of_lines : WholeRunOfLines
whole_run_of_lines qs =
    subst₂ (λ (x : Exchange) (es : List Event). WholeOfLines line_request_of x (history_of es))
    (same_state fresh_exchange qs)
    (same_events fresh_exchange qs)
    (of_lines _ _ (whole_run (requests_in qs)).whole)
