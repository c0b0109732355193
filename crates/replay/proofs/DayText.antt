-- The day in pieces is the day as a whole, wherever the input is cut; and the day is a run of lines.
use mathlib.Core.Path.{◌≡◌, refl, sym, ap, ◌∙◌}
use mathlib.Core.Bool.{true, false}
use mathlib.Core.List.{List, [], ◌∷◌, ◌++◌, append_assoc, append-nil}
use Prim.Native.Nat.{ℕ, zero, suc, ◌+◌, ◌-◌, ◌≤◌, ◌<◌}
use native.Mathlib.Omega.{arith}
use native.Mathlib.Nat.{sub-eq-zero_of_le, le_refl}
use lib.Dec.{eqb}
use lib.ListN.{length, take, drop, take-append-drop}
use lib.Seq.{take_at, take_all}
use Rattle.model.specs.declared.state.Exchange.{Exchange}
use Rattle.model.specs.declared.answer.Outcome.{Outcome}
use Rattle.model.specs.State.{fresh_exchange}
use borrow.Author.Tests.{le-ltb}
use Rattle.units.proofs.Cases.{by_test, by_order}
use Rattle.fields.specs.Grammar.{on_first}
use Rattle.fields.proofs.Scan.{on_all, all_cons, all_snoc}
use Rattle.replay.specs.Lines.{LineRequest, line_outcome, line_text, line_request_of, written_text, state_after_lines}
use Rattle.lines.specs.AnswerText.{header}
use Rattle.replay.specs.Days.{lines_of, answer_text, last_line, day_of, day_state, numbered, run_text, DayIsRun}
use Rattle.lines.specs.Kept.{kept_bytes}
use Rattle.replay.specs.declared.day.Day.{Day}
use Rattle.replay.specs.declared.day.Fed.{Fed}
use Rattle.replay.specs.Pieces.{Stream, start, next_byte, byte_text, after, text_of, last_bytes, end_text, ended, written_by, after_all, joined, AnyCutting, stream_of, Advanced, Feeding, nothing_fed, then_fed, FedIsDay}
use Rattle.replay.proofs.LineRun.{line_fits}
use Rattle.replay.proofs.StreamLaws.{after_append, text_append, begun, end_byte, end_text_lem, more_byte, more_text, over_after, over_text}

-- ---- what is still to come after n lines

abbrev left : ℕ → ℕ
left n = last_line - n

exact : (x : Exchange) (n : ℕ) (l : List ℕ) → line_request_of x (record { number = n; room = length (line_text x n l); line = l }) ≡ line_outcome x l
exact x n l = line_fits x (record { number = n; room = length (line_text x n l); line = l }) (le_refl (length (line_text x n l)))

-- the answers to lines, and the state that they leave
pub record Comes (x : Exchange) (n : ℕ) (ls : List (List ℕ)) (text : List ℕ) (y : Exchange) : Type 0 where
  pub text_is : text ≡ answer_text x n (take (left n) ls)
  pub state_is : y ≡ state_after_lines line_request_of x (numbered x n (take (left n) ls))

comes_as : (x : Exchange) (n : ℕ) (ls ls' : List (List ℕ)) (text text' : List ℕ) (y y' : Exchange) → Comes x n ls text y → ls ≡ ls' → text' ≡ text → y' ≡ y
    → Comes x n ls' text' y'
comes_as x n ls ls' text text' y y' c e f g =
    record {
      text_is = f ∙ c.text_is ∙ ap (λ (l : List (List ℕ)). answer_text x n (take (left n) l)) e;
      state_is = g ∙ c.state_is ∙ ap (λ (l : List (List ℕ)). state_after_lines line_request_of x (numbered x n (take (left n) l))) e;
    }

comes_line : (x : Exchange) (n : ℕ) (p : List ℕ) (ls : List (List ℕ)) (text : List ℕ) (y : Exchange) → n < last_line → Comes (line_outcome x p).exchange (n + 1) ls text y
    → Comes x n (p ∷ ls) (line_text x (n + 1) p ++ text) y
unfolding state_after_lines
comes_line x n p ls text y h c =
    let e : suc (left (n + 1)) ≡ left n = omega arith in
    let more : List (List ℕ) = take (left (n + 1)) ls in
    record {
      text_is =
          ap (λ (t : List ℕ). line_text x (n + 1) p ++ t) c.text_is ∙ ap (λ (k : ℕ). answer_text x n (take k (p ∷ ls))) e;
      state_is =
          c.state_is
          ∙ ap (λ (o : Outcome). state_after_lines line_request_of o.exchange (numbered (line_outcome x p).exchange (n + 1) more)) (sym (exact x (n + 1) p))
          ∙ ap (λ (k : ℕ). state_after_lines line_request_of x (numbered x n (take k (p ∷ ls)))) e;
    }

comes_over : (x : Exchange) (n : ℕ) (ls : List (List ℕ)) → last_line ≤ n → Comes x n ls [] x
unfolding state_after_lines
comes_over x n ls h =
    let e : 0 ≡ left n = sym (sub-eq-zero_of_le h) in
    record {
      text_is = ap (λ (k : ℕ). answer_text x n (take k ls)) e;
      state_is = ap (λ (k : ℕ). state_after_lines line_request_of x (numbered x n (take k ls))) e;
    }

take_none : (k : ℕ) → [] ≡ take {A = List ℕ} k []
take_none zero = refl
take_none (suc k) = refl

comes_none : (x : Exchange) (n : ℕ) → Comes x n [] [] x
unfolding state_after_lines
comes_none x n =
    record {
      text_is = ap (answer_text x n) (take_none (left n));
      state_is = ap (λ (l : List (List ℕ)). state_after_lines line_request_of x (numbered x n l)) (take_none (left n));
    }

-- ---- the input's end

pub one_line : (b : ℕ) (p : List ℕ) → on_all (b ∷ p) [] ≡ (b ∷ p) ∷ []
one_line b [] = refl
one_line b (c ∷ p) = ap (on_first b) (one_line c p)

last : (x : Exchange) (n : ℕ) (p : List ℕ) → Comes x n (on_all p []) (end_text (begun x n p)) (ended (begun x n p)).exchange
last x n [] = comes_none x n
last x n (b ∷ p) =
    by_order n last_line
    (λ h.
    comes_as x n _ _ _ _ _ _
    (comes_line x n (b ∷ p) [] [] _ h (comes_none (line_outcome x (b ∷ p)).exchange (n + 1)))
    (sym (one_line b p))
    (ap (λ (t : List ℕ). t ++ []) (end_text_lem x n (b ∷ p) h 10 refl))
    (ap (λ (s : Stream). s.exchange) (end_byte x n (b ∷ p) h 10 refl)))
    (λ h.
    comes_as x n _ _ _ _ _ _
    (comes_over x n (on_all (b ∷ p) []) h)
    refl
    (over_text (begun x n (b ∷ p)) h (10 ∷ []))
    (ap (λ (s : Stream). s.exchange) (over_after (begun x n (b ∷ p)) h (10 ∷ []))))

-- ---- the whole input, after the bytes p of a line

abbrev written : Stream → List ℕ → List ℕ
written s input = text_of s input ++ end_text (after s input)

first_byte : (s : Stream) (b : ℕ) (bs : List ℕ) → written s (b ∷ bs) ≡ byte_text s b ++ written (next_byte s b) bs
first_byte s b bs = append_assoc (byte_text s b) (text_of (next_byte s b) bs) (end_text (after (next_byte s b) bs))

-- the lines of an input that begins with byte 10, or with another
pub lines_end : (p : List ℕ) (b : ℕ) (bs : List ℕ) → eqb b 10 ≡ true → p ∷ lines_of bs ≡ on_all p (lines_of (b ∷ bs))
lines_end p b bs e = rw e (sym (all_cons p [] (lines_of bs) ∙ ap (λ (l : List ℕ). l ∷ lines_of bs) (append-nil p)))

pub lines_more : (p : List ℕ) (b : ℕ) (bs : List ℕ) → eqb b 10 ≡ false → on_all (p ++ (b ∷ [])) (lines_of bs) ≡ on_all p (lines_of (b ∷ bs))
lines_more p b bs e = rw e (all_snoc p b (lines_of bs))

pub whole : (input p : List ℕ) (x : Exchange) (n : ℕ)
    → Comes x n (on_all p (lines_of input)) (written (begun x n p) input) (ended (after (begun x n p) input)).exchange
whole [] p x n = last x n p
whole (b ∷ bs) p x n =
    by_order n last_line
    (λ h.
    by_test (eqb b 10)
    (λ e.
    comes_as x n _ _ _ _ _ _
    (comes_line x n p (lines_of bs) _ _ h (whole bs [] (line_outcome x p).exchange (n + 1)))
    (lines_end p b bs e)
    (first_byte (begun x n p) b bs
    ∙ ap (λ (t : List ℕ). t ++ written (next_byte (begun x n p) b) bs) (end_text_lem x n p h b e)
    ∙ ap (λ (s : Stream). line_text x (n + 1) p ++ written s bs) (end_byte x n p h b e))
    (ap (λ (s : Stream). (ended (after s bs)).exchange) (end_byte x n p h b e)))
    (λ e.
    comes_as x n _ _ _ _ _ _
    (whole bs (p ++ (b ∷ [])) x n)
    (lines_more p b bs e)
    (first_byte (begun x n p) b bs
    ∙ ap (λ (t : List ℕ). t ++ written (next_byte (begun x n p) b) bs) (more_text x n p h b e)
    ∙ ap (λ (s : Stream). written s bs) (more_byte x n p h b e))
    (ap (λ (s : Stream). (ended (after s bs)).exchange) (more_byte x n p h b e))))
    (λ h.
    let s = begun x n p in
    comes_as x n _ _ _ _ _ _
    (comes_over x n (on_all p (lines_of (b ∷ bs))) h)
    refl
    (ap (λ (t : List ℕ). t ++ end_text (after s (b ∷ bs))) (over_text s h (b ∷ bs))
    ∙ ap end_text (over_after s h (b ∷ bs))
    ∙ over_text s h (last_bytes (take kept_bytes p)))
    (ap (λ (v : Stream). (ended v).exchange) (over_after s h (b ∷ bs)) ∙ ap (λ (v : Stream). v.exchange) (over_after s h (last_bytes (take kept_bytes p)))))

day_is : (input : List ℕ) → header ++ written start input ≡ day_of input
unfolding day_of
day_is input = ap (λ (t : List ℕ). header ++ t) (whole input [] fresh_exchange 0).text_is

day_state_lem : (input : List ℕ) → (ended (after start input)).exchange ≡ day_state input
day_state_lem input = (whole input [] fresh_exchange 0).state_is

-- ---- cut anywhere

cut : (s : Stream) (a b : List ℕ) → written s (a ++ b) ≡ text_of s a ++ written (after s a) b
cut s a b =
    ap (λ (t : List ℕ). t ++ end_text (after s (a ++ b))) (text_append s a b)
    ∙ append_assoc (text_of s a) (text_of (after s a) b) _
    ∙ ap (λ (t : Stream). text_of s a ++ (text_of (after s a) b ++ end_text t)) (after_append s a b)

all_pieces : (s : Stream) (ps : List (List ℕ)) → written_by s ps ≡ written s (joined ps)
all_pieces s [] = refl
all_pieces s (p ∷ ps) = ap (λ (t : List ℕ). text_of s p ++ t) (all_pieces (after s p) ps) ∙ sym (cut s p (joined ps))

all_after : (s : Stream) (ps : List (List ℕ)) → after_all s ps ≡ ended (after s (joined ps))
all_after s [] = refl
all_after s (p ∷ ps) = all_after (after s p) ps ∙ ap ended (sym (after_append s p (joined ps)))

pub any_cutting : AnyCutting
any_cutting ps =
    record {
      text = ap (λ (t : List ℕ). header ++ t) (all_pieces start ps) ∙ day_is (joined ps);
      state = ap (λ (s : Stream). s.exchange) (all_after start ps) ∙ day_state_lem (joined ps);
    }

-- ---- the day is a run of lines

all_written : (x : Exchange) (q : LineRequest) → length (line_text x q.number q.line) ≤ q.room → line_text x q.number q.line ≡ written_text x q
all_written x q h = rw (le-ltb _ _ h)

runs : (x : Exchange) (n : ℕ) (ls : List (List ℕ)) → answer_text x n ls ≡ run_text x (numbered x n ls)
runs x n [] = refl
runs x n (l ∷ ls) =
    let q : LineRequest = record { number = n + 1; room = length (line_text x (n + 1) l); line = l } in
    ap (λ (t : List ℕ). line_text x (n + 1) l ++ t) (runs (line_outcome x l).exchange (n + 1) ls)
    ∙ ap (λ (o : Outcome). line_text x (n + 1) l ++ run_text o.exchange (numbered (line_outcome x l).exchange (n + 1) ls)) (sym (exact x (n + 1) l))
    ∙ ap (λ (t : List ℕ). t ++ run_text (line_request_of x q).exchange (numbered (line_outcome x l).exchange (n + 1) ls)) (all_written x q (le_refl _))

pub day_is_run : DayIsRun
unfolding day_of
day_is_run input = ap (λ (t : List ℕ). header ++ t) (runs fresh_exchange 0 (take last_line (lines_of input)))

-- ---- fed in pieces, with any buffers

-- what one feeding wrote
fed_text : (d : Day) (input out out' : List ℕ) (r : Fed) → Advanced d input out out' r → take r.wrote out' ≡ text_of (stream_of d) (take r.used input)
fed_text d input out out' r a =
    ap (take r.wrote) a.text ∙ take_at (text_of (stream_of d) (take r.used input)) (drop r.wrote out) r.wrote (sym a.count)

record Fed_so (d d' : Day) (input text : List ℕ) : Type 0 where
  pub text_is : text ≡ text_of (stream_of d) input
  pub state_is : stream_of d' ≡ after (stream_of d) input

fed_more : (d d' : Day) (piece more text out out' : List ℕ) (r : Fed) → Advanced d piece out out' r → Fed_so r.day d' (drop r.used piece ++ more) text
    → Fed_so d d' (piece ++ more) (take r.wrote out' ++ text)
fed_more d d' piece more text out out' r a f =
    let front : List ℕ = take r.used piece in
    let rest : List ℕ = drop r.used piece ++ more in
    let all : piece ++ more ≡ front ++ rest =
    ap (λ (l : List ℕ). l ++ more) (sym (take-append-drop r.used piece)) ∙ append_assoc front (drop r.used piece) more in
    record {
      text_is =
          ap (λ (t : List ℕ). t ++ text) (fed_text d piece out out' r a)
          ∙ ap (λ (t : List ℕ). text_of (stream_of d) front ++ t) (f.text_is ∙ ap (λ (s : Stream). text_of s rest) a.state)
          ∙ sym (ap (text_of (stream_of d)) all ∙ text_append (stream_of d) front rest);
      state_is =
          f.state_is
          ∙ ap (λ (s : Stream). after s rest) a.state
          ∙ sym (ap (after (stream_of d)) all ∙ after_append (stream_of d) front rest);
    }

fed_so : {d d' : Day} {input text : List ℕ} → Feeding d input text d' → Fed_so d d' input text
fed_so (nothing_fed d) = record { text_is = refl; state_is = refl }
fed_so (then_fed d d' piece more text out out' r a f) = fed_more d d' piece more text out out' r a (fed_so f)

pub fed_is_day : FedIsDay
fed_is_day d₀ d input text out out' r e f a all =
    let g : Fed_so d₀ d input text = fed_so f in
    let last : take r.used (last_bytes (stream_of d).line) ≡ last_bytes (stream_of d).line =
    take_all r.used (last_bytes (stream_of d).line) (omega (arith, all)) in
    let here : stream_of d ≡ after start input = g.state_is ∙ ap (λ (s : Stream). after s input) e in (
      ap (λ (t : List ℕ). header ++ (t ++ take r.wrote out')) (g.text_is ∙ ap (λ (s : Stream). text_of s input) e)
          ∙ ap (λ (t : List ℕ). header ++ (text_of start input ++ t))
          (fed_text d (last_bytes (stream_of d).line) out out' r a ∙ ap (text_of (stream_of d)) last ∙ ap end_text here)
          ∙ day_is input,
      ap (λ (s : Stream). s.exchange) (a.state ∙ ap (after (stream_of d)) last ∙ ap ended here) ∙ day_state_lem input,
    )
