-- A day stops after line 4,294,967,295.
use mathlib.Core.Path.{◌≡◌, refl, sym, ap, ◌∙◌}
use mathlib.Core.List.{List, [], ◌∷◌, ◌++◌, map}
use Prim.Native.Nat.{ℕ, ◌+◌, ◌≤◌, min}
use native.Mathlib.Omega.{arith}
use lib.Dec.{eqb}
use lib.ListN.{length, take, length-take}
use Rattle.units.proofs.Cases.{by_test, by_order}
use Rattle.fields.proofs.Scan.{on_all}
use Rattle.model.specs.declared.state.Exchange.{Exchange}
use Rattle.model.specs.State.{fresh_exchange}
use Rattle.replay.specs.Lines.{LineRequest, line_outcome}
use Rattle.replay.specs.Days.{lines_of, day_of, numbered}
use Rattle.replay.specs.Pieces.{Stream, after, last_bytes, ended}
use Rattle.replay.specs.LastLine.{count_from, DayStops, StreamStops, LastLine}
use Rattle.replay.proofs.StreamLaws.{begun, end_byte, more_byte, over_after}
use Rattle.replay.proofs.DayText.{one_line, lines_end, lines_more, whole}

-- ---- the numbers of lines

numbers : (x : Exchange) (n : ℕ) (ls : List (List ℕ)) → map (λ (q : LineRequest). q.number) (numbered x n ls) ≡ count_from (n + 1) (length ls)
numbers x n [] = refl
numbers x n (l ∷ ls) = ap (λ (ks : List ℕ). (n + 1) ∷ ks) (numbers (line_outcome x l).exchange (n + 1) ls)

day_stops : (input : List ℕ) → DayStops input
unfolding day_of
day_stops input =
    record {
      text = refl;
      numbers = numbers fresh_exchange 0 (take 4294967295 (lines_of input)) ∙ ap (count_from 1) (length-take 4294967295 (lines_of input));
    }

-- ---- how many are answered

-- at the last line, or after it
over : (x : Exchange) (n : ℕ) (p input : List ℕ) → n ≤ 4294967295 → 4294967295 ≤ n → (k : ℕ) → (ended (after (begun x n p) input)).done ≡ min 4294967295 (n + k)
over x n p input h l k =
    let s = begun x n p in
    ap (λ (v : Stream). (ended v).done) (over_after s l input) ∙ ap (λ (v : Stream). v.done) (over_after s l (last_bytes s.line)) ∙ omega (arith, h, l)

answered : (input p : List ℕ) (x : Exchange) (n : ℕ) → n ≤ 4294967295
    → (ended (after (begun x n p) input)).done ≡ min 4294967295 (n + length (on_all p (lines_of input)))
answered [] [] x n h = omega (arith, h)
answered [] (b ∷ p) x n h =
    by_order n 4294967295
    (λ l.
    ap (λ (s : Stream). s.done) (end_byte x n (b ∷ p) l 10 refl)
    ∙ omega (arith, l)
    ∙ ap (λ (ls : List (List ℕ)). min 4294967295 (n + length ls)) (sym (one_line b p)))
    (λ l. over x n (b ∷ p) [] h l _)
answered (b ∷ bs) p x n h =
    by_order n 4294967295
    (λ l.
    by_test (eqb b 10)
    (λ e.
    ap (λ (s : Stream). (ended (after s bs)).done) (end_byte x n p l b e)
    ∙ answered bs [] (line_outcome x p).exchange (n + 1) (omega (arith, l))
    ∙ omega arith
    ∙ ap (λ (ls : List (List ℕ)). min 4294967295 (n + length ls)) (lines_end p b bs e))
    (λ e.
    ap (λ (s : Stream). (ended (after s bs)).done) (more_byte x n p l b e)
    ∙ answered bs (p ++ (b ∷ [])) x n h
    ∙ ap (λ (ls : List (List ℕ)). min 4294967295 (n + length ls)) (lines_more p b bs e)))
    (λ l. over x n p (b ∷ bs) h l _)

stream_stops : (x : Exchange) (n : ℕ) (input : List ℕ) → StreamStops x n input
stream_stops x n input =
    record { text = (whole input [] x n).text_is; state = (whole input [] x n).state_is; done = λ h. answered input [] x n h }

pub last_line_lem : LastLine
last_line_lem = (day_stops, stream_stops)
