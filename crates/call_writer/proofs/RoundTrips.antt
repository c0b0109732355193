-- A call written at a place is read there again, and a line that was read is the line that its call is written as.
use mathlib.Core.Path.{◌≡◌, refl, sym, ap, subst, ◌∙◌}
use mathlib.Core.List.{List, [], ◌∷◌, ◌++◌, append_assoc}
use Prim.Native.Nat.{ℕ, ◌+◌, ◌-◌, ◌≤◌, ◌<◌}
use native.Mathlib.Omega.{arith}
use lib.ListN.{length, take, drop, length-append, length-drop, take-append-drop}
use lib.Seq.{length-take-le, drop_at, drop-drop}
use lib.Dec.{eqb}
use borrow.Author.Tests.{lt-ltb, le-ltb}
use Rattle.units.proofs.Cases.{by_test, by_order}
use Rattle.decimal.specs.Buffer.{put_at, put_from}
use Rattle.decimal.proofs.Put.{from_fits, from_short}
use Rattle.model.specs.declared.call.Call.{Call}
use Rattle.model.specs.Kinds.{numbers_of_call}
use Rattle.lines.specs.CallLines.{line_in, line_at}
use Rattle.lines.specs.CallText.{line_of_call, call_line, Small}
use Rattle.lines.proofs.CallLaws.{line_ten, whole_line}
use Rattle.lines.proofs.RoundTrip.{call_round, one_line, line_round}
use Rattle.call_writer.specs.RoundTrips.{LineOf, WrittenRead, ReadWritten, WrittenOver}

-- ---- written, then read

-- a line ends at the byte 10 after it
line_ended : (l rest : List ℕ) → line_in (line_in l ++ (10 ∷ rest)) ≡ line_in l
line_ended [] rest = refl
line_ended (b ∷ l) rest = by_test (eqb b 10) (λ t. rw t) (λ t. rw (t, t, line_ended l rest))

-- so does a call's line, which has none
call_ended : (c : Call) → Small (numbers_of_call c) → (rest : List ℕ) → line_in (line_of_call c ++ (10 ∷ rest)) ≡ line_of_call c
call_ended c s rest = subst (λ (l : List ℕ). line_in (l ++ (10 ∷ rest)) ≡ l) (one_line c s) (line_ended (line_of_call c) rest)

-- bytes from a place on, after text was put there
put_from_lem : (out text : List ℕ) (at : ℕ) → at + length text ≤ length out → drop at (put_from out at text) ≡ text ++ drop (at + length text) out
unfolding put_at
put_from_lem out text at h =
    ap (drop at) (from_fits out text at h) ∙ drop_at (take at out) _ at (length-take-le at out (omega arith))

pub written_read : WrittenRead
unfolding line_at
written_read out at c s h =
    let rest = drop (at + length (call_line c)) out in
    let line : line_in (drop at (put_from out at (call_line c))) ≡ line_of_call c =
    ap line_in (put_from_lem out (call_line c) at h ∙ append_assoc (line_of_call c) (10 ∷ []) rest) ∙ call_ended c s rest in
    rw (line, call_round c s)

-- ---- read, then written

-- bytes whose first line has its byte 10: the line, byte 10, and what follows
with_ten : (l : List ℕ) → length (line_in l) < length l → l ≡ (line_in l ++ (10 ∷ [])) ++ drop (length (line_in l) + 1) l
with_ten l h = sym (take-append-drop (length (line_in l) + 1) l) ∙ ap (λ (x : List ℕ). x ++ drop (length (line_in l) + 1) l) (line_ten l h)

pub read_written : ReadWritten
unfolding line_at
read_written bytes from c e =
    let l = drop from bytes in
    let size = length (line_in l) in
    let line : line_of_call c ≡ line_in l = line_round (line_in l) c e in
    let long : length l ≡ length bytes - from = length-drop from bytes in
    let next : from + (size + 1) ≡ from + size + 1 = omega arith in
    let rest : drop (size + 1) l ≡ drop (from + size + 1) bytes = drop-drop (size + 1) from bytes ∙ ap (λ (k : ℕ). drop k bytes) next in
    record {
      ends = ap (λ (x : List ℕ). from + length x) (sym line);
      line =
          by_order (from + size) (length bytes)
          (λ h.
          rw (lt-ltb _ _ h)
          (with_ten l (omega arith)
          ∙ ap (λ (x : List ℕ). (line_in l ++ (10 ∷ [])) ++ x) rest
          ∙ ap (λ (x : List ℕ). (x ++ (10 ∷ [])) ++ drop (from + size + 1) bytes) (sym line)))
          (λ h. rw (le-ltb _ _ h) (sym (line ∙ whole_line l (omega arith))));
    }

pub written_over : WrittenOver
unfolding put_at
written_over bytes from c e =
    let end = (line_at bytes from).end in
    let at : LineOf bytes from c end = read_written bytes from c e in
    let size : from + length (call_line c) ≡ end + 1 = omega (arith, at.ends, length-append (line_of_call c) (10 ∷ [])) in
    by_order end (length bytes)
    (λ h.
    let line : drop from bytes ≡ call_line c ++ drop (end + 1) bytes = rw (lt-ltb _ _ h) at at.line in
    from_fits bytes (call_line c) from (omega arith)
    ∙ ap (λ (k : ℕ). take from bytes ++ (call_line c ++ drop k bytes)) size
    ∙ ap (λ (l : List ℕ). take from bytes ++ l) (sym line)
    ∙ take-append-drop from bytes)
    (λ h. from_short bytes (call_line c) from (omega arith))
