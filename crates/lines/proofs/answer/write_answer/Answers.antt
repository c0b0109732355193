-- `lines::answer::write_answer` meets its contract: the number is written, and then what follows it by the answer's case.
use mathlib.Core.Path.{◌≡◌, sym, ap, ◌∙◌}
use mathlib.Core.Bool.{false}
use mathlib.Core.List.{List, ◌++◌}
use Prim.Native.Nat.{ℕ, ◌+◌, ◌≤◌, ◌<◌}
use native.Mathlib.Omega.{arith}
use borrow.Author.Tests.{leb-true, leb-false}
use lib.Dec.{leb}
use lib.ListN.{length, length-append}
use Rattle.units.specs.Decimal.{digits}
use Rattle.decimal.specs.Buffer.{put_at, put_into, put_count}
use Rattle.decimal.proofs.Put.{put_short, count_short, Run, run_one, run_more, run_all}
use Rattle.model.specs.Answers.{answer_line}
use Rattle.lines.proofs.AnswerLines.{field, field_length, accepted_line, refused_line, line_length}
use Rattle.lines.proofs.answer.write_answer.Goals as goal

-- the number and its comma, once they are written
numbered : (xs y : List ℕ) (n p : ℕ) → p ≡ 0 + length (digits n) + 1 → y ≡ put_at xs 0 (field n 44) → Run xs 0 (field n 44) y p
numbered xs y n p l e = run_one xs 0 (field n 44) y p e (omega (arith, field_length n 44, l))

-- text after the line's number: the room that is left for it, and the whole line once it is put
module _ (xs : List ℕ) (n : ℕ) (line y t : List ℕ) (p : ℕ) (r : Run xs 0 (field n 44) y p) (is : field n 44 ++ t ≡ line) (room : length line ≤ length xs) where
  long : length line ≡ length (field n 44) + length t
  long = ap length (sym is) ∙ length-append (field n 44) t

  left : length y ≡ length xs → p + length t ≤ length y
  left e = omega (arith, long, r.place)

  whole : (z : List ℕ) (q : ℕ) → z ≡ put_at y p t → q ≡ p + length t → (q ≡ put_count xs line) × (z ≡ put_into xs line)
  whole z q e l = run_all xs line z q (rw is at (run_more xs 0 (field n 44) y t z p q r (omega (arith, long)) e l)) room

pub returns-then-not-has_room : goal.returns-then-not-has_room
returns-then-not-has_room c =
    let line = answer_line c.args.number c.args.a in
    let no : leb (length line) (length c.args.out.now) ≡ false = sym c.has_room.ensures.value ∙ c.if-not-has_room.true in
    let short : length c.args.out.now < length line = leb-false _ _ no in
    record { value = sym (count_short _ _ short); out_after = sym (put_short _ _ short); a_len_bound = c.has_room.ensures.a_len_bound }

pub write_field-next-requires : goal.write_field-next-requires
write_field-next-requires c =
    let fits = leb-true _ _ (sym c.has_room.ensures.value ∙ c.if-not-has_room.false) in
    omega (arith, fits, line_length c.args.number c.args.a)

pub write_accepted-requires : goal.write_accepted-requires
write_accepted-requires c =
    let w = c.write_field-next in
    let fits = leb-true _ _ (sym c.has_room.ensures.value ∙ c.if-not-has_room.false) in
    left c.args.out.now c.args.number _ _ _ _ (numbered _ _ _ _ w.ensures.value w.ensures.out_after)
    (accepted_line c.args.number c.in-Ok.first c.in-Ok.second c.args.a c.in-Ok.is) fits w.auto.out

pub write_refused-requires : goal.write_refused-requires
write_refused-requires c =
    let w = c.write_field-next in
    let fits = leb-true _ _ (sym c.has_room.ensures.value ∙ c.if-not-has_room.false) in
    left c.args.out.now c.args.number _ _ _ _ (numbered _ _ _ _ w.ensures.value w.ensures.out_after)
    (refused_line c.args.number _ _ c.args.a c.refusal_code.ensures c.in-Err.is) fits w.auto.out

pub returns-in-Ok : goal.returns-in-Ok
returns-in-Ok c =
    let w = c.write_field-next in
    let here = c.write_accepted in
    let fits = leb-true _ _ (sym c.has_room.ensures.value ∙ c.if-not-has_room.false) in
    let line = whole c.args.out.now c.args.number _ _ _ _ (numbered _ _ _ _ w.ensures.value w.ensures.out_after)
    (accepted_line c.args.number c.in-Ok.first c.in-Ok.second c.args.a c.in-Ok.is) fits
    here.new.out here.result here.ensures.out_after here.ensures.value in
    record { value = line.0; out_after = line.1; a_len_bound = c.has_room.ensures.a_len_bound }

pub returns-in-Err : goal.returns-in-Err
returns-in-Err c =
    let w = c.write_field-next in
    let here = c.write_refused in
    let fits = leb-true _ _ (sym c.has_room.ensures.value ∙ c.if-not-has_room.false) in
    let line = whole c.args.out.now c.args.number _ _ _ _ (numbered _ _ _ _ w.ensures.value w.ensures.out_after)
    (refused_line c.args.number _ _ c.args.a c.refusal_code.ensures c.in-Err.is) fits
    here.new.out here.result here.ensures.out_after here.ensures.value in
    record { value = line.0; out_after = line.1; a_len_bound = c.has_room.ensures.a_len_bound }
