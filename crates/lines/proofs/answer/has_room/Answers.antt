-- `lines::answer::has_room` meets its contract: no line is longer than 35 bytes, and the digits of a shorter one are counted.
use mathlib.Core.Path.{◌≡◌, sym, ap, subst, ◌∙◌}
use Prim.Native.Nat.{ℕ, ◌+◌, ◌≤◌, ◌<◌, ◌^◌}
use native.Mathlib.Omega.{arith}
use borrow.Author.Tests.{le-leb}
use lib.Dec.{leb}
use lib.ListN.{length}
use Rattle.units.specs.Decimal.{digits}
use Rattle.model.specs.Answers.{Answer, first_of, second_of, answer_line}
use Rattle.lines.specs.AnswerText.{longest_answer}
use Rattle.lines.proofs.AnswerLines.{line_length, answer_bound}
use Rattle.lines.proofs.answer.has_room.Goals as goal

-- no line is longer, since each number fits 32 bits
bound : (n first second : ℕ) (a : Answer) → n < 2 ^ 32 → first ≡ first_of a → first < 2 ^ 32 → second ≡ second_of a → second < 2 ^ 32
    → length (answer_line n a) ≤ longest_answer
bound n first second a hn ef hf es hs =
    answer_bound n a hn (subst (λ (k : ℕ). k < 2 ^ 32) ef hf) (subst (λ (k : ℕ). k < 2 ^ 32) es hs)

pub returns-then-room-ge-LONGEST_ANSWER : goal.returns-then-room-ge-LONGEST_ANSWER
returns-then-room-ge-LONGEST_ANSWER c =
    let short = bound c.args.number _ _ c.args.a c.ranges.number.fits c.first-first.ensures c.first-first.type_inv c.second-second.ensures c.second-second.type_inv in
    let fits : length (answer_line c.args.number c.args.a) ≤ c.args.room = omega (arith, short, c.if-room-ge-LONGEST_ANSWER.true) in
    record { value = sym (le-leb _ _ fits); a_len_bound = short }

count : {m n : ℕ} → m ≡ n → length (digits m) ≡ length (digits n)
count e = ap (λ (k : ℕ). length (digits k)) e

pub returns : goal.returns
returns c =
    let counted : c.digit_count.result + c.digit_count-2.result + c.digit_count-3.result + c.digit_count-4.result + 4
    ≡ length (answer_line c.args.number c.args.a) =
    omega (
      arith,
      line_length c.args.number c.args.a,
      c.digit_count.ensures.value,
      c.digit_count-2.ensures.value ∙ count c.code-code.ensures,
      c.digit_count-3.ensures.value ∙ count c.first-first.ensures,
      c.digit_count-4.ensures.value ∙ count c.second-second.ensures,
    ) in
    record {
      value = ap (λ (k : ℕ). leb k c.args.room) counted;
      a_len_bound = bound c.args.number _ _ c.args.a c.ranges.number.fits c.first-first.ensures c.first-first.type_inv c.second-second.ensures c.second-second.type_inv;
    }
