-- `lines::answer::write_accepted` meets its contract: two bytes are stored, and two fields written after them.
use mathlib.Core.Path.{◌≡◌, refl, ap, ◌∙◌}
use mathlib.Core.List.{List, [], ◌∷◌, ◌++◌, append_assoc}
use Prim.Native.Nat.{ℕ, ◌+◌, ◌≤◌}
use native.Mathlib.Numerals.{add-one}
use native.Mathlib.Omega.{arith}
use lib.ListN.{length, set, length-append}
use Rattle.units.specs.Decimal.{digits}
use Rattle.decimal.specs.Buffer.{put_at}
use Rattle.decimal.proofs.Put.{put_bytes, Run, run_one, run_more}
use Rattle.lines.specs.AnswerText.{accepted_text}
use Rattle.lines.proofs.AnswerLines.{field, field_length, accepted_length}
use Rattle.lines.proofs.answer.write_accepted.Goals as goal

-- the two bytes
stored : (xs : List ℕ) (at a b : ℕ) → at + 2 ≤ length xs → set (set xs at a) (at + 1) b ≡ put_at xs at (a ∷ b ∷ [])
stored xs at a b h = rw (add-one at) (put_bytes xs (a ∷ b ∷ []) at h)

pub returns-clause-out_after : goal.returns-clause-out_after
returns-clause-out_after c =
    let f1 = c.write_field-next in
    let f2 = c.write_field in
    let xs = c.args.out.now in
    let at = c.args.at in
    let first = c.args.first in
    let second = c.args.second in
    let room : at + length (digits first) + length (digits second) + 4 ≤ length xs = omega (arith, accepted_length first second, c.requires) in
    let bytes : List ℕ = 48 ∷ 44 ∷ [] in
    let l1 = field_length first 44 in
    let l2 = field_length second 10 in
    let l = length-append bytes (field first 44) in
    let r1 : Run xs at bytes _ (at + 2) = run_one xs at bytes _ _ (stored xs at 48 44 (omega arith)) refl in
    let r2 : Run xs at (bytes ++ field first 44) f1.new.out f1.result =
    run_more xs at _ _ _ _ _ _ r1 (omega arith) f1.ensures.out_after (omega (arith, f1.ensures.value)) in
    let r3 : Run xs at ((bytes ++ field first 44) ++ field second 10) f2.new.out f2.result =
    run_more xs at _ _ _ _ _ _ r2 (omega arith) f2.ensures.out_after (omega (arith, f2.ensures.value)) in
    let is : (bytes ++ field first 44) ++ field second 10 ≡ accepted_text first second = simp append_assoc in
    r3.text ∙ ap (λ (t : List ℕ). put_at xs at t) is
