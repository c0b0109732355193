-- `lines::answer::write_refused` meets its contract: a field is written, and four bytes are stored after it.
use mathlib.Core.Path.{◌≡◌, refl, ap, ◌∙◌}
use mathlib.Core.List.{List, [], ◌∷◌, ◌++◌, append_assoc}
use Prim.Native.Nat.{ℕ, suc, ◌+◌, ◌≤◌}
use native.Mathlib.Omega.{arith}
use lib.ListN.{length, set}
use Rattle.units.specs.Decimal.{digits}
use Rattle.decimal.specs.Buffer.{put_at}
use Rattle.decimal.proofs.Put.{put_bytes, Run, run_one, run_more}
use Rattle.lines.specs.AnswerText.{refused_text}
use Rattle.lines.proofs.AnswerLines.{field, field_length, refused_length}
use Rattle.lines.proofs.answer.write_refused.Goals as goal

-- the four bytes
stored : (xs : List ℕ) (at a b d e : ℕ) → at + 4 ≤ length xs
    → set (set (set (set xs at a) (at + 1) b) (at + 2) d) (at + 3) e ≡ put_at xs at (a ∷ b ∷ d ∷ e ∷ [])
stored xs at a b d e h =
    let one : at + 1 ≡ suc at = omega arith in
    let two : at + 2 ≡ suc (suc at) = omega arith in
    let three : at + 3 ≡ suc (suc (suc at)) = omega arith in
    rw (one, two, three) (put_bytes xs (a ∷ b ∷ d ∷ e ∷ []) at h)

pub returns-clause-out_after : goal.returns-clause-out_after
returns-clause-out_after c =
    let f = c.write_field-next in
    let xs = c.args.out.now in
    let at = c.args.at in
    let code = c.args.code in
    let bytes : List ℕ = 48 ∷ 44 ∷ 48 ∷ 10 ∷ [] in
    let l = field_length code 44 in
    -- the room for the four bytes, once the field is written
    let room : f.result + 4 ≤ length f.new.out = omega (arith, refused_length code, c.requires, f.ensures.value, f.auto.out) in
    let r1 : Run xs at (field code 44) f.new.out f.result = run_one xs at _ _ _ f.ensures.out_after (omega (arith, f.ensures.value)) in
    let r2 : Run xs at (field code 44 ++ bytes) _ (f.result + 4) =
    run_more xs at _ _ bytes _ _ _ r1 (omega (arith, refused_length code, c.requires)) (stored f.new.out f.result 48 44 48 10 room) refl in
    let is : field code 44 ++ bytes ≡ refused_text code = append_assoc (digits code) (44 ∷ []) bytes in
    r2.text ∙ ap (λ (t : List ℕ). put_at xs at t) is
