-- `write_posted` meets its contract.
use Rattle.std.proofs.Common.{◌≡◌, ℕ, ◌+◌, List, [], ◌∷◌, ◌++◌, length, length-append, append_assoc, arith, ap, ◌∙◌}
use Rattle.units.specs.Decimal.{digits}
use Rattle.decimal.specs.Buffer.{put_at}
use Rattle.decimal.proofs.Digits.{digits_bound}
use Rattle.decimal.proofs.Put.{Run, run_one, run_more}
use Rattle.postings.specs.Lines.{posted_text}
use Rattle.postings.proofs.write_posted.Goals as goal

pub returns-clause-out_after : goal.returns-clause-out_after
returns-clause-out_after c =
    let xs = c.args.out.now in
    let f1 = c.write_field-after_number in
    let f2 = c.write_field-after_code in
    let f3 = c.write_field in
    let dn = digits c.args.number in
    let dk = digits c.args.code in
    let da = digits c.args.amount in
    let n : List ℕ = dn ++ (44 ∷ []) in
    let k : List ℕ = dk ++ (44 ∷ []) in
    let a : List ℕ = da ++ (10 ∷ []) in
    let ln : length n ≡ length dn + 1 = length-append dn (44 ∷ []) in
    let lk : length k ≡ length dk + 1 = length-append dk (44 ∷ []) in
    let la : length a ≡ length da + 1 = length-append da (10 ∷ []) in
    let lnk = length-append n k in
    let bn = digits_bound c.args.number (omega arith) in
    let bk = digits_bound c.args.code (omega arith) in
    let ba = digits_bound c.args.amount (omega arith) in
    let r1 : Run xs 0 n f1.new.out f1.result = run_one xs 0 n _ _ f1.ensures.out_after (omega (arith, f1.ensures.value)) in
    let r2 : Run xs 0 (n ++ k) f2.new.out f2.result = run_more xs 0 _ _ _ _ _ _ r1 (omega arith) f2.ensures.out_after (omega (arith, f2.ensures.value)) in
    let r3 : Run xs 0 ((n ++ k) ++ a) f3.new.out f3.result = run_more xs 0 _ _ _ _ _ _ r2 (omega arith) f3.ensures.out_after (omega (arith, f3.ensures.value)) in
    let is : (n ++ k) ++ a ≡ posted_text c.args.number c.args.code c.args.amount = simp append_assoc in
    r3.text ∙ ap (λ (t : List ℕ). put_at xs 0 t) is
