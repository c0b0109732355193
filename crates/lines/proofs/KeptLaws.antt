-- Laws of a line that has begun: no more than 81 bytes of it are kept.
use mathlib.Core.Path.{◌≡◌, refl, sym, ap, ◌∙◌}
use mathlib.Core.List.{List, [], ◌∷◌, ◌++◌}
use Prim.Native.Nat.{ℕ, zero, suc, ◌+◌, ◌-◌, ◌≤◌, min}
use native.Mathlib.Omega.{arith}
use lib.ListN.{length, take, length-take}
use lib.Seq.{take_all, take-take, length-take-le, take-append-add}
use Rattle.units.proofs.Cases.{by_order}
use borrow.Rule.Slice.PartMut.{put_mid}
use Rattle.std.proofs.lemmas.Slice.{take-put_mid}
use Rattle.lines.specs.Kept.{kept_bytes}

pub kept : (n : ℕ) (p q : List ℕ) → take n (take n p ++ q) ≡ take n (p ++ q)
kept zero p q = refl
kept (suc n) [] q = refl
kept (suc n) (x ∷ p) q = ap (λ (l : List ℕ). x ∷ l) (kept n p q)

take_both : (n k : ℕ) (l : List ℕ) → take n (take k l) ≡ take (min n k) l
take_both n k l =
    by_order
    k
    n
    (λ less. take_all n (take k l) (omega (arith, length-take k l, less)) ∙ ap (λ (j : ℕ). take j l) (omega (arith, less)))
    (λ more. take-take n k l more ∙ ap (λ (j : ℕ). take j l) (omega (arith, more)))

-- the bytes that still have room copied after those that are kept
pub kept_more : (begun input ys : List ℕ) (before end more : ℕ) → length begun ≡ 81 → before ≤ 81 → end ≤ length input → more ≡ min end (81 - before)
    → ys ≡ take more input
    → take (before + more) (put_mid before (before + more - before) begun ys) ≡ take kept_bytes (take before begun ++ take end input)
kept_more begun input ys before end more l b e m c =
    let p = take before begun in
    let lp : length p ≡ before = length-take-le before begun (omega (arith, l, b)) in
    let ly : length ys ≡ more = ap length c ∙ length-take-le more input (omega (arith, m, e)) in
    let room : 81 ≡ before + (81 - before) = omega (arith, b) in
    take-put_mid before (before + more - before) begun ys (before + more) (omega (arith, ly)) (omega (arith, l, b))
    ∙ ap (λ (q : List ℕ). p ++ q) (c ∙ ap (λ (k : ℕ). take k input) (omega (arith, m)) ∙ sym (take_both (81 - before) end input))
    ∙ sym
    (ap (λ (j : ℕ). take j (p ++ take end input)) room
    ∙ ap (λ (j : ℕ). take (j + (81 - before)) (p ++ take end input)) (sym lp)
    ∙ take-append-add p (take end input) (81 - before))
