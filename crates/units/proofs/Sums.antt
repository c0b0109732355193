-- Laws of sums over indices and lists, and of an amount at one token.
use Prim.Native.Nat.{ℕ, zero, suc, ◌+◌, ◌-◌, ◌*◌, ◌≤◌, ◌<◌}
use mathlib.Core.Path.{◌≡◌, refl, sym, ap, ap₂, ◌∙◌}
use mathlib.Core.Logic.{◌⊎◌, inl, inr}
use mathlib.Core.Bool.{Bool, true, false, cond}
use native.Mathlib.Omega.{arith}
use native.Mathlib.Nat.{le_refl, le-suc_iff, mul-add, mul-zero, add-le-add}
use lib.Dec.{eqb}
use borrow.Author.Tests.{eq-eqb, ne_eqb}
use Rattle.units.specs.Sums.{sum_to, only}

pub sum_ext : (n : ℕ) (f g : ℕ → ℕ) → ((k : ℕ) → k < n → f k ≡ g k) → sum_to n f ≡ sum_to n g
unfolding sum_to
sum_ext zero f g e = refl
sum_ext (suc n) f g e = ap₂ (λ a b. a + b) (sum_ext n f g (λ k l. e k (omega arith))) (e n (le_refl (suc n)))

pub sum_le : (n : ℕ) (f g : ℕ → ℕ) → ((k : ℕ) → k < n → f k ≤ g k) → sum_to n f ≤ sum_to n g
unfolding sum_to
sum_le zero f g e = le_refl 0
sum_le (suc n) f g e = add-le-add (sum_le n f g (λ k l. e k (omega arith))) (e n (le_refl (suc n)))

pub sum_zero : (n : ℕ) (f : ℕ → ℕ) → ((k : ℕ) → k < n → f k ≡ 0) → sum_to n f ≡ 0
unfolding sum_to
sum_zero zero f e = refl
sum_zero (suc n) f e =
    let a : sum_to n f ≡ 0 = sum_zero n f (λ k l. e k (omega arith)) in
    let b : f n ≡ 0 = e n (le_refl (suc n)) in
    omega arith

pub sum_add : (n : ℕ) (f g : ℕ → ℕ) → sum_to n (λ k. f k + g k) ≡ sum_to n f + sum_to n g
unfolding sum_to
sum_add zero f g = refl
sum_add (suc n) f g = omega (arith, sum_add n f g)

pub sum_mul : (n c : ℕ) (f : ℕ → ℕ) → sum_to n (λ k. c * f k) ≡ c * sum_to n f
unfolding sum_to
sum_mul zero c f = sym (mul-zero c)
sum_mul (suc n) c f = ap (λ x. x + c * f n) (sum_mul n c f) ∙ sym (mul-add c (sum_to n f) (f n))

pub term_le : (n k : ℕ) (f : ℕ → ℕ) → k < n → f k ≤ sum_to n f
unfolding sum_to
term_le zero k f l = omega arith
term_le (suc n) k f l = go (λ a. term_le n k f a) (le-suc_iff.0 l)
  where
    go : (suc k ≤ n → f k ≤ sum_to n f) → (suc k ≤ n) ⊎ (suc k ≡ suc n) → f k ≤ sum_to n f + f n
    go r (inl a) = omega (arith, r a)
    go r (inr e) =
        let q : k ≡ n = omega arith in
        let u : f k ≡ f n = ap f q in
        omega arith

-- two functions that agree but at k
pub sum_at : (n k : ℕ) (f g : ℕ → ℕ) → k < n → ((j : ℕ) → j < n → (j ≡ k → ⊥) → g j ≡ f j) → sum_to n g + f k ≡ sum_to n f + g k
unfolding sum_to
sum_at zero k f g l e = omega arith
sum_at (suc n) k f g l e = go (λ a. sum_at n k f g a (λ j lj d. e j (omega arith) d)) (le-suc_iff.0 l)
  where
    go : (suc k ≤ n → sum_to n g + f k ≡ sum_to n f + g k) → (suc k ≤ n) ⊎ (suc k ≡ suc n) → sum_to n g + g n + f k ≡ sum_to n f + f n + g k
    go rec (inl a) =
        let r : sum_to n g + f k ≡ sum_to n f + g k = rec a in
        let q : g n ≡ f n = e n (le_refl (suc n)) (λ d. omega arith) in
        omega arith
    go rec (inr d) =
        let q : k ≡ n = omega arith in
        let r : sum_to n g ≡ sum_to n f = sum_ext n g f (λ j lj. e j (omega arith) (λ x. omega arith)) in
        let u : f k ≡ f n = ap f q in
        let v : g k ≡ g n = ap g q in
        omega arith

-- a sum is 0 exactly where every term is
pub zero_terms : (n : ℕ) (f : ℕ → ℕ) → sum_to n f ≡ 0 → (k : ℕ) → k < n → f k ≡ 0
zero_terms n f e k l = omega (arith, term_le n k f l)

-- terms of at most c each
pub sum_at_most : (n c : ℕ) (f : ℕ → ℕ) → ((k : ℕ) → f k ≤ c) → sum_to n f ≤ c * n
unfolding sum_to
sum_at_most zero c f h = omega arith
sum_at_most (suc n) c f h = omega (arith, sum_at_most n c f h, h n)

-- ---- an amount at one token

pub only_add : (t a b u : ℕ) → only t (a + b) u ≡ only t a u + only t b u
unfolding only
only_add t a b u = go (eqb u t)
  where
    go : (q : Bool) → cond q (a + b) 0 ≡ cond q a 0 + cond q b 0
    go true = refl
    go false = refl

pub only_zero : (t u : ℕ) → only t 0 u ≡ 0
unfolding only
only_zero t u = go (eqb u t)
  where
    go : (q : Bool) → cond q (◌-◌ 0 0) 0 ≡ 0
    go true = refl
    go false = refl

pub only_same : (t x : ℕ) → only t x t ≡ x
unfolding only
only_same t x = rw (eq-eqb t t refl)

pub only_other : (t x u : ℕ) → (u ≡ t → ⊥) → only t x u ≡ 0
unfolding only
only_other t x u d = rw (ne_eqb u t d)
