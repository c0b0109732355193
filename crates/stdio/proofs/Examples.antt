-- The errors of specs/Examples.antt.
use Prim.Native.Nat.{ℕ}
use mathlib.Core.Path.{◌≡◌, ap, refl}
use mathlib.Core.Bool.{Bool, false, true}
use mathlib.Core.List.{map}
use mathlib.Core.Logic.{◌⊎◌, inl, inr}
use native.Mathlib.Omega.{arith}
use lib.IntN.{ℤ, pos, negsuc}
use Rattle.stdio.specs.Passing.{passes, TwoPass}
use Rattle.stdio.specs.Examples.{errors, numbers, PassingUsed}

pub errors_hold : map (λ (e : Bool × Bool). e.0) errors ≡ map (λ (e : Bool × Bool). e.1) errors
unfolding errors
errors_hold = refl

pub numbers_hold : map (λ (e : ℤ × ℤ). e.0) numbers ≡ map (λ (e : ℤ × ℤ). e.1) numbers
unfolding numbers
numbers_hold = refl

-- the number of an error, 0 for those below it
abbrev size : ℤ → ℕ
size (pos n) = n
size (negsuc n) = 0

-- what is neither 4 nor 11 does not pass
neither : TwoPass → (e : ℤ) → (size e ≡ 4 → ⊥) → (size e ≡ 11 → ⊥) → passes e ≡ false
neither w e f g = go (passes e) refl
  where
    refused : (e ≡ pos 4) ⊎ (e ≡ pos 11) → ⊥
    refused (inl q) = f (ap size q)
    refused (inr q) = g (ap size q)

    go : (b : Bool) → passes e ≡ b → b ≡ false
    go false q = refl
    go true q = absurd (refused (w.only e q))

pub passing_used : PassingUsed
passing_used =
    record {
      before = λ w n l. neither w (pos n) (λ e. omega (arith, e, l)) (λ e. omega (arith, e, l));
      between = λ w n l g. neither w (pos n) (λ e. omega (arith, e, l)) (λ e. omega (arith, e, g));
      above = λ w n l. neither w (pos n) (λ e. omega (arith, e, l)) (λ e. omega (arith, e, l));
      negative = λ w n. neither w (negsuc n) (λ e. omega (arith, e)) (λ e. omega (arith, e));
      four = λ w e q. rw q w.four;
      eleven = λ w e q. rw q w.eleven;
    }
