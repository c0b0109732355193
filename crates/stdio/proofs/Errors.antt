-- EINTR and EAGAIN pass, and no other error.
use mathlib.Core.Path.{◌≡◌, refl}
use mathlib.Core.Bool.{true}
use mathlib.Core.Logic.{◌⊎◌}
use native.Mathlib.Omega.{arith}
use lib.IntN.{ℤ, negsuc, pos}
use Rattle.std.proofs.lemmas.Bool.Decides.{nat_tests}
use Rattle.stdio.specs.Passing.{passes, TwoPass}

only : (e : ℤ) → passes e ≡ true → (e ≡ pos 4) ⊎ (e ≡ pos 11)
only (pos n) t = grind (arith, nat_tests)
only (negsuc n) t = absurd (cc)

pub two_pass : TwoPass
two_pass = record { only = only; four = refl; eleven = refl }
