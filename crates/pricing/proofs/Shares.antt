-- Laws of shares, for either side: T is the side's total, P what it paid and G what it got.
use Prim.Native.Nat.{◌*◌, ◌+◌, ◌-◌, ◌<◌, ◌≤◌, suc, zero, ℕ}
use mathlib.Core.List.{List, [], ◌∷◌}
use mathlib.Core.Path.{◌≡◌}
use native.Mathlib.Nat.{le_antisymm, le_of_mul-le-mul_left, lt_of_mul-lt-mul_left, mul-le-mul_right, zero-mul}
use native.Mathlib.Omega.{arith}
use lib.Dec.{T}
use lib.ListN.{length}
use Rattle.pricing.specs.Laws.{SharesHold}
use Rattle.pricing.specs.Prices.{share_got, share_paid}
use Rattle.units.specs.Rounding.{up}
use Rattle.units.specs.Sums.{sum_over}
use Rattle.pricing.proofs.Prices.{down_none}
use Rattle.units.proofs.Rounding.{down_high, down_low, part_up_le, up_high, up_le, up_low}

-- ---- one share

-- an offer of 0 pays nothing
pub paid_none : (P T : ℕ) → share_paid 0 P T ≡ 0
unfolding share_paid up
paid_none P zero = rw zero-mul
paid_none P (suc T) = le_antisymm (up_le (0 * P) (suc T) 0 (omega arith) (omega arith)) (omega arith)

-- an offer of 0 gets nothing
pub got_none : (G T : ℕ) → share_got 0 G T ≡ 0
unfolding share_got
got_none G T = rw zero-mul (down_none T)

-- where the side paid no more than its total, an offer pays no more than itself
pub paid_le_offer : (o P T : ℕ) → 0 < T → P ≤ T → share_paid o P T ≤ o
unfolding share_paid
paid_le_offer o P T h g = part_up_le o P T h g

-- an offer of the side pays no more than the side paid
pub paid_le_paid : (o P T : ℕ) → 0 < T → o ≤ T → share_paid o P T ≤ P
unfolding share_paid
paid_le_paid o P T h g = up_le (o * P) T P h (omega (arith, mul-le-mul_right P g))

-- an offer of the side gets no more than the side got
pub got_le_got : (o G T : ℕ) → 0 < T → o ≤ T → share_got o G T ≤ G
unfolding share_got
got_le_got o G T h g = le_of_mul-le-mul_left (omega (arith, down_low (o * G) T, mul-le-mul_right G g)) h

-- ---- all shares of a list of offers, times T

paid_sum_low : (T P : ℕ) (os : List ℕ) → 0 < T → sum_over (λ o. o) os * P ≤ T * sum_over (λ o. share_paid o P T) os
unfolding sum_over share_paid
paid_sum_low T P [] h = omega arith
paid_sum_low T P (o ∷ os) h = omega (arith, paid_sum_low T P os h, up_low (o * P) T h)

paid_sum_high : (T P : ℕ) (os : List ℕ) → 0 < T → T * sum_over (λ o. share_paid o P T) os + length os ≤ sum_over (λ o. o) os * P + length os * T
unfolding sum_over share_paid
paid_sum_high T P [] h = omega arith
paid_sum_high T P (o ∷ os) h = omega (arith, paid_sum_high T P os h, up_high (o * P) T h)

got_sum_high : (T G : ℕ) (os : List ℕ) → T * sum_over (λ o. share_got o G T) os ≤ sum_over (λ o. o) os * G
unfolding sum_over share_got
got_sum_high T G [] = omega arith
got_sum_high T G (o ∷ os) = omega (arith, got_sum_high T G os, down_low (o * G) T)

got_sum_low : (T G : ℕ) (os : List ℕ) → 0 < T → sum_over (λ o. o) os * G + length os ≤ T * sum_over (λ o. share_got o G T) os + length os * T
unfolding sum_over share_got
got_sum_low T G [] h = omega arith
got_sum_low T G (o ∷ os) h = omega (arith, got_sum_low T G os h, down_high (o * G) T h)

refund_sum : (T P : ℕ) (os : List ℕ) → 0 < T → P ≤ T → sum_over (λ o. o - share_paid o P T) os + sum_over (λ o. share_paid o P T) os ≡ sum_over (λ o. o) os
unfolding sum_over
refund_sum T P [] h g = omega arith
refund_sum T P (o ∷ os) h g = omega (arith, refund_sum T P os h g, paid_le_offer o P T h g)

-- ---- the share law: os are all the offers of a side

-- it holds of any offers that add up to the total
pub share_law : SharesHold
share_law T P G os h e =
    let enough : P ≤ sum_over (λ o. share_paid o P T) os = le_of_mul-le-mul_left (rw e at (paid_sum_low T P os h)) h in record {
      paid_enough = enough;
      paid_close = λ l. lt_of_mul-lt-mul_left T (omega (arith, rw e at (paid_sum_high T P os h)));
      got_within = le_of_mul-le-mul_left (rw e at (got_sum_high T G os)) h;
      got_close = λ l. lt_of_mul-lt-mul_left T (omega (arith, rw e at (got_sum_low T G os h)));
      refunds_fit = λ g. omega (arith, refund_sum T P os h g);
    }
