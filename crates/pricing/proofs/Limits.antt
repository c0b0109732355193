-- The limit law: what a side trades keeps the round's bound, so each of its tickets gets its limit.
use Prim.Native.Nat.{◌*◌, ◌+◌, ◌-◌, ◌<◌, ◌≤◌, ℕ}
use native.Mathlib.Nat.{le_of_mul-le-mul_left, mul-le-mul_left, mul-le-mul_right, mul-sub}
use native.Mathlib.Omega.{arith}
use lib.Dec.{T}
use borrow.Author.Tests.{ltb-false}
use Rattle.pricing.specs.Laws.{LimitsHold, Rate, TradeFits}
use Rattle.pricing.specs.Prices.{fetches, quote_for, share_got, share_paid}
use Rattle.pricing.specs.declared.Side.{Side}
use Rattle.pricing.specs.declared.Side.TheVariants.{Buy, Sell}
use Rattle.pricing.specs.declared.Trade.{Trade}
use Rattle.units.specs.Counts.{million}
use Rattle.units.specs.Rounding.{down, up}
use Rattle.pricing.proofs.Prices.{million_pos}
use Rattle.units.proofs.Rounding.{down_low, le_down, up_high, up_low}

-- ---- the rate of a side

-- a side that paid nothing keeps it
pub rate_none : (x : Side) (hi lo G : ℕ) → Rate x hi lo 0 G
rate_none Buy hi lo G = omega arith
rate_none Sell hi lo G = omega arith

-- what keeps it, added to what keeps it, keeps it
pub rate_add : (x : Side) (hi lo P G a g : ℕ) → Rate x hi lo P G → Rate x hi lo a g → Rate x hi lo (P + a) (G + g)
rate_add Buy hi lo P G a g r s = omega arith
rate_add Sell hi lo P G a g r s = omega arith

-- a bid that takes what buys left keeps their bound: they pay at most hi for its base
pub rate_bid_buy : (hi lo n p : ℕ) → p ≤ hi → Rate Buy hi lo (quote_for Buy n p) n
unfolding quote_for
rate_bid_buy hi lo n p h = omega (arith, down_low (n * p) million, mul-le-mul_left n h)

-- a bid that takes what sells left keeps theirs: they get at least lo for their base
pub rate_bid_sell : (hi lo n p : ℕ) → lo ≤ p → Rate Sell hi lo n (quote_for Sell n p)
unfolding quote_for
rate_bid_sell hi lo n p h = omega (arith, up_low (n * p) million million_pos, mul-le-mul_left n h)

-- a trade that fits keeps the buys' bound
pub rate_trade_buy : (q s lo hi : ℕ) (t : Trade) → TradeFits q s lo hi t → Rate Buy hi lo t.quote.0 t.base.0
rate_trade_buy q s lo hi t f = omega (arith, f.not_above)

-- and the sells'
pub rate_trade_sell : (q s lo hi : ℕ) (t : Trade) → TradeFits q s lo hi t → Rate Sell hi lo t.base.0 t.quote.0
rate_trade_sell q s lo hi t f = omega (arith, f.not_below)

-- ---- the limit of a ticket

-- Where u units fetch u × a / b rounded down, and the side's P fetched at least P × a / b, a share gets at least what one unit less than
-- it pays fetches.
limit_law : (o P G T a b : ℕ) → 0 < T → 0 < b → P * a ≤ b * G → down ((share_paid o P T - 1) * a) b ≤ share_got o G T
unfolding share_paid share_got
limit_law o P G T a b hT hb lim =
    let s : ℕ = up (o * P) T - 1 in
    let x : ℕ = down (s * a) b in
    let paid : T * s ≤ o * P = omega (arith, up_high (o * P) T hT, mul-sub T (up (o * P) T) 1) in
    let fetched : b * x ≤ s * a = down_low (s * a) b in
    let all : b * (T * x) ≤ b * (o * G) = omega (arith, mul-le-mul_left T fetched, mul-le-mul_right a paid, mul-le-mul_left o lim) in
    le_down (o * G) T x hT (le_of_mul-le-mul_left all hb)

-- a ticket whose limit enter took gets at least what one unit less than it pays fetches at that limit
pub limit_kept : LimitsHold
unfolding fetches
limit_kept Buy limit hi lo o P G T hT hl e r =
    let l : hi ≤ limit = ltb-false _ _ e in limit_law o P G T million limit hT hl (omega (arith, mul-le-mul_left G l))
limit_kept Sell limit hi lo o P G T hT hl e r =
    let l : limit ≤ lo = ltb-false _ _ e in limit_law o P G T limit million hT million_pos (omega (arith, mul-le-mul_left P l))
