-- Laws of match: what buys and sells trade fits both sides and keeps both bounds, and which quote it is.
use Prim.Native.Nat.{◌*◌, ◌<◌, ◌≤◌, min, ℕ}
use mathlib.Core.Bool.{Bool, cond, false, true, ◌&&◌}
use mathlib.Core.Path.{◌≡◌, ap, refl}
use native.Mathlib.Nat.{mul-le-mul_left, mul-le-mul_right}
use native.Mathlib.Omega.{arith}
use borrow.Author.Tests.{le-ltb, leb-false, leb-true, ltb-false, ltb-true}
use Rattle.pricing.specs.Laws.{DropsOnly, Near, NoSlack, QuotesNear, TradeFits, TradesFit, UpperKept}
use Rattle.pricing.specs.Prices.{lower_quote, match_base, match_quote, trade, trade_within}
use Rattle.pricing.specs.declared.Trade.{Trade}
use Rattle.units.specs.Counts.{million}
use Rattle.units.specs.Rounding.{down}
use Rattle.pricing.proofs.Prices.{million_pos}
use Rattle.units.proofs.Rounding.{down_high, down_low, le_down, up_high, up_le, up_low}

-- the base of a match costs no more than the buys offer
pub quote_le : (q s r : ℕ) → match_quote (match_base q s r) r ≤ q
unfolding match_base match_quote
quote_le q s r =
    let m : ℕ = min s (down (q * million) r) in
    let l : m ≤ down (q * million) r = omega arith in
    up_le (m * r) million q million_pos (omega (arith, mul-le-mul_left r l, down_low (q * million) r))

-- rounded up it is no less than what the base comes to at r, rounded down no more
pub upper_over : (m r : ℕ) → m * r ≤ match_quote m r * million
unfolding match_quote
upper_over m r = omega (arith, up_low (m * r) million million_pos)

pub lower_under : (m r : ℕ) → lower_quote m r * million ≤ m * r
unfolding lower_quote
lower_under m r = omega (arith, down_low (m * r) million)

pub lower_le : (m r : ℕ) → lower_quote m r ≤ match_quote m r
lower_le m r = omega (arith, lower_under m r, upper_over m r)

-- what holds of the quote rounded up where it keeps hi, of the quote rounded down where that is kept, and of nothing traded where neither is,
-- holds of the trade
pub by_rounding : (K : Trade → Type 0) (q s r hi lo : ℕ) →
    let m : ℕ = match_base q s r in
    let c : ℕ = match_quote m r in
    let d : ℕ = lower_quote m r in
    (c * million ≤ hi * m → K (trade m c))
    → (hi * m < c * million → 1 ≤ d → lo * m ≤ d * million → K (trade m d))
    → (hi * m < c * million → (1 ≤ d → d * million < lo * m) → K (trade 0 0))
    → K (trade_within q s r hi lo)
unfolding trade_within
by_rounding K q s r hi lo upper lower none =
    go _ (ltb-true _ _) (ltb-false _ _) _ (leb-true _ _) (leb-false _ _) _ (leb-true _ _) (leb-false _ _)
  where
    m : ℕ
    m = match_base q s r

    c : ℕ
    c = match_quote m r

    d : ℕ
    d = lower_quote m r

    go : (above : Bool) → (above ≡ true → hi * m < c * million) → (above ≡ false → c * million ≤ hi * m)
        → (some : Bool) → (some ≡ true → 1 ≤ d) → (some ≡ false → d < 1)
        → (kept : Bool) → (kept ≡ true → lo * m ≤ d * million) → (kept ≡ false → d * million < lo * m)
        → K (cond above (cond (some && kept) (trade m d) (trade 0 0)) (trade m c))
    go false a a' u s s' v k k' = upper (a' refl)
    go true a a' true s s' true k k' = lower (a refl) (s refl) (k refl)
    go true a a' true s s' false k k' = none (a refl) (λ l. k' refl)
    go true a a' false s s' v k k' = none (a refl) (λ l. omega (arith, l, s' refl))

-- the trade of match fits
pub trade_fits : TradesFit
unfolding match_base
trade_fits q s r hi lo h g =
    let m : ℕ = match_base q s r in
    by_rounding (TradeFits q s lo hi) q s r hi lo
    (λ t. record {
      base_fits = omega arith;
      quote_fits = quote_le q s r;
      not_above = t;
      not_below = omega (arith, upper_over m r, mul-le-mul_right m h);
    })
    (λ a o t. record {
      base_fits = omega arith;
      quote_fits = omega (arith, lower_le m r, quote_le q s r);
      not_above = omega (arith, lower_under m r, mul-le-mul_right m g);
      not_below = t;
    })
    (λ a n. record { base_fits = omega arith; quote_fits = omega arith; not_above = omega arith; not_below = omega arith })

-- c rounded up is traded where it keeps hi
pub upper_kept : UpperKept
unfolding trade_within
upper_kept q s r hi lo h = rw (le-ltb (hi * match_base q s r) (match_quote (match_base q s r) r * million) h)

-- without slack c rounded down is kept nowhere else: it would be exact, and so would c rounded up
pub no_slack : NoSlack
unfolding match_quote
no_slack q s r h =
    let m : ℕ = match_base q s r in
    by_rounding (λ t. t ≡ trade 0 0) q s r r r
    (λ t. absurd (omega (arith, t, h)))
    (λ a o t. absurd (omega (arith, t, h, lower_under m r, up_le (m * r) million (lower_quote m r) million_pos (omega (arith, t)))))
    (λ a n. refl)

-- a quote that keeps hi where the one rounded up does not is no more than the one rounded down
pub under_lower : (hi m r c : ℕ) → hi * m < match_quote m r * million → c * million ≤ hi * m → c ≤ lower_quote m r
unfolding match_quote lower_quote
under_lower hi m r c a l = le_down (m * r) million c million_pos (omega (arith, a, l, up_high (m * r) million million_pos))

-- a trade is dropped only where no whole quote of at least 1 keeps both bounds
pub drops_only : DropsOnly
drops_only q s r hi lo c e some keeps =
    let m : ℕ = match_base q s r in
    let none : m ≡ 0 → c * million < lo * m = λ z. omega (arith, some, rw z at keeps) in
    by_rounding (λ t. t.base.0 ≡ 0 → c * million < lo * m) q s r hi lo
    (λ t z. none z)
    (λ a o t z. none z)
    (λ a n z. let l = under_lower hi m r c a keeps in omega (arith, l, n (omega (arith, l, some))))
    e

-- all base that both sides could trade, or none
pub traded_base : (q s r hi lo : ℕ) → 0 < (trade_within q s r hi lo).base.0 → (trade_within q s r hi lo).base.0 ≡ match_base q s r
traded_base q s r hi lo =
    by_rounding (λ t. 0 < t.base.0 → t.base.0 ≡ match_base q s r) q s r hi lo (λ t l. refl) (λ a o t l. refl) (λ a n l. omega (arith, l))

-- the quote of a trade lies near what its base comes to at r
pub quotes_near : QuotesNear
unfolding match_quote lower_quote
quotes_near q s r hi lo even =
    let m : ℕ = match_base q s r in
    by_rounding (Near r) q s r hi lo
    (λ t. record { above = omega (arith, up_high (m * r) million million_pos); below = omega (arith, upper_over m r) })
    (λ a o t. record {
      above = omega (arith, lower_under m r);
      below = omega (arith, a, t, ap (λ (x : ℕ). x * m) even, up_high (m * r) million million_pos, down_high (m * r) million million_pos);
    })
    (λ a n. record { above = omega arith; below = omega arith })

-- no quote is traded for no base, nor, where the low bound is not 0, base for no quote
pub quote_some : (q s lo hi : ℕ) (t : Trade) → TradeFits q s lo hi t →
    (t.base.0 ≡ 0 → t.quote.0 ≡ 0) × (1 ≤ lo → t.quote.0 ≡ 0 → t.base.0 ≡ 0)
quote_some q s lo hi t f =
    (λ e. omega (arith, rw e at f.not_above), λ l e. omega (arith, mul-le-mul_right t.base.0 l, f.not_below))
