-- Laws of a round's bounds and of the auction's prices.
use Prim.Native.Nat.{◌*◌, ◌+◌, ◌-◌, ◌<◌, ◌≤◌, suc, zero, ℕ}
use mathlib.Core.Path.{◌≡◌, ap, refl, sym}
use mathlib.Core.Logic.{◌⊎◌, inl, inr}
use native.Mathlib.Nat.{eq-or-lt_of_le, le_antisymm, le_of_mul-le-mul_left, mul-le-mul, mul-le-mul_left, mul-zero, zero-mul}
use native.Mathlib.Omega.{arith}
use lib.Dec.{lit<}
use Rattle.units.specs.Ranges.{highest_bound, highest_reference, highest_slack}
use Rattle.pricing.specs.Laws.{BoundsEven, LowAtEnd, Moves, PricesEnd, PricesMove, PricesStart, PricesStepped, PricesWithin, Stepped, SteppedDown, SteppedUp}
use Rattle.pricing.specs.Prices.{auction_price, high_bound, linear_price, low_bound, price_step, stepped_down, stepped_up}
use Rattle.pricing.specs.declared.Side.{Side}
use Rattle.pricing.specs.declared.Side.TheVariants.{Buy, Sell}
use Rattle.units.specs.Counts.{million}
use Rattle.units.specs.Rounding.{down, up}
use Rattle.units.proofs.Rounding.{down_high, down_low, down_mono, le_down, part_down_le, part_up_le, up_high, up_le, up_low, whole_down}

-- a million is not 0
pub million_pos : 0 < million
million_pos = lit< tt

-- nothing, divided by anything, is nothing
pub down_none : (b : ℕ) → down 0 b ≡ 0
unfolding down
down_none zero = refl
down_none (suc b) = rw (zero-mul (suc b)) at (whole_down 0 (suc b) (omega arith))

-- ---- open: the bounds

-- the low bound is no higher than the reference price
pub low_le : (r w : ℕ) → low_bound r w ≤ r
unfolding low_bound
low_le r w = part_up_le r (million - w) million million_pos (omega arith)

-- the high bound is no lower than the reference price
pub le_high : (r w : ℕ) → r ≤ high_bound r w
unfolding high_bound
le_high r w = le_down (r * (million + w)) million r million_pos (omega arith)

-- both bounds lie equally far from the reference price
pub bounds_even : BoundsEven
unfolding high_bound low_bound
bounds_even r w h =
    let e : w + (million - w) ≡ million = omega (arith, h) in
    let m : r * w + r * (million - w) ≡ r * million = omega (arith, ap (λ (x : ℕ). r * x) e) in
    omega (
      arith,
      m,
      down_low (r * (million + w)) million,
      down_high (r * (million + w)) million million_pos,
      up_low (r * (million - w)) million million_pos,
      up_high (r * (million - w)) million million_pos,
    )

-- the high bound of any reference price and slack that open takes
pub high_le : (r w : ℕ) → r ≤ highest_reference → w ≤ highest_slack → high_bound r w ≤ highest_bound
unfolding high_bound
high_le r w h g =
    let p : r * (million + w) ≤ highest_reference * 1500000 = mul-le-mul {n₂ = highest_reference} {m₂ = 1500000} h (omega arith) in
    omega (arith, down_low (r * (million + w)) million)

-- the low bound is never 0
pub low_pos : (r w : ℕ) → 1 ≤ r → w ≤ highest_slack → 1 ≤ low_bound r w
unfolding low_bound
low_pos r w h g =
    let p : 1 * 500000 ≤ r * (million - w) = mul-le-mul {n₁ = 1} {m₁ = 500000} {n₂ = r} {m₂ = million - w} h (omega arith) in
    omega (arith, up_low (r * (million - w)) million million_pos)

-- ---- bid: the step

-- a step is not 0
pub step_pos : 0 < price_step
step_pos = lit< tt

-- the multiple of a step that a price is rounded to is within a step of it
pub step_up_close : (u : ℕ) → up u price_step * price_step < u + price_step
step_up_close u = omega (arith, up_high u price_step step_pos)

pub step_down_within : (u : ℕ) → down u price_step * price_step ≤ u
step_down_within u = omega (arith, down_low u price_step)

-- a price up to hi, rounded up to a multiple of 100 but never above hi
stepped_up_lem : (hi u : ℕ) → u ≤ hi → SteppedUp hi u (stepped_up hi u)
stepped_up_lem hi u h =
    let reach = up_low u price_step step_pos in
    let near = up_high u price_step step_pos in
    record {
      reaches = omega (arith, reach);
      within = omega arith;
      multiple = go (eq-or-lt_of_le (omega arith));
      least = λ m l. omega (arith, up_le u price_step m step_pos (omega (arith, l)));
      close = omega (arith, near);
    }
  where
    go : (stepped_up hi u ≡ hi) ⊎ (stepped_up hi u < hi) → ((m : ℕ) × (stepped_up hi u ≡ m * 100)) ⊎ (stepped_up hi u ≡ hi)
    go (inl e) = inr e
    go (inr l) = inl (up u price_step, omega (arith, l))

-- a price from lo on, rounded down to a multiple of 100 but never below lo
stepped_down_lem : (lo u : ℕ) → lo ≤ u → SteppedDown lo u (stepped_down lo u)
stepped_down_lem lo u h =
    let reach = down_low u price_step in
    let near = down_high u price_step step_pos in
    record {
      reaches = omega (arith, reach);
      within = omega arith;
      multiple = go (eq-or-lt_of_le (omega arith));
      greatest = λ m l. omega (arith, le_down u price_step m step_pos (omega (arith, l)));
      close = omega (arith, near);
    }
  where
    go : (lo ≡ stepped_down lo u) ⊎ (lo < stepped_down lo u) → ((m : ℕ) × (stepped_down lo u ≡ m * 100)) ⊎ (stepped_down lo u ≡ lo)
    go (inl e) = inr (sym e)
    go (inr l) = inl (down u price_step, omega (arith, l))

-- stepped prices keep the order of the prices
up_keeps : (hi u v p q : ℕ) → u ≤ v → SteppedUp hi u p → SteppedUp hi v q → p ≤ q
up_keeps hi u v p q l s t = go t.multiple
  where
    go : ((m : ℕ) × (q ≡ m * 100)) ⊎ (q ≡ hi) → p ≤ q
    go (inl (m, e)) = omega (arith, e, s.least m (omega (arith, l, e, t.reaches)))
    go (inr e) = omega (arith, e, s.within)

down_keeps : (lo u v p q : ℕ) → u ≤ v → SteppedDown lo u p → SteppedDown lo v q → p ≤ q
down_keeps lo u v p q l s t = go s.multiple
  where
    go : ((m : ℕ) × (p ≡ m * 100)) ⊎ (p ≡ lo) → p ≤ q
    go (inl (m, e)) = omega (arith, e, t.greatest m (omega (arith, l, e, s.reaches)))
    go (inr e) = omega (arith, e, t.within)

-- so a side's stepped prices move as its prices do
stepped_moves : (x : Side) (hi lo u v p q : ℕ) → Moves x u v → Stepped x hi lo u p → Stepped x hi lo v q → Moves x p q
stepped_moves Buy hi lo u v p q l s t = down_keeps lo u v p q l s t
stepped_moves Sell hi lo u v p q l s t = up_keeps hi v u q p l t s

-- and of one price there is one stepped price
step_alone : (x : Side) (hi lo u p q : ℕ) → Stepped x hi lo u p → Stepped x hi lo u q → p ≡ q
step_alone Buy hi lo u p q s t = le_antisymm (down_keeps lo u u p q (omega arith) s t) (down_keeps lo u u q p (omega arith) t s)
step_alone Sell hi lo u p q s t = le_antisymm (up_keeps hi u u p q (omega arith) s t) (up_keeps hi u u q p (omega arith) t s)

-- ---- bid: the auction's prices

-- document 01's price lies within the bounds
linear_within : (x : Side) (hi lo k len : ℕ) → lo ≤ hi → 0 < len → k ≤ len → (lo ≤ linear_price x hi lo k len) × (linear_price x hi lo k len ≤ hi)
linear_within Buy hi lo k len b h g = (omega arith, omega (arith, part_down_le (hi - lo) k len h g))
linear_within Sell hi lo k len b h g = (omega (arith, part_down_le (hi - lo) k len h g), omega arith)

-- the distance gone grows with the blocks
distance_grows : (d j k len : ℕ) → 0 < len → j ≤ k → down (d * j) len ≤ down (d * k) len
distance_grows d j k len h g = down_mono (d * j) (d * k) len h (mul-le-mul_left d g)

-- the buys' price does not fall, and the sells' does not rise: document 01's
linear_moves : (x : Side) (hi lo j k len : ℕ) → 0 < len → j ≤ k → Moves x (linear_price x hi lo j len) (linear_price x hi lo k len)
linear_moves Buy hi lo j k len h g = omega (arith, distance_grows (hi - lo) j k len h g)
linear_moves Sell hi lo j k len h g = omega (arith, distance_grows (hi - lo) j k len h g)

-- a price is document 01's, stepped
stepped : (x : Side) (hi lo k len : ℕ) → Stepped x hi lo (linear_price x hi lo k len) (auction_price x hi lo k len)
unfolding auction_price
stepped Buy hi lo k len = stepped_down_lem lo _ (omega arith)
stepped Sell hi lo k len = stepped_up_lem hi _ (omega arith)

pub prices_stepped : PricesStepped
prices_stepped x hi lo k len = (stepped x hi lo k len, λ p s. step_alone x hi lo _ p _ s (stepped x hi lo k len))

-- a price lies within the bounds
pub price_within : PricesWithin
price_within Buy hi lo k len b h g =
    let s = stepped Buy hi lo k len in (s.within, omega (arith, s.reaches, (linear_within Buy hi lo k len b h g).1))
price_within Sell hi lo k len b h g =
    let s = stepped Sell hi lo k len in (omega (arith, s.reaches, (linear_within Sell hi lo k len b h g).0), s.within)

-- at the last block the sells' price is less than a step above lo, and the buys' less than one below hi
pub price_ends : PricesEnd
price_ends hi lo len b h =
    let e = whole_down (hi - lo) len h in
    let sell = stepped Sell hi lo len len in
    let buy = stepped Buy hi lo len len in (
      omega (arith, e, sell.reaches),
      omega (arith, e, sell.close),
      omega (arith, e, buy.reaches),
      omega (arith, e, buy.close),
    )

-- at the first block the sells' price is hi, and the buys' lo
pub price_starts : PricesStart
price_starts hi lo len =
    let e : down ((hi - lo) * 0) len ≡ 0 = rw mul-zero (down_none len) in
    let sell = stepped Sell hi lo 0 len in
    let buy = stepped Buy hi lo 0 len in
    (omega (arith, e, sell.reaches, sell.within), omega (arith, e, buy.reaches, buy.within))

-- the sells' price is lo at the last block only
pub sell_low_only_at_end : LowAtEnd
sell_low_only_at_end hi lo k len b h g e =
    let d : ℕ = hi - lo in
    let s = stepped Sell hi lo k len in
    let whole : down (d * k) len ≡ d = omega (arith, e, s.reaches, part_down_le d k len h g) in
    let low : d * len ≤ d * k = omega (arith, rw whole at (down_low (d * k) len)) in
    le_antisymm g (le_of_mul-le-mul_left low (omega arith))

-- the buys' price does not fall, and the sells' does not rise
pub price_moves : PricesMove
price_moves x hi lo j k len h g =
    stepped_moves x hi lo _ _ _ _ (linear_moves x hi lo j k len h g) (stepped x hi lo j len) (stepped x hi lo k len)
