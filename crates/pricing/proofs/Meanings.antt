-- Every number of a round is what its rounding means, and no other number is: the parts, a match, the prices of an auction and the quotes of a bid.
use Prim.Native.Nat.{◌*◌, ◌+◌, ◌-◌, ◌<◌, ◌≤◌, min, ℕ}
use mathlib.Core.Path.{◌≡◌, ap, refl, subst, sym}
use mathlib.Core.Logic.{◌⊎◌, inl, inr}
use native.Mathlib.Omega.{arith}
use Rattle.units.specs.Counts.{million}
use Rattle.units.specs.Rounding.{RoundedDown, RoundedUp, down, up}
use Rattle.pricing.specs.Laws.{BidsAre, NumbersRound, PricedAt, PricesAre, Smaller, SteppedDown, SteppedUp, Traded, TradesAre}
use Rattle.pricing.specs.Prices.{auction_price, fetches, high_bound, linear_price, low_bound, lower_quote, match_base, match_quote, quote_for, share_got, share_of, share_paid, trade_within}
use Rattle.pricing.specs.declared.Side.TheVariants.{Buy, Sell}
use Rattle.pricing.specs.declared.Trade.{Trade}
use Rattle.pricing.proofs.Prices.{million_pos, prices_stepped}
use Rattle.pricing.proofs.Trades.{by_rounding}
use Rattle.units.proofs.Cases.{by_order}
use Rattle.units.proofs.Rounding.{down_alone, down_is, down_only, part_down_le, up_alone, up_is}

-- only a rounding by something is one
divides : (a b c : ℕ) → RoundedDown a b c → 0 < b
divides a b c r = omega (arith, r.close)

-- ---- the parts

min_smaller : (a b : ℕ) → Smaller a b (min a b)
min_smaller a b = by_order b a (λ l. inr (omega (arith, l), omega (arith, l))) (λ l. inl (omega (arith, l), l))

base_smaller : (q s r f : ℕ) → RoundedDown (q * 1000000) r f → Smaller s f (match_base q s r)
unfolding match_base
base_smaller q s r f d =
    subst (λ (x : ℕ). Smaller s f (min s x)) (down_only (q * million) r f (divides _ r f d) d) (min_smaller s f)

-- the distance gone, where lo and the distance are hi
gone : (hi lo d k len g : ℕ) → lo + d ≡ hi → RoundedDown (d * k) len g → g ≡ down ((hi - lo) * k) len
gone hi lo d k len g e r =
    let x : d ≡ hi - lo = omega (arith, e) in subst (λ (y : ℕ). g ≡ down (y * k) len) x (down_only (d * k) len g (divides _ len g r) r)

sells_linear : (hi lo d k len g : ℕ) → lo + d ≡ hi → RoundedDown (d * k) len g → linear_price Sell hi lo k len ≡ hi - g
sells_linear hi lo d k len g e r = sym (ap (λ (x : ℕ). hi - x) (gone hi lo d k len g e r))

pub numbers_round : NumbersRound
unfolding high_bound low_bound match_quote lower_quote quote_for share_paid share_got share_of fetches
numbers_round =
    record {
      high = λ r w. down_is (r * (million + w)) million million_pos;
      low = λ r w v e.
          let x : million - w ≡ v = omega (arith, e) in
          subst (λ (y : ℕ). RoundedUp (r * v) million (up (r * y) million)) (sym x) (up_is (r * v) million million_pos);
      base = base_smaller;
      upper = λ m r. up_is (m * r) million million_pos;
      lower = λ m r. down_is (m * r) million million_pos;
      sells = λ hi lo d k len g e l r.
          omega (arith, e, sells_linear hi lo d k len g e r, part_down_le d k len (divides _ len g r) l, down_only (d * k) len g (divides _ len g r) r);
      buys = λ hi lo d k len g e r. sym (ap (λ (x : ℕ). lo + x) (gone hi lo d k len g e r));
      pays = λ n p. up_is (n * p) million million_pos;
      gets = λ n p. down_is (n * p) million million_pos;
      paid = λ o P T h. up_is (o * P) T h;
      got = λ o G T h. down_is (o * G) T h;
      share = λ o t h. (up_is (o * t.paid.0) t.total.0 h, down_is (o * t.got.0) t.total.0 h);
      fetched_base = λ limit u h. down_is (u * million) limit h;
      fetched_quote = λ limit u. down_is (u * limit) million million_pos;
    }

-- ---- a match

-- which of the two quotes is traded, or none
abbrev Choice : ℕ → ℕ → ℕ → ℕ → ℕ → ℕ → ℕ → Type 0
Choice hi lo b u w m c =
    (u * 1000000 ≤ hi * b → (m ≡ b) × (c ≡ u))
    × (hi * b < u * 1000000 → 1 ≤ w → lo * b ≤ w * 1000000 → (m ≡ b) × (c ≡ w))
    × (hi * b < u * 1000000 → (w ≡ 0) ⊎ (w * 1000000 < lo * b) → (m ≡ 0) × (c ≡ 0))

chosen : (q s r hi lo : ℕ)
    → let b : ℕ = match_base q s r in
    let t : Trade = trade_within q s r hi lo in
    Choice hi lo b (match_quote b r) (lower_quote b r) t.base.0 t.quote.0
chosen q s r hi lo =
    let b : ℕ = match_base q s r in
    let u : ℕ = match_quote b r in
    let w : ℕ = lower_quote b r in
    by_rounding (λ t. Choice hi lo b u w t.base.0 t.quote.0) q s r hi lo
    (λ t. (λ l. (refl, refl), λ l. absurd (omega (arith, l, t)), λ l. absurd (omega (arith, l, t))))
    (λ a o t. (λ l. absurd (omega (arith, l, a)), λ l n k. (refl, refl), λ l n. absurd (either w (lo * b) o t n)))
    (λ a n. (λ l. absurd (omega (arith, l, a)), λ l o k. absurd (omega (arith, k, n o)), λ l o. (refl, refl)))
  where
    either : (w x : ℕ) → 1 ≤ w → x ≤ w * million → (w ≡ 0) ⊎ (w * 1000000 < x) → ⊥
    either w x h g (inl e) = omega (arith, h, e)
    either w x h g (inr l) = omega (arith, g, l)

-- of one base and two quotes there is one choice
choice_alone : (hi lo b u w m c n d : ℕ) → Choice hi lo b u w m c → Choice hi lo b u w n d → (n ≡ m) × (d ≡ c)
choice_alone hi lo b u w m c n d f g =
    by_order (hi * b) (u * 1000000)
    (λ l. by_order (w * 1000000) (lo * b)
    (λ k. same (f.2 l (inr k)) (g.2 l (inr k)))
    (λ k. by_order w 1
    (λ z. let e : w ≡ 0 = omega (arith, z) in same (f.2 l (inl e)) (g.2 l (inl e)))
    (λ s. same (f.1 l s k) (g.1 l s k))))
    (λ l. same (f.0 l) (g.0 l))
  where
    same : {x y : ℕ} → (m ≡ x) × (c ≡ y) → (n ≡ x) × (d ≡ y) → (n ≡ m) × (d ≡ c)
    same p q = (omega (arith, p.0, q.0), omega (arith, p.1, q.1))

-- of two numbers there is one smaller
pub smaller_alone : (a b x y : ℕ) → Smaller a b x → Smaller a b y → y ≡ x
smaller_alone a b x y (inl p) (inl q) = omega (arith, p.0, q.0)
smaller_alone a b x y (inl p) (inr q) = omega (arith, p.0, p.1, q.0, q.1)
smaller_alone a b x y (inr p) (inl q) = omega (arith, p.0, p.1, q.0, q.1)
smaller_alone a b x y (inr p) (inr q) = omega (arith, p.0, q.0)

-- so a match trades one base and one quote
pub traded_alone : (q s r hi lo m c n d : ℕ) → Traded q s r hi lo m c → Traded q s r hi lo n d → (n ≡ m) × (d ≡ c)
traded_alone q s r hi lo m c n d t v =
    let f : v.fetched ≡ t.fetched = down_alone _ r _ _ v.fetched_is t.fetched_is in
    let b : v.base ≡ t.base = smaller_alone s t.fetched _ _ t.smaller (subst (λ (x : ℕ). Smaller s x v.base) f v.smaller) in
    let u : v.upper ≡ t.upper = up_alone _ 1000000 _ _ (subst (λ (x : ℕ). RoundedUp (x * r) 1000000 v.upper) b v.upper_is) t.upper_is in
    let w : v.lower ≡ t.lower = down_alone _ 1000000 _ _ (subst (λ (x : ℕ). RoundedDown (x * r) 1000000 v.lower) b v.lower_is) t.lower_is in
    let g : Choice hi lo v.base v.upper v.lower n d = (v.up, v.down, v.none) in
    let g : Choice hi lo t.base v.upper v.lower n d = subst (λ (x : ℕ). Choice hi lo x v.upper v.lower n d) b g in
    let g : Choice hi lo t.base t.upper v.lower n d = subst (λ (x : ℕ). Choice hi lo t.base x v.lower n d) u g in
    let g : Choice hi lo t.base t.upper t.lower n d = subst (λ (x : ℕ). Choice hi lo t.base t.upper x n d) w g in
    choice_alone hi lo t.base t.upper t.lower m c n d (t.up, t.down, t.none) g

traded_is : (q s r hi lo : ℕ) → 0 < r → Traded q s r hi lo (trade_within q s r hi lo).base.0 (trade_within q s r hi lo).quote.0
traded_is q s r hi lo h =
    let b : ℕ = match_base q s r in
    let k = chosen q s r hi lo in
    record {
      fetched = down (q * 1000000) r;
      fetched_is = down_is (q * 1000000) r h;
      base = b;
      smaller = base_smaller q s r _ (down_is (q * 1000000) r h);
      upper = match_quote b r;
      upper_is = numbers_round.upper b r;
      lower = lower_quote b r;
      lower_is = numbers_round.lower b r;
      up = k.0;
      down = k.1;
      none = k.2;
    }

pub trades_are : TradesAre
trades_are q s r hi lo =
    (traded_is q s r hi lo, λ m c t. traded_alone q s r hi lo _ _ m c (traded_is q s r hi lo (divides _ r _ t.fetched_is)) t)

-- ---- an auction

module _ (hi lo k len sell buy : ℕ) (p : PricedAt hi lo k len sell buy) where
  sell_only : sell ≡ auction_price Sell hi lo k len
  sell_only =
      let e : linear_price Sell hi lo k len ≡ p.left =
      omega (arith, sells_linear hi lo p.distance k len p.gone p.distance_is p.gone_is, p.left_is) in
      (prices_stepped Sell hi lo k len).1 sell (subst (λ (u : ℕ). SteppedUp hi u sell) (sym e) p.sell_is)

  buy_only : buy ≡ auction_price Buy hi lo k len
  buy_only =
      let e = numbers_round.buys hi lo p.distance k len p.gone p.distance_is p.gone_is in
      (prices_stepped Buy hi lo k len).1 buy (subst (λ (u : ℕ). SteppedDown lo u buy) (sym e) p.buy_is)

priced_at : (hi lo k len : ℕ) → lo ≤ hi → 0 < len → k ≤ len → PricedAt hi lo k len (auction_price Sell hi lo k len) (auction_price Buy hi lo k len)
priced_at hi lo k len b h l =
    let r = down_is ((hi - lo) * k) len h in
    let e : lo + (hi - lo) ≡ hi = omega (arith, b) in
    record {
      distance = hi - lo;
      distance_is = e;
      gone = down ((hi - lo) * k) len;
      gone_is = r;
      left = linear_price Sell hi lo k len;
      left_is = numbers_round.sells hi lo (hi - lo) k len _ e l r;
      sell_is = (prices_stepped Sell hi lo k len).0;
      buy_is = (prices_stepped Buy hi lo k len).0;
    }

pub prices_are : PricesAre
prices_are hi lo k len = (priced_at hi lo k len, λ sell buy p. (sell_only hi lo k len sell buy p, buy_only hi lo k len sell buy p))

pub bids_are : BidsAre
bids_are hi lo k len sell buy n p = (
  subst (λ (x : ℕ). RoundedUp (n * sell) 1000000 (quote_for Sell n x)) (sell_only hi lo k len sell buy p) (numbers_round.pays n sell),
  subst (λ (x : ℕ). RoundedDown (n * buy) 1000000 (quote_for Buy n x)) (buy_only hi lo k len sell buy p) (numbers_round.gets n buy),
)
