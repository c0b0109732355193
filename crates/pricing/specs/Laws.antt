-- What is proved of prices, trades and shares, each once for all sides and tokens (the proofs stand in proofs/).
use Rattle.std.specs.Prelude.{ℕ, ◌+◌, ◌-◌, ◌*◌, ◌≤◌, ◌<◌, ◌≡◌, ◌⊎◌, false, List, length}
use Rattle.units.specs.Counts.{million}
use Rattle.units.specs.Rounding.{RoundedDown, RoundedUp}
use Rattle.units.specs.Sums.{sum_over}
use Rattle.pricing.specs.declared.Side.{Side}
use Rattle.pricing.specs.declared.Side.TheVariants.{Buy, Sell}
use Rattle.pricing.specs.declared.Totals.{Totals}
use Rattle.pricing.specs.declared.Trade.{Trade}
use Rattle.pricing.specs.Prices.{high_bound, low_bound, off_limit, match_base, match_quote, lower_quote, trade, trade_within, linear_price, auction_price, quote_for, share_paid, share_got, share_of, fetches}

-- from a to b as a side's price moves: the buys' rises, the sells' falls
abbrev pub Moves : Side → ℕ → ℕ → Type 0
Moves Buy a b = a ≤ b
Moves Sell a b = b ≤ a

-- p is u rounded up to a multiple of 100, but never above hi: the least number from u to hi that is a multiple or hi itself
pub record SteppedUp (hi u p : ℕ) : Type 0 where
  pub reaches : u ≤ p
  pub within : p ≤ hi
  pub multiple : ((m : ℕ) × (p ≡ m * 100)) ⊎ (p ≡ hi)
  pub least : (m : ℕ) → u ≤ m * 100 → p ≤ m * 100
  -- so it is less than 100 above u
  pub close : p < u + 100

-- p is u rounded down to a multiple of 100, but never below lo: the greatest number from lo to u that is a multiple or lo itself
pub record SteppedDown (lo u p : ℕ) : Type 0 where
  pub reaches : p ≤ u
  pub within : lo ≤ p
  pub multiple : ((m : ℕ) × (p ≡ m * 100)) ⊎ (p ≡ lo)
  pub greatest : (m : ℕ) → m * 100 ≤ u → m * 100 ≤ p
  -- so it is less than 100 below u
  pub close : u < p + 100

-- p is a side's price u, stepped
abbrev pub Stepped : Side → ℕ → ℕ → ℕ → ℕ → Type 0
Stepped Buy hi lo u p = SteppedDown lo u p
Stepped Sell hi lo u p = SteppedUp hi u p

-- a trade takes no more than either side has, and its price lies within the bounds
pub record TradeFits (q s lo hi : ℕ) (t : Trade) : Type 0 where
  pub base_fits : t.base.0 ≤ s
  pub quote_fits : t.quote.0 ≤ q
  pub not_above : t.quote.0 * million ≤ hi * t.base.0
  pub not_below : lo * t.base.0 ≤ t.quote.0 * million

-- the quote of a trade is less than a unit above what its base comes to at r, or less than half a unit below it
pub record Near (r : ℕ) (t : Trade) : Type 0 where
  pub above : t.quote.0 * million < t.base.0 * r + million
  pub below : 2 * (t.base.0 * r) < 2 * (t.quote.0 * million) + million

-- the share law: offers os of a side that in all paid P and got G
pub record ShareLaw (T P G : ℕ) (os : List ℕ) : Type 0 where
  -- together the offers pay at least what the side paid, and less than one unit per offer more
  pub paid_enough : P ≤ sum_over (λ o. share_paid o P T) os
  pub paid_close : 0 < length os → sum_over (λ o. share_paid o P T) os < P + length os
  -- together they get at most what the side got, and less than one unit per offer less
  pub got_within : sum_over (λ o. share_got o G T) os ≤ G
  pub got_close : 0 < length os → G < sum_over (λ o. share_got o G T) os + length os
  -- what they take back is at most what the side did not pay
  pub refunds_fit : P ≤ T → sum_over (λ o. o - share_paid o P T) os ≤ T - P

-- a side that paid P and got G kept the round's bound: buys paid at most hi, and sells got at least lo
abbrev pub Rate : Side → ℕ → ℕ → ℕ → ℕ → Type 0
Rate Buy hi lo P G = P * million ≤ G * hi
Rate Sell hi lo P G = P * lo ≤ G * million

-- c is the smaller of a and b
abbrev pub Smaller : ℕ → ℕ → ℕ → Type 0
Smaller a b c = ((c ≡ a) × (a ≤ b)) ⊎ ((c ≡ b) × (b ≤ a))

-- m and c are what a match trades: "m = the smaller of S and Q×1,000,000/r rounded down; c = m×r/1,000,000 rounded up. Where c×1,000,000 > hi×m", L4: "c is
-- rounded down instead and kept when c is at least 1 and c×1,000,000 ≥ lo×m; only otherwise are m and c 0"
pub record Traded (q s r hi lo m c : ℕ) : Type 0 where
  pub fetched : ℕ
  pub fetched_is : RoundedDown (q * 1000000) r fetched
  pub base : ℕ
  pub smaller : Smaller s fetched base
  pub upper : ℕ
  pub upper_is : RoundedUp (base * r) 1000000 upper
  pub lower : ℕ
  pub lower_is : RoundedDown (base * r) 1000000 lower
  pub up : upper * 1000000 ≤ hi * base → (m ≡ base) × (c ≡ upper)
  pub down : hi * base < upper * 1000000 → 1 ≤ lower → lo * base ≤ lower * 1000000 → (m ≡ base) × (c ≡ lower)
  pub none : hi * base < upper * 1000000 → (lower ≡ 0) ⊎ (lower * 1000000 < lo * base) → (m ≡ 0) × (c ≡ 0)

-- sell and buy are the prices of side 1 and of side 0 k blocks after an auction's start, of len: "hi - (hi - lo)×k/L, the quotient rounded down" and
-- "lo + (hi - lo)×k/L, again rounded down", each stepped as L6 says
pub record PricedAt (hi lo k len sell buy : ℕ) : Type 0 where
  pub distance : ℕ
  pub distance_is : lo + distance ≡ hi
  pub gone : ℕ
  pub gone_is : RoundedDown (distance * k) len gone
  pub left : ℕ
  pub left_is : left + gone ≡ hi
  pub sell_is : SteppedUp hi left sell
  pub buy_is : SteppedDown lo (lo + gone) buy

-- ---- every number by what its rounding means, with the papers' numbers and none of the definitions of Prices.antt in a hypothesis. Of any two numbers there is
-- at most one of each rounding (`DownAlone`, `UpAlone`), so no other number is so.

pub record NumbersRound : Type 0 where
  -- 5: "r×(1,000,000 + w)/1,000,000 rounded down"; "r×(1,000,000 - w)/1,000,000 rounded up"
  pub high : (r w : ℕ) → RoundedDown (r * (1000000 + w)) 1000000 (high_bound r w)
  pub low : (r w v : ℕ) → v + w ≡ 1000000 → RoundedUp (r * v) 1000000 (low_bound r w)
  -- 7: "the smaller of S and Q×1,000,000/r rounded down"; "m×r/1,000,000 rounded up"; L4: "rounded down instead"
  pub base : (q s r f : ℕ) → RoundedDown (q * 1000000) r f → Smaller s f (match_base q s r)
  pub upper : (m r : ℕ) → RoundedUp (m * r) 1000000 (match_quote m r)
  pub lower : (m r : ℕ) → RoundedDown (m * r) 1000000 (lower_quote m r)
  -- 8: "hi - (hi - lo)×k/L, the quotient rounded down"; "lo + (hi - lo)×k/L, again rounded down"
  pub sells : (hi lo d k len g : ℕ) → lo + d ≡ hi → k ≤ len → RoundedDown (d * k) len g → linear_price Sell hi lo k len + g ≡ hi
  pub buys : (hi lo d k len g : ℕ) → lo + d ≡ hi → RoundedDown (d * k) len g → linear_price Buy hi lo k len ≡ lo + g
  -- "pays n×price/1,000,000 rounded up"; "gets n×price/1,000,000 rounded down"
  pub pays : (n p : ℕ) → RoundedUp (n * p) 1000000 (quote_for Sell n p)
  pub gets : (n p : ℕ) → RoundedDown (n * p) 1000000 (quote_for Buy n p)
  -- 10: "pays s = o×P/T rounded up and gets o×G/T rounded down"
  pub paid : (o P T : ℕ) → 0 < T → RoundedUp (o * P) T (share_paid o P T)
  pub got : (o G T : ℕ) → 0 < T → RoundedDown (o * G) T (share_got o G T)
  pub share :
      (o : ℕ) (t : Totals) → 0 < t.total.0
      → RoundedUp (o * t.paid.0) t.total.0 (share_of o t).paid.0 × RoundedDown (o * t.got.0) t.total.0 (share_of o t).got.0
  -- "u units of quote fetch u×1,000,000/limit base, and u units of base fetch u×limit/1,000,000 quote, both rounded down"
  pub fetched_base : (limit u : ℕ) → 0 < limit → RoundedDown (u * 1000000) limit (fetches Buy limit u)
  pub fetched_quote : (limit u : ℕ) → RoundedDown (u * limit) 1000000 (fetches Sell limit u)

-- a match trades this, and no other two numbers are so
abbrev pub TradesAre : Type 0
TradesAre =
    (q s r hi lo : ℕ)
    → let t : Trade = trade_within q s r hi lo in
    (0 < r → Traded q s r hi lo t.base.0 t.quote.0)
    × ((m c : ℕ) → Traded q s r hi lo m c → (m ≡ t.base.0) × (c ≡ t.quote.0))

-- the prices of an auction are these, and no other two numbers are so
abbrev pub PricesAre : Type 0
PricesAre =
    (hi lo k len : ℕ)
    → (lo ≤ hi → 0 < len → k ≤ len → PricedAt hi lo k len (auction_price Sell hi lo k len) (auction_price Buy hi lo k len))
    × ((sell buy : ℕ) → PricedAt hi lo k len sell buy → (sell ≡ auction_price Sell hi lo k len) × (buy ≡ auction_price Buy hi lo k len))

-- so the quotes of a bid for n base are these
abbrev pub BidsAre : Type 0
BidsAre =
    (hi lo k len sell buy n : ℕ) → PricedAt hi lo k len sell buy
    → RoundedUp (n * sell) 1000000 (quote_for Sell n (auction_price Sell hi lo k len))
    × RoundedDown (n * buy) 1000000 (quote_for Buy n (auction_price Buy hi lo k len))

-- ---- the laws

-- the bounds lie equally far from the reference price
abbrev pub BoundsEven : Type 0
BoundsEven = (r w : ℕ) → w ≤ million → high_bound r w + low_bound r w ≡ r + r

-- an auction price lies between the bounds
abbrev pub PricesWithin : Type 0
PricesWithin =
    (x : Side) (hi lo k len : ℕ) → lo ≤ hi → 0 < len → k ≤ len → (lo ≤ auction_price x hi lo k len) × (auction_price x hi lo k len ≤ hi)

-- L6: it is document 01's price stepped, whatever the numbers, and no other number is
abbrev pub PricesStepped : Type 0
PricesStepped =
    (x : Side) (hi lo k len : ℕ)
    → let u : ℕ = linear_price x hi lo k len in
    Stepped x hi lo u (auction_price x hi lo k len) × ((p : ℕ) → Stepped x hi lo u p → p ≡ auction_price x hi lo k len)

-- an auction begins at hi on side 1 and at lo on side 0
abbrev pub PricesStart : Type 0
PricesStart = (hi lo len : ℕ) → (auction_price Sell hi lo 0 len ≡ hi) × (auction_price Buy hi lo 0 len ≡ lo)

-- it does not turn back
abbrev pub PricesMove : Type 0
PricesMove = (x : Side) (hi lo j k len : ℕ) → 0 < len → j ≤ k → Moves x (auction_price x hi lo j len) (auction_price x hi lo k len)

-- side 1 comes to lo at the last block only
abbrev pub LowAtEnd : Type 0
LowAtEnd = (hi lo k len : ℕ) → lo < hi → 0 < len → k ≤ len → auction_price Sell hi lo k len ≡ lo → k ≡ len

-- L6: "At k = L the side 1 price may now stand above lo, and the side 0 price below hi, by less than 100"
abbrev pub PricesEnd : Type 0
PricesEnd =
    (hi lo len : ℕ) → lo ≤ hi → 0 < len
    → (lo ≤ auction_price Sell hi lo len len) × (auction_price Sell hi lo len len < lo + 100)
    × (auction_price Buy hi lo len len ≤ hi) × (hi < auction_price Buy hi lo len len + 100)

-- what a match trades, r lying between the bounds, fits both sides and both bounds
abbrev pub TradesFit : Type 0
TradesFit = (q s r hi lo : ℕ) → lo ≤ r → r ≤ hi → TradeFits q s lo hi (trade_within q s r hi lo)

-- where c rounded up keeps hi it is traded: there L4 changes nothing
abbrev pub UpperKept : Type 0
UpperKept =
    (q s r hi lo : ℕ)
    → let m : ℕ = match_base q s r in
    match_quote m r * million ≤ hi * m → trade_within q s r hi lo ≡ trade m (match_quote m r)

-- nor does it without slack, hi and lo being r: where c rounded up breaks hi nothing is traded
abbrev pub NoSlack : Type 0
NoSlack =
    (q s r : ℕ)
    → let m : ℕ = match_base q s r in
    r * m < match_quote m r * million → trade_within q s r r r ≡ trade 0 0

-- L4, "only otherwise are m and c 0": where nothing is traded, any c of at least 1 that keeps hi for m is below lo
abbrev pub DropsOnly : Type 0
DropsOnly =
    (q s r hi lo c : ℕ)
    → let m : ℕ = match_base q s r in
    (trade_within q s r hi lo).base.0 ≡ 0 → 1 ≤ c → c * million ≤ hi * m → c * million < lo * m

-- between bounds that lie equally far from r, what a match trades is near
abbrev pub QuotesNear : Type 0
QuotesNear = (q s r hi lo : ℕ) → hi + lo ≡ r + r → Near r (trade_within q s r hi lo)

-- "Find the share's law once for all sides and tokens": offers of any side whose sum is its total T
abbrev pub SharesHold : Type 0
SharesHold = (T P G : ℕ) (os : List ℕ) → 0 < T → sum_over (λ o. o) os ≡ T → ShareLaw T P G os

-- a ticket that entered within the round's bound gets at least what one unit less than it pays fetches at its limit
abbrev pub LimitsHold : Type 0
LimitsHold =
    (x : Side) (limit hi lo o P G T : ℕ) → 0 < T → 0 < limit → off_limit x limit hi lo ≡ false → Rate x hi lo P G
    → fetches x limit (share_paid o P T - 1) ≤ share_got o G T
