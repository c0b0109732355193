-- The numbers of document 01's calls open, match, bid and claim, and of document 02's L4 on match and L6 on bid. A price counts millionths of
-- a quote unit per base unit.
use Rattle.std.specs.Prelude.{Bool, cond, ◌&&◌, ℕ, ◌+◌, ◌-◌, ◌*◌, min, max, leb, ltb}
use Rattle.units.specs.Counts.{amount, million}
use Rattle.units.specs.Rounding.{down, up}
use Rattle.pricing.specs.declared.Side.{Side}
use Rattle.pricing.specs.declared.Side.TheVariants.{Buy, Sell}
use Rattle.pricing.specs.declared.Totals.{Totals}
use Rattle.pricing.specs.declared.Trade.{Trade}
use Rattle.pricing.specs.declared.Share.{Share}

-- ---- 5 open

-- "High bound hi = r×(1,000,000 + w)/1,000,000 rounded down"
unfoldable pub high_bound : ℕ → ℕ → ℕ
high_bound r w = down (r * (million + w)) million

-- "low bound lo = r×(1,000,000 - w)/1,000,000 rounded up"
unfoldable pub low_bound : ℕ → ℕ → ℕ
low_bound r w = up (r * (million - w)) million

-- ---- 6 enter

-- refusal 15: "buy limit below hi, or sell limit above lo"
abbrev pub off_limit : Side → ℕ → ℕ → ℕ → Bool
off_limit Buy limit hi lo = ltb limit hi
off_limit Sell limit hi lo = ltb lo limit

-- ---- 7 match

-- "m = the smaller of S and Q×1,000,000/r rounded down; c = m×r/1,000,000 rounded up"
unfoldable pub match_base : ℕ → ℕ → ℕ → ℕ
match_base q s r = min s (down (q * million) r)

unfoldable pub match_quote : ℕ → ℕ → ℕ
match_quote m r = up (m * r) million

abbrev pub trade : ℕ → ℕ → Trade
trade m c = record { base = amount m; quote = amount c }

-- L4: "c is rounded down instead"
unfoldable pub lower_quote : ℕ → ℕ → ℕ
lower_quote m r = down (m * r) million

-- L4: "and kept when c is at least 1 and c×1,000,000 ≥ lo×m; only otherwise are m and c 0"
abbrev pub lower_trade : ℕ → ℕ → ℕ → Trade
lower_trade lo m c = cond (leb 1 c && leb (lo * m) (c * million)) (trade m c) (trade 0 0)

-- "Where c×1,000,000 > hi×m", L4's "Where c rounded up breaks hi": in place of document 01's "m and c become 0" comes d, c rounded down
abbrev pub trade_or : ℕ → ℕ → ℕ → ℕ → ℕ → Trade
trade_or hi lo m c d = cond (ltb (hi * m) (c * million)) (lower_trade lo m d) (trade m c)

unfoldable pub trade_within : ℕ → ℕ → ℕ → ℕ → ℕ → Trade
trade_within q s r hi lo =
    trade_or hi lo (match_base q s r) (match_quote (match_base q s r) r) (lower_quote (match_base q s r) r)

-- ---- 8 bid

-- "Side 1 takes base left by the sells: price hi - (hi - lo)×k/L, the quotient rounded down"; "Side 0 takes quote left by the buys:
-- price lo + (hi - lo)×k/L, again rounded down"
abbrev pub linear_price : Side → ℕ → ℕ → ℕ → ℕ → ℕ
linear_price Buy hi lo k len = lo + down ((hi - lo) * k) len
linear_price Sell hi lo k len = hi - down ((hi - lo) * k) len

-- L6: "in steps of 100 millionths", the tick size
abbrev pub price_step : ℕ
price_step = 100

-- L6: "The price for side 1 is now rounded up to a multiple of 100, but never above hi."; "Where such a rounding would pass hi .. hi ..
-- itself is the price."
abbrev pub stepped_up : ℕ → ℕ → ℕ
stepped_up hi u = min hi (up u price_step * price_step)

-- L6: "The price for side 0 is rounded down to one, but never below lo."; ".. lo itself is the price."
abbrev pub stepped_down : ℕ → ℕ → ℕ
stepped_down lo u = max lo (down u price_step * price_step)

-- L6: "the stepped price", from which "Every cost, bound test and lot test works"
unfoldable pub auction_price : Side → ℕ → ℕ → ℕ → ℕ → ℕ
auction_price Buy hi lo k len = stepped_down lo (linear_price Buy hi lo k len)
auction_price Sell hi lo k len = stepped_up hi (linear_price Sell hi lo k len)

-- side 1: "the maker pays n×price/1,000,000 rounded up"; side 0: "gets n×price/1,000,000 rounded down"
unfoldable pub quote_for : Side → ℕ → ℕ → ℕ
quote_for Buy n p = down (n * p) million
quote_for Sell n p = up (n * p) million

-- ---- 10 claim

-- "an offer o pays s = o×P/T rounded up and gets o×G/T rounded down"
unfoldable pub share_paid : ℕ → ℕ → ℕ → ℕ
share_paid o P T = up (o * P) T

unfoldable pub share_got : ℕ → ℕ → ℕ → ℕ
share_got o G T = down (o * G) T

unfoldable pub share_of : ℕ → Totals → Share
share_of o side =
    record {
      paid = amount (share_paid o side.paid.0 side.total.0);
      got = amount (share_got o side.got.0 side.total.0);
    }

-- "At a limit, u units of quote fetch u×1,000,000/limit base, and u units of base fetch u×limit/1,000,000 quote, both rounded down"
unfoldable pub fetches : Side → ℕ → ℕ → ℕ
fetches Buy limit u = down (u * million) limit
fetches Sell limit u = down (u * limit) million
