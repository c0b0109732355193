-- Cases of the prices, trades and shares of document 01, and of document 02's L4 and L6, worked by hand.
use Rattle.std.specs.Prelude.{ℕ, Bool, true, false, List, [], ◌∷◌, map}
use Rattle.units.specs.Counts.{amount}
use Rattle.pricing.specs.declared.Side.{Side}
use Rattle.pricing.specs.declared.Side.TheVariants.{Buy, Sell}
use Rattle.pricing.specs.declared.Trade.{Trade}
use Rattle.pricing.specs.declared.Share.{Share}
use Rattle.pricing.specs.Prices.{
  high_bound,
  low_bound,
  off_limit,
  match_base,
  match_quote,
  lower_quote,
  trade_within,
  linear_price,
  stepped_up,
  stepped_down,
  auction_price,
  quote_for,
  share_paid,
  share_got,
  share_of,
  fetches,
}

-- ---- 5 open: hi and lo of a reference price and a slack

abbrev pub bounds : ℕ → ℕ → List ℕ
bounds r w = high_bound r w ∷ low_bound r w ∷ []

unfoldable pub open_cases : List (List ℕ × List ℕ)
open_cases =
    -- "r 1, w 500,000: hi 1, lo 1."; "r 3, same w: hi 4, lo 2."; the day's
    (bounds 1 500000, 1 ∷ 1 ∷ [])
    ∷ (bounds 3 500000, 4 ∷ 2 ∷ [])
    ∷ (bounds 2500000 100000, 2750000 ∷ 2250000 ∷ [])
    -- no slack, and the largest terms
    ∷ (bounds 7 0, 7 ∷ 7 ∷ [])
    ∷ (bounds 1000000000 500000, 1500000000 ∷ 500000000 ∷ [])
    -- 333,333 × 1.123456 = 374,484.9.., 333,333 × 0.876544 = 292,181.0..
    ∷ (bounds 333333 123456, 374484 ∷ 292182 ∷ [])
    ∷ []

-- ---- 6 enter: "buy limit below hi, or sell limit above lo", with hi 2,750,000 and lo 2,250,000

unfoldable pub limit_cases : List (List Bool × List Bool)
limit_cases =
    -- a buy's limit below lo, between, just below hi, at hi and above it
    (
      map (λ n. off_limit Buy n 2750000 2250000) (2000000 ∷ 2300000 ∷ 2749999 ∷ 2750000 ∷ 2750001 ∷ []),
      true ∷ true ∷ true ∷ false ∷ false ∷ [],
    )
    -- a sell's limit below lo, at it, just above it, between and above hi
    ∷ (
      map (λ n. off_limit Sell n 2750000 2250000) (2249999 ∷ 2250000 ∷ 2250001 ∷ 2300000 ∷ 3000000 ∷ []),
      false ∷ false ∷ true ∷ true ∷ true ∷ [],
    )
    ∷ []

-- ---- 7 match: base and quote

unfoldable pub match_cases : List (List ℕ × List ℕ)
match_cases =
    -- S the smaller, Q×1,000,000/r the smaller, both the same: 600 quote fetch 240 base at 2.5
    (map (λ s. match_base 600 s 2500000) (100 ∷ 239 ∷ 240 ∷ 241 ∷ 300 ∷ []), 100 ∷ 239 ∷ 240 ∷ 240 ∷ 240 ∷ [])
    -- "rounded down": 7 / 3; 3 quote at a millionth
    ∷ (match_base 7 100 3000000 ∷ match_base 3 5000000 1 ∷ match_base 0 5 1 ∷ [], 2 ∷ 3000000 ∷ 0 ∷ [])
    -- "rounded up": 600, 7.5, 10 and a millionth
    ∷ (
      match_quote 240 2500000 ∷ match_quote 3 2500000 ∷ match_quote 4 2500000 ∷ match_quote 1 1 ∷ match_quote 0 5 ∷ [],
      600 ∷ 8 ∷ 10 ∷ 1 ∷ 0 ∷ [],
    )
    -- "rounded down instead": of the same five
    ∷ (
      lower_quote 240 2500000 ∷ lower_quote 3 2500000 ∷ lower_quote 4 2500000 ∷ lower_quote 1 1 ∷ lower_quote 0 5 ∷ [],
      600 ∷ 7 ∷ 10 ∷ 0 ∷ 0 ∷ [],
    )
    ∷ []

abbrev pub pair : Trade → List ℕ
pair t = t.base.0 ∷ t.quote.0 ∷ []

-- at reference price r and slack w, what buys of q quote and sells of s base trade
abbrev pub matched : ℕ → ℕ → ℕ → ℕ → List ℕ
matched r w q s = pair (trade_within q s r (high_bound r w) (low_bound r w))

unfoldable pub trade_cases : List (List ℕ × List ℕ)
trade_cases =
    -- the day's
    (matched 2500000 100000 600 300, 240 ∷ 600 ∷ [])
    -- "r 2,500,000, w 0, Q 100: S 3 gives 0, 0; S 4 gives 4, 10.": 4 costs just hi
    ∷ (matched 2500000 0 100 3, 0 ∷ 0 ∷ [])
    ∷ (matched 2500000 0 100 4, 4 ∷ 10 ∷ [])
    -- "With r 2,100,000 and slack 100,000, one base unit against enough quote", between 1.89 and 2.31: 3 quote are enough, 2 fetch no base
    ∷ (matched 2100000 100000 1000 1, 1 ∷ 2 ∷ [])
    ∷ (matched 2100000 100000 3 1, 1 ∷ 2 ∷ [])
    ∷ (matched 2100000 100000 2 1, 0 ∷ 0 ∷ [])
    -- three base come to 6.3: 7 are above 6.93, 6 not below 5.67; 7 quote fetch three base
    ∷ (matched 2100000 100000 1000 3, 3 ∷ 6 ∷ [])
    ∷ (matched 2100000 100000 7 100, 3 ∷ 6 ∷ [])
    -- 2.4 for one base, where hi is 2.999997, and where it is just 3: rounded up wherever that keeps hi, though 2 is nearer and keeps lo
    ∷ (matched 2400000 249999 1000 1, 1 ∷ 2 ∷ [])
    ∷ (matched 2400000 250000 1000 1, 1 ∷ 3 ∷ [])
    -- "c×1,000,000 ≥ lo×m": 2 for one base, where lo is 2.000002, and where it is just 2
    ∷ (matched 2400000 166666 1000 1, 0 ∷ 0 ∷ [])
    ∷ (matched 2400000 166667 1000 1, 1 ∷ 2 ∷ [])
    -- "c is at least 1": 1.000001 down is 1, 1.2 for two base too. 0.6 down is 0, and below lo as well: the test decides only at a lo of 0, which
    -- no round has
    ∷ (matched 1000001 1 1000 1, 1 ∷ 1 ∷ [])
    ∷ (matched 600000 500000 1000 2, 2 ∷ 1 ∷ [])
    ∷ (matched 600000 500000 1000 1, 0 ∷ 0 ∷ [])
    ∷ (pair (trade_within 1000 1 600000 900000 0), 0 ∷ 0 ∷ [])
    -- rounded up where that keeps hi: 1.5, which down would keep lo; 3.9, which would not; 7.5, where 8 quote fetch three base
    ∷ (matched 1500000 500000 9 1, 1 ∷ 2 ∷ [])
    ∷ (matched 1300000 100000 1000 3, 3 ∷ 4 ∷ [])
    ∷ (matched 2500000 100000 8 100, 3 ∷ 8 ∷ [])
    -- much base: 333,332.000001, and 333,333 are above hi by two millionths
    ∷ (matched 333333 4 1000000 999997, 999997 ∷ 333332 ∷ [])
    -- numbers that no round has, hi below r and lo 0: 5 quote fetch one base
    ∷ (pair (trade_within 5 9 3000000 2000000 0), 1 ∷ 3 ∷ [])
    -- 7.5 for three base, with hi on either side of 8 / 3, and lo of 7 / 3
    ∷ (pair (trade_within 100 3 2500000 2666667 2333333), 3 ∷ 8 ∷ [])
    ∷ (pair (trade_within 100 3 2500000 2666666 2333333), 3 ∷ 7 ∷ [])
    ∷ (pair (trade_within 100 3 2500000 2666666 2333334), 0 ∷ 0 ∷ [])
    -- 1 for one base, where hi is a millionth less
    ∷ (matched 999999 0 1 1, 0 ∷ 0 ∷ [])
    -- nothing on a side
    ∷ (matched 2500000 100000 0 5, 0 ∷ 0 ∷ [])
    ∷ (matched 2500000 100000 5 0, 0 ∷ 0 ∷ [])
    ∷ []

-- ---- 8 bid

-- at blocks 0 to 3 of 3 document 01's prices, and the stepped ones
abbrev pub linear_prices : Side → ℕ → ℕ → List ℕ
linear_prices x hi lo = map (λ k. linear_price x hi lo k 3) (0 ∷ 1 ∷ 2 ∷ 3 ∷ [])

abbrev pub stepped_prices : Side → ℕ → ℕ → List ℕ
stepped_prices x hi lo = map (λ k. auction_price x hi lo k 3) (0 ∷ 1 ∷ 2 ∷ 3 ∷ [])

-- the price half way, at block 1 of 2
abbrev pub half_way : Side → ℕ → ℕ → ℕ
half_way x hi lo = auction_price x hi lo 1 2

unfoldable pub price_cases : List (List ℕ × List ℕ)
price_cases =
    -- hi - lo 7 in three: 0, 2.3.., 4.6.. and 7, rounded down
    (linear_prices Sell 100 93, 100 ∷ 98 ∷ 96 ∷ 93 ∷ [])
    ∷ (linear_prices Buy 100 93, 93 ∷ 95 ∷ 97 ∷ 100 ∷ [])
    -- "rounded up to a multiple of 100, but never above hi", here 1,501; "rounded down to one, but never below lo", here 501
    ∷ (
      map (stepped_up 1501) (0 ∷ 1 ∷ 99 ∷ 100 ∷ 101 ∷ 1400 ∷ 1401 ∷ 1500 ∷ 1501 ∷ []),
      0 ∷ 100 ∷ 100 ∷ 100 ∷ 200 ∷ 1400 ∷ 1500 ∷ 1500 ∷ 1501 ∷ [],
    )
    ∷ (
      map (stepped_down 501) (501 ∷ 599 ∷ 600 ∷ 601 ∷ 699 ∷ 700 ∷ 1499 ∷ 1500 ∷ 1501 ∷ []),
      501 ∷ 501 ∷ 600 ∷ 600 ∷ 600 ∷ 700 ∷ 1400 ∷ 1500 ∷ 1500 ∷ [],
    )
    -- bounds off the hundred: side 1 ends 99 above lo, side 0 1 below hi
    ∷ (linear_prices Sell 1501 501, 1501 ∷ 1168 ∷ 835 ∷ 501 ∷ [])
    ∷ (stepped_prices Sell 1501 501, 1501 ∷ 1200 ∷ 900 ∷ 600 ∷ [])
    ∷ (linear_prices Buy 1501 501, 501 ∷ 834 ∷ 1167 ∷ 1501 ∷ [])
    ∷ (stepped_prices Buy 1501 501, 501 ∷ 800 ∷ 1100 ∷ 1500 ∷ [])
    -- the other way round: 1 above lo, 99 below hi
    ∷ (stepped_prices Sell 1599 599, 1599 ∷ 1300 ∷ 1000 ∷ 600 ∷ [])
    ∷ (stepped_prices Buy 1599 599, 599 ∷ 900 ∷ 1200 ∷ 1500 ∷ [])
    -- bounds on it: at both ends the bounds themselves
    ∷ (stepped_prices Sell 1500 500, 1500 ∷ 1200 ∷ 900 ∷ 500 ∷ [])
    ∷ (stepped_prices Buy 1500 500, 500 ∷ 800 ∷ 1100 ∷ 1500 ∷ [])
    -- half way: 201, 200 and 199 on side 1, stepped by 99, by nothing and by 1; the same three on side 0, by 1, by nothing and by 99
    ∷ (half_way Sell 301 100 ∷ half_way Sell 300 100 ∷ half_way Sell 299 99 ∷ [], 300 ∷ 200 ∷ 200 ∷ [])
    ∷ (half_way Buy 301 101 ∷ half_way Buy 300 100 ∷ half_way Buy 299 99 ∷ [], 200 ∷ 200 ∷ 100 ∷ [])
    -- "Where such a rounding would pass hi or lo, hi or lo itself is the price": 250 up to 299, 300, and 300 below 301; down to 201, 200, and
    -- 200 above 199
    ∷ (half_way Sell 299 201 ∷ half_way Sell 300 200 ∷ half_way Sell 301 199 ∷ [], 299 ∷ 300 ∷ 300 ∷ [])
    ∷ (half_way Buy 299 201 ∷ half_way Buy 300 200 ∷ half_way Buy 301 199 ∷ [], 201 ∷ 200 ∷ 200 ∷ [])
    -- no multiple of 100 from lo to hi: the auction stands still. hi 4 and lo 2 are those of r 3 with slack 500,000
    ∷ (stepped_prices Sell 4 2, 4 ∷ 4 ∷ 4 ∷ 4 ∷ [])
    ∷ (stepped_prices Buy 4 2, 2 ∷ 2 ∷ 2 ∷ 2 ∷ [])
    ∷ (stepped_prices Sell 199 101, 199 ∷ 199 ∷ 199 ∷ 199 ∷ [])
    ∷ (stepped_prices Buy 199 101, 101 ∷ 101 ∷ 101 ∷ 101 ∷ [])
    -- one at a bound alone
    ∷ (stepped_prices Sell 100 93, 100 ∷ 100 ∷ 100 ∷ 100 ∷ [])
    ∷ (stepped_prices Buy 100 93, 93 ∷ 93 ∷ 93 ∷ 100 ∷ [])
    -- no slack
    ∷ (auction_price Sell 2500050 2500050 7 9 ∷ auction_price Buy 2500050 2500050 7 9 ∷ [], 2500050 ∷ 2500050 ∷ [])
    -- the largest bounds, 1,166,666,667 and 833,333,333 at block 1; and a step that passes 32 bits
    ∷ (stepped_prices Sell 1500000000 500000000, 1500000000 ∷ 1166666700 ∷ 833333400 ∷ 500000000 ∷ [])
    ∷ (stepped_prices Buy 1500000000 500000000, 500000000 ∷ 833333300 ∷ 1166666600 ∷ 1500000000 ∷ [])
    ∷ (half_way Sell 4294967295 4294967201 ∷ half_way Buy 4294967295 4294967201 ∷ [], 4294967295 ∷ 4294967201 ∷ [])
    ∷ []

-- the quotes for n base at blocks 0, 5 and 10 of 10 between 2.75 and 2.25
abbrev pub quotes : Side → ℕ → List ℕ
quotes x n = map (λ k. quote_for x n (auction_price x 2750000 2250000 k 10)) (0 ∷ 5 ∷ 10 ∷ [])

unfoldable pub bid_cases : List (List ℕ × List ℕ)
bid_cases =
    -- the day's bid at k 5 costs 150; "at k 0 for 60 base costs 165, at k 10 costs 135"; the buys' prices the other way
    (quotes Sell 60, 165 ∷ 150 ∷ 135 ∷ [])
    ∷ (quotes Buy 60, 135 ∷ 150 ∷ 165 ∷ [])
    -- 90.75, 82.5 and 74.25: side 1 pays rounded up, side 0 gets rounded down
    ∷ (quotes Sell 33, 91 ∷ 83 ∷ 75 ∷ [])
    ∷ (quotes Buy 33, 74 ∷ 82 ∷ 90 ∷ [])
    ∷ (quote_for Sell 1 1 ∷ quote_for Sell 0 5 ∷ quote_for Buy 1 999999 ∷ quote_for Buy 1 1000000 ∷ [], 1 ∷ 0 ∷ 0 ∷ 1 ∷ [])
    -- above 32 bits
    ∷ (quote_for Sell 4294967295 1500000001 ∷ quote_for Buy 4294967295 1500000001 ∷ [], 6442450946795 ∷ 6442450946794 ∷ [])
    ∷ []

-- ---- 10 claim

abbrev pub shared : Share → List ℕ
shared s = s.paid.0 ∷ s.got.0 ∷ []

unfoldable pub claim_cases : List (List ℕ × List ℕ)
claim_cases =
    -- "Offers 100, 100, 101 (T 301), P 200, G 80: paid 67, 67, 68; got 26 each"
    (map (λ o. share_paid o 200 301) (100 ∷ 100 ∷ 101 ∷ []), 67 ∷ 67 ∷ 68 ∷ [])
    ∷ (map (λ o. share_got o 80 301) (100 ∷ 100 ∷ 101 ∷ []), 26 ∷ 26 ∷ 26 ∷ [])
    -- the whole side, one unit, and nothing paid or got
    ∷ (map (λ o. share_paid o 200 301) (0 ∷ 1 ∷ 301 ∷ []), 0 ∷ 1 ∷ 200 ∷ [])
    ∷ (map (λ o. share_got o 80 301) (0 ∷ 1 ∷ 3 ∷ 4 ∷ 301 ∷ []), 0 ∷ 0 ∷ 0 ∷ 1 ∷ 80 ∷ [])
    ∷ (share_paid 5 0 301 ∷ share_got 5 0 301 ∷ [], 0 ∷ 0 ∷ [])
    ∷ (shared (share_of 100 (record { total = amount 301; paid = amount 200; got = amount 80 })), 67 ∷ 26 ∷ [])
    ∷ (shared (share_of 101 (record { total = amount 301; paid = amount 200; got = amount 80 })), 68 ∷ 26 ∷ [])
    -- "u units of quote fetch u×1,000,000/limit base": 26.4, 26.8, 27.2 at 2.5; "u units of base fetch u×limit/1,000,000 quote": 72, 74.25
    ∷ (map (fetches Buy 2500000) (0 ∷ 66 ∷ 67 ∷ 68 ∷ []), 0 ∷ 26 ∷ 26 ∷ 27 ∷ [])
    ∷ (map (fetches Sell 2250000) (0 ∷ 32 ∷ 33 ∷ []), 0 ∷ 72 ∷ 74 ∷ [])
    ∷ (fetches Buy 1 3 ∷ fetches Buy 2000000000 2000 ∷ fetches Sell 1 999999 ∷ fetches Sell 1 1000000 ∷ [], 3000000 ∷ 1 ∷ 0 ∷ 1 ∷ [])
    ∷ []
