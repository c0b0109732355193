-- The laws of Laws.antt in numbers: what each gives where it is just met, and what each refuses one unit further.
use Rattle.std.specs.Prelude.{ℕ, ◌+◌, ◌-◌, ◌*◌, ◌≤◌, ◌<◌, ◌≡◌, List, [], ◌∷◌}
use Rattle.pricing.specs.declared.Side.{Side}
use Rattle.pricing.specs.declared.Side.TheVariants.{Buy, Sell}
use Rattle.pricing.specs.declared.Trade.{Trade}
use Rattle.pricing.specs.Prices.{high_bound, low_bound, match_base, match_quote, trade, trade_within, linear_price, auction_price, share_paid, share_got, fetches}
use Rattle.pricing.specs.Laws.{Moves, SteppedUp, SteppedDown, TradeFits, Near, ShareLaw, Rate, BoundsEven, PricesWithin, PricesStepped, PricesStart, PricesMove, LowAtEnd, PricesEnd, TradesFit, UpperKept, NoSlack, DropsOnly, QuotesNear, SharesHold, LimitsHold}

-- "Offers 100, 100, 101 (T 301)"
abbrev pub three_offers : List ℕ
three_offers = 100 ∷ 100 ∷ 101 ∷ []

-- ---- what they give

pub record LawsUsed : Type 0 where
  -- a side's price moves up, or down
  pub buys_rise : (a b : ℕ) → Moves Buy a b → a ≤ b
  pub sells_fall : (a b : ℕ) → Moves Sell a b → b ≤ a
  -- buys paid at most 2.75 for a base unit, sells got at least 2.25
  pub buys_rate : (P G : ℕ) → Rate Buy 2750000 2250000 P G → P * 1000000 ≤ G * 2750000
  pub sells_rate : (P G : ℕ) → Rate Sell 2750000 2250000 P G → P * 2250000 ≤ G * 1000000
  -- a trade, with 10 quote on one side and 4 base on the other, between 2.25 and 2.75
  pub base_fits : (t : Trade) → TradeFits 10 4 2250000 2750000 t → t.base.0 ≤ 4
  pub quote_fits : (t : Trade) → TradeFits 10 4 2250000 2750000 t → t.quote.0 ≤ 10
  pub not_above : (t : Trade) → TradeFits 10 4 2250000 2750000 t → t.quote.0 * 1000000 ≤ 2750000 * t.base.0
  pub not_below : (t : Trade) → TradeFits 10 4 2250000 2750000 t → 2250000 * t.base.0 ≤ t.quote.0 * 1000000
  -- the three offers, whatever their side paid and got
  pub paid_enough : (P G : ℕ) → ShareLaw 301 P G three_offers → P ≤ 2 * share_paid 100 P 301 + share_paid 101 P 301
  pub paid_close : (P G : ℕ) → ShareLaw 301 P G three_offers → 2 * share_paid 100 P 301 + share_paid 101 P 301 < P + 3
  pub got_within : (P G : ℕ) → ShareLaw 301 P G three_offers → 2 * share_got 100 G 301 + share_got 101 G 301 ≤ G
  pub got_close : (P G : ℕ) → ShareLaw 301 P G three_offers → G < 2 * share_got 100 G 301 + share_got 101 G 301 + 3
  pub refunds_fit :
      (P G : ℕ) → ShareLaw 301 P G three_offers → P ≤ 301 → 2 * (100 - share_paid 100 P 301) + (101 - share_paid 101 P 301) ≤ 301 - P
  -- one offer
  pub one_offer : (P G : ℕ) → ShareLaw 1 P G (1 ∷ []) → (share_paid 1 P 1 < P + 1) × (G < share_got 1 G 1 + 1)
  -- the prices of both sides, at the first block and at the last, of one block, and where the bounds are the same
  pub prices_first : PricesWithin → (x : Side) (len : ℕ) → 0 < len → (93 ≤ auction_price x 100 93 0 len) × (auction_price x 100 93 0 len ≤ 100)
  pub prices_last : PricesWithin → (x : Side) (len : ℕ) → 0 < len → (93 ≤ auction_price x 100 93 len len) × (auction_price x 100 93 len len ≤ 100)
  pub prices_one : PricesWithin → (x : Side) (hi lo : ℕ) → lo ≤ hi → (lo ≤ auction_price x hi lo 1 1) × (auction_price x hi lo 1 1 ≤ hi)
  pub prices_same : PricesWithin → (x : Side) (k : ℕ) → k ≤ 64 → (5 ≤ auction_price x 5 5 k 64) × (auction_price x 5 5 k 64 ≤ 5)
  -- a stepped price, with hi 1,501 on side 1 and lo 501 on side 0
  pub up_reaches : (u p : ℕ) → SteppedUp 1501 u p → u ≤ p
  pub up_close : (u p : ℕ) → SteppedUp 1501 u p → p < u + 100
  pub up_within : (u p : ℕ) → SteppedUp 1501 u p → p ≤ 1501
  pub up_least : (u p : ℕ) → SteppedUp 1501 u p → u ≤ 1200 → p ≤ 1200
  pub down_reaches : (u p : ℕ) → SteppedDown 501 u p → p ≤ u
  pub down_close : (u p : ℕ) → SteppedDown 501 u p → u < p + 100
  pub down_within : (u p : ℕ) → SteppedDown 501 u p → 501 ≤ p
  pub down_greatest : (u p : ℕ) → SteppedDown 501 u p → 800 ≤ u → 800 ≤ p
  -- document 01's price stays where it is a multiple of 100
  pub sells_kept :
      PricesStepped → (hi lo k len m : ℕ) → linear_price Sell hi lo k len ≡ m * 100 → auction_price Sell hi lo k len ≡ linear_price Sell hi lo k len
  pub buys_kept :
      PricesStepped → (hi lo k len m : ℕ) → linear_price Buy hi lo k len ≡ m * 100 → auction_price Buy hi lo k len ≡ linear_price Buy hi lo k len
  -- no multiple of 100 from 2 to 4: 4 and 2 at every block of any auction
  pub stands_still :
      PricesStepped → PricesWithin → (k len : ℕ) → 0 < len → k ≤ len → (auction_price Sell 4 2 k len ≡ 4) × (auction_price Buy 4 2 k len ≡ 2)
  -- 1,200 is 1,168 stepped and 800 is 834 stepped, so these are the prices
  pub sell_alone : PricesStepped → auction_price Sell 1501 501 1 3 ≡ 1200
  pub buy_alone : PricesStepped → auction_price Buy 1501 501 1 3 ≡ 800
  -- the start of any auction; the way of one block between any bounds; lo at block 3 of 3 only, and at block 1 of 1 where hi is one above it
  pub starts_any : PricesStart → (hi lo len : ℕ) → (auction_price Sell hi lo 0 len ≡ hi) × (auction_price Buy hi lo 0 len ≡ lo)
  pub sells_move : PricesMove → (hi lo j k : ℕ) → j ≤ k → auction_price Sell hi lo k 1 ≤ auction_price Sell hi lo j 1
  pub buys_move : PricesMove → (hi lo j k : ℕ) → j ≤ k → auction_price Buy hi lo j 1 ≤ auction_price Buy hi lo k 1
  pub low_three : LowAtEnd → (k : ℕ) → k ≤ 3 → auction_price Sell 1500 500 k 3 ≡ 500 → k ≡ 3
  pub low_near : LowAtEnd → (lo k : ℕ) → k ≤ 1 → auction_price Sell (lo + 1) lo k 1 ≡ lo → k ≡ 1
  -- the end of any auction between 501 and 1,501, of one block between any bounds, and where the bounds are the same
  pub ends_any :
      PricesEnd → (len : ℕ) → 0 < len
      → (501 ≤ auction_price Sell 1501 501 len len) × (auction_price Sell 1501 501 len len < 601)
      × (auction_price Buy 1501 501 len len ≤ 1501) × (1401 < auction_price Buy 1501 501 len len)
  pub ends_one : PricesEnd → (hi lo : ℕ) → lo ≤ hi → (auction_price Sell hi lo 1 1 < lo + 100) × (hi < auction_price Buy hi lo 1 1 + 100)
  pub ends_same : PricesEnd → (len : ℕ) → 0 < len → (5 ≤ auction_price Sell 5 5 len len) × (auction_price Buy 5 5 len len ≤ 5)
  -- what any two sides trade where lo is r, and where hi is r
  pub trades_at_lo : TradesFit → (q s hi : ℕ) → 2500000 ≤ hi → TradeFits q s 2500000 hi (trade_within q s 2500000 hi 2500000)
  pub trades_at_hi : TradesFit → (q s lo : ℕ) → lo ≤ 2500000 → TradeFits q s lo 2500000 (trade_within q s 2500000 2500000 lo)
  -- where both are r a trade is exact
  pub trades_exact :
      TradesFit → (q s r : ℕ) → (trade_within q s r r r).quote.0 * 1000000 ≡ r * (trade_within q s r r r).base.0
  -- at 2.4 with hi 3, whatever the sides and lo are
  pub upper_any :
      UpperKept → (q s lo : ℕ) → match_quote (match_base q s 2400000) 2400000 * 1000000 ≤ 3000000 * match_base q s 2400000
      → trade_within q s 2400000 3000000 lo ≡ trade (match_base q s 2400000) (match_quote (match_base q s 2400000) 2400000)
  -- at 2.5 without slack
  pub no_slack_any :
      NoSlack → (q s : ℕ) → 2500000 * match_base q s 2500000 < match_quote (match_base q s 2500000) 2500000 * 1000000
      → trade_within q s 2500000 2500000 2500000 ≡ trade 0 0
  -- any two sides that trade nothing, at 2.1 between 1.89 and 2.31; and the marked edge, 100 quote and 3 base
  pub drops_any :
      DropsOnly → (q s c : ℕ) → (trade_within q s 2100000 2310000 1890000).base.0 ≡ 0 → 1 ≤ c
      → c * 1000000 ≤ 2310000 * match_base q s 2100000 → c * 1000000 < 1890000 * match_base q s 2100000
  pub drops_three : DropsOnly → (c : ℕ) → 1 ≤ c → c * 1000000 ≤ 2500000 * 3 → c * 1000000 < 2500000 * 3
  -- any bounds of 2.1, up to a slack of all of it; any two sides between any bounds equally far from it
  pub even_any : BoundsEven → (w : ℕ) → w ≤ 1000000 → high_bound 2100000 w + low_bound 2100000 w ≡ 4200000
  pub near_any :
      QuotesNear → (q s hi lo : ℕ) → hi + lo ≡ 4200000
      → let t : Trade = trade_within q s 2100000 hi lo in
      (t.quote.0 * 1000000 < t.base.0 * 2100000 + 1000000) × (2 * (t.base.0 * 2100000) < 2 * (t.quote.0 * 1000000) + 1000000)
  -- the three offers and the one, whatever is paid and got: more than T too
  pub shares_three : SharesHold → (P G : ℕ) → ShareLaw 301 P G three_offers
  pub shares_one : SharesHold → (P G : ℕ) → ShareLaw 1 P G (1 ∷ [])
  -- a buy whose limit is just hi, and a sell whose limit is just lo
  pub buy_limit :
      LimitsHold → (o P G T : ℕ) → 0 < T → P * 1000000 ≤ G * 2750000 → fetches Buy 2750000 (share_paid o P T - 1) ≤ share_got o G T
  pub sell_limit :
      LimitsHold → (o P G T : ℕ) → 0 < T → P * 2250000 ≤ G * 1000000 → fetches Sell 2250000 (share_paid o P T - 1) ≤ share_got o G T
  -- the least limit and the least total
  pub least_limit : LimitsHold → (o P G : ℕ) → P * 1000000 ≤ G → fetches Buy 1 (share_paid o P 1 - 1) ≤ share_got o G 1

-- ---- what meets them

pub record LawsMet : Type 0 where
  pub buys_level : Moves Buy 5 5
  pub sells_level : Moves Sell 5 5
  -- 11 paid for 4 base at 2.75, 9 got for 4 base at 2.25
  pub buys_rate : Rate Buy 2750000 2250000 11 4
  pub sells_rate : Rate Sell 2750000 2250000 4 9
  -- stepped by 99, by 1, by nothing, and to hi or lo: where a multiple is further off, and where the price is there
  pub up_most : SteppedUp 1501 1101 1200
  pub up_one : SteppedUp 1501 1199 1200
  pub up_none : SteppedUp 1501 1200 1200
  pub up_capped : SteppedUp 1199 1101 1199
  pub up_bound : SteppedUp 1501 1501 1501
  pub down_most : SteppedDown 501 899 800
  pub down_one : SteppedDown 501 801 800
  pub down_none : SteppedDown 501 800 800
  pub down_floored : SteppedDown 801 899 801
  pub down_bound : SteppedDown 501 501 501
  -- 4 base for 10 quote: all of both sides, at hi and at lo
  pub trade_fits : TradeFits 10 4 2500000 2500000 (trade 4 10)
  -- 3 and 2 for one base, a millionth nearer than a unit above and half a unit below
  pub near_above : Near 2000001 (trade 1 3)
  pub near_below : Near 2499999 (trade 1 2)

-- ---- what they refuse, one unit further

pub record LawsRefused : Type 0 where
  pub buys_fall : Moves Buy 6 5 → ⊥
  pub sells_rise : Moves Sell 5 6 → ⊥
  -- one more paid, one less got, one millionth off
  pub buys_paid : Rate Buy 2750000 2250000 12 4 → ⊥
  pub buys_got : Rate Buy 2750000 2250000 11 3 → ⊥
  pub buys_high : Rate Buy 2749999 2250000 11 4 → ⊥
  pub sells_paid : Rate Sell 2750000 2250000 5 9 → ⊥
  pub sells_got : Rate Sell 2750000 2250000 4 8 → ⊥
  pub sells_low : Rate Sell 2750000 2250001 4 9 → ⊥
  -- stepped the wrong way, a step too far, past the bound
  pub up_short : SteppedUp 1501 1201 1200 → ⊥
  pub up_far : SteppedUp 1501 1100 1200 → ⊥
  pub up_over : SteppedUp 1199 1168 1200 → ⊥
  pub down_short : SteppedDown 501 799 800 → ⊥
  pub down_far : SteppedDown 501 900 800 → ⊥
  pub down_over : SteppedDown 801 834 800 → ⊥
  -- a step of 10; the bound itself, with a multiple before it
  pub up_ten : SteppedUp 1501 1168 1170 → ⊥
  pub down_ten : SteppedDown 501 834 830 → ⊥
  pub up_past : SteppedUp 1250 1168 1250 → ⊥
  pub down_past : SteppedDown 750 834 750 → ⊥
  -- an end by less than 99: 501 ends at 600, and 1,599 at 1,500
  pub sells_end : auction_price Sell 1501 501 3 3 < 600 → ⊥
  pub buys_end : 1599 < auction_price Buy 1599 599 3 3 + 99 → ⊥
  -- 4 base for 10 quote: with 3 base, with 9 quote, with bounds just under the price, and just above it
  pub base_over : TradeFits 10 3 2500000 2500000 (trade 4 10) → ⊥
  pub quote_over : TradeFits 9 4 2500000 2500000 (trade 4 10) → ⊥
  pub price_above : TradeFits 10 4 2499999 2499999 (trade 4 10) → ⊥
  pub price_below : TradeFits 10 4 2500001 2500001 (trade 4 10) → ⊥
  -- why the law asks r ≤ hi: for a quote rounded down hi is not tested again, and at r 3 with a hi of a millionth one base brings 3
  pub high_below : TradeFits 100 1 0 1 (trade_within 100 1 3000000 1 0) → ⊥
  -- 3 and 2 for one base, a unit above and half a unit below
  pub unit_above : Near 2000000 (trade 1 3) → ⊥
  pub half_below : Near 2500000 (trade 1 2) → ⊥
  -- offers that are not their side's: 1 of 2 pays 1 where 2 were paid; 2 of 1 pay 2 where 1 was paid
  pub paid_short : ShareLaw 2 2 0 (1 ∷ []) → ⊥
  pub paid_over : ShareLaw 1 1 0 (2 ∷ []) → ⊥
  -- 2 and 1 of 2 get 3 where 2 were got; 1 of 2 gets 1 of 2
  pub got_over : ShareLaw 2 1 2 (2 ∷ 1 ∷ []) → ⊥
  pub got_short : ShareLaw 2 0 2 (1 ∷ []) → ⊥
  -- 2 of 1 take back 2 where nothing was paid
  pub refunds_over : ShareLaw 1 0 0 (2 ∷ []) → ⊥
