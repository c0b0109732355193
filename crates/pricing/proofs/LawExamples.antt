-- The laws in the numbers of specs/LawExamples.antt: used, met and refused.
use Prim.Native.Nat.{ℕ, ◌+◌, ◌*◌, ◌≤◌, ◌<◌}
use mathlib.Core.Path.{◌≡◌, refl, sym}
use mathlib.Core.Logic.{◌⊎◌, inl, inr}
use mathlib.Core.List.{[], ◌∷◌}
use native.Mathlib.Omega.{arith}
use Rattle.units.specs.Rounding.{down, up}
use Rattle.units.specs.Sums.{sum_over}
use Rattle.pricing.specs.declared.Side.TheVariants.{Buy, Sell}
use Rattle.pricing.specs.Prices.{lower_quote, match_base, match_quote, trade_within, auction_price, share_paid, share_got}
use Rattle.pricing.specs.Laws.{SteppedUp, SteppedDown, PricesWithin, PricesStepped}
use Rattle.pricing.specs.LawExamples.{three_offers, LawsUsed, LawsMet, LawsRefused}

-- the nearest multiple of 100 on the way to the bound, and the bound where none is before it
up_to : (hi u m : ℕ) → u ≤ m * 100 → m * 100 ≤ hi → m * 100 < u + 100 → SteppedUp hi u (m * 100)
up_to hi u m a b c = record { reaches = a; within = b; multiple = inl (m, refl); least = λ n l. omega (arith, l, c); close = c }

up_all : (hi u m : ℕ) → u ≤ hi → hi < u + 100 → m * 100 < u → hi ≤ (m + 1) * 100 → SteppedUp hi u hi
up_all hi u m a c d b =
    record { reaches = a; within = omega arith; multiple = inr refl; least = λ n l. omega (arith, l, d, b); close = c }

down_to : (lo u m : ℕ) → m * 100 ≤ u → lo ≤ m * 100 → u < m * 100 + 100 → SteppedDown lo u (m * 100)
down_to lo u m a b c = record { reaches = a; within = b; multiple = inl (m, refl); greatest = λ n l. omega (arith, l, c); close = c }

down_all : (lo u m : ℕ) → lo ≤ u → u < lo + 100 → u < (m + 1) * 100 → m * 100 ≤ lo → SteppedDown lo u lo
down_all lo u m a c d b =
    record { reaches = a; within = omega arith; multiple = inr refl; greatest = λ n l. omega (arith, l, d, b); close = c }

-- between n hundred and the next there is no multiple of 100, so what is one or b is b
off_hundred : (p b n : ℕ) → n * 100 < p → p < (n + 1) * 100 → ((m : ℕ) × (p ≡ m * 100)) ⊎ (p ≡ b) → p ≡ b
off_hundred p b n l g (inl (m, e)) = absurd (omega (arith, e, l, g))
off_hundred p b n l g (inr e) = e

stands_still : PricesStepped → PricesWithin → (k len : ℕ) → 0 < len → k ≤ len → (auction_price Sell 4 2 k len ≡ 4) × (auction_price Buy 4 2 k len ≡ 2)
stands_still w v k len h g =
    let sell = v Sell 4 2 k len (omega arith) h g in
    let buy = v Buy 4 2 k len (omega arith) h g in (
      off_hundred _ 4 0 (omega (arith, sell.0)) (omega (arith, sell.1)) (w Sell 4 2 k len).0.multiple,
      off_hundred _ 2 0 (omega (arith, buy.0)) (omega (arith, buy.1)) (w Buy 4 2 k len).0.multiple,
    )

pub laws_used : LawsUsed
unfolding sum_over trade_within match_base match_quote lower_quote down up
laws_used =
    record {
      buys_rise = λ a b m. m;
      sells_fall = λ a b m. m;
      buys_rate = λ P G r. r;
      sells_rate = λ P G r. r;
      base_fits = λ t f. f.base_fits;
      quote_fits = λ t f. f.quote_fits;
      not_above = λ t f. f.not_above;
      not_below = λ t f. f.not_below;
      paid_enough = λ P G s. omega (arith, s.paid_enough);
      paid_close = λ P G s. omega (arith, s.paid_close (omega arith));
      got_within = λ P G s. omega (arith, s.got_within);
      got_close = λ P G s. omega (arith, s.got_close (omega arith));
      refunds_fit = λ P G s l. omega (arith, s.refunds_fit l);
      one_offer = λ P G s. (omega (arith, s.paid_close (omega arith)), omega (arith, s.got_close (omega arith)));
      prices_first = λ w x len l. w x 100 93 0 len (omega arith) l (omega arith);
      prices_last = λ w x len l. w x 100 93 len len (omega arith) l (omega arith);
      prices_one = λ w x hi lo l. w x hi lo 1 1 l (omega arith) (omega arith);
      prices_same = λ w x k l. w x 5 5 k 64 (omega arith) (omega arith) l;
      up_reaches = λ u p s. s.reaches;
      up_close = λ u p s. s.close;
      up_within = λ u p s. s.within;
      up_least = λ u p s l. omega (arith, s.least 12 (omega (arith, l)));
      down_reaches = λ u p s. s.reaches;
      down_close = λ u p s. s.close;
      down_within = λ u p s. s.within;
      down_greatest = λ u p s l. omega (arith, s.greatest 8 (omega (arith, l)));
      sells_kept = λ w hi lo k len m e. let s = (w Sell hi lo k len).0 in omega (arith, e, s.reaches, s.least m (omega (arith, e)));
      buys_kept = λ w hi lo k len m e. let s = (w Buy hi lo k len).0 in omega (arith, e, s.reaches, s.greatest m (omega (arith, e)));
      stands_still = stands_still;
      sell_alone = λ w. sym ((w Sell 1501 501 1 3).1 1200 (up_to 1501 1168 12 (omega arith) (omega arith) (omega arith)));
      buy_alone = λ w. sym ((w Buy 1501 501 1 3).1 800 (down_to 501 834 8 (omega arith) (omega arith) (omega arith)));
      starts_any = λ w hi lo len. w hi lo len;
      sells_move = λ w hi lo j k l. w Sell hi lo j k 1 (omega arith) l;
      buys_move = λ w hi lo j k l. w Buy hi lo j k 1 (omega arith) l;
      low_three = λ w k l e. w 1500 500 k 3 (omega arith) (omega arith) l e;
      low_near = λ w lo k l e. w (lo + 1) lo k 1 (omega arith) (omega arith) l e;
      ends_any = λ w len l. let e = w 1501 501 len (omega arith) l in (e.0, e.1, e.2, omega (arith, e.3));
      ends_one = λ w hi lo l. let e = w hi lo 1 l (omega arith) in (e.1, e.3);
      ends_same = λ w len l. let e = w 5 5 len (omega arith) l in (e.0, e.2);
      trades_at_lo = λ w q s hi l. w q s 2500000 hi 2500000 (omega arith) l;
      trades_at_hi = λ w q s lo l. w q s 2500000 2500000 lo l (omega arith);
      trades_exact = λ w q s r. let f = w q s r r r (omega arith) (omega arith) in omega (arith, f.not_above, f.not_below);
      upper_any = λ w q s lo l. w q s 2400000 3000000 lo l;
      no_slack_any = λ w q s l. w q s 2500000 l;
      drops_any = λ w q s c e p l. w q s 2100000 2310000 1890000 c e p l;
      drops_three = λ w c p l. w 100 3 2500000 2500000 2500000 c refl p l;
      even_any = λ w s l. w 2100000 s l;
      near_any = λ w q s hi lo e. let n = w q s 2100000 hi lo e in (n.above, n.below);
      shares_three = λ w P G. w 301 P G three_offers (omega arith) refl;
      shares_one = λ w P G. w 1 P G (1 ∷ []) (omega arith) refl;
      buy_limit = λ w o P G T p r. w Buy 2750000 2750000 2250000 o P G T p (omega arith) refl r;
      sell_limit = λ w o P G T p r. w Sell 2250000 2750000 2250000 o P G T p (omega arith) refl r;
      least_limit = λ w o P G r. w Buy 1 1 1 o P G 1 (omega arith) (omega arith) refl (omega (arith, r));
    }

pub laws_met : LawsMet
laws_met =
    record {
      buys_level = omega arith;
      sells_level = omega arith;
      buys_rate = omega arith;
      sells_rate = omega arith;
      up_most = up_to 1501 1101 12 (omega arith) (omega arith) (omega arith);
      up_one = up_to 1501 1199 12 (omega arith) (omega arith) (omega arith);
      up_none = up_to 1501 1200 12 (omega arith) (omega arith) (omega arith);
      up_capped = up_all 1199 1101 11 (omega arith) (omega arith) (omega arith) (omega arith);
      up_bound = up_all 1501 1501 15 (omega arith) (omega arith) (omega arith) (omega arith);
      down_most = down_to 501 899 8 (omega arith) (omega arith) (omega arith);
      down_one = down_to 501 801 8 (omega arith) (omega arith) (omega arith);
      down_none = down_to 501 800 8 (omega arith) (omega arith) (omega arith);
      down_floored = down_all 801 899 8 (omega arith) (omega arith) (omega arith) (omega arith);
      down_bound = down_all 501 501 5 (omega arith) (omega arith) (omega arith) (omega arith);
      trade_fits = record { base_fits = omega arith; quote_fits = omega arith; not_above = omega arith; not_below = omega arith };
      near_above = record { above = omega arith; below = omega arith };
      near_below = record { above = omega arith; below = omega arith };
    }

pub laws_refused : LawsRefused
unfolding auction_price trade_within match_base match_quote lower_quote share_paid share_got sum_over down up
laws_refused =
    record {
      buys_fall = λ m. omega (arith, m);
      sells_rise = λ m. omega (arith, m);
      buys_paid = λ r. omega (arith, r);
      buys_got = λ r. omega (arith, r);
      buys_high = λ r. omega (arith, r);
      sells_paid = λ r. omega (arith, r);
      sells_got = λ r. omega (arith, r);
      sells_low = λ r. omega (arith, r);
      up_short = λ s. omega (arith, s.reaches);
      up_far = λ s. omega (arith, s.close);
      up_over = λ s. omega (arith, s.within);
      down_short = λ s. omega (arith, s.reaches);
      down_far = λ s. omega (arith, s.close);
      down_over = λ s. omega (arith, s.within);
      up_ten = λ s. omega (arith, off_hundred 1170 1501 11 (omega arith) (omega arith) s.multiple);
      down_ten = λ s. omega (arith, off_hundred 830 501 8 (omega arith) (omega arith) s.multiple);
      up_past = λ s. omega (arith, s.least 12 (omega arith));
      down_past = λ s. omega (arith, s.greatest 8 (omega arith));
      sells_end = λ l. omega (arith, l);
      buys_end = λ l. omega (arith, l);
      base_over = λ f. let h : 4 ≤ 3 = f.base_fits in omega (arith, h);
      quote_over = λ f. let h : 10 ≤ 9 = f.quote_fits in omega (arith, h);
      price_above = λ f. let h : 10000000 ≤ 9999996 = f.not_above in omega (arith, h);
      price_below = λ f. let h : 10000004 ≤ 10000000 = f.not_below in omega (arith, h);
      high_below = λ f. let h : 3000000 ≤ 1 = f.not_above in omega (arith, h);
      unit_above = λ n. let h : 3000000 < 3000000 = n.above in omega (arith, h);
      half_below = λ n. let h : 5000000 < 5000000 = n.below in omega (arith, h);
      paid_short = λ s. let h : 2 ≤ 1 = s.paid_enough in omega (arith, h);
      paid_over = λ s. let h : 2 < 2 = s.paid_close (omega arith) in omega (arith, h);
      got_over = λ s. let h : 3 ≤ 2 = s.got_within in omega (arith, h);
      got_short = λ s. let h : 2 < 2 = s.got_close (omega arith) in omega (arith, h);
      refunds_over = λ s. let h : 2 ≤ 1 = s.refunds_fit (omega arith) in omega (arith, h);
    }
