-- States that the bounds refuse: each by one bound.
use Prim.Native.Nat.{ℕ, ◌≤◌, ◌<◌}
use mathlib.Core.Path.{◌≡◌, ◌∙◌, ap, refl}
use native.Mathlib.Omega.{arith}
use Rattle.units.specs.Sums.{only}
use Rattle.pricing.specs.declared.Side.TheVariants.{Buy, Sell}
use Rattle.model.specs.State.{order_in}
use Rattle.cases.specs.BoundCases.{BoundsRefused}
use Rattle.model.proofs.Computing.{call_computes}

pub bounds_refused : BoundsRefused
unfolding only call_computes
bounds_refused =
    record {
      rows_17 = λ b. let h : ◌≡◌ {A = ℕ} 17 16 = b.rows.rows in omega (arith, h);
      cells_3 = λ b. let h : ◌≡◌ {A = ℕ} 3 4 = b.rows.cells 15 (omega arith) in omega (arith, h);
      three_supplies = λ b. let h : ◌≡◌ {A = ℕ} 3 4 = b.supplies in omega (arith, h);
      three_residues = λ b. let h : ◌≡◌ {A = ℕ} 3 4 = b.residues in omega (arith, h);
      tickets_63 = λ b. let h : ◌≡◌ {A = ℕ} 63 64 = b.tickets in omega (arith, h);
      two_markets = λ b. let h : ◌≡◌ {A = ℕ} 2 3 = b.markets in omega (arith, h);
      over_quote_lem = λ b. let h : 4 ≤ 3 = b.within 15 63 3 0 (omega arith) (omega arith) (omega arith) (omega arith) (omega arith) in omega (arith, h);
      over_base_lem = λ b. let h : 4 ≤ 3 = b.within 15 63 3 3 (omega arith) (omega arith) (omega arith) (omega arith) (omega arith) in omega (arith, h);
      over_supply = λ b. let h : 4294967296 ≤ 4294967295 = b.small 3 (omega arith) in omega (arith, h);
      resting_member = λ b. let h : 16 < 16 = (b.ticket_bounds 63 (omega arith)).member in omega (arith, h);
      resting_market_0 = λ b. let h : 0 < 0 = (b.ticket_bounds 63 (omega arith)).market_low in omega (arith, h);
      resting_market_4 = λ b. let h : 4 < 4 = (b.ticket_bounds 63 (omega arith)).market_high in omega (arith, h);
      resting_limit = λ b. let h : 0 < 0 = (b.ticket_bounds 63 (omega arith)).limit in omega (arith, h);
      resting_offer = λ b. let h : 0 < 0 = (b.ticket_bounds 63 (omega arith)).offer in omega (arith, h);
      entered_member = λ b. let h : 16 < 16 = (b.ticket_bounds 63 (omega arith)).member in omega (arith, h);
      entered_market_0 = λ b. let h : 0 < 0 = (b.ticket_bounds 63 (omega arith)).market_low in omega (arith, h);
      entered_market_4 = λ b. let h : 4 < 4 = (b.ticket_bounds 63 (omega arith)).market_high in omega (arith, h);
      entered_limit = λ b. let h : 0 < 0 = (b.ticket_bounds 63 (omega arith)).limit in omega (arith, h);
      entered_offer = λ b. let h : 0 < 0 = (b.ticket_bounds 63 (omega arith)).offer in omega (arith, h);
      lo_zero = λ b. let h : 0 < 0 = (b.phase_bounds 3 (omega arith) (omega arith)).terms.low in omega (arith, h);
      lo_high = λ b. let h : 3 ≤ 2 = (b.phase_bounds 3 (omega arith) (omega arith)).terms.order_low in omega (arith, h);
      hi_low = λ b. let h : 2 ≤ 1 = (b.phase_bounds 3 (omega arith) (omega arith)).terms.order_high in omega (arith, h);
      lo_near = λ b. let h : ◌≡◌ {A = ℕ} 5 4 = (b.phase_bounds 3 (omega arith) (omega arith)).terms.even in omega (arith, h);
      hi_near = λ b. let h : ◌≡◌ {A = ℕ} 3 4 = (b.phase_bounds 3 (omega arith) (omega arith)).terms.even in omega (arith, h);
      hi_high = λ b. let h : 1500000001 ≤ 1500000000 = (b.phase_bounds 3 (omega arith) (omega arith)).terms.high in omega (arith, h);
      length_zero = λ b. let h : 0 < 0 = (b.phase_bounds 3 (omega arith) (omega arith)).terms.len_pos in omega (arith, h);
      length_65 = λ b. let h : 65 ≤ 64 = (b.phase_bounds 3 (omega arith) (omega arith)).terms.len_high in omega (arith, h);
      collect_length = λ b. let h : 65 ≤ 64 = (b.phase_bounds 3 (omega arith) (omega arith)).0.terms.len_high in omega (arith, h);
      auction_length = λ b. let h : 65 ≤ 64 = (b.phase_bounds 3 (omega arith) (omega arith)).0.terms.len_high in omega (arith, h);
      buys_paid = λ b. let h : 5 ≤ 4 = (b.phase_bounds 3 (omega arith) (omega arith)).paid Buy in omega (arith, h);
      sells_paid = λ b. let h : 5 ≤ 4 = (b.phase_bounds 3 (omega arith) (omega arith)).paid Sell in omega (arith, h);
      buys_total = λ b. let h : 4294967296 ≤ 4294967295 = (b.phase_bounds 3 (omega arith) (omega arith)).total Buy in omega (arith, h);
      sells_total = λ b. let h : 4294967296 ≤ 4294967295 = (b.phase_bounds 3 (omega arith) (omega arith)).total Sell in omega (arith, h);
      buys_got = λ b. let h : 4294967296 ≤ 4294967295 = (b.phase_bounds 3 (omega arith) (omega arith)).got Buy in omega (arith, h);
      sells_got = λ b. let h : 4294967296 ≤ 4294967295 = (b.phase_bounds 3 (omega arith) (omega arith)).got Sell in omega (arith, h);
      ticket_64 = λ b. let h : 18446744073709551616 < 18446744073709551616 = (b.phase_bounds 3 (omega arith) (omega arith)).tickets in omega (arith, h);
      collect_quote = λ b. let h : ◌≡◌ {A = ℕ} 4 5 = (b.phase_bounds 3 (omega arith) (omega arith)).1.held Buy in omega (arith, h);
      collect_base = λ b. let h : ◌≡◌ {A = ℕ} 4 5 = (b.phase_bounds 3 (omega arith) (omega arith)).1.held Sell in omega (arith, h);
      collect_paid = λ b. let h : ◌≡◌ {A = ℕ} 1 0 = (b.phase_bounds 3 (omega arith) (omega arith)).1.paid Sell in omega (arith, h);
      collect_got = λ b. let h : ◌≡◌ {A = ℕ} 1 0 = (b.phase_bounds 3 (omega arith) (omega arith)).1.got Buy in omega (arith, h);
      auction_quote = λ b. let h : 5 ≤ 4 = (b.phase_bounds 3 (omega arith) (omega arith)).1.unsold Buy in omega (arith, h);
      auction_base = λ b. let h : 5 ≤ 4 = (b.phase_bounds 3 (omega arith) (omega arith)).1.unsold Sell in omega (arith, h);
      auction_buys_got = λ b. let h : 3 ≤ 2 = (b.phase_bounds 3 (omega arith) (omega arith)).1.got Buy in omega (arith, h);
      auction_sells_got = λ b. let h : 3 ≤ 2 = (b.phase_bounds 3 (omega arith) (omega arith)).1.got Sell in omega (arith, h);
      rests_marked = λ b. let h : ◌≡◌ {A = ℕ} 1 0 = b.rests 63 (omega arith) _ refl in omega (arith, h);
      marked_free = λ b. let e = (b.marked 3 (omega arith) (omega arith) 63 (omega arith) refl).2 in absurd (let z : ◌≡◌ {A = ℕ} 0 1 = cc in omega arith);
      marked_other = λ b. let m = b.marked 3 (omega arith) (omega arith) 63 (omega arith) refl in let h : ◌≡◌ {A = ℕ} 2 3 = ap (λ t. (order_in t).market) m.2 ∙ m.1 in omega (arith, h);
      entered_unmarked = λ b. let h : ◌≡◌ {A = ℕ} 0 1 = (b.entered 63 (omega arith) _ refl).member in omega (arith, h);
      entered_sell_over = λ b. let h : 5 ≤ 4 = (b.entered 63 (omega arith) _ refl).offer in omega (arith, h);
      entered_buy_over = λ b. let h : 5 ≤ 4 = (b.entered 63 (omega arith) _ refl).offer in omega (arith, h);
      auction_unmarked = λ b. let h : ◌≡◌ {A = ℕ} 0 1 = (b.entered 63 (omega arith) _ refl).member in omega (arith, h);
      paying_unmarked = λ b. let h : ◌≡◌ {A = ℕ} 0 1 = (b.entered 63 (omega arith) _ refl).member in omega (arith, h);
      paying_over = λ b. let h : 5 ≤ 4 = (b.entered 63 (omega arith) _ refl).offer in omega (arith, h);
      entered_closed = λ b. let h : ◌≡◌ {A = ℕ} 0 1 = (b.entered 63 (omega arith) _ refl).member in omega (arith, h);
      pays_over = λ c. let h : 6 ≤ 5 = c.paid in omega (arith, h);
      sell_refund = λ b. let h : 1 ≤ 0 = (b.claims 63 (omega arith) _ _ refl refl).refund in omega (arith, h);
      sell_payment = λ b. let h : 3 ≤ 2 = (b.claims 63 (omega arith) _ _ refl refl).payment in omega (arith, h);
      buy_refund = λ b. let h : 1 ≤ 0 = (b.claims 63 (omega arith) _ _ refl refl).refund in omega (arith, h);
      buy_payment = λ b. let h : 3 ≤ 2 = (b.claims 63 (omega arith) _ _ refl refl).payment in omega (arith, h);
      opened_later = λ b. let h : 8 ≤ 7 = b.opened 3 (omega arith) (omega arith) in omega (arith, h);
      started_later = λ b. let h : 8 ≤ 7 = b.started 3 (omega arith) (omega arith) in omega (arith, h);
      over_first = λ b. let h : 4 ≤ 3 = b.within 0 0 1 1 (omega arith) (omega arith) (omega arith) (omega arith) (omega arith) in omega (arith, h);
      first_length = λ b. let h : 65 ≤ 64 = (b.phase_bounds 1 (omega arith) (omega arith)).terms.len_high in omega (arith, h);
      first_entered = λ b. let h : ◌≡◌ {A = ℕ} 0 1 = (b.entered 0 (omega arith) _ refl).member in omega (arith, h);
      first_marked = λ b. let e = (b.marked 1 (omega arith) (omega arith) 0 (omega arith) refl).2 in absurd (let z : ◌≡◌ {A = ℕ} 0 1 = cc in omega arith);
      first_opened = λ b. let h : 8 ≤ 7 = b.opened 1 (omega arith) (omega arith) in omega (arith, h);
      first_started = λ b. let h : 8 ≤ 7 = b.started 1 (omega arith) (omega arith) in omega (arith, h);
    }
