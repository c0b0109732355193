-- Match keeps the invariant.
use Prim.Native.Nat.{◌+◌, ◌<◌, ◌≤◌, ℕ}
use mathlib.Core.Path.{◌∙◌, ◌≡◌, ap, refl, subst, subst₂, sym}
use native.Mathlib.Omega.{arith}
use borrow.Author.Tests.{not-false}
use Rattle.model.specs.Bounds.{held_in}
use Rattle.model.specs.Calls.{match_done, match_tests, matched_round, trade_of}
use Rattle.model.specs.History.{Current, G, History, P, RoundLog, T, auctioning, came_in, collecting, log_of, running, went_out, with_accepted, with_event, with_match, with_round}
use Rattle.model.specs.State.{is_closed, is_collect, phase, round_in, totals_of, with_block, with_phase}
use Rattle.model.specs.WholeRun.{current_holds, part_in, unclaimed}
use Rattle.model.specs.declared.state.Exchange.{Exchange}
use Rattle.model.specs.declared.state.Phase.TheVariants.{Auction, Collect}
use Rattle.model.specs.declared.state.Round.{Round}
use Rattle.pricing.specs.Laws.{Rate, TradeFits}
use Rattle.pricing.specs.declared.Side.{Side}
use Rattle.pricing.specs.declared.Side.TheVariants.{Buy, Sell}
use Rattle.units.specs.Counts.{largest}
use Rattle.model.proofs.Frames.{inside, phase_keeps}
use Rattle.model.proofs.Inv.{Inv, MarketOk, Quiet, RoundOk, changed_at_lem, collect_is, running_is}
use Rattle.model.proofs.Rounds.{part_early}
use Rattle.pricing.proofs.Limits.{rate_trade_buy, rate_trade_sell}
use Rattle.pricing.proofs.Trades.{quote_some, trade_fits}
use Rattle.units.proofs.Decide.{Passed}
use Rattle.model.specs.declared.call.Call.TheVariants as Call

module _ (h : Exchange) (y : History) (i : Inv h y) (mk at : ℕ) (pos : 0 < mk) (lt4 : mk < 4) (r : Round) (b : RoundLog)
    (ep : phase h mk ≡ Collect r) (er : y.rounds mk ≡ running b) where
  abbrev m : ℕ
  m = (trade_of r).base.0

  abbrev c : ℕ
  c = (trade_of r).quote.0

  abbrev b1 : RoundLog
  b1 = with_match b m c

  abbrev r1 : Round
  r1 = matched_round r at (trade_of r)

  both_ok : RoundOk collecting r b × Quiet b
  both_ok = subst₂ MarketOk ep er (i.markets mk pos lt4)

  r_ok : RoundOk collecting r b
  r_ok = both_ok.0

  fits : TradeFits (T b Buy) (T b Sell) r.lo.0 r.hi.0 (trade_of r)
  fits =
      subst₂ (λ (q s : ℕ). TradeFits q s r.lo.0 r.hi.0 (trade_of r)) (r_ok.total Buy) (r_ok.total Sell)
      (trade_fits r.buys.total.0 r.sells.total.0 r.reference.0 r.hi.0 r.lo.0 r_ok.terms.order_low r_ok.terms.order_high)

  -- where one side offers nothing, nothing is traded
  nothing_traded : (m ≡ 0 → c ≡ 0) × (1 ≤ r.lo.0 → c ≡ 0 → m ≡ 0)
  nothing_traded = quote_some (T b Buy) (T b Sell) r.lo.0 r.hi.0 (trade_of r) fits

  P1 : (P b1 Buy ≡ c) × (P b1 Sell ≡ m)
  P1 = (omega (arith, both_ok.1.taken_zero Buy), omega (arith, both_ok.1.taken_zero Sell))

  G1 : (G b1 Buy ≡ m) × (G b1 Sell ≡ c)
  G1 = (omega (arith, both_ok.1.given_zero Sell), omega (arith, both_ok.1.given_zero Buy))

  round1 : RoundOk auctioning r1 b1
  round1 =
      record {
        stage = refl;
        total = total1;
        paid = paid1;
        got = got1;
        held = held1;
        marks = r_ok.marks;
        marks_small = r_ok.marks_small;
        within = within1;
        empty = empty1;
        rate = rate1;
        parts = λ k l. part_early collecting (λ e. e) r.hi.0 r.lo.0 b auctioning b1 (b.part k) (r_ok.parts k l);
        terms = r_ok.terms;
        small_total = r_ok.small_total;
        small_got = small1;
      }
    where
      total1 : (x : Side) → (totals_of r1 x).total.0 ≡ T b1 x
      total1 Buy = r_ok.total Buy
      total1 Sell = r_ok.total Sell

      paid1 : (x : Side) → (totals_of r1 x).paid.0 ≡ P b1 x
      paid1 Buy = sym P1.0
      paid1 Sell = sym P1.1

      got1 : (x : Side) → (totals_of r1 x).got.0 ≡ G b1 x
      got1 Buy = sym G1.0
      got1 Sell = sym G1.1

      held1 : (x : Side) → held_in r1 x + went_out b1 x ≡ came_in b1 x
      held1 Buy = r_ok.held Buy
      held1 Sell = r_ok.held Sell

      within1 : (x : Side) → P b1 x ≤ T b1 x
      within1 Buy = omega (arith, P1, fits.quote_fits)
      within1 Sell = omega (arith, P1, fits.base_fits)

      empty1 : (x : Side) → T b1 x ≡ 0 → G b1 x ≡ 0
      empty1 Buy e = G1.0 ∙ nothing_traded.1 r_ok.terms.low (omega (arith, fits.quote_fits))
      empty1 Sell e = G1.1 ∙ nothing_traded.0 (omega (arith, fits.base_fits))

      small1 : (x : Side) → G b1 x ≤ largest
      small1 Buy = omega (arith, G1, fits.base_fits, r_ok.small_total Sell)
      small1 Sell = omega (arith, G1, fits.quote_fits, r_ok.small_total Buy)

      rate1 : (x : Side) → Rate x r.hi.0 r.lo.0 (P b1 x) (G b1 x)
      rate1 Buy = rw (P1.0, G1.0) (rate_trade_buy (T b Buy) (T b Sell) r.lo.0 r.hi.0 (trade_of r) fits)
      rate1 Sell = rw (P1.1, G1.1) (rate_trade_sell (T b Buy) (T b Sell) r.lo.0 r.hi.0 (trade_of r) fits)

  matches : Inv (with_block (with_phase h mk (Auction r1)) at) (with_round y mk (running b1))
  matches =
      phase_keeps h y i mk at pos lt4 (Auction r1) (running b1) round1
      (λ j hj. ap (λ (v : Current). unclaimed (part_in v j)) er)
      (λ u. sym (ap (λ (v : Current). current_holds mk v u) er))

pub match_keeps : (h : Exchange) (y : History) (mk at : ℕ) → Inv h y → Passed (match_tests h mk at)
    → Inv (match_done h mk at).exchange (with_event y (Call.Match mk at) (match_done h mk at).answer)
unfolding with_event with_accepted
match_keeps h y mk at i p =
    let hmk : (1 ≤ mk) × (mk ≤ 3) = inside mk 1 3 p.0 in
    let r : Round = round_in (phase h mk) in
    let ep : phase h mk ≡ Collect r = collect_is (phase h mk) (not-false (is_collect (phase h mk)) p.1.0) in
    let pos : 0 < mk = omega arith in
    let lt4 : mk < 4 = omega arith in
    let er : y.rounds mk ≡ running (log_of (y.rounds mk)) = running_is (phase h mk) (y.rounds mk) (ap is_closed ep) (i.markets mk pos lt4) in
    let b : RoundLog = log_of (y.rounds mk) in
    subst (λ (v : Current). Inv (match_done h mk at).exchange (with_round y mk v))
    (sym (changed_at_lem collecting (λ b. with_match b (trade_of r).base.0 (trade_of r).quote.0) (y.rounds mk) b er (subst₂ MarketOk ep er (i.markets mk pos lt4)).0.stage))
    (matches h y i mk at pos lt4 r b ep er)
