-- Bid keeps the invariant.
use Prim.Native.Nat.{◌+◌, ◌-◌, ◌<◌, ◌≤◌, ℕ}
use mathlib.Core.Bool.{false}
use mathlib.Core.Path.{◌∙◌, ◌≡◌, ap, refl, subst, subst₂, sym}
use native.Mathlib.Omega.{arith}
use lib.Dec.{eqb, ltb}
use borrow.Author.Tests.{eqb-false, ltb-false, not-false}
use Rattle.model.specs.Bounds.{held_in}
use Rattle.model.specs.Calls.{bid_done, bid_quote, bid_round, bid_tests, not_available}
use Rattle.model.specs.History.{Current, G, History, P, RoundLog, T, added_to, auctioning, came_in, holds, log_of, put, running, went_out, when_same, with_accepted, with_bid, with_credit, with_debit, with_event, with_round}
use Rattle.model.specs.Sides.{gives, offered, other, side_of, takes, wanted}
use Rattle.model.specs.State.{balance, credit, debit, is_auction, is_closed, phase, residue, round_in, totals_of, with_block, with_phase}
use Rattle.model.specs.WholeRun.{balances, current_holds, holds_of, part_in, resting, rounds_total, unclaimed}
use Rattle.model.specs.declared.state.Exchange.{Exchange}
use Rattle.model.specs.declared.state.Phase.TheVariants.{Auction}
use Rattle.model.specs.declared.state.Round.{Round}
use Rattle.pricing.specs.Laws.{Rate}
use Rattle.pricing.specs.Prices.{auction_price, quote_for}
use Rattle.pricing.specs.declared.Side.{Side}
use Rattle.pricing.specs.declared.Side.TheVariants.{Buy, Sell}
use Rattle.units.specs.Counts.{largest}
use Rattle.units.specs.Sums.{only}
use Rattle.ledger.proofs.Laws.{credits, debits}
use Rattle.model.proofs.Frames.{inside, markets_set, offered_lt, offered_split, tickets_round, wanted_lt, wanted_split}
use Rattle.model.proofs.Inv.{Inv, MarketOk, PartOk, RoundOk, auction_is, changed_at_lem, running_is}
use Rattle.model.proofs.Reading.{Sized, account_credit, account_debit, in_rounds_set, put_same, sized_block, sized_credit, sized_debit, sized_phase}
use Rattle.model.proofs.Rounds.{held_within, part_early, went_zero}
use Rattle.pricing.proofs.Limits.{rate_add, rate_bid_buy, rate_bid_sell, rate_none}
use Rattle.pricing.proofs.Prices.{price_within}
use Rattle.units.proofs.Decide.{Passed, or_false}
use Rattle.units.proofs.Sums.{only_add}
use Rattle.model.specs.declared.call.Call.TheVariants as Call

-- what a bid for n base and q quote on side x must be
pub record BidOk (x : Side) (r : Round) (b : RoundLog) (n q : ℕ) : Type 0 where
  pub fits : P b x + takes x n q ≤ T b x
  pub takes_pos : 0 < takes x n q
  pub rate_ok : Rate x r.hi.0 r.lo.0 (takes x n q) (gives x n q)

bid_ok : (x : Side) (r : Round) (b : RoundLog) (n k : ℕ) → RoundOk auctioning r b → 0 < n → k ≤ r.length
    → not_available x n (quote_for x n (auction_price x r.hi.0 r.lo.0 k r.length)) (totals_of r x) ≡ false
    → BidOk x r b n (quote_for x n (auction_price x r.hi.0 r.lo.0 k r.length))
bid_ok Buy r b n k ok hn hk e =
    let pr : ℕ = auction_price Buy r.hi.0 r.lo.0 k r.length in
    let q : ℕ = quote_for Buy n pr in
    let w = price_within Buy r.hi.0 r.lo.0 k r.length (omega (arith, ok.terms.order_low, ok.terms.order_high)) ok.terms.len_pos hk in
    let f = or_false (eqb q 0) (ltb r.buys.total.0 (r.buys.paid.0 + q)) e in
    let f0 : q ≡ 0 → ⊥ = eqb-false q 0 f.0 in
    let f1 : r.buys.paid.0 + q ≤ r.buys.total.0 = ltb-false r.buys.total.0 (r.buys.paid.0 + q) f.1 in
    record {
      fits = omega (arith, f1, ok.total Buy, ok.paid Buy);
      takes_pos = omega (arith, f0);
      rate_ok = rate_bid_buy r.hi.0 r.lo.0 n pr w.1;
    }
bid_ok Sell r b n k ok hn hk e =
    let pr : ℕ = auction_price Sell r.hi.0 r.lo.0 k r.length in
    let w = price_within Sell r.hi.0 r.lo.0 k r.length (omega (arith, ok.terms.order_low, ok.terms.order_high)) ok.terms.len_pos hk in
    let f1 : r.sells.paid.0 + n ≤ r.sells.total.0 = ltb-false r.sells.total.0 (r.sells.paid.0 + n) e in
    record {
      fits = omega (arith, f1, ok.total Sell, ok.paid Sell);
      takes_pos = hn;
      rate_ok = rate_bid_sell r.hi.0 r.lo.0 n pr w.0;
    }

-- what a bid changes, by sides: x is traded on, z is looked at
module _ (b : RoundLog) (n q : ℕ) where
  bid_P : (x z : Side) → P (with_bid b x n q) z ≡ P b z + when_same z x (takes x n q)
  bid_P Buy Buy = omega arith
  bid_P Buy Sell = omega arith
  bid_P Sell Buy = omega arith
  bid_P Sell Sell = omega arith

  bid_G : (x z : Side) → G (with_bid b x n q) z ≡ G b z + when_same z x (gives x n q)
  bid_G Buy Buy = omega arith
  bid_G Buy Sell = omega arith
  bid_G Sell Buy = omega arith
  bid_G Sell Sell = omega arith

  bid_came : (x z : Side) → came_in (with_bid b x n q) z ≡ came_in b z + when_same z (other x) (gives x n q)
  bid_came Buy Buy = omega arith
  bid_came Buy Sell = omega arith
  bid_came Sell Buy = omega arith
  bid_came Sell Sell = omega arith

  bid_went : (x z : Side) → went_out (with_bid b x n q) z ≡ went_out b z + when_same z x (takes x n q)
  bid_went Buy Buy = omega arith
  bid_went Buy Sell = omega arith
  bid_went Sell Buy = omega arith
  bid_went Sell Sell = omega arith

module _ (r : Round) (n q : ℕ) where
  bid_total : (x z : Side) → (totals_of (bid_round r x n q) z).total.0 ≡ (totals_of r z).total.0
  bid_total Buy Buy = refl
  bid_total Buy Sell = refl
  bid_total Sell Buy = refl
  bid_total Sell Sell = refl

  bid_paid : (x z : Side) → (totals_of (bid_round r x n q) z).paid.0 ≡ (totals_of r z).paid.0 + when_same z x (takes x n q)
  bid_paid Buy Buy = refl
  bid_paid Buy Sell = omega arith
  bid_paid Sell Buy = omega arith
  bid_paid Sell Sell = refl

  bid_got : (x z : Side) → (totals_of (bid_round r x n q) z).got.0 ≡ (totals_of r z).got.0 + when_same z x (gives x n q)
  bid_got Buy Buy = refl
  bid_got Buy Sell = omega arith
  bid_got Sell Buy = omega arith
  bid_got Sell Sell = refl

  bid_held : (x z : Side) → held_in (bid_round r x n q) z ≡ held_in r z + when_same z (other x) (gives x n q) - when_same z x (takes x n q)
  bid_held Buy Buy = omega arith
  bid_held Buy Sell = omega arith
  bid_held Sell Buy = omega arith
  bid_held Sell Sell = omega arith

-- a side that has nothing gets nothing, and the rate is kept
bid_empty : (x z : Side) (r : Round) (b : RoundLog) (n q : ℕ) → BidOk x r b n q → T b z ≡ 0 → G b z ≡ 0 → G b z + when_same z x (gives x n q) ≡ 0
bid_empty Buy Buy r b n q ok t g = absurd (omega (arith, ok.fits, ok.takes_pos))
bid_empty Buy Sell r b n q ok t g = omega arith
bid_empty Sell Buy r b n q ok t g = omega arith
bid_empty Sell Sell r b n q ok t g = absurd (omega (arith, ok.fits, ok.takes_pos))

bid_rate : (x z : Side) (hi lo P G a g : ℕ) → Rate x hi lo a g → Rate z hi lo P G → Rate z hi lo (P + when_same z x a) (G + when_same z x g)
bid_rate Buy Buy hi lo P G a g s k = rate_add Buy hi lo P G a g k s
bid_rate Buy Sell hi lo P G a g s k = rate_add Sell hi lo P G 0 0 k (rate_none Sell hi lo 0)
bid_rate Sell Buy hi lo P G a g s k = rate_add Buy hi lo P G 0 0 k (rate_none Buy hi lo 0)
bid_rate Sell Sell hi lo P G a g s k = rate_add Sell hi lo P G a g k s

same_le : (z x : Side) (a b c : ℕ) → (z ≡ x → b + a ≤ c) → b ≤ c → b + when_same z x a ≤ c
same_le Buy Buy a b c f g = f refl
same_le Buy Sell a b c f g = omega arith
same_le Sell Buy a b c f g = omega arith
same_le Sell Sell a b c f g = f refl

module _ (h : Exchange) (y : History) (i : Inv h y) (mk m at n q : ℕ) (x : Side) (pos : 0 < mk) (lt4 : mk < 4) (hm : m < 16) (r : Round) (b : RoundLog)
    (ep : phase h mk ≡ Auction r) (er : y.rounds mk ≡ running b)
    (good : RoundOk auctioning r b → BidOk x r b n q) (funds : gives x n q ≤ balance h m (wanted x mk)) where
  abbrev b1 : RoundLog
  b1 = with_bid b x n q

  abbrev r1 : Round
  r1 = bid_round r x n q

  r_ok : RoundOk auctioning r b
  r_ok = subst₂ MarketOk ep er (i.markets mk pos lt4)

  ok : BidOk x r b n q
  ok = good r_ok

  came1 : (z : Side) → came_in b1 z ≡ came_in b z + when_same z (other x) (gives x n q)
  came1 z = bid_came b n q x z

  went1 : (z : Side) → went_out b1 z ≡ went_out b z + when_same z x (takes x n q)
  went1 z = bid_went b n q x z

  -- the round has what the maker takes
  room : (z : Side) → went_out b z + when_same z x (takes x n q) ≤ came_in b z
  room z =
      same_le z x (takes x n q) (went_out b z) (came_in b z)
      (λ e. subst (λ (w : Side). went_out b w + takes x n q ≤ came_in b w) (sym e) (omega (arith, ok.fits, went_zero auctioning (λ e. e) r.hi.0 r.lo.0 b r_ok.parts x)))
      (omega (arith, r_ok.held z))

  held1 : (z : Side) → held_in r1 z + went_out b1 z ≡ came_in b1 z
  held1 z = omega (arith, came1 z, went1 z, room z, r_ok.held z, bid_held r n q x z)

  within1 : (z : Side) → P b1 z ≤ T b1 z
  within1 z =
      rw (bid_P b n q x z)
      (same_le z x (takes x n q) (P b z) (T b z) (λ e. subst (λ (w : Side). P b w + takes x n q ≤ T b w) (sym e) ok.fits) (r_ok.within z))

  empty1 : (z : Side) → T b1 z ≡ 0 → G b1 z ≡ 0
  empty1 z e =
      bid_G b n q x z ∙ bid_empty x z r b n q ok e (r_ok.empty z e)

  rate1 : (z : Side) → Rate z r.hi.0 r.lo.0 (P b1 z) (G b1 z)
  rate1 z =
      rw (bid_P b n q x z, bid_G b n q x z)
      (bid_rate x z r.hi.0 r.lo.0 (P b z) (G b z) (takes x n q) (gives x n q) ok.rate_ok (r_ok.rate z))

  -- ---- amounts

  holds1 : (z : Side) → holds b1 z + when_same z x (takes x n q) ≡ holds b z + when_same z (other x) (gives x n q)
  holds1 z = omega (arith, came1 z, went1 z, room z, r_ok.held z)

  holds_of1 : (u : ℕ) → holds_of mk b1 u + only (offered x mk) (takes x n q) u ≡ holds_of mk b u + only (wanted x mk) (gives x n q) u
  holds_of1 u =
      let a0 = only_add 0 (holds b1 Buy) (when_same Buy x (takes x n q)) u in
      let a1 = only_add mk (holds b1 Sell) (when_same Sell x (takes x n q)) u in
      let c0 = only_add 0 (holds b Buy) (when_same Buy (other x) (gives x n q)) u in
      let c1 = only_add mk (holds b Sell) (when_same Sell (other x) (gives x n q)) u in
      omega (
        arith,
        a0,
        a1,
        c0,
        c1,
        ap (λ v. only 0 v u) (holds1 Buy),
        ap (λ v. only mk v u) (holds1 Sell),
        wanted_split x mk (gives x n q) u,
        offered_split x mk (takes x n q) u,
      )

  abbrev h1 : Exchange
  h1 = debit h m (wanted x mk) (gives x n q)

  abbrev h2 : Exchange
  h2 = credit h1 m (offered x mk) (takes x n q)

  sized1 : Sized h1
  sized1 = sized_debit h m (wanted x mk) (gives x n q) i.sized

  sized2 : Sized h2
  sized2 = sized_credit h1 m (offered x mk) (takes x n q) sized1

  conserved1 : (u : ℕ) → u < 4 → balances h2 u + resting h2 u + rounds_total (put y.rounds mk (running b1)) u + residue h2 u + y.withdrawn u ≡ y.deposited u
  conserved1 u hu =
      omega (
        arith,
        (debits h.ledger m (wanted x mk) (gives x n q)).total i.sized.shaped hm (wanted_lt x mk lt4) funds u,
        (credits h1.ledger m (offered x mk) (takes x n q)).total sized1.shaped hm (offered_lt x mk lt4) u,
        in_rounds_set y mk (running b1) pos lt4 u,
        holds_of1 u,
        ap (λ (v : Current). current_holds mk v u) er,
        i.books.conserved u hu,
      )

  parts1 : (k : ℕ) → k < 64 → PartOk auctioning r.hi.0 r.lo.0 b1 (b1.part k)
  parts1 k l =
      part_early auctioning (λ e. e) r.hi.0 r.lo.0 b auctioning b1 (b.part k) (r_ok.parts k l)

  -- what a side got is still held for it
  held_got : (z : Side) → G b1 z ≤ holds b1 (other z)
  held_got Buy = omega (arith, held1 Sell, went_zero auctioning (λ e. e) r.hi.0 r.lo.0 b1 parts1 Sell, within1 Sell)
  held_got Sell = omega (arith, held1 Buy, went_zero auctioning (λ e. e) r.hi.0 r.lo.0 b1 parts1 Buy, within1 Buy)

  small1 : (z : Side) → G b1 z ≤ largest
  small1 z =
      omega (
        arith,
        held_got z,
        held_within mk (put y.rounds mk (running b1)) b1 (other z) pos lt4 (put_same y.rounds mk (running b1)),
        conserved1 (offered (other z) mk) (offered_lt (other z) mk lt4),
        i.books.supplied (offered (other z) mk) (offered_lt (other z) mk lt4),
        i.bounded (offered (other z) mk) (offered_lt (other z) mk lt4),
      )

  round1 : RoundOk auctioning r1 b1
  round1 =
      record {
        stage = r_ok.stage;
        total = λ z. bid_total r n q x z ∙ r_ok.total z;
        paid = λ z. omega (arith, bid_paid r n q x z, r_ok.paid z, bid_P b n q x z);
        got = λ z. omega (arith, bid_got r n q x z, r_ok.got z, bid_G b n q x z);
        held = held1;
        marks = r_ok.marks;
        marks_small = r_ok.marks_small;
        within = within1;
        empty = empty1;
        rate = rate1;
        parts = parts1;
        terms = r_ok.terms;
        small_total = r_ok.small_total;
        small_got = small1;
      }

  -- history's account of the maker
  abbrev y2 : Current → History
  y2 v = with_credit (with_debit (with_round y mk v) m (wanted x mk) (gives x n q)) m (offered x mk) (takes x n q)

  accounts2 : (j : ℕ) → j < 16 → (u : ℕ) → u < 4 → balance h2 j u + (y2 (running b1)).debits j u ≡ (y2 (running b1)).credits j u
  accounts2 =
      account_credit h1.ledger y.credits (added_to y.debits m (wanted x mk) (gives x n q)) sized1.shaped m (offered x mk) (takes x n q) hm (offered_lt x mk lt4)
      (account_debit h.ledger y.credits y.debits i.sized.shaped m (wanted x mk) (gives x n q) hm (wanted_lt x mk lt4) i.books.accounts funds)

  bids : Inv (with_block (with_phase h2 mk (Auction r1)) at) (y2 (running b1))
  bids =
      record {
        sized = sized_block (with_phase h2 mk (Auction r1)) at (sized_phase h2 mk (Auction r1) sized2);
        bounded = i.bounded;
        ticket_bounds = i.ticket_bounds;
        markets = markets_set h2 mk (Auction r1) y.rounds (running b1) pos (omega (arith, i.sized.markets)) round1 i.markets;
        books = record { conserved = conserved1; supplied = i.books.supplied; accounts = accounts2 };
        tickets =
            tickets_round i.tickets mk (running b1)
            (λ j hj. ap (λ (v : Current). unclaimed (part_in v j)) er);
        past = i.past;
      }

pub bid_keeps : (h : Exchange) (y : History) (mk m at sd n bound : ℕ) → Inv h y → Passed (bid_tests h mk m at sd n bound)
    → Inv (bid_done h mk m at sd n).exchange (with_event y (Call.Bid mk m at sd n bound) (bid_done h mk m at sd n).answer)
unfolding with_event with_accepted
bid_keeps h y mk m at sd n bound i p =
    let x : Side = side_of sd in
    let hm : m ≤ 15 = ltb-false 15 m p.0 in
    let hmk : (1 ≤ mk) × (mk ≤ 3) = inside mk 1 3 p.1.0 in
    let hn : n ≡ 0 → ⊥ = eqb-false n 0 p.1.1.1.0 in
    let r : Round = round_in (phase h mk) in
    let ep : phase h mk ≡ Auction r = auction_is (phase h mk) (not-false (is_auction (phase h mk)) p.1.1.1.1.0) in
    let hk : at ≤ r.start.0 + r.length = ltb-false (r.start.0 + r.length) at p.1.1.1.1.1.1.0 in
    let q : ℕ = bid_quote r x at n in
    let hb : gives x n q ≤ balance h m (wanted x mk) = ltb-false (balance h m (wanted x mk)) (gives x n q) p.1.1.1.1.1.1.1.1.1.0 in
    let pos : 0 < mk = omega arith in
    let lt4 : mk < 4 = omega arith in
    let er : y.rounds mk ≡ running (log_of (y.rounds mk)) = running_is (phase h mk) (y.rounds mk) (ap is_closed ep) (i.markets mk pos lt4) in
    let b : RoundLog = log_of (y.rounds mk) in
    subst (λ (c : Current). Inv (bid_done h mk m at sd n).exchange (with_credit (with_debit (with_round y mk c) m (wanted x mk) (gives x n q)) m (offered x mk) (takes x n q)))
    (sym (changed_at_lem auctioning (λ b. with_bid b x n q) (y.rounds mk) b er (subst₂ MarketOk ep er (i.markets mk pos lt4)).stage))
    (bids h y i mk m at n q x pos lt4 (omega arith) r b ep er
    (λ g. bid_ok x r b n (at - r.start.0) g (omega arith) (omega arith) p.1.1.1.1.1.1.1.0) hb)
