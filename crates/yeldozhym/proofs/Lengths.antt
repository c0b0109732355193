-- How long a day's text can be: no answer line is longer than 35 bytes, whatever calls came before it.
use Rattle.std.specs.Prelude.{Some, None, Option}
use mathlib.Core.Path.{◌≡◌, ap, ◌∙◌, subst}
use mathlib.Core.Bool.{false, not, ◌||◌}
use mathlib.Core.List.{List, [], ◌∷◌, ◌++◌}
use Prim.Native.Nat.{ℕ, ◌+◌, ◌*◌, ◌≤◌, ◌<◌}
use native.Mathlib.Omega.{arith}
use native.Mathlib.Nat.{le_refl}
use lib.Dec.{eqb}
use lib.ListN.{length, take, length-append, length-take}
use borrow.Author.Tests.{ltb-false, not-false}
use Rattle.units.specs.Counts.{largest}
use Rattle.units.specs.Ranges.{highest_reference, highest_slack, longest_auction}
use Rattle.units.proofs.Decide.{Passed, or_false}
use Rattle.pricing.specs.declared.Side.{Side}
use Rattle.pricing.specs.declared.Side.TheVariants.{Buy, Sell}
use Rattle.pricing.proofs.Prices.{high_le, low_le}
use Rattle.pricing.proofs.Trades.{trade_fits}
use Rattle.lines.specs.AnswerText.{header, longest_answer}
use Rattle.lines.specs.CallLines.{reading_of}
use Rattle.lines.proofs.AnswerLines.{answer_bound}
use Rattle.model.specs.declared.state.Exchange.{Exchange}
use Rattle.model.specs.declared.state.Order.{Order}
use Rattle.model.specs.declared.state.Round.{Round}
use Rattle.model.specs.declared.state.Phase.TheVariants.{Collect, Auction, Paying}
use Rattle.model.specs.declared.state.TicketState.{TicketState}
use Rattle.model.specs.declared.state.TicketState.TheVariants.{Resting, Entered}
use Rattle.model.specs.declared.call.Call.{Call}
use Rattle.model.specs.declared.answer.Outcome.{Outcome}
use Rattle.model.specs.Answers.{Answer, first_of, second_of}
use Rattle.model.specs.Bounds.{Bounded, OrderBounds, TicketBounds, PhaseBounds, RoundBounds}
use Rattle.model.specs.Calls.{bid_quote, done_of, not_available, outside, above, tests_of}
use Rattle.model.specs.Run.{Reachable, at_first, step_of}
use Rattle.model.specs.Sides.{gives, offered, wanted, side_of}
use Rattle.model.specs.State.{fresh_exchange, balance, supply, ticket, phase, round_in, order_in, totals_of, is_free, is_entered, is_collect, is_auction, is_paying}
use Rattle.parts.specs.Parts.{ticket_market}
use Rattle.model.proofs.Frames.{inside, offered_lt}
use Rattle.model.proofs.Inv.{resting_is, entered_is, collect_is, auction_is, paying_is}
use Rattle.model.proofs.Steps.{step_apart}
use Rattle.model.proofs.ReachBounds.{reachable_bounded}
use Rattle.parts.proofs.PartBounds.{enter_bounds, leave_bounds, cancel_bounds, pay_bounds}
use Rattle.replay.specs.Lines.{outcome_of, line_outcome, line_text}
use Rattle.replay.specs.Days.{lines_of, answer_text, last_line, day_of}
use Rattle.replay.proofs.LineRun.{reachable_line}
use Rattle.yeldozhym.specs.Room.{RoomsBounded}

-- ---- an answer's numbers fit 32 bits

pub record Small (a : Answer) : Type 0 where
  pub first : first_of a ≤ largest
  pub second : second_of a ≤ largest

module _ (x : Exchange) (b : Bounded x) where
  -- a balance
  held : (m t : ℕ) → m < 16 → t < 4 → balance x m t ≤ supply x t
  held m t hm ht = omega (arith, b.within m 0 1 t hm (omega arith) (omega arith) (omega arith) ht)

  balance_small : (m t : ℕ) → m < 16 → t < 4 → balance x m t ≤ largest
  balance_small m t hm ht = omega (arith, held m t hm ht, b.small t ht)

  -- what a resting ticket offers
  offer_small : (k : ℕ) → k < 64 → (o : Order) → ticket x k ≡ Resting o → o.offer.0 ≤ largest
  offer_small k hk o e = omega (arith, (cancel_bounds x b 0 k (omega arith) hk o e).1)

  -- the maker gives n or q, and the other one is what the round's side has left
  bid_small : (side : Side) (market n q : ℕ) (r : Round) → RoundBounds r → (m : ℕ) → m < 16 → market < 4 → not_available side n q (totals_of r side) ≡ false
      → gives side n q ≤ balance x m (wanted side market) → (n ≤ largest) × (q ≤ largest)
  bid_small Buy market n q r rb m hm hmk na g =
      let left = ltb-false r.buys.total.0 (r.buys.paid.0 + q) (or_false (eqb q 0) (above (r.buys.paid.0 + q) r.buys.total.0) na).1 in
      (omega (arith, g, balance_small m market hm hmk), omega (arith, left, rb.total Buy))
  bid_small Sell market n q r rb m hm hmk na g =
      let left = ltb-false r.sells.total.0 (r.sells.paid.0 + n) na in
      (omega (arith, left, rb.total Sell), omega (arith, g, balance_small m 0 hm (omega arith)))

  done_small : (c : Call) → Passed (tests_of x c) → Small (done_of x c).answer
  done_small (Call.Deposit m t n) p =
      let hm = ltb-false 15 m p.0 in
      let ht = ltb-false 3 t p.1.0 in
      let l = ltb-false largest (supply x t + n) p.1.1.1.0 in
      record { first = omega (arith, held m t (omega (arith, hm)) (omega (arith, ht)), l); second = omega arith }
  done_small (Call.Withdraw m t n) p =
      let hm = ltb-false 15 m p.0 in
      let ht = ltb-false 3 t p.1.0 in
      record { first = omega (arith, balance_small m t (omega (arith, hm)) (omega (arith, ht))); second = omega arith }
  done_small (Call.Order k m mk sd lim n) p =
      let hm = ltb-false 15 m p.0 in
      let r3 = inside mk 1 3 p.1.0 in
      let t = offered (side_of sd) mk in
      let l = ltb-false (balance x m t) n p.1.1.1.1.1.1.0 in
      record { first = omega (arith, l, balance_small m t (omega (arith, hm)) (offered_lt (side_of sd) mk (omega (arith, r3)))); second = omega arith }
  done_small (Call.Cancel k m) p =
      let hk = ltb-false 63 k p.1.0 in
      let o : Order = order_in (ticket x k) in
      let et : ticket x k ≡ Resting o = resting_is (ticket x k) (or_false (is_free (ticket x k)) (not (eqb o.member m)) p.1.1.0).0 p.1.1.1.0 in
      record { first = offer_small k (omega (arith, hk)) o et; second = omega arith }
  done_small (Call.Open mk at r w len) p =
      let terms = or_false (outside r 1 highest_reference) (above w highest_slack || outside len 1 longest_auction) p.1.0 in
      let hr = inside r 1 highest_reference terms.0 in
      let hw = ltb-false highest_slack w (or_false (above w highest_slack) (outside len 1 longest_auction) terms.1).0 in
      record { first = omega (arith, high_le r w hr.1 hw); second = omega (arith, low_le r w, hr.1) }
  done_small (Call.Enter k) p =
      let hk : k < 64 = omega (arith, ltb-false 63 k p.0) in
      let o : Order = order_in (ticket x k) in
      let r : Round = round_in (phase x o.market) in
      let et : ticket x k ≡ Resting o = resting_is (ticket x k) p.1.0 p.1.1.0 in
      let ep : phase x o.market ≡ Collect r = collect_is (phase x o.market) (not-false (is_collect (phase x o.market)) p.1.1.1.0) in
      let here : phase x (ticket_market (ticket x k)) ≡ Collect r = ap (λ (s : TicketState). phase x (ticket_market s)) et ∙ ep in
      record { first = (enter_bounds x b k hk o r et here).0; second = omega arith }
  done_small (Call.Match mk at) p =
      let r3 = inside mk 1 3 p.0 in
      let r : Round = round_in (phase x mk) in
      let ep : phase x mk ≡ Collect r = collect_is (phase x mk) (not-false (is_collect (phase x mk)) p.1.0) in
      let rb : RoundBounds r = (subst PhaseBounds ep (b.phase_bounds mk (omega (arith, r3)) (omega (arith, r3)))).0 in
      let f = trade_fits r.buys.total.0 r.sells.total.0 r.reference.0 r.hi.0 r.lo.0 rb.terms.order_low rb.terms.order_high in
      record { first = omega (arith, f.base_fits, rb.total Sell); second = omega (arith, f.quote_fits, rb.total Buy) }
  done_small (Call.Bid mk m at sd n bound) p =
      let hm = ltb-false 15 m p.0 in
      let r3 = inside mk 1 3 p.1.0 in
      let r : Round = round_in (phase x mk) in
      let ep : phase x mk ≡ Auction r = auction_is (phase x mk) (not-false (is_auction (phase x mk)) p.1.1.1.1.0) in
      let rb : RoundBounds r = (subst PhaseBounds ep (b.phase_bounds mk (omega (arith, r3)) (omega (arith, r3)))).0 in
      let q : ℕ = bid_quote r (side_of sd) at n in
      let g = ltb-false (balance x m (wanted (side_of sd) mk)) (gives (side_of sd) n q) p.1.1.1.1.1.1.1.1.1.0 in
      let s = bid_small (side_of sd) mk n q r rb m (omega (arith, hm)) (omega (arith, r3)) p.1.1.1.1.1.1.1.0 g in
      record { first = s.0; second = s.1 }
  done_small (Call.Settle mk at) p =
      let r3 = inside mk 1 3 p.0 in
      let r : Round = round_in (phase x mk) in
      let ep : phase x mk ≡ Auction r = auction_is (phase x mk) (not-false (is_auction (phase x mk)) p.1.0) in
      let rb : RoundBounds r = (subst PhaseBounds ep (b.phase_bounds mk (omega (arith, r3)) (omega (arith, r3)))).0 in
      record { first = omega (arith, rb.paid Buy, rb.total Buy); second = omega (arith, rb.paid Sell, rb.total Sell) }
  done_small (Call.Claim k) p =
      let hk : k < 64 = omega (arith, ltb-false 63 k p.0) in
      let o : Order = order_in (ticket x k) in
      let r : Round = round_in (phase x o.market) in
      let et : ticket x k ≡ Entered o = entered_is (ticket x k) (not-false (is_entered (ticket x k)) p.1.1.0) in
      let ep : phase x o.market ≡ Paying r = paying_is (phase x o.market) (not-false (is_paying (phase x o.market)) p.1.1.1.0) in
      let w = pay_bounds x b k hk o r et ep in
      record {
        first = omega (arith, w.claim.paid, w.entered.offer, w.round.total o.side);
        second = omega (arith, w.claim.payment, w.balance_fits);
      }
  done_small (Call.Leave k m) p =
      let hk : k < 64 = omega (arith, ltb-false 63 k p.1.0) in
      let o : Order = order_in (ticket x k) in
      let r : Round = round_in (phase x o.market) in
      let et : ticket x k ≡ Entered o = entered_is (ticket x k) (not-false (is_entered (ticket x k)) p.1.1.1.0) in
      let ep : phase x o.market ≡ Collect r = collect_is (phase x o.market) (not-false (is_collect (phase x o.market)) p.1.1.1.1.0) in
      let here : phase x (ticket_market (ticket x k)) ≡ Collect r = ap (λ (s : TicketState). phase x (ticket_market s)) et ∙ ep in
      let ok : OrderBounds o = subst TicketBounds et (b.ticket_bounds k hk) in
      let rb : RoundBounds r = (subst PhaseBounds ep (b.phase_bounds o.market ok.market_low ok.market_high)).0 in
      record { first = omega (arith, (leave_bounds x b k hk o r et here).0, rb.total o.side); second = omega arith }

  step_small : (c : Call) → Small (step_of x c).answer
  step_small c = step_apart x c (λ (out : Outcome). Small out.answer) (λ r. record { first = omega arith; second = omega arith }) (done_small c)

-- ---- answer lines

reading_small : (x : Exchange) → Reachable x → (r : Option Call) → Small (outcome_of x r).answer
reading_small x l None = record { first = omega arith; second = omega arith }
reading_small x l (Some c) = step_small x (reachable_bounded x l) c

line_short : (x : Exchange) → Reachable x → (n : ℕ) → n ≤ largest → (line : List ℕ) → length (line_text x n line) ≤ longest_answer
unfolding line_text line_outcome
line_short x l n h line =
    let a : Answer = (outcome_of x (reading_of line)).answer in
    let s = reading_small x l (reading_of line) in
    answer_bound n a (omega arith) (omega (arith, s.first)) (omega (arith, s.second))

answers_short : (x : Exchange) → Reachable x → (n : ℕ) (ls : List (List ℕ)) → n + length ls ≤ last_line → length (answer_text x n ls) ≤ longest_answer * length ls
answers_short x l n [] h = omega arith
answers_short x l n (line ∷ ls) h =
    omega (
      arith,
      length-append (line_text x (n + 1) line) (answer_text (line_outcome x line).exchange (n + 1) ls),
      line_short x l (n + 1) (omega arith) line,
      answers_short (line_outcome x line).exchange (reachable_line x l line) (n + 1) ls (omega arith),
    )

-- ---- the day

-- no more than k lines are answered
first_short : (k : ℕ) → k ≤ last_line → (ls : List (List ℕ))
    → (length (header ++ answer_text fresh_exchange 0 (take k ls)) ≤ length header + longest_answer * length ls)
    × (length (header ++ answer_text fresh_exchange 0 (take k ls)) ≤ length header + longest_answer * k)
first_short k h ls =
    let size = length-take k ls in
    let short = answers_short fresh_exchange at_first 0 (take k ls) (omega (arith, size)) in
    (omega (arith, size, short), omega (arith, size, short))

pub rooms_bounded : RoomsBounded
unfolding day_of
rooms_bounded input = let h = first_short last_line (le_refl last_line) (lines_of input) in record { by_lines = omega (arith, h.0); by_last = omega (arith, h.1) }
