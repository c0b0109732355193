-- Open keeps the invariant.
use Prim.Native.Nat.{◌+◌, ◌-◌, ◌<◌, ◌≤◌, ℕ}
use mathlib.Core.Bool.{◌||◌, false}
use mathlib.Core.Path.{◌∙◌, ◌≡◌, ap, refl, subst, sym}
use native.Mathlib.Nat.{zero-sub}
use native.Mathlib.Omega.{arith}
use lib.Dec.{lit<, ltb}
use borrow.Author.Tests.{ltb-false, not-false}
use Rattle.units.specs.Ranges.{highest_reference, highest_slack}
use Rattle.model.specs.Bounds.{held_in}
use Rattle.model.specs.Calls.{open_done, open_tests, opened_round, outside}
use Rattle.model.specs.History.{Current, G, History, P, T, absent, came_in, collecting, empty_log, given, idle, moved_out, round_begun, running, taken, traded, went_out, with_accepted, with_event, with_round}
use Rattle.model.specs.State.{is_closed, phase, totals_of}
use Rattle.model.specs.WholeRun.{current_holds, holds_of, part_in, unclaimed}
use Rattle.model.specs.declared.state.Exchange.{Exchange}
use Rattle.model.specs.declared.state.Phase.{Phase}
use Rattle.model.specs.declared.state.Phase.TheVariants.{Closed, Collect}
use Rattle.pricing.specs.Prices.{high_bound, low_bound}
use Rattle.pricing.specs.declared.Side.{Side}
use Rattle.pricing.specs.declared.Side.TheVariants.{Buy, Sell}
use Rattle.units.specs.Sums.{only}
use Rattle.model.proofs.Frames.{inside, phase_keeps}
use Rattle.model.proofs.Inv.{Inv, MarketOk, Quiet, RoundOk, closed_is, idle_is}
use Rattle.pricing.proofs.Limits.{rate_none}
use Rattle.pricing.proofs.Prices.{bounds_even, high_le, le_high, low_le, low_pos}
use Rattle.ticket_set.proofs.Laws.{bit_of_empty}
use Rattle.units.proofs.Decide.{Passed, or_false}
use Rattle.units.proofs.Sums.{only_zero, sum_zero}
use Rattle.model.specs.declared.call.Call.TheVariants as Call

-- ---- a round without tickets

T_empty : (x : Side) → T empty_log x ≡ 0
T_empty x = sum_zero 64 _ (λ k l. refl)

P_empty : (x : Side) → P empty_log x ≡ 0
P_empty Buy = refl
P_empty Sell = refl

G_empty : (x : Side) → G empty_log x ≡ 0
G_empty Buy = refl
G_empty Sell = refl

came_empty : (x : Side) → came_in empty_log x ≡ 0
came_empty Buy = omega (arith, T_empty Buy)
came_empty Sell = omega (arith, T_empty Sell)

went_empty : (x : Side) → went_out empty_log x ≡ 0
went_empty Buy = omega (arith, sum_zero 64 (λ k. moved_out Buy absent) (λ k l. refl))
went_empty Sell = omega (arith, sum_zero 64 (λ k. moved_out Sell absent) (λ k l. refl))

holds_of_empty : (mk u : ℕ) → holds_of mk empty_log u ≡ 0
holds_of_empty mk u =
    omega (
      arith,
      ap (λ n. only 0 (n - went_out empty_log Buy) u) (came_empty Buy),
      ap (λ n. only mk (n - went_out empty_log Sell) u) (came_empty Sell),
      ap (λ n. only 0 n u) (zero-sub (went_out empty_log Buy)),
      ap (λ n. only mk n u) (zero-sub (went_out empty_log Sell)),
      only_zero 0 u,
      only_zero mk u,
    )

opened_ok : (at r w len : ℕ) → 1 ≤ r → r ≤ highest_reference → w ≤ highest_slack → 0 < len → len ≤ 64 → RoundOk collecting (opened_round at r w len) empty_log
opened_ok at r w len hr hr2 hw hl hl2 =
    record {
      stage = refl;
      total = t;
      paid = p;
      got = g;
      held = d;
      marks = λ k l. bit_of_empty k;
      marks_small = lit< tt;
      within = λ x. omega (arith, P_empty x);
      empty = λ x e. G_empty x;
      rate = λ x. rw (P_empty x) (rate_none x (high_bound r w) (low_bound r w) (G empty_log x));
      parts = λ k l. tt;
      terms =
          record {
            low = low_pos r w hr hw;
            order_low = low_le r w;
            order_high = le_high r w;
            even = bounds_even r w (omega (arith, hw));
            high = high_le r w hr2 hw;
            len_pos = hl;
            len_high = hl2;
          };
      small_total = λ x. omega (arith, T_empty x);
      small_got = λ x. omega (arith, G_empty x);
    }
  where
    t : (x : Side) → (totals_of (opened_round at r w len) x).total.0 ≡ T empty_log x
    t Buy = sym (T_empty Buy)
    t Sell = sym (T_empty Sell)

    p : (x : Side) → (totals_of (opened_round at r w len) x).paid.0 ≡ P empty_log x
    p Buy = sym (P_empty Buy)
    p Sell = sym (P_empty Sell)

    g : (x : Side) → (totals_of (opened_round at r w len) x).got.0 ≡ G empty_log x
    g Buy = sym (G_empty Buy)
    g Sell = sym (G_empty Sell)

    d : (x : Side) → held_in (opened_round at r w len) x + went_out empty_log x ≡ came_in empty_log x
    d Buy = omega (arith, came_empty Buy, went_empty Buy)
    d Sell = omega (arith, came_empty Sell, went_empty Sell)

quiet_empty : Quiet empty_log
quiet_empty = record { traded_zero = a; taken_zero = c; given_zero = d }
  where
    a : (x : Side) → traded empty_log x ≡ 0
    a Buy = refl
    a Sell = refl

    c : (x : Side) → taken empty_log x ≡ 0
    c Buy = refl
    c Sell = refl

    d : (x : Side) → given empty_log x ≡ 0
    d Buy = refl
    d Sell = refl

pub open_keeps : (h : Exchange) (y : History) (mk at r w len : ℕ) → Inv h y → Passed (open_tests h mk at r w len)
    → Inv (open_done h mk at r w len).exchange (with_event y (Call.Open mk at r w len) (open_done h mk at r w len).answer)
unfolding with_event with_accepted
open_keeps h y mk at r w len i p =
    let hmk : (1 ≤ mk) × (mk ≤ 3) = inside mk 1 3 p.0 in
    let e1 : (outside r 1 highest_reference ≡ false) × ((ltb highest_slack w || outside len 1 64) ≡ false) = or_false (outside r 1 highest_reference) (ltb highest_slack w || outside len 1 64) p.1.0 in
    let e2 : (ltb highest_slack w ≡ false) × (outside len 1 64 ≡ false) = or_false (ltb highest_slack w) (outside len 1 64) e1.1 in
    let hr : (1 ≤ r) × (r ≤ highest_reference) = inside r 1 highest_reference e1.0 in
    let hw : w ≤ highest_slack = ltb-false highest_slack w e2.0 in
    let hl : (1 ≤ len) × (len ≤ 64) = inside len 1 64 e2.1 in
    let ep : phase h mk ≡ Closed = closed_is (phase h mk) (not-false (is_closed (phase h mk)) p.1.1.0) in
    let pos : 0 < mk = omega arith in
    let lt4 : mk < 4 = omega arith in
    let er : y.rounds mk ≡ idle = idle_is (y.rounds mk) (subst (λ (v : Phase). MarketOk v (y.rounds mk)) ep (i.markets mk pos lt4)) in
    subst (λ (v : Current). Inv (open_done h mk at r w len).exchange (with_round y mk v)) (sym (ap round_begun er))
    (phase_keeps h y i mk at pos lt4 (Collect (opened_round at r w len)) (running empty_log)
    (opened_ok at r w len hr.0 hr.1 hw (omega arith) hl.1, quiet_empty)
    (λ j hj. ap (λ (c : Current). unclaimed (part_in c j)) er)
    (λ u. holds_of_empty mk u ∙ sym (ap (λ (c : Current). current_holds mk c u) er)))
