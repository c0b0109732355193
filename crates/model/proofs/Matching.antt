-- What an accepted match answers, and that nothing else is told.
use Rattle.std.specs.Prelude.{Ok}
use Prim.Native.Nat.{◌*◌, ◌+◌, ◌<◌, ◌≤◌, suc, zero, ℕ}
use mathlib.Core.Path.{◌∙◌, ◌≡◌, ap, ap₂, refl, subst, subst₂, sym}
use native.Mathlib.Nat.{mul-le-mul_right}
use native.Mathlib.Omega.{arith}
use borrow.Author.Tests.{not-false}
use Rattle.pricing.specs.declared.Trade.{Trade}
use Rattle.pricing.specs.Prices.{lower_quote, trade}
use Rattle.pricing.proofs.Trades.{by_rounding, drops_only, lower_under, quotes_near, trade_fits, traded_base, under_lower, upper_kept, upper_over}
use Rattle.units.specs.Counts.{million}
use Rattle.units.proofs.Decide.{Passed}
use Rattle.model.specs.Answers.{first_of, second_of}
use Rattle.model.specs.Bounds.{PhaseBounds, RoundBounds}
use Rattle.model.specs.Calls.{match_tests, trade_of}
use Rattle.model.specs.Matching.{MatchAlone, MatchTells, MatchesTell, base_of, upper_of}
use Rattle.model.specs.State.{is_collect, phase, round_in}
use Rattle.model.specs.declared.answer.Outcome.{Outcome}
use Rattle.model.specs.declared.call.Call.TheVariants as Call
use Rattle.model.specs.declared.state.Phase.TheVariants.{Collect}
use Rattle.model.specs.declared.state.Round.{Round}
use Rattle.model.proofs.Frames.{inside}
use Rattle.model.proofs.Inv.{collect_is}
use Rattle.model.proofs.ReachBounds.{reachable_bounded}
use Rattle.model.proofs.Steps.{accepted_passed, step_passed}

module _ (r : Round) (b : RoundBounds r) where
  abbrev q : ℕ
  q = r.buys.total.0

  abbrev s : ℕ
  s = r.sells.total.0

  abbrev ref : ℕ
  ref = r.reference.0

  abbrev hi : ℕ
  hi = r.hi.0

  abbrev lo : ℕ
  lo = r.lo.0

  -- of what a round within its bounds trades
  round_tells : MatchTells r (trade_of r).base.0 (trade_of r).quote.0
  round_tells =
      record {
        fits = trade_fits q s ref hi lo b.terms.order_low b.terms.order_high;
        near = quotes_near q s ref hi lo b.terms.even;
        upper = λ k. ap (λ (t : Trade). t.quote.0) (upper_kept q s ref hi lo k);
        whole = traded_base q s ref hi lo;
        only = below;
      }
    where
      -- lo is not 0
      below : (trade_of r).base.0 ≡ 0 → 0 < base_of r → (d : ℕ) → d * million ≤ hi * base_of r → d * million < lo * base_of r
      below e l zero k = omega (arith, l, mul-le-mul_right (base_of r) b.terms.low)
      below e l (suc d) k = drops_only q s ref hi lo (suc d) e (omega arith) k

  -- where some quote keeps both bounds, all base that could be traded is
  base_is : (d m n c : ℕ) → base_of r ≡ n → MatchTells r m c → d * million ≤ hi * base_of r → lo * base_of r ≤ d * million → m ≡ base_of r
  base_is d (suc m) n c e t k l = t.whole (omega arith)
  base_is d zero zero c e t k l = sym e
  base_is d zero (suc n) c e t k l = absurd (omega (arith, l, t.only refl (omega (arith, e)) d k))

  -- and where c rounded up breaks hi, all base goes for c rounded down
  lower_is : (m c : ℕ) → MatchTells r m c → hi * base_of r < upper_of r * million → m ≡ base_of r → c ≡ lower_quote (base_of r) ref
  lower_is m c t a e =
      let high : c * million ≤ hi * base_of r = subst (λ (n : ℕ). c * million ≤ hi * n) e t.fits.not_above in
      let low : 2 * (base_of r * ref) < 2 * (c * million) + million = subst (λ (n : ℕ). 2 * (n * ref) < 2 * (c * million) + million) e t.near.below in
      omega (arith, under_lower hi (base_of r) ref c a high, low, lower_under (base_of r) ref)

  -- or nothing is traded
  none_is : (m c : ℕ) → MatchTells r m c → hi * base_of r < upper_of r * million
      → let d : ℕ = lower_quote (base_of r) ref in
      (1 ≤ d → d * million < lo * base_of r) → trade m c ≡ trade 0 0
  none_is zero c t a n = ap (trade 0) (omega (arith, t.fits.not_above))
  none_is (suc m) zero t a n = absurd (omega (arith, t.fits.not_below, mul-le-mul_right (suc m) b.terms.low))
  none_is (suc m) (suc c) t a n =
      let e : suc m ≡ base_of r = t.whole (omega arith) in
      let low : lo * base_of r ≤ suc c * million = subst (λ (n : ℕ). lo * n ≤ suc c * million) e t.fits.not_below in
      let d : suc c ≡ lower_quote (base_of r) ref = lower_is (suc m) (suc c) t a e in
      absurd (omega (arith, low, d, n (omega (arith, d))))

  -- so no other two numbers are told
  told_alone : (m c : ℕ) → MatchTells r m c → trade m c ≡ trade_of r
  told_alone m c t =
      by_rounding (λ v. trade m c ≡ v) q s ref hi lo
      (λ k. ap₂ trade
      (base_is (upper_of r) m (base_of r) c refl t k (omega (arith, upper_over (base_of r) ref, mul-le-mul_right (base_of r) b.terms.order_low)))
      (t.upper k))
      (λ a o k.
      let e = base_is (lower_quote (base_of r) ref) m (base_of r) c refl t (omega (arith, lower_under (base_of r) ref, mul-le-mul_right (base_of r) b.terms.order_high)) k in
      ap₂ trade e (lower_is m c t a e))
      (λ a n. none_is m c t a n)

pub match_alone : MatchAlone
match_alone = told_alone

pub matches_tell : MatchesTell
matches_tell x l market at m c e =
    let p : Passed (match_tests x market at) = accepted_passed x (Call.Match market at) m c e in
    let range : (1 ≤ market) × (market ≤ 3) = inside market 1 3 p.0 in
    let r : Round = round_in (phase x market) in
    let ep : phase x market ≡ Collect r = collect_is (phase x market) (not-false (is_collect (phase x market)) p.1.0) in
    let b : RoundBounds r = (subst PhaseBounds ep ((reachable_bounded x l).phase_bounds market (omega (arith, range)) (omega (arith, range)))).0 in
    let told : Ok (m, c) ≡ Ok ((trade_of r).base.0, (trade_of r).quote.0) =
    sym e ∙ ap (λ (out : Outcome). out.answer) (step_passed x (Call.Match market at) p) in
    subst₂ (MatchTells r) (sym (ap first_of told)) (sym (ap second_of told)) (round_tells r b)
