-- The statements on matches used, met and refused.
use Prim.Native.Nat.{ℕ, ◌*◌, ◌≤◌, ◌<◌}
use mathlib.Core.Path.{◌≡◌, ap, refl, subst, sym}
use native.Mathlib.Omega.{arith}
use Rattle.pricing.specs.declared.Trade.{Trade}
use Rattle.model.specs.declared.state.Phase.{Phase}
use Rattle.model.specs.State.{round_in}
use Rattle.model.specs.Matching.{MatchTells}
use Rattle.cases.specs.MatchCases.{MatchUsed, MatchMet, MatchRefused}
use Rattle.model.proofs.Computing.{call_computes}

pub match_used : MatchUsed
match_used =
    record {
      base_fits = λ t x l e. (t x l 2 9 7 5 e).fits.base_fits;
      quote_fits = λ t x l e. (t x l 2 9 7 5 e).fits.quote_fits;
      not_above = λ t x l e. (t x l 2 9 7 5 e).fits.not_above;
      not_below = λ t x l e. (t x l 2 9 7 5 e).fits.not_below;
      near_above = λ t x l e. (t x l 2 9 7 5 e).near.above;
      near_below = λ t x l e. omega (arith, (t x l 2 9 7 5 e).near.below);
      upper = λ t x l e k. sym ((t x l 2 9 7 5 e).upper k);
      whole = λ t x l e. sym ((t x l 2 9 7 5 e).whole (omega arith));
      alone = λ w r b t. let e = sym (w r b 7 5 t) in (ap (λ (v : Trade). v.base.0) e, ap (λ (v : Trade). v.quote.0) e);
      dropped = λ t x l r p e one d.
          let m : MatchTells r 0 0 = subst (λ (s : Phase). MatchTells (round_in s) 0 0) p (t x l 2 9 0 0 e) in
          subst (λ (n : ℕ). d * 1000000 ≤ r.hi.0 * n → d * 1000000 < r.lo.0 * n) one (m.only refl (omega (arith, one)) d);
    }

pub match_met : MatchMet
unfolding call_computes
match_met =
    record {
      one_base = record {
        fits = record { base_fits = omega arith; quote_fits = omega arith; not_above = omega arith; not_below = omega arith };
        near = record { above = omega arith; below = omega arith };
        upper = λ k. omega (arith, k);
        whole = λ l. refl;
        only = λ e l d k. omega (arith, e);
      };
      three_base = record {
        fits = record { base_fits = omega arith; quote_fits = omega arith; not_above = omega arith; not_below = omega arith };
        near = record { above = omega arith; below = omega arith };
        upper = λ k. omega (arith, k);
        whole = λ l. refl;
        only = λ e l d k. omega (arith, e);
      };
      no_base = record {
        fits = record { base_fits = omega arith; quote_fits = omega arith; not_above = omega arith; not_below = omega arith };
        near = record { above = omega arith; below = omega arith };
        upper = λ k. refl;
        whole = λ l. omega (arith, l);
        only = λ e l d k. omega (arith, l);
      };
      up = record {
        fits = record { base_fits = omega arith; quote_fits = omega arith; not_above = omega arith; not_below = omega arith };
        near = record { above = omega arith; below = omega arith };
        upper = λ k. refl;
        whole = λ l. refl;
        only = λ e l d k. omega (arith, e);
      };
      edge = record {
        fits = record { base_fits = omega arith; quote_fits = omega arith; not_above = omega arith; not_below = omega arith };
        near = record { above = omega arith; below = omega arith };
        upper = λ k. omega (arith, k);
        whole = λ l. omega (arith, l);
        only = λ e l d k. omega (arith, k);
      };
    }

pub match_refused : MatchRefused
unfolding call_computes
match_refused =
    record {
      above = λ t. let h : 3000000 ≤ 2310000 = t.fits.not_above in omega (arith, h);
      below = λ t. let h : 1890000 ≤ 1000000 = t.fits.not_below in omega (arith, h);
      dropped = λ t. let h : 2000000 < 1890000 = t.only refl (omega arith) 2 (omega arith) in omega (arith, h);
      part = λ t. let h : ◌≡◌ {A = ℕ} 1 3 = t.whole (omega arith) in omega (arith, h);
      more = λ t. let h : 2 ≤ 1 = t.fits.base_fits in omega (arith, h);
      down = λ t. let h : ◌≡◌ {A = ℕ} 1 2 = t.upper (omega arith) in omega (arith, h);
      far = λ t. let h : 4200000 < 3000000 = t.near.below in omega (arith, h);
    }
