-- What an accepted match answers: the statement used in any state, met in given rounds, and refused one unit off.
use Rattle.std.specs.Prelude.{ℕ, ◌+◌, ◌*◌, ◌≤◌, ◌<◌, ◌≡◌, Ok}
use Rattle.units.specs.Counts.{amount, price}
use Rattle.model.specs.declared.state.Exchange.{Exchange}
use Rattle.model.specs.declared.state.Round.{Round}
use Rattle.model.specs.declared.state.Phase.TheVariants.{Collect}
use Rattle.model.specs.declared.call.Call.TheVariants.{Match}
use Rattle.model.specs.State.{opened_between, phase, round_in, with_sides}
use Rattle.model.specs.Calls.{opened_round, trade_of}
use Rattle.model.specs.Run.{step_of, Reachable}
use Rattle.model.specs.Bounds.{RoundBounds}
use Rattle.model.specs.Matching.{MatchAlone, MatchTells, MatchesTell, base_of, upper_of}

-- a round that collected q quote and s base
abbrev pub collected : Round → ℕ → ℕ → Round
collected r q s =
    with_sides r
    (record { total = amount q; paid = amount 0; got = amount 0 })
    (record { total = amount s; paid = amount 0; got = amount 0 })

-- at reference price r and slack w; at r 2,100,000 and slack 100,000, so between 1.89 and 2.31
abbrev pub offered_at : ℕ → ℕ → ℕ → ℕ → Round
offered_at r w = collected (opened_round 0 r w 1)

abbrev pub offered : ℕ → ℕ → Round
offered = offered_at 2100000 100000

-- ---- what it gives of market 2, whatever its round

-- of a match of 7 base for 5 quote
abbrev pub Traded : (Round → Type 0) → Type 0
Traded K = MatchesTell → (x : Exchange) → Reachable x → (step_of x (Match 2 9)).answer ≡ Ok (7, 5) → K (round_in (phase x 2))

pub record MatchUsed : Type 0 where
  pub base_fits : Traded (λ r. 7 ≤ r.sells.total.0)
  pub quote_fits : Traded (λ r. 5 ≤ r.buys.total.0)
  pub not_above : Traded (λ r. 5000000 ≤ r.hi.0 * 7)
  pub not_below : Traded (λ r. r.lo.0 * 7 ≤ 5000000)
  pub near_above : Traded (λ r. 5000000 < 7 * r.reference.0 + 1000000)
  pub near_below : Traded (λ r. 2 * (7 * r.reference.0) < 11000000)
  pub upper : Traded (λ r. upper_of r * 1000000 ≤ r.hi.0 * base_of r → upper_of r ≡ 5)
  pub whole : Traded (λ r. base_of r ≡ 7)
  pub alone : MatchAlone → (r : Round) → RoundBounds r → MatchTells r 7 5 → ((trade_of r).base.0 ≡ 7) × ((trade_of r).quote.0 ≡ 5)
  -- a match of nothing, where one base could be traded: no quote keeps both bounds, not even 0
  pub dropped :
      MatchesTell → (x : Exchange) → Reachable x → (r : Round) → phase x 2 ≡ Collect r → (step_of x (Match 2 9)).answer ≡ Ok (0, 0)
      → base_of r ≡ 1 → (d : ℕ) → d * 1000000 ≤ r.hi.0 * 1 → d * 1000000 < r.lo.0 * 1

-- ---- what meets it

pub record MatchMet : Type 0 where
  -- the request's own, three base, and 2 quote, which fetch none
  pub one_base : MatchTells (offered 1000 1) 1 2
  pub three_base : MatchTells (offered 1000 3) 3 6
  pub no_base : MatchTells (offered 2 1) 0 0
  -- rounded up, where rounded down would keep both bounds too
  pub up : MatchTells (offered_at 1500000 500000 9 1) 1 2
  -- the marked edge: three base could be traded, and no quote keeps both bounds
  pub edge : MatchTells (offered_at 2500000 0 100 3) 0 0

-- ---- what it refuses

pub record MatchRefused : Type 0 where
  -- 3 for one base, above hi; 1, below lo
  pub above : MatchTells (offered 1000 1) 1 3 → ⊥
  pub below : MatchTells (offered 1000 1) 1 1 → ⊥
  -- nothing, where 2 keep both bounds
  pub dropped : MatchTells (offered 1000 1) 0 0 → ⊥
  -- one of three base, and two where there is one
  pub part : MatchTells (offered 1000 3) 1 2 → ⊥
  pub more : MatchTells (offered 1000 1) 2 4 → ⊥
  -- rounded down where rounded up keeps hi
  pub down : MatchTells (offered_at 1500000 500000 9 1) 1 1 → ⊥
  -- 1 for one base at 2.1, which keeps bounds that no open makes, 0.1 and 2.11
  pub far : MatchTells (collected (opened_between 0 2100000 1 (price 2110000) (price 100000)) 1000 1) 1 1 → ⊥
