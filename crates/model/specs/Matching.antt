-- What an accepted match answers, in every state that calls can leave: m and c of document 01 with L4, in plain inequalities.
use Rattle.std.specs.Prelude.{ℕ, ◌*◌, ◌≤◌, ◌<◌, ◌≡◌, Ok}
use Rattle.units.specs.Counts.{million}
use Rattle.pricing.specs.Prices.{match_base, match_quote, trade}
use Rattle.pricing.specs.Laws.{TradeFits, Near}
use Rattle.model.specs.declared.state.Exchange.{Exchange}
use Rattle.model.specs.declared.state.Round.{Round}
use Rattle.model.specs.declared.call.Call.TheVariants as Call
use Rattle.model.specs.State.{phase, round_in}
use Rattle.model.specs.Calls.{trade_of}
use Rattle.model.specs.Run.{step_of, Reachable}
use Rattle.model.specs.Bounds.{RoundBounds}

-- the base that a round's two sides could trade: "the smaller of S and Q×1,000,000/r rounded down"
abbrev pub base_of : Round → ℕ
base_of r = match_base r.buys.total.0 r.sells.total.0 r.reference.0

-- and what it comes to: "m×r/1,000,000 rounded up"
abbrev pub upper_of : Round → ℕ
upper_of r = match_quote (base_of r) r.reference.0

pub record MatchTells (r : Round) (m c : ℕ) : Type 0 where
  -- no more of a side than it offers, at a price from lo to hi
  pub fits : TradeFits r.buys.total.0 r.sells.total.0 r.lo.0 r.hi.0 (trade m c)
  -- for a quote near to what m comes to at the reference price, rounded up where that keeps hi
  pub near : Near r.reference.0 (trade m c)
  pub upper : upper_of r * million ≤ r.hi.0 * base_of r → c ≡ upper_of r
  -- all of the base that could be traded, or none
  pub whole : 0 < m → m ≡ base_of r
  -- L4: "only otherwise are m and c 0"
  pub only : m ≡ 0 → 0 < base_of r → (d : ℕ) → d * million ≤ r.hi.0 * base_of r → d * million < r.lo.0 * base_of r

-- of every match that is accepted
abbrev pub MatchesTell : Type 0
MatchesTell =
    (x : Exchange) → Reachable x → (market at m c : ℕ) → (step_of x (Call.Match market at)).answer ≡ Ok (m, c)
    → MatchTells (round_in (phase x market)) m c

-- and no other two numbers are so in a round within its bounds: what is told is the definition's trade
abbrev pub MatchAlone : Type 0
MatchAlone = (r : Round) → RoundBounds r → (m c : ℕ) → MatchTells r m c → trade m c ≡ trade_of r
