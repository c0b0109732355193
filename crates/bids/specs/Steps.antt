-- Steps of bid.
use Rattle.std.specs.Prelude.{ℕ, ◌+◌, ◌≤◌}
use Rattle.units.specs.Counts.{largest}
use Rattle.pricing.specs.declared.Side.{Side}
use Rattle.model.specs.declared.state.Round.{Round}
use Rattle.model.specs.Sides.{other, gives, takes}
use Rattle.model.specs.State.{totals_of}
use Rattle.model.specs.Bounds.{held_in}

-- n base for q quote on a side: the round can pay what the maker takes, and there is room for what the maker gives
pub record TradeRoom (r : Round) (side : Side) (n q : ℕ) : Type 0 where
  pub paid : (totals_of r side).paid.0 + takes side n q ≤ largest
  pub got : (totals_of r side).got.0 + gives side n q ≤ largest
  pub held : takes side n q ≤ held_in r side
  pub room : held_in r (other side) + gives side n q ≤ largest
