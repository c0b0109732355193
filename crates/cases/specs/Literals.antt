-- Orders, their terms, claims and a side's totals, each written in one line.
use Rattle.std.specs.Prelude.{ℕ}
use Rattle.units.specs.Counts.{amount, price}
use Rattle.pricing.specs.declared.Side.{Side}
use Rattle.pricing.specs.declared.Totals.{Totals}
use Rattle.model.specs.declared.state.Order.{Order}
use Rattle.model.specs.History.{OrderTerms, Payout}

abbrev pub order : (member market : ℕ) → Side → (limit offer : ℕ) → Order
order member market side limit offer =
    record { member = member; market = market; side = side; limit = price limit; offer = amount offer }

abbrev pub terms : (member : ℕ) → Side → (limit : ℕ) → OrderTerms
terms member side limit = record { member = member; side = side; limit = limit }

abbrev pub payout : (member : ℕ) → Side → (limit s got : ℕ) → Payout
payout member side limit s got = record { terms = terms member side limit; s = s; got = got }

abbrev pub totals : (total paid got : ℕ) → Totals
totals t p g = record { total = amount t; paid = amount p; got = amount g }
