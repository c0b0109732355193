-- What work on parts may ask of them: what `Bounded` (model/specs/Bounds.antt), which every state that calls can leave keeps, says of the parts that a
-- call touches.
use Rattle.std.specs.Prelude.{ℕ, ◌+◌, ◌≤◌, ◌<◌, ◌≡◌}
use Rattle.units.specs.declared.Amount.{Amount}
use Rattle.units.specs.declared.Block.{Block}
use Rattle.units.specs.Counts.{largest}
use Rattle.pricing.specs.declared.Side.{Side}
use Rattle.pricing.specs.declared.Side.TheVariants.{Buy, Sell}
use Rattle.ledger.specs.declared.Row.{Row}
use Rattle.ledger.specs.Balances.{RowShaped, cell_of}
use Rattle.model.specs.declared.state.Order.{Order}
use Rattle.model.specs.declared.state.Ticket.{Ticket}
use Rattle.model.specs.declared.state.TicketState.TheVariants.{Resting, Entered}
use Rattle.model.specs.declared.state.Round.{Round}
use Rattle.model.specs.declared.state.Phase.TheVariants.{Collect, Auction, Paying}
use Rattle.model.specs.declared.state.Market.{Market}
use Rattle.model.specs.Sides.{other, offered, wanted}
use Rattle.model.specs.State.{totals_of}
use Rattle.model.specs.Calls.{share_in, got_in}
use Rattle.model.specs.Bounds.{OrderBounds, RoundBounds, AuctionBounds, EnteredBounds, ClaimBounds, held_in}

-- deposit, withdraw: a balance is within its token's supply
abbrev pub BankBounds : Row → Amount → ℕ → Type 0
BankBounds row supply token = (token < 4) × (cell_of row token ≤ supply.0)

-- cancel: what a resting ticket offers fits beside any balance
abbrev pub CancelBounds : Row → Ticket → Type 0
CancelBounds row t =
    (o : Order) → t.state ≡ Resting o → (o.market < 4) × (cell_of row (offered o.side o.market) + o.offer.0 ≤ largest)

-- enter: it fits beside what the round holds and its side's total
abbrev pub EnterBounds : Ticket → Market → Type 0
EnterBounds t market =
    (o : Order) (r : Round) → t.state ≡ Resting o → market.phase ≡ Collect r
    → ((totals_of r o.side).total.0 + o.offer.0 ≤ largest) × (held_in r o.side + o.offer.0 ≤ largest)

-- leave: its offer is within its side's total and within what the round holds
abbrev pub LeaveBounds : Ticket → Market → Type 0
LeaveBounds t market =
    (o : Order) (r : Round) → t.state ≡ Entered o → market.phase ≡ Collect r
    → (o.offer.0 ≤ (totals_of r o.side).total.0) × (o.offer.0 ≤ held_in r o.side)

-- match: there is a reference price
abbrev pub MatchBounds : Market → Type 0
MatchBounds market = (r : Round) → market.phase ≡ Collect r → 0 < r.reference.0

-- bid: in auction, from its match on, what a round holds fits beside any balance; the maker's row has its four cells
pub record BidBounds (r : Round) (row : Row) (last : Block) (number : ℕ) : Type 0 where
  pub round : RoundBounds r
  pub auction : AuctionBounds r
  pub started : r.start.0 ≤ last.0
  pub market : number < 4
  pub cells : RowShaped row
  pub beside : (side : Side) → cell_of row (offered side number) + held_in r side ≤ largest

abbrev pub BidFits : Market → Row → Block → ℕ → Type 0
BidFits market row last number = (r : Round) → market.phase ≡ Auction r → BidBounds r row last number

-- claim: the round covers it, and what the round holds fits beside any balance and the residue
pub record PayBounds (o : Order) (r : Round) (row : Row) (quote base : Amount) (k : ℕ) : Type 0 where
  pub order : OrderBounds o
  pub round : RoundBounds r
  pub entered : EnteredBounds r k o
  pub claim : ClaimBounds r o (share_in r o) (got_in r o)
  pub balance_fits : cell_of row (wanted o.side o.market) + held_in r (other o.side) ≤ largest
  pub quote_fits : quote.0 + held_in r Buy ≤ largest
  pub base_fits : base.0 + held_in r Sell ≤ largest

abbrev pub ClaimFits : Ticket → Market → Row → Amount → Amount → ℕ → Type 0
ClaimFits t market row quote base k =
    (o : Order) (r : Round) → t.state ≡ Entered o → market.phase ≡ Paying r → PayBounds o r row quote base k
