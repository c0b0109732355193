-- What every state that calls can leave keeps of its numbers: all that the calls need so that no sum passes its width, no difference
-- falls below 0 and no divisor is 0. A function on parts of the state may ask these of its parts.
use Rattle.std.specs.Prelude.{ℕ, ◌+◌, ◌-◌, ◌^◌, ◌≤◌, ◌<◌, ◌≡◌, length}
use Rattle.units.specs.Counts.{largest}
use Rattle.units.specs.Ranges.{highest_bound, longest_auction}
use Rattle.units.specs.Sums.{only}
use Rattle.ticket_set.specs.TicketSet.{bit}
use Rattle.pricing.specs.declared.Side.{Side}
use Rattle.pricing.specs.declared.Side.TheVariants.{Buy, Sell}
use Rattle.ledger.specs.Balances.{Shaped}
use Rattle.model.specs.declared.state.Order.{Order}
use Rattle.model.specs.declared.state.TicketState.{TicketState}
use Rattle.model.specs.declared.state.TicketState.TheVariants.{Free, Resting, Entered}
use Rattle.model.specs.declared.state.Round.{Round}
use Rattle.model.specs.declared.state.Phase.{Phase}
use Rattle.model.specs.declared.state.Phase.TheVariants.{Closed, Collect, Auction, Paying}
use Rattle.model.specs.declared.state.Exchange.{Exchange}
use Rattle.model.specs.Sides.{other, offered}
use Rattle.model.specs.State.{balance, supply, residue, last_block, ticket, phase, round_in, totals_of}
use Rattle.model.specs.Calls.{share_in, got_in}
use Rattle.model.specs.Run.{Reachable}
use Rattle.model.specs.WholeRun.{resting_in}

-- ---- orders and rounds

-- an order of a ticket in use: its member, its market, and a limit and an offer of at least 1
pub record OrderBounds (o : Order) : Type 0 where
  pub member : o.member < 16
  pub market_low : 0 < o.market
  pub market_high : o.market < 4
  pub limit : 0 < o.limit.0
  pub offer : 0 < o.offer.0

abbrev pub TicketBounds : TicketState → Type 0
TicketBounds Free = Unit {0}
TicketBounds (Resting o) = OrderBounds o
TicketBounds (Entered o) = OrderBounds o

-- the prices and the length that a round was opened with
pub record TermsBounds (reference hi lo len : ℕ) : Type 0 where
  pub low : 0 < lo
  pub order_low : lo ≤ reference
  pub order_high : reference ≤ hi
  -- hi and lo equally far from it, which no call needs: for what is said of a match's quote (`Matching`)
  pub even : hi + lo ≡ reference + reference
  pub high : hi ≤ highest_bound
  pub len_pos : 0 < len
  pub len_high : len ≤ longest_auction

-- what a round holds of the token that a side offers
abbrev pub held_in : Round → Side → ℕ
held_in r Buy = r.quote.0
held_in r Sell = r.base.0

-- in every phase
pub record RoundBounds (r : Round) : Type 0 where
  pub terms : TermsBounds r.reference.0 r.hi.0 r.lo.0 r.length
  pub paid : (side : Side) → (totals_of r side).paid.0 ≤ (totals_of r side).total.0
  pub total : (side : Side) → (totals_of r side).total.0 ≤ largest
  pub got : (side : Side) → (totals_of r side).got.0 ≤ largest
  pub tickets : r.tickets < 2 ^ 64

-- while collecting, just the sides' totals are held
pub record CollectBounds (r : Round) : Type 0 where
  pub held : (side : Side) → held_in r side ≡ (totals_of r side).total.0
  pub paid : (side : Side) → (totals_of r side).paid.0 ≡ 0
  pub got : (side : Side) → (totals_of r side).got.0 ≡ 0

-- in auction, what is not sold is held, and so is what a side got
pub record AuctionBounds (r : Round) : Type 0 where
  pub unsold : (side : Side) → (totals_of r side).total.0 ≤ (totals_of r side).paid.0 + held_in r side
  pub got : (side : Side) → (totals_of r side).got.0 ≤ held_in r (other side)

abbrev pub PhaseBounds : Phase → Type 0
PhaseBounds Closed = Unit {0}
PhaseBounds (Collect r) = RoundBounds r × CollectBounds r
PhaseBounds (Auction r) = RoundBounds r × AuctionBounds r
PhaseBounds (Paying r) = RoundBounds r

-- a round has ticket k with order o: its bit, and its offer in its side's total
pub record EnteredBounds (r : Round) (k : ℕ) (o : Order) : Type 0 where
  pub member : bit r.tickets k ≡ 1
  pub offer : o.offer.0 ≤ (totals_of r o.side).total.0

-- a round covers the claim of a ticket with order o
pub record ClaimBounds (r : Round) (o : Order) (s got : ℕ) : Type 0 where
  pub paid : s ≤ o.offer.0
  pub refund : o.offer.0 - s ≤ held_in r o.side
  pub payment : got ≤ held_in r (other o.side)

-- ---- the state

-- what market n's round holds of token t
abbrev pub held_of : ℕ → Round → ℕ → ℕ
held_of n r t = only (offered Buy n) (held_in r Buy) t + only (offered Sell n) (held_in r Sell) t

pub record Bounded (x : Exchange) : Type 0 where
  -- sizes
  pub rows : Shaped x.ledger
  pub supplies : length x.supply ≡ 4
  pub residues : length x.residue ≡ 4
  pub tickets : length x.tickets ≡ 64
  pub markets : length x.markets ≡ 3
  -- one balance, one ticket's offer, what one round holds and the residue are together within the supply, and that is within 32 bits
  pub within :
      (m k n t : ℕ) → m < 16 → k < 64 → 0 < n → n < 4 → t < 4
      → balance x m t + resting_in (ticket x k) t + held_of n (round_in (phase x n)) t + residue x t ≤ supply x t
  pub small : (t : ℕ) → t < 4 → supply x t ≤ largest
  -- tickets and rounds
  pub ticket_bounds : (k : ℕ) → k < 64 → TicketBounds (ticket x k)
  pub phase_bounds : (n : ℕ) → 0 < n → n < 4 → PhaseBounds (phase x n)
  -- a ticket that rests is in no round, one in a round's set entered there, and one that entered is in its round and is covered by it once that pays
  pub rests : (k : ℕ) → k < 64 → (o : Order) → ticket x k ≡ Resting o → bit (round_in (phase x o.market)).tickets k ≡ 0
  pub marked :
      (n : ℕ) → 0 < n → n < 4 → (k : ℕ) → k < 64 → bit (round_in (phase x n)).tickets k ≡ 1
      → (o : Order) × (o.market ≡ n) × (ticket x k ≡ Entered o)
  pub entered : (k : ℕ) → k < 64 → (o : Order) → ticket x k ≡ Entered o → EnteredBounds (round_in (phase x o.market)) k o
  pub claims :
      (k : ℕ) → k < 64 → (o : Order) (r : Round) → ticket x k ≡ Entered o → phase x o.market ≡ Paying r
      → ClaimBounds r o (share_in r o) (got_in r o)
  -- no round's open or match is after the last block
  pub opened : (n : ℕ) → 0 < n → n < 4 → (round_in (phase x n)).opened.0 ≤ last_block x
  pub started : (n : ℕ) → 0 < n → n < 4 → (round_in (phase x n)).start.0 ≤ last_block x

abbrev pub ReachableBounded : Type 0
ReachableBounded = (x : Exchange) → Reachable x → Bounded x
