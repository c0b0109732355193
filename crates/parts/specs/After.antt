-- What a call on parts of the state gives: its answer, and the parts after it.
use Rattle.std.specs.Prelude.{Result, ⊤}
use Rattle.units.specs.declared.Amount.{Amount}
use Rattle.units.specs.declared.Block.{Block}
use Rattle.ledger.specs.declared.Row.{Row}
use Rattle.model.specs.declared.state.Ticket.{Ticket}
use Rattle.model.specs.declared.state.Market.{Market}
use Rattle.model.specs.declared.answer.Refusal.{Refusal}
use Rattle.model.specs.Answers.{Answer}

-- what a call's numbers alone say of it: nothing, or the first refusal among those that look at no state
abbrev pub Form : Type 0
Form = Result ⊤ Refusal

-- deposit and withdraw: a member's row and a token's supply
pub record Banked : Type 0 where
  pub answer : Answer
  pub row : Row
  pub supply : Amount

-- order and cancel: a member's row and a ticket
pub record Placed : Type 0 where
  pub answer : Answer
  pub row : Row
  pub ticket : Ticket

-- open, match and settle: a market and the last block
pub record Moved : Type 0 where
  pub answer : Answer
  pub market : Market
  pub last : Block

-- enter and leave: a ticket and its market
pub record Joined : Type 0 where
  pub answer : Answer
  pub ticket : Ticket
  pub market : Market

-- bid: a market, the maker's row and the last block
pub record Traded : Type 0 where
  pub answer : Answer
  pub market : Market
  pub row : Row
  pub last : Block

-- claim: a ticket, its market, its member's row, and the residue of the market's two tokens
pub record Claimed : Type 0 where
  pub answer : Answer
  pub ticket : Ticket
  pub market : Market
  pub row : Row
  pub quote : Amount
  pub base : Amount
