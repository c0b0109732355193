-- What the sentences of document 01 speak of in the house, and no way to change it. Refusals.antt and Moves.antt are stated over it: no setter of the state and no
-- definition of a call is used there.
use Rattle.std.specs.Prelude.{ℕ, ◌≤◌, ◌≡◌}
use Rattle.model.specs.declared.state.TicketState.{TicketState}
use Rattle.model.specs.declared.state.TicketState.TheVariants.{Free}
use Rattle.model.specs.declared.state.Phase.{Phase}
use Rattle.model.specs.declared.state.Phase.TheVariants.{Closed}
use Rattle.model.specs.declared.state.Exchange.{Exchange}
use Rattle.model.specs.State.{balance, supply, residue, last_block, ticket, phase, fresh_exchange}

pub record View : Type 0 where
  -- member and token
  pub balance : ℕ → ℕ → ℕ
  -- token: deposits less withdrawals
  pub supply : ℕ → ℕ
  -- token: the tray
  pub residue : ℕ → ℕ
  -- "free, resting, or in a round", with its order
  pub ticket : ℕ → TicketState
  -- market: "closed, collect, auction, paying", with its round
  pub phase : ℕ → Phase
  -- "The last block number accepted"
  pub last : ℕ

abbrev pub view : Exchange → View
view x = record { balance = balance x; supply = supply x; residue = residue x; ticket = ticket x; phase = phase x; last = last_block x }

-- "A fresh house is all zero, free and closed"
pub record Fresh (x : View) : Type 0 where
  pub balances : (m t : ℕ) → m ≤ 15 → t ≤ 3 → x.balance m t ≡ 0
  pub supplies : (t : ℕ) → t ≤ 3 → x.supply t ≡ 0
  pub residues : (t : ℕ) → t ≤ 3 → x.residue t ≡ 0
  pub tickets : (k : ℕ) → k ≤ 63 → x.ticket k ≡ Free
  pub phases : (n : ℕ) → 1 ≤ n → n ≤ 3 → x.phase n ≡ Closed
  pub block : x.last ≡ 0

abbrev pub FreshViewed : Type 0
FreshViewed = Fresh (view fresh_exchange)
