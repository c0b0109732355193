-- "For a market in auction, where start + L is below 4,294,967,295, one settle at a block above start + L (and not below the last block
-- accepted) and one claim for each ticket marked bring the market back to closed: never more than 65 accepted calls."
use Rattle.std.specs.Prelude.{ℕ, ◌+◌, ◌≤◌, ◌<◌, ◌≡◌, cond, List, [], ◌∷◌, map, eqb, length, Ok}
use Rattle.units.specs.Counts.{largest}
use Rattle.ticket_set.specs.TicketSet.{bit, members_of}
use Rattle.model.specs.declared.state.Round.{Round}
use Rattle.model.specs.declared.state.Phase.TheVariants.{Closed, Auction}
use Rattle.model.specs.declared.state.Exchange.{Exchange}
use Rattle.model.specs.declared.call.Call.{Call}
use Rattle.model.specs.State.{phase, round_in, last_block}
use Rattle.model.specs.Answers.{code_of}
use Rattle.model.specs.Run.{step_of, after_calls, Reachable}

-- every call of the list is accepted, one after the other
pub data AllAccepted : Exchange → List Call → Type 0 where
  no_call : {x : Exchange} → AllAccepted x []
  next_call : {x : Exchange} {c : Call} {cs : List Call} → code_of (step_of x c).answer ≡ 0 → AllAccepted (step_of x c).exchange cs → AllAccepted x (c ∷ cs)

-- how often k stands in a list
unfoldable pub times : ℕ → List ℕ → ℕ
times k [] = 0
times k (j ∷ js) = cond (eqb j k) 1 0 + times k js

-- the list names each member of a ticket set once, in any order, and nothing else
pub record Names (s : ℕ) (ks : List ℕ) : Type 0 where
  pub each : (k : ℕ) → times k ks ≡ bit s k

-- one settle, and one claim for each ticket
abbrev pub wind_up : ℕ → ℕ → List ℕ → List Call
wind_up market at ks = Call.Settle market at ∷ map Call.Claim ks

pub record BackToClosed (x : Exchange) (market at : ℕ) (ks : List ℕ) : Type 0 where
  pub accepted : AllAccepted x (wind_up market at ks)
  pub closed : phase (after_calls x (wind_up market at ks)) market ≡ Closed
  pub at_most : length (wind_up market at ks) ≤ 65

-- of every state that calls can leave
abbrev pub WindsUp : Type 0
WindsUp =
    (x : Exchange) → Reachable x → (market : ℕ) (r : Round) → phase x market ≡ Auction r
    → (at : ℕ) → r.start.0 + r.length < at → last_block x ≤ at
    → (ks : List ℕ) → Names r.tickets ks → BackToClosed x market at ks

-- and such calls are there, where start + L is below 4,294,967,295 and the last block fits 32 bits, as its type says
abbrev pub CanClose : Type 0
CanClose =
    (x : Exchange) → Reachable x → last_block x ≤ largest → (market : ℕ) (r : Round) → phase x market ≡ Auction r
    → r.start.0 + r.length < largest → (at : ℕ) × (at ≤ largest) × (ks : List ℕ) × BackToClosed x market at ks

-- a settle may also be accepted earlier, once nothing is left; whenever it is, the same holds
abbrev pub SettleCloses : Type 0
SettleCloses =
    (x : Exchange) → Reachable x → (market at a b : ℕ) → (step_of x (Call.Settle market at)).answer ≡ Ok (a, b)
    → (ks : List ℕ) → Names (round_in (phase x market)).tickets ks → BackToClosed x market at ks

-- the settle, and a claim of each ticket that the market's round marks, lowest first
unfoldable pub closing_calls : Exchange → ℕ → ℕ → List Call
closing_calls x market at = wind_up market at (members_of (round_in (phase x market)).tickets)
