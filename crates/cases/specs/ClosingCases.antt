-- The closing of a market: the calls in given states, and the statements on it used where they are just met and refused where they are just
-- missed.
use Rattle.std.specs.Prelude.{ℕ, ◌≤◌, ◌≡◌, List, [], ◌∷◌, ◌++◌, replicate, Ok}
use Rattle.model.specs.declared.state.Round.{Round}
use Rattle.model.specs.declared.state.Phase.TheVariants.{Closed, Auction}
use Rattle.model.specs.declared.state.Exchange.{Exchange}
use Rattle.model.specs.declared.call.Call.TheVariants.{Open, Bid, Settle, Claim}
use Rattle.model.specs.State.{phase, round_in, last_block, blank_round, with_tickets, with_phase, fresh_exchange}
use Rattle.model.specs.Run.{step_of, Reachable, after_calls}
use Rattle.model.specs.Closing.{AllAccepted, Names, BackToClosed, WindsUp, CanClose, SettleCloses}
use Rattle.model.specs.Scripts.{calls_of}
use Rattle.model.specs.Day.{until_match}
use Rattle.cases.specs.Examples.{last_blocks}

-- ---- the states

-- the day after line 9, start 14 and L 10, and then market 2 opened at block 25, which is above start + L
abbrev pub day_over : Exchange
day_over = after_calls fresh_exchange (until_match ++ (Open 2 25 1 0 1 ∷ []))

-- the day after line 10: nothing is left, so that it is settled at k 5
abbrev pub day_sold : Exchange
day_sold = after_calls fresh_exchange (until_match ++ (Bid 1 2 19 1 60 160 ∷ []))

-- start + L is 4,294,967,294, and market 2 is opened at the last block
abbrev pub last_auction : Exchange
last_auction = after_calls fresh_exchange (calls_of last_blocks ++ (Open 2 4294967295 1 0 1 ∷ []))

-- market 3's round with all 64 tickets
abbrev pub all_marked : Exchange
all_marked = with_phase fresh_exchange 3 (Auction (with_tickets blank_round 18446744073709551615))

-- of market 1's round its start, L and tickets; and the last block
abbrev pub closing_numbers : Exchange → List ℕ
closing_numbers x = (round_in (phase x 1)).start.0 ∷ (round_in (phase x 1)).length ∷ (round_in (phase x 1)).tickets ∷ last_block x ∷ []

-- ---- what the statements give, in any state that has those numbers

-- one settle and the claims of tickets 0 and 1, the other way round
pub record Closes (x : Exchange) (at : ℕ) : Type 0 where
  pub accepted : AllAccepted x (Settle 1 at ∷ Claim 1 ∷ Claim 0 ∷ [])
  pub closed : phase (after_calls x (Settle 1 at ∷ Claim 1 ∷ Claim 0 ∷ [])) 1 ≡ Closed

-- the first block above start + L, which is the last accepted
abbrev pub WindsUpAt25 : Type 0
WindsUpAt25 =
    (x : Exchange) → Reachable x → (r : Round) → phase x 1 ≡ Auction r → r.start.0 ≡ 14 → r.length ≡ 10 → r.tickets ≡ 3 → last_block x ≡ 25
    → Closes x 25

-- a settle that was accepted
abbrev pub ClosesAt19 : Type 0
ClosesAt19 = (x : Exchange) → Reachable x → (step_of x (Settle 1 19)).answer ≡ Ok (600, 300) → (round_in (phase x 1)).tickets ≡ 3 → Closes x 19

-- a block that fits 32 bits is there
abbrev pub CanCloseAtLast : Type 0
CanCloseAtLast =
    (x : Exchange) → Reachable x → last_block x ≡ 4294967295 → (r : Round) → phase x 1 ≡ Auction r → r.start.0 ≡ 4294967284 → r.length ≡ 10
    → (at : ℕ) × (at ≤ 4294967295) × (ks : List ℕ) × BackToClosed x 1 at ks

pub record ClosingUsed : Type 0 where
  pub winds_up : WindsUp → WindsUpAt25
  pub settle_closes : SettleCloses → ClosesAt19
  pub can_close : CanClose → CanCloseAtLast

-- ---- what they refuse

pub record ClosingRefused : Type 0 where
  -- a ticket left out, named twice, or not of the round
  pub left_out : Names 3 (0 ∷ []) → ⊥
  pub named_twice : Names 3 (0 ∷ 1 ∷ 1 ∷ []) → ⊥
  pub not_marked : Names 3 (0 ∷ 1 ∷ 2 ∷ []) → ⊥
  -- 66 calls
  pub too_many : (x : Exchange) → BackToClosed x 1 25 (replicate 65 0) → ⊥
  -- a market that is still paying, and a claim that is refused
  pub still_paying : BackToClosed day_over 1 25 (0 ∷ []) → ⊥
  pub claim_refused : BackToClosed day_over 1 25 (0 ∷ 1 ∷ 1 ∷ []) → ⊥
