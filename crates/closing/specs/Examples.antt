-- What hosts are told and do, worked by hand from document 01: the closing of its day, and tickets of three markets in every phase.
use Rattle.std.specs.Prelude.{ℕ, List, [], ◌∷◌, ◌++◌}
use Rattle.model.specs.declared.state.Exchange.{Exchange}
use Rattle.model.specs.declared.call.Call.{Call}
use Rattle.model.specs.declared.call.Call.TheVariants.{Deposit, Order, Open, Enter, Match, Bid, Settle, Claim}
use Rattle.model.specs.State.{fresh_exchange}
use Rattle.model.specs.Answers.{code_of, first_of, second_of}
use Rattle.model.specs.Run.{Request, step_of, after_calls}
use Rattle.model.specs.Day.{until_match}
use Rattle.pricing.specs.declared.Side.{Side}
use Rattle.model.specs.Sides.{by_side}
use Rattle.model.specs.History.{History, RoundLog, Stage, empty_log, no_history, running, set_bid_base, set_bid_quote, set_c, set_m, set_stage, with_round}
use Rattle.closing.specs.Closings.{next_marked}

-- a host makes a call, or asks for a market's next ticket: the answer's code and two numbers
pub data HostLine : Type 0 where
  calls : (call : Call) (code first second : ℕ) → HostLine
  asks : (market code first second : ℕ) → HostLine

-- the same, with the numbers that the definitions give, from a state on
unfoldable pub worked_host : Exchange → List HostLine → List HostLine
worked_host x [] = []
worked_host x (calls c n a b ∷ ls) =
    calls c (code_of (step_of x c).answer) (first_of (step_of x c).answer) (second_of (step_of x c).answer) ∷ worked_host (step_of x c).exchange ls
worked_host x (asks m n a b ∷ ls) = asks m (code_of (next_marked x m)) (first_of (next_marked x m)) (second_of (next_marked x m)) ∷ worked_host x ls

-- the day: the host is told of tickets 0 and 1, claims both, and the market can be opened again
unfoldable pub day_asked : List HostLine
day_asked =
    asks 0 3 0 0
    ∷ asks 1 0 0 0
    ∷ asks 3 0 0 0
    ∷ asks 4 3 0 0
    ∷ calls (Deposit 0 0 1000) 0 1000 0
    ∷ calls (Deposit 1 1 300) 0 300 0
    ∷ calls (Deposit 2 0 500) 0 500 0
    ∷ calls (Order 0 0 1 0 3000000 600) 0 600 0
    ∷ calls (Order 1 1 1 1 2000000 300) 0 300 0
    -- tickets that rest are not marked
    ∷ asks 1 0 0 0
    ∷ calls (Open 1 10 2500000 100000 10) 0 2750000 2250000
    ∷ asks 1 0 0 0
    ∷ calls (Enter 0) 0 600 0
    ∷ asks 1 0 1 0
    ∷ calls (Enter 1) 0 300 0
    ∷ asks 1 0 2 0
    ∷ calls (Match 1 14) 0 240 600
    ∷ asks 1 0 2 0
    ∷ asks 0 3 0 0
    ∷ asks 2 0 0 0
    ∷ asks 3 0 0 0
    ∷ asks 4 3 0 0
    ∷ calls (Bid 1 2 19 1 60 160) 0 60 150
    ∷ calls (Settle 1 19) 0 600 300
    ∷ asks 1 0 2 0
    ∷ calls (Claim 0) 0 600 240
    ∷ asks 1 0 1 1
    ∷ calls (Claim 1) 0 300 750
    ∷ asks 1 0 0 0
    ∷ calls (Open 1 19 2500000 100000 10) 0 2750000 2250000
    ∷ []

-- tickets 63, 17 and 5 in market 3, ticket 0 in market 2, none in market 1; nothing is sold, so that a claim answers 0, 0
unfoldable pub markets_asked : List HostLine
markets_asked =
    calls (Deposit 0 0 100) 0 100 0
    ∷ calls (Order 63 0 3 0 1000000 40) 0 40 0
    ∷ calls (Order 17 0 3 0 1000000 20) 0 20 0
    ∷ calls (Order 5 0 3 0 1000000 30) 0 30 0
    ∷ calls (Order 0 0 2 0 1000000 10) 0 10 0
    ∷ calls (Open 3 1 1000000 0 1) 0 1000000 1000000
    ∷ calls (Enter 63) 0 40 0
    ∷ asks 3 0 1 63
    ∷ calls (Enter 17) 0 60 0
    ∷ asks 3 0 2 17
    ∷ calls (Enter 5) 0 90 0
    ∷ asks 3 0 3 5
    ∷ calls (Open 2 1 1000000 0 1) 0 1000000 1000000
    ∷ asks 2 0 0 0
    ∷ calls (Enter 0) 0 10 0
    -- ticket 0 alone, by the count of 1
    ∷ asks 2 0 1 0
    ∷ calls (Match 3 5) 0 0 0
    -- k 1 = L, 90 quote left
    ∷ calls (Settle 3 6) 13 0 0
    ∷ asks 3 0 3 5
    ∷ calls (Settle 3 7) 0 0 0
    ∷ asks 3 0 3 5
    -- another than the lowest first
    ∷ calls (Claim 17) 0 0 0
    ∷ asks 3 0 2 5
    ∷ calls (Claim 5) 0 0 0
    ∷ asks 3 0 1 63
    ∷ calls (Claim 63) 0 0 0
    ∷ asks 3 0 0 0
    ∷ asks 2 0 1 0
    -- a round without tickets
    ∷ calls (Open 1 7 1 0 1) 0 1 1
    ∷ calls (Match 1 11) 0 0 0
    ∷ asks 1 0 0 0
    ∷ calls (Settle 1 11) 0 0 0
    ∷ asks 1 0 0 0
    ∷ asks 4294967295 3 0 0
    ∷ []

abbrev pub asked : List (List HostLine)
asked = day_asked ∷ markets_asked ∷ []

-- ---- the calls of a host that closes the day's market

-- after line 10
abbrev pub until_bid : List Call
until_bid = until_match ++ (Bid 1 2 19 1 60 160 ∷ [])

abbrev pub bid_taken : Exchange
bid_taken = after_calls fresh_exchange until_bid

-- where it makes no claim, one, two, and as many as it is told of; and a claim of each ticket that the round marks
unfoldable pub day_closed : List (List Call)
day_closed =
    (Settle 1 19 ∷ [])
    ∷ (Settle 1 19 ∷ Claim 0 ∷ [])
    ∷ (Settle 1 19 ∷ Claim 0 ∷ Claim 1 ∷ [])
    ∷ (Settle 1 19 ∷ Claim 0 ∷ Claim 1 ∷ [])
    ∷ (Settle 1 19 ∷ Claim 0 ∷ Claim 1 ∷ [])
    ∷ []

-- ---- what a settle tells

-- the day's settle, line 11, with just room for "11,0,600,300" and byte 10
abbrev pub day_settle : Request
day_settle = record { line = 11; room = 13; call = Settle 1 19 }

-- a round with a match of 240 base for 600 quote, bids of 7 base for 15 quote on side 0 and of 60 base for 150 quote on side 1
abbrev pub sold_log : Stage → RoundLog
sold_log stage =
    set_bid_quote (set_bid_base (set_c (set_m (set_stage empty_log stage) 240) 600) (λ (side : Side). by_side side 7 60)) (λ (side : Side). by_side side 15 150)

-- market 2 has it
abbrev pub sold_history : Stage → History
sold_history stage = with_round no_history 2 (running (sold_log stage))
