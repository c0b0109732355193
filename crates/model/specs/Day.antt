-- The day of document 01: its fourteen lines, what it prints for them, and the numbers of a whole run on it.
use Rattle.std.specs.Prelude.{ℕ, ◌+◌, List, [], ◌∷◌, ◌++◌, map}
use Rattle.model.specs.declared.call.Call.{Call}
use Rattle.model.specs.declared.call.Call.TheVariants.{Deposit, Withdraw, Order, Open, Enter, Match, Bid, Settle, Claim}
use Rattle.model.specs.State.{fresh_exchange}
use Rattle.model.specs.Answers.{code_of, first_of, second_of, answer_line}
use Rattle.model.specs.Run.{Event}
use Rattle.model.specs.Submissions.{Submission, single, model_engine, events_of}
use Rattle.model.specs.Scripts.{requests_from, Accounts, accounts, MemberAccount, member_account}

-- ---- the day

-- lines 1 to 5, 6 to 9, 10 and 11, and 12 to 14
unfoldable pub day_orders : List Call
day_orders = Deposit 0 0 1000 ∷ Deposit 1 1 300 ∷ Deposit 2 0 500 ∷ Order 0 0 1 0 3000000 600 ∷ Order 1 1 1 1 2000000 300 ∷ []

unfoldable pub day_collect : List Call
day_collect = Open 1 10 2500000 100000 10 ∷ Enter 0 ∷ Enter 1 ∷ Match 1 14 ∷ []

unfoldable pub day_auction : List Call
day_auction = Bid 1 2 19 1 60 160 ∷ Settle 1 19 ∷ []

unfoldable pub day_claims : List Call
day_claims = Claim 0 ∷ Claim 1 ∷ Withdraw 1 0 751 ∷ []

abbrev pub until_match : List Call
until_match = day_orders ++ day_collect

abbrev pub until_settle : List Call
until_settle = until_match ++ day_auction

abbrev pub day : List Call
day = until_settle ++ day_claims

-- ---- what it prints

-- each answer's code, first and second number
abbrev pub numbers_of : Event → ℕ × ℕ × ℕ
numbers_of e = (code_of e.answer, first_of e.answer, second_of e.answer)

abbrev pub answers_to : List Submission → List (ℕ × ℕ × ℕ)
answers_to qs = map numbers_of (events_of model_engine fresh_exchange qs)

unfoldable pub printed : List (ℕ × ℕ × ℕ)
printed =
    (0, 1000, 0)
    ∷ (0, 300, 0)
    ∷ (0, 500, 0)
    ∷ (0, 600, 0)
    ∷ (0, 300, 0)
    ∷ (0, 2750000, 2250000)
    ∷ (0, 600, 0)
    ∷ (0, 300, 0)
    ∷ (0, 240, 600)
    ∷ (0, 60, 150)
    ∷ (0, 600, 300)
    ∷ (0, 600, 240)
    ∷ (0, 300, 750)
    ∷ (19, 0, 0)
    ∷ []

-- the answer lines as bytes: line numbers from n on
unfoldable pub lines_from : ℕ → List Event → List (List ℕ)
lines_from n [] = []
lines_from n (e ∷ es) = answer_line n e.answer ∷ lines_from (n + 1) es

unfoldable pub printed_lines : List (List ℕ)
printed_lines =
    (49 ∷ 44 ∷ 48 ∷ 44 ∷ 49 ∷ 48 ∷ 48 ∷ 48 ∷ 44 ∷ 48 ∷ 10 ∷ [])  -- 1,0,1000,0
    ∷ (50 ∷ 44 ∷ 48 ∷ 44 ∷ 51 ∷ 48 ∷ 48 ∷ 44 ∷ 48 ∷ 10 ∷ [])  -- 2,0,300,0
    ∷ (51 ∷ 44 ∷ 48 ∷ 44 ∷ 53 ∷ 48 ∷ 48 ∷ 44 ∷ 48 ∷ 10 ∷ [])  -- 3,0,500,0
    ∷ (52 ∷ 44 ∷ 48 ∷ 44 ∷ 54 ∷ 48 ∷ 48 ∷ 44 ∷ 48 ∷ 10 ∷ [])  -- 4,0,600,0
    ∷ (53 ∷ 44 ∷ 48 ∷ 44 ∷ 51 ∷ 48 ∷ 48 ∷ 44 ∷ 48 ∷ 10 ∷ [])  -- 5,0,300,0
    ∷ (54 ∷ 44 ∷ 48 ∷ 44 ∷ 50 ∷ 55 ∷ 53 ∷ 48 ∷ 48 ∷ 48 ∷ 48 ∷ 44 ∷ 50 ∷ 50 ∷ 53 ∷ 48 ∷ 48 ∷ 48 ∷ 48 ∷ 10 ∷ [])  -- 6,0,2750000,2250000
    ∷ (55 ∷ 44 ∷ 48 ∷ 44 ∷ 54 ∷ 48 ∷ 48 ∷ 44 ∷ 48 ∷ 10 ∷ [])  -- 7,0,600,0
    ∷ (56 ∷ 44 ∷ 48 ∷ 44 ∷ 51 ∷ 48 ∷ 48 ∷ 44 ∷ 48 ∷ 10 ∷ [])  -- 8,0,300,0
    ∷ (57 ∷ 44 ∷ 48 ∷ 44 ∷ 50 ∷ 52 ∷ 48 ∷ 44 ∷ 54 ∷ 48 ∷ 48 ∷ 10 ∷ [])  -- 9,0,240,600
    ∷ (49 ∷ 48 ∷ 44 ∷ 48 ∷ 44 ∷ 54 ∷ 48 ∷ 44 ∷ 49 ∷ 53 ∷ 48 ∷ 10 ∷ [])  -- 10,0,60,150
    ∷ (49 ∷ 49 ∷ 44 ∷ 48 ∷ 44 ∷ 54 ∷ 48 ∷ 48 ∷ 44 ∷ 51 ∷ 48 ∷ 48 ∷ 10 ∷ [])  -- 11,0,600,300
    ∷ (49 ∷ 50 ∷ 44 ∷ 48 ∷ 44 ∷ 54 ∷ 48 ∷ 48 ∷ 44 ∷ 50 ∷ 52 ∷ 48 ∷ 10 ∷ [])  -- 12,0,600,240
    ∷ (49 ∷ 51 ∷ 44 ∷ 48 ∷ 44 ∷ 51 ∷ 48 ∷ 48 ∷ 44 ∷ 55 ∷ 53 ∷ 48 ∷ 10 ∷ [])  -- 13,0,300,750
    ∷ (49 ∷ 52 ∷ 44 ∷ 49 ∷ 57 ∷ 44 ∷ 48 ∷ 44 ∷ 48 ∷ 10 ∷ [])  -- 14,19,0,0
    ∷ []

-- ---- 21: the answer to line 6 is "6,0,2750000,2250000" and its end byte, 20 bytes

-- the day with this room for line 6, and 80 for every other
abbrev pub room_at_open : ℕ → List Submission
room_at_open room =
    requests_from 1 80 day_orders
    ++ (single (record { line = 6; room = room; call = Open 1 10 2500000 100000 10 }) ∷ [])
    ++ requests_from 7 80 (Enter 0 ∷ Enter 1 ∷ Match 1 14 ∷ [])
    ++ requests_from 10 80 (day_auction ++ day_claims)

-- one byte less: the open is not done, so no ticket enters a round, and member 1 has no quote
unfoldable pub short_at_open : List (ℕ × ℕ × ℕ)
short_at_open =
    (0, 1000, 0)
    ∷ (0, 300, 0)
    ∷ (0, 500, 0)
    ∷ (0, 600, 0)
    ∷ (0, 300, 0)
    ∷ (21, 0, 0)
    ∷ (11, 0, 0)
    ∷ (11, 0, 0)
    ∷ (11, 0, 0)
    ∷ (11, 0, 0)
    ∷ (11, 0, 0)
    ∷ (9, 0, 0)
    ∷ (9, 0, 0)
    ∷ (19, 0, 0)
    ∷ []

-- "It goes before every other code": a refusal's line "1,1,0,0" needs 8 bytes too
abbrev pub refused_in : ℕ → List Submission
refused_in room = requests_from 1 room (Deposit 16 0 1 ∷ [])

-- ---- the numbers of a whole run

-- a token's balances, resting offers, what rounds hold, residue, withdrawals, deposits
unfoldable pub day_accounts : List Accounts
day_accounts =
    -- after line 5 the offers rest
    accounts day_orders 0 900 600 0 0 0 1500
    ∷ accounts day_orders 1 0 300 0 0 0 300
    -- after line 9 the round holds them: "Match and settle move nothing out"
    ∷ accounts until_match 0 900 0 600 0 0 1500
    ∷ accounts until_match 1 0 0 300 0 0 300
    -- after line 11 member 2 has given 150 quote for 60 base
    ∷ accounts until_settle 0 750 0 750 0 0 1500
    ∷ accounts until_settle 1 60 0 240 0 0 300
    -- after line 12 member 0 has its 240 base
    ∷ accounts (until_settle ++ (Claim 0 ∷ [])) 0 750 0 750 0 0 1500
    ∷ accounts (until_settle ++ (Claim 0 ∷ [])) 1 300 0 0 0 0 300
    -- after the day
    ∷ accounts day 0 1500 0 0 0 0 1500
    ∷ accounts day 1 300 0 0 0 0 300
    -- and where member 1 withdraws what it has
    ∷ accounts (day ++ (Withdraw 1 0 750 ∷ [])) 0 750 0 0 0 750 1500
    ∷ []

-- members after the day: balance, credits, debits
unfoldable pub day_members : List MemberAccount
day_members =
    -- a deposit of 1000 and an order of 600; 240 base from the claim
    member_account day 0 0 400 1000 600
    ∷ member_account day 0 1 240 240 0
    -- 750 quote from the claim; a deposit and an order of 300
    ∷ member_account day 1 0 750 750 0
    ∷ member_account day 1 1 0 300 300
    -- a deposit of 500 and the bid's 150; its 60 base
    ∷ member_account day 2 0 350 500 150
    ∷ member_account day 2 1 60 60 0
    -- and where member 1 withdraws what it has
    ∷ member_account (day ++ (Withdraw 1 0 750 ∷ [])) 1 0 0 750 750
    ∷ []
