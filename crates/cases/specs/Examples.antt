-- Scripts: calls from the fresh state with the answers that document 01 gives, and document 02 for leave, worked by hand, and readings of the
-- state between them.
-- Every kind is accepted in them, on both sides where it has one, and every kind is refused with each code that the papers let it have,
-- by each of the code's causes, next to each border and far from it. Where two refusals hold at once, the lower number is answered.
use Rattle.std.specs.Prelude.{ℕ, Bool, true, false, ◌||◌, ◌&&◌, List, [], ◌∷◌, ◌++◌, eqb}
use Rattle.model.specs.declared.call.Call.{Call}
use Rattle.model.specs.declared.call.Call.TheVariants.{Deposit, Withdraw, Order, Cancel, Open, Enter, Match, Bid, Settle, Claim, Leave}
use Rattle.model.specs.Kinds.{Kind, kind_of}
use Rattle.model.specs.Scripts.{Line, accepted, refused, balance_is, supply_is, residue_is, closed_is, calls_of, Accounts, accounts}

-- Deposit and withdraw: new balances, the last member and the last token, a token's supply up to its largest, and a balance down to 0.
unfoldable pub balances_moved : List Line
balances_moved =
    accepted (Deposit 0 0 1000) 1000 0
    ∷ accepted (Deposit 0 0 500) 1500 0
    ∷ accepted (Deposit 15 3 7) 7 0
    ∷ refused (Deposit 16 0 1) 1
    ∷ refused (Deposit 0 4 1) 2
    ∷ refused (Deposit 0 0 0) 6
    -- several at once: 1, 2 and 6; 2 and 6
    ∷ refused (Deposit 16 4 0) 1
    ∷ refused (Deposit 0 4 0) 2
    -- 14 counts all members' deposits of the one token
    ∷ accepted (Deposit 3 1 4294967294) 4294967294 0
    ∷ accepted (Deposit 4 1 1) 1 0
    ∷ supply_is 1 4294967295
    ∷ refused (Deposit 5 1 1) 14
    ∷ refused (Deposit 3 1 4294967295) 14
    -- 1 and 14
    ∷ refused (Deposit 16 1 1) 1
    -- nothing is deposited, so 6 and not 14
    ∷ refused (Deposit 5 1 0) 6
    ∷ accepted (Deposit 5 2 4294967295) 4294967295 0
    -- a withdrawal makes room
    ∷ accepted (Withdraw 3 1 2) 4294967292 0
    ∷ supply_is 1 4294967293
    ∷ refused (Deposit 5 1 3) 14
    ∷ accepted (Deposit 5 1 2) 2 0
    ∷ refused (Withdraw 16 0 1) 1
    ∷ refused (Withdraw 0 4 1) 2
    ∷ refused (Withdraw 0 0 0) 6
    ∷ refused (Withdraw 0 0 1501) 19
    ∷ refused (Withdraw 1 0 1) 19
    -- 1, 2 and 6; 2 and 19; 1 and 19
    ∷ refused (Withdraw 16 4 0) 1
    ∷ refused (Withdraw 0 4 1501) 2
    ∷ refused (Withdraw 16 0 1501) 1
    ∷ accepted (Withdraw 0 0 1) 1499 0
    ∷ accepted (Withdraw 0 0 1499) 0 0
    ∷ refused (Withdraw 0 0 1) 19
    ∷ accepted (Withdraw 15 3 7) 0 0
    ∷ balance_is 15 3 0
    ∷ supply_is 3 0
    ∷ supply_is 0 0
    ∷ []

-- Order and cancel: a buy offers quote, a sell its market's base; the last ticket, member and market, the lowest and the highest limit.
unfoldable pub orders_rested : List Line
orders_rested =
    accepted (Deposit 0 0 1000) 1000 0
    ∷ accepted (Deposit 15 2 50) 50 0
    ∷ accepted (Order 0 0 1 0 3000000 600) 600 0
    ∷ balance_is 0 0 400
    ∷ accepted (Order 63 15 2 1 2000000000 20) 20 0
    ∷ balance_is 15 2 30
    -- the whole balance
    ∷ accepted (Order 1 15 2 1 1 30) 30 0
    ∷ balance_is 15 2 0
    ∷ accepted (Order 2 0 3 0 1 1) 1 0
    ∷ balance_is 0 0 399
    ∷ refused (Order 3 16 1 0 1 1) 1
    ∷ refused (Order 3 0 0 0 1 1) 3
    ∷ refused (Order 3 0 4 0 1 1) 3
    ∷ refused (Order 64 0 1 0 1 1) 4
    ∷ refused (Order 3 0 1 2 1 1) 5
    -- 6 by the amount, by a limit of 0, by a limit above 2,000,000,000
    ∷ refused (Order 3 0 1 0 1 0) 6
    ∷ refused (Order 3 0 1 0 0 1) 6
    ∷ refused (Order 3 0 1 0 2000000001 1) 6
    ∷ refused (Order 0 0 1 0 1 1) 7
    -- 19 of a buy and of a sell; a sell looks at base only, a buy at quote only
    ∷ refused (Order 3 0 1 0 1 400) 19
    ∷ refused (Order 3 15 2 1 1 1) 19
    ∷ refused (Order 3 0 1 1 1 1) 19
    ∷ refused (Order 3 15 2 0 1 1) 19
    -- 1, 3, 4, 5 and 6, then each time one less; 6 and 7; 7 and 19
    ∷ refused (Order 64 16 4 2 0 0) 1
    ∷ refused (Order 64 0 4 2 0 0) 3
    ∷ refused (Order 64 0 1 2 0 0) 4
    ∷ refused (Order 3 0 1 2 0 0) 5
    ∷ refused (Order 0 0 1 0 0 1) 6
    ∷ refused (Order 0 0 1 0 1 400) 7
    ∷ refused (Cancel 0 16) 1
    ∷ refused (Cancel 64 0) 4
    -- 8 by a free ticket, and by another's
    ∷ refused (Cancel 3 0) 8
    ∷ refused (Cancel 0 1) 8
    -- 1 and 4; 1 and 8
    ∷ refused (Cancel 64 16) 1
    ∷ refused (Cancel 3 16) 1
    ∷ accepted (Cancel 0 0) 600 0
    ∷ balance_is 0 0 999
    ∷ refused (Cancel 0 0) 8
    ∷ accepted (Cancel 63 15) 20 0
    ∷ balance_is 15 2 20
    -- a freed ticket takes another's order
    ∷ accepted (Order 0 15 2 1 5 20) 20 0
    ∷ refused (Cancel 0 0) 8
    ∷ refused (Order 0 0 1 0 1 1) 7
    ∷ accepted (Cancel 0 15) 20 0
    ∷ []

-- Open, enter and match: r, w and L at their ends, limits that just meet hi and lo, and a match at once when its 4 blocks are over.
unfoldable pub collected : List Line
collected =
    accepted (Deposit 0 0 2000) 2000 0
    ∷ accepted (Deposit 1 1 500) 500 0
    ∷ accepted (Order 0 0 1 0 2750000 600) 600 0
    ∷ accepted (Order 1 0 1 0 2749999 100) 100 0
    ∷ accepted (Order 2 1 1 1 2250000 300) 300 0
    ∷ accepted (Order 3 1 1 1 2250001 100) 100 0
    ∷ accepted (Order 4 0 2 0 2000000000 50) 50 0
    ∷ accepted (Order 63 0 1 0 3000000 7) 7 0
    ∷ refused (Enter 0) 11
    ∷ refused (Match 1 10) 11
    ∷ refused (Open 0 10 2500000 100000 10) 3
    ∷ refused (Open 4 10 2500000 100000 10) 3
    -- 10 by r, by w, by L
    ∷ refused (Open 1 10 0 100000 10) 10
    ∷ refused (Open 1 10 1000000001 100000 10) 10
    ∷ refused (Open 1 10 2500000 500001 10) 10
    ∷ refused (Open 1 10 2500000 100000 0) 10
    ∷ refused (Open 1 10 2500000 100000 65) 10
    -- 3 and 10
    ∷ refused (Open 4 10 0 500001 65) 3
    -- hi 2,500,000 × 1.1, lo 2,500,000 × 0.9
    ∷ accepted (Open 1 10 2500000 100000 10) 2750000 2250000
    ∷ refused (Open 1 10 2500000 100000 10) 11
    ∷ refused (Open 2 9 2500000 100000 10) 12
    -- 10, 11 and 12; 11 and 12
    ∷ refused (Open 1 9 2500000 100000 65) 10
    ∷ refused (Open 1 9 2500000 100000 10) 11
    -- at the last block itself; the largest terms
    ∷ accepted (Open 3 10 1000000000 500000 64) 1500000000 500000000
    ∷ refused (Enter 64) 4
    ∷ refused (Enter 5) 8
    -- its own market is closed
    ∷ refused (Enter 4) 11
    -- 15: a buy's limit 1 below hi, a sell's 1 above lo
    ∷ refused (Enter 1) 15
    ∷ refused (Enter 3) 15
    ∷ accepted (Enter 0) 600 0
    ∷ refused (Enter 0) 9
    ∷ accepted (Enter 63) 607 0
    ∷ accepted (Enter 2) 300 0
    ∷ refused (Cancel 0 0) 9
    -- 8 and 9
    ∷ refused (Cancel 0 1) 8
    ∷ refused (Claim 0) 11
    ∷ refused (Bid 1 0 14 1 1 1000) 11
    ∷ refused (Settle 1 500) 11
    ∷ refused (Match 0 14) 3
    ∷ refused (Match 4 14) 3
    ∷ refused (Match 2 14) 11
    ∷ refused (Match 1 9) 12
    ∷ refused (Match 1 10) 13
    ∷ refused (Match 1 13) 13
    -- 3, 11, 12 and 13; 11, 12 and 13
    ∷ refused (Match 4 9) 3
    ∷ refused (Match 2 9) 11
    -- Q 607, S 300: 607 / 2.5 is 242.8, m 242; c 242 × 2.5
    ∷ accepted (Match 1 14) 242 605
    ∷ refused (Match 1 14) 11
    ∷ refused (Open 1 14 2500000 100000 10) 11
    ∷ refused (Open 2 13 2500000 100000 10) 12
    -- 9 and 11; 11 and 15
    ∷ refused (Enter 0) 9
    ∷ refused (Enter 1) 11
    ∷ refused (Claim 0) 11
    -- a round without tickets
    ∷ accepted (Match 3 14) 0 0
    ∷ closed_is 3 false
    ∷ accepted (Settle 3 14) 0 0
    ∷ closed_is 3 true
    ∷ closed_is 1 false
    ∷ accepted (Open 3 14 3 500000 1) 4 2
    ∷ []

-- Makers take base left by the sells: hi 2,750,000, lo 2,250,000, L 7, 60 base left. A settle after L, a claim with a rest, a claim in
-- full, and a cancel of what a partly paid ticket has left.
unfoldable pub base_sold : List Line
base_sold =
    accepted (Deposit 0 0 1000) 1000 0
    ∷ accepted (Deposit 1 1 300) 300 0
    ∷ accepted (Deposit 2 0 500) 500 0
    ∷ accepted (Deposit 3 1 500) 500 0
    ∷ accepted (Order 0 0 1 0 3000000 600) 600 0
    ∷ accepted (Order 1 1 1 1 2000000 300) 300 0
    ∷ accepted (Open 1 10 2500000 100000 7) 2750000 2250000
    ∷ accepted (Enter 0) 600 0
    ∷ accepted (Enter 1) 300 0
    -- Q 600, S 300: 600 / 2.5 is 240
    ∷ accepted (Match 1 14) 240 600
    ∷ refused (Bid 1 16 19 1 60 500) 1
    ∷ refused (Bid 0 2 19 1 60 500) 3
    ∷ refused (Bid 4 2 19 1 60 500) 3
    ∷ refused (Bid 1 2 19 2 60 500) 5
    ∷ refused (Bid 1 2 19 1 0 500) 6
    ∷ refused (Bid 2 2 19 1 60 500) 11
    ∷ refused (Bid 1 2 13 1 60 500) 12
    ∷ refused (Bid 1 2 22 1 60 500) 16
    ∷ refused (Bid 1 2 19 1 61 500) 17
    -- k 5: 500,000 × 5 / 7 is 357,142.86; 2,392,858, up to 2,392,900; 60 × 2.3929 is 143.574, up 144
    ∷ refused (Bid 1 2 19 1 60 143) 18
    -- member 3 has base, and no quote
    ∷ refused (Bid 1 3 19 1 60 144) 19
    -- several at once, from 1 up, each time without the first
    ∷ refused (Bid 0 16 13 2 0 0) 1
    ∷ refused (Bid 0 3 13 2 0 0) 3
    ∷ refused (Bid 2 3 13 2 0 0) 5
    ∷ refused (Bid 2 3 13 1 0 0) 6
    ∷ refused (Bid 2 3 13 1 61 0) 11
    ∷ refused (Bid 1 3 13 1 61 0) 12
    ∷ refused (Bid 1 3 22 1 61 0) 16
    ∷ refused (Bid 1 3 21 1 61 0) 17
    ∷ refused (Bid 1 3 21 1 60 134) 18
    -- refusals left the last block at 14. k 0: 10 × 2.75 is 27.5, up 28, the bound just met
    ∷ accepted (Bid 1 2 14 1 10 28) 10 28
    ∷ balance_is 2 0 472
    ∷ balance_is 2 1 10
    -- k 3: 500,000 × 3 / 7 is 214,285.7; 2,535,715, up to 2,535,800; 28 × 2.5358 is 71.0024, up 72
    ∷ refused (Bid 1 2 17 1 28 71) 18
    ∷ accepted (Bid 1 2 17 1 28 500) 28 72
    -- k 7 = L: 10 × 2.25 is 22.5, up 23; the maker has a ticket in the round
    ∷ accepted (Bid 1 0 21 1 10 23) 10 23
    ∷ refused (Bid 1 2 21 1 13 500) 17
    -- 12 base left, no quote left
    ∷ refused (Settle 1 21) 13
    ∷ refused (Settle 0 21) 3
    ∷ refused (Settle 4 21) 3
    ∷ refused (Settle 2 21) 11
    -- 12 and 13; 3, 11 and 12; 11 and 12
    ∷ refused (Settle 1 20) 12
    ∷ refused (Settle 4 20) 3
    ∷ refused (Settle 2 20) 11
    -- k 8 > L. Quote paid by buys 600, base paid by sells 240 + 48
    ∷ accepted (Settle 1 22) 600 288
    ∷ refused (Settle 1 22) 11
    ∷ refused (Bid 1 2 22 1 1 500) 11
    ∷ refused (Match 1 22) 11
    ∷ refused (Open 1 22 2500000 100000 7) 11
    ∷ refused (Enter 0) 9
    ∷ refused (Cancel 1 1) 9
    ∷ refused (Claim 64) 4
    ∷ refused (Claim 5) 8
    -- T 300, P 288, G 600 + 28 + 72 + 23
    ∷ accepted (Claim 1) 288 723
    ∷ balance_is 1 0 723
    ∷ closed_is 1 false
    ∷ refused (Claim 1) 9
    ∷ refused (Enter 1) 11
    -- T 600, P 600, G 240: the ticket is free
    ∷ accepted (Claim 0) 600 240
    ∷ closed_is 1 true
    ∷ refused (Claim 0) 8
    -- 9 and 11
    ∷ refused (Claim 1) 9
    ∷ accepted (Cancel 1 1) 12 0
    ∷ balance_is 1 1 12
    ∷ balance_is 0 0 377
    ∷ balance_is 0 1 250
    ∷ balance_is 2 0 400
    ∷ balance_is 2 1 38
    ∷ residue_is 0 0
    ∷ residue_is 1 0
    ∷ []

-- Makers take quote left by the buys, in market 2: hi 2,750,000, lo 2,250,000, L 7, 500 quote left. What rounding leaves goes into the
-- residue with the last claim, and not before.
unfoldable pub quote_sold : List Line
quote_sold =
    accepted (Deposit 15 0 600) 600 0
    ∷ accepted (Deposit 1 2 40) 40 0
    ∷ accepted (Deposit 2 2 300) 300 0
    ∷ accepted (Deposit 3 0 50) 50 0
    ∷ accepted (Order 10 15 2 0 2750000 200) 200 0
    ∷ accepted (Order 63 15 2 0 2750000 300) 300 0
    ∷ accepted (Order 12 15 2 0 2750000 100) 100 0
    ∷ accepted (Order 13 1 2 1 2250000 40) 40 0
    ∷ accepted (Open 2 100 2500000 100000 7) 2750000 2250000
    ∷ accepted (Enter 10) 200 0
    ∷ accepted (Enter 63) 500 0
    ∷ accepted (Enter 12) 600 0
    ∷ accepted (Enter 13) 40 0
    -- Q 600, S 40: m 40, c 40 × 2.5
    ∷ accepted (Match 2 104) 40 100
    -- no base left
    ∷ refused (Bid 2 2 104 1 1 4294967295) 17
    -- k 0: 10 × 2.25 is 22.5, down 22
    ∷ refused (Bid 2 2 104 0 10 23) 18
    -- member 3 has quote, and no base
    ∷ refused (Bid 2 3 104 0 10 22) 19
    -- 18 and 19
    ∷ refused (Bid 2 3 104 0 10 23) 18
    -- 223 × 2.25 is 501.75, down 501: 17, 18 and 19
    ∷ refused (Bid 2 3 104 0 223 502) 17
    ∷ accepted (Bid 2 2 104 0 10 22) 10 22
    ∷ balance_is 2 0 22
    ∷ balance_is 2 2 290
    -- k 3: 500,000 × 3 / 7 is 214,285.7; 2,464,285, down to 2,464,200; 28 × 2.4642 is 68.9976, down 68
    ∷ refused (Bid 2 2 107 0 28 69) 18
    ∷ accepted (Bid 2 2 107 0 28 68) 28 68
    -- k 7 = L: 10 × 2.75 is 27.5, down 27
    ∷ accepted (Bid 2 2 111 0 10 0) 10 27
    -- 383 left: 140 × 2.75 is 385, 139 × 2.75 is 382.25
    ∷ refused (Bid 2 2 111 0 140 0) 17
    ∷ accepted (Bid 2 2 111 0 139 0) 139 382
    -- 1 quote left, no base left
    ∷ refused (Bid 2 2 111 0 1 0) 17
    ∷ refused (Settle 2 111) 13
    -- 16 and 17
    ∷ refused (Bid 2 2 112 0 1 0) 16
    -- quote paid by buys 100 + 22 + 68 + 27 + 382, base paid by sells 40
    ∷ accepted (Settle 2 112) 599 40
    ∷ balance_is 2 0 499
    ∷ balance_is 2 2 113
    ∷ residue_is 0 0
    ∷ residue_is 2 0
    -- buys: T 600, P 599, G 40 + 187. 200 × 599 / 600 is 199.7, 200 × 227 / 600 is 75.7
    ∷ accepted (Claim 10) 200 75
    ∷ accepted (Claim 13) 40 100
    -- 99.8 and 37.8
    ∷ accepted (Claim 12) 100 37
    ∷ residue_is 0 0
    ∷ residue_is 2 0
    ∷ closed_is 2 false
    -- 299.5 and 113.5
    ∷ accepted (Claim 63) 300 113
    -- 600 - 499 - 100 quote, 40 + 187 - 225 base
    ∷ residue_is 0 1
    ∷ residue_is 1 0
    ∷ residue_is 2 2
    ∷ closed_is 2 true
    ∷ balance_is 15 0 0
    ∷ balance_is 15 2 225
    ∷ balance_is 1 0 100
    ∷ refused (Cancel 10 15) 8
    ∷ refused (Open 2 111 2500000 100000 7) 12
    ∷ accepted (Open 2 112 1 0 1) 1 1
    ∷ []

-- Two rounds of market 1. In the first, two buys share what one sell gives.
unfoldable pub first_round : List Line
first_round =
    accepted (Deposit 0 0 1000) 1000 0
    ∷ accepted (Deposit 2 0 50) 50 0
    ∷ accepted (Deposit 1 1 100) 100 0
    ∷ accepted (Order 5 0 1 0 3000000 1000) 1000 0
    ∷ accepted (Order 7 2 1 0 2999999 50) 50 0
    ∷ accepted (Order 6 1 1 1 1500000 100) 100 0
    ∷ accepted (Open 1 20 2000000 250000 1) 2500000 1500000
    ∷ accepted (Enter 5) 1000 0
    ∷ accepted (Enter 7) 1050 0
    ∷ accepted (Enter 6) 100 0
    ∷ accepted (Match 1 24) 100 200
    -- quote left, no base left, k 0 and k 1 = L
    ∷ refused (Settle 1 24) 13
    ∷ refused (Settle 1 25) 13
    ∷ accepted (Settle 1 26) 200 100
    -- buys: T 1050, P 200, G 100. 190.5 and 95.2, 9.5 and 4.8
    ∷ accepted (Claim 5) 191 95
    ∷ accepted (Claim 6) 100 200
    ∷ residue_is 0 0
    ∷ residue_is 1 0
    ∷ accepted (Claim 7) 10 4
    -- 1050 - 809 - 40 - 200 quote, 100 - 99 base
    ∷ residue_is 0 1
    ∷ residue_is 1 1
    ∷ []

-- In the second, hi and lo are 3,000,000: ticket 5 enters again with the 809 that it has left, ticket 7's limit is below hi.
unfoldable pub second_round : List Line
second_round =
    accepted (Deposit 1 1 70) 70 0
    ∷ accepted (Deposit 3 1 10) 10 0
    ∷ accepted (Order 6 1 1 1 3000000 70) 70 0
    ∷ accepted (Open 1 26 3000000 0 64) 3000000 3000000
    ∷ accepted (Enter 5) 809 0
    ∷ refused (Enter 7) 15
    ∷ accepted (Cancel 7 2) 40 0
    ∷ accepted (Order 8 2 1 0 3000000 33) 33 0
    ∷ accepted (Enter 8) 842 0
    ∷ accepted (Enter 6) 70 0
    ∷ accepted (Match 1 30) 70 210
    -- k 64 = L
    ∷ accepted (Bid 1 3 94 0 3 9) 3 9
    ∷ refused (Settle 1 94) 13
    ∷ refused (Bid 1 3 95 0 3 9) 16
    ∷ accepted (Settle 1 95) 219 70
    ∷ []

-- Its claims, and its residue joins the first's.
unfoldable pub second_paid : List Line
second_paid =
    -- buys: T 842, P 219, G 73. 809 × 219 / 842 is 210.4, 809 × 73 / 842 is 70.1; 33 × 219 / 842 is 8.6, 33 × 73 / 842 is 2.9
    accepted (Claim 5) 211 70
    ∷ accepted (Claim 8) 9 2
    ∷ residue_is 0 1
    ∷ residue_is 1 1
    ∷ accepted (Claim 6) 70 210
    -- 842 - 9 - 598 - 24 - 210 quote and 73 - 72 base more
    ∷ residue_is 0 2
    ∷ residue_is 1 2
    ∷ closed_is 1 true
    ∷ accepted (Cancel 5 0) 598 0
    ∷ accepted (Cancel 8 2) 24 0
    ∷ balance_is 0 0 598
    ∷ balance_is 0 1 165
    ∷ balance_is 1 0 410
    ∷ balance_is 2 0 31
    ∷ balance_is 2 1 6
    ∷ balance_is 3 0 9
    ∷ balance_is 3 1 7
    ∷ []

abbrev pub two_rounds : List Line
two_rounds = first_round ++ second_round ++ second_paid

-- In market 3 the match is dropped, makers take all that both sides left, and the round is settled before k > L because nothing is left.
unfoldable pub both_sides_sold : List Line
both_sides_sold =
    accepted (Deposit 15 0 100) 100 0
    ∷ accepted (Deposit 1 3 3) 3 0
    ∷ accepted (Deposit 2 0 8) 8 0
    ∷ accepted (Deposit 4 3 40) 40 0
    ∷ accepted (Order 63 15 3 0 2500000 100) 100 0
    ∷ accepted (Order 0 1 3 1 2500000 3) 3 0
    ∷ accepted (Open 3 7 2500000 0 1) 2500000 2500000
    ∷ accepted (Enter 63) 100 0
    ∷ accepted (Enter 0) 3 0
    -- m 3, c 7.5 up 8, and 8,000,000 > 2,500,000 × 3; down 7, and 7,000,000 < 7,500,000
    ∷ accepted (Match 3 11) 0 0
    ∷ refused (Settle 3 11) 13
    -- 3 × 2.5 is 7.5, up 8: the maker's whole quote for all base left
    ∷ accepted (Bid 3 2 11 1 3 8) 3 8
    ∷ balance_is 2 0 0
    ∷ balance_is 2 3 3
    -- quote left on the buys' side only
    ∷ refused (Settle 3 11) 13
    -- 40 × 2.5 is 100: the maker's whole base for all quote left, at k 1 = L
    ∷ accepted (Bid 3 4 12 0 40 100) 40 100
    ∷ balance_is 4 3 0
    ∷ balance_is 4 0 100
    -- nothing left, k 1 = L
    ∷ accepted (Settle 3 12) 100 3
    ∷ accepted (Claim 63) 100 40
    ∷ accepted (Claim 0) 3 8
    ∷ closed_is 3 true
    ∷ residue_is 0 0
    ∷ residue_is 3 0
    ∷ balance_is 15 3 40
    ∷ balance_is 1 0 8
    ∷ refused (Cancel 63 15) 8
    ∷ []

-- A claim where nothing was sold gives the whole offer back to the ticket. A quote above every number is 18 for side 1 and 17 for side 0.
-- At the last block a match is never 4 blocks after its open.
unfoldable pub nothing_sold : List Line
nothing_sold =
    accepted (Deposit 1 1 4000000000) 4000000000 0
    ∷ accepted (Deposit 2 0 4294967295) 4294967295 0
    ∷ accepted (Deposit 2 1 294967295) 294967295 0
    ∷ accepted (Order 0 1 1 1 2000000 4000000000) 4000000000 0
    ∷ accepted (Open 1 0 2000000 0 64) 2000000 2000000
    ∷ accepted (Enter 0) 4000000000 0
    ∷ refused (Claim 0) 11
    ∷ accepted (Match 1 4) 0 0
    ∷ refused (Claim 0) 11
    -- 4,000,000,000 base at 2 cost 8,000,000,000
    ∷ refused (Bid 1 2 4 1 4000000000 4294967295) 18
    ∷ refused (Bid 1 2 4 1 4000000001 4294967295) 17
    -- 4,294,967,295 base at 2 bring 8,589,934,590
    ∷ refused (Bid 1 2 4 0 4294967295 0) 17
    ∷ refused (Settle 1 68) 13
    ∷ accepted (Settle 1 69) 0 0
    ∷ accepted (Claim 0) 0 0
    ∷ closed_is 1 true
    ∷ residue_is 1 0
    ∷ balance_is 1 1 0
    ∷ refused (Claim 0) 9
    ∷ refused (Enter 0) 11
    ∷ accepted (Cancel 0 1) 4000000000 0
    ∷ balance_is 1 1 4000000000
    ∷ accepted (Open 1 4294967295 2000000 0 64) 2000000 2000000
    ∷ refused (Match 1 4294967294) 12
    ∷ refused (Match 1 4294967295) 13
    ∷ []

-- Sells of 100, 100 and 101 base share 200 quote for 80 base: T 301, P 80, G 200.
unfoldable pub three_sells : List Line
three_sells =
    accepted (Deposit 0 0 200) 200 0
    ∷ accepted (Deposit 1 1 301) 301 0
    ∷ accepted (Order 0 0 1 0 2500000 200) 200 0
    ∷ accepted (Order 1 1 1 1 2500000 100) 100 0
    ∷ accepted (Order 2 1 1 1 2500000 100) 100 0
    ∷ accepted (Order 3 1 1 1 2500000 101) 101 0
    ∷ accepted (Open 1 10 2500000 0 10) 2500000 2500000
    ∷ accepted (Enter 1) 100 0
    ∷ accepted (Enter 0) 200 0
    ∷ accepted (Enter 2) 200 0
    ∷ accepted (Enter 3) 301 0
    ∷ accepted (Match 1 14) 80 200
    -- base left, no quote left
    ∷ refused (Settle 1 14) 13
    ∷ accepted (Settle 1 25) 200 80
    -- 26.6 and 66.4; 26.8 and 67.1
    ∷ accepted (Claim 1) 27 66
    ∷ accepted (Claim 3) 27 67
    ∷ accepted (Claim 0) 200 80
    ∷ accepted (Claim 2) 27 66
    -- 200 - 199 quote, 301 - 73 - 74 - 73 - 80 base
    ∷ residue_is 0 1
    ∷ residue_is 1 1
    ∷ closed_is 1 true
    ∷ accepted (Cancel 3 1) 74 0
    ∷ accepted (Cancel 1 1) 73 0
    ∷ accepted (Cancel 2 1) 73 0
    ∷ balance_is 1 0 199
    ∷ balance_is 1 1 220
    ∷ balance_is 0 1 80
    ∷ []

-- Matches whose c is rounded up, in three markets at once: it just meets hi and stands, it passes hi, is below lo rounded down and is dropped,
-- it stays below hi. A match that leaves nothing is settled in its own block.
unfoldable pub matches_bounded : List Line
matches_bounded =
    accepted (Deposit 0 0 104) 104 0
    ∷ accepted (Deposit 1 1 1) 1 0
    ∷ accepted (Deposit 1 2 1) 1 0
    ∷ accepted (Deposit 1 3 3) 3 0
    ∷ accepted (Order 0 0 1 0 2000000 2) 2 0
    ∷ accepted (Order 1 1 1 1 1200000 1) 1 0
    ∷ accepted (Order 2 0 2 0 2000000 2) 2 0
    ∷ accepted (Order 3 1 2 1 1200000 1) 1 0
    ∷ accepted (Order 4 0 3 0 2750000 100) 100 0
    ∷ accepted (Order 5 1 3 1 2250000 3) 3 0
    ∷ accepted (Open 1 0 1600000 250000 1) 2000000 1200000
    -- 1,999,998.4 down, 1,200,001.6 up
    ∷ accepted (Open 2 0 1600000 249999 1) 1999998 1200002
    ∷ accepted (Open 3 0 2500000 100000 1) 2750000 2250000
    ∷ accepted (Enter 0) 2 0
    ∷ accepted (Enter 1) 1 0
    ∷ accepted (Enter 2) 2 0
    ∷ accepted (Enter 3) 1 0
    ∷ accepted (Enter 4) 100 0
    ∷ accepted (Enter 5) 3 0
    -- c 1.6 up 2: 2,000,000 is not above hi × 1
    ∷ accepted (Match 1 4) 1 2
    -- 2,000,000 is above 1,999,998; down 1, and 1,000,000 is below 1,200,002
    ∷ accepted (Match 2 4) 0 0
    -- c 7.5 up 8: 8,000,000 is not above 2,750,000 × 3
    ∷ accepted (Match 3 4) 3 8
    ∷ accepted (Settle 1 4) 2 1
    -- market 1 is paying, and market 3 is not
    ∷ refused (Claim 4) 11
    ∷ refused (Settle 2 4) 13
    ∷ refused (Settle 3 5) 13
    ∷ accepted (Settle 2 6) 0 0
    ∷ accepted (Settle 3 6) 8 3
    ∷ accepted (Claim 4) 8 3
    ∷ accepted (Claim 2) 0 0
    ∷ accepted (Claim 1) 1 2
    ∷ accepted (Claim 5) 3 8
    ∷ accepted (Claim 3) 0 0
    ∷ accepted (Claim 0) 2 1
    ∷ closed_is 1 true
    ∷ closed_is 2 true
    ∷ closed_is 3 true
    ∷ refused (Cancel 4 1) 8
    ∷ accepted (Cancel 4 0) 92 0
    ∷ accepted (Cancel 2 0) 2 0
    ∷ accepted (Cancel 3 1) 1 0
    ∷ balance_is 0 0 94
    ∷ balance_is 1 0 10
    ∷ residue_is 0 0
    ∷ []

-- Document 02, L4: matches whose c rounded up breaks hi, in three markets at once, with limits just hi and just lo. In market 1 the buys have
-- the less, and a maker takes of the base left. In market 2 c rounded down just meets lo, and the maker takes of the quote left. In market 3 lo
-- is two millionths higher, and the match is dropped.
unfoldable pub matches_lowered : List Line
matches_lowered =
    accepted (Deposit 0 0 17) 17 0
    ∷ accepted (Deposit 1 1 9) 9 0
    ∷ accepted (Deposit 1 2 1) 1 0
    ∷ accepted (Deposit 1 3 1) 1 0
    ∷ accepted (Deposit 15 0 5) 5 0
    ∷ accepted (Deposit 15 2 1) 1 0
    ∷ accepted (Order 0 0 1 0 2310000 7) 7 0
    ∷ accepted (Order 1 1 1 1 1890000 9) 9 0
    ∷ accepted (Order 2 0 2 0 2800000 5) 5 0
    ∷ accepted (Order 3 1 2 1 2000000 1) 1 0
    ∷ accepted (Order 4 0 3 0 2799998 5) 5 0
    ∷ accepted (Order 5 1 3 1 2000002 1) 1 0
    ∷ accepted (Open 1 0 2100000 100000 1) 2310000 1890000
    -- 2,800,000.8 down, 1,999,999.2 up
    ∷ accepted (Open 2 0 2400000 166667 1) 2800000 2000000
    -- 2,799,998.4 down, 2,000,001.6 up
    ∷ accepted (Open 3 0 2400000 166666 1) 2799998 2000002
    ∷ accepted (Enter 0) 7 0
    ∷ accepted (Enter 1) 9 0
    ∷ accepted (Enter 2) 5 0
    ∷ accepted (Enter 3) 1 0
    ∷ accepted (Enter 4) 5 0
    ∷ accepted (Enter 5) 1 0
    -- 7 quote fetch 3.3 base, down 3; c 6.3 up 7, above 2.31 × 3; down 6, and not below 1.89 × 3
    ∷ accepted (Match 1 4) 3 6
    -- c 2.4 up 3, above hi; down 2, and 2,000,000 is just lo
    ∷ accepted (Match 2 4) 1 2
    -- 2,000,000 is below 2,000,002
    ∷ accepted (Match 3 4) 0 0
    -- of 6 base 2 at 2.31, up 5
    ∷ accepted (Bid 1 15 4 1 2 5) 2 5
    -- of 3 quote 2 at 2 for one base
    ∷ accepted (Bid 2 15 4 0 1 2) 1 2
    ∷ refused (Settle 1 5) 13
    ∷ accepted (Settle 1 6) 6 5
    ∷ accepted (Settle 2 6) 4 1
    ∷ accepted (Settle 3 6) 0 0
    ∷ accepted (Claim 0) 6 3
    -- 6 of the match and 5 of the maker
    ∷ accepted (Claim 1) 5 11
    ∷ accepted (Claim 2) 4 2
    ∷ accepted (Claim 3) 1 2
    ∷ accepted (Claim 4) 0 0
    ∷ accepted (Claim 5) 0 0
    ∷ closed_is 1 true
    ∷ closed_is 2 true
    ∷ closed_is 3 true
    ∷ accepted (Cancel 0 0) 1 0
    ∷ accepted (Cancel 1 1) 4 0
    ∷ accepted (Cancel 2 0) 1 0
    ∷ accepted (Cancel 4 0) 5 0
    ∷ accepted (Cancel 5 1) 1 0
    ∷ balance_is 0 0 7
    ∷ balance_is 0 1 3
    ∷ balance_is 0 2 2
    ∷ balance_is 1 0 13
    ∷ balance_is 1 1 4
    ∷ balance_is 1 3 1
    ∷ balance_is 15 0 2
    ∷ balance_is 15 1 2
    ∷ residue_is 0 0
    ∷ residue_is 1 0
    ∷ residue_is 2 0
    ∷ residue_is 3 0
    ∷ []

-- At a price of 0.4 two base bring 0 quote, which is 17, and three bring 1. The bids take all quote, so the settle is early.
unfoldable pub quote_of_nothing : List Line
quote_of_nothing =
    accepted (Deposit 0 0 5) 5 0
    ∷ accepted (Deposit 15 1 20) 20 0
    ∷ accepted (Order 0 0 1 0 400000 5) 5 0
    ∷ accepted (Open 1 3 400000 0 10) 400000 400000
    ∷ accepted (Enter 0) 5 0
    ∷ accepted (Match 1 7) 0 0
    ∷ refused (Bid 1 15 7 0 2 0) 17
    -- 17 and 18
    ∷ refused (Bid 1 15 7 0 2 1) 17
    ∷ accepted (Bid 1 15 7 0 3 1) 3 1
    -- 13 × 0.4 is 5.2, and 4 are left; 12 × 0.4 is 4.8
    ∷ refused (Bid 1 15 7 0 13 4) 17
    ∷ refused (Settle 1 7) 13
    ∷ accepted (Bid 1 15 8 0 12 4) 12 4
    ∷ accepted (Settle 1 8) 5 0
    ∷ accepted (Claim 0) 5 15
    ∷ closed_is 1 true
    ∷ balance_is 0 1 15
    ∷ balance_is 15 0 5
    ∷ balance_is 15 1 5
    ∷ residue_is 0 0
    ∷ residue_is 1 0
    ∷ []

-- "Auction starts at this block": two rounds that are matched long after their 4 blocks are over, each with its own start. In market 1 makers
-- take base, start 23, L 7: from the open or from 4 blocks after it every k would be above L. In market 3 they take quote, start 25, L 37: from
-- there every price would be another. A million base at a price p is p quote, so that a unit of the price shows.
unfoldable pub late_matches : List Line
late_matches =
    accepted (Deposit 0 0 900) 900 0
    ∷ accepted (Deposit 1 1 7000003) 7000003 0
    ∷ accepted (Deposit 15 1 2999997) 2999997 0
    ∷ accepted (Deposit 2 0 6000001) 6000001 0
    ∷ accepted (Deposit 15 0 3999999) 3999999 0
    ∷ accepted (Deposit 3 3 1000000) 1000000 0
    ∷ accepted (Deposit 4 0 1170) 1170 0
    ∷ accepted (Deposit 4 3 3000001) 3000001 0
    ∷ accepted (Order 5 0 1 0 360 900) 900 0
    ∷ accepted (Order 10 1 1 1 240 7000003) 7000003 0
    ∷ accepted (Order 63 15 1 1 240 2999997) 2999997 0
    ∷ accepted (Order 20 2 3 0 2750000 6000001) 6000001 0
    ∷ accepted (Order 62 15 3 0 2750000 3999999) 3999999 0
    ∷ accepted (Order 0 3 3 1 2250000 1000000) 1000000 0
    -- 300 × 1.2 and × 0.8; 2,500,000 × 1.1 and × 0.9
    ∷ accepted (Open 1 10 300 200000 7) 360 240
    ∷ accepted (Open 3 11 2500000 100000 37) 2750000 2250000
    ∷ accepted (Enter 5) 900 0
    ∷ accepted (Enter 10) 7000003 0
    ∷ accepted (Enter 63) 10000000 0
    ∷ accepted (Enter 20) 6000001 0
    ∷ accepted (Enter 62) 10000000 0
    ∷ accepted (Enter 0) 1000000 0
    -- Q 900, S 10,000,000: 900 / 0.0003 is 3,000,000
    ∷ accepted (Match 1 23) 3000000 900
    -- k 0: price 360
    ∷ refused (Bid 1 4 23 1 1000000 359) 18
    ∷ accepted (Bid 1 4 23 1 1000000 360) 1000000 360
    -- Q 10,000,000, S 1,000,000: c 1,000,000 × 2.5
    ∷ accepted (Match 3 25) 1000000 2500000
    -- k 0: price 2,250,000
    ∷ refused (Bid 3 4 25 0 1000000 2250001) 18
    ∷ accepted (Bid 3 4 25 0 1000000 2250000) 1000000 2250000
    -- k 3: 120 × 3 / 7 is 51.4; 309, up to 400, which passes hi: the price 360
    ∷ refused (Bid 1 4 26 1 1000000 359) 18
    ∷ accepted (Bid 1 4 26 1 1000000 360) 1000000 360
    -- k 7 = L: 240, up to 300; 1,499,999 × 0.0003 is 449.9997, up 450
    ∷ refused (Bid 1 4 30 1 1499999 449) 18
    ∷ accepted (Bid 1 4 30 1 1499999 450) 1499999 450
    -- 3,500,001 base left: k 7 is 13, k 8 is 16 and settles
    ∷ refused (Settle 1 30) 13
    ∷ refused (Bid 1 4 31 1 1 1) 16
    ∷ accepted (Settle 1 31) 900 6499999
    -- k 13: 500,000 × 13 / 37 is 175,675.7; 2,425,675, down to 2,425,600
    ∷ refused (Bid 3 4 38 0 1000000 2425601) 18
    ∷ accepted (Bid 3 4 38 0 1000000 2425600) 1000000 2425600
    -- k 37 = L: 1,000,001 × 2.75 is 2,750,002.75, down
    ∷ refused (Bid 3 4 62 0 1000001 2750003) 18
    ∷ accepted (Bid 3 4 62 0 1000001 2750002) 1000001 2750002
    -- 74,398 quote left: k 37 is 13, k 38 is 16 and settles
    ∷ refused (Settle 3 62) 13
    ∷ refused (Bid 3 4 63 0 1 0) 16
    ∷ accepted (Settle 3 63) 9925602 1000000
    -- the maker paid 360 + 360 + 450 and took 2,250,000 + 2,425,600 + 2,750,002
    ∷ balance_is 4 0 7425602
    ∷ balance_is 4 1 3499999
    ∷ balance_is 4 3 0
    -- market 1's sells: T 10,000,000, P 6,499,999, G 900 + 1170. 4,550,001.2 and 1449.0006; 1,949,997.8 and 620.9994
    ∷ accepted (Claim 10) 4550002 1449
    ∷ accepted (Claim 5) 900 3000000
    ∷ accepted (Claim 63) 1949998 620
    -- 2070 - 2069 quote; 6,500,000 paid where 6,499,999 were sold
    ∷ residue_is 0 1
    ∷ residue_is 1 1
    ∷ closed_is 1 true
    -- market 3's buys: T 10,000,000, P 9,925,602, G 4,000,001. 3,970,239.8 and 1,599,999.9999999; 5,955,362.2 and 2,400,001.0000001
    ∷ accepted (Claim 62) 3970240 1599999
    ∷ accepted (Claim 0) 1000000 2500000
    ∷ accepted (Claim 20) 5955363 2400001
    ∷ residue_is 0 2
    ∷ residue_is 2 0
    ∷ residue_is 3 1
    ∷ closed_is 3 true
    ∷ accepted (Cancel 10 1) 2450001 0
    ∷ accepted (Cancel 63 15) 1049999 0
    ∷ accepted (Cancel 62 15) 29759 0
    ∷ accepted (Cancel 20 2) 44638 0
    -- 620 + 29,759 quote
    ∷ balance_is 15 0 30379
    ∷ balance_is 15 1 1049999
    ∷ balance_is 15 3 1599999
    ∷ balance_is 1 0 1449
    ∷ balance_is 2 3 2400001
    ∷ balance_is 3 0 2500000
    ∷ []

-- Prices on the hundred: r 1,001, slack 500,000, L 3, auctions from block 4. In market 1 makers take base, at 1501, 1168 up to 1200, 835 up to
-- 900 and 501 up to 600; in market 2 quote, at 501, 834 down to 800, 1167 down to 1100 and 1501 down to 1500; in market 3 quote too, with r 300,
-- slack 200,000 and L 7.
unfoldable pub prices_stepped : List Line
prices_stepped =
    accepted (Deposit 1 1 2000000) 2000000 0
    ∷ accepted (Deposit 2 0 5540) 5540 0
    ∷ accepted (Deposit 3 0 1772) 1772 0
    ∷ accepted (Deposit 3 2 4732667) 4732667 0
    ∷ accepted (Deposit 3 3 2000000) 2000000 0
    ∷ accepted (Deposit 4 0 119) 119 0
    ∷ accepted (Order 0 1 1 1 501 1500000) 1500000 0
    ∷ accepted (Order 1 1 1 1 501 500000) 500000 0
    ∷ accepted (Order 2 2 2 0 1501 3000) 3000 0
    ∷ accepted (Order 3 2 2 0 1501 2000) 2000 0
    ∷ accepted (Order 4 2 3 0 360 540) 540 0
    -- 1501.5 down, 500.5 up: bounds are not stepped
    ∷ accepted (Open 1 0 1001 500000 3) 1501 501
    ∷ accepted (Open 2 0 1001 500000 3) 1501 501
    ∷ accepted (Open 3 0 300 200000 7) 360 240
    ∷ accepted (Enter 0) 1500000 0
    ∷ accepted (Enter 1) 2000000 0
    ∷ accepted (Enter 2) 3000 0
    ∷ accepted (Enter 3) 5000 0
    ∷ accepted (Enter 4) 540 0
    ∷ accepted (Match 1 4) 0 0
    ∷ accepted (Match 2 4) 0 0
    ∷ accepted (Match 3 4) 0 0
    -- k 0: a million base at a price p is p quote
    ∷ refused (Bid 1 3 4 1 1000000 1500) 18
    ∷ accepted (Bid 1 3 4 1 1000000 1501) 1000000 1501
    ∷ refused (Bid 2 3 4 0 1000000 502) 18
    ∷ accepted (Bid 2 3 4 0 1000000 501) 1000000 501
    -- k 1: 120, where document 01's price asked 116.8, up 117: too much for a bound of 119, and for the 119 that member 4 has
    ∷ refused (Bid 1 3 5 1 100000 119) 18
    ∷ refused (Bid 1 4 5 1 100000 500) 19
    ∷ accepted (Bid 1 3 5 1 100000 120) 100000 120
    -- 800, where document 01's price gave 834; 1,200 base give 0.96, down 0, where it gave 1.0008, down 1
    ∷ refused (Bid 2 3 5 0 1000000 801) 18
    ∷ refused (Bid 2 3 5 0 1200 0) 17
    ∷ accepted (Bid 2 3 5 0 1000000 800) 1000000 800
    -- k 2
    ∷ refused (Bid 1 3 6 1 100000 89) 18
    ∷ accepted (Bid 1 3 6 1 100000 90) 100000 90
    ∷ refused (Bid 2 3 6 0 1000000 1101) 18
    ∷ accepted (Bid 2 3 6 0 1000000 1100) 1000000 1100
    -- k 3 = L: 99 above lo, and 1 below hi
    ∷ refused (Bid 1 3 7 1 100000 59) 18
    ∷ accepted (Bid 1 3 7 1 100000 60) 100000 60
    ∷ accepted (Bid 1 3 7 1 1 1) 1 1
    -- 0.999 and 1.0005, down
    ∷ refused (Bid 2 3 7 0 666 0) 17
    ∷ accepted (Bid 2 3 7 0 667 1) 667 1
    -- 2,598 quote left: 1,732,667 base come to 2,599.0005, 1,732,000 to just 2,598, where document 01's price gave 2,599.7
    ∷ refused (Bid 2 3 7 0 1732667 0) 17
    ∷ accepted (Bid 2 3 7 0 1732000 2598) 1732000 2598
    -- k 3 of 7: 120 × 3 / 7 is 51.4; 291, down to 200, which passes lo: the price 240
    ∷ refused (Bid 3 3 7 0 1000000 241) 18
    ∷ accepted (Bid 3 3 7 0 1000000 240) 1000000 240
    -- no quote left in market 2; 699,999 base in market 1
    ∷ accepted (Settle 2 7) 5000 0
    ∷ refused (Settle 1 7) 13
    ∷ refused (Bid 1 3 8 1 1 1) 16
    ∷ accepted (Settle 1 8) 0 1300001
    -- k 7 of 7: 360, down to 300, just what is left of 540
    ∷ refused (Bid 3 3 11 0 1000000 301) 18
    ∷ accepted (Bid 3 3 11 0 1000000 300) 1000000 300
    ∷ accepted (Settle 3 11) 540 0
    ∷ accepted (Claim 4) 540 2000000
    ∷ balance_is 3 0 5540
    ∷ balance_is 3 1 1300001
    ∷ balance_is 3 2 0
    ∷ balance_is 3 3 0
    -- sells: T 2,000,000, P 1,300,001, G 1501 + 120 + 90 + 60 + 1. 975,000.75 and 1329; 325,000.25 and 443
    ∷ accepted (Claim 0) 975001 1329
    ∷ accepted (Claim 1) 325001 443
    ∷ residue_is 0 0
    ∷ residue_is 1 1
    -- buys: T and P 5000, G 4,732,667. 2,839,600.2 and 1,893,066.8
    ∷ accepted (Claim 2) 3000 2839600
    ∷ accepted (Claim 3) 2000 1893066
    ∷ residue_is 2 1
    ∷ closed_is 1 true
    ∷ closed_is 2 true
    ∷ balance_is 1 0 1772
    ∷ balance_is 2 2 4732666
    ∷ []

-- No multiple of 100 from lo to hi: r 3, slack 500,000, L 10. The auctions stand still, at 4 for base and at 2 for quote.
unfoldable pub auctions_still : List Line
auctions_still =
    accepted (Deposit 1 1 1000000) 1000000 0
    ∷ accepted (Deposit 2 0 5) 5 0
    ∷ accepted (Deposit 3 0 3) 3 0
    ∷ accepted (Deposit 3 2 1000000) 1000000 0
    ∷ accepted (Order 0 1 1 1 2 1000000) 1000000 0
    ∷ accepted (Order 1 2 2 0 4 5) 5 0
    ∷ accepted (Open 1 0 3 500000 10) 4 2
    ∷ accepted (Open 2 0 3 500000 10) 4 2
    ∷ accepted (Enter 0) 1000000 0
    ∷ accepted (Enter 1) 5 0
    ∷ accepted (Match 1 4) 0 0
    ∷ accepted (Match 2 4) 0 0
    -- k 0: 1 for 250,000 base, and for 500,000
    ∷ accepted (Bid 1 3 4 1 250000 1) 250000 1
    ∷ refused (Bid 2 3 4 0 499999 0) 17
    ∷ accepted (Bid 2 3 4 0 500000 1) 500000 1
    -- k 5: 1.000004, up 2, and 0.7, down 0, where document 01's price of 3 came to 1 both times
    ∷ refused (Bid 1 3 9 1 250001 1) 18
    ∷ refused (Bid 2 3 9 0 333334 0) 17
    -- k 10 = L: 500,000 base cost 2, where document 01's price of 2 asked 1; and bring 1, where its price of 4 gave 2
    ∷ refused (Bid 1 3 14 1 500000 1) 18
    ∷ accepted (Bid 1 3 14 1 500000 9) 500000 2
    ∷ refused (Bid 2 3 14 0 500000 2) 18
    ∷ accepted (Bid 2 3 14 0 500000 1) 500000 1
    ∷ accepted (Settle 1 15) 0 750000
    ∷ accepted (Settle 2 15) 2 0
    ∷ accepted (Claim 0) 750000 3
    ∷ accepted (Claim 1) 2 1000000
    ∷ balance_is 1 0 3
    ∷ balance_is 2 2 1000000
    ∷ balance_is 3 0 2
    ∷ []

-- The last market, ticket, member and token. The edge of the three buys in market 3: T 301, P 200, G 80, and each ticket keeps 33.
unfoldable pub last_places_ended : List Line
last_places_ended =
    accepted (Deposit 15 0 301) 301 0
    ∷ accepted (Deposit 14 3 90) 90 0
    ∷ accepted (Order 61 15 3 0 2500000 100) 100 0
    ∷ accepted (Order 62 15 3 0 2500000 100) 100 0
    ∷ accepted (Order 63 15 3 0 2500000 101) 101 0
    ∷ accepted (Order 0 14 3 1 2500000 80) 80 0
    ∷ accepted (Open 3 10 2500000 0 10) 2500000 2500000
    ∷ accepted (Enter 61) 100 0
    ∷ accepted (Enter 62) 200 0
    ∷ accepted (Enter 63) 301 0
    ∷ accepted (Enter 0) 80 0
    ∷ accepted (Match 3 14) 80 200
    ∷ refused (Settle 3 24) 13
    ∷ accepted (Settle 3 25) 200 80
    ∷ accepted (Claim 62) 67 26
    ∷ accepted (Claim 63) 68 26
    ∷ accepted (Claim 0) 80 200
    ∷ accepted (Claim 61) 67 26
    ∷ residue_is 0 2
    ∷ residue_is 3 2
    ∷ []

-- Ticket 63 takes another order, a sell. At a price of 1, two sells of 5 share what a buy and a maker paid: T 10, P 3 + 4, G 3 + 4. One of
-- them has claimed, ticket 63 not yet; a round of market 1 came and went without tickets.
unfoldable pub last_places_settled : List Line
last_places_settled =
    accepted (Cancel 63 15) 33 0
    ∷ accepted (Order 63 15 3 1 1000000 5) 5 0
    ∷ accepted (Order 1 15 3 1 1000000 5) 5 0
    ∷ accepted (Order 2 14 3 0 1000000 3) 3 0
    ∷ accepted (Open 3 25 1000000 0 1) 1000000 1000000
    ∷ accepted (Enter 1) 5 0
    ∷ accepted (Enter 63) 10 0
    ∷ accepted (Enter 2) 3 0
    ∷ accepted (Match 3 29) 3 3
    ∷ accepted (Bid 3 14 29 1 4 4) 4 4
    ∷ refused (Settle 3 30) 13
    ∷ accepted (Settle 3 31) 3 7
    -- 3.5 up and down
    ∷ accepted (Claim 1) 4 3
    ∷ accepted (Open 1 31 1 0 1) 1 1
    ∷ accepted (Match 1 35) 0 0
    ∷ accepted (Settle 1 35) 0 0
    ∷ accepted (Withdraw 15 3 1) 67 0
    ∷ []

-- The other claims, and 1 and 1 more into the residue.
unfoldable pub last_places_paid : List Line
last_places_paid =
    accepted (Claim 63) 4 3
    ∷ accepted (Claim 2) 3 3
    ∷ residue_is 0 3
    ∷ supply_is 0 301
    ∷ supply_is 1 0
    ∷ supply_is 3 89
    ∷ residue_is 1 0
    ∷ residue_is 3 3
    ∷ closed_is 3 true
    ∷ balance_is 15 0 39
    ∷ balance_is 15 3 67
    ∷ balance_is 14 0 193
    ∷ balance_is 14 3 17
    ∷ []

abbrev pub last_places : List Line
last_places = last_places_ended ++ last_places_settled ++ last_places_paid

-- An auction whose start + L is 4,294,967,294: one block is left to settle at.
unfoldable pub last_blocks : List Line
last_blocks =
    accepted (Deposit 0 0 5) 5 0
    ∷ accepted (Order 0 0 1 0 1000000 5) 5 0
    ∷ accepted (Open 1 4294967280 1000000 0 10) 1000000 1000000
    ∷ accepted (Enter 0) 5 0
    ∷ accepted (Match 1 4294967284) 0 0
    ∷ []

unfoldable pub last_settle : List Line
last_settle =
    refused (Settle 1 4294967294) 13
    ∷ accepted (Settle 1 4294967295) 0 0
    ∷ accepted (Claim 0) 0 0
    ∷ closed_is 1 true
    ∷ []

-- "deposits less withdrawals of the token would pass 4,294,967,295", wherever its units are: in tickets that rest, in a round, in the residue.
-- All quote is there, and all base of market 2 but 1.
unfoldable pub supply_full : List Line
supply_full =
    accepted (Deposit 0 0 4294967295) 4294967295 0
    ∷ accepted (Deposit 1 2 4294967294) 4294967294 0
    ∷ accepted (Order 0 0 2 0 1000000 7) 7 0
    ∷ accepted (Order 1 1 2 1 1000000 5) 5 0
    ∷ accepted (Order 2 1 2 1 1000000 5) 5 0
    ∷ refused (Deposit 2 0 1) 14
    ∷ accepted (Open 2 0 1000000 0 1) 1000000 1000000
    ∷ accepted (Enter 0) 7 0
    ∷ accepted (Enter 1) 5 0
    ∷ accepted (Enter 2) 10 0
    ∷ refused (Deposit 2 0 1) 14
    ∷ accepted (Match 2 4) 7 7
    -- another market takes the last block past the end of this auction: 12 and 16; 16
    ∷ accepted (Open 3 10 1 0 1) 1 1
    ∷ refused (Bid 2 1 9 1 1 1) 12
    ∷ refused (Bid 2 1 10 1 1 1) 16
    ∷ accepted (Settle 2 10) 7 7
    -- sells: T 10, P 7, G 7. 3.5 up and down
    ∷ accepted (Claim 1) 4 3
    ∷ accepted (Claim 0) 7 7
    ∷ accepted (Claim 2) 4 3
    -- 7 - 6 quote, 10 - 2 - 7 base
    ∷ residue_is 0 1
    ∷ residue_is 2 1
    ∷ refused (Deposit 2 0 1) 14
    ∷ refused (Deposit 2 2 2) 14
    ∷ accepted (Deposit 2 2 1) 1 0
    ∷ []

-- Tickets that leave while their round collects: the offer rests again, and the buys' total is that of the ticket that stayed.
unfoldable pub tickets_left : List Line
tickets_left =
    accepted (Deposit 0 0 1000) 1000 0
    ∷ accepted (Deposit 1 1 300) 300 0
    ∷ accepted (Order 0 0 1 0 3000000 600) 600 0
    ∷ accepted (Order 1 1 1 1 2000000 300) 300 0
    ∷ accepted (Order 2 0 1 0 3000000 100) 100 0
    -- its market is closed: 9 and 11
    ∷ refused (Leave 0 0) 9
    ∷ accepted (Open 1 10 2500000 100000 10) 2750000 2250000
    ∷ refused (Leave 0 16) 1
    -- 1 and 4
    ∷ refused (Leave 64 16) 1
    ∷ refused (Leave 64 0) 4
    -- 8 by a free ticket, and by another's: 8 and 9
    ∷ refused (Leave 63 0) 8
    ∷ refused (Leave 0 1) 8
    ∷ refused (Leave 0 0) 9
    ∷ accepted (Enter 0) 600 0
    ∷ accepted (Enter 2) 700 0
    -- another's, in a round
    ∷ refused (Leave 0 1) 8
    ∷ accepted (Leave 0 0) 600 0
    -- it rests, and nothing came to its member
    ∷ balance_is 0 0 300
    ∷ refused (Leave 0 0) 9
    ∷ refused (Claim 0) 9
    ∷ accepted (Cancel 0 0) 600 0
    ∷ balance_is 0 0 900
    ∷ accepted (Enter 1) 300 0
    -- Q 100, S 300: 100 / 2.5 is 40
    ∷ accepted (Match 1 14) 40 100
    -- 11 in auction, and while paying
    ∷ refused (Leave 2 0) 11
    ∷ accepted (Settle 1 25) 100 40
    ∷ refused (Leave 2 0) 11
    ∷ accepted (Claim 2) 100 40
    ∷ closed_is 1 false
    ∷ accepted (Claim 1) 40 100
    ∷ closed_is 1 true
    ∷ residue_is 0 0
    ∷ residue_is 1 0
    ∷ refused (Leave 1 1) 9
    ∷ accepted (Cancel 1 1) 260 0
    ∷ balance_is 0 0 900
    ∷ balance_is 0 1 40
    ∷ balance_is 1 0 100
    ∷ balance_is 1 1 260
    ∷ []

-- A round's only ticket leaves it twice. Its settle has no tickets and closes the market; the ticket enters the next round, and stays in it.
unfoldable pub left_empty : List Line
left_empty =
    accepted (Deposit 0 0 5) 5 0
    ∷ accepted (Order 0 0 2 0 2000000000 5) 5 0
    ∷ accepted (Open 2 0 1 0 1) 1 1
    ∷ accepted (Enter 0) 5 0
    ∷ accepted (Leave 0 0) 5 0
    ∷ accepted (Enter 0) 5 0
    ∷ accepted (Leave 0 0) 5 0
    ∷ accepted (Match 2 4) 0 0
    ∷ closed_is 2 false
    -- nothing is left, so it settles in the block of its match
    ∷ accepted (Settle 2 4) 0 0
    ∷ closed_is 2 true
    ∷ residue_is 0 0
    ∷ residue_is 2 0
    ∷ balance_is 0 0 0
    ∷ accepted (Open 2 4 1 0 1) 1 1
    ∷ accepted (Enter 0) 5 0
    ∷ accepted (Match 2 8) 0 0
    ∷ refused (Leave 0 0) 11
    ∷ []

-- A sell and a buy leave market 3's round, the last ticket and member among them. Every offer is another number, so that the totals, what the
-- round holds and its tickets are felt to the unit. Market 1 is in auction meanwhile, and market 2 closed.
unfoldable pub sells_left : List Line
sells_left =
    accepted (Deposit 15 3 200) 200 0
    ∷ accepted (Deposit 14 3 100) 100 0
    ∷ accepted (Deposit 13 0 300) 300 0
    ∷ accepted (Deposit 2 0 80) 80 0
    ∷ accepted (Deposit 15 2 11) 11 0
    ∷ accepted (Order 63 15 3 1 2250000 170) 170 0
    ∷ accepted (Order 62 14 3 1 2250000 90) 90 0
    ∷ accepted (Order 61 14 3 1 2250000 8) 8 0
    ∷ accepted (Order 5 13 3 0 2750000 240) 240 0
    ∷ accepted (Order 6 13 3 0 2750000 35) 35 0
    ∷ accepted (Order 7 15 2 1 1 11) 11 0
    ∷ accepted (Open 1 6 1 0 1) 1 1
    ∷ accepted (Match 1 10) 0 0
    ∷ accepted (Open 3 10 2500000 100000 10) 2750000 2250000
    ∷ accepted (Enter 63) 170 0
    ∷ accepted (Enter 5) 240 0
    ∷ accepted (Enter 62) 260 0
    -- 1 and 8; by a member below and by one above
    ∷ refused (Leave 63 16) 1
    ∷ refused (Leave 63 14) 8
    ∷ refused (Leave 62 15) 8
    ∷ accepted (Leave 63 15) 170 0
    ∷ balance_is 15 3 30
    ∷ closed_is 3 false
    -- the buys' 240 and 35; the sells' 90 and 8
    ∷ accepted (Enter 6) 275 0
    ∷ accepted (Enter 61) 98 0
    ∷ accepted (Leave 5 13) 240 0
    ∷ []

-- Tickets 63 and 5 enter the same round again and ticket 62 leaves it for good, so that it is neither paid nor waited for. Market 2 collects
-- while market 3 is in auction and paying: only its own market's phase holds a ticket.
unfoldable pub sells_paid : List Line
sells_paid =
    accepted (Enter 63) 268 0
    ∷ accepted (Leave 62 14) 90 0
    ∷ refused (Leave 62 14) 9
    -- the last block is still 10
    ∷ refused (Open 2 9 1 0 1) 12
    ∷ accepted (Open 2 10 1 0 1) 1 1
    ∷ accepted (Enter 7) 11 0
    ∷ accepted (Enter 5) 275 0
    -- Q 275, S 178: 275 / 2.5 is 110
    ∷ accepted (Match 3 14) 110 275
    -- 8 and 11; 9 and 11; 11
    ∷ refused (Leave 63 14) 8
    ∷ refused (Leave 62 14) 9
    ∷ refused (Leave 63 15) 11
    ∷ accepted (Leave 7 15) 11 0
    ∷ accepted (Enter 7) 11 0
    -- k 5: 30 × 2.5
    ∷ accepted (Bid 3 2 19 1 30 75) 30 75
    ∷ accepted (Settle 3 25) 275 140
    ∷ refused (Leave 63 14) 8
    ∷ refused (Leave 62 14) 9
    ∷ refused (Leave 63 15) 11
    ∷ accepted (Leave 7 15) 11 0
    -- sells: T 178, P 110 + 30, G 275 + 75. 133.7 and 334.3; 6.3 and 15.7
    ∷ accepted (Claim 63) 134 334
    ∷ refused (Leave 63 15) 9
    -- buys: T 275, P 275, G 110
    ∷ accepted (Claim 6) 35 14
    ∷ accepted (Claim 5) 240 96
    ∷ closed_is 3 false
    ∷ accepted (Claim 61) 7 15
    -- 350 - 349 quote, 178 - 30 - 36 - 1 - 110 base
    ∷ residue_is 0 1
    ∷ residue_is 3 1
    ∷ closed_is 3 true
    -- ticket 7 left market 2's round without tickets
    ∷ accepted (Match 2 25) 0 0
    ∷ accepted (Settle 2 25) 0 0
    ∷ closed_is 2 true
    ∷ residue_is 2 0
    ∷ accepted (Cancel 63 15) 36 0
    ∷ accepted (Cancel 62 14) 90 0
    ∷ accepted (Cancel 61 14) 1 0
    ∷ accepted (Cancel 7 15) 11 0
    ∷ refused (Cancel 5 13) 8
    ∷ balance_is 15 0 334
    ∷ balance_is 15 3 66
    ∷ balance_is 14 0 15
    ∷ balance_is 14 3 93
    ∷ balance_is 13 0 25
    ∷ balance_is 13 3 110
    ∷ balance_is 2 0 5
    ∷ balance_is 2 3 30
    ∷ []

abbrev pub left_and_paid : List Line
left_and_paid = sells_left ++ sells_paid

-- ---- far from the borders, and between them

-- Fields far above their ranges, of every kind that has them, and some whose low bits are a number within. All else of each call is fine.
unfoldable pub far_fields : List Line
far_fields =
    accepted (Deposit 0 0 1000) 1000 0
    ∷ accepted (Deposit 1 1 500) 500 0
    ∷ refused (Deposit 17 0 1) 1
    ∷ refused (Deposit 1000 0 1) 1
    ∷ refused (Deposit 4294967295 0 1) 1
    ∷ refused (Deposit 0 5 1) 2
    ∷ refused (Deposit 0 256 1) 2
    ∷ refused (Deposit 0 4294967295 1) 2
    ∷ refused (Withdraw 17 0 1) 1
    ∷ refused (Withdraw 256 0 1) 1
    ∷ refused (Withdraw 4294967295 0 1) 1
    ∷ refused (Withdraw 0 5 1) 2
    ∷ refused (Withdraw 0 1000 1) 2
    ∷ refused (Withdraw 0 4294967295 1) 2
    ∷ refused (Order 0 17 1 0 1000000 1) 1
    ∷ refused (Order 0 1000 1 0 1000000 1) 1
    ∷ refused (Order 0 4294967295 1 0 1000000 1) 1
    ∷ refused (Order 0 0 5 0 1000000 1) 3
    ∷ refused (Order 0 0 257 0 1000000 1) 3
    ∷ refused (Order 0 0 4294967295 0 1000000 1) 3
    ∷ refused (Order 65 0 1 0 1000000 1) 4
    ∷ refused (Order 128 0 1 0 1000000 1) 4
    ∷ refused (Order 4294967295 0 1 0 1000000 1) 4
    ∷ refused (Order 0 0 1 3 1000000 1) 5
    ∷ refused (Order 0 0 1 256 1000000 1) 5
    ∷ refused (Order 0 1 1 257 1000000 1) 5
    ∷ refused (Order 0 1 1 4294967295 1000000 1) 5
    ∷ refused (Order 0 0 1 0 2000000002 1) 6
    ∷ refused (Order 0 0 1 0 3000000000 1) 6
    ∷ refused (Order 0 0 1 0 4294967295 1) 6
    ∷ refused (Order 0 1 1 1 4294967295 1) 6
    ∷ balance_is 0 0 1000
    ∷ balance_is 1 1 500
    ∷ supply_is 0 1000
    ∷ accepted (Order 0 0 1 0 1000000 600) 600 0
    ∷ refused (Cancel 0 17) 1
    ∷ refused (Cancel 0 1000) 1
    ∷ refused (Cancel 0 4294967295) 1
    ∷ refused (Cancel 65 0) 4
    ∷ refused (Cancel 128 0) 4
    ∷ refused (Cancel 4294967295 0) 4
    ∷ refused (Open 5 10 1000000 0 2) 3
    ∷ refused (Open 257 10 1000000 0 2) 3
    ∷ refused (Open 4294967295 10 1000000 0 2) 3
    ∷ refused (Open 1 10 1000000002 0 2) 10
    ∷ refused (Open 1 10 2000000000 0 2) 10
    ∷ refused (Open 1 10 4294967295 0 2) 10
    ∷ refused (Open 1 10 1000000 500002 2) 10
    ∷ refused (Open 1 10 1000000 1000000 2) 10
    ∷ refused (Open 1 10 1000000 1000001 2) 10
    ∷ refused (Open 1 10 1000000 4294967295 2) 10
    ∷ refused (Open 1 10 1000000 0 66) 10
    ∷ refused (Open 1 10 1000000 0 1000) 10
    ∷ refused (Open 1 10 1000000 0 4294967295) 10
    ∷ closed_is 1 true
    ∷ accepted (Open 1 10 1000000 0 2) 1000000 1000000
    ∷ refused (Enter 65) 4
    ∷ refused (Enter 128) 4
    ∷ refused (Enter 4294967295) 4
    ∷ accepted (Enter 0) 600 0
    ∷ refused (Leave 0 17) 1
    ∷ refused (Leave 0 1000) 1
    ∷ refused (Leave 0 4294967295) 1
    ∷ refused (Leave 65 0) 4
    ∷ refused (Leave 128 0) 4
    ∷ refused (Leave 4294967295 0) 4
    ∷ refused (Match 5 14) 3
    ∷ refused (Match 257 14) 3
    ∷ refused (Match 4294967295 14) 3
    ∷ accepted (Match 1 14) 0 0
    ∷ refused (Bid 1 17 14 0 100 100) 1
    ∷ refused (Bid 1 257 14 0 100 100) 1
    ∷ refused (Bid 1 4294967295 14 0 100 100) 1
    ∷ refused (Bid 5 1 14 0 100 100) 3
    ∷ refused (Bid 257 1 14 0 100 100) 3
    ∷ refused (Bid 4294967295 1 14 0 100 100) 3
    ∷ refused (Bid 1 1 14 3 100 100) 5
    ∷ refused (Bid 1 1 14 256 100 100) 5
    ∷ refused (Bid 1 1 14 257 100 100) 5
    ∷ refused (Bid 1 1 14 4294967295 100 100) 5
    ∷ accepted (Bid 1 1 14 0 100 100) 100 100
    ∷ refused (Settle 5 17) 3
    ∷ refused (Settle 257 17) 3
    ∷ refused (Settle 4294967295 17) 3
    ∷ accepted (Settle 1 17) 100 0
    ∷ refused (Claim 65) 4
    ∷ refused (Claim 128) 4
    ∷ refused (Claim 4294967295) 4
    -- T 600, P 100, G 100
    ∷ accepted (Claim 0) 100 100
    ∷ closed_is 1 true
    ∷ accepted (Cancel 0 0) 500 0
    ∷ balance_is 0 0 900
    ∷ balance_is 0 1 100
    ∷ balance_is 1 0 100
    ∷ balance_is 1 1 400
    ∷ []

-- Blocks, limits, balances and what is left missed by more than a unit: 12, 14 to 17 and 19. Prices are 1; market 1 has quote left, market 2
-- base.
unfoldable pub far_missed : List Line
far_missed =
    accepted (Deposit 0 0 1000) 1000 0
    ∷ accepted (Deposit 1 2 1000) 1000 0
    ∷ accepted (Deposit 2 3 3000000000) 3000000000 0
    -- 14: 4,294,967,297, 6,000,000,000 and 7,294,967,295
    ∷ refused (Deposit 2 3 1294967297) 14
    ∷ refused (Deposit 3 3 3000000000) 14
    ∷ refused (Deposit 3 3 4294967295) 14
    ∷ supply_is 3 3000000000
    -- 19
    ∷ refused (Withdraw 0 0 1002) 19
    ∷ refused (Withdraw 0 0 1000000) 19
    ∷ refused (Withdraw 0 0 4294967295) 19
    ∷ refused (Order 0 0 1 0 1000000 1002) 19
    ∷ refused (Order 0 0 1 0 1000000 4294967295) 19
    ∷ refused (Order 0 1 2 1 1000000 1002) 19
    ∷ refused (Order 0 1 2 1 1000000 4294967295) 19
    -- limits 2 beyond the bound, far beyond it, and far within it
    ∷ accepted (Order 0 0 1 0 999998 10) 10 0
    ∷ accepted (Order 1 0 1 0 1 20) 20 0
    ∷ accepted (Order 2 0 1 0 2000000000 400) 400 0
    ∷ accepted (Order 3 1 2 1 1000002 10) 10 0
    ∷ accepted (Order 4 1 2 1 2000000000 20) 20 0
    ∷ accepted (Order 5 1 2 1 1 400) 400 0
    ∷ accepted (Open 1 1000 1000000 0 3) 1000000 1000000
    -- 12
    ∷ refused (Open 2 998 1000000 0 3) 12
    ∷ refused (Open 2 500 1000000 0 3) 12
    ∷ refused (Open 2 0 1000000 0 3) 12
    ∷ accepted (Open 2 1000 1000000 0 3) 1000000 1000000
    -- 15
    ∷ refused (Enter 0) 15
    ∷ refused (Enter 1) 15
    ∷ refused (Enter 3) 15
    ∷ refused (Enter 4) 15
    ∷ accepted (Enter 2) 400 0
    ∷ accepted (Enter 5) 400 0
    ∷ refused (Match 1 998) 12
    ∷ refused (Match 1 500) 12
    ∷ refused (Match 1 0) 12
    ∷ accepted (Match 1 1004) 0 0
    ∷ accepted (Match 2 1004) 0 0
    ∷ refused (Bid 1 1 1002 0 1 1) 12
    ∷ refused (Bid 2 0 1002 1 1 1) 12
    ∷ refused (Bid 2 0 0 1 1 1) 12
    ∷ refused (Settle 1 1002) 12
    ∷ refused (Settle 1 500) 12
    ∷ refused (Settle 1 0) 12
    -- 16: k 5, k 1,000 and the last block
    ∷ refused (Bid 2 0 1009 1 1 1) 16
    ∷ refused (Bid 2 0 2004 1 1 1) 16
    ∷ refused (Bid 2 0 4294967295 1 1 1) 16
    ∷ refused (Bid 1 1 1009 0 1 1) 16
    ∷ refused (Bid 1 1 4294967295 0 1 1) 16
    -- 17: 400 base left, and 400 quote
    ∷ refused (Bid 2 0 1004 1 402 4294967295) 17
    ∷ refused (Bid 2 0 1004 1 4000 4294967295) 17
    ∷ refused (Bid 2 0 1004 1 4294967295 4294967295) 17
    ∷ refused (Bid 1 1 1004 0 402 0) 17
    ∷ refused (Bid 1 1 1004 0 4000 0) 17
    ∷ refused (Bid 1 1 1004 0 4294967295 0) 17
    -- 19: 400 of nothing, 400 of 3, 5 of 3
    ∷ refused (Bid 2 15 1004 1 400 400) 19
    ∷ refused (Bid 1 15 1004 0 400 400) 19
    ∷ accepted (Deposit 15 0 3) 3 0
    ∷ accepted (Deposit 15 1 3) 3 0
    ∷ refused (Bid 2 15 1004 1 400 400) 19
    ∷ refused (Bid 2 15 1004 1 5 5) 19
    ∷ refused (Bid 1 15 1004 0 400 400) 19
    ∷ refused (Bid 1 15 1004 0 5 5) 19
    ∷ accepted (Bid 2 15 1004 1 3 3) 3 3
    ∷ accepted (Bid 1 15 1004 0 3 3) 3 3
    -- long after L
    ∷ accepted (Settle 1 2000000000) 3 0
    ∷ refused (Settle 2 1005) 12
    ∷ accepted (Settle 2 4294967295) 0 3
    ∷ accepted (Claim 2) 3 3
    ∷ accepted (Claim 5) 3 3
    ∷ closed_is 1 true
    ∷ closed_is 2 true
    ∷ refused (Open 3 4294967293 1 0 1) 12
    ∷ refused (Open 3 0 1 0 1) 12
    ∷ accepted (Cancel 2 0) 397 0
    ∷ accepted (Cancel 5 1) 397 0
    -- 1000 - 10 - 20 - 3
    ∷ balance_is 0 0 967
    ∷ balance_is 0 1 3
    ∷ balance_is 1 0 3
    ∷ balance_is 1 2 967
    ∷ balance_is 15 0 3
    ∷ balance_is 15 1 0
    ∷ balance_is 15 2 3
    ∷ []

-- Bounds missed by 1 and by more, up to all there is, and bounds far better than asked. The price is 2; in market 1 makers take base, in market
-- 2 quote.
unfoldable pub far_bounds : List Line
far_bounds =
    accepted (Deposit 1 1 10000000) 10000000 0
    ∷ accepted (Deposit 2 0 10000000) 10000000 0
    ∷ accepted (Deposit 3 0 20000000) 20000000 0
    ∷ accepted (Deposit 3 2 5000000) 5000000 0
    ∷ accepted (Order 0 1 1 1 2000000 10000000) 10000000 0
    ∷ accepted (Order 1 2 2 0 2000000 10000000) 10000000 0
    ∷ accepted (Open 1 0 2000000 0 5) 2000000 2000000
    ∷ accepted (Open 2 0 2000000 0 5) 2000000 2000000
    ∷ accepted (Enter 0) 10000000 0
    ∷ accepted (Enter 1) 10000000 0
    ∷ accepted (Match 1 4) 0 0
    ∷ accepted (Match 2 4) 0 0
    -- 1,000,000 base cost 2,000,000
    ∷ refused (Bid 1 3 4 1 1000000 1999999) 18
    ∷ refused (Bid 1 3 4 1 1000000 1999998) 18
    ∷ refused (Bid 1 3 4 1 1000000 1999000) 18
    ∷ refused (Bid 1 3 4 1 1000000 1000000) 18
    ∷ refused (Bid 1 3 4 1 1000000 1) 18
    ∷ refused (Bid 1 3 4 1 1000000 0) 18
    -- 20,000,000, and 2
    ∷ refused (Bid 1 3 4 1 10000000 1) 18
    ∷ refused (Bid 1 3 4 1 1 0) 18
    ∷ accepted (Bid 1 3 4 1 1000000 2000000) 1000000 2000000
    ∷ accepted (Bid 1 3 4 1 1000000 2000002) 1000000 2000000
    ∷ accepted (Bid 1 3 4 1 1000000 1000000000) 1000000 2000000
    -- and bring 2,000,000
    ∷ refused (Bid 2 3 4 0 1000000 2000001) 18
    ∷ refused (Bid 2 3 4 0 1000000 2000002) 18
    ∷ refused (Bid 2 3 4 0 1000000 2001000) 18
    ∷ refused (Bid 2 3 4 0 1000000 5000000) 18
    ∷ refused (Bid 2 3 4 0 1000000 4294967295) 18
    ∷ refused (Bid 2 3 4 0 1 4294967295) 18
    ∷ refused (Bid 2 3 4 0 1 4) 18
    ∷ accepted (Bid 2 3 4 0 1000000 2000000) 1000000 2000000
    ∷ accepted (Bid 2 3 4 0 1000000 1999998) 1000000 2000000
    ∷ accepted (Bid 2 3 4 0 1000000 1) 1000000 2000000
    -- k 2 and k 5
    ∷ refused (Bid 1 3 6 1 1000000 1000) 18
    ∷ refused (Bid 2 3 6 0 1000000 3000000000) 18
    ∷ accepted (Bid 1 3 6 1 1000000 4294967295) 1000000 2000000
    ∷ accepted (Bid 2 3 6 0 1000000 0) 1000000 2000000
    ∷ refused (Bid 1 3 9 1 1000000 1000) 18
    ∷ refused (Bid 2 3 9 0 1000000 3000000000) 18
    ∷ balance_is 3 0 20000000
    ∷ balance_is 3 1 4000000
    ∷ balance_is 3 2 1000000
    ∷ accepted (Settle 1 10) 0 4000000
    ∷ accepted (Settle 2 10) 8000000 0
    ∷ accepted (Claim 0) 4000000 8000000
    ∷ accepted (Claim 1) 8000000 4000000
    ∷ closed_is 1 true
    ∷ closed_is 2 true
    ∷ balance_is 1 0 8000000
    ∷ balance_is 2 2 4000000
    ∷ residue_is 0 0
    ∷ residue_is 1 0
    ∷ residue_is 2 0
    ∷ []

-- Every block from open to L: a match 0 to 4 blocks after its open, settles and bids at k 0 to 6 of 6. hi 2,750,000, lo 2,250,000, and a
-- million base at a price p is p quote: 500,000 × k / 6 is 83,333.3, 166,666.7, 250,000, 333,333.3, 416,666.7. In market 1 makers take base, in
-- market 2 quote.
unfoldable pub inner_matched : List Line
inner_matched =
    accepted (Deposit 1 1 7500000) 7500000 0
    ∷ accepted (Deposit 2 0 20000000) 20000000 0
    ∷ accepted (Deposit 3 0 17500205) 17500205 0
    ∷ accepted (Deposit 3 2 7000000) 7000000 0
    ∷ accepted (Deposit 4 3 5) 5 0
    ∷ accepted (Order 0 1 1 1 2250000 7500000) 7500000 0
    ∷ accepted (Order 1 2 2 0 2750000 20000000) 20000000 0
    ∷ accepted (Order 2 4 3 1 1000000 5) 5 0
    ∷ accepted (Open 1 10 2500000 100000 6) 2750000 2250000
    ∷ accepted (Open 2 10 2500000 100000 6) 2750000 2250000
    ∷ accepted (Open 3 10 1000000 0 64) 1000000 1000000
    ∷ accepted (Enter 0) 7500000 0
    ∷ accepted (Enter 1) 20000000 0
    ∷ accepted (Enter 2) 5 0
    ∷ refused (Match 1 10) 13
    ∷ refused (Match 1 11) 13
    ∷ refused (Match 1 12) 13
    ∷ refused (Match 1 13) 13
    ∷ refused (Match 2 11) 13
    ∷ refused (Match 3 12) 13
    ∷ accepted (Match 1 14) 0 0
    ∷ accepted (Match 2 14) 0 0
    ∷ refused (Settle 1 14) 13
    ∷ refused (Settle 1 15) 13
    ∷ refused (Settle 1 16) 13
    ∷ refused (Settle 1 17) 13
    ∷ refused (Settle 1 18) 13
    ∷ refused (Settle 1 19) 13
    ∷ refused (Settle 1 20) 13
    ∷ refused (Settle 2 14) 13
    ∷ refused (Settle 2 15) 13
    ∷ refused (Settle 2 16) 13
    ∷ refused (Settle 2 17) 13
    ∷ refused (Settle 2 18) 13
    ∷ refused (Settle 2 19) 13
    ∷ refused (Settle 2 20) 13
    ∷ []

unfoldable pub inner_settled : List Line
inner_settled =
    accepted (Bid 1 3 14 1 1000000 4294967295) 1000000 2750000
    ∷ accepted (Bid 2 3 14 0 1000000 0) 1000000 2250000
    -- 2,666,667 up and 2,333,333 down to the hundred
    ∷ accepted (Bid 1 3 15 1 1000000 4294967295) 1000000 2666700
    ∷ accepted (Bid 2 3 15 0 1000000 0) 1000000 2333300
    -- 2,583,334 and 2,416,666
    ∷ accepted (Bid 1 3 16 1 1000000 4294967295) 1000000 2583400
    ∷ accepted (Bid 2 3 16 0 1000000 0) 1000000 2416600
    ∷ accepted (Bid 1 3 17 1 1000000 4294967295) 1000000 2500000
    ∷ accepted (Bid 2 3 17 0 1000000 0) 1000000 2500000
    ∷ refused (Settle 1 17) 13
    ∷ refused (Settle 2 18) 13
    -- 2,416,667 and 2,583,333
    ∷ accepted (Bid 1 3 18 1 1000000 4294967295) 1000000 2416700
    ∷ accepted (Bid 2 3 18 0 1000000 0) 1000000 2583300
    -- 2,333,334 and 2,666,666
    ∷ accepted (Bid 1 3 19 1 1000000 4294967295) 1000000 2333400
    ∷ accepted (Bid 2 3 19 0 1000000 0) 1000000 2666600
    ∷ accepted (Bid 1 3 20 1 1000000 4294967295) 1000000 2250000
    ∷ accepted (Bid 2 3 20 0 1000000 0) 1000000 2750000
    -- 500,000 base left; of 20,000,000 quote 17,499,800 are taken
    ∷ refused (Settle 1 20) 13
    ∷ refused (Settle 2 20) 13
    ∷ accepted (Settle 1 21) 0 7000000
    ∷ accepted (Settle 2 21) 17499800 0
    -- the maker paid 17,500,200
    ∷ balance_is 3 0 17499805
    ∷ balance_is 3 1 7000000
    ∷ balance_is 3 2 0
    ∷ accepted (Claim 0) 7000000 17500200
    ∷ accepted (Claim 1) 17499800 7000000
    -- long after its open; k 31 takes all, and k 32 of 64 settles
    ∷ accepted (Match 3 1000000) 0 0
    ∷ refused (Settle 3 1000001) 13
    ∷ refused (Settle 3 1000032) 13
    ∷ refused (Settle 3 1000063) 13
    ∷ accepted (Bid 3 3 1000031 1 5 5) 5 5
    ∷ accepted (Settle 3 1000032) 0 5
    ∷ accepted (Claim 2) 5 5
    ∷ closed_is 1 true
    ∷ closed_is 2 true
    ∷ closed_is 3 true
    ∷ residue_is 0 0
    ∷ residue_is 1 0
    ∷ residue_is 2 0
    ∷ residue_is 3 0
    ∷ balance_is 4 0 5
    ∷ []

abbrev pub inner_blocks : List Line
inner_blocks = inner_matched ++ inner_settled

-- Members near an owner and far from it, below and above, cancel and leave: 8 while the ticket rests, in its round while that collects, in
-- auction and paying. Owners 2, 15 and 0.
unfoldable pub strangers : List Line
strangers =
    accepted (Deposit 2 0 100) 100 0
    ∷ accepted (Deposit 15 1 100) 100 0
    ∷ accepted (Deposit 0 0 100) 100 0
    ∷ accepted (Order 0 2 1 0 1000000 60) 60 0
    ∷ accepted (Order 1 15 1 1 1000000 50) 50 0
    ∷ accepted (Order 2 0 1 0 1000000 40) 40 0
    ∷ refused (Cancel 0 0) 8
    ∷ refused (Cancel 0 1) 8
    ∷ refused (Cancel 0 3) 8
    ∷ refused (Cancel 0 9) 8
    ∷ refused (Cancel 0 15) 8
    ∷ refused (Cancel 1 0) 8
    ∷ refused (Cancel 1 7) 8
    ∷ refused (Cancel 1 14) 8
    ∷ refused (Cancel 2 1) 8
    ∷ refused (Cancel 2 8) 8
    ∷ refused (Cancel 2 15) 8
    ∷ accepted (Open 1 0 1000000 0 1) 1000000 1000000
    ∷ accepted (Enter 0) 60 0
    ∷ accepted (Enter 1) 50 0
    ∷ accepted (Enter 2) 100 0
    ∷ refused (Cancel 0 9) 8
    ∷ refused (Cancel 1 0) 8
    ∷ refused (Leave 0 0) 8
    ∷ refused (Leave 0 1) 8
    ∷ refused (Leave 0 3) 8
    ∷ refused (Leave 0 9) 8
    ∷ refused (Leave 0 15) 8
    ∷ refused (Leave 1 0) 8
    ∷ refused (Leave 1 7) 8
    ∷ refused (Leave 1 14) 8
    ∷ refused (Leave 2 1) 8
    ∷ refused (Leave 2 8) 8
    ∷ refused (Leave 2 15) 8
    ∷ accepted (Leave 2 0) 40 0
    -- it rests again
    ∷ refused (Leave 2 8) 8
    ∷ refused (Cancel 2 8) 8
    ∷ refused (Cancel 2 15) 8
    ∷ accepted (Cancel 2 0) 40 0
    ∷ accepted (Match 1 4) 50 50
    ∷ refused (Leave 0 9) 8
    ∷ refused (Cancel 1 0) 8
    ∷ accepted (Settle 1 6) 50 50
    ∷ refused (Leave 0 15) 8
    ∷ refused (Cancel 1 7) 8
    ∷ accepted (Claim 0) 50 50
    ∷ accepted (Claim 1) 50 50
    ∷ refused (Cancel 0 0) 8
    ∷ refused (Cancel 0 9) 8
    ∷ refused (Cancel 0 15) 8
    ∷ accepted (Cancel 0 2) 10 0
    ∷ balance_is 2 0 50
    ∷ balance_is 2 1 50
    ∷ balance_is 15 0 50
    ∷ balance_is 15 1 50
    ∷ balance_is 0 0 100
    ∷ balance_is 9 0 0
    ∷ []

-- Auctions whose start + L is 4,294,967,295 (market 1), 4,294,967,349 (market 2) and, matched at the last block, 4,294,967,296 (market 3). At
-- the last block makers still bid, and a round is settled once nothing is left, and not before.
unfoldable pub endless_auctions : List Line
endless_auctions =
    accepted (Deposit 1 1 10) 10 0
    ∷ accepted (Deposit 2 0 1000003) 1000003 0
    ∷ accepted (Deposit 4 3 5) 5 0
    ∷ accepted (Deposit 3 0 12) 12 0
    ∷ accepted (Deposit 3 2 1600000) 1600000 0
    ∷ accepted (Order 0 1 1 1 1000000 10) 10 0
    ∷ accepted (Order 1 2 2 0 1500000 1000000) 1000000 0
    ∷ accepted (Order 2 4 3 1 1000000 5) 5 0
    ∷ accepted (Order 3 2 3 0 1000000 3) 3 0
    ∷ accepted (Open 1 4294967280 1000000 0 11) 1000000 1000000
    ∷ accepted (Open 2 4294967280 1000000 500000 64) 1500000 500000
    ∷ accepted (Enter 0) 10 0
    ∷ accepted (Enter 1) 1000000 0
    ∷ accepted (Match 1 4294967284) 0 0
    ∷ accepted (Match 2 4294967285) 0 0
    ∷ accepted (Open 3 4294967291 1000000 0 1) 1000000 1000000
    ∷ accepted (Enter 2) 5 0
    ∷ accepted (Enter 3) 3 0
    ∷ refused (Match 3 4294967294) 13
    -- k 10
    ∷ accepted (Bid 1 3 4294967294 1 2 2) 2 2
    ∷ refused (Settle 1 4294967294) 13
    ∷ refused (Settle 1 4294967295) 13
    ∷ refused (Settle 2 4294967295) 13
    -- k 11 = L
    ∷ accepted (Bid 1 3 4294967295 1 3 3) 3 3
    ∷ refused (Bid 1 3 4294967294 1 1 1) 12
    ∷ refused (Settle 1 4294967294) 12
    ∷ refused (Match 3 4294967294) 12
    ∷ refused (Settle 1 4294967295) 13
    -- k 10 of 64: 500,000 + 156,250, down to 656,200
    ∷ refused (Bid 2 3 4294967295 0 1000000 656201) 18
    ∷ accepted (Bid 2 3 4294967295 0 1000000 656200) 1000000 656200
    ∷ refused (Settle 2 4294967295) 13
    -- 343,800 left: 523,928 × 0.6562 is 343,801.6, 523,926 × 0.6562 is 343,800.2
    ∷ refused (Bid 2 3 4294967295 0 523928 0) 17
    ∷ accepted (Bid 2 3 4294967295 0 523926 343800) 523926 343800
    ∷ accepted (Settle 2 4294967295) 1000000 0
    -- k 0
    ∷ accepted (Match 3 4294967295) 3 3
    ∷ refused (Settle 3 4294967295) 13
    ∷ accepted (Bid 3 3 4294967295 1 1 1) 1 1
    ∷ refused (Settle 3 4294967295) 13
    ∷ refused (Bid 3 3 4294967295 1 2 2) 17
    ∷ accepted (Bid 3 3 4294967295 1 1 1) 1 1
    ∷ accepted (Settle 3 4294967295) 3 5
    ∷ refused (Settle 1 4294967295) 13
    ∷ accepted (Bid 1 3 4294967295 1 5 5) 5 5
    ∷ accepted (Settle 1 4294967295) 0 10
    ∷ accepted (Claim 0) 10 10
    ∷ accepted (Claim 1) 1000000 1523926
    ∷ accepted (Claim 2) 5 5
    ∷ accepted (Claim 3) 3 3
    ∷ closed_is 1 true
    ∷ closed_is 2 true
    ∷ closed_is 3 true
    ∷ balance_is 1 0 10
    ∷ balance_is 2 0 0
    ∷ balance_is 2 2 1523926
    ∷ balance_is 2 3 3
    ∷ balance_is 3 0 1000000
    ∷ balance_is 3 1 10
    ∷ balance_is 3 2 76074
    ∷ balance_is 3 3 2
    ∷ balance_is 4 0 5
    ∷ residue_is 0 0
    ∷ residue_is 2 0
    ∷ []

-- ---- the largest amounts

-- All quote and all base of market 1 in its rounds, at a price of 1.
unfoldable pub largest_settled : List Line
largest_settled =
    accepted (Deposit 0 0 4294967295) 4294967295 0
    ∷ accepted (Deposit 1 1 4294967295) 4294967295 0
    ∷ accepted (Order 0 0 1 0 1000000 4294967290) 4294967290 0
    ∷ accepted (Order 1 0 1 0 1000000 5) 5 0
    ∷ accepted (Order 2 1 1 1 1000000 4294967295) 4294967295 0
    ∷ accepted (Open 1 0 1000000 0 1) 1000000 1000000
    ∷ accepted (Enter 0) 4294967290 0
    ∷ accepted (Enter 1) 4294967295 0
    ∷ accepted (Enter 2) 4294967295 0
    ∷ accepted (Match 1 4) 4294967295 4294967295
    ∷ accepted (Settle 1 4) 4294967295 4294967295
    ∷ []

-- Its claims, and two more rounds, in which a little less is matched each time.
unfoldable pub largest_paid : List Line
largest_paid =
    accepted (Claim 0) 4294967290 4294967290
    ∷ accepted (Claim 2) 4294967295 4294967295
    ∷ balance_is 1 0 4294967295
    ∷ accepted (Claim 1) 5 5
    ∷ balance_is 0 1 4294967295
    ∷ residue_is 0 0
    ∷ residue_is 1 0
    ∷ closed_is 1 true
    -- the other way round, and 2 base less
    ∷ accepted (Order 0 0 1 1 1000000 4294967293) 4294967293 0
    ∷ accepted (Order 1 1 1 0 1000000 4294967290) 4294967290 0
    ∷ accepted (Order 2 1 1 0 1000000 5) 5 0
    ∷ accepted (Open 1 4 1000000 0 1) 1000000 1000000
    ∷ accepted (Enter 0) 4294967293 0
    ∷ accepted (Enter 1) 4294967290 0
    ∷ accepted (Enter 2) 4294967295 0
    ∷ accepted (Match 1 8) 4294967293 4294967293
    ∷ refused (Settle 1 9) 13
    ∷ accepted (Settle 1 10) 4294967293 4294967293
    -- T 4,294,967,295, P and G 2 less: of 4,294,967,290 just above 4,294,967,288, of 5 just below 5
    ∷ accepted (Claim 1) 4294967289 4294967288
    ∷ accepted (Claim 2) 5 4
    ∷ accepted (Claim 0) 4294967293 4294967293
    ∷ residue_is 0 1
    ∷ residue_is 1 1
    ∷ balance_is 0 0 4294967293
    ∷ balance_is 1 1 4294967292
    ∷ supply_is 0 4294967295
    ∷ supply_is 1 4294967295
    -- 4,294,967,291 quote and 4,294,967,292 base; a maker takes the one base left
    ∷ accepted (Order 2 0 1 0 1000000 4294967291) 4294967291 0
    ∷ accepted (Order 3 1 1 1 1000000 4294967292) 4294967292 0
    ∷ accepted (Open 1 10 1000000 0 1) 1000000 1000000
    ∷ accepted (Enter 2) 4294967291 0
    ∷ accepted (Enter 3) 4294967292 0
    ∷ accepted (Match 1 14) 4294967291 4294967291
    ∷ accepted (Bid 1 0 14 1 1 1) 1 1
    ∷ accepted (Settle 1 14) 4294967291 4294967292
    ∷ accepted (Claim 2) 4294967291 4294967291
    ∷ accepted (Claim 3) 4294967292 4294967292
    ∷ residue_is 0 1
    ∷ residue_is 1 1
    -- 4,294,967,293 - 4,294,967,291 - 1 quote; 2 + 1 + 4,294,967,291 base
    ∷ balance_is 0 0 1
    ∷ balance_is 0 1 4294967294
    ∷ balance_is 1 0 4294967292
    ∷ []

abbrev pub largest_matches : List Line
largest_matches = largest_settled ++ largest_paid

-- The largest amounts at other prices: quote that fetches more base than there can be, and less, at 0.000003; and at 1000.
unfoldable pub largest_rates : List Line
largest_rates =
    accepted (Deposit 0 0 4294967295) 4294967295 0
    ∷ accepted (Deposit 1 1 4294967295) 4294967295 0
    ∷ accepted (Deposit 1 2 4294967294) 4294967294 0
    ∷ accepted (Deposit 1 3 4294967295) 4294967295 0
    ∷ accepted (Order 0 0 1 0 1000000000 4294941526) 4294941526 0
    ∷ accepted (Order 1 1 1 1 1000000000 4294967295) 4294967295 0
    ∷ accepted (Order 2 0 2 0 4 12885) 12885 0
    ∷ accepted (Order 3 1 2 1 2 4294967294) 4294967294 0
    ∷ accepted (Order 4 0 3 0 4 12884) 12884 0
    ∷ accepted (Order 5 1 3 1 2 4294967295) 4294967295 0
    ∷ accepted (Open 1 0 1000000000 0 1) 1000000000 1000000000
    ∷ accepted (Open 2 0 3 500000 1) 4 2
    ∷ accepted (Open 3 0 3 500000 1) 4 2
    ∷ accepted (Enter 0) 4294941526 0
    ∷ accepted (Enter 1) 4294967295 0
    ∷ accepted (Enter 2) 12885 0
    ∷ accepted (Enter 3) 4294967294 0
    ∷ accepted (Enter 4) 12884 0
    ∷ accepted (Enter 5) 4294967295 0
    -- 4,294,941.526 base, down; × 1000
    ∷ accepted (Match 1 4) 4294941 4294941000
    -- 12,885 fetch 4,295,000,000, so all base; 12,884.9 up
    ∷ accepted (Match 2 4) 4294967294 12885
    -- 12,884 fetch 4,294,666,666.7; 12,883.999998 up
    ∷ accepted (Match 3 4) 4294666666 12884
    ∷ accepted (Settle 2 4) 12885 4294967294
    ∷ refused (Settle 1 5) 13
    ∷ refused (Settle 3 5) 13
    ∷ accepted (Settle 1 6) 4294941000 4294941
    ∷ accepted (Settle 3 6) 12884 4294666666
    ∷ accepted (Claim 0) 4294941000 4294941
    ∷ accepted (Claim 1) 4294941 4294941000
    ∷ accepted (Claim 2) 12885 4294967294
    ∷ accepted (Claim 3) 4294967294 12885
    ∷ accepted (Claim 4) 12884 4294666666
    ∷ accepted (Claim 5) 4294666666 12884
    ∷ accepted (Cancel 0 0) 526 0
    ∷ accepted (Cancel 1 1) 4290672354 0
    ∷ accepted (Cancel 5 1) 300629 0
    ∷ refused (Cancel 3 1) 8
    ∷ balance_is 0 0 526
    ∷ balance_is 0 2 4294967294
    ∷ balance_is 0 3 4294666666
    ∷ balance_is 1 0 4294966769
    ∷ residue_is 0 0
    ∷ []

-- Bids for all base and for all quote, at a price of 1: at once, and first for all but a unit.
unfoldable pub largest_bids : List Line
largest_bids =
    accepted (Deposit 1 1 4294967295) 4294967295 0
    ∷ accepted (Deposit 3 0 4294967295) 4294967295 0
    ∷ accepted (Order 0 1 1 1 1000000 4294967295) 4294967295 0
    ∷ accepted (Open 1 0 1000000 0 1) 1000000 1000000
    ∷ accepted (Enter 0) 4294967295 0
    ∷ accepted (Match 1 4) 0 0
    ∷ refused (Bid 1 3 4 1 4294967295 4294967294) 18
    ∷ accepted (Bid 1 3 4 1 4294967295 4294967295) 4294967295 4294967295
    ∷ balance_is 3 0 0
    ∷ balance_is 3 1 4294967295
    ∷ accepted (Settle 1 4) 0 4294967295
    ∷ accepted (Claim 0) 4294967295 4294967295
    ∷ balance_is 1 0 4294967295
    -- quote: 4,294,967,294 and then 1
    ∷ accepted (Order 0 1 1 0 1000000 4294967295) 4294967295 0
    ∷ accepted (Open 1 4 1000000 0 1) 1000000 1000000
    ∷ accepted (Enter 0) 4294967295 0
    ∷ accepted (Match 1 8) 0 0
    ∷ refused (Bid 1 3 8 0 4294967294 4294967295) 18
    ∷ accepted (Bid 1 3 8 0 4294967294 4294967294) 4294967294 4294967294
    ∷ refused (Settle 1 8) 13
    ∷ accepted (Bid 1 3 8 0 1 1) 1 1
    ∷ accepted (Settle 1 8) 4294967295 0
    ∷ accepted (Claim 0) 4294967295 4294967295
    ∷ balance_is 3 0 4294967295
    ∷ balance_is 1 1 4294967295
    -- base: 4,294,967,294 and then 1
    ∷ accepted (Order 63 1 1 1 1 4294967295) 4294967295 0
    ∷ accepted (Open 1 8 1000000 0 1) 1000000 1000000
    ∷ accepted (Enter 63) 4294967295 0
    ∷ accepted (Match 1 12) 0 0
    ∷ accepted (Bid 1 3 12 1 4294967294 4294967295) 4294967294 4294967294
    ∷ balance_is 3 0 1
    ∷ refused (Bid 1 3 12 1 2 4294967295) 17
    ∷ accepted (Bid 1 3 12 1 1 1) 1 1
    ∷ accepted (Settle 1 12) 0 4294967295
    ∷ accepted (Claim 63) 4294967295 4294967295
    -- all quote at once
    ∷ accepted (Order 0 1 1 0 2000000000 4294967295) 4294967295 0
    ∷ accepted (Open 1 12 1000000 0 1) 1000000 1000000
    ∷ accepted (Enter 0) 4294967295 0
    ∷ accepted (Match 1 16) 0 0
    ∷ accepted (Bid 1 3 16 0 4294967295 4294967295) 4294967295 4294967295
    ∷ accepted (Settle 1 16) 4294967295 0
    ∷ accepted (Claim 0) 4294967295 4294967295
    ∷ balance_is 3 0 4294967295
    ∷ balance_is 3 1 0
    ∷ balance_is 1 1 4294967295
    ∷ residue_is 0 0
    ∷ residue_is 1 0
    ∷ []

-- Quotes around 4,294,967,295 at a price of 1.000001: above every number they are 18 for side 1 and 17 for side 0.
unfoldable pub largest_quotes : List Line
largest_quotes =
    accepted (Deposit 1 1 4294967295) 4294967295 0
    ∷ accepted (Deposit 3 0 4294967295) 4294967295 0
    ∷ accepted (Order 0 1 1 1 1000001 4294967295) 4294967295 0
    ∷ accepted (Open 1 0 1000001 0 1) 1000001 1000001
    ∷ accepted (Enter 0) 4294967295 0
    ∷ accepted (Match 1 4) 0 0
    -- 4,294,971,589.97 and 4,294,967,295.963, up 4,294,967,296
    ∷ refused (Bid 1 3 4 1 4294967295 4294967295) 18
    ∷ refused (Bid 1 3 4 1 4294963001 4294967295) 18
    -- 4,294,967,294.963, up
    ∷ refused (Bid 1 3 4 1 4294963000 4294967294) 18
    ∷ accepted (Bid 1 3 4 1 4294963000 4294967295) 4294963000 4294967295
    ∷ refused (Settle 1 5) 13
    ∷ accepted (Settle 1 6) 0 4294963000
    ∷ accepted (Claim 0) 4294963000 4294967295
    ∷ accepted (Cancel 0 1) 4295 0
    ∷ accepted (Order 0 1 1 0 1000001 4294967295) 4294967295 0
    ∷ accepted (Open 1 6 1000001 0 1) 1000001 1000001
    ∷ accepted (Enter 0) 4294967295 0
    ∷ accepted (Match 1 10) 0 0
    -- 4,294,971,589.97 and 4,294,967,296.963, down
    ∷ refused (Bid 1 3 10 0 4294967295 0) 17
    ∷ refused (Bid 1 3 10 0 4294963002 0) 17
    -- 4,294,967,295.963, down: a base more than the maker has
    ∷ refused (Bid 1 3 10 0 4294963001 4294967295) 19
    -- 4,294,967,294.963, down
    ∷ refused (Bid 1 3 10 0 4294963000 4294967295) 18
    ∷ accepted (Bid 1 3 10 0 4294963000 4294967294) 4294963000 4294967294
    ∷ balance_is 3 0 4294967294
    ∷ refused (Settle 1 11) 13
    ∷ accepted (Settle 1 12) 4294967294 0
    ∷ accepted (Claim 0) 4294967294 4294963000
    ∷ balance_is 1 1 4294967295
    ∷ accepted (Cancel 0 1) 1 0
    -- 1,431,655,765 at 3 match all quote
    ∷ accepted (Order 1 3 1 0 3000000 4294967294) 4294967294 0
    ∷ accepted (Order 2 1 1 0 3000000 1) 1 0
    ∷ accepted (Order 3 1 1 1 3000000 4294967295) 4294967295 0
    ∷ accepted (Open 1 12 3000000 0 64) 3000000 3000000
    ∷ accepted (Enter 1) 4294967294 0
    ∷ accepted (Enter 2) 4294967295 0
    ∷ accepted (Enter 3) 4294967295 0
    ∷ accepted (Match 1 16) 1431655765 4294967295
    ∷ accepted (Settle 1 81) 4294967295 1431655765
    -- T and P 4,294,967,295, G 1,431,655,765: a third of all but 1 is 1,431,655,764.7, and of 1 it is 0.3
    ∷ accepted (Claim 1) 4294967294 1431655764
    ∷ accepted (Claim 2) 1 0
    ∷ accepted (Claim 3) 1431655765 4294967295
    ∷ residue_is 0 0
    ∷ residue_is 1 1
    ∷ balance_is 1 0 4294967295
    ∷ accepted (Cancel 3 1) 2863311530 0
    ∷ []

-- ---- all of them

unfoldable pub examples : List (List Line)
examples =
    balances_moved
    ∷ orders_rested
    ∷ collected
    ∷ base_sold
    ∷ quote_sold
    ∷ two_rounds
    ∷ both_sides_sold
    ∷ nothing_sold
    ∷ three_sells
    ∷ matches_bounded
    ∷ matches_lowered
    ∷ quote_of_nothing
    ∷ prices_stepped
    ∷ auctions_still
    ∷ late_matches
    ∷ last_places
    ∷ (last_blocks ++ last_settle)
    ∷ supply_full
    ∷ tickets_left
    ∷ left_empty
    ∷ left_and_paid
    ∷ far_fields
    ∷ far_missed
    ∷ far_bounds
    ∷ inner_blocks
    ∷ strangers
    ∷ endless_auctions
    ∷ largest_matches
    ∷ largest_rates
    ∷ largest_bids
    ∷ largest_quotes
    ∷ []

-- ---- the numbers of a whole run on the two rounds

-- market 1's second round is settled here
abbrev pub second_settled : List Call
second_settled = calls_of (first_round ++ second_round)

-- a token's balances, resting offers, what rounds hold, residue, withdrawals, deposits
unfoldable pub two_rounds_accounts : List Accounts
two_rounds_accounts =
    -- the round holds 842 - 9 quote and 70 + 3 base
    accounts second_settled 0 216 0 833 1 0 1050
    ∷ accounts second_settled 1 106 0 73 1 0 180
    ∷ accounts (calls_of two_rounds) 0 1048 0 0 2 0 1050
    ∷ accounts (calls_of two_rounds) 1 178 0 0 2 0 180
    ∷ []

-- and with tickets that left: they rest, and the round holds the 35 and the 90 + 8 of those that stayed; at its end it put 1 and 1 into the
-- residue
unfoldable pub left_accounts : List Accounts
left_accounts =
    accounts (calls_of sells_left) 0 105 240 35 0 0 380
    ∷ accounts (calls_of sells_left) 3 32 170 98 0 0 300
    ∷ accounts (calls_of left_and_paid) 0 379 0 0 1 0 380
    ∷ accounts (calls_of left_and_paid) 3 299 0 0 1 0 300
    ∷ []

-- and with all there can be of both tokens in a round, and paid out: the 1 and the 4,294,967,292 of two members, and a ticket's 1
unfoldable pub largest_accounts : List Accounts
largest_accounts =
    accounts (calls_of largest_settled) 0 0 0 4294967295 0 0 4294967295
    ∷ accounts (calls_of largest_settled) 1 0 0 4294967295 0 0 4294967295
    ∷ accounts (calls_of largest_matches) 0 4294967293 1 0 1 0 4294967295
    ∷ accounts (calls_of largest_matches) 1 4294967294 0 0 1 0 4294967295
    ∷ []

-- ---- what the examples cover

-- the line is a call of this kind with this code
abbrev pub shows : (kind code : ℕ) → Line → Bool
shows kind code (accepted c a b) = eqb (kind_of c) kind && eqb code 0
shows kind code (refused c n) = eqb (kind_of c) kind && eqb code n
shows kind code (balance_is m t n) = false
shows kind code (supply_is t n) = false
shows kind code (residue_is t n) = false
shows kind code (closed_is m b) = false

unfoldable pub shown_in : List Line → (kind code : ℕ) → Bool
shown_in [] kind code = false
shown_in (l ∷ ls) kind code = shows kind code l || shown_in ls kind code

unfoldable pub shown : List (List Line) → (kind code : ℕ) → Bool
shown [] kind code = false
shown (ls ∷ lss) kind code = shown_in ls kind code || shown lss kind code

unfoldable pub all_shown : List (List Line) → ℕ → List ℕ → Bool
all_shown lss kind [] = true
all_shown lss kind (n ∷ ns) = shown lss kind n && all_shown lss kind ns

-- every kind is shown with 0 and with each code that it tests
unfoldable pub covers : List (List Line) → List Kind → Bool
covers lss [] = true
covers lss (k ∷ ks) = all_shown lss k.number (0 ∷ k.codes) && covers lss ks
