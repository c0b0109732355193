-- What history says of given runs, in numbers: every claim that was paid, and every round, with its tickets, its sums and what it holds.
use Rattle.std.specs.Prelude.{ℕ, List, [], ◌∷◌, ◌++◌, map, replicate}
use Rattle.pricing.specs.declared.Side.{Side}
use Rattle.pricing.specs.declared.Side.TheVariants.{Buy, Sell}
use Rattle.model.specs.declared.state.Ticket.{Ticket}
use Rattle.model.specs.declared.state.TicketState.TheVariants.{Resting}
use Rattle.model.specs.declared.state.Exchange.{Exchange}
use Rattle.model.specs.declared.call.Call.{Call}
use Rattle.model.specs.State.{balance, residue, fresh_exchange}
use Rattle.model.specs.Submissions.{model_engine, state_after}
use Rattle.model.specs.declared.call.Call.TheVariants.{Deposit, Order, Settle, Claim}
use Rattle.model.specs.History.{waiting, claimed, Stage, collecting, auctioning, settled, RoundLog, empty_log, set_part, with_bid, T, P, G, ticket_count, waiting_count, Current, idle, running, Payout, EndedRound, History}
use Rattle.model.specs.WholeRun.{balances, resting, in_rounds, holds_of}
use Rattle.model.specs.Scripts.{calls_of, requests, history_after}
use Rattle.model.specs.Day.{until_match, until_settle, day}
use Rattle.model.specs.Edges.{three_buys}
use Rattle.cases.specs.Examples.{second_settled, two_rounds, late_matches, last_places_ended, last_places_settled, last_places, sells_left, left_and_paid}
use Rattle.cases.specs.Literals.{order, terms, payout}

-- ---- the numbers

-- T, P and G of a side
pub record SideNumbers : Type 0 where
  pub t : ℕ
  pub p : ℕ
  pub g : ℕ

abbrev pub sums : (t p g : ℕ) → SideNumbers
sums t p g = record { t = t; p = p; g = g }

-- a round: its market and stage, how many tickets it has and how many of them wait, m and c, the sums of its buys and of its sells, and what it
-- holds of tokens 0 to 3, which it puts into the residue where it has ended
pub record RoundNumbers : Type 0 where
  pub market : ℕ
  pub stage : Stage
  pub tickets : ℕ
  pub unclaimed : ℕ
  pub m : ℕ
  pub c : ℕ
  pub buys : SideNumbers
  pub sells : SideNumbers
  pub holds : List ℕ

abbrev pub round : (market : ℕ) → Stage → (tickets unclaimed m c : ℕ) → (buys sells : SideNumbers) → List ℕ → RoundNumbers
round market stage tickets unclaimed m c buys sells holds =
    record { market = market; stage = stage; tickets = tickets; unclaimed = unclaimed; m = m; c = c; buys = buys; sells = sells; holds = holds }

-- what history says of a round
abbrev pub sums_in : RoundLog → Side → SideNumbers
sums_in b side = sums (T b side) (P b side) (G b side)

abbrev pub numbers_in : ℕ → RoundLog → RoundNumbers
numbers_in n b =
    round n b.stage (ticket_count b) (waiting_count b) b.m b.c (sums_in b Buy) (sums_in b Sell)
    (holds_of n b 0 ∷ holds_of n b 1 ∷ holds_of n b 2 ∷ holds_of n b 3 ∷ [])

abbrev pub numbers_running : ℕ → Current → List RoundNumbers
numbers_running n idle = []
numbers_running n (running b) = numbers_in n b ∷ []

-- of a token: all balances, resting offers, what rounds hold, residue, withdrawals, deposits
pub record TokenNumbers : Type 0 where
  pub token : ℕ
  pub balances : ℕ
  pub resting : ℕ
  pub rounds : ℕ
  pub residue : ℕ
  pub withdrawn : ℕ
  pub deposited : ℕ

abbrev pub token_numbers : (token balances resting rounds residue withdrawn deposited : ℕ) → TokenNumbers
token_numbers t b o r n w d =
    record { token = t; balances = b; resting = o; rounds = r; residue = n; withdrawn = w; deposited = d }

abbrev pub token_in : Exchange → History → ℕ → TokenNumbers
token_in x y t = token_numbers t (balances x t) (resting x t) (in_rounds y t) (residue x t) (y.withdrawn t) (y.deposited t)

-- of a member and token: the balance, what calls brought to it and what they took from it
pub record MemberNumbers : Type 0 where
  pub member : ℕ
  pub token : ℕ
  pub balance : ℕ
  pub credits : ℕ
  pub debits : ℕ

abbrev pub member_numbers : (member token balance credits debits : ℕ) → MemberNumbers
member_numbers m t b c d = record { member = m; token = t; balance = b; credits = c; debits = d }

abbrev pub member_in : Exchange → History → ℕ → ℕ → MemberNumbers
member_in x y m t = member_numbers m t (balance x m t) (y.credits m t) (y.debits m t)

-- after a list of calls: the claims, the rounds that ended, both the latest first, the rounds that run, by market; and some tokens and members
pub record Past : Type 0 where
  pub calls : List Call
  pub payouts : List Payout
  pub ended : List RoundNumbers
  pub runs : List RoundNumbers
  pub tokens : List TokenNumbers
  pub members : List MemberNumbers

abbrev pub past_with : List Call → List Payout → (ended runs : List RoundNumbers) → List TokenNumbers → List MemberNumbers → Past
past_with cs payouts ended runs tokens members =
    record { calls = cs; payouts = payouts; ended = ended; runs = runs; tokens = tokens; members = members }

abbrev pub past : List Call → List Payout → (ended runs : List RoundNumbers) → Past
past cs payouts ended runs = past_with cs payouts ended runs [] []

abbrev pub past_as : Past → Exchange → History → Past
past_as p x y =
    past_with p.calls y.payouts (map (λ (e : EndedRound). numbers_in e.market e.log) y.ended)
    (numbers_running 1 (y.rounds 1) ++ numbers_running 2 (y.rounds 2) ++ numbers_running 3 (y.rounds 3))
    (map (λ (t : TokenNumbers). token_in x y t.token) p.tokens)
    (map (λ (m : MemberNumbers). member_in x y m.member m.token) p.members)

unfoldable pub worked_past : Past → Past
worked_past p = past_as p (state_after model_engine fresh_exchange (requests p.calls)) (history_after p.calls)

-- ---- the runs

unfoldable pub pasts : List Past
pasts =
    -- the day: Q 600, S 300; the bid of 60 for 150; lines 12 and 13
    past until_match [] [] (round 1 auctioning 2 2 240 600 (sums 600 600 240) (sums 300 240 600) (600 ∷ 300 ∷ 0 ∷ 0 ∷ []) ∷ [])
    ∷ past until_settle [] [] (round 1 settled 2 2 240 600 (sums 600 600 240) (sums 300 300 750) (750 ∷ 240 ∷ 0 ∷ 0 ∷ []) ∷ [])
    ∷ past (until_settle ++ (Claim 0 ∷ [])) (payout 0 Buy 3000000 600 240 ∷ []) []
    (round 1 settled 2 1 240 600 (sums 600 600 240) (sums 300 300 750) (750 ∷ 0 ∷ 0 ∷ 0 ∷ []) ∷ [])
    ∷ past day (payout 1 Sell 2000000 300 750 ∷ payout 0 Buy 3000000 600 240 ∷ [])
    (round 1 settled 2 0 240 600 (sums 600 600 240) (sums 300 300 750) (0 ∷ 0 ∷ 0 ∷ 0 ∷ []) ∷ []) []
    -- "Offers 100, 100, 101 (T 301), P 200, G 80: paid 67, 67, 68; got 26 each; this buy side leaves the tray 2 quote, 2 base."
    ∷ past (three_buys ++ (Settle 1 25 ∷ Claim 0 ∷ Claim 2 ∷ [])) (payout 0 Buy 2500000 68 26 ∷ payout 0 Buy 2500000 67 26 ∷ []) []
    (round 1 settled 4 2 80 200 (sums 301 200 80) (sums 80 80 200) (235 ∷ 28 ∷ 0 ∷ 0 ∷ []) ∷ [])
    ∷ past (three_buys ++ (Settle 1 25 ∷ Claim 0 ∷ Claim 1 ∷ Claim 2 ∷ Claim 3 ∷ []))
    (payout 1 Sell 2500000 80 200 ∷ payout 0 Buy 2500000 68 26 ∷ payout 0 Buy 2500000 67 26 ∷ payout 0 Buy 2500000 67 26 ∷ [])
    (round 1 settled 4 0 80 200 (sums 301 200 80) (sums 80 80 200) (2 ∷ 2 ∷ 0 ∷ 0 ∷ []) ∷ []) []
    -- two rounds in a row: in the second ticket 5 offers the 809 that it has left, and makers give 3 base for 9
    ∷ past second_settled (payout 2 Buy 2999999 10 4 ∷ payout 1 Sell 1500000 100 200 ∷ payout 0 Buy 3000000 191 95 ∷ [])
    (round 1 settled 3 0 100 200 (sums 1050 200 100) (sums 100 100 200) (1 ∷ 1 ∷ 0 ∷ 0 ∷ []) ∷ [])
    (round 1 settled 3 3 70 210 (sums 842 219 73) (sums 70 70 210) (833 ∷ 73 ∷ 0 ∷ 0 ∷ []) ∷ [])
    ∷ past (calls_of two_rounds)
    (payout 1 Sell 3000000 70 210
    ∷ payout 2 Buy 3000000 9 2
    ∷ payout 0 Buy 3000000 211 70
    ∷ payout 2 Buy 2999999 10 4
    ∷ payout 1 Sell 1500000 100 200
    ∷ payout 0 Buy 3000000 191 95
    ∷ [])
    (round 1 settled 3 0 70 210 (sums 842 219 73) (sums 70 70 210) (1 ∷ 1 ∷ 0 ∷ 0 ∷ [])
    ∷ round 1 settled 3 0 100 200 (sums 1050 200 100) (sums 100 100 200) (1 ∷ 1 ∷ 0 ∷ 0 ∷ [])
    ∷ []) []
    -- makers on both sides, each in a market of its own
    ∷ past_with (calls_of late_matches)
    (payout 2 Buy 2750000 5955363 2400001
    ∷ payout 3 Sell 2250000 1000000 2500000
    ∷ payout 15 Buy 2750000 3970240 1599999
    ∷ payout 15 Sell 240 1949998 620
    ∷ payout 0 Buy 360 900 3000000
    ∷ payout 1 Sell 240 4550002 1449
    ∷ [])
    (round 3 settled 3 0 1000000 2500000 (sums 10000000 9925602 4000001) (sums 1000000 1000000 2500000) (1 ∷ 0 ∷ 0 ∷ 1 ∷ [])
    ∷ round 1 settled 3 0 3000000 900 (sums 900 900 3000000) (sums 10000000 6499999 2070) (1 ∷ 1 ∷ 0 ∷ 0 ∷ [])
    ∷ []) []
    (token_numbers 0 10002068 0 0 2 0 10002070 ∷ token_numbers 1 9999999 0 0 1 0 10000000 ∷ token_numbers 2 0 0 0 0 0 0 ∷ token_numbers 3 4000000 0 0 1 0 4000001 ∷ [])
    -- the maker's 1170, and what the bids of side 0 brought; what those of side 1 cost
    (member_numbers 4 0 7425602 7426772 1170 ∷ member_numbers 4 1 3499999 3499999 0 ∷ member_numbers 4 3 0 3000001 3000001 ∷ [])
    -- one round paid, one without tickets, one with two claims to come
    ∷ past_with (calls_of (last_places_ended ++ last_places_settled))
    (payout 15 Sell 1000000 4 3
    ∷ payout 15 Buy 2500000 67 26
    ∷ payout 14 Sell 2500000 80 200
    ∷ payout 15 Buy 2500000 68 26
    ∷ payout 15 Buy 2500000 67 26
    ∷ [])
    (round 1 settled 0 0 0 0 (sums 0 0 0) (sums 0 0 0) (0 ∷ 0 ∷ 0 ∷ 0 ∷ [])
    ∷ round 3 settled 4 0 80 200 (sums 301 200 80) (sums 80 80 200) (2 ∷ 0 ∷ 0 ∷ 2 ∷ [])
    ∷ [])
    (round 3 settled 3 2 3 3 (sums 3 3 3) (sums 10 7 7) (4 ∷ 0 ∷ 0 ∷ 5 ∷ []) ∷ [])
    (token_numbers 0 229 66 4 2 0 301 ∷ token_numbers 3 81 1 5 2 1 90 ∷ [])
    []
    -- and those paid too: 2, 0 and 1 went into the residue
    ∷ past_with (calls_of last_places)
    (payout 14 Buy 1000000 3 3
    ∷ payout 15 Sell 1000000 4 3
    ∷ payout 15 Sell 1000000 4 3
    ∷ payout 15 Buy 2500000 67 26
    ∷ payout 14 Sell 2500000 80 200
    ∷ payout 15 Buy 2500000 68 26
    ∷ payout 15 Buy 2500000 67 26
    ∷ [])
    (round 3 settled 3 0 3 3 (sums 3 3 3) (sums 10 7 7) (1 ∷ 0 ∷ 0 ∷ 1 ∷ [])
    ∷ round 1 settled 0 0 0 0 (sums 0 0 0) (sums 0 0 0) (0 ∷ 0 ∷ 0 ∷ 0 ∷ [])
    ∷ round 3 settled 4 0 80 200 (sums 301 200 80) (sums 80 80 200) (2 ∷ 0 ∷ 0 ∷ 2 ∷ [])
    ∷ [])
    []
    (token_numbers 0 232 66 0 3 0 301 ∷ token_numbers 3 84 2 0 3 1 90 ∷ [])
    -- a deposit of 301, the cancelled 33, 3 and 3 from claims; the orders of 100, 100 and 101
    (member_numbers 15 0 39 340 301
    -- 26 from each claim; the orders of 5 and 5, and 1 withdrawn
    ∷ member_numbers 15 3 67 78 11
    -- 200 from a claim; the order of 3 and the bid's 4
    ∷ member_numbers 14 0 193 200 7
    -- a deposit of 90, the bid's 4 and 3 from a claim; the order of 80
    ∷ member_numbers 14 3 17 97 80
    ∷ [])
    -- tickets 63 and 5 have left market 3's round and rest, tickets 6, 61 and 62 are in it; market 1's round has none
    ∷ past_with (calls_of sells_left) [] []
    (round 1 auctioning 0 0 0 0 (sums 0 0 0) (sums 0 0 0) (0 ∷ 0 ∷ 0 ∷ 0 ∷ [])
    ∷ round 3 collecting 3 3 0 0 (sums 35 0 0) (sums 98 0 0) (35 ∷ 0 ∷ 0 ∷ 98 ∷ [])
    ∷ [])
    (token_numbers 0 105 240 35 0 0 380 ∷ token_numbers 3 32 170 98 0 0 300 ∷ [])
    -- a leave brings its member nothing
    (member_numbers 15 3 30 200 170 ∷ member_numbers 13 0 25 300 275 ∷ [])
    -- both are back and ticket 62 has left for good, so that four tickets are paid; market 2's round has lost its only one
    ∷ past (calls_of left_and_paid)
    (payout 14 Sell 2250000 7 15 ∷ payout 13 Buy 2750000 240 96 ∷ payout 13 Buy 2750000 35 14 ∷ payout 15 Sell 2250000 134 334 ∷ [])
    (round 2 settled 0 0 0 0 (sums 0 0 0) (sums 0 0 0) (0 ∷ 0 ∷ 0 ∷ 0 ∷ [])
    ∷ round 3 settled 4 0 110 275 (sums 275 275 110) (sums 178 140 350) (1 ∷ 0 ∷ 0 ∷ 1 ∷ [])
    ∷ [])
    (round 1 auctioning 0 0 0 0 (sums 0 0 0) (sums 0 0 0) (0 ∷ 0 ∷ 0 ∷ 0 ∷ []) ∷ [])
    -- ticket 63 rests with a sell
    ∷ past_with (Deposit 15 3 9 ∷ Order 63 15 3 1 1000000 5 ∷ Order 0 15 3 1 1000000 1 ∷ []) [] [] [] (token_numbers 3 3 6 0 0 0 9 ∷ []) (member_numbers 15 3 3 9 6 ∷ [])
    ∷ []

-- ---- 64 tickets and 3 markets count, and no more

-- every number a ticket: each waits with 2 quote, or has claimed 3 base, paying 2 and getting 1; a maker has given 100 quote for 5 base
abbrev pub all_waiting : RoundLog
all_waiting = set_part empty_log (λ k. waiting (terms 15 Buy 1) 2)

abbrev pub all_claimed : RoundLog
all_claimed = with_bid (set_part empty_log (λ k. claimed (terms 15 Sell 1) 3 2 1)) Sell 5 100

unfoldable pub full_rounds : List RoundNumbers
full_rounds =
    round 3 collecting 64 64 0 0 (sums 128 0 0) (sums 0 0 0) (128 ∷ 0 ∷ 0 ∷ 0 ∷ [])
    -- 100 - 64 quote, 192 - 5 - 64 base
    ∷ round 3 collecting 64 0 0 0 (sums 0 0 0) (sums 192 5 100) (36 ∷ 0 ∷ 0 ∷ 123 ∷ [])
    ∷ []

-- 70 resting sells of 2 base in market 3
abbrev pub many_resting : List Ticket
many_resting = replicate 70 (record { state = Resting (order 15 3 Sell 1 2) })
