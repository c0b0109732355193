-- The edges of document 01, marked ◆ there, as one list: calls from the fresh state, and then the last answer (code, first, second), the
-- residue (the paper's tray) of tokens 0 and 1, and whether market 1 is closed. Each quotes the paper.
use Rattle.std.specs.Prelude.{ℕ, Bool, true, false, List, [], ◌∷◌, ◌++◌, Ok}
use Rattle.model.specs.declared.call.Call.{Call}
use Rattle.model.specs.declared.call.Call.TheVariants.{Deposit, Order, Open, Enter, Match, Bid, Settle, Claim}
use Rattle.model.specs.declared.answer.Outcome.{Outcome}
use Rattle.model.specs.State.{residue, phase, is_closed, fresh_exchange}
use Rattle.model.specs.Answers.{code_of, first_of, second_of}
use Rattle.model.specs.Run.{step_of}
use Rattle.model.specs.Scripts.{Accounts, accounts}
use Rattle.model.specs.Day.{until_match}

pub record Edge : Type 0 where
  pub calls : List Call
  pub code : ℕ
  pub first : ℕ
  pub second : ℕ
  pub residue0 : ℕ
  pub residue1 : ℕ
  pub closed : Bool

abbrev pub edge : List Call → (code first second residue0 residue1 : ℕ) → Bool → Edge
edge cs code a b q n closed =
    record { calls = cs; code = code; first = a; second = b; residue0 = q; residue1 = n; closed = closed }

-- what the definitions give: the last call's outcome
unfoldable pub last_outcome : Outcome → List Call → Outcome
last_outcome out [] = out
last_outcome out (c ∷ cs) = last_outcome (step_of out.exchange c) cs

abbrev pub outcome_as : List Call → Outcome → Edge
outcome_as cs out =
    edge cs (code_of out.answer) (first_of out.answer) (second_of out.answer) (residue out.exchange 0) (residue out.exchange 1)
    (is_closed (phase out.exchange 1))

-- the same calls with the numbers that the definitions give
unfoldable pub worked_edge : Edge → Edge
worked_edge e = outcome_as e.calls (last_outcome (record { answer = Ok (0, 0); exchange = fresh_exchange }) e.calls)

-- market 1 with one buy of q quote and one sell of s base, matched at r 2,500,000 and w 0
unfoldable pub match_of_two : ℕ → ℕ → List Call
match_of_two q s =
    Deposit 0 0 q
    ∷ Deposit 1 1 s
    ∷ Order 0 0 1 0 2500000 q
    ∷ Order 1 1 1 1 2500000 s
    ∷ Open 1 10 2500000 0 10
    ∷ Enter 0
    ∷ Enter 1
    ∷ Match 1 14
    ∷ []

-- buys of 100, 100 and 101 against a sell of 80 base at 2.5: the buys' T is 301, P 200, G 80
unfoldable pub three_buys : List Call
three_buys =
    Deposit 0 0 301
    ∷ Deposit 1 1 80
    ∷ Order 0 0 1 0 2500000 100
    ∷ Order 1 0 1 0 2500000 100
    ∷ Order 2 0 1 0 2500000 101
    ∷ Order 3 1 1 1 2500000 80
    ∷ Open 1 10 2500000 0 10
    ∷ Enter 0
    ∷ Enter 1
    ∷ Enter 2
    ∷ Enter 3
    ∷ Match 1 14
    ∷ []

unfoldable pub edges : List Edge
edges =
    -- "◆ r 1, w 500,000: hi 1, lo 1."
    edge (Open 1 0 1 500000 1 ∷ []) 0 1 1 0 0 false
    -- "◆ r 3, same w: hi 4, lo 2."
    ∷ edge (Open 1 0 3 500000 1 ∷ []) 0 4 2 0 0 false
    -- "◆ r 2,500,000, w 0, Q 100: S 3 gives 0, 0;"
    ∷ edge (match_of_two 100 3) 0 0 0 0 0 false
    -- "◆ S 4 gives 4, 10."
    ∷ edge (match_of_two 100 4) 0 4 10 0 0 false
    -- "◆ Offers 100, 100, 101 (T 301), P 200, G 80:": the settle answers P, and the base paid by the sells
    ∷ edge (three_buys ++ (Settle 1 25 ∷ [])) 0 200 80 0 0 false
    -- "paid 67, 67, 68; got 26 each;"
    ∷ edge (three_buys ++ (Settle 1 25 ∷ Claim 0 ∷ [])) 0 67 26 0 0 false
    ∷ edge (three_buys ++ (Settle 1 25 ∷ Claim 0 ∷ Claim 1 ∷ [])) 0 67 26 0 0 false
    ∷ edge (three_buys ++ (Settle 1 25 ∷ Claim 0 ∷ Claim 1 ∷ Claim 2 ∷ [])) 0 68 26 0 0 false
    -- "this buy side leaves the tray 2 quote, 2 base.": with the claim of the sell, which is paid in full, the round ends
    ∷ edge (three_buys ++ (Settle 1 25 ∷ Claim 0 ∷ Claim 1 ∷ Claim 2 ∷ Claim 3 ∷ [])) 0 80 200 2 2 true
    -- the same where a buy has the last claim
    ∷ edge (three_buys ++ (Settle 1 25 ∷ Claim 3 ∷ Claim 2 ∷ Claim 1 ∷ Claim 0 ∷ [])) 0 67 26 2 2 true
    -- "◆ In the day above, a bid at k 0 for 60 base costs 165,"
    ∷ edge (until_match ++ (Bid 1 2 14 1 60 165 ∷ [])) 0 60 165 0 0 false
    -- "at ◆ k 10 costs 135;"
    ∷ edge (until_match ++ (Bid 1 2 24 1 60 165 ∷ [])) 0 60 135 0 0 false
    -- "◆ k 11 is 16."
    ∷ edge (until_match ++ (Bid 1 2 25 1 60 165 ∷ [])) 16 0 0 0 0 false
    -- "◆ A deposit to a total of 4,294,967,295 stands;"
    ∷ edge (Deposit 0 0 4294967294 ∷ Deposit 1 0 1 ∷ []) 0 1 0 0 0 true
    ∷ edge (Deposit 0 0 4294967295 ∷ []) 0 4294967295 0 0 0 true
    -- "◆ one unit more is 14."
    ∷ edge (Deposit 0 0 4294967294 ∷ Deposit 1 0 1 ∷ Deposit 2 0 1 ∷ []) 14 0 0 0 0 true
    -- "◆ Match at block 13 after open at 10 is 13."
    ∷ edge (Open 1 10 2500000 0 10 ∷ Match 1 13 ∷ []) 13 0 0 0 0 false
    -- "◆ Settle with no tickets closes."
    ∷ edge (Open 1 10 2500000 0 10 ∷ Match 1 14 ∷ Settle 1 14 ∷ []) 0 0 0 0 0 true
    ∷ []

-- after the claims of the three buys and of the sell: the rests 33, 33 and 33, the sell's 200 quote, 26 base each, and the tray's 2 and 2
unfoldable pub edge_accounts : List Accounts
edge_accounts =
    accounts (three_buys ++ (Settle 1 25 ∷ Claim 0 ∷ Claim 1 ∷ Claim 2 ∷ Claim 3 ∷ [])) 0 200 99 0 2 0 301
    ∷ accounts (three_buys ++ (Settle 1 25 ∷ Claim 0 ∷ Claim 1 ∷ Claim 2 ∷ Claim 3 ∷ [])) 1 78 0 0 2 0 80
    ∷ []
