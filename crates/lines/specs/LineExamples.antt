-- Lines and the calls that they are, and answer lines, worked by hand.
use Rattle.std.specs.Prelude.{ℕ, ◌+◌, List, [], ◌∷◌, ◌++◌, replicate, Some, None, Option}
use Rattle.model.specs.declared.answer.Refusal.{Refusal}
use Rattle.model.specs.declared.answer.Refusal.TheVariants.{NoSuchMember, WrongTicketState, BadTerms, InsufficientBalance, BufferTooShort}
use Rattle.model.specs.declared.call.Call.{Call}
use Rattle.model.specs.declared.call.Call.TheVariants.{Deposit, Withdraw, Order, Cancel, Open, Enter, Match, Bid, Settle, Claim, Leave}
use Rattle.lines.specs.declared.call.LineAt.{LineAt}
use Rattle.lines.specs.CallLines.{line_at}

-- a line's bytes, what it is read as, and its code
pub record LineRead : Type 0 where
  pub bytes : List ℕ
  pub reading : Option Call
  pub code : ℕ

abbrev reads : List ℕ → Option Call → ℕ → LineRead
reads bytes reading code = record { bytes = bytes; reading = reading; code = code }

unfoldable pub lines_read : List LineRead
lines_read =
    reads [] None 20  -- an empty line
    ∷ reads (49 ∷ 44 ∷ 48 ∷ 44 ∷ 48 ∷ 44 ∷ 49 ∷ 48 ∷ 48 ∷ 48 ∷ []) (Some (Deposit 0 0 1000)) 0  -- 1,0,0,1000
    ∷ reads (50 ∷ 44 ∷ 49 ∷ 53 ∷ 44 ∷ 51 ∷ 44 ∷ 52 ∷ 50 ∷ 57 ∷ 52 ∷ 57 ∷ 54 ∷ 55 ∷ 50 ∷ 57 ∷ 53 ∷ []) (Some (Withdraw 15 3 4294967295)) 0  -- 2,15,3,4294967295
    ∷ reads (51 ∷ 44 ∷ 48 ∷ 44 ∷ 48 ∷ 44 ∷ 49 ∷ 44 ∷ 48 ∷ 44 ∷ 51 ∷ 48 ∷ 48 ∷ 48 ∷ 48 ∷ 48 ∷ 48 ∷ 44 ∷ 54 ∷ 48 ∷ 48 ∷ []) (Some (Order 0 0 1 0 3000000 600)) 0  -- 3,0,0,1,0,3000000,600
    ∷ reads (52 ∷ 44 ∷ 54 ∷ 51 ∷ 44 ∷ 55 ∷ []) (Some (Cancel 63 7)) 0  -- 4,63,7
    ∷ reads (53 ∷ 44 ∷ 49 ∷ 44 ∷ 49 ∷ 48 ∷ 44 ∷ 50 ∷ 53 ∷ 48 ∷ 48 ∷ 48 ∷ 48 ∷ 48 ∷ 44 ∷ 49 ∷ 48 ∷ 48 ∷ 48 ∷ 48 ∷ 48 ∷ 44 ∷ 49 ∷ 48 ∷ []) (Some (Open 1 10 2500000 100000 10)) 0  -- 5,1,10,2500000,100000,10
    ∷ reads (54 ∷ 44 ∷ 48 ∷ []) (Some (Enter 0)) 0  -- 6,0
    ∷ reads (55 ∷ 44 ∷ 49 ∷ 44 ∷ 49 ∷ 52 ∷ []) (Some (Match 1 14)) 0  -- 7,1,14
    ∷ reads (56 ∷ 44 ∷ 49 ∷ 44 ∷ 50 ∷ 44 ∷ 49 ∷ 57 ∷ 44 ∷ 49 ∷ 44 ∷ 54 ∷ 48 ∷ 44 ∷ 49 ∷ 54 ∷ 48 ∷ []) (Some (Bid 1 2 19 1 60 160)) 0  -- 8,1,2,19,1,60,160
    ∷ reads (57 ∷ 44 ∷ 49 ∷ 44 ∷ 49 ∷ 57 ∷ []) (Some (Settle 1 19)) 0  -- 9,1,19
    ∷ reads (49 ∷ 48 ∷ 44 ∷ 54 ∷ 51 ∷ []) (Some (Claim 63)) 0  -- 10,63
    ∷ reads (49 ∷ 49 ∷ 44 ∷ 48 ∷ 44 ∷ 48 ∷ []) (Some (Leave 0 0)) 0  -- 11,0,0
    ∷ reads (48 ∷ 49 ∷ 44 ∷ 48 ∷ 44 ∷ 48 ∷ 44 ∷ 53 ∷ []) None 20  -- 01,0,0,5
    ∷ reads (49 ∷ 44 ∷ 48 ∷ 48 ∷ 44 ∷ 48 ∷ 44 ∷ 53 ∷ []) None 20  -- 1,00,0,5
    ∷ reads (54 ∷ 44 ∷ 48 ∷ 55 ∷ []) None 20  -- 6,07
    ∷ reads (54 ∷ 44 ∷ 52 ∷ 50 ∷ 57 ∷ 52 ∷ 57 ∷ 54 ∷ 55 ∷ 50 ∷ 57 ∷ 54 ∷ []) None 20  -- 6,4294967296
    ∷ reads (54 ∷ 44 ∷ []) None 20  -- 6,
    ∷ reads (44 ∷ 54 ∷ []) None 20  -- ,6
    ∷ reads (54 ∷ 44 ∷ 44 ∷ 49 ∷ []) None 20  -- 6,,1
    ∷ reads (54 ∷ 44 ∷ 49 ∷ 44 ∷ 50 ∷ []) None 20  -- 6,1,2
    ∷ reads (54 ∷ []) None 20  -- 6
    ∷ reads (49 ∷ 44 ∷ 48 ∷ 44 ∷ 48 ∷ []) None 20  -- 1,0,0
    ∷ reads (48 ∷ 44 ∷ 49 ∷ []) None 20  -- 0,1
    ∷ reads (49 ∷ 49 ∷ 44 ∷ 49 ∷ []) None 20  -- 11,1
    ∷ reads (49 ∷ 49 ∷ 44 ∷ 49 ∷ 44 ∷ 50 ∷ 44 ∷ 51 ∷ []) None 20  -- 11,1,2,3
    ∷ reads (49 ∷ 50 ∷ 44 ∷ 49 ∷ 44 ∷ 50 ∷ []) None 20  -- 12,1,2
    ∷ reads (54 ∷ 44 ∷ 49 ∷ 13 ∷ []) None 20  -- 6,1CR
    ∷ reads (54 ∷ 44 ∷ 32 ∷ 49 ∷ []) None 20  -- 6, 1
    ∷ reads (54 ∷ 44 ∷ 43 ∷ 49 ∷ []) None 20  -- 6,+1
    ∷ reads (54 ∷ 44 ∷ 49 ∷ 0 ∷ []) None 20  -- 6,1NUL
    ∷ []

-- ---- each kind

-- the line of a call of each kind, "by kind number and fields", no two of its numbers the same; it is read as that call, and the call is written as it
pub record CallLine : Type 0 where
  pub bytes : List ℕ
  pub call : Call
  pub numbers : List ℕ

abbrev writes : List ℕ → Call → List ℕ → CallLine
writes bytes call numbers = record { bytes = bytes; call = call; numbers = numbers }

unfoldable pub call_lines : List CallLine
call_lines =
    writes (49 ∷ 44 ∷ 49 ∷ 53 ∷ 44 ∷ 51 ∷ 44 ∷ 49 ∷ 48 ∷ 48 ∷ 48 ∷ []) (Deposit 15 3 1000) (1 ∷ 15 ∷ 3 ∷ 1000 ∷ [])  -- 1,15,3,1000
    ∷ writes (50 ∷ 44 ∷ 55 ∷ 44 ∷ 49 ∷ 44 ∷ 55 ∷ 53 ∷ 48 ∷ []) (Withdraw 7 1 750) (2 ∷ 7 ∷ 1 ∷ 750 ∷ [])  -- 2,7,1,750
    ∷ writes (51 ∷ 44 ∷ 54 ∷ 51 ∷ 44 ∷ 49 ∷ 52 ∷ 44 ∷ 50 ∷ 44 ∷ 49 ∷ 44 ∷ 50 ∷ 48 ∷ 48 ∷ 48 ∷ 48 ∷ 48 ∷ 48 ∷ 44 ∷ 51 ∷ 48 ∷ 48 ∷ []) (Order 63 14 2 1 2000000 300) (3 ∷ 63 ∷ 14 ∷ 2 ∷ 1 ∷ 2000000 ∷ 300 ∷ [])  -- 3,63,14,2,1,2000000,300
    ∷ writes (52 ∷ 44 ∷ 54 ∷ 50 ∷ 44 ∷ 53 ∷ []) (Cancel 62 5) (4 ∷ 62 ∷ 5 ∷ [])  -- 4,62,5
    ∷ writes (53 ∷ 44 ∷ 51 ∷ 44 ∷ 50 ∷ 48 ∷ 44 ∷ 50 ∷ 53 ∷ 48 ∷ 48 ∷ 48 ∷ 48 ∷ 48 ∷ 44 ∷ 49 ∷ 48 ∷ 48 ∷ 48 ∷ 48 ∷ 48 ∷ 44 ∷ 54 ∷ 52 ∷ []) (Open 3 20 2500000 100000 64) (5 ∷ 3 ∷ 20 ∷ 2500000 ∷ 100000 ∷ 64 ∷ [])  -- 5,3,20,2500000,100000,64
    ∷ writes (54 ∷ 44 ∷ 51 ∷ 49 ∷ []) (Enter 31) (6 ∷ 31 ∷ [])  -- 6,31
    ∷ writes (55 ∷ 44 ∷ 50 ∷ 44 ∷ 49 ∷ 52 ∷ []) (Match 2 14) (7 ∷ 2 ∷ 14 ∷ [])  -- 7,2,14
    ∷ writes (56 ∷ 44 ∷ 50 ∷ 44 ∷ 49 ∷ 51 ∷ 44 ∷ 49 ∷ 57 ∷ 44 ∷ 48 ∷ 44 ∷ 54 ∷ 48 ∷ 44 ∷ 49 ∷ 53 ∷ 48 ∷ []) (Bid 2 13 19 0 60 150) (8 ∷ 2 ∷ 13 ∷ 19 ∷ 0 ∷ 60 ∷ 150 ∷ [])  -- 8,2,13,19,0,60,150
    ∷ writes (57 ∷ 44 ∷ 51 ∷ 44 ∷ 52 ∷ 50 ∷ 57 ∷ 52 ∷ 57 ∷ 54 ∷ 55 ∷ 50 ∷ 57 ∷ 52 ∷ []) (Settle 3 4294967294) (9 ∷ 3 ∷ 4294967294 ∷ [])  -- 9,3,4294967294
    ∷ writes (49 ∷ 48 ∷ 44 ∷ 57 ∷ []) (Claim 9) (10 ∷ 9 ∷ [])  -- 10,9
    ∷ writes (49 ∷ 49 ∷ 44 ∷ 54 ∷ 49 ∷ 44 ∷ 52 ∷ []) (Leave 61 4) (11 ∷ 61 ∷ 4 ∷ [])  -- 11,61,4
    -- the longest, of 67 bytes
    ∷ writes (51 ∷ 44 ∷ 52 ∷ 50 ∷ 57 ∷ 52 ∷ 57 ∷ 54 ∷ 55 ∷ 50 ∷ 57 ∷ 53 ∷ 44 ∷ 52 ∷ 50 ∷ 57 ∷ 52 ∷ 57 ∷ 54 ∷ 55 ∷ 50 ∷ 57 ∷ 53 ∷ 44 ∷ 52 ∷ 50 ∷ 57 ∷ 52 ∷ 57 ∷ 54 ∷ 55 ∷ 50 ∷ 57 ∷ 53 ∷ 44 ∷ 52 ∷ 50 ∷ 57 ∷ 52 ∷ 57 ∷ 54 ∷ 55 ∷ 50 ∷ 57 ∷ 53 ∷ 44 ∷ 52 ∷ 50 ∷ 57 ∷ 52 ∷ 57 ∷ 54 ∷ 55 ∷ 50 ∷ 57 ∷ 53 ∷ 44 ∷ 52 ∷ 50 ∷ 57 ∷ 52 ∷ 57 ∷ 54 ∷ 55 ∷ 50 ∷ 57 ∷ 53 ∷ []) (Order 4294967295 4294967295 4294967295 4294967295 4294967295 4294967295) (3 ∷ 4294967295 ∷ 4294967295 ∷ 4294967295 ∷ 4294967295 ∷ 4294967295 ∷ 4294967295 ∷ [])  -- 3,4294967295,4294967295,4294967295,4294967295,4294967295,4294967295
    ∷ writes (56 ∷ 44 ∷ 52 ∷ 50 ∷ 57 ∷ 52 ∷ 57 ∷ 54 ∷ 55 ∷ 50 ∷ 57 ∷ 53 ∷ 44 ∷ 52 ∷ 50 ∷ 57 ∷ 52 ∷ 57 ∷ 54 ∷ 55 ∷ 50 ∷ 57 ∷ 53 ∷ 44 ∷ 52 ∷ 50 ∷ 57 ∷ 52 ∷ 57 ∷ 54 ∷ 55 ∷ 50 ∷ 57 ∷ 53 ∷ 44 ∷ 52 ∷ 50 ∷ 57 ∷ 52 ∷ 57 ∷ 54 ∷ 55 ∷ 50 ∷ 57 ∷ 53 ∷ 44 ∷ 52 ∷ 50 ∷ 57 ∷ 52 ∷ 57 ∷ 54 ∷ 55 ∷ 50 ∷ 57 ∷ 53 ∷ 44 ∷ 52 ∷ 50 ∷ 57 ∷ 52 ∷ 57 ∷ 54 ∷ 55 ∷ 50 ∷ 57 ∷ 53 ∷ []) (Bid 4294967295 4294967295 4294967295 4294967295 4294967295 4294967295) (8 ∷ 4294967295 ∷ 4294967295 ∷ 4294967295 ∷ 4294967295 ∷ 4294967295 ∷ 4294967295 ∷ [])  -- 8,4294967295,4294967295,4294967295,4294967295,4294967295,4294967295
    ∷ []

-- each kind's number with one field fewer than it has and with one more: "a wrong number of fields"; and numbers that are no kind's, "an unknown kind"
unfoldable pub no_calls : List (List ℕ)
no_calls =
    []
    ∷ (1 ∷ 1 ∷ 1 ∷ [])
    ∷ (1 ∷ 1 ∷ 1 ∷ 1 ∷ 1 ∷ [])
    ∷ (2 ∷ 1 ∷ 1 ∷ [])
    ∷ (2 ∷ 1 ∷ 1 ∷ 1 ∷ 1 ∷ [])
    ∷ (3 ∷ 1 ∷ 1 ∷ 1 ∷ 1 ∷ 1 ∷ [])
    ∷ (3 ∷ 1 ∷ 1 ∷ 1 ∷ 1 ∷ 1 ∷ 1 ∷ 1 ∷ [])
    ∷ (4 ∷ 1 ∷ [])
    ∷ (4 ∷ 1 ∷ 1 ∷ 1 ∷ [])
    ∷ (5 ∷ 1 ∷ 1 ∷ 1 ∷ 1 ∷ [])
    ∷ (5 ∷ 1 ∷ 1 ∷ 1 ∷ 1 ∷ 1 ∷ 1 ∷ [])
    ∷ (6 ∷ [])
    ∷ (6 ∷ 1 ∷ 1 ∷ [])
    ∷ (7 ∷ 1 ∷ [])
    ∷ (7 ∷ 1 ∷ 1 ∷ 1 ∷ [])
    ∷ (8 ∷ 1 ∷ 1 ∷ 1 ∷ 1 ∷ 1 ∷ [])
    ∷ (8 ∷ 1 ∷ 1 ∷ 1 ∷ 1 ∷ 1 ∷ 1 ∷ 1 ∷ [])
    ∷ (9 ∷ 1 ∷ [])
    ∷ (9 ∷ 1 ∷ 1 ∷ 1 ∷ [])
    ∷ (10 ∷ [])
    ∷ (10 ∷ 1 ∷ 1 ∷ [])
    ∷ (11 ∷ 1 ∷ [])
    ∷ (11 ∷ 1 ∷ 1 ∷ 1 ∷ [])
    ∷ (0 ∷ 1 ∷ [])
    ∷ (0 ∷ 1 ∷ 1 ∷ [])
    ∷ (0 ∷ 1 ∷ 1 ∷ 1 ∷ [])
    ∷ (0 ∷ 1 ∷ 1 ∷ 1 ∷ 1 ∷ 1 ∷ [])
    ∷ (0 ∷ 1 ∷ 1 ∷ 1 ∷ 1 ∷ 1 ∷ 1 ∷ [])
    ∷ (12 ∷ 1 ∷ [])
    ∷ (12 ∷ 1 ∷ 1 ∷ [])
    ∷ (12 ∷ 1 ∷ 1 ∷ 1 ∷ [])
    ∷ (12 ∷ 1 ∷ 1 ∷ 1 ∷ 1 ∷ 1 ∷ [])
    ∷ (12 ∷ 1 ∷ 1 ∷ 1 ∷ 1 ∷ 1 ∷ 1 ∷ [])
    ∷ (4294967295 ∷ 1 ∷ [])
    ∷ (4294967295 ∷ 1 ∷ 1 ∷ [])
    ∷ (4294967295 ∷ 1 ∷ 1 ∷ 1 ∷ [])
    ∷ (4294967295 ∷ 1 ∷ 1 ∷ 1 ∷ 1 ∷ 1 ∷ [])
    ∷ (4294967295 ∷ 1 ∷ 1 ∷ 1 ∷ 1 ∷ 1 ∷ 1 ∷ [])
    ∷ []

-- ---- lines in an input

-- bytes, a place, what is read of the line that begins there, and where it ends
unfoldable pub lines_at : List (List ℕ × ℕ × (Option Call) × ℕ)
lines_at =
    ((54 ∷ 44 ∷ 49 ∷ 10 ∷ 54 ∷ 44 ∷ 50 ∷ 50 ∷ 10 ∷ 10 ∷ 55 ∷ 44 ∷ 51 ∷ 44 ∷ 49 ∷ 52 ∷ []), 0, Some (Enter 1), 3)  -- 6,1LF 6,22LF LF 7,3,14
    ∷ ((54 ∷ 44 ∷ 49 ∷ 10 ∷ 54 ∷ 44 ∷ 50 ∷ 50 ∷ 10 ∷ 10 ∷ 55 ∷ 44 ∷ 51 ∷ 44 ∷ 49 ∷ 52 ∷ []), 2, None, 3)  -- 6,1LF 6,22LF LF 7,3,14
    ∷ ((54 ∷ 44 ∷ 49 ∷ 10 ∷ 54 ∷ 44 ∷ 50 ∷ 50 ∷ 10 ∷ 10 ∷ 55 ∷ 44 ∷ 51 ∷ 44 ∷ 49 ∷ 52 ∷ []), 3, None, 3)  -- 6,1LF 6,22LF LF 7,3,14
    ∷ ((54 ∷ 44 ∷ 49 ∷ 10 ∷ 54 ∷ 44 ∷ 50 ∷ 50 ∷ 10 ∷ 10 ∷ 55 ∷ 44 ∷ 51 ∷ 44 ∷ 49 ∷ 52 ∷ []), 4, Some (Enter 22), 8)  -- 6,1LF 6,22LF LF 7,3,14
    ∷ ((54 ∷ 44 ∷ 49 ∷ 10 ∷ 54 ∷ 44 ∷ 50 ∷ 50 ∷ 10 ∷ 10 ∷ 55 ∷ 44 ∷ 51 ∷ 44 ∷ 49 ∷ 52 ∷ []), 8, None, 8)  -- 6,1LF 6,22LF LF 7,3,14
    ∷ ((54 ∷ 44 ∷ 49 ∷ 10 ∷ 54 ∷ 44 ∷ 50 ∷ 50 ∷ 10 ∷ 10 ∷ 55 ∷ 44 ∷ 51 ∷ 44 ∷ 49 ∷ 52 ∷ []), 9, None, 9)  -- 6,1LF 6,22LF LF 7,3,14
    ∷ ((54 ∷ 44 ∷ 49 ∷ 10 ∷ 54 ∷ 44 ∷ 50 ∷ 50 ∷ 10 ∷ 10 ∷ 55 ∷ 44 ∷ 51 ∷ 44 ∷ 49 ∷ 52 ∷ []), 10, Some (Match 3 14), 16)  -- 6,1LF 6,22LF LF 7,3,14
    ∷ ((54 ∷ 44 ∷ 49 ∷ 10 ∷ 54 ∷ 44 ∷ 50 ∷ 50 ∷ 10 ∷ 10 ∷ 55 ∷ 44 ∷ 51 ∷ 44 ∷ 49 ∷ 52 ∷ []), 16, None, 16)  -- 6,1LF 6,22LF LF 7,3,14
    ∷ ((54 ∷ 44 ∷ 49 ∷ 10 ∷ 54 ∷ 44 ∷ 50 ∷ 50 ∷ 10 ∷ 10 ∷ 55 ∷ 44 ∷ 51 ∷ 44 ∷ 49 ∷ 52 ∷ []), 17, None, 17)  -- 6,1LF 6,22LF LF 7,3,14
    ∷ ((54 ∷ 44 ∷ 49 ∷ 9 ∷ 10 ∷ []), 0, None, 4)  -- 6,1TAB LF
    ∷ ((54 ∷ 44 ∷ 49 ∷ 11 ∷ 10 ∷ []), 0, None, 4)  -- 6,1VT LF
    ∷ []

-- a line, then byte 10 and the call 6,1
abbrev pub then_call : List ℕ → List ℕ
then_call line = line ++ (10 ∷ 54 ∷ 44 ∷ 49 ∷ [])

-- "a longer line is one line and gets 20": a line of so many bytes, alone and with the call after it; and that call
abbrev pub long_at : ℕ → List ℕ → List LineAt
long_at bytes line = line_at line 0 ∷ line_at (then_call line) 0 ∷ line_at (then_call line) (bytes + 1) ∷ []

-- what is read of each, and where it ends
abbrev pub read_at : ℕ → List LineAt
read_at bytes =
    record { reading = None; end = bytes } ∷ record { reading = None; end = bytes } ∷ record { reading = Some (Enter 1); end = bytes + 4 } ∷ []

-- 78 digits 1 and then 6,1: from its first byte the line has 81 bytes and is no call, from its 79th on it is one
abbrev pub long_tail : List ℕ
long_tail = replicate 78 49 ++ (54 ∷ 44 ∷ 49 ∷ [])

-- ---- answers

-- a line's number, the two numbers of an acceptance, the text after the number and its comma, and how long the whole line is
unfoldable pub acceptances : List (ℕ × ℕ × ℕ × List ℕ × ℕ)
acceptances =
    (1, 1000, 0, (48 ∷ 44 ∷ 49 ∷ 48 ∷ 48 ∷ 48 ∷ 44 ∷ 48 ∷ 10 ∷ []), 11)  -- 0,1000,0
    ∷ (6, 2750000, 2250000, (48 ∷ 44 ∷ 50 ∷ 55 ∷ 53 ∷ 48 ∷ 48 ∷ 48 ∷ 48 ∷ 44 ∷ 50 ∷ 50 ∷ 53 ∷ 48 ∷ 48 ∷ 48 ∷ 48 ∷ 10 ∷ []), 20)  -- 0,2750000,2250000
    ∷ (12, 0, 34, (48 ∷ 44 ∷ 48 ∷ 44 ∷ 51 ∷ 52 ∷ 10 ∷ []), 10)  -- 0,0,34
    ∷ (4294967295, 4294967295, 4294967295, (48 ∷ 44 ∷ 52 ∷ 50 ∷ 57 ∷ 52 ∷ 57 ∷ 54 ∷ 55 ∷ 50 ∷ 57 ∷ 53 ∷ 44 ∷ 52 ∷ 50 ∷ 57 ∷ 52 ∷ 57 ∷ 54 ∷ 55 ∷ 50 ∷ 57 ∷ 53 ∷ 10 ∷ []), 35)  -- 0,4294967295,4294967295
    ∷ []

-- a line's number, a refusal, the text after the number and its comma, and how long the whole line is
unfoldable pub refusals : List (ℕ × Refusal × List ℕ × ℕ)
refusals =
    (14, InsufficientBalance, (49 ∷ 57 ∷ 44 ∷ 48 ∷ 44 ∷ 48 ∷ 10 ∷ []), 10)  -- 19,0,0
    ∷ (1, NoSuchMember, (49 ∷ 44 ∷ 48 ∷ 44 ∷ 48 ∷ 10 ∷ []), 8)  -- 1,0,0
    ∷ (4294967295, BufferTooShort, (50 ∷ 49 ∷ 44 ∷ 48 ∷ 44 ∷ 48 ∷ 10 ∷ []), 18)  -- 21,0,0
    ∷ (4294967295, WrongTicketState, (57 ∷ 44 ∷ 48 ∷ 44 ∷ 48 ∷ 10 ∷ []), 17)  -- 9,0,0
    ∷ (10, BadTerms, (49 ∷ 48 ∷ 44 ∷ 48 ∷ 44 ∷ 48 ∷ 10 ∷ []), 10)  -- 10,0,0
    ∷ []

-- ---- the header

-- its words
unfoldable pub header_words : List (List ℕ)
header_words =
    (108 ∷ 105 ∷ 110 ∷ 101 ∷ [])  -- line
    ∷ (99 ∷ 111 ∷ 100 ∷ 101 ∷ [])  -- code
    ∷ (102 ∷ 105 ∷ 114 ∷ 115 ∷ 116 ∷ [])  -- first
    ∷ (115 ∷ 101 ∷ 99 ∷ 111 ∷ 110 ∷ 100 ∷ [])  -- second
    ∷ []
