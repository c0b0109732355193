-- Kinds, fields, codes and answers in numbers: a call of each kind whose fields are all different, the codes that it tests, and the number of
-- every refusal.
use Rattle.std.specs.Prelude.{ℕ, zero, suc, ◌+◌, ◌-◌, ◌≡◌, List, [], ◌∷◌, map, Ok, Err, Option}
use Rattle.units.specs.Decide.{Test}
use Rattle.model.specs.declared.state.Exchange.{Exchange}
use Rattle.model.specs.declared.call.Call.{Call}
use Rattle.model.specs.declared.call.Call.TheVariants.{Deposit, Withdraw, Order, Cancel, Open, Enter, Match, Bid, Settle, Claim, Leave}
use Rattle.model.specs.declared.answer.Refusal.{Refusal}
use Rattle.model.specs.Answers.{Answer, refusal_code, code_of, first_of, second_of}
use Rattle.model.specs.Calls.{deposit_of, withdraw_of, order_of, cancel_of, open_of, enter_of, match_of, bid_of, settle_of, claim_of, leave_of, tests_of, done_of, refuse}
use Rattle.model.specs.Run.{step_of, Request, request_of}
use Rattle.model.specs.Kinds.{Kind, from_fields}

-- "The ten calls, by kind number and fields", and leave
unfoldable pub each_call : List Call
each_call =
    Deposit 21 22 23
    ∷ Withdraw 21 22 23
    ∷ Order 21 22 23 24 25 26
    ∷ Cancel 21 22
    ∷ Open 21 22 23 24 25
    ∷ Enter 21
    ∷ Match 21 22
    ∷ Bid 21 22 23 24 25 26
    ∷ Settle 21 22
    ∷ Claim 21
    ∷ Leave 21 22
    ∷ []

unfoldable pub each_numbers : List (List ℕ)
each_numbers =
    (1 ∷ 21 ∷ 22 ∷ 23 ∷ [])
    ∷ (2 ∷ 21 ∷ 22 ∷ 23 ∷ [])
    ∷ (3 ∷ 21 ∷ 22 ∷ 23 ∷ 24 ∷ 25 ∷ 26 ∷ [])
    ∷ (4 ∷ 21 ∷ 22 ∷ [])
    ∷ (5 ∷ 21 ∷ 22 ∷ 23 ∷ 24 ∷ 25 ∷ [])
    ∷ (6 ∷ 21 ∷ [])
    ∷ (7 ∷ 21 ∷ 22 ∷ [])
    ∷ (8 ∷ 21 ∷ 22 ∷ 23 ∷ 24 ∷ 25 ∷ 26 ∷ [])
    ∷ (9 ∷ 21 ∷ 22 ∷ [])
    ∷ (10 ∷ 21 ∷ [])
    ∷ (11 ∷ 21 ∷ 22 ∷ [])
    ∷ []

-- from "Why a call is turned down": 1 to 5 where the call has the field, and those that name its kind; of leave "1, 4, 8 as for cancel", 9 and 11
unfoldable pub each_codes : List (List ℕ)
each_codes =
    (1 ∷ 2 ∷ 6 ∷ 14 ∷ [])
    ∷ (1 ∷ 2 ∷ 6 ∷ 19 ∷ [])
    ∷ (1 ∷ 3 ∷ 4 ∷ 5 ∷ 6 ∷ 7 ∷ 19 ∷ [])
    ∷ (1 ∷ 4 ∷ 8 ∷ 9 ∷ [])
    ∷ (3 ∷ 10 ∷ 11 ∷ 12 ∷ [])
    ∷ (4 ∷ 8 ∷ 9 ∷ 11 ∷ 15 ∷ [])
    ∷ (3 ∷ 11 ∷ 12 ∷ 13 ∷ [])
    ∷ (1 ∷ 3 ∷ 5 ∷ 6 ∷ 11 ∷ 12 ∷ 16 ∷ 17 ∷ 18 ∷ 19 ∷ [])
    ∷ (3 ∷ 11 ∷ 12 ∷ 13 ∷ [])
    ∷ (4 ∷ 8 ∷ 9 ∷ 11 ∷ [])
    ∷ (1 ∷ 4 ∷ 8 ∷ 9 ∷ 11 ∷ [])
    ∷ []

-- the codes of a call's tests, in their order
abbrev pub test_codes : Exchange → Call → List ℕ
test_codes x c = map (λ (t : Test Refusal). refusal_code t.reason) (tests_of x c)

-- the code of what a call does where no test applies
abbrev pub done_code : Exchange → Call → ℕ
done_code x c = code_of (done_of x c).answer

-- n numbers from a on
unfoldable pub numbers_from : (n a : ℕ) → List ℕ
numbers_from zero a = []
numbers_from (suc n) a = a ∷ numbers_from n (suc a)

-- the call that a kind's row makes of its fields, of one more and of one fewer
abbrev pub row_call : Kind → Option Call
row_call k = from_fields k.fields k.call (numbers_from k.fields 21)

abbrev pub row_more : Kind → Option Call
row_more k = from_fields k.fields k.call (numbers_from (k.fields + 1) 21)

abbrev pub row_fewer : Kind → Option Call
row_fewer k = from_fields k.fields k.call (numbers_from (k.fields - 1) 21)

-- each call's own definition is the step of its kind, its fields in their order
pub record CallSteps (x : Exchange) : Type 0 where
  pub deposit_is : (member token n : ℕ) → deposit_of x member token n ≡ step_of x (Deposit member token n)
  pub withdraw_is : (member token n : ℕ) → withdraw_of x member token n ≡ step_of x (Withdraw member token n)
  pub order_is : (k member market side limit n : ℕ) → order_of x k member market side limit n ≡ step_of x (Order k member market side limit n)
  pub cancel_is : (k member : ℕ) → cancel_of x k member ≡ step_of x (Cancel k member)
  pub open_is : (market at r w len : ℕ) → open_of x market at r w len ≡ step_of x (Open market at r w len)
  pub enter_is : (k : ℕ) → enter_of x k ≡ step_of x (Enter k)
  pub match_is : (market at : ℕ) → match_of x market at ≡ step_of x (Match market at)
  pub bid_is : (market member at side n bound : ℕ) → bid_of x market member at side n bound ≡ step_of x (Bid market member at side n bound)
  pub settle_is : (market at : ℕ) → settle_of x market at ≡ step_of x (Settle market at)
  pub claim_is : (k : ℕ) → claim_of x k ≡ step_of x (Claim k)
  pub leave_is : (k member : ℕ) → leave_of x k member ≡ step_of x (Leave k member)

abbrev pub claim_request : (line room ticket : ℕ) → Request
claim_request line room k = record { line = line; room = room; call = Claim k }

abbrev pub leave_request : (line room ticket member : ℕ) → Request
leave_request line room k member = record { line = line; room = room; call = Leave k member }

-- 21 in any state in which ticket 63's claim is answered with 4 and 3: its line 40 has 9 bytes; and where ticket 0's leave is answered with 600
-- and 0: its line 17 has 11 bytes, and with fewer the ticket stays in the round
pub record RoomUsed (x : Exchange) : Type 0 where
  pub short : request_of x (claim_request 40 8 63) ≡ refuse x Refusal.BufferTooShort
  pub enough : request_of x (claim_request 40 9 63) ≡ step_of x (Claim 63)

pub record LeaveRoomUsed (x : Exchange) : Type 0 where
  pub short : request_of x (leave_request 17 10 0 0) ≡ refuse x Refusal.BufferTooShort
  pub enough : request_of x (leave_request 17 11 0 0) ≡ step_of x (Leave 0 0)

pub record RoomsUsed (x : Exchange) : Type 0 where
  pub claim : (step_of x (Claim 63)).answer ≡ Ok (4, 3) → RoomUsed x
  pub leave : (step_of x (Leave 0 0)).answer ≡ Ok (600, 0) → LeaveRoomUsed x

-- ---- answers

-- "Why a call is turned down", from 1 to 21, and 22 of document 02
unfoldable pub refusals : List Refusal
refusals =
    Refusal.NoSuchMember
    ∷ Refusal.NoSuchToken
    ∷ Refusal.NoSuchMarket
    ∷ Refusal.NoSuchTicket
    ∷ Refusal.NoSuchSide
    ∷ Refusal.BadAmountOrLimit
    ∷ Refusal.TicketInUse
    ∷ Refusal.NoSuchOrder
    ∷ Refusal.WrongTicketState
    ∷ Refusal.BadTerms
    ∷ Refusal.WrongPhase
    ∷ Refusal.StaleBlock
    ∷ Refusal.TooEarly
    ∷ Refusal.SupplyExceeded
    ∷ Refusal.LimitOutOfBounds
    ∷ Refusal.AuctionOver
    ∷ Refusal.NotAvailable
    ∷ Refusal.BoundMissed
    ∷ Refusal.InsufficientBalance
    ∷ Refusal.MalformedLine
    ∷ Refusal.BufferTooShort
    ∷ Refusal.BadOrderList
    ∷ []

-- an answer's code and numbers, and its line
abbrev pub answer_numbers : Answer → ℕ × ℕ × ℕ
answer_numbers a = (code_of a, first_of a, second_of a)

unfoldable pub answers : List Answer
answers = Ok (7, 8) ∷ Err Refusal.MalformedLine ∷ Err Refusal.BufferTooShort ∷ []

unfoldable pub answer_texts : List (List ℕ)
answer_texts =
    (53 ∷ 49 ∷ 44 ∷ 48 ∷ 44 ∷ 55 ∷ 44 ∷ 56 ∷ 10 ∷ [])  -- 51,0,7,8
    ∷ (53 ∷ 49 ∷ 44 ∷ 50 ∷ 48 ∷ 44 ∷ 48 ∷ 44 ∷ 48 ∷ 10 ∷ [])  -- 51,20,0,0
    ∷ (53 ∷ 49 ∷ 44 ∷ 50 ∷ 49 ∷ 44 ∷ 48 ∷ 44 ∷ 48 ∷ 10 ∷ [])  -- 51,21,0,0
    ∷ []
