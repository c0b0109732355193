-- "An answer is a code and two numbers. Code 0 is acceptance"; a refusal answers its code and two zeros.
use Rattle.std.specs.Prelude.{ℕ, List, [], ◌∷◌, ◌++◌, Ok, Err, Result}
use Rattle.units.specs.Decimal.{digits}
use Rattle.model.specs.declared.answer.Refusal.{Refusal}

-- acceptance with its two numbers, or a refusal
abbrev pub Answer : Type 0
Answer = Result (ℕ × ℕ) Refusal

-- the numbers of "Why a call is turned down", and document 02's 22
abbrev pub refusal_code : Refusal → ℕ
refusal_code Refusal.NoSuchMember = 1
refusal_code Refusal.NoSuchToken = 2
refusal_code Refusal.NoSuchMarket = 3
refusal_code Refusal.NoSuchTicket = 4
refusal_code Refusal.NoSuchSide = 5
refusal_code Refusal.BadAmountOrLimit = 6
refusal_code Refusal.TicketInUse = 7
refusal_code Refusal.NoSuchOrder = 8
refusal_code Refusal.WrongTicketState = 9
refusal_code Refusal.BadTerms = 10
refusal_code Refusal.WrongPhase = 11
refusal_code Refusal.StaleBlock = 12
refusal_code Refusal.TooEarly = 13
refusal_code Refusal.SupplyExceeded = 14
refusal_code Refusal.LimitOutOfBounds = 15
refusal_code Refusal.AuctionOver = 16
refusal_code Refusal.NotAvailable = 17
refusal_code Refusal.BoundMissed = 18
refusal_code Refusal.InsufficientBalance = 19
refusal_code Refusal.MalformedLine = 20
refusal_code Refusal.BufferTooShort = 21
refusal_code Refusal.BadOrderList = 22

-- the code and the two numbers
abbrev pub code_of : Answer → ℕ
code_of (Ok (a, b)) = 0
code_of (Err r) = refusal_code r

abbrev pub first_of : Answer → ℕ
first_of (Ok (a, b)) = a
first_of (Err r) = 0

abbrev pub second_of : Answer → ℕ
second_of (Ok (a, b)) = b
second_of (Err r) = 0

-- "its number from 1, code, two numbers, parted by commas", ended by byte 10
unfoldable pub answer_line : ℕ → Answer → List ℕ
answer_line number a =
    digits number ++ (44 ∷ (digits (code_of a) ++ (44 ∷ (digits (first_of a) ++ (44 ∷ (digits (second_of a) ++ (10 ∷ [])))))))
