-- "The ten calls, by kind number and fields", and kind 11 of document 02: one row a kind, and the numbers of a call.
use Rattle.std.specs.Prelude.{ℕ, zero, suc, cond, List, [], ◌∷◌, eqb, get_or, Some, None, Option}
use Rattle.model.specs.declared.call.Call.{Call}
use Rattle.model.specs.declared.call.Call.TheVariants.{Deposit, Withdraw, Order, Cancel, Open, Enter, Match, Bid, Settle, Claim, Leave}

-- a call that takes so many fields
abbrev pub Taking : ℕ → Type 0
Taking zero = Call
Taking (suc n) = ℕ → Taking n

-- the call of so many fields, no more and no fewer
abbrev pub from_fields : (n : ℕ) → Taking n → List ℕ → Option Call
from_fields zero c [] = Some c
from_fields zero c (a ∷ fields) = None
from_fields (suc n) f [] = None
from_fields (suc n) f (a ∷ fields) = from_fields n (f a) fields

-- a kind: its number, how many fields it has, the call of them, and the codes that it tests
pub record Kind : Type 0 where
  pub number : ℕ
  pub fields : ℕ
  pub call : Taking fields
  pub codes : List ℕ

abbrev pub kind : (number fields : ℕ) → Taking fields → List ℕ → Kind
kind number fields call codes = record { number = number; fields = fields; call = call; codes = codes }

-- the codes are from "Why a call is turned down": 1 to 5 where the call has the field, and those that name its kind; leave's are from document 02
abbrev pub kinds : List Kind
kinds =
    kind 1 3 Deposit (1 ∷ 2 ∷ 6 ∷ 14 ∷ [])
    ∷ kind 2 3 Withdraw (1 ∷ 2 ∷ 6 ∷ 19 ∷ [])
    ∷ kind 3 6 Order (1 ∷ 3 ∷ 4 ∷ 5 ∷ 6 ∷ 7 ∷ 19 ∷ [])
    ∷ kind 4 2 Cancel (1 ∷ 4 ∷ 8 ∷ 9 ∷ [])
    ∷ kind 5 5 Open (3 ∷ 10 ∷ 11 ∷ 12 ∷ [])
    ∷ kind 6 1 Enter (4 ∷ 8 ∷ 9 ∷ 11 ∷ 15 ∷ [])
    ∷ kind 7 2 Match (3 ∷ 11 ∷ 12 ∷ 13 ∷ [])
    ∷ kind 8 6 Bid (1 ∷ 3 ∷ 5 ∷ 6 ∷ 11 ∷ 12 ∷ 16 ∷ 17 ∷ 18 ∷ 19 ∷ [])
    ∷ kind 9 2 Settle (3 ∷ 11 ∷ 12 ∷ 13 ∷ [])
    ∷ kind 10 1 Claim (4 ∷ 8 ∷ 9 ∷ 11 ∷ [])
    ∷ kind 11 2 Leave (1 ∷ 4 ∷ 8 ∷ 9 ∷ 11 ∷ [])
    ∷ []

-- a call's kind number, and then its fields
abbrev pub numbers_of_call : Call → List ℕ
numbers_of_call (Deposit member token amount) = 1 ∷ (member ∷ (token ∷ (amount ∷ [])))
numbers_of_call (Withdraw member token amount) = 2 ∷ (member ∷ (token ∷ (amount ∷ [])))
numbers_of_call (Order ticket member market side limit amount) = 3 ∷ (ticket ∷ (member ∷ (market ∷ (side ∷ (limit ∷ (amount ∷ []))))))
numbers_of_call (Cancel ticket member) = 4 ∷ (ticket ∷ (member ∷ []))
numbers_of_call (Open market block reference slack length) = 5 ∷ (market ∷ (block ∷ (reference ∷ (slack ∷ (length ∷ [])))))
numbers_of_call (Enter ticket) = 6 ∷ (ticket ∷ [])
numbers_of_call (Match market block) = 7 ∷ (market ∷ (block ∷ []))
numbers_of_call (Bid market member block side base bound) = 8 ∷ (market ∷ (member ∷ (block ∷ (side ∷ (base ∷ (bound ∷ []))))))
numbers_of_call (Settle market block) = 9 ∷ (market ∷ (block ∷ []))
numbers_of_call (Claim ticket) = 10 ∷ (ticket ∷ [])
numbers_of_call (Leave ticket member) = 11 ∷ (ticket ∷ (member ∷ []))

abbrev pub kind_of : Call → ℕ
kind_of c = get_or (numbers_of_call c) 0 0

-- the codes of a kind number
abbrev pub codes_in : List Kind → ℕ → List ℕ
codes_in [] n = []
codes_in (k ∷ ks) n = cond (eqb n k.number) k.codes (codes_in ks n)
