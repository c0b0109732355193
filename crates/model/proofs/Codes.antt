-- Every call tests its codes in rising number, and 21 goes before them.
use mathlib.Core.Bool.{Bool, cond}
use Prim.Native.Nat.{◌<◌}
use mathlib.Core.Path.{ap, refl}
use native.Mathlib.Omega.{arith}
use lib.ListN.{length}
use borrow.Author.Tests.{le-ltb, lt-ltb}
use Rattle.model.specs.Answers.{answer_line, refusal_code}
use Rattle.model.specs.Calls.{refuse}
use Rattle.model.specs.Codes.{CodesRising, RoomsFirst}
use Rattle.model.specs.Run.{request_of, step_of}
use Rattle.model.specs.declared.answer.Refusal.{Refusal}
use Rattle.model.specs.declared.answer.Refusal.TheVariants.{BufferTooShort}
use Rattle.model.specs.declared.call.Call.TheVariants as Call

pub codes_rising : CodesRising
unfolding step_of
codes_rising x (Call.Deposit m t n) = record { step_is = refl; done_accepts = refl; codes_are = refl; rising = omega arith }
codes_rising x (Call.Withdraw m t n) = record { step_is = refl; done_accepts = refl; codes_are = refl; rising = omega arith }
codes_rising x (Call.Order k m mk sd lim n) = record { step_is = refl; done_accepts = refl; codes_are = refl; rising = omega arith }
codes_rising x (Call.Cancel k m) = record { step_is = refl; done_accepts = refl; codes_are = refl; rising = omega arith }
codes_rising x (Call.Open mk at r w len) = record { step_is = refl; done_accepts = refl; codes_are = refl; rising = omega arith }
codes_rising x (Call.Enter k) = record { step_is = refl; done_accepts = refl; codes_are = refl; rising = omega arith }
codes_rising x (Call.Match mk at) = record { step_is = refl; done_accepts = refl; codes_are = refl; rising = omega arith }
codes_rising x (Call.Bid mk m at sd n bound) = record { step_is = refl; done_accepts = refl; codes_are = refl; rising = omega arith }
codes_rising x (Call.Settle mk at) = record { step_is = refl; done_accepts = refl; codes_are = refl; rising = omega arith }
codes_rising x (Call.Claim k) = record { step_is = refl; done_accepts = refl; codes_are = refl; rising = omega arith }
codes_rising x (Call.Leave k m) = record { step_is = refl; done_accepts = refl; codes_are = refl; rising = omega arith }

pub rooms_first : RoomsFirst
unfolding request_of
rooms_first x q =
    record {
      short = λ l. ap (λ (t : Bool). cond t (refuse x BufferTooShort) (step_of x q.call)) (lt-ltb q.room (length (answer_line q.line (step_of x q.call).answer)) l);
      enough = λ l. ap (λ (t : Bool). cond t (refuse x BufferTooShort) (step_of x q.call)) (le-ltb q.room (length (answer_line q.line (step_of x q.call).answer)) l);
    }

-- a refusal's code is not 0
pub refusal_code_lem : (r : Refusal) → 0 < refusal_code r
refusal_code_lem Refusal.NoSuchMember = omega arith
refusal_code_lem Refusal.NoSuchToken = omega arith
refusal_code_lem Refusal.NoSuchMarket = omega arith
refusal_code_lem Refusal.NoSuchTicket = omega arith
refusal_code_lem Refusal.NoSuchSide = omega arith
refusal_code_lem Refusal.BadAmountOrLimit = omega arith
refusal_code_lem Refusal.TicketInUse = omega arith
refusal_code_lem Refusal.NoSuchOrder = omega arith
refusal_code_lem Refusal.WrongTicketState = omega arith
refusal_code_lem Refusal.BadTerms = omega arith
refusal_code_lem Refusal.WrongPhase = omega arith
refusal_code_lem Refusal.StaleBlock = omega arith
refusal_code_lem Refusal.TooEarly = omega arith
refusal_code_lem Refusal.SupplyExceeded = omega arith
refusal_code_lem Refusal.LimitOutOfBounds = omega arith
refusal_code_lem Refusal.AuctionOver = omega arith
refusal_code_lem Refusal.NotAvailable = omega arith
refusal_code_lem Refusal.BoundMissed = omega arith
refusal_code_lem Refusal.InsufficientBalance = omega arith
refusal_code_lem Refusal.MalformedLine = omega arith
refusal_code_lem Refusal.BufferTooShort = omega arith
refusal_code_lem Refusal.BadOrderList = omega arith
