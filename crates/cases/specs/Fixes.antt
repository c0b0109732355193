-- What the whole-run statement fixes, in numbers: of any engine that gave the answers of the day until its settle, those of the last places
-- until theirs or to their end, or those of the tickets that left, the readings of the state that the engine left, from the first to the last
-- token, member, ticket and market.
use Rattle.std.specs.Prelude.{ℕ, ◌+◌, ◌≡◌, List, [], ◌∷◌, ◌++◌, Ok, Err}
use Rattle.pricing.specs.declared.Side.TheVariants.{Buy, Sell}
use Rattle.model.specs.declared.state.TicketState.TheVariants.{Free, Resting, Entered}
use Rattle.model.specs.declared.state.Exchange.{Exchange}
use Rattle.model.specs.declared.call.Call.{Call}
use Rattle.model.specs.declared.call.Call.TheVariants.{Match, Leave}
use Rattle.model.specs.declared.answer.Refusal.TheVariants.{WrongPhase, MalformedLine, BufferTooShort}
use Rattle.model.specs.declared.answer.Outcome.{Outcome}
use Rattle.model.specs.State.{balance, supply, residue, ticket, order_in}
use Rattle.model.specs.Run.{Engine, Event}
use Rattle.model.specs.History.{History, history_of}
use Rattle.model.specs.WholeRun.{balances, resting, Whole}
use Rattle.model.specs.Scripts.{Line, accepted, refused, balance_is, supply_is, residue_is, closed_is}
use Rattle.model.specs.Day.{until_settle, printed}
use Rattle.cases.specs.Examples.{last_places_ended, last_places_settled, last_places, sells_left}
use Rattle.cases.specs.Literals.{order}
use Rattle.cases.specs.KindCases.{claim_request}

-- the answers of a script as events; history does not look at the code of a refused one
unfoldable pub told : List Line → List Event
told [] = []
told (accepted c a b ∷ ls) = record { call = c; answer = Ok (a, b) } ∷ told ls
told (refused c n ∷ ls) = record { call = c; answer = Err MalformedLine } ∷ told ls
told (balance_is m t n ∷ ls) = told ls
told (supply_is t n ∷ ls) = told ls
told (residue_is t n ∷ ls) = told ls
told (closed_is m b ∷ ls) = told ls

abbrev pub told_settled : History
told_settled = history_of (told (last_places_ended ++ last_places_settled))

-- the claim of ticket 63, with the 9 bytes of "40,0,4,3" and its end byte: s 4 and got 3, the rest of 1 stays, and nothing else moves
pub record LastPaid (x : Exchange) (out : Outcome) : Type 0 where
  pub answered : out.answer ≡ Ok (4, 3)
  pub ticket_63 : ticket out.exchange 63 ≡ Resting (order 15 3 Sell 1000000 1)
  pub ticket_62 : ticket out.exchange 62 ≡ Resting (order 15 3 Buy 2500000 33)
  pub ticket_2 : ticket out.exchange 2 ≡ Entered (order 14 3 Buy 1000000 3)
  pub ticket_0 : ticket out.exchange 0 ≡ Free
  pub seller_0 : balance out.exchange 15 0 ≡ 39
  pub seller_3 : balance out.exchange 15 3 ≡ 67
  pub buyer_0 : balance out.exchange 14 0 ≡ 193
  pub buyer_3 : balance out.exchange 14 3 ≡ 14
  pub others : (m t : ℕ) → (m ≡ 15 → ⊥) → balance out.exchange m t ≡ balance x m t

-- the claim of ticket 2, which leaves nothing, with the 8 bytes of "7,0,3,3" and its end byte
pub record FullPaid (out : Outcome) : Type 0 where
  pub answered : out.answer ≡ Ok (3, 3)
  pub ticket_2 : ticket out.exchange 2 ≡ Free
  pub ticket_63 : ticket out.exchange 63 ≡ Entered (order 15 3 Sell 1000000 5)
  pub buyer_0 : balance out.exchange 14 0 ≡ 193
  pub buyer_3 : balance out.exchange 14 3 ≡ 17
  pub seller_3 : balance out.exchange 15 3 ≡ 67

-- with the second round settled, and ticket 1 claimed: it holds 4 quote and 5 base
pub record SettledFixed (f : Engine) (x : Exchange) : Type 0 where
  pub supply_0 : supply x 0 ≡ 301
  -- less the 1 withdrawn
  pub supply_3 : supply x 3 ≡ 89
  pub residue_0 : residue x 0 ≡ 2
  pub residue_3 : residue x 3 ≡ 2
  -- 301 - 4 - 2 and 90 - 1 - 5 - 2
  pub sum_0 : balances x 0 + resting x 0 ≡ 295
  pub sum_3 : balances x 3 + resting x 3 ≡ 82
  pub seller_0 : balance x 15 0 ≡ 36
  pub seller_3 : balance x 15 3 ≡ 67
  pub buyer_0 : balance x 14 0 ≡ 193
  pub buyer_3 : balance x 14 3 ≡ 14
  pub none_0 : balance x 0 0 ≡ 0
  pub ticket_0 : ticket x 0 ≡ Free
  pub ticket_1 : ticket x 1 ≡ Resting (order 15 3 Sell 1000000 1)
  pub ticket_2 : ticket x 2 ≡ Entered (order 14 3 Buy 1000000 3)
  pub ticket_62 : ticket x 62 ≡ Resting (order 15 3 Buy 2500000 33)
  pub ticket_63 : ticket x 63 ≡ Entered (order 15 3 Sell 1000000 5)
  pub order_63 : order_in (ticket x 63) ≡ order 15 3 Sell 1000000 5
  -- a refusal leaves all of it, 21 and any other
  pub short_stays : (f x (claim_request 40 8 63)).answer ≡ Err BufferTooShort → (f x (claim_request 40 8 63)).exchange ≡ x
  pub refused_stays : (f x (claim_request 40 80 1)).answer ≡ Err WrongPhase → (f x (claim_request 40 80 1)).exchange ≡ x
  pub last_paid : LastPaid x (f x (claim_request 40 9 63))
  pub full_paid : FullPaid (f x (claim_request 7 8 2))

abbrev pub FixesSettled : Type 0
FixesSettled = (f : Engine) (x : Exchange) → Whole f x told_settled → SettledFixed f x

-- all of them: three rounds ended
abbrev pub told_paid : History
told_paid = history_of (told last_places)

pub record PaidFixed (x : Exchange) : Type 0 where
  -- 2 + 0 + 1 quote and base
  pub residue_0 : residue x 0 ≡ 3
  pub residue_1 : residue x 1 ≡ 0
  pub residue_3 : residue x 3 ≡ 3
  -- 301 - 3 and 90 - 1 - 3
  pub sum_0 : balances x 0 + resting x 0 ≡ 298
  pub sum_3 : balances x 3 + resting x 3 ≡ 86
  pub seller_0 : balance x 15 0 ≡ 39
  pub buyer_3 : balance x 14 3 ≡ 17
  pub ticket_2 : ticket x 2 ≡ Free
  pub ticket_63 : ticket x 63 ≡ Resting (order 15 3 Sell 1000000 1)

abbrev pub FixesPaid : Type 0
FixesPaid = (f : Engine) (x : Exchange) → Whole f x told_paid → PaidFixed x

-- tickets 63 and 5 left market 3's round, which holds 35 quote and 98 base
abbrev pub told_left : History
told_left = history_of (told sells_left)

pub record LeftFixed (x : Exchange) : Type 0 where
  -- those that left rest with their offers, those that stayed are in the round
  pub ticket_63 : ticket x 63 ≡ Resting (order 15 3 Sell 2250000 170)
  pub ticket_5 : ticket x 5 ≡ Resting (order 13 3 Buy 2750000 240)
  pub ticket_62 : ticket x 62 ≡ Entered (order 14 3 Sell 2250000 90)
  pub ticket_6 : ticket x 6 ≡ Entered (order 13 3 Buy 2750000 35)
  -- 380 - 35 and 300 - 98
  pub sum_0 : balances x 0 + resting x 0 ≡ 345
  pub sum_3 : balances x 3 + resting x 3 ≡ 202
  pub seller_3 : balance x 15 3 ≡ 30
  pub buyer_0 : balance x 13 0 ≡ 25

abbrev pub FixesLeft : Type 0
FixesLeft = (f : Engine) (x : Exchange) → Whole f x told_left → LeftFixed x

-- an engine that accepts ticket 62's leave after the match: Q 35, S 98, and 35 / 2.5 is 14. Whatever it answers, the ticket is still in the round
unfoldable pub late_leave : List Line
late_leave = accepted (Match 3 14) 14 35 ∷ accepted (Leave 62 14) 90 0 ∷ []

abbrev pub FixesLate : Type 0
FixesLate =
    (f : Engine) (x : Exchange) → Whole f x (history_of (told (sells_left ++ late_leave))) → ticket x 62 ≡ Entered (order 14 3 Sell 2250000 90)

-- the answers that the day prints, beside its lines
unfoldable pub answered : List Call → List (ℕ × ℕ × ℕ) → List Event
answered [] ns = []
answered (c ∷ cs) [] = []
answered (c ∷ cs) (n ∷ ns) = record { call = c; answer = Ok (n.1, n.2) } ∷ answered cs ns

-- lines 1 to 11, which are all accepted
abbrev pub told_day : History
told_day = history_of (answered until_settle printed)

-- the first ticket, member and market: line 12, with the 13 bytes of "12,0,600,240" and its end byte
pub record FirstPaid (out : Outcome) : Type 0 where
  pub answered : out.answer ≡ Ok (600, 240)
  pub ticket_0 : ticket out.exchange 0 ≡ Free
  pub ticket_1 : ticket out.exchange 1 ≡ Entered (order 1 1 Sell 2000000 300)
  pub buyer_0 : balance out.exchange 0 0 ≡ 400
  pub buyer_1 : balance out.exchange 0 1 ≡ 240
  pub maker_0 : balance out.exchange 2 0 ≡ 350

-- after line 11: the round holds 750 quote and 240 base
pub record DayFixed (f : Engine) (x : Exchange) : Type 0 where
  pub supply_0 : supply x 0 ≡ 1500
  pub supply_1 : supply x 1 ≡ 300
  pub residue_0 : residue x 0 ≡ 0
  pub residue_1 : residue x 1 ≡ 0
  -- 1500 - 750 and 300 - 240
  pub sum_0 : balances x 0 + resting x 0 ≡ 750
  pub sum_1 : balances x 1 + resting x 1 ≡ 60
  pub buyer_0 : balance x 0 0 ≡ 400
  pub buyer_1 : balance x 0 1 ≡ 0
  pub maker_0 : balance x 2 0 ≡ 350
  pub maker_1 : balance x 2 1 ≡ 60
  pub ticket_0 : ticket x 0 ≡ Entered (order 0 1 Buy 3000000 600)
  pub ticket_1 : ticket x 1 ≡ Entered (order 1 1 Sell 2000000 300)
  pub first_paid : FirstPaid (f x (claim_request 12 13 0))

abbrev pub FixesDay : Type 0
FixesDay = (f : Engine) (x : Exchange) → Whole f x told_day → DayFixed f x
