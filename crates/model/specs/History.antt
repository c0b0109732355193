-- Document 01's "A whole run": what is "worked from the list's accepted calls, their fields and answers, and from nothing the engine keeps".
-- No state of an engine stands in this file.
use Rattle.std.specs.Prelude.{ℕ, zero, suc, ◌+◌, ◌-◌, Bool, true, false, cond, List, [], ◌∷◌, eqb, Ok, Err}
use Rattle.units.specs.Sums.{sum_to}
use Rattle.pricing.specs.declared.Side.{Side}
use Rattle.pricing.specs.declared.Side.TheVariants.{Buy, Sell}
use Rattle.model.specs.declared.call.Call.{Call}
use Rattle.model.specs.Answers.{Answer}
use Rattle.model.specs.Sides.{side_of, by_side, other, offered, wanted, gives, takes}
use Rattle.model.specs.Run.{Event}

-- ---- orders

-- the terms of an order: who offers, on which side, at which limit
pub record OrderTerms : Type 0 where
  pub member : ℕ
  pub side : Side
  pub limit : ℕ

-- a ticket's order, with "its order's amount less the s of that order's earlier claims"
pub data PlacedOrder : Type 0 where
  no_order : PlacedOrder
  placed : (terms : OrderTerms) (market left : ℕ) → PlacedOrder

abbrev pub no_terms : OrderTerms
no_terms = record { member = 0; side = Buy; limit = 0 }

abbrev pub terms_in : PlacedOrder → OrderTerms
terms_in no_order = no_terms
terms_in (placed terms market left) = terms

abbrev pub market_in : PlacedOrder → ℕ
market_in no_order = 0
market_in (placed terms market left) = market

-- the tokens that an order offers and wants
abbrev pub offered_in : PlacedOrder → ℕ
offered_in o = offered (terms_in o).side (market_in o)

abbrev pub wanted_in : PlacedOrder → ℕ
wanted_in o = wanted (terms_in o).side (market_in o)

-- an order with so much left, or none
abbrev pub placed_or : (terms : OrderTerms) (market left : ℕ) → PlacedOrder
placed_or terms market zero = no_order
placed_or terms market (suc n) = placed terms market (suc n)

-- after a claim that pays s: nothing stands where nothing is left
abbrev pub less_paid : PlacedOrder → ℕ → PlacedOrder
less_paid no_order s = no_order
less_paid (placed terms market left) s = placed_or terms market (left - s)

-- ---- rounds

-- a ticket's part in a round: it waits with its order's terms and the offer o that its enter put in, and is then absent again where it leaves, or
-- claimed, paying s and getting got
pub data Part : Type 0 where
  absent : Part
  waiting : (terms : OrderTerms) (o : ℕ) → Part
  claimed : (terms : OrderTerms) (o s got : ℕ) → Part

-- the part with which a ticket's order enters
abbrev pub part_of : PlacedOrder → Part
part_of no_order = absent
part_of (placed terms market left) = waiting terms left

-- a part that waited, claimed with s and got
abbrev pub claimed_as : Part → ℕ → ℕ → Part
claimed_as absent s got = absent
claimed_as (waiting terms o) s got = claimed terms o s got
claimed_as (claimed terms o s' got') s got = claimed terms o s' got'

-- until its match, until its settle, and until it ends
pub data Stage : Type 0 where
  collecting auctioning settled : Stage

-- a round from its open on: its tickets' parts, m and c of its match, and the sums of the n and the quote of its bids by side
pub record RoundLog : Type 0 where
  pub stage : Stage
  pub part : ℕ → Part
  pub m : ℕ
  pub c : ℕ
  pub bid_base : Side → ℕ
  pub bid_quote : Side → ℕ

abbrev pub empty_log : RoundLog
empty_log =
    record { stage = collecting; part = λ k. absent; m = 0; c = 0; bid_base = λ side. 0; bid_quote = λ side. 0 }

-- a round with one field set: a new field stands in the record, in empty_log, in these and in a case, and nowhere else
abbrev pub set_stage : RoundLog → Stage → RoundLog
set_stage b v =
    record { stage = v; part = b.part; m = b.m; c = b.c; bid_base = b.bid_base; bid_quote = b.bid_quote }

abbrev pub set_part : RoundLog → (ℕ → Part) → RoundLog
set_part b v =
    record { stage = b.stage; part = v; m = b.m; c = b.c; bid_base = b.bid_base; bid_quote = b.bid_quote }

abbrev pub set_m : RoundLog → ℕ → RoundLog
set_m b v =
    record { stage = b.stage; part = b.part; m = v; c = b.c; bid_base = b.bid_base; bid_quote = b.bid_quote }

abbrev pub set_c : RoundLog → ℕ → RoundLog
set_c b v =
    record { stage = b.stage; part = b.part; m = b.m; c = v; bid_base = b.bid_base; bid_quote = b.bid_quote }

abbrev pub set_bid_base : RoundLog → (Side → ℕ) → RoundLog
set_bid_base b v =
    record { stage = b.stage; part = b.part; m = b.m; c = b.c; bid_base = v; bid_quote = b.bid_quote }

abbrev pub set_bid_quote : RoundLog → (Side → ℕ) → RoundLog
set_bid_quote b v =
    record { stage = b.stage; part = b.part; m = b.m; c = b.c; bid_base = b.bid_base; bid_quote = v }

-- n where the two sides are the same
abbrev pub when_same : Side → Side → ℕ → ℕ
when_same Buy Buy n = n
when_same Buy Sell n = 0
when_same Sell Buy n = 0
when_same Sell Sell n = n

-- the o of a ticket on a side
abbrev pub offer_on : Side → Part → ℕ
offer_on a absent = 0
offer_on a (waiting terms o) = when_same a terms.side o
offer_on a (claimed terms o s got) = when_same a terms.side o

-- "T is the sum of o on a side"
abbrev pub T : RoundLog → Side → ℕ
T b side = sum_to 64 (λ k. offer_on side (b.part k))

-- what the match moved of the token that a side offers: c of quote, m of base
abbrev pub traded : RoundLog → Side → ℕ
traded b side = by_side side b.c b.m

-- what makers took of the token that a side offers, and what makers gave of it
abbrev pub taken : RoundLog → Side → ℕ
taken b side = by_side side (b.bid_quote Buy) (b.bid_base Sell)

abbrev pub given : RoundLog → Side → ℕ
given b side = by_side side (b.bid_quote Sell) (b.bid_base Buy)

-- "for buys, P is c plus the quote of the side 0 bids"; "For sells, P is m plus the n of the side 1 bids"
abbrev pub P : RoundLog → Side → ℕ
P b side = traded b side + taken b side

-- for buys "G is m plus their n"; for sells "G is c plus their quote"
abbrev pub G : RoundLog → Side → ℕ
G b side = traded b (other side) + given b (other side)

-- what a ticket's claim moved out of the token that side a offers: o - s where it is on that side, got where it is on the other
abbrev pub moved_out : Side → Part → ℕ
moved_out a absent = 0
moved_out a (waiting terms o) = 0
moved_out a (claimed terms o s got) = when_same a terms.side (o - s) + when_same (other a) terms.side got

-- "A round holds the buys' T and the quote of side 1 bids, less the quote of side 0 bids; and the sells' T and the n of side 0 bids, less the
-- n of side 1 bids; all less each claim's o - s and got, each in its token"
abbrev pub came_in : RoundLog → Side → ℕ
came_in b side = T b side + given b side

abbrev pub went_out : RoundLog → Side → ℕ
went_out b side = taken b side + sum_to 64 (λ k. moved_out side (b.part k))

abbrev pub holds : RoundLog → Side → ℕ
holds b side = came_in b side - went_out b side

-- how many tickets a round has, and how many of them wait for their claim
abbrev pub is_ticket : Part → ℕ
is_ticket absent = 0
is_ticket (waiting terms o) = 1
is_ticket (claimed terms o s got) = 1

abbrev pub is_waiting : Part → ℕ
is_waiting absent = 0
is_waiting (waiting terms o) = 1
is_waiting (claimed terms o s got) = 0

abbrev pub ticket_count : RoundLog → ℕ
ticket_count b = sum_to 64 (λ k. is_ticket (b.part k))

abbrev pub waiting_count : RoundLog → ℕ
waiting_count b = sum_to 64 (λ k. is_waiting (b.part k))

-- a market between rounds, or with its round
pub data Current : Type 0 where
  idle : Current
  running : RoundLog → Current

-- ---- history

-- an accepted claim's s and got, with its order's terms
pub record Payout : Type 0 where
  pub terms : OrderTerms
  pub s : ℕ
  pub got : ℕ

-- a round that ended, with its market
pub record EndedRound : Type 0 where
  pub market : ℕ
  pub log : RoundLog

-- deposits and withdrawals by token, what came to and went from each member by token, orders by ticket, rounds by market, the rounds that
-- ended, and all claims
pub record History : Type 0 where
  pub deposited : ℕ → ℕ
  pub withdrawn : ℕ → ℕ
  pub credits : ℕ → ℕ → ℕ
  pub debits : ℕ → ℕ → ℕ
  pub orders : ℕ → PlacedOrder
  pub rounds : ℕ → Current
  pub ended : List EndedRound
  pub payouts : List Payout

abbrev pub no_history : History
no_history =
    record { deposited = λ t. 0; withdrawn = λ t. 0; credits = λ m t. 0; debits = λ m t. 0; orders = λ k. no_order; rounds = λ n. idle; ended = []; payouts = [] }

-- history with one field set, likewise
abbrev pub set_deposited : History → (ℕ → ℕ) → History
set_deposited y v =
    record { deposited = v; withdrawn = y.withdrawn; credits = y.credits; debits = y.debits; orders = y.orders; rounds = y.rounds; ended = y.ended; payouts = y.payouts }

abbrev pub set_withdrawn : History → (ℕ → ℕ) → History
set_withdrawn y v =
    record { deposited = y.deposited; withdrawn = v; credits = y.credits; debits = y.debits; orders = y.orders; rounds = y.rounds; ended = y.ended; payouts = y.payouts }

abbrev pub set_credits : History → (ℕ → ℕ → ℕ) → History
set_credits y v =
    record { deposited = y.deposited; withdrawn = y.withdrawn; credits = v; debits = y.debits; orders = y.orders; rounds = y.rounds; ended = y.ended; payouts = y.payouts }

abbrev pub set_debits : History → (ℕ → ℕ → ℕ) → History
set_debits y v =
    record { deposited = y.deposited; withdrawn = y.withdrawn; credits = y.credits; debits = v; orders = y.orders; rounds = y.rounds; ended = y.ended; payouts = y.payouts }

abbrev pub set_orders : History → (ℕ → PlacedOrder) → History
set_orders y v =
    record { deposited = y.deposited; withdrawn = y.withdrawn; credits = y.credits; debits = y.debits; orders = v; rounds = y.rounds; ended = y.ended; payouts = y.payouts }

abbrev pub set_rounds : History → (ℕ → Current) → History
set_rounds y v =
    record { deposited = y.deposited; withdrawn = y.withdrawn; credits = y.credits; debits = y.debits; orders = y.orders; rounds = v; ended = y.ended; payouts = y.payouts }

abbrev pub set_ended : History → List EndedRound → History
set_ended y v =
    record { deposited = y.deposited; withdrawn = y.withdrawn; credits = y.credits; debits = y.debits; orders = y.orders; rounds = y.rounds; ended = v; payouts = y.payouts }

abbrev pub set_payouts : History → List Payout → History
set_payouts y v =
    record { deposited = y.deposited; withdrawn = y.withdrawn; credits = y.credits; debits = y.debits; orders = y.orders; rounds = y.rounds; ended = y.ended; payouts = v }

-- ---- what calls change

-- f with another value at k
unfoldable pub put {ℓ} : {A : Type ℓ} → (ℕ → A) → ℕ → A → ℕ → A
put f k a j = cond (eqb j k) a (f j)

abbrev pub log_of : Current → RoundLog
log_of idle = empty_log
log_of (running b) = b

abbrev pub with_part : RoundLog → ℕ → Part → RoundLog
with_part b k p = set_part b (put b.part k p)

abbrev pub with_settle : RoundLog → RoundLog
with_settle b = set_stage b settled

abbrev pub with_match : RoundLog → ℕ → ℕ → RoundLog
with_match b m c = set_stage (set_c (set_m b m) c) auctioning

-- n more on a side
abbrev pub added_on : (Side → ℕ) → Side → ℕ → Side → ℕ
added_on f side n x = f x + when_same x side n

abbrev pub with_bid : RoundLog → Side → ℕ → ℕ → RoundLog
with_bid b side n q = set_bid_quote (set_bid_base b (added_on b.bid_base side n)) (added_on b.bid_quote side q)

abbrev pub with_order : History → ℕ → PlacedOrder → History
with_order y k o = set_orders y (put y.orders k o)

abbrev pub with_deposit : History → ℕ → ℕ → History
with_deposit y t n = set_deposited y (put y.deposited t (y.deposited t + n))

abbrev pub with_withdrawal : History → ℕ → ℕ → History
with_withdrawal y t n = set_withdrawn y (put y.withdrawn t (y.withdrawn t + n))

-- n more of token t for member m
abbrev pub added_to : (ℕ → ℕ → ℕ) → ℕ → ℕ → ℕ → ℕ → ℕ → ℕ
added_to f m t n = put f m (put (f m) t (f m t + n))

abbrev pub with_credit : History → ℕ → ℕ → ℕ → History
with_credit y m t n = set_credits y (added_to y.credits m t n)

abbrev pub with_debit : History → ℕ → ℕ → ℕ → History
with_debit y m t n = set_debits y (added_to y.debits m t n)

abbrev pub with_round : History → ℕ → Current → History
with_round y n c = set_rounds y (put y.rounds n c)

abbrev pub with_payout : History → Payout → History
with_payout y p = set_payouts y (p ∷ y.payouts)

-- the market's round ends as b
abbrev pub with_end : History → ℕ → RoundLog → History
with_end y n b = set_ended (with_round y n idle) (record { market = n; log = b } ∷ y.ended)

-- "It ends with a settle without tickets or with its tickets' last claim": the round ends where no ticket of it is left to claim
abbrev pub end_or_round : History → ℕ → RoundLog → History
end_or_round y n b = cond (eqb (waiting_count b) 0) (with_end y n b) (with_round y n (running b))

abbrev pub same_stage : Stage → Stage → Bool
same_stage collecting collecting = true
same_stage collecting auctioning = false
same_stage collecting settled = false
same_stage auctioning collecting = false
same_stage auctioning auctioning = true
same_stage auctioning settled = false
same_stage settled collecting = false
same_stage settled auctioning = false
same_stage settled settled = true

-- "A round begins with an open", where none runs
abbrev pub round_begun : Current → Current
round_begun idle = running empty_log
round_begun (running b) = running b

-- a market's round changed, where it has one at this stage
abbrev pub changed_at : Stage → (RoundLog → RoundLog) → Current → Current
changed_at g f idle = idle
changed_at g f (running b) = running (cond (same_stage g b.stage) (f b) b)

-- the same, and the round may end by it
abbrev pub ended_at : Stage → (RoundLog → RoundLog) → History → ℕ → Current → History
ended_at g f y n idle = y
ended_at g f y n (running b) = cond (same_stage g b.stage) (end_or_round y n (f b)) y

-- an enter of ticket k with the order o: "Its tickets are those of that market entered until its match"
abbrev pub with_enter : History → ℕ → PlacedOrder → History
with_enter y k o = with_round y (market_in o) (changed_at collecting (λ b. with_part b k (part_of o)) (y.rounds (market_in o)))

-- a leave of ticket k with the order o, while its round collects: "the enter it undoes no longer counts there"
abbrev pub with_leave : History → ℕ → PlacedOrder → History
with_leave y k o = with_round y (market_in o) (changed_at collecting (λ b. with_part b k absent) (y.rounds (market_in o)))

-- a claim of ticket k with the order o: "paying it out leaves o - s with the ticket and adds got to its member's balance"; its part is claimed
abbrev pub with_claim : History → ℕ → PlacedOrder → ℕ → ℕ → History
with_claim y k o s got =
    ended_at settled (λ b. with_part b k (claimed_as (b.part k) s got))
    (with_credit (with_order (with_payout y (record { terms = terms_in o; s = s; got = got })) k (less_paid o s)) (terms_in o).member (wanted_in o) got)
    (market_in o)
    (y.rounds (market_in o))

-- one accepted call with its two numbers
unfoldable pub with_accepted : History → Call → ℕ → ℕ → History
with_accepted y (Call.Deposit member token n) a b = with_credit (with_deposit y token n) member token n
with_accepted y (Call.Withdraw member token n) a b = with_debit (with_withdrawal y token n) member token n
with_accepted y (Call.Order k member market side limit n) a b =
    with_debit (with_order y k (placed (record { member = member; side = side_of side; limit = limit }) market n)) member (offered (side_of side) market) n
with_accepted y (Call.Cancel k member) left b = with_credit (with_order y k no_order) (terms_in (y.orders k)).member (offered_in (y.orders k)) left
with_accepted y (Call.Open market at r w len) hi lo = with_round y market (round_begun (y.rounds market))
with_accepted y (Call.Enter k) a b = with_enter y k (y.orders k)
with_accepted y (Call.Match market at) m c = with_round y market (changed_at collecting (λ b. with_match b m c) (y.rounds market))
with_accepted y (Call.Bid market member at side n bound) n' q =
    with_credit
    (with_debit
    (with_round y market (changed_at auctioning (λ b. with_bid b (side_of side) n q) (y.rounds market)))
    member (wanted (side_of side) market) (gives (side_of side) n q))
    member (offered (side_of side) market) (takes (side_of side) n q)
with_accepted y (Call.Settle market at) quote base = ended_at auctioning with_settle y market (y.rounds market)
with_accepted y (Call.Claim k) s got = with_claim y k (y.orders k) s got
with_accepted y (Call.Leave k member) a b = with_leave y k (y.orders k)

-- a refused call says nothing
unfoldable pub with_event : History → Call → Answer → History
with_event y c (Ok (a, b)) = with_accepted y c a b
with_event y c (Err r) = y

unfoldable pub history_from : History → List Event → History
history_from y [] = y
history_from y (e ∷ es) = history_from (with_event y e.call e.answer) es

-- what a whole list says
abbrev pub history_of : List Event → History
history_of es = history_from no_history es
