-- Demand 3: one statement about every list of submissions from the fresh state, of any engine. It uses of the engine only the answers that it gave
-- and what is read off the state: balances, tickets and the residue, as document 01 has it, the supply that refusal 14 looks at, and that a
-- refusal leaves the whole state, of a list of orders also the places of its answers.
-- It does not look at blocks, phases, which code refuses, the prices of matches and bids within the tickets' limits, a maker's bound, the numbers
-- that kinds 1, 2, 3, 5, 6, 9 and 11 answer, cancel's second and a bid's first, who cancels or leaves, that a list of more than 64 orders is
-- refused, and the numbers of a list's own answer: the calls' own definitions fix those. So an engine that refuses every call meets it.
use Rattle.std.specs.Prelude.{ℕ, suc, ◌+◌, ◌-◌, ◌≤◌, ◌<◌, ◌≡◌, cond, List, [], ◌∷◌, eqb, length, get_or, Ok, Err}
use Rattle.units.specs.Counts.{amount, price}
use Rattle.units.specs.Sums.{sum_to, sum_over, only}
use Rattle.pricing.specs.declared.Side.{Side}
use Rattle.pricing.specs.declared.Side.TheVariants.{Buy, Sell}
use Rattle.pricing.specs.Prices.{share_paid, share_got, fetches}
use Rattle.ledger.specs.Balances.{total_in}
use Rattle.model.specs.declared.state.Order.{Order}
use Rattle.model.specs.declared.state.Ticket.{Ticket}
use Rattle.model.specs.declared.state.TicketState.{TicketState}
use Rattle.model.specs.declared.state.TicketState.TheVariants.{Free, Resting, Entered}
use Rattle.model.specs.declared.state.Exchange.{Exchange}
use Rattle.model.specs.declared.call.Call.TheVariants as Call
use Rattle.model.specs.declared.answer.Refusal.{Refusal}
use Rattle.model.specs.declared.answer.Outcome.{Outcome}
use Rattle.model.specs.declared.orders.OrderFields.{OrderFields}
use Rattle.model.specs.declared.orders.AnswerPlace.{AnswerPlace}
use Rattle.model.specs.Sides.{offered, wanted}
use Rattle.model.specs.State.{balance, supply, residue, ticket, free_ticket, resting_or, fresh_exchange}
use Rattle.model.specs.Answers.{answer_line}
use Rattle.model.specs.Run.{Request, Engine}
use Rattle.model.specs.OrderLists.{order_call}
use Rattle.model.specs.Submissions.{Submission, WholeEngine, model_engine, events_of, state_after}
use Rattle.model.specs.History.{OrderTerms, PlacedOrder, no_order, placed, Part, absent, waiting, claimed, settled, RoundLog, Current, idle, running, T, P, G, came_in, went_out, holds, ticket_count, Payout, EndedRound, History, history_of}

-- ---- read off the state

-- all members' balances of token t
abbrev pub balances : Exchange → ℕ → ℕ
balances x t = total_in x.ledger t

-- "A ticket in a round holds nothing itself": a resting ticket's offer, where it is one of token t
abbrev pub resting_in : TicketState → ℕ → ℕ
resting_in Free t = 0
resting_in (Resting o) t = only (offered o.side o.market) o.offer.0 t
resting_in (Entered o) t = 0

unfoldable pub resting_total : List Ticket → ℕ → ℕ
resting_total ts t = sum_to 64 (λ k. resting_in (get_or ts k free_ticket).state t)

abbrev pub resting : Exchange → ℕ → ℕ
resting x t = resting_total x.tickets t

-- the terms of an order, as history tells them
abbrev pub terms_of : Order → OrderTerms
terms_of o = record { member = o.member; side = o.side; limit = o.limit.0 }

-- the part with which a ticket is in market n's round
abbrev pub entered_in : TicketState → ℕ → Part
entered_in Free n = absent
entered_in (Resting o) n = absent
entered_in (Entered o) n = cond (eqb n o.market) (waiting (terms_of o) o.offer.0) absent

-- the order of a ticket in use, as history tells it
abbrev pub placed_in : TicketState → PlacedOrder
placed_in Free = no_order
placed_in (Resting o) = placed (terms_of o) o.market o.offer.0
placed_in (Entered o) = placed (terms_of o) o.market o.offer.0

-- ---- worked from history

-- a ticket's part in a market's round
abbrev pub part_in : Current → ℕ → Part
part_in idle k = absent
part_in (running b) k = b.part k

-- a part that is still unclaimed; one that was claimed is over
abbrev pub unclaimed : Part → Part
unclaimed absent = absent
unclaimed (waiting terms o) = waiting terms o
unclaimed (claimed terms o s got) = absent

-- what a market's round holds of token t
abbrev pub holds_of : ℕ → RoundLog → ℕ → ℕ
holds_of n b t = only (offered Buy n) (holds b Buy) t + only (offered Sell n) (holds b Sell) t

abbrev pub current_holds : ℕ → Current → ℕ → ℕ
current_holds n idle t = 0
current_holds n (running b) t = holds_of n b t

-- what the rounds of markets 1 to 3 hold
unfoldable pub rounds_total : (ℕ → Current) → ℕ → ℕ
rounds_total f t = sum_to 3 (λ i. current_holds (suc i) (f (suc i)) t)

abbrev pub in_rounds : History → ℕ → ℕ
in_rounds y t = rounds_total y.rounds t

-- what a round that ended put into the residue: "What it holds after that claim's own moves goes into the tray"
abbrev pub put_by : ℕ → EndedRound → ℕ
put_by t e = holds_of e.market e.log t

-- ---- the clauses

-- every element of a list
pub data All {A : Type 0} (Q : A → Type 0) : List A → Type 0 where
  nil : All Q []
  cons : {a : A} {l : List A} → Q a → All Q l → All Q (a ∷ l)

-- the limit rule: a claim gets at least what one unit less than it paid fetches at its limit
pub record LimitKept (p : Payout) : Type 0 where
  pub kept : fetches p.terms.side p.terms.limit (p.s - 1) ≤ p.got

-- "Its full share is claim's s and got from these numbers": of an order with these terms and offer o
abbrev pub paid_by : RoundLog → OrderTerms → ℕ → ℕ
paid_by b terms o = share_paid o (P b terms.side) (T b terms.side)

abbrev pub got_by : RoundLog → OrderTerms → ℕ → ℕ
got_by b terms o = share_got o (G b terms.side) (T b terms.side)

-- a round never pays out more than came in, and every claim of it was its full share
pub record RoundPays (b : RoundLog) : Type 0 where
  pub covered : (side : Side) → went_out b side ≤ came_in b side
  pub shares :
      (k : ℕ) → k < 64 → (terms : OrderTerms) (o s got : ℕ) → b.part k ≡ claimed terms o s got
      → (s ≡ paid_by b terms o) × (got ≡ got_by b terms o)

-- a round that ended leaves fewer units of each token than it had tickets, and nothing where it had none
pub record EndedWell (e : EndedRound) : Type 0 where
  pub pays : RoundPays e.log
  pub fewer : 0 < ticket_count e.log → (t : ℕ) → put_by t e < ticket_count e.log
  pub nothing_put : ticket_count e.log ≡ 0 → (t : ℕ) → put_by t e ≡ 0

-- "A ticket is settled from its round's settle until its own claim"
pub record SettledTicket (y : History) (k : ℕ) (terms : OrderTerms) (market o : ℕ) (b : RoundLog) : Type 0 where
  pub ticket_range : k < 64
  pub market_low : 0 < market
  pub market_high : market < 4
  pub round : y.rounds market ≡ running b
  pub stage : b.stage ≡ settled
  pub part : b.part k ≡ waiting terms o

-- the order with these terms, market and offer
abbrev pub order_with : (terms : OrderTerms) (market o : ℕ) → Order
order_with terms market o =
    record { member = terms.member; market = market; side = terms.side; limit = price terms.limit; offer = amount o }

-- "paying it out leaves o - s with the ticket and adds got to its member's balance": an outcome that answers s and got and does just that
pub record PaysOut (x : Exchange) (k : ℕ) (o : Order) (s got : ℕ) (out : Outcome) : Type 0 where
  pub accepted : out.answer ≡ Ok (s, got)
  pub within : s ≤ o.offer.0
  -- the ticket rests with the same order and o - s, or is free at 0; every other ticket is as it was
  pub rest : ticket out.exchange k ≡ resting_or o (o.offer.0 - s)
  pub other_tickets : (j : ℕ) → (j ≡ k → ⊥) → ticket out.exchange j ≡ ticket x j
  -- its member has got more of the token that its side wants; every other balance is as it was
  pub payment : (t : ℕ) → t < 4 → balance out.exchange o.member t ≡ balance x o.member t + only (wanted o.side o.market) got t
  pub other_balances : (m t : ℕ) → (m ≡ o.member → ⊥) → balance out.exchange m t ≡ balance x m t

-- the state and history agree: of amounts
pub record BooksAgree (x : Exchange) (y : History) : Type 0 where
  -- conservation, per token
  pub conserved : (t : ℕ) → t < 4 → balances x t + resting x t + in_rounds y t + residue x t + y.withdrawn t ≡ y.deposited t
  -- what refusal 14 looks at is the accepted deposits less the accepted withdrawals
  pub supplied : (t : ℕ) → t < 4 → supply x t + y.withdrawn t ≡ y.deposited t
  -- every member's balance is what accepted calls brought to it less what they took from it
  pub accounts : (m : ℕ) → m < 16 → (t : ℕ) → t < 4 → balance x m t + y.debits m t ≡ y.credits m t

-- of tickets
pub record TicketsAgree (tickets : ℕ → TicketState) (orders : ℕ → PlacedOrder) (rounds : ℕ → Current) : Type 0 where
  -- every ticket's order is the one placed there, with its amount less the s of its claims
  pub tickets_are : (k : ℕ) → k < 64 → placed_in (tickets k) ≡ orders k
  -- and a ticket is in just the round in which it waits
  pub places_are : (k : ℕ) → k < 64 → (n : ℕ) → 0 < n → n < 4 → entered_in (tickets k) n ≡ unclaimed (part_in (rounds n) k)

-- of rounds that run
pub record RoundsPay (rounds : ℕ → Current) : Type 0 where
  -- a running round can pay what it owes, and has paid each claim its full share
  pub solvent : (n : ℕ) → 0 < n → n < 4 → (b : RoundLog) → rounds n ≡ running b → RoundPays b

-- of the past: rounds that ended, and claims
pub record PastAgrees (residue : ℕ → ℕ) (ended : List EndedRound) (payouts : List Payout) : Type 0 where
  -- "The tray read off the house equals the sum of what rounds put there so", each fewer units of a token than it had tickets
  pub residue_is : (t : ℕ) → t < 4 → residue t ≡ sum_over (put_by t) ended
  pub ended_well : All EndedWell ended
  -- the limit rule
  pub limits : All LimitKept payouts

-- of the engine, in this state and with this history
pub record EngineKeeps (f : Engine) (x : Exchange) (y : History) : Type 0 where
  -- a request that is refused leaves the state
  pub refused_stays : (q : Request) (why : Refusal) → (f x q).answer ≡ Err why → (f x q).exchange ≡ x
  -- every settled ticket's claim, with room for its line, is accepted and pays its full share, worked from history
  pub settled_pays :
      (k : ℕ) (terms : OrderTerms) (market o : ℕ) (b : RoundLog) → SettledTicket y k terms market o b
      → (y.orders k ≡ placed terms market o)
      × ((line room : ℕ) → length (answer_line line (Ok ((paid_by b terms o), (got_by b terms o)))) ≤ room
      → PaysOut x k (order_with terms market o) (paid_by b terms o) (got_by b terms o)
      (f x (record { line = line; room = room; call = Call.Claim k })))

-- what holds after a run, of an engine of requests, the state that was left and the history of the answers
pub record Whole (f : Engine) (x : Exchange) (y : History) : Type 0 where
  pub books : BooksAgree x y
  pub tickets : TicketsAgree (ticket x) y.orders y.rounds
  pub rounds : RoundsPay y.rounds
  pub past : PastAgrees (residue x) y.ended y.payouts
  pub engine : EngineKeeps f x y

-- "the orders made singly from first to last", as the engine's own requests on any lines with room: from state x they leave y, and their answers stand in
-- the places
pub data Singly (f : Engine) : Exchange → List OrderFields → List AnswerPlace → Exchange → Type 0 where
  no_order_left : {x : Exchange} → Singly f x [] [] x
  next_order :
      {x between y : Exchange} {order : OrderFields} {orders : List OrderFields} {place : AnswerPlace} {places : List AnswerPlace}
      → ((line room : ℕ) → length (answer_line line place.answer) ≤ room
      → f x (record { line = line; room = room; call = order_call order }) ≡ record { answer = place.answer; exchange = between })
      → Singly f between orders places y
      → Singly f x (order ∷ orders) (place ∷ places) y

-- of lists of orders, in this state
pub record ListsKeep (e : WholeEngine) (x : Exchange) : Type 0 where
  -- "both lists and the house then stay"
  pub refused_leaves :
      (orders : List OrderFields) (places : List AnswerPlace) (why : Refusal) → (e.order_list x orders places).answer ≡ Err why
      → ((e.order_list x orders places).exchange ≡ x) × ((e.order_list x orders places).answers ≡ places)
  -- an accepted list has as many answers as orders, so that each order is told, and as places, so that lists of different lengths are refused
  pub all_answered :
      (orders : List OrderFields) (places : List AnswerPlace) (a b : ℕ) → (e.order_list x orders places).answer ≡ Ok (a, b)
      → (length (e.order_list x orders places).answers ≡ length orders) × (length (e.order_list x orders places).answers ≡ length places)
  -- "The house and answers afterwards are those of the orders made singly from first to last"
  pub made_singly :
      (orders : List OrderFields) (places : List AnswerPlace) (a b : ℕ) → (e.order_list x orders places).answer ≡ Ok (a, b)
      → Singly e.request x orders (e.order_list x orders places).answers (e.order_list x orders places).exchange

-- the same of an engine of the whole house, and what holds of its other calls
pub record WholeHouse (e : WholeEngine) (x : Exchange) (y : History) : Type 0 where
  pub whole : Whole e.request x y
  pub lists : ListsKeep e x

-- the statement, of any engine
abbrev pub WholeRunOf : WholeEngine → Type 0
WholeRunOf e = (ss : List Submission) → WholeHouse e (state_after e fresh_exchange ss) (history_of (events_of e fresh_exchange ss))

-- the statement, of the model's
abbrev pub WholeRun : Type 0
WholeRun = WholeRunOf model_engine
