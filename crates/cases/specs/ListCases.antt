-- Document 02, L5, a morning's orders at once: lists of orders with answers worked by hand from the page, wrong pairs of lengths at every border, and what a
-- list tells a whole run.
use Rattle.std.specs.Prelude.{ℕ, zero, suc, ◌+◌, ◌≡◌, List, [], ◌∷◌, ◌++◌, map, length, drop, replicate, Ok, Err}
use Rattle.pricing.specs.declared.Side.TheVariants.{Buy, Sell}
use Rattle.model.specs.declared.state.TicketState.{TicketState}
use Rattle.model.specs.declared.state.TicketState.TheVariants.{Free, Resting, Entered}
use Rattle.model.specs.declared.state.Exchange.{Exchange}
use Rattle.model.specs.declared.call.Call.{Call}
use Rattle.model.specs.declared.call.Call.TheVariants.{Deposit, Withdraw, Order, Cancel, Open, Enter}
use Rattle.model.specs.declared.answer.Refusal.TheVariants.{NoSuchMember, NoSuchMarket, BadAmountOrLimit, TicketInUse, InsufficientBalance, BufferTooShort, BadOrderList}
use Rattle.model.specs.Answers.{Answer}
use Rattle.model.specs.declared.answer.Outcome.{Outcome}
use Rattle.model.specs.declared.orders.OrderFields.{OrderFields}
use Rattle.model.specs.declared.orders.AnswerPlace.{AnswerPlace}
use Rattle.model.specs.State.{balance, ticket, fresh_exchange, credit}
use Rattle.model.specs.Calls.{accept}
use Rattle.model.specs.Run.{Request, Engine, Event, Reachable, step_of, fitted, request_of, after_calls}
use Rattle.model.specs.OrderLists.{Listed, orders_of, OrdersReachable, NothingChanges, CutAlike}
use Rattle.model.specs.Submissions.{Submission, single, order_list, ListEngine, WholeEngine, model_engine, events_of, state_after, told_by, left_by, ReachableIsRun, SpelledOut}
use Rattle.model.specs.History.{PlacedOrder, no_order, placed, History, history_of}
use Rattle.model.specs.WholeRun.{Singly, ListsKeep, WholeRunOf}
use Rattle.cases.specs.Literals.{order, terms}
use Rattle.cases.specs.KindCases.{answer_numbers}
use Rattle.cases.specs.ClauseCases.{moving}
use Rattle.cases.specs.Pasts.{TokenNumbers, token_numbers, token_in, MemberNumbers, member_numbers, member_in}

-- ---- a list

-- an order's fields, in the paper's order
abbrev pub fields : (ticket member market side limit amount : ℕ) → OrderFields
fields ticket member market side limit amount =
    record { ticket = ticket; member = member; market = market; side = side; limit = limit; amount = amount }

abbrev pub place : Answer → AnswerPlace
place a = record { answer = a }

-- what every place holds before the call
abbrev pub held : AnswerPlace
held = place (Ok (7, 8))

abbrev pub place_numbers : AnswerPlace → ℕ × ℕ × ℕ
place_numbers p = answer_numbers p.answer

-- an order of a list, and what its place holds after the call
pub record OrderLine : Type 0 where
  pub order : OrderFields
  pub answered : ℕ × ℕ × ℕ

abbrev pub order_line : (ticket member market side limit amount : ℕ) (code first second : ℕ) → OrderLine
order_line ticket member market side limit amount code first second =
    record { order = fields ticket member market side limit amount; answered = (code, first, second) }

abbrev pub orders_in : List OrderLine → List OrderFields
orders_in ls = map (λ (l : OrderLine). l.order) ls

abbrev pub answers_in : List OrderLine → List (ℕ × ℕ × ℕ)
answers_in ls = map (λ (l : OrderLine). l.answered) ls

-- the call's own answer, and those in the places
abbrev pub list_numbers : Listed → (ℕ × ℕ × ℕ) × List (ℕ × ℕ × ℕ)
list_numbers l = (answer_numbers l.answer, map place_numbers l.answers)

-- ---- lists worked by hand

-- member 0 has 10 quote, member 1 has 5 of token 1
abbrev pub funded : Exchange
funded = after_calls fresh_exchange (Deposit 0 0 10 ∷ Deposit 1 1 5 ∷ [])

unfoldable pub nine_orders : List OrderLine
nine_orders =
    order_line 0 0 1 0 3000000 4 0 4 0
    -- the ticket that the order before it took
    ∷ order_line 0 1 1 1 1 2 7 0 0
    -- all of a balance, and then none is left
    ∷ order_line 1 1 1 1 1 5 0 5 0
    ∷ order_line 2 1 1 1 1 1 19 0 0
    -- 1, 3, 4, 5 and 6; 3, 4, 5 and 6
    ∷ order_line 64 16 0 2 0 0 1 0 0
    ∷ order_line 64 0 4 2 0 0 3 0 0
    -- a limit one too high, and the highest, on the ticket that stayed free
    ∷ order_line 3 0 1 0 2000000001 1 6 0 0
    ∷ order_line 3 0 1 0 2000000000 6 0 6 0
    ∷ order_line 4 0 1 0 1 1 19 0 0
    ∷ []

-- "refused ones in their places": a list of refused orders is itself accepted
unfoldable pub refused_orders : List OrderLine
refused_orders =
    order_line 64 0 1 2 0 0 4 0 0
    ∷ order_line 2 0 1 2 0 0 5 0 0
    ∷ order_line 2 0 0 0 1 1 3 0 0
    ∷ order_line 2 0 1 0 0 1 6 0 0
    ∷ order_line 2 0 1 0 1 11 19 0 0
    ∷ []

abbrev pub nine_listed : Listed
nine_listed = orders_of funded (orders_in nine_orders) (replicate 9 held)

abbrev pub refused_listed : Listed
refused_listed = orders_of funded (orders_in refused_orders) (replicate 5 held)

-- balances of members 0 and 1 in tokens 0 and 1, and tickets 0 to 4
abbrev pub balances_in : Exchange → List ℕ
balances_in x = balance x 0 0 ∷ balance x 0 1 ∷ balance x 1 0 ∷ balance x 1 1 ∷ []

abbrev pub tickets_in : Exchange → List TicketState
tickets_in x = ticket x 0 ∷ ticket x 1 ∷ ticket x 2 ∷ ticket x 3 ∷ ticket x 4 ∷ []

abbrev pub nine_tickets : List TicketState
nine_tickets =
    Resting (order 0 1 Buy 3000000 4) ∷ Resting (order 1 1 Sell 1 5) ∷ Free ∷ Resting (order 0 1 Buy 2000000000 6) ∷ Free ∷ []

-- "up to 64": a unit each, from ticket k on
unfoldable pub unit_orders : (k n : ℕ) → List OrderFields
unit_orders k zero = []
unit_orders k (suc n) = fields k 15 3 0 1 1 ∷ unit_orders (suc k) n

-- member 15 has 64 quote
abbrev pub full_listed : Listed
full_listed = orders_of (after_calls fresh_exchange (Deposit 15 0 64 ∷ [])) (unit_orders 0 64) (replicate 64 held)

-- ---- lengths

-- n orders and m places, whatever they are, in any state: "both lists and the house then stay"
abbrev pub RefusedWhole : (n m : ℕ) → Type 0
RefusedWhole n m =
    (x : Exchange) (f : OrderFields) (p : AnswerPlace)
    → orders_of x (replicate n f) (replicate m p) ≡ record { answer = Err BadOrderList; answers = replicate m p; exchange = x }

-- "The call's own answer is 0 .. with two zeros", whatever became of its orders
abbrev pub AcceptedWhole : ℕ → Type 0
AcceptedWhole n = (x : Exchange) (f : OrderFields) (p : AnswerPlace) → (orders_of x (replicate n f) (replicate n p)).answer ≡ Ok (0, 0)

-- "when the lists differ in length or have more than 64 places"
pub record LengthsRefused : Type 0 where
  pub orders_1_places_0 : RefusedWhole 1 0
  pub orders_0_places_1 : RefusedWhole 0 1
  pub orders_1_places_2 : RefusedWhole 1 2
  pub orders_2_places_1 : RefusedWhole 2 1
  pub orders_63_places_64 : RefusedWhole 63 64
  pub orders_64_places_63 : RefusedWhole 64 63
  pub orders_64_places_65 : RefusedWhole 64 65
  pub orders_65_places_64 : RefusedWhole 65 64
  pub orders_65_places_65 : RefusedWhole 65 65
  -- far above 64, and far apart
  pub orders_66_places_66 : RefusedWhole 66 66
  pub orders_70_places_70 : RefusedWhole 70 70
  pub orders_128_places_128 : RefusedWhole 128 128
  pub orders_66_places_64 : RefusedWhole 66 64
  pub orders_64_places_66 : RefusedWhole 64 66
  pub orders_128_places_0 : RefusedWhole 128 0
  pub orders_0_places_64 : RefusedWhole 0 64
  pub orders_64_places_1 : RefusedWhole 64 1
  pub orders_20_places_10 : RefusedWhole 20 10
  pub orders_10_places_20 : RefusedWhole 10 20

pub record LengthsAccepted : Type 0 where
  -- nothing is asked and nothing moves
  pub none : (x : Exchange) → orders_of x [] [] ≡ record { answer = Ok (0, 0); answers = []; exchange = x }
  pub orders_1 : AcceptedWhole 1
  pub orders_2 : AcceptedWhole 2
  pub orders_32 : AcceptedWhole 32
  pub orders_63 : AcceptedWhole 63
  pub orders_64 : AcceptedWhole 64

-- ---- what a list tells

abbrev pub event : Call → Answer → Event
event c a = record { call = c; answer = a }

-- of the nine
unfoldable pub nine_told : List Event
nine_told =
    event (Order 0 0 1 0 3000000 4) (Ok (4, 0))
    ∷ event (Order 0 1 1 1 1 2) (Err TicketInUse)
    ∷ event (Order 1 1 1 1 1 5) (Ok (5, 0))
    ∷ event (Order 2 1 1 1 1 1) (Err InsufficientBalance)
    ∷ event (Order 64 16 0 2 0 0) (Err NoSuchMember)
    ∷ event (Order 64 0 4 2 0 0) (Err NoSuchMarket)
    ∷ event (Order 3 0 1 0 2000000001 1) (Err BadAmountOrLimit)
    ∷ event (Order 3 0 1 0 2000000000 6) (Ok (6, 0))
    ∷ event (Order 4 0 1 0 1 1) (Err InsufficientBalance)
    ∷ []

-- n orders and m places that tell nothing and leave the state
pub record Silent (n m : ℕ) : Type 0 where
  pub tells : (x : Exchange) (f : OrderFields) (p : AnswerPlace) → told_by model_engine x (order_list (replicate n f) (replicate m p)) ≡ []
  pub leaves : (x : Exchange) (f : OrderFields) (p : AnswerPlace) → left_by model_engine x (order_list (replicate n f) (replicate m p)) ≡ x

pub record ListsSilent : Type 0 where
  pub none : Silent 0 0
  pub orders_2_places_1 : Silent 2 1
  pub orders_1_places_2 : Silent 1 2
  pub orders_65_places_65 : Silent 65 65
  pub orders_128_places_128 : Silent 128 128

-- ---- a run with lists

abbrev pub request : (line room : ℕ) → Call → Submission
request line room c = single (record { line = line; room = room; call = c })

-- requests with room for their answers, and lists between them
unfoldable pub mixed_run : List Submission
mixed_run =
    request 1 80 (Deposit 0 0 10)
    ∷ request 2 80 (Deposit 1 1 5)
    ∷ order_list (orders_in nine_orders) (replicate 9 held)
    ∷ request 3 80 (Cancel 1 1)
    -- an order that would be accepted, without a place: 22
    ∷ order_list (fields 2 1 1 1 1 5 ∷ []) []
    ∷ request 4 80 (Withdraw 1 1 2)
    -- 21
    ∷ request 5 7 (Withdraw 1 1 2)
    ∷ request 6 80 (Open 1 10 2500000 100000 10)
    ∷ request 7 80 (Enter 0)
    -- ticket 0 is in the round, ticket 1 is free again
    ∷ order_list (fields 0 1 1 1 1 2 ∷ fields 1 1 1 1 1 2 ∷ []) (held ∷ held ∷ [])
    ∷ order_list [] []
    ∷ []

unfoldable pub mixed_told : List Event
mixed_told =
    event (Deposit 0 0 10) (Ok (10, 0))
    ∷ event (Deposit 1 1 5) (Ok (5, 0))
    ∷ (nine_told
    ++ (event (Cancel 1 1) (Ok (5, 0))
    ∷ event (Withdraw 1 1 2) (Ok (3, 0))
    ∷ event (Withdraw 1 1 2) (Err BufferTooShort)
    -- hi 2,500,000 × 1.1, lo 2,500,000 × 0.9
    ∷ event (Open 1 10 2500000 100000 10) (Ok (2750000, 2250000))
    ∷ event (Enter 0) (Ok (4, 0))
    ∷ event (Order 0 1 1 1 1 2) (Err TicketInUse)
    ∷ event (Order 1 1 1 1 1 2) (Ok (2, 0))
    ∷ []))

-- a run read off its state and off its answers
pub record RunNumbers : Type 0 where
  pub tickets : List TicketState
  pub orders : List PlacedOrder
  pub tokens : List TokenNumbers
  pub members : List MemberNumbers

abbrev pub run_numbers : Exchange → History → RunNumbers
run_numbers x y =
    record {
      tickets = tickets_in x;
      orders = map y.orders (0 ∷ 1 ∷ 2 ∷ 3 ∷ 4 ∷ []);
      tokens = map (token_in x y) (0 ∷ 1 ∷ []);
      members = member_in x y 0 0 ∷ member_in x y 1 1 ∷ [];
    }

abbrev pub mixed_numbers : RunNumbers
mixed_numbers =
    record {
      tickets = Entered (order 0 1 Buy 3000000 4) ∷ Resting (order 1 1 Sell 1 2) ∷ Free ∷ Resting (order 0 1 Buy 2000000000 6) ∷ Free ∷ [];
      orders = placed (terms 0 Buy 3000000) 1 4 ∷ placed (terms 1 Sell 1) 1 2 ∷ no_order ∷ placed (terms 0 Buy 2000000000) 1 6 ∷ no_order ∷ [];
      -- of token 0: 0 + 6 + 4 + 0 + 0 = 10; of token 1: 1 + 2 + 0 + 0 + 2 = 5
      tokens = token_numbers 0 0 6 4 0 0 10 ∷ token_numbers 1 1 2 0 0 2 5 ∷ [];
      -- the deposit of 10, the orders of 4 and 6; the deposit of 5 and the cancel's 5, the orders of 5 and 2 and the withdrawal of 2
      members = member_numbers 0 0 0 10 10 ∷ member_numbers 1 1 1 10 9 ∷ [];
    }

abbrev pub mixed_read : RunNumbers
mixed_read = run_numbers (state_after model_engine fresh_exchange mixed_run) (history_of (events_of model_engine fresh_exchange mixed_run))

-- a token's balances, resting offers, rounds, residue and withdrawals, and its deposits
abbrev pub summed_up : TokenNumbers → ℕ × ℕ
summed_up t = (t.balances + t.resting + t.rounds + t.residue + t.withdrawn, t.deposited)

-- ---- what the whole-run statement says of lists

abbrev pub listed : Answer → List AnswerPlace → Exchange → Listed
listed a ps x = record { answer = a; answers = ps; exchange = x }

-- a state that is not the fresh one; one order of the nine placed
abbrev pub one_moved : Exchange
one_moved = credit fresh_exchange 0 0 1

abbrev pub four_placed : Exchange
four_placed = after_calls funded (Order 0 0 1 0 3000000 4 ∷ [])

abbrev pub outcome : Answer → Exchange → Outcome
outcome a x = record { answer = a; exchange = x }

-- member 1 sells 5 of market 2 on ticket 3 at 40; on line 40 with the 9 bytes of "40,0,5,0" and its end byte
abbrev pub one_order : OrderFields
one_order = fields 3 1 2 1 40 5

abbrev pub one_request : (line room : ℕ) → Request
one_request line room = record { line = line; room = room; call = Order 3 1 2 1 40 5 }

-- and again, for the 8 bytes of "1,7,0,0" and its end byte
abbrev pub same_again : List OrderFields
same_again = one_order ∷ one_order ∷ []

-- of any engine, in any state: a refused list with one place, and accepted ones, whatever numbers they are answered with
pub record ListsFixed (e : WholeEngine) (x : Exchange) : Type 0 where
  pub state_stays :
      (f : OrderFields) (p : AnswerPlace) → (e.order_list x (f ∷ []) (p ∷ [])).answer ≡ Err BadOrderList → (e.order_list x (f ∷ []) (p ∷ [])).exchange ≡ x
  pub places_stay :
      (f : OrderFields) (p : AnswerPlace) → (e.order_list x (f ∷ []) (p ∷ [])).answer ≡ Err BadOrderList
      → (e.order_list x (f ∷ []) (p ∷ [])).answers ≡ p ∷ []
  pub two_answered :
      (f h : OrderFields) (p q : AnswerPlace) → (e.order_list x (f ∷ h ∷ []) (p ∷ q ∷ [])).answer ≡ Ok (3, 4)
      → length (e.order_list x (f ∷ h ∷ []) (p ∷ q ∷ [])).answers ≡ 2
  -- without as many places as orders none is accepted
  pub placeless : (f : OrderFields) → (e.order_list x (f ∷ []) []).answer ≡ Ok (3, 4) → ⊥
  -- an order on line 40 with 9 bytes gets the answer in its place, and leaves the state that the list left
  pub one_made :
      (p : AnswerPlace) → (e.order_list x (one_order ∷ []) (p ∷ [])).answer ≡ Ok (3, 4)
      → (e.order_list x (one_order ∷ []) (p ∷ [])).answers ≡ place (Ok (5, 0)) ∷ []
      → e.request x (one_request 40 9) ≡ outcome (Ok (5, 0)) (e.order_list x (one_order ∷ []) (p ∷ [])).exchange
  -- the second of two is made in the state that the first one left
  pub two_made :
      (p q : AnswerPlace) → (e.order_list x same_again (p ∷ q ∷ [])).answer ≡ Ok (0, 0)
      → (e.order_list x same_again (p ∷ q ∷ [])).answers ≡ place (Ok (5, 0)) ∷ place (Err TicketInUse) ∷ []
      → e.request (e.request x (one_request 40 9)).exchange (one_request 1 8)
      ≡ outcome (Err TicketInUse) (e.order_list x same_again (p ∷ q ∷ [])).exchange
  -- no order leaves the state
  pub none_made : (e.order_list x [] []).answer ≡ Ok (0, 0) → (e.order_list x [] []).exchange ≡ x

abbrev pub FixesLists : Type 0
FixesLists = (e : WholeEngine) (x : Exchange) → ListsKeep e x → ListsFixed e x

-- the model's requests, and these lists
abbrev pub house_with : ListEngine → WholeEngine
house_with g = record { request = request_of; order_list = g }

-- engines that refuse every list: one leaves all, the others clear the places, write into the first one, credit a unit
abbrev pub refusing_lists : ListEngine
refusing_lists x fs ps = listed (Err BadOrderList) ps x

abbrev pub clearing : ListEngine
clearing x fs ps = listed (Err BadOrderList) [] x

abbrev pub writing : ListEngine
writing x fs [] = listed (Err BadOrderList) [] x
writing x fs (p ∷ ps) = listed (Err BadOrderList) (place (Err BadOrderList) ∷ ps) x

abbrev pub crediting : ListEngine
crediting x fs ps = listed (Err BadOrderList) ps (credit x 0 0 1)

-- an engine that answers 7 and 8 to every request that has room, and moves nothing; and to lists of none and of one likewise
abbrev pub seven_eight : Engine
seven_eight x q = fitted x q.line q.room (accept 7 8 x)

abbrev pub up_to_one : ListEngine
up_to_one x [] [] = listed (Ok (0, 0)) [] x
up_to_one x [] (p ∷ ps) = listed (Err BadOrderList) (p ∷ ps) x
up_to_one x (f ∷ []) [] = listed (Err BadOrderList) [] x
up_to_one x (f ∷ []) (p ∷ []) = listed (Ok (0, 0)) (held ∷ []) x
up_to_one x (f ∷ []) (p ∷ q ∷ ps) = listed (Err BadOrderList) (p ∷ q ∷ ps) x
up_to_one x (f ∷ g ∷ fs) ps = listed (Err BadOrderList) ps x

-- its requests, and lists that are all accepted with these answers and this state
abbrev pub seven_eight_with : ListEngine → WholeEngine
seven_eight_with g = record { request = seven_eight; order_list = g }

abbrev pub answering : (List OrderFields → List AnswerPlace) → (Exchange → Exchange) → WholeEngine
answering a s = seven_eight_with (λ x fs ps. listed (Ok (0, 0)) (a fs) (s x))

abbrev pub each_held : List OrderFields → List AnswerPlace
each_held fs = map (λ f. held) fs

pub record ListsMet : Type 0 where
  pub refusing_all : (x : Exchange) → ListsKeep (house_with refusing_lists) x
  pub up_to_one_lem : (x : Exchange) → ListsKeep (seven_eight_with up_to_one) x
  pub model_fresh : ListsKeep model_engine fresh_exchange
  pub model_mixed : ListsKeep model_engine (state_after model_engine fresh_exchange mixed_run)

pub record ListsRefused : Type 0 where
  pub clears : (x : Exchange) → ListsKeep (house_with clearing) x → ⊥
  pub writes : (x : Exchange) → ListsKeep (house_with writing) x → ⊥
  pub credits : ListsKeep (house_with crediting) fresh_exchange → ⊥
  -- an answer fewer, one more, one without a place
  pub fewer : (x : Exchange) → ListsKeep (answering (λ fs. drop 1 (each_held fs)) (λ y. y)) x → ⊥
  pub more : (x : Exchange) → ListsKeep (answering (λ fs. held ∷ each_held fs) (λ y. y)) x → ⊥
  pub placeless : (x : Exchange) → ListsKeep (answering each_held (λ y. y)) x → ⊥
  -- other answers than to the requests, another state than they leave
  pub other_answer : (x : Exchange) → ListsKeep (answering (λ fs. map (λ f. place (Ok (7, 9))) fs) (λ y. y)) x → ⊥
  pub other_state : ListsKeep (answering each_held (λ y. credit y 0 0 1)) fresh_exchange → ⊥

-- orders made singly by requests: two of them, and none
pub record SinglyMet : Type 0 where
  pub none : (f : Engine) (x : Exchange) → Singly f x [] [] x
  pub two : Singly request_of funded (fields 0 0 1 0 3000000 4 ∷ fields 0 1 1 1 1 2 ∷ []) (place (Ok (4, 0)) ∷ place (Err TicketInUse) ∷ []) four_placed

pub record SinglyRefused : Type 0 where
  -- an order without its answer, an answer without its order, a state without an order
  pub answer_less : (f : Engine) (x y : Exchange) (o : OrderFields) → Singly f x (o ∷ []) [] y → ⊥
  pub answer_more : (f : Engine) (x y : Exchange) (p : AnswerPlace) → Singly f x [] (p ∷ []) y → ⊥
  pub none_moved : (f : Engine) → Singly f fresh_exchange [] [] one_moved → ⊥
  -- a unit less in the answer, the state before it, the second answer in the first place
  pub answer : (y : Exchange) → Singly request_of funded (fields 0 0 1 0 3000000 4 ∷ []) (place (Ok (3, 0)) ∷ []) y → ⊥
  pub state : Singly request_of funded (fields 0 0 1 0 3000000 4 ∷ []) (place (Ok (4, 0)) ∷ []) funded → ⊥
  pub order :
      (y : Exchange)
      → Singly request_of funded (fields 0 0 1 0 3000000 4 ∷ fields 0 1 1 1 1 2 ∷ []) (place (Err TicketInUse) ∷ place (Ok (4, 0)) ∷ []) y → ⊥
  -- the second order in the first one's state: member 1's 2 would be placed
  pub first_state :
      (y : Exchange)
      → Singly request_of funded (fields 0 0 1 0 3000000 4 ∷ fields 0 1 1 1 1 2 ∷ []) (place (Ok (4, 0)) ∷ place (Ok (2, 0)) ∷ []) y → ⊥

-- ---- engines of the whole house

-- the orders are placed, and each is told as refused
abbrev pub hiding : ListEngine
hiding x fs ps = listed (Ok (0, 0)) (map (λ f. place (Err InsufficientBalance)) fs) (orders_of x fs ps).exchange

-- they are placed, and the list is refused
abbrev pub denying : ListEngine
denying x fs ps = listed (Err BadOrderList) ps (orders_of x fs ps).exchange

-- they are told as placed, and nothing moves
abbrev pub promising : ListEngine
promising x fs ps = listed (Ok (0, 0)) (orders_of x fs ps).answers x

-- they are placed on the tickets after those that are told
abbrev pub misplacing : ListEngine
misplacing x fs ps =
    listed (Ok (0, 0)) (orders_of x fs ps).answers
    (orders_of x (map (λ (f : OrderFields). fields (suc f.ticket) f.member f.market f.side f.limit f.amount) fs) ps).exchange

-- a deposit of 10, and an order of 4 in a list
unfoldable pub one_listed : List Submission
one_listed = request 1 80 (Deposit 0 0 10) ∷ order_list (fields 0 0 1 0 3000000 4 ∷ []) (held ∷ []) ∷ []

pub record HousesRefused : Type 0 where
  pub hides : WholeRunOf (house_with hiding) → ⊥
  pub denies : WholeRunOf (house_with denying) → ⊥
  pub promises : WholeRunOf (house_with promising) → ⊥
  pub misplaces : WholeRunOf (house_with misplacing) → ⊥
  -- a request that is refused and moves
  pub moves : WholeRunOf (record { request = moving; order_list = refusing_lists }) → ⊥
  pub clears : WholeRunOf (house_with clearing) → ⊥
  pub credits : WholeRunOf (house_with crediting) → ⊥

-- ---- a list of none, a list of one, lists cut in two, and the states that lists leave

-- with no place, and with one
pub record EmptyUsed : Type 0 where
  pub state : (x : Exchange) → (orders_of x [] []).exchange ≡ x
  pub answers : (x : Exchange) → (orders_of x [] []).answers ≡ []
  pub state_with_place : (x : Exchange) (p : AnswerPlace) → (orders_of x [] (p ∷ [])).exchange ≡ x
  pub place_stays : (x : Exchange) (p : AnswerPlace) → (orders_of x [] (p ∷ [])).answers ≡ p ∷ []

abbrev pub NothingMet : Type 0
NothingMet = NothingChanges fresh_exchange (held ∷ []) (listed (Err BadOrderList) (held ∷ []) fresh_exchange)

pub record NothingRefused : Type 0 where
  pub state : NothingChanges fresh_exchange (held ∷ []) (listed (Err BadOrderList) (held ∷ []) one_moved) → ⊥
  pub place_cleared : NothingChanges fresh_exchange (held ∷ []) (listed (Err BadOrderList) [] fresh_exchange) → ⊥

abbrev pub OneUsed : Type 0
OneUsed =
    (x : Exchange)
    → orders_of x (one_order ∷ []) (held ∷ []) ≡ listed (Ok (0, 0)) (place (step_of x (Order 3 1 2 1 40 5)).answer ∷ []) (step_of x (Order 3 1 2 1 40 5)).exchange

-- the same state, the same answers, and all three accepted
pub record CutTold (whole first second : Listed) : Type 0 where
  pub state : whole.exchange ≡ second.exchange
  pub answers : whole.answers ≡ first.answers ++ second.answers
  pub accepted : (whole.answer ≡ Ok (0, 0)) × (first.answer ≡ Ok (0, 0)) × (second.answer ≡ Ok (0, 0))

-- 2 + 1 orders; 63 + 1 and 1 + 63 of them
pub record CutUsed : Type 0 where
  pub two_and_one :
      (x : Exchange) (f g h : OrderFields) (p q r : AnswerPlace)
      → CutTold (orders_of x (f ∷ g ∷ h ∷ []) (p ∷ q ∷ r ∷ [])) (orders_of x (f ∷ g ∷ []) (p ∷ q ∷ []))
      (orders_of (orders_of x (f ∷ g ∷ []) (p ∷ q ∷ [])).exchange (h ∷ []) (r ∷ []))
  pub all_but_last :
      (x : Exchange) (f g : OrderFields) (p q : AnswerPlace)
      → CutTold (orders_of x (replicate 63 f ++ (g ∷ [])) (replicate 63 p ++ (q ∷ []))) (orders_of x (replicate 63 f) (replicate 63 p))
      (orders_of (orders_of x (replicate 63 f) (replicate 63 p)).exchange (g ∷ []) (q ∷ []))
  pub first_alone :
      (x : Exchange) (f g : OrderFields) (p q : AnswerPlace)
      → CutTold (orders_of x (f ∷ replicate 63 g) (p ∷ replicate 63 q)) (orders_of x (f ∷ []) (p ∷ []))
      (orders_of (orders_of x (f ∷ []) (p ∷ [])).exchange (replicate 63 g) (replicate 63 q))

-- a list of two orders, accepted and refused, and the lists of each
abbrev pub taken : AnswerPlace
taken = place (Ok (5, 0))

abbrev pub turned : AnswerPlace
turned = place (Err TicketInUse)

abbrev pub CutIn : Listed → Type 0
CutIn whole = CutAlike whole (listed (Ok (0, 0)) (taken ∷ []) fresh_exchange) (listed (Ok (0, 0)) (turned ∷ []) one_moved)

-- these three answers to the whole, its first and its second part
abbrev pub CutAnswered : (whole first second : Answer) → Type 0
CutAnswered a b c = CutAlike (listed a (taken ∷ turned ∷ []) one_moved) (listed b (taken ∷ []) fresh_exchange) (listed c (turned ∷ []) one_moved)

abbrev pub CutsMet : Type 0
CutsMet = CutIn (listed (Ok (0, 0)) (taken ∷ turned ∷ []) one_moved)

pub record CutsRefused : Type 0 where
  -- the state after the first part, the answers the other way round, one left out
  pub state : CutIn (listed (Ok (0, 0)) (taken ∷ turned ∷ []) fresh_exchange) → ⊥
  pub turned_first : CutIn (listed (Ok (0, 0)) (turned ∷ taken ∷ []) one_moved) → ⊥
  pub left_out : CutIn (listed (Ok (0, 0)) (taken ∷ []) one_moved) → ⊥
  -- other answers than 0 with two zeros
  pub whole_refused : CutAnswered (Err BadOrderList) (Ok (0, 0)) (Ok (0, 0)) → ⊥
  pub first_refused : CutAnswered (Ok (0, 0)) (Err BadOrderList) (Ok (0, 0)) → ⊥
  pub second_refused : CutAnswered (Ok (0, 0)) (Ok (0, 0)) (Err BadOrderList) → ⊥

-- two lists one after the other from the fresh state; the run with lists, and any state that a call leaves
pub record ReachUsed : Type 0 where
  pub two_lists :
      OrdersReachable → (fs gs : List OrderFields) (ps qs : List AnswerPlace)
      → Reachable (orders_of (orders_of fresh_exchange fs ps).exchange gs qs).exchange
  pub mixed_run_lem : ReachableIsRun → Reachable (state_after model_engine fresh_exchange mixed_run)
  pub any_call :
      ReachableIsRun → (x : Exchange) → Reachable x → (c : Call)
      → (ss : List Submission) × (state_after model_engine fresh_exchange ss ≡ (step_of x c).exchange)

-- the run of above as requests alone: the same eighteen events, and 1 of token 1 left with member 1
abbrev pub SpelledUsed : Type 0
SpelledUsed =
    (qs : List Request) × (events_of model_engine fresh_exchange (map single qs) ≡ mixed_told) × (balance (state_after model_engine fresh_exchange (map single qs)) 1 1 ≡ 1)

-- a deposit spelled out as nothing, or with what it leaves forgotten
pub record SpelledRefused : Type 0 where
  pub untold : (x : Exchange) → (p : SpelledOut x (event (Deposit 0 0 10) (Ok (10, 0)) ∷ []) x) → p.requests ≡ [] → ⊥
  pub unmoved : (p : SpelledOut fresh_exchange [] (credit fresh_exchange 0 0 10)) → p.requests ≡ [] → ⊥
