-- The statements of when a call is refused and what it moves, used: at any call, any state and any numbers; and, kind by kind, what an accepted call then says in plain numbers.
use Rattle.std.specs.Prelude.{ℕ, ◌+◌, ◌*◌, ◌<◌, ◌≤◌, ◌≡◌, List, [], ◌∷◌, length}
use Rattle.units.specs.Rounding.{RoundedDown, RoundedUp}
use Rattle.ticket_set.specs.TicketSet.{bit}
use Rattle.model.specs.declared.state.Exchange.{Exchange}
use Rattle.model.specs.declared.state.TicketState.TheVariants.{Free, Resting, Entered}
use Rattle.model.specs.declared.state.Phase.TheVariants.{Closed}
use Rattle.model.specs.declared.call.Call.{Call}
use Rattle.model.specs.declared.call.Call.TheVariants.{Deposit, Withdraw, Order, Cancel, Open, Enter, Match, Bid, Settle, Claim, Leave}
use Rattle.model.specs.declared.orders.OrderFields.{OrderFields}
use Rattle.model.specs.declared.orders.AnswerPlace.{AnswerPlace}
use Rattle.model.specs.State.{balance, supply, residue, last_block, ticket, order_in, phase, round_in, fresh_exchange}
use Rattle.model.specs.Answers.{Answer, code_of, first_of, second_of}
use Rattle.model.specs.Kinds.{numbers_of_call, kind_of}
use Rattle.model.specs.View.{View, view, FreshViewed}
use Rattle.model.specs.Refusals.{First, Holds, FieldsInOrder, ListCoded, Priced}
use Rattle.model.specs.Moves.{Moved}
use Rattle.model.specs.Answering.{ViewsTell, Answered, CallsAnswered, AnswersAlone, RefusedStays, ListsAnswered, ListsAlone, ListStays, ListsCoded, ListAnswered, MadeSingly, SameAnswer, SamePlaces}
use Rattle.model.specs.Run.{step_of, Reachable}
use Rattle.model.specs.OrderLists.{orders_of}

-- ---- each statement at any call, state and number

-- the code, the two numbers and the state after a call
abbrev pub code_after : Exchange → Call → ℕ
code_after x c = code_of (step_of x c).answer

abbrev pub first_after : Exchange → Call → ℕ
first_after x c = first_of (step_of x c).answer

abbrev pub second_after : Exchange → Call → ℕ
second_after x c = second_of (step_of x c).answer

abbrev pub after : Exchange → Call → Exchange
after x c = (step_of x c).exchange

abbrev pub Any : (Exchange → Call → Type 0) → Type 0
Any K = CallsAnswered → (x : Exchange) → Reachable x → (c : Call) → K x c

pub record AnswersUsed : Type 0 where
  -- accepted exactly if no refusal holds; refused with n exactly if n is the first
  pub accepts : Any (λ x c. ((n : ℕ) → Holds n (view x) c → ⊥) → code_after x c ≡ 0)
  pub accepted : Any (λ x c. code_after x c ≡ 0 → (n : ℕ) → Holds n (view x) c → ⊥)
  pub refuses : Any (λ x c. (n : ℕ) → 0 < n → First n (view x) c → code_after x c ≡ n)
  pub refused : Any (λ x c. (n : ℕ) → 0 < n → code_after x c ≡ n → First n (view x) c)
  pub moves : Any (λ x c. code_after x c ≡ 0 → Moved c (view x) (view (after x c)) (first_after x c) (second_after x c))
  pub zeros : Any (λ x c. 0 < code_after x c → (first_after x c ≡ 0) × (second_after x c ≡ 0))
  pub stays : Any (λ x c. 0 < code_after x c → (m t : ℕ) → balance (after x c) m t ≡ balance x m t)
  -- no other answer is right, and no other state: one engine
  pub alone :
      AnswersAlone
      → Any
      (λ x c. (n d e : ℕ) (z : View) → Answered (view x) c n d e z
      → (n ≡ code_after x c) × (d ≡ first_after x c) × (e ≡ second_after x c) × (z ≡ view (after x c)))
  pub one_state :
      ViewsTell → AnswersAlone
      → Any (λ x c. (n d e : ℕ) (y : Exchange) → Reachable y → Answered (view x) c n d e (view y) → Reachable (after x c) → y ≡ after x c)
  -- in any state
  pub kept : RefusedStays → (x : Exchange) (c : Call) → 0 < code_after x c → (first_after x c ≡ 0) × (second_after x c ≡ 0) × (after x c ≡ x)
  -- the fields of a leave are its line's
  pub leave_fields : FieldsInOrder → (k m : ℕ) → numbers_of_call (Leave k m) ≡ kind_of (Leave k m) ∷ k ∷ m ∷ []
  -- the fresh house, at every place
  pub fresh_balances : FreshViewed → (m t : ℕ) → m < 16 → t < 4 → balance fresh_exchange m t ≡ 0
  pub fresh_tokens : FreshViewed → (t : ℕ) → t < 4 → (supply fresh_exchange t ≡ 0) × (residue fresh_exchange t ≡ 0)
  pub fresh_tickets : FreshViewed → (k : ℕ) → k < 64 → ticket fresh_exchange k ≡ Free
  pub fresh_markets : FreshViewed → (n : ℕ) → 0 < n → n < 4 → phase fresh_exchange n ≡ Closed
  pub fresh_last : FreshViewed → last_block fresh_exchange ≡ 0

-- lists of any length, of any orders, with any places
pub record ListsUsed : Type 0 where
  pub too_long :
      ListsAnswered → (x : Exchange) → Reachable x → (fs : List OrderFields) (ps : List AnswerPlace) → 64 < length fs → code_of (orders_of x fs ps).answer ≡ 22
  pub too_many :
      ListsAnswered → (x : Exchange) → Reachable x → (fs : List OrderFields) (ps : List AnswerPlace) → 64 < length ps → code_of (orders_of x fs ps).answer ≡ 22
  pub fewer :
      ListsAnswered → (x : Exchange) → Reachable x → (fs : List OrderFields) (ps : List AnswerPlace) → length fs < length ps
      → code_of (orders_of x fs ps).answer ≡ 22
  pub more :
      ListsAnswered → (x : Exchange) → Reachable x → (fs : List OrderFields) (ps : List AnswerPlace) → length ps < length fs
      → code_of (orders_of x fs ps).answer ≡ 22
  pub fits :
      ListsAnswered → (x : Exchange) → Reachable x → (fs : List OrderFields) (ps : List AnswerPlace) → length fs ≡ length ps → length fs ≤ 64
      → MadeSingly (view x) fs (orders_of x fs ps).answers (view (orders_of x fs ps).exchange)
  pub zeros :
      ListsAnswered → (x : Exchange) → Reachable x → (fs : List OrderFields) (ps : List AnswerPlace)
      → (first_of (orders_of x fs ps).answer ≡ 0) × (second_of (orders_of x fs ps).answer ≡ 0)
  pub alone :
      ListsAlone → ListsAnswered → (x : Exchange) → Reachable x → (fs : List OrderFields) (ps qs : List AnswerPlace) (s : Answer) (z : View)
      → ListAnswered (view x) fs ps s qs z
      → let l = orders_of x fs ps in
      SameAnswer l.answer s × SamePlaces l.answers qs × (z ≡ view l.exchange)
  -- in any state
  pub anywhere :
      ListsCoded → (x : Exchange) (fs : List OrderFields) (ps : List AnswerPlace)
      → ListCoded fs ps (code_of (orders_of x fs ps).answer) × (first_of (orders_of x fs ps).answer ≡ 0) × (second_of (orders_of x fs ps).answer ≡ 0)
  pub kept :
      ListStays → (x : Exchange) (fs : List OrderFields) (ps : List AnswerPlace) → code_of (orders_of x fs ps).answer ≡ 22
      → ((orders_of x fs ps).exchange ≡ x) × ((orders_of x fs ps).answers ≡ ps)

-- ---- what an accepted call says, kind by kind

-- of an accepted call c: the state before it and after it, and the two answers
abbrev pub Says : Call → (Exchange → Exchange → ℕ → ℕ → Type 0) → Type 0
Says c K = CallsAnswered → (x : Exchange) → Reachable x → code_after x c ≡ 0 → K x (after x c) (first_after x c) (second_after x c)

pub record KindsSay : Type 0 where
  pub deposit :
      (m t n : ℕ)
      → Says (Deposit m t n)
      (λ x y a b. (m ≤ 15) × (t ≤ 3) × (1 ≤ n) × (supply x t + n ≤ 4294967295)
      × (balance y m t ≡ balance x m t + n) × (supply y t ≡ supply x t + n) × (a ≡ balance y m t) × (b ≡ 0))
  pub withdraw :
      (m t n : ℕ)
      → Says (Withdraw m t n)
      (λ x y a b. (m ≤ 15) × (t ≤ 3) × (1 ≤ n) × (n ≤ balance x m t)
      × (balance x m t ≡ balance y m t + n) × (supply y t + n ≡ supply x t) × (a ≡ balance y m t) × (b ≡ 0))
  pub order :
      (k m mk side limit n : ℕ)
      → Says (Order k m mk side limit n)
      (λ x y a b. (k ≤ 63) × (m ≤ 15) × (1 ≤ mk) × (mk ≤ 3) × (side ≤ 1) × (1 ≤ limit) × (limit ≤ 2000000000) × (1 ≤ n)
      × (ticket x k ≡ Free) × ((order_in (ticket y k)).member ≡ m) × ((order_in (ticket y k)).offer.0 ≡ n) × (a ≡ n) × (b ≡ 0))
  pub cancel :
      (k m : ℕ)
      → Says (Cancel k m)
      (λ x y a b. (k ≤ 63) × (m ≤ 15) × ((order_in (ticket x k)).member ≡ m) × (ticket y k ≡ Free) × (a ≡ (order_in (ticket x k)).offer.0) × (b ≡ 0))
  pub open_round :
      (mk at r w len : ℕ)
      → Says (Open mk at r w len)
      (λ x y a b. (1 ≤ mk) × (mk ≤ 3) × (1 ≤ r) × (r ≤ 1000000000) × (w ≤ 500000) × (1 ≤ len) × (len ≤ 64) × (last_block x ≤ at)
      × (phase x mk ≡ Closed) × (last_block y ≡ at) × RoundedDown (r * (1000000 + w)) 1000000 a
      × ((v : ℕ) → v + w ≡ 1000000 → RoundedUp (r * v) 1000000 b))
  pub enter :
      (k : ℕ)
      → Says (Enter k)
      (λ x y a b. (k ≤ 63) × (ticket x k ≡ Resting (order_in (ticket x k))) × (ticket y k ≡ Entered (order_in (ticket x k))) × (b ≡ 0))
  pub match_round :
      (mk at : ℕ)
      → Says (Match mk at)
      (λ x y a b. (1 ≤ mk) × (mk ≤ 3) × (last_block x ≤ at) × ((round_in (phase x mk)).opened.0 + 4 ≤ at) × (last_block y ≡ at)
      × ((round_in (phase y mk)).start.0 ≡ at) × ((round_in (phase y mk)).buys.paid.0 ≡ b) × ((round_in (phase y mk)).buys.got.0 ≡ a))
  pub bid_one :
      (mk m at n bound : ℕ)
      → Says (Bid mk m at 1 n bound)
      (λ x y a b. (m ≤ 15) × (1 ≤ n) × (last_block x ≤ at) × (at ≤ (round_in (phase x mk)).start.0 + (round_in (phase x mk)).length)
      × ((round_in (phase x mk)).sells.paid.0 + n ≤ (round_in (phase x mk)).sells.total.0) × (b ≤ bound)
      × (balance y m 0 + b ≡ balance x m 0) × (balance y m mk ≡ balance x m mk + n) × (a ≡ n)
      × ((sell buy : ℕ) → Priced (round_in (phase x mk)) at sell buy → RoundedUp (n * sell) 1000000 b))
  pub bid_zero :
      (mk m at n bound : ℕ)
      → Says (Bid mk m at 0 n bound)
      (λ x y a b. (m ≤ 15) × (1 ≤ n) × (last_block x ≤ at) × (at ≤ (round_in (phase x mk)).start.0 + (round_in (phase x mk)).length)
      × (1 ≤ b) × ((round_in (phase x mk)).buys.paid.0 + b ≤ (round_in (phase x mk)).buys.total.0) × (bound ≤ b)
      × (balance y m mk + n ≡ balance x m mk) × (balance y m 0 ≡ balance x m 0 + b) × (a ≡ n)
      × ((sell buy : ℕ) → Priced (round_in (phase x mk)) at sell buy → RoundedDown (n * buy) 1000000 b))
  -- something left: not before L is over; no ticket: nothing held
  pub settle :
      (mk at : ℕ)
      → Says (Settle mk at)
      (λ x y a b. (1 ≤ mk) × (mk ≤ 3) × (last_block x ≤ at) × (last_block y ≡ at) × (a ≡ (round_in (phase x mk)).buys.paid.0) × (b ≡ (round_in (phase x mk)).sells.paid.0)
      × (a < (round_in (phase x mk)).buys.total.0 → (round_in (phase x mk)).start.0 + (round_in (phase x mk)).length < at)
      × (b < (round_in (phase x mk)).sells.total.0 → (round_in (phase x mk)).start.0 + (round_in (phase x mk)).length < at)
      × (((k : ℕ) → bit (round_in (phase x mk)).tickets k ≡ 0) → ((round_in (phase x mk)).quote.0 ≡ 0) × ((round_in (phase x mk)).base.0 ≡ 0)))
  pub claim :
      (k : ℕ)
      → Says (Claim k)
      (λ x y a b. (k ≤ 63) × (ticket x k ≡ Entered (order_in (ticket x k))) × (a ≤ (order_in (ticket x k)).offer.0)
      × (a ≡ (order_in (ticket x k)).offer.0 → ticket y k ≡ Free))
  pub leave :
      (k m : ℕ)
      → Says (Leave k m)
      (λ x y a b. (k ≤ 63) × (m ≤ 15) × ((order_in (ticket x k)).member ≡ m) × (ticket y k ≡ Resting (order_in (ticket x k))) × (a ≡ (order_in (ticket x k)).offer.0) × (b ≡ 0))
