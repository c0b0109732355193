-- "Why a call is turned down", in document 01's own order: one definition for each code, in inequalities of the call's fields and of what is seen in the house,
-- with the numbers of the paper. The calls' own tests (Calls.antt) and the numbers' definitions (pricing's Prices.antt) are not used here.
use Rattle.std.specs.Prelude.{ℕ, ◌+◌, ◌*◌, ◌<◌, ◌≤◌, ◌≡◌, ◌⊎◌, ◌↔◌, cond, List, [], ◌∷◌, map, eqb, length}
use Rattle.units.specs.Rounding.{RoundedDown, RoundedUp}
use Rattle.pricing.specs.declared.Side.TheVariants.{Buy, Sell}
use Rattle.pricing.specs.Laws.{PricedAt}
use Rattle.model.specs.declared.state.Order.{Order}
use Rattle.model.specs.declared.state.TicketState.{TicketState}
use Rattle.model.specs.declared.state.TicketState.TheVariants.{Free, Resting, Entered}
use Rattle.model.specs.declared.state.Round.{Round}
use Rattle.model.specs.declared.state.Phase.{Phase}
use Rattle.model.specs.declared.state.Phase.TheVariants.{Closed, Collect, Auction, Paying}
use Rattle.model.specs.declared.call.Call.{Call}
use Rattle.model.specs.declared.orders.OrderFields.{OrderFields}
use Rattle.model.specs.declared.orders.AnswerPlace.{AnswerPlace}
use Rattle.model.specs.View.{View}
use Rattle.model.specs.Kinds.{kind_of, numbers_of_call}

-- ---- a call's fields

pub data Field : Type 0 where
  member token market ticket side amount limit block reference slack auction_length bound : Field

abbrev pub number_of : Field → ℕ
number_of member = 0
number_of token = 1
number_of market = 2
number_of ticket = 3
number_of side = 4
number_of amount = 5
number_of limit = 6
number_of block = 7
number_of reference = 8
number_of slack = 9
number_of auction_length = 10
number_of bound = 11

-- "by kind number and fields", in the paper's order; "amount or base" is one name here
abbrev pub fields_of : Call → List (Field × ℕ)
fields_of (Call.Deposit m t n) = (member, m) ∷ (token, t) ∷ (amount, n) ∷ []
fields_of (Call.Withdraw m t n) = (member, m) ∷ (token, t) ∷ (amount, n) ∷ []
fields_of (Call.Order k m mk s l n) = (ticket, k) ∷ (member, m) ∷ (market, mk) ∷ (side, s) ∷ (limit, l) ∷ (amount, n) ∷ []
fields_of (Call.Cancel k m) = (ticket, k) ∷ (member, m) ∷ []
fields_of (Call.Open mk b r w len) = (market, mk) ∷ (block, b) ∷ (reference, r) ∷ (slack, w) ∷ (auction_length, len) ∷ []
fields_of (Call.Enter k) = (ticket, k) ∷ []
fields_of (Call.Match mk b) = (market, mk) ∷ (block, b) ∷ []
fields_of (Call.Bid mk m b s n bd) = (market, mk) ∷ (member, m) ∷ (block, b) ∷ (side, s) ∷ (amount, n) ∷ (bound, bd) ∷ []
fields_of (Call.Settle mk b) = (market, mk) ∷ (block, b) ∷ []
fields_of (Call.Claim k) = (ticket, k) ∷ []
fields_of (Call.Leave k m) = (ticket, k) ∷ (member, m) ∷ []

-- so these are the numbers of its line, in their order
abbrev pub FieldsInOrder : Type 0
FieldsInOrder = (c : Call) → numbers_of_call c ≡ kind_of c ∷ map (λ (e : Field × ℕ). e.1) (fields_of c)

abbrev pub value_in : Field → List (Field × ℕ) → ℕ
value_in f [] = 0
value_in f (e ∷ es) = cond (eqb (number_of e.0) (number_of f)) e.1 (value_in f es)

abbrev pub InList : ℕ → List (Field × ℕ) → Type 0
InList n [] = ⊥
InList n (e ∷ es) = (number_of e.0 ≡ n) ⊎ InList n es

-- the value of a field, and that the call has it
abbrev pub the : Field → Call → ℕ
the f c = value_in f (fields_of c)

abbrev pub Has : Field → Call → Type 0
Has f c = InList (number_of f) (fields_of c)

-- the paper's "(1, 2, 3, 8)": the call is of one of these kinds
abbrev pub Of : List ℕ → Call → Type 0
Of [] c = ⊥
Of (k ∷ ks) c = (kind_of c ≡ k) ⊎ Of ks c

-- ---- what a call meets in the house

-- its ticket, and the phase of its market
abbrev pub ticket_of : View → Call → TicketState
ticket_of x c = x.ticket (the ticket c)

abbrev pub phase_of : View → Call → Phase
phase_of x c = x.phase (the market c)

-- a ticket in use "carries its order"
abbrev pub Carries : TicketState → Order → Type 0
Carries t o = (t ≡ Resting o) ⊎ (t ≡ Entered o)

-- the prices of side 1 and of side 0 at a block: "k = block - start", and the prices of that k
pub record Priced (r : Round) (at sell buy : ℕ) : Type 0 where
  pub k : ℕ
  pub k_is : r.start.0 + k ≡ at
  pub k_within : k ≤ r.length
  pub prices : PricedAt r.hi.0 r.lo.0 k r.length sell buy

-- what a bid's base comes to: on side 1 "the maker pays n×price/1,000,000 rounded up"; on side 0 "gets n×price/1,000,000 rounded down"
abbrev pub QuoteSell : Round → Call → ℕ → Type 0
QuoteSell r c q = (p : ℕ × ℕ) × (Priced r (the block c) p.0 p.1 × RoundedUp (the amount c * p.0) 1000000 q)

abbrev pub QuoteBuy : Round → Call → ℕ → Type 0
QuoteBuy r c q = (p : ℕ × ℕ) × (Priced r (the block c) p.0 p.1 × RoundedDown (the amount c * p.1) 1000000 q)

-- ---- the conditions

-- 1 "member above 15"
abbrev pub no_such_member : Call → Type 0
no_such_member c = Has member c × (15 < the member c)

-- 2 "token above 3"
abbrev pub no_such_token : Call → Type 0
no_such_token c = Has token c × (3 < the token c)

-- 3 "market not 1 to 3"
abbrev pub no_such_market : Call → Type 0
no_such_market c = Has market c × ((the market c < 1) ⊎ (3 < the market c))

-- 4 "ticket above 63"
abbrev pub no_such_ticket : Call → Type 0
no_such_ticket c = Has ticket c × (63 < the ticket c)

-- 5 "side above 1"
abbrev pub no_such_side : Call → Type 0
no_such_side c = Has side c × (1 < the side c)

-- 6 "amount or base 0 (1, 2, 3, 8), or limit not 1 to 2,000,000,000 (3)"
abbrev pub bad_amount_or_limit : Call → Type 0
bad_amount_or_limit c =
    (Of (1 ∷ 2 ∷ 3 ∷ 8 ∷ []) c × (the amount c ≡ 0))
    ⊎ (Of (3 ∷ []) c × ((the limit c < 1) ⊎ (2000000000 < the limit c)))

-- 7 "ticket in use (3)"
abbrev pub ticket_in_use : View → Call → Type 0
ticket_in_use x c = Of (3 ∷ []) c × ((o : Order) × Carries (ticket_of x c) o)

-- 8 "ticket free (4, 6, 10), or not this member's (4)"; L2, kind 11: "8 as for cancel"
abbrev pub no_such_order : View → Call → Type 0
no_such_order x c =
    (Of (4 ∷ 6 ∷ 10 ∷ 11 ∷ []) c × (ticket_of x c ≡ Free))
    ⊎ (Of (4 ∷ 11 ∷ []) c × ((o : Order) × (Carries (ticket_of x c) o × (o.member ≡ the member c → ⊥))))

-- 9 "ticket in a round (4, 6), or not in one (10)"; L2: "9 when the ticket is in no round"
abbrev pub wrong_ticket_state : View → Call → Type 0
wrong_ticket_state x c =
    (Of (4 ∷ 6 ∷ []) c × ((o : Order) × (ticket_of x c ≡ Entered o)))
    ⊎ (Of (10 ∷ 11 ∷ []) c × ((o : Order) → ticket_of x c ≡ Entered o → ⊥))

-- 10 "r, w or L outside its range (5)": "r (1 to 1,000,000,000), slack w (0 to 500,000 millionths), auction length L (1 to 64)"
abbrev pub bad_terms : Call → Type 0
bad_terms c =
    Of (5 ∷ []) c
    × (((the reference c < 1) ⊎ (1000000000 < the reference c)) ⊎ ((500000 < the slack c) ⊎ ((the auction_length c < 1) ⊎ (64 < the auction_length c))))

-- 11 "the market's phase isn't closed (5), collect (6, 7), auction (8, 9), paying (10)"; L2: "11 when the phase isn't collect". Enter, claim and leave have a
-- ticket: the market is its order's
abbrev pub wrong_phase : View → Call → Type 0
wrong_phase x c =
    (Of (5 ∷ []) c × (phase_of x c ≡ Closed → ⊥))
    ⊎ (Of (6 ∷ 11 ∷ []) c × ((o : Order) × (Carries (ticket_of x c) o × ((r : Round) → x.phase o.market ≡ Collect r → ⊥))))
    ⊎ (Of (7 ∷ []) c × ((r : Round) → phase_of x c ≡ Collect r → ⊥))
    ⊎ (Of (8 ∷ 9 ∷ []) c × ((r : Round) → phase_of x c ≡ Auction r → ⊥))
    ⊎ (Of (10 ∷ []) c × ((o : Order) × (Carries (ticket_of x c) o × ((r : Round) → x.phase o.market ≡ Paying r → ⊥))))

-- 12 "block below the last accepted (5, 7, 8, 9)"
abbrev pub stale_block : View → Call → Type 0
stale_block x c = Of (5 ∷ 7 ∷ 8 ∷ 9 ∷ []) c × (the block c < x.last)

-- 13 "fewer than 4 blocks since open (7); something left and k ≤ L (9)"
abbrev pub too_early : View → Call → Type 0
too_early x c =
    (Of (7 ∷ []) c × ((r : Round) × ((phase_of x c ≡ Collect r) × (the block c < r.opened.0 + 4))))
    ⊎ (Of (9 ∷ []) c
    × ((r : Round)
    × ((phase_of x c ≡ Auction r)
    × (((r.buys.paid.0 < r.buys.total.0) ⊎ (r.sells.paid.0 < r.sells.total.0)) × (the block c ≤ r.start.0 + r.length)))))

-- 14 "deposits less withdrawals of the token would pass 4,294,967,295 (1)"
abbrev pub supply_exceeded : View → Call → Type 0
supply_exceeded x c = Of (1 ∷ []) c × (4294967295 < x.supply (the token c) + the amount c)

-- 15 "buy limit below hi, or sell limit above lo (6)"
abbrev pub limit_out_of_bounds : View → Call → Type 0
limit_out_of_bounds x c =
    Of (6 ∷ []) c
    × ((o : Order)
    × (Carries (ticket_of x c) o
    × ((r : Round)
    × ((x.phase o.market ≡ Collect r)
    × (((o.side ≡ Buy) × (o.limit.0 < r.hi.0)) ⊎ ((o.side ≡ Sell) × (r.lo.0 < o.limit.0)))))))

-- a bid meets a round in auction of which something holds
abbrev pub InAuction : View → Call → (Round → Type 0) → Type 0
InAuction x c P = (r : Round) × ((phase_of x c ≡ Auction r) × P r)

-- 16 "k > L" (8)
abbrev pub auction_over : View → Call → Type 0
auction_over x c = Of (8 ∷ []) c × InAuction x c (λ r. r.start.0 + r.length < the block c)

-- 17 "side 1: n above the base left. Side 0: quote comes to 0 or above the quote left" (8)
abbrev pub not_available : View → Call → Type 0
not_available x c =
    Of (8 ∷ []) c
    × InAuction x c
    (λ r.
    ((the side c ≡ 1) × (r.sells.total.0 < r.sells.paid.0 + the amount c))
    ⊎ ((the side c ≡ 0) × ((q : ℕ) × (QuoteBuy r c q × ((q ≡ 0) ⊎ (r.buys.total.0 < r.buys.paid.0 + q))))))

-- 18 "the bound is missed" (8): on side 1 "bound is the most quote they pay", on side 0 "bound is the least quote they take"
abbrev pub bound_missed : View → Call → Type 0
bound_missed x c =
    Of (8 ∷ []) c
    × InAuction x c
    (λ r.
    ((the side c ≡ 1) × ((q : ℕ) × (QuoteSell r c q × (the bound c < q))))
    ⊎ ((the side c ≡ 0) × ((q : ℕ) × (QuoteBuy r c q × (q < the bound c)))))

-- 19 "balance below the amount (2, 3), quote (8, side 1) or base (8, side 0)". An order offers quote, token 0, on side 0, and base, its market's token, on side 1
abbrev pub insufficient_balance : View → Call → Type 0
insufficient_balance x c =
    (Of (2 ∷ []) c × (x.balance (the member c) (the token c) < the amount c))
    ⊎ (Of (3 ∷ []) c
    × (((the side c ≡ 1) × (x.balance (the member c) (the market c) < the amount c))
    ⊎ ((the side c ≡ 0) × (x.balance (the member c) 0 < the amount c))))
    ⊎ (Of (8 ∷ []) c
    × InAuction x c
    (λ r.
    ((the side c ≡ 1) × ((q : ℕ) × (QuoteSell r c q × (x.balance (the member c) 0 < q))))
    ⊎ ((the side c ≡ 0) × (x.balance (the member c) (the market c) < the amount c))))

-- ---- their order

pub record Condition : Type 1 where
  pub code : ℕ
  pub holds : Type 0

abbrev pub condition : ℕ → Type 0 → Condition
condition n P = record { code = n; holds = P }

abbrev pub conditions : View → Call → List Condition
conditions x c =
    condition 1 (no_such_member c)
    ∷ condition 2 (no_such_token c)
    ∷ condition 3 (no_such_market c)
    ∷ condition 4 (no_such_ticket c)
    ∷ condition 5 (no_such_side c)
    ∷ condition 6 (bad_amount_or_limit c)
    ∷ condition 7 (ticket_in_use x c)
    ∷ condition 8 (no_such_order x c)
    ∷ condition 9 (wrong_ticket_state x c)
    ∷ condition 10 (bad_terms c)
    ∷ condition 11 (wrong_phase x c)
    ∷ condition 12 (stale_block x c)
    ∷ condition 13 (too_early x c)
    ∷ condition 14 (supply_exceeded x c)
    ∷ condition 15 (limit_out_of_bounds x c)
    ∷ condition 16 (auction_over x c)
    ∷ condition 17 (not_available x c)
    ∷ condition 18 (bound_missed x c)
    ∷ condition 19 (insufficient_balance x c)
    ∷ []

abbrev pub HoldsIn : ℕ → List Condition → Type 0
HoldsIn n [] = ⊥
HoldsIn n (p ∷ ps) = ((p.code ≡ n) × p.holds) ⊎ HoldsIn n ps

-- code n's condition holds of a call
abbrev pub Holds : ℕ → View → Call → Type 0
Holds n x c = HoldsIn n (conditions x c)

-- "the first that holds is returned": n holds, and nothing below n does
abbrev pub First : ℕ → View → Call → Type 0
First n x c = Holds n x c × ((m : ℕ) → m < n → Holds m x c → ⊥)

-- the code that a call gets: 0 exactly if no refusal holds, else the first that does
pub record Coded (x : View) (c : Call) (code : ℕ) : Type 0 where
  pub accepted : (code ≡ 0) ↔ ((n : ℕ) → Holds n x c → ⊥)
  pub refused : (n : ℕ) → 0 < n → (code ≡ n) ↔ First n x c

-- L5: "22 for the whole call, tested before all else, when the lists differ in length or have more than 64 places"
abbrev pub bad_order_list : List OrderFields → List AnswerPlace → Type 0
bad_order_list fs ps = (length fs ≡ length ps → ⊥) ⊎ (64 < length fs) ⊎ (64 < length ps)

-- the code that a list gets: 0 exactly if its lists are as they should be, else 22
pub record ListCoded (fs : List OrderFields) (ps : List AnswerPlace) (code : ℕ) : Type 0 where
  pub accepted : (code ≡ 0) ↔ (bad_order_list fs ps → ⊥)
  pub refused : (code ≡ 22) ↔ bad_order_list fs ps
