-- Each clause of the whole-run statement on data that just meet it, and on data one unit off where every other clause of its record holds: what
-- is refused here rests on that clause alone.
use Rattle.std.specs.Prelude.{ℕ, [], ◌∷◌, Ok, Err}
use Rattle.pricing.specs.declared.Side.{Side}
use Rattle.pricing.specs.declared.Side.TheVariants.{Buy, Sell}
use Rattle.model.specs.declared.state.Order.{Order}
use Rattle.model.specs.declared.state.TicketState.{TicketState}
use Rattle.model.specs.declared.state.TicketState.TheVariants.{Free, Resting, Entered}
use Rattle.model.specs.declared.state.Exchange.{Exchange}
use Rattle.model.specs.declared.answer.Refusal.TheVariants.{WrongPhase}
use Rattle.model.specs.declared.answer.Outcome.{Outcome}
use Rattle.model.specs.State.{residue, ticket, fresh_exchange, with_supply, with_residue, with_ticket, with_block, credit}
use Rattle.model.specs.Calls.{refuse}
use Rattle.model.specs.Run.{Engine}
use Rattle.model.specs.History.{OrderTerms, PlacedOrder, no_order, placed, Part, waiting, claimed, auctioning, settled, RoundLog, empty_log, set_stage, set_m, set_c, put, with_part, with_bid, Current, idle, running, EndedRound, History, no_history, with_order, with_deposit, with_withdrawal, with_credit, with_debit, with_round}
use Rattle.model.specs.WholeRun.{LimitKept, RoundPays, EndedWell, SettledTicket, PaysOut, BooksAgree, TicketsAgree, RoundsPay, PastAgrees, EngineKeeps, Whole}
use Rattle.cases.specs.Literals.{order, terms, payout}

-- ---- a round

abbrev pub terms_on : Side → OrderTerms
terms_on side = terms 15 side 1000000

-- a settled round with m and c, and with ticket 63, ticket 62
abbrev pub matched : (m c : ℕ) → RoundLog
matched m c = set_c (set_m (set_stage empty_log settled) m) c

abbrev pub round_with : (m c : ℕ) → Part → RoundLog
round_with m c p = with_part (matched m c) 63 p

abbrev pub and_ticket : RoundLog → Part → RoundLog
and_ticket b p = with_part b 62 p

-- makers took n of the 5 that a side offers
abbrev pub quote_taken : ℕ → RoundLog
quote_taken n = with_bid (round_with 0 0 (waiting (terms_on Buy) 5)) Buy 1 n

abbrev pub base_taken : ℕ → RoundLog
base_taken n = with_bid (round_with 0 0 (waiting (terms_on Sell) 5)) Sell n 1

-- the other side's claim, its full share, moved n of them out
abbrev pub quote_claimed : ℕ → RoundLog
quote_claimed n = and_ticket (round_with 0 n (claimed (terms_on Sell) 1 0 n)) (waiting (terms_on Buy) 5)

abbrev pub base_claimed : ℕ → RoundLog
base_claimed n = and_ticket (round_with n 0 (claimed (terms_on Buy) 1 0 n)) (waiting (terms_on Sell) 5)

-- ticket k and another offer 5 each, T 10, with m 7 and c 5; ticket k has paid s and got so much
abbrev pub sell_at : (k s got : ℕ) → RoundLog
sell_at k s got = with_part (with_part (and_ticket (matched 7 5) (waiting (terms_on Sell) 5)) 1 (waiting (terms_on Buy) 9)) k (claimed (terms_on Sell) 5 s got)

abbrev pub buy_at : (k s got : ℕ) → RoundLog
buy_at k s got = with_part (with_part (and_ticket (matched 7 5) (waiting (terms_on Buy) 5)) 1 (waiting (terms_on Sell) 9)) k (claimed (terms_on Buy) 5 s got)

pub record RoundsMet : Type 0 where
  pub quote_taken_lem : RoundPays (quote_taken 5)
  pub base_taken_lem : RoundPays (base_taken 5)
  pub quote_claimed_lem : RoundPays (quote_claimed 5)
  pub base_claimed_lem : RoundPays (base_claimed 5)
  -- a sell pays 3.5 up and gets 2.5 down, a buy pays 2.5 up and gets 3.5 down
  pub last_sell : RoundPays (sell_at 63 4 2)
  pub last_buy : RoundPays (buy_at 63 3 3)
  pub first_sell : RoundPays (sell_at 0 4 2)
  pub first_buy : RoundPays (buy_at 0 3 3)

pub record RoundsRefused : Type 0 where
  pub quote_taken_lem : RoundPays (quote_taken 6) → ⊥
  pub base_taken_lem : RoundPays (base_taken 6) → ⊥
  pub quote_claimed_lem : RoundPays (quote_claimed 6) → ⊥
  pub base_claimed_lem : RoundPays (base_claimed 6) → ⊥
  -- a unit more or less of either
  pub sell_paid_more : RoundPays (sell_at 63 5 2) → ⊥
  pub sell_paid_less : RoundPays (sell_at 63 3 2) → ⊥
  pub sell_got_more : RoundPays (sell_at 63 4 3) → ⊥
  pub sell_got_less : RoundPays (sell_at 63 4 1) → ⊥
  pub buy_paid_more : RoundPays (buy_at 63 4 3) → ⊥
  pub buy_paid_less : RoundPays (buy_at 63 2 3) → ⊥
  pub buy_got_more : RoundPays (buy_at 63 3 4) → ⊥
  pub buy_got_less : RoundPays (buy_at 63 3 2) → ⊥
  pub first_sell : RoundPays (sell_at 0 3 2) → ⊥
  pub first_buy : RoundPays (buy_at 0 3 4) → ⊥
  -- in market 1 and in market 3
  pub in_first : RoundsPay (put (λ n. idle) 1 (running (quote_taken 6))) → ⊥
  pub in_last : RoundsPay (put (λ n. idle) 3 (running (quote_taken 6))) → ⊥

-- ---- a round that ended, in market 3

abbrev pub ended_as : RoundLog → EndedRound
ended_as b = record { market = 3; log = b }

-- nothing was sold, and n units that a maker gave are left
abbrev pub base_left : ℕ → RoundLog
base_left n = with_bid (round_with 0 0 (claimed (terms_on Sell) 5 0 0)) Buy n 0

abbrev pub quote_left : ℕ → RoundLog
quote_left n = with_bid (round_with 0 0 (claimed (terms_on Buy) 5 0 0)) Sell 0 n

abbrev pub base_left_by_two : ℕ → RoundLog
base_left_by_two n = and_ticket (base_left n) (claimed (terms_on Sell) 5 0 0)

abbrev pub quote_left_by_two : ℕ → RoundLog
quote_left_by_two n = and_ticket (quote_left n) (claimed (terms_on Buy) 5 0 0)

abbrev pub base_of_none : ℕ → RoundLog
base_of_none n = with_bid (matched 0 0) Buy n 0

abbrev pub quote_of_none : ℕ → RoundLog
quote_of_none n = with_bid (matched 0 0) Sell 0 n

-- m 4 and c 3 between a sell of 5 and a buy of 3
abbrev pub swapped : (s got : ℕ) → RoundLog
swapped s got = and_ticket (round_with 4 3 (claimed (terms_on Sell) 5 s got)) (claimed (terms_on Buy) 3 3 4)

pub record EndsMet : Type 0 where
  -- 0 < 1 and 1 < 2
  pub base_left_lem : EndedWell (ended_as (base_left 0))
  pub quote_left_lem : EndedWell (ended_as (quote_left 0))
  pub base_left_by_two_lem : EndedWell (ended_as (base_left_by_two 1))
  pub quote_left_by_two_lem : EndedWell (ended_as (quote_left_by_two 1))
  pub none : EndedWell (ended_as (base_of_none 0))
  pub swap : EndedWell (ended_as (swapped 4 3))

pub record EndsRefused : Type 0 where
  -- as many units as tickets
  pub base_left_lem : EndedWell (ended_as (base_left 1)) → ⊥
  pub quote_left_lem : EndedWell (ended_as (quote_left 1)) → ⊥
  pub base_left_by_two_lem : EndedWell (ended_as (base_left_by_two 2)) → ⊥
  pub quote_left_by_two_lem : EndedWell (ended_as (quote_left_by_two 2)) → ⊥
  -- a unit without tickets
  pub base_of_none_lem : EndedWell (ended_as (base_of_none 1)) → ⊥
  pub quote_of_none_lem : EndedWell (ended_as (quote_of_none 1)) → ⊥
  -- a share one unit off, which leaves 1 unit by two tickets
  pub paid_more : EndedWell (ended_as (swapped 5 3)) → ⊥
  pub got_less : EndedWell (ended_as (swapped 4 2)) → ⊥
  -- 6 of 5 taken, with the share of it claimed, so that nothing is left
  pub taken_over : EndedWell (ended_as (with_bid (round_with 0 0 (claimed (terms_on Buy) 5 6 1)) Buy 1 6)) → ⊥

-- ---- the past

-- n in the residue of token 3, or of token 0, and nothing in the others
abbrev pub left_of : (t n : ℕ) → ℕ → ℕ
left_of t n = put (λ u. 0) t n

pub record PastMet : Type 0 where
  -- at a limit of 2 a buy that paid 5 gets at least the 2 that 4 fetch, a sell that paid 3 at least the 4 that 2 fetch
  pub buy_limit : LimitKept (payout 15 Buy 2000000 5 2)
  pub sell_limit : LimitKept (payout 15 Sell 2000000 3 4)
  -- 0 + 0 + 1 base
  pub three_ended : PastAgrees (left_of 3 1) (ended_as (base_left 0) ∷ ended_as (base_of_none 0) ∷ ended_as (base_left_by_two 1) ∷ []) []
  pub three_paid : PastAgrees (left_of 3 0) [] (payout 15 Buy 2000000 5 2 ∷ payout 15 Sell 2000000 3 4 ∷ payout 15 Buy 2000000 5 2 ∷ [])

pub record PastRefused : Type 0 where
  pub buy_limit : LimitKept (payout 15 Buy 2000000 5 1) → ⊥
  pub sell_limit : LimitKept (payout 15 Sell 2000000 3 3) → ⊥
  -- a unit more or less in the residue
  pub base_more : PastAgrees (left_of 3 2) (ended_as (base_left_by_two 1) ∷ []) [] → ⊥
  pub base_less : PastAgrees (left_of 3 0) (ended_as (base_left_by_two 1) ∷ []) [] → ⊥
  pub quote_more : PastAgrees (left_of 0 2) (ended_as (quote_left_by_two 1) ∷ []) [] → ⊥
  pub quote_less : PastAgrees (left_of 0 0) (ended_as (quote_left_by_two 1) ∷ []) [] → ⊥
  -- in any place of the lists
  pub later_end : PastAgrees (left_of 3 1) (ended_as (base_left 0) ∷ ended_as (base_of_none 0) ∷ ended_as (base_left 1) ∷ []) [] → ⊥
  pub later_limit : PastAgrees (left_of 3 0) [] (payout 15 Buy 2000000 5 2 ∷ payout 15 Sell 2000000 3 4 ∷ payout 15 Buy 2000000 5 1 ∷ []) → ⊥

-- ---- amounts

-- a deposit of 5 of token 3 by member 15, in the state and in history
abbrev pub five_held : Exchange
five_held = credit (with_supply fresh_exchange 3 5) 15 3 5

abbrev pub five_told : History
five_told = with_credit (with_deposit no_history 3 5) 15 3 5

abbrev pub BooksMet : Type 0
BooksMet = BooksAgree five_held five_told

pub record BooksRefused : Type 0 where
  -- conservation: 1 more that rests, is in a round, in the residue or withdrawn, and 1 more deposited
  pub resting_more : BooksAgree (with_ticket five_held 63 (Resting (order 15 3 Sell 1000000 1))) five_told → ⊥
  pub round_more : BooksAgree five_held (with_round five_told 3 (running (round_with 0 0 (waiting (terms_on Sell) 1)))) → ⊥
  pub residue_more : BooksAgree (with_residue five_held 3 1) five_told → ⊥
  pub withdrawn_more : BooksAgree (with_supply five_held 3 4) (with_withdrawal five_told 3 1) → ⊥
  pub deposited_more : BooksAgree (with_supply five_held 3 6) (with_deposit five_told 3 1) → ⊥
  -- the supply
  pub supply_more : BooksAgree (with_supply five_held 3 6) five_told → ⊥
  pub supply_less : BooksAgree (with_supply five_held 3 4) five_told → ⊥
  -- another member's deposit, and 1 that calls took from the member
  pub other_member : BooksAgree five_held (with_credit (with_deposit no_history 3 5) 14 3 5) → ⊥
  pub debited_more : BooksAgree five_held (with_debit five_told 15 3 1) → ⊥

-- ---- tickets

-- ticket 63 in this state, with this order
abbrev pub only_ticket : TicketState → ℕ → TicketState
only_ticket s = put (λ k. Free) 63 s

abbrev pub only_order : PlacedOrder → ℕ → PlacedOrder
only_order o = put (λ k. no_order) 63 o

abbrev pub no_rounds : ℕ → Current
no_rounds n = idle

-- a market's round, in which ticket 63 has this part
abbrev pub round_at : ℕ → Part → ℕ → Current
round_at market p = put no_rounds market (running (round_with 0 0 p))

abbrev pub five : Order
five = order 15 3 Sell 1000000 5

abbrev pub five_placed : PlacedOrder
five_placed = placed (terms_on Sell) 3 5

pub record TicketsMet : Type 0 where
  pub rests : TicketsAgree (only_ticket (Resting five)) (only_order five_placed) no_rounds
  pub waits : TicketsAgree (only_ticket (Entered five)) (only_order five_placed) (round_at 3 (waiting (terms_on Sell) 5))
  pub was_claimed : TicketsAgree (only_ticket (Resting five)) (only_order five_placed) (round_at 3 (claimed (terms_on Sell) 7 2 2))

pub record TicketsRefused : Type 0 where
  -- another order: none, or its member, side, limit, market or offer
  pub free : TicketsAgree (only_ticket Free) (only_order five_placed) no_rounds → ⊥
  pub in_use : TicketsAgree (only_ticket (Resting five)) (only_order no_order) no_rounds → ⊥
  pub member : TicketsAgree (only_ticket (Resting five)) (only_order (placed (terms 14 Sell 1000000) 3 5)) no_rounds → ⊥
  pub side : TicketsAgree (only_ticket (Resting five)) (only_order (placed (terms 15 Buy 1000000) 3 5)) no_rounds → ⊥
  pub limit : TicketsAgree (only_ticket (Resting five)) (only_order (placed (terms 15 Sell 1000001) 3 5)) no_rounds → ⊥
  pub market : TicketsAgree (only_ticket (Resting five)) (only_order (placed (terms_on Sell) 2 5)) no_rounds → ⊥
  pub offer : TicketsAgree (only_ticket (Resting five)) (only_order (placed (terms_on Sell) 3 4)) no_rounds → ⊥
  pub entered_offer : TicketsAgree (only_ticket (Entered five)) (only_order (placed (terms_on Sell) 3 4)) (round_at 3 (waiting (terms_on Sell) 5)) → ⊥
  -- another place: in no round, in a round though it rests, in another market's, with another offer, claimed already
  pub no_round : TicketsAgree (only_ticket (Entered five)) (only_order five_placed) no_rounds → ⊥
  pub in_round : TicketsAgree (only_ticket (Resting five)) (only_order five_placed) (round_at 3 (waiting (terms_on Sell) 5)) → ⊥
  pub in_other : TicketsAgree (only_ticket (Entered five)) (only_order five_placed) (put (round_at 3 (waiting (terms_on Sell) 5)) 1 (running (round_with 0 0 (waiting (terms_on Sell) 5)))) → ⊥
  pub put_in : TicketsAgree (only_ticket (Entered five)) (only_order five_placed) (round_at 3 (waiting (terms_on Sell) 6)) → ⊥
  pub claimed_there : TicketsAgree (only_ticket (Entered five)) (only_order five_placed) (round_at 3 (claimed (terms_on Sell) 5 4 3)) → ⊥

-- ---- settled tickets and their claims

-- ticket k has this part in a round with m 4 and c 3
abbrev pub four_for_three : ℕ → Part → RoundLog
four_for_three k p = with_part (matched 4 3) k p

-- it is settled in market n's round, with an offer of 5
abbrev pub SettledIn : (n k : ℕ) → RoundLog → Type 0
SettledIn n k b = SettledTicket (with_round no_history n (running b)) k (terms_on Sell) n 5 b

-- ticket 63 in its round, and after its claim of 4 for 3
abbrev pub five_entered : Exchange
five_entered = with_ticket fresh_exchange 63 (Entered five)

abbrev pub five_paid : Exchange
five_paid = with_ticket (credit five_entered 15 0 3) 63 (Resting (order 15 3 Sell 1000000 1))

abbrev pub PaysFive : Outcome → Type 0
PaysFive out = PaysOut five_entered 63 five 4 3 out

abbrev pub claim_leaves : Exchange → Outcome
claim_leaves x = record { answer = Ok (4, 3); exchange = x }

-- an engine that refuses all, and one that changes the last block with it
abbrev pub refusing : Engine
refusing x q = refuse x WrongPhase

abbrev pub moving : Engine
moving x q = refuse (with_block x 1) WrongPhase

pub record ClaimsMet : Type 0 where
  pub last_settled : SettledIn 3 63 (four_for_three 63 (waiting (terms_on Sell) 5))
  pub first_settled : SettledIn 1 0 (four_for_three 0 (waiting (terms_on Sell) 5))
  pub pays : PaysFive (claim_leaves five_paid)
  pub stays : EngineKeeps refusing fresh_exchange no_history

pub record ClaimsRefused : Type 0 where
  -- ticket 64, market 0, market 4, before the settle, another offer, after the claim
  pub ticket_64 : SettledIn 3 64 (four_for_three 64 (waiting (terms_on Sell) 5)) → ⊥
  pub market_0 : SettledIn 0 63 (four_for_three 63 (waiting (terms_on Sell) 5)) → ⊥
  pub market_4 : SettledIn 4 63 (four_for_three 63 (waiting (terms_on Sell) 5)) → ⊥
  pub in_auction : SettledIn 3 63 (set_stage (four_for_three 63 (waiting (terms_on Sell) 5)) auctioning) → ⊥
  pub other_offer : SettledIn 3 63 (four_for_three 63 (waiting (terms_on Sell) 6)) → ⊥
  pub was_claimed : SettledIn 3 63 (four_for_three 63 (claimed (terms_on Sell) 5 4 3)) → ⊥
  -- another answer, another rest, another ticket changed
  pub answered : PaysFive (record { answer = Ok (4, 2); exchange = five_paid }) → ⊥
  pub refused : PaysFive (record { answer = Err WrongPhase; exchange = five_paid }) → ⊥
  pub rest_more : PaysFive (claim_leaves (with_ticket five_paid 63 (Resting (order 15 3 Sell 1000000 2)))) → ⊥
  pub rest_entered : PaysFive (claim_leaves (with_ticket five_paid 63 (Entered (order 15 3 Sell 1000000 1)))) → ⊥
  pub other_ticket : PaysFive (claim_leaves (with_ticket five_paid 0 (Resting five))) → ⊥
  -- 1 unit more for its member, in either token, or for another
  pub got_more : PaysFive (claim_leaves (credit five_paid 15 0 1)) → ⊥
  pub base_more : PaysFive (claim_leaves (credit five_paid 15 3 1)) → ⊥
  pub other_member : PaysFive (claim_leaves (credit five_paid 14 0 1)) → ⊥
  -- more paid than offered, whatever it leaves
  pub paid_over : (x : Exchange) (out : Outcome) → PaysOut x 63 five 6 3 out → ⊥
  -- a refusal that changes the state; a ticket settled without an order, in any state of any engine
  pub moved : EngineKeeps moving fresh_exchange no_history → ⊥
  pub no_order_settled : (f : Engine) (x : Exchange) → EngineKeeps f x (with_round no_history 3 (running (four_for_three 63 (waiting (terms_on Sell) 5)))) → ⊥

-- ---- the whole

-- makers took 6 of the 5 quote that ticket 63 brought into a round in auction
abbrev pub over_taken : History
over_taken = with_order (with_deposit (with_round no_history 3 (running (set_stage (quote_taken 6) auctioning))) 3 1) 63 (placed (terms_on Buy) 3 5)

abbrev pub WholeRefused : Type 0
WholeRefused = (f : Engine) (x : Exchange) → Whole f x over_taken → ⊥

-- and all but that round agrees with this state and an engine that refuses all
abbrev pub over_state : Exchange
over_state = with_ticket (with_supply fresh_exchange 3 1) 63 (Entered (order 15 3 Buy 1000000 5))

pub record OthersMet : Type 0 where
  pub books : BooksAgree over_state over_taken
  pub tickets : TicketsAgree (ticket over_state) over_taken.orders over_taken.rounds
  pub past : PastAgrees (residue over_state) over_taken.ended over_taken.payouts
  pub engine : EngineKeeps refusing over_state over_taken
