-- The calls. Each has its tests, "in rising number the conditions that name it, and those of 1 to 5 whose field it has", in two parts: its form,
-- which its numbers alone decide, and the rest, over the parts of the state that it looks at; and then what an accepted call answers and leaves. A
-- test compares sums, so that it means what it says for every number; only k and the price under bid's 17 to 19 are differences, exact since 12 and
-- 16 go before them. The differences that an accepted call works out are exact in every state that calls can leave (specs/Bounds.antt).
use Rattle.std.specs.Prelude.{ℕ, ◌+◌, ◌-◌, Bool, not, cond, ◌||◌, ◌&&◌, List, [], ◌∷◌, ◌++◌, ltb, eqb, Ok, Err}
use Rattle.units.specs.Counts.{amount, price, largest}
use Rattle.units.specs.Ranges.{last_member, last_token, last_market, last_ticket, last_side, highest_limit, highest_reference, highest_slack, longest_auction, blocks_to_match}
use Rattle.units.specs.Decide.{Test, when, decide}
use Rattle.ticket_set.specs.TicketSet.{inserted, removed, count_of}
use Rattle.pricing.specs.declared.Side.{Side}
use Rattle.pricing.specs.declared.Side.TheVariants.{Buy, Sell}
use Rattle.pricing.specs.declared.Totals.{Totals}
use Rattle.pricing.specs.declared.Trade.{Trade}
use Rattle.pricing.specs.Prices.{high_bound, low_bound, off_limit, trade_within, auction_price, quote_for, share_paid, share_got}
use Rattle.model.specs.declared.state.Order.{Order}
use Rattle.model.specs.declared.state.TicketState.{TicketState}
use Rattle.model.specs.declared.state.TicketState.TheVariants.{Free, Resting, Entered}
use Rattle.model.specs.declared.state.Round.{Round}
use Rattle.model.specs.declared.state.Phase.{Phase}
use Rattle.model.specs.declared.state.Phase.TheVariants.{Closed, Collect, Auction, Paying}
use Rattle.model.specs.declared.state.Exchange.{Exchange}
use Rattle.model.specs.declared.call.Call.{Call}
use Rattle.model.specs.declared.answer.Refusal.{Refusal}
use Rattle.model.specs.declared.answer.Refusal.TheVariants.{NoSuchMember, NoSuchToken, NoSuchMarket, NoSuchTicket, NoSuchSide, BadAmountOrLimit, TicketInUse, NoSuchOrder, WrongTicketState, BadTerms, WrongPhase, StaleBlock, TooEarly, SupplyExceeded, LimitOutOfBounds, AuctionOver, NotAvailable, BoundMissed, InsufficientBalance}
use Rattle.model.specs.declared.answer.Outcome.{Outcome}
use Rattle.model.specs.Sides.{side_of, by_side, offered, wanted, gives, takes}
use Rattle.model.specs.State.{balance, supply, last_block, ticket, order_in, is_free, is_entered, resting_or}
use Rattle.model.specs.State.{opened_between, phase, round_in, is_closed, is_collect, is_auction, is_paying, totals_of}
use Rattle.model.specs.State.{with_start, with_tickets, with_sides, with_held, with_supply, with_ticket, with_phase, with_block, credit, debit, to_residue}

-- ---- outcomes and tests

abbrev pub accept : ℕ → ℕ → Exchange → Outcome
accept a b x = record { answer = Ok (a, b); exchange = x }

-- a refusal leaves the state
abbrev pub refuse : Exchange → Refusal → Outcome
refuse x r = record { answer = Err r; exchange = x }

abbrev pub above : ℕ → ℕ → Bool
above a b = ltb b a

abbrev pub below : ℕ → ℕ → Bool
below a b = ltb a b

abbrev pub outside : ℕ → ℕ → ℕ → Bool
outside a from to = below a from || above a to

-- ---- 1 Deposit: member, token, amount

-- deposit and withdraw
abbrev pub bank_form : ℕ → ℕ → ℕ → List (Test Refusal)
bank_form member token n =
    when (above member last_member) NoSuchMember
    ∷ when (above token last_token) NoSuchToken
    ∷ when (eqb n 0) BadAmountOrLimit
    ∷ []

-- 14: "deposits less withdrawals of the token would pass 4,294,967,295"
abbrev pub deposit_rest : (supplied n : ℕ) → List (Test Refusal)
deposit_rest supplied n = when (above (supplied + n) largest) SupplyExceeded ∷ []

abbrev pub deposit_tests : Exchange → ℕ → ℕ → ℕ → List (Test Refusal)
deposit_tests x member token n = bank_form member token n ++ deposit_rest (supply x token) n

-- "Answers new balance, 0"
abbrev pub deposit_done : Exchange → ℕ → ℕ → ℕ → Outcome
deposit_done x member token n =
    accept (balance x member token + n) 0
    (credit (with_supply x token (supply x token + n)) member token n)

unfoldable pub deposit_of : Exchange → ℕ → ℕ → ℕ → Outcome
deposit_of x member token n = decide (deposit_tests x member token n) (refuse x) (deposit_done x member token n)

-- ---- 2 Withdraw: "same fields and answer"

-- 19: "balance below the amount"
abbrev pub withdraw_rest : (held n : ℕ) → List (Test Refusal)
withdraw_rest held n = when (below held n) InsufficientBalance ∷ []

abbrev pub withdraw_tests : Exchange → ℕ → ℕ → ℕ → List (Test Refusal)
withdraw_tests x member token n = bank_form member token n ++ withdraw_rest (balance x member token) n

abbrev pub withdraw_done : Exchange → ℕ → ℕ → ℕ → Outcome
withdraw_done x member token n =
    accept (balance x member token - n) 0
    (debit (with_supply x token (supply x token - n)) member token n)

unfoldable pub withdraw_of : Exchange → ℕ → ℕ → ℕ → Outcome
withdraw_of x member token n = decide (withdraw_tests x member token n) (refuse x) (withdraw_done x member token n)

-- ---- 3 Order: ticket, member, market, side, limit, amount

abbrev pub order_form : ℕ → ℕ → ℕ → ℕ → ℕ → ℕ → List (Test Refusal)
order_form k member market side limit n =
    when (above member last_member) NoSuchMember
    ∷ when (outside market 1 last_market) NoSuchMarket
    ∷ when (above k last_ticket) NoSuchTicket
    ∷ when (above side last_side) NoSuchSide
    ∷ when (eqb n 0 || outside limit 1 highest_limit) BadAmountOrLimit
    ∷ []

-- held is the balance of the token offered
abbrev pub order_rest : TicketState → (held n : ℕ) → List (Test Refusal)
order_rest t held n =
    when (not (is_free t)) TicketInUse
    ∷ when (below held n) InsufficientBalance
    ∷ []

abbrev pub order_tests : Exchange → ℕ → ℕ → ℕ → ℕ → ℕ → ℕ → List (Test Refusal)
order_tests x k member market side limit n =
    order_form k member market side limit n ++ order_rest (ticket x k) (balance x member (offered (side_of side) market)) n

-- the order of a call's fields
abbrev pub order_from : ℕ → ℕ → ℕ → ℕ → ℕ → Order
order_from member market side limit n =
    record { member = member; market = market; side = side_of side; limit = price limit; offer = amount n }

-- "Moves the amount from the balance into the ticket, resting. Answers amount, 0"
abbrev pub order_done : Exchange → ℕ → ℕ → ℕ → ℕ → ℕ → ℕ → Outcome
order_done x k member market side limit n =
    accept n 0
    (with_ticket (debit x member (offered (side_of side) market) n) k
    (Resting (order_from member market side limit n)))

unfoldable pub order_of : Exchange → ℕ → ℕ → ℕ → ℕ → ℕ → ℕ → Outcome
order_of x k member market side limit n =
    decide (order_tests x k member market side limit n) (refuse x) (order_done x k member market side limit n)

-- ---- 4 Cancel: ticket, member

-- cancel and leave
abbrev pub cancel_form : ℕ → ℕ → List (Test Refusal)
cancel_form k member =
    when (above member last_member) NoSuchMember
    ∷ when (above k last_ticket) NoSuchTicket
    ∷ []

-- 8: "ticket free", "or not this member's"; 9: "ticket in a round"
abbrev pub cancel_rest : TicketState → (member : ℕ) → List (Test Refusal)
cancel_rest t member =
    when (is_free t || not (eqb (order_in t).member member)) NoSuchOrder
    ∷ when (is_entered t) WrongTicketState
    ∷ []

abbrev pub cancel_tests : Exchange → ℕ → ℕ → List (Test Refusal)
cancel_tests x k member = cancel_form k member ++ cancel_rest (ticket x k) member

-- "Returns what is left; the ticket is free. Answers that amount, 0"
abbrev pub cancel_with : Exchange → ℕ → Order → Outcome
cancel_with x k o =
    accept o.offer.0 0
    (with_ticket (credit x o.member (offered o.side o.market) o.offer.0) k Free)

abbrev pub cancel_done : Exchange → ℕ → Outcome
cancel_done x k = cancel_with x k (order_in (ticket x k))

unfoldable pub cancel_of : Exchange → ℕ → ℕ → Outcome
cancel_of x k member = decide (cancel_tests x k member) (refuse x) (cancel_done x k)

-- ---- 5 Open: market, block, reference price r, slack w, auction length L

abbrev pub open_form : ℕ → ℕ → ℕ → ℕ → List (Test Refusal)
open_form market r w len =
    when (outside market 1 last_market) NoSuchMarket
    ∷ when (outside r 1 highest_reference || (above w highest_slack || outside len 1 longest_auction)) BadTerms
    ∷ []

abbrev pub open_rest : Phase → (last at : ℕ) → List (Test Refusal)
open_rest p last at =
    when (not (is_closed p)) WrongPhase
    ∷ when (below at last) StaleBlock
    ∷ []

abbrev pub open_tests : Exchange → ℕ → ℕ → ℕ → ℕ → ℕ → List (Test Refusal)
open_tests x market at r w len = open_form market r w len ++ open_rest (phase x market) (last_block x) at

-- a round as it opens: its terms, and nothing entered
abbrev pub opened_round : ℕ → ℕ → ℕ → ℕ → Round
opened_round at r w len = opened_between at r len (price (high_bound r w)) (price (low_bound r w))

-- "Phase collect. Answers hi, lo"
abbrev pub open_done : Exchange → ℕ → ℕ → ℕ → ℕ → ℕ → Outcome
open_done x market at r w len =
    accept (high_bound r w) (low_bound r w)
    (with_block (with_phase x market (Collect (opened_round at r w len))) at)

unfoldable pub open_of : Exchange → ℕ → ℕ → ℕ → ℕ → ℕ → Outcome
open_of x market at r w len = decide (open_tests x market at r w len) (refuse x) (open_done x market at r w len)

-- ---- 6 Enter: ticket

-- enter and claim
abbrev pub ticket_form : ℕ → List (Test Refusal)
ticket_form k = when (above k last_ticket) NoSuchTicket ∷ []

-- 15: "buy limit below hi, or sell limit above lo"
abbrev pub enter_rest : TicketState → Phase → List (Test Refusal)
enter_rest t p =
    let o = order_in t in
    let r = round_in p in
    when (is_free t) NoSuchOrder
    ∷ when (is_entered t) WrongTicketState
    ∷ when (not (is_collect p)) WrongPhase
    ∷ when (off_limit o.side o.limit.0 r.hi.0 r.lo.0) LimitOutOfBounds
    ∷ []

abbrev pub enter_tests : Exchange → ℕ → List (Test Refusal)
enter_tests x k = ticket_form k ++ enter_rest (ticket x k) (phase x (order_in (ticket x k)).market)

-- a side with n more offered
abbrev pub plus_total : Totals → ℕ → Totals
plus_total t n = record { total = amount (t.total.0 + n); paid = t.paid; got = t.got }

-- "The whole offer joins its side's total", and what the round holds; the round marks the ticket
abbrev pub entered_round : Round → ℕ → Side → ℕ → Round
entered_round r k side n =
    with_tickets
    (with_held
    (with_sides r (by_side side (plus_total r.buys n) r.buys) (by_side side r.sells (plus_total r.sells n)))
    (r.quote.0 + by_side side n 0)
    (r.base.0 + by_side side 0 n))
    (inserted r.tickets k)

-- ticket k with order o enters round r: "Answers that side's total, 0"
abbrev pub enter_with : Exchange → ℕ → Order → Round → Outcome
enter_with x k o r =
    accept ((totals_of r o.side).total.0 + o.offer.0) 0
    (with_ticket (with_phase x o.market (Collect (entered_round r k o.side o.offer.0))) k (Entered o))

abbrev pub enter_done : Exchange → ℕ → Outcome
enter_done x k = enter_with x k (order_in (ticket x k)) (round_in (phase x (order_in (ticket x k)).market))

unfoldable pub enter_of : Exchange → ℕ → Outcome
enter_of x k = decide (enter_tests x k) (refuse x) (enter_done x k)

-- ---- 7 Match: market, block

-- match and settle
abbrev pub market_form : ℕ → List (Test Refusal)
market_form market = when (outside market 1 last_market) NoSuchMarket ∷ []

-- "At least 4 blocks after open"
abbrev pub match_rest : Phase → (last at : ℕ) → List (Test Refusal)
match_rest p last at =
    when (not (is_collect p)) WrongPhase
    ∷ when (below at last) StaleBlock
    ∷ when (below at ((round_in p).opened.0 + blocks_to_match)) TooEarly
    ∷ []

abbrev pub match_tests : Exchange → ℕ → ℕ → List (Test Refusal)
match_tests x market at = market_form market ++ match_rest (phase x market) (last_block x) at

-- "Buys pay c and get m; sells the reverse. Auction starts at this block"
abbrev pub matched_round : Round → ℕ → Trade → Round
matched_round r at t =
    with_start
    (with_sides r
    (record { total = r.buys.total; paid = t.quote; got = t.base })
    (record { total = r.sells.total; paid = t.base; got = t.quote }))
    at

-- what round r's two sides trade
abbrev pub trade_of : Round → Trade
trade_of r = trade_within r.buys.total.0 r.sells.total.0 r.reference.0 r.hi.0 r.lo.0

-- "Answers m, c"
abbrev pub match_with : Exchange → ℕ → ℕ → Round → Outcome
match_with x market at r =
    accept (trade_of r).base.0 (trade_of r).quote.0
    (with_block (with_phase x market (Auction (matched_round r at (trade_of r)))) at)

abbrev pub match_done : Exchange → ℕ → ℕ → Outcome
match_done x market at = match_with x market at (round_in (phase x market))

unfoldable pub match_of : Exchange → ℕ → ℕ → Outcome
match_of x market at = decide (match_tests x market at) (refuse x) (match_done x market at)

-- ---- 8 Bid: market, member, block, side, base n, bound. The side is the one whose orders left what the maker takes

-- "k = block - start", and the quote for n base at that block's price
abbrev pub bid_quote : Round → Side → ℕ → ℕ → ℕ
bid_quote r side at n = quote_for side n (auction_price side r.hi.0 r.lo.0 (at - r.start.0) r.length)

-- 17: "side 1: n above the base left. Side 0: quote comes to 0 or above the quote left"
abbrev pub not_available : Side → ℕ → ℕ → Totals → Bool
not_available Buy n q t = eqb q 0 || above (t.paid.0 + q) t.total.0
not_available Sell n q t = above (t.paid.0 + n) t.total.0

-- 18: the bound "is the most quote they pay" on side 1, "the least quote they take" on side 0
abbrev pub bound_missed : Side → ℕ → ℕ → Bool
bound_missed Buy q bound = below q bound
bound_missed Sell q bound = above q bound

-- "k > L"
abbrev pub is_over : Round → ℕ → Bool
is_over r at = above at (r.start.0 + r.length)

abbrev pub bid_form : ℕ → ℕ → ℕ → ℕ → List (Test Refusal)
bid_form market member side n =
    when (above member last_member) NoSuchMember
    ∷ when (outside market 1 last_market) NoSuchMarket
    ∷ when (above side last_side) NoSuchSide
    ∷ when (eqb n 0) BadAmountOrLimit
    ∷ []

-- held is the maker's balance of the token that the maker gives; 19: "quote (8, side 1) or base (8, side 0)"
abbrev pub bid_rest : Phase → (last at : ℕ) → Side → (n bound held : ℕ) → List (Test Refusal)
bid_rest p last at s n bound held =
    let r = round_in p in
    let q = bid_quote r s at n in
    when (not (is_auction p)) WrongPhase
    ∷ when (below at last) StaleBlock
    ∷ when (is_over r at) AuctionOver
    ∷ when (not_available s n q (totals_of r s)) NotAvailable
    ∷ when (bound_missed s q bound) BoundMissed
    ∷ when (below held (gives s n q)) InsufficientBalance
    ∷ []

abbrev pub bid_tests : Exchange → ℕ → ℕ → ℕ → ℕ → ℕ → ℕ → List (Test Refusal)
bid_tests x market member at side n bound =
    let s = side_of side in
    bid_form market member side n ++ bid_rest (phase x market) (last_block x) at s n bound (balance x member (wanted s market))

-- the side pays what the maker takes and gets what the maker gives
abbrev pub plus_trade : Totals → ℕ → ℕ → Totals
plus_trade t paid got = record { total = t.total; paid = amount (t.paid.0 + paid); got = amount (t.got.0 + got) }

-- n base for q quote on a side, and what the round then holds: "plus what makers gave, less what makers took"
abbrev pub bid_round : Round → Side → ℕ → ℕ → Round
bid_round r side n q =
    with_held
    (with_sides r (by_side side (plus_trade r.buys q n) r.buys) (by_side side r.sells (plus_trade r.sells n q)))
    (by_side side (r.quote.0 - q) (r.quote.0 + q))
    (by_side side (r.base.0 + n) (r.base.0 - n))

-- the maker gives and takes, and side s of round r trades n for q: "Answers n, quote"
abbrev pub bid_with : Exchange → ℕ → ℕ → ℕ → Side → ℕ → ℕ → Round → Outcome
bid_with x market member at s n q r =
    accept n q
    (with_block
    (with_phase
    (credit (debit x member (wanted s market) (gives s n q)) member (offered s market) (takes s n q))
    market
    (Auction (bid_round r s n q)))
    at)

abbrev pub bid_done : Exchange → ℕ → ℕ → ℕ → ℕ → ℕ → Outcome
bid_done x market member at side n =
    let r = round_in (phase x market) in
    bid_with x market member at (side_of side) n (bid_quote r (side_of side) at n) r

unfoldable pub bid_of : Exchange → ℕ → ℕ → ℕ → ℕ → ℕ → ℕ → Outcome
bid_of x market member at side n bound =
    decide (bid_tests x market member at side n bound) (refuse x) (bid_done x market member at side n)

-- ---- 9 Settle: market, block

-- a side has something left
abbrev pub unfilled : Totals → Bool
unfilled t = below t.paid.0 t.total.0

-- 13: "something left and k ≤ L"
abbrev pub is_early : Round → ℕ → Bool
is_early r at = (unfilled r.buys || unfilled r.sells) && not (is_over r at)

abbrev pub settle_rest : Phase → (last at : ℕ) → List (Test Refusal)
settle_rest p last at =
    when (not (is_auction p)) WrongPhase
    ∷ when (below at last) StaleBlock
    ∷ when (is_early (round_in p) at) TooEarly
    ∷ []

abbrev pub settle_tests : Exchange → ℕ → ℕ → List (Test Refusal)
settle_tests x market at = market_form market ++ settle_rest (phase x market) (last_block x) at

-- "Phase paying; closed at once if no bit is set"
abbrev pub settled_phase : Round → Phase
settled_phase r = cond (eqb (count_of r.tickets) 0) Closed (Paying r)

-- "Answers quote paid by buys, base paid by sells"
abbrev pub settle_with : Exchange → ℕ → ℕ → Round → Outcome
settle_with x market at r =
    accept r.buys.paid.0 r.sells.paid.0
    (with_block (with_phase x market (settled_phase r)) at)

abbrev pub settle_done : Exchange → ℕ → ℕ → Outcome
settle_done x market at = settle_with x market at (round_in (phase x market))

unfoldable pub settle_of : Exchange → ℕ → ℕ → Outcome
settle_of x market at = decide (settle_tests x market at) (refuse x) (settle_done x market at)

-- ---- 10 Claim: ticket

-- 9: "ticket in a round (4, 6), or not in one (10)"
abbrev pub claim_rest : TicketState → Phase → List (Test Refusal)
claim_rest t p =
    when (is_free t) NoSuchOrder
    ∷ when (not (is_entered t)) WrongTicketState
    ∷ when (not (is_paying p)) WrongPhase
    ∷ []

abbrev pub claim_tests : Exchange → ℕ → List (Test Refusal)
claim_tests x k = ticket_form k ++ claim_rest (ticket x k) (phase x (order_in (ticket x k)).market)

-- "Its bit is cleared", and its refund and what it got leave the round
abbrev pub claimed_round : Round → ℕ → Side → ℕ → ℕ → Round
claimed_round r k side refund got =
    with_tickets
    (with_held r (r.quote.0 - by_side side refund got) (r.base.0 - by_side side got refund))
    (removed r.tickets k)

-- "The last claim of a round moves what the round still holds into the tray and closes the market"
abbrev pub paying_or_closed : Exchange → ℕ → Round → Exchange
paying_or_closed x market r =
    cond (eqb (count_of r.tickets) 0)
    (with_phase (to_residue (to_residue x 0 r.quote.0) market r.base.0) market Closed)
    (with_phase x market (Paying r))

-- ticket k with order o pays s and gets got in round r, "The rest, o - s, stays as a resting ticket": "Answers s, got"
abbrev pub paid_out : Exchange → ℕ → Order → Round → ℕ → ℕ → Outcome
paid_out x k o r s got =
    accept s got
    (paying_or_closed
    (credit (with_ticket x k (resting_or o (o.offer.0 - s))) o.member (wanted o.side o.market) got)
    o.market
    (claimed_round r k o.side (o.offer.0 - s) got))

-- "With the side's total T, paid P and got G, an offer o pays s = o×P/T rounded up and gets o×G/T rounded down"
abbrev pub share_in : Round → Order → ℕ
share_in r o = share_paid o.offer.0 (totals_of r o.side).paid.0 (totals_of r o.side).total.0

abbrev pub got_in : Round → Order → ℕ
got_in r o = share_got o.offer.0 (totals_of r o.side).got.0 (totals_of r o.side).total.0

abbrev pub claim_with : Exchange → ℕ → Order → Round → Outcome
claim_with x k o r = paid_out x k o r (share_in r o) (got_in r o)

abbrev pub claim_done : Exchange → ℕ → Outcome
claim_done x k = claim_with x k (order_in (ticket x k)) (round_in (phase x (order_in (ticket x k)).market))

unfoldable pub claim_of : Exchange → ℕ → Outcome
claim_of x k = decide (claim_tests x k) (refuse x) (claim_done x k)

-- ---- 11 Leave: ticket, member; its form is cancel's

-- 8 "as for cancel"; "9 when the ticket is in no round"; "11 when the phase isn't collect"
abbrev pub leave_rest : TicketState → Phase → (member : ℕ) → List (Test Refusal)
leave_rest t p member =
    when (is_free t || not (eqb (order_in t).member member)) NoSuchOrder
    ∷ when (not (is_entered t)) WrongTicketState
    ∷ when (not (is_collect p)) WrongPhase
    ∷ []

-- "1, 4, 8 as for cancel, then 9 .., then 11": the phase of the market of the ticket's order
abbrev pub leave_tests : Exchange → ℕ → ℕ → List (Test Refusal)
leave_tests x k member = cancel_form k member ++ leave_rest (ticket x k) (phase x (order_in (ticket x k)).market) member

-- a side with n less offered
abbrev pub minus_total : Totals → ℕ → Totals
minus_total t n = record { total = amount (t.total.0 - n); paid = t.paid; got = t.got }

-- "takes the ticket out of a round that is still collecting": its offer out of its side's total and of what the round holds, and its bit out of the set
abbrev pub left_round : Round → ℕ → Side → ℕ → Round
left_round r k side n =
    with_tickets
    (with_held
    (with_sides r (by_side side (minus_total r.buys n) r.buys) (by_side side r.sells (minus_total r.sells n)))
    (r.quote.0 - by_side side n 0)
    (r.base.0 - by_side side 0 n))
    (removed r.tickets k)

-- ticket k with order o leaves round r "and makes it rest again. It answers the amount and 0"
abbrev pub leave_with : Exchange → ℕ → Order → Round → Outcome
leave_with x k o r =
    accept o.offer.0 0
    (with_ticket (with_phase x o.market (Collect (left_round r k o.side o.offer.0))) k (Resting o))

abbrev pub leave_done : Exchange → ℕ → Outcome
leave_done x k = leave_with x k (order_in (ticket x k)) (round_in (phase x (order_in (ticket x k)).market))

unfoldable pub leave_of : Exchange → ℕ → ℕ → Outcome
leave_of x k member = decide (leave_tests x k member) (refuse x) (leave_done x k)

-- ---- any call

-- the tests of any call, and what it does where none applies
abbrev pub tests_of : Exchange → Call → List (Test Refusal)
tests_of x (Call.Deposit member token n) = deposit_tests x member token n
tests_of x (Call.Withdraw member token n) = withdraw_tests x member token n
tests_of x (Call.Order k member market side limit n) = order_tests x k member market side limit n
tests_of x (Call.Cancel k member) = cancel_tests x k member
tests_of x (Call.Open market at r w len) = open_tests x market at r w len
tests_of x (Call.Enter k) = enter_tests x k
tests_of x (Call.Match market at) = match_tests x market at
tests_of x (Call.Bid market member at side n bound) = bid_tests x market member at side n bound
tests_of x (Call.Settle market at) = settle_tests x market at
tests_of x (Call.Claim k) = claim_tests x k
tests_of x (Call.Leave k member) = leave_tests x k member

abbrev pub done_of : Exchange → Call → Outcome
done_of x (Call.Deposit member token n) = deposit_done x member token n
done_of x (Call.Withdraw member token n) = withdraw_done x member token n
done_of x (Call.Order k member market side limit n) = order_done x k member market side limit n
done_of x (Call.Cancel k member) = cancel_done x k
done_of x (Call.Open market at r w len) = open_done x market at r w len
done_of x (Call.Enter k) = enter_done x k
done_of x (Call.Match market at) = match_done x market at
done_of x (Call.Bid market member at side n bound) = bid_done x market member at side n
done_of x (Call.Settle market at) = settle_done x market at
done_of x (Call.Claim k) = claim_done x k
done_of x (Call.Leave k member) = leave_done x k
