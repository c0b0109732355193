-- What is read off the exchange, and the exchange with one thing changed.
use Rattle.std.specs.Prelude.{ℕ, zero, suc, ◌+◌, Bool, true, false, List, get_or, set, replicate}
use Rattle.units.specs.declared.Amount.{Amount}
use Rattle.units.specs.declared.Price.{Price}
use Rattle.units.specs.declared.Block.{Block}
use Rattle.units.specs.Counts.{amount, price, block}
use Rattle.pricing.specs.declared.Side.{Side}
use Rattle.pricing.specs.declared.Side.TheVariants.{Buy, Sell}
use Rattle.pricing.specs.declared.Totals.{Totals}
use Rattle.ledger.specs.declared.Ledger.{Ledger}
use Rattle.ledger.specs.Balances.{balance_in, credited, debited, fresh_ledger}
use Rattle.model.specs.declared.state.Order.{Order}
use Rattle.model.specs.declared.state.Ticket.{Ticket}
use Rattle.model.specs.declared.state.TicketState.{TicketState}
use Rattle.model.specs.declared.state.TicketState.TheVariants.{Free, Resting, Entered}
use Rattle.model.specs.declared.state.Round.{Round}
use Rattle.model.specs.declared.state.Phase.{Phase}
use Rattle.model.specs.declared.state.Phase.TheVariants.{Closed, Collect, Auction, Paying}
use Rattle.model.specs.declared.state.Market.{Market}
use Rattle.model.specs.declared.state.Exchange.{Exchange}

-- ---- balances, supply, residue, last block

-- the balance of member m in token t
abbrev pub balance : Exchange → ℕ → ℕ → ℕ
balance x m t = balance_in x.ledger m t

-- deposits less withdrawals of a token
abbrev pub supply : Exchange → ℕ → ℕ
supply x t = (get_or x.supply t (amount 0)).0

-- document 01's tray: what rounding left of a token
abbrev pub residue : Exchange → ℕ → ℕ
residue x t = (get_or x.residue t (amount 0)).0

-- "The last block number accepted, shared by all markets"
abbrev pub last_block : Exchange → ℕ
last_block x = x.last.0

-- ---- tickets

abbrev pub blank_order : Order
blank_order = record { member = 0; market = 0; side = Buy; limit = price 0; offer = amount 0 }

abbrev pub free_ticket : Ticket
free_ticket = record { state = Free }

-- what ticket k is: "free, resting, or in a round"
abbrev pub ticket : Exchange → ℕ → TicketState
ticket x k = (get_or x.tickets k free_ticket).state

-- the order of a ticket in use
abbrev pub order_in : TicketState → Order
order_in Free = blank_order
order_in (Resting o) = o
order_in (Entered o) = o

abbrev pub is_free : TicketState → Bool
is_free Free = true
is_free (Resting o) = false
is_free (Entered o) = false

abbrev pub is_entered : TicketState → Bool
is_entered Free = false
is_entered (Resting o) = false
is_entered (Entered o) = true

-- the same order with another offer
abbrev pub offering : Order → ℕ → Order
offering o n =
    record { member = o.member; market = o.market; side = o.side; limit = o.limit; offer = amount n }

-- "stays as a resting ticket, or the ticket is free at 0"
abbrev pub resting_or : Order → ℕ → TicketState
resting_or o zero = Free
resting_or o (suc n) = Resting (offering o (suc n))

-- ---- markets 1 to 3, at places 0 to 2

abbrev pub closed_market : Market
closed_market = record { phase = Closed }

-- market n; there is no market 0
abbrev pub market_at : List Market → ℕ → Market
market_at ms zero = closed_market
market_at ms (suc i) = get_or ms i closed_market

-- "Phase: closed, collect, auction, paying"
abbrev pub phase : Exchange → ℕ → Phase
phase x n = (market_at x.markets n).phase

abbrev pub no_totals : Totals
no_totals = record { total = amount 0; paid = amount 0; got = amount 0 }

-- a round with its block, reference price, length and bounds, and nothing entered
abbrev pub opened_between : ℕ → ℕ → ℕ → (hi lo : Price) → Round
opened_between at r len hi lo =
    record {
      reference = price r;
      hi = hi;
      lo = lo;
      length = len;
      opened = block at;
      start = block 0;
      tickets = 0;
      buys = no_totals;
      sells = no_totals;
      quote = amount 0;
      base = amount 0;
    }

abbrev pub blank_round : Round
blank_round = opened_between 0 0 0 (price 0) (price 0)

-- the round of a market that is not closed
abbrev pub round_in : Phase → Round
round_in Closed = blank_round
round_in (Collect r) = r
round_in (Auction r) = r
round_in (Paying r) = r

abbrev pub is_closed : Phase → Bool
is_closed Closed = true
is_closed (Collect r) = false
is_closed (Auction r) = false
is_closed (Paying r) = false

abbrev pub is_collect : Phase → Bool
is_collect Closed = false
is_collect (Collect r) = true
is_collect (Auction r) = false
is_collect (Paying r) = false

abbrev pub is_auction : Phase → Bool
is_auction Closed = false
is_auction (Collect r) = false
is_auction (Auction r) = true
is_auction (Paying r) = false

abbrev pub is_paying : Phase → Bool
is_paying Closed = false
is_paying (Collect r) = false
is_paying (Auction r) = false
is_paying (Paying r) = true

-- the total T, paid P and got G of a side
abbrev pub totals_of : Round → Side → Totals
totals_of r Buy = r.buys
totals_of r Sell = r.sells

-- ---- a round with one thing changed

-- one field set; a new field of a round is named here, in opened_between, in the struct, where code opens a round and in a case

abbrev pub with_start : Round → ℕ → Round
with_start r b =
    record { reference = r.reference; hi = r.hi; lo = r.lo; length = r.length; opened = r.opened; start = block b; tickets = r.tickets; buys = r.buys; sells = r.sells; quote = r.quote; base = r.base }

abbrev pub with_tickets : Round → ℕ → Round
with_tickets r s =
    record { reference = r.reference; hi = r.hi; lo = r.lo; length = r.length; opened = r.opened; start = r.start; tickets = s; buys = r.buys; sells = r.sells; quote = r.quote; base = r.base }

abbrev pub with_buys : Round → Totals → Round
with_buys r t =
    record { reference = r.reference; hi = r.hi; lo = r.lo; length = r.length; opened = r.opened; start = r.start; tickets = r.tickets; buys = t; sells = r.sells; quote = r.quote; base = r.base }

abbrev pub with_sells : Round → Totals → Round
with_sells r t =
    record { reference = r.reference; hi = r.hi; lo = r.lo; length = r.length; opened = r.opened; start = r.start; tickets = r.tickets; buys = r.buys; sells = t; quote = r.quote; base = r.base }

abbrev pub with_quote : Round → ℕ → Round
with_quote r n =
    record { reference = r.reference; hi = r.hi; lo = r.lo; length = r.length; opened = r.opened; start = r.start; tickets = r.tickets; buys = r.buys; sells = r.sells; quote = amount n; base = r.base }

abbrev pub with_base : Round → ℕ → Round
with_base r n =
    record { reference = r.reference; hi = r.hi; lo = r.lo; length = r.length; opened = r.opened; start = r.start; tickets = r.tickets; buys = r.buys; sells = r.sells; quote = r.quote; base = amount n }

-- the totals of both sides
abbrev pub with_sides : Round → Totals → Totals → Round
with_sides r buys sells = with_sells (with_buys r buys) sells

-- what the round holds
abbrev pub with_held : Round → ℕ → ℕ → Round
with_held r quote base = with_base (with_quote r quote) base

-- ---- the exchange with one thing changed

-- one field set; a new field of the exchange is named here, in fresh_exchange, in the struct and in its `fresh`, and nowhere else

abbrev pub set_ledger : Exchange → Ledger → Exchange
set_ledger x v =
    record { ledger = v; supply = x.supply; residue = x.residue; tickets = x.tickets; markets = x.markets; last = x.last }

abbrev pub set_supply : Exchange → List Amount → Exchange
set_supply x v =
    record { ledger = x.ledger; supply = v; residue = x.residue; tickets = x.tickets; markets = x.markets; last = x.last }

abbrev pub set_residue : Exchange → List Amount → Exchange
set_residue x v =
    record { ledger = x.ledger; supply = x.supply; residue = v; tickets = x.tickets; markets = x.markets; last = x.last }

abbrev pub set_tickets : Exchange → List Ticket → Exchange
set_tickets x v =
    record { ledger = x.ledger; supply = x.supply; residue = x.residue; tickets = v; markets = x.markets; last = x.last }

abbrev pub set_markets : Exchange → List Market → Exchange
set_markets x v =
    record { ledger = x.ledger; supply = x.supply; residue = x.residue; tickets = x.tickets; markets = v; last = x.last }

abbrev pub set_last : Exchange → Block → Exchange
set_last x v =
    record { ledger = x.ledger; supply = x.supply; residue = x.residue; tickets = x.tickets; markets = x.markets; last = v }

abbrev pub with_supply : Exchange → ℕ → ℕ → Exchange
with_supply x t n = set_supply x (set x.supply t (amount n))

abbrev pub with_residue : Exchange → ℕ → ℕ → Exchange
with_residue x t n = set_residue x (set x.residue t (amount n))

abbrev pub with_ticket : Exchange → ℕ → TicketState → Exchange
with_ticket x k s = set_tickets x (set x.tickets k (record { state = s }))

-- a market in another phase; it has nothing else
abbrev pub in_phase : Market → Phase → Market
in_phase m p = record { phase = p }

abbrev pub set_market : List Market → ℕ → Market → List Market
set_market ms zero m = ms
set_market ms (suc i) m = set ms i m

abbrev pub with_phase : Exchange → ℕ → Phase → Exchange
with_phase x n p = set_markets x (set_market x.markets n (in_phase (market_at x.markets n) p))

abbrev pub with_block : Exchange → ℕ → Exchange
with_block x b = set_last x (block b)

-- n more, and n less, of token t for member m
abbrev pub credit : Exchange → ℕ → ℕ → ℕ → Exchange
credit x m t n = set_ledger x (credited x.ledger m t n)

abbrev pub debit : Exchange → ℕ → ℕ → ℕ → Exchange
debit x m t n = set_ledger x (debited x.ledger m t n)

-- "into the tray"
abbrev pub to_residue : Exchange → ℕ → ℕ → Exchange
to_residue x t n = with_residue x t (residue x t + n)

-- "A fresh house is all zero, free and closed"
abbrev pub fresh_exchange : Exchange
fresh_exchange =
    record {
      ledger = fresh_ledger;
      supply = replicate 4 (amount 0);
      residue = replicate 4 (amount 0);
      tickets = replicate 64 free_ticket;
      markets = replicate 3 closed_market;
      last = block 0;
    }
