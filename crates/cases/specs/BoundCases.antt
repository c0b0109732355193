-- States that the bounds refuse, each one unit off at the last place it speaks of, the last token, member, ticket and market, and within every
-- other bound but where it is said.
use Rattle.std.specs.Prelude.{ℕ, replicate, set}
use Rattle.units.specs.Counts.{amount, price}
use Rattle.pricing.specs.declared.Side.TheVariants.{Buy, Sell}
use Rattle.pricing.specs.declared.Totals.{Totals}
use Rattle.ledger.specs.declared.Row.{Row}
use Rattle.model.specs.declared.state.Order.{Order}
use Rattle.model.specs.declared.state.TicketState.{TicketState}
use Rattle.model.specs.declared.state.TicketState.TheVariants.{Resting, Entered}
use Rattle.model.specs.declared.state.Round.{Round}
use Rattle.model.specs.declared.state.Phase.{Phase}
use Rattle.model.specs.declared.state.Phase.TheVariants.{Collect, Auction, Paying}
use Rattle.model.specs.declared.state.Exchange.{Exchange}
use Rattle.model.specs.State.{free_ticket, closed_market, opened_between, with_start, with_tickets, with_buys, with_sells, with_held, set_ledger, set_supply, set_residue, set_tickets, set_markets, with_supply, with_residue, with_ticket, with_phase, with_block, credit, fresh_exchange}
use Rattle.model.specs.Bounds.{ClaimBounds, Bounded}
use Rattle.cases.specs.Literals.{order, totals}

abbrev pub NotBounded : Exchange → Type 0
NotBounded x = Bounded x → ⊥

-- the fresh state with room for all amounts below: the largest supply of every token
abbrev pub supplied : Exchange
supplied = set_supply fresh_exchange (replicate 4 (amount 4294967295))

-- with something at ticket 63, or in market 3
abbrev pub at_ticket : TicketState → Exchange
at_ticket t = with_ticket supplied 63 t

abbrev pub at_market : Phase → Exchange
at_market p = with_phase supplied 3 p

-- a row of n cells
abbrev pub zero_row : ℕ → Row
zero_row n = record { cells = replicate n (amount 0) }

-- a round between 1 and 3 around 2, of 64 blocks; its sides, what it holds and its tickets
abbrev pub plain_round : Round
plain_round = opened_between 0 2 64 (price 3) (price 1)

abbrev pub buying : Totals → (quote base : ℕ) → Round
buying t q n = with_held (with_buys plain_round t) q n

abbrev pub selling : Totals → (quote base : ℕ) → Round
selling t q n = with_held (with_sells plain_round t) q n

-- ticket 63 alone
abbrev pub marking : Round → Round
marking r = with_tickets r 9223372036854775808

-- balance, ticket, round and residue have 1 each of a supply of 3
abbrev pub over_quote : Exchange
over_quote =
    with_residue
    (with_phase (with_ticket (credit (with_supply fresh_exchange 0 3) 15 0 1) 63 (Resting (order 15 3 Buy 1 1))) 3 (Collect (buying (totals 1 0 0) 1 0)))
    0 1

abbrev pub over_base : Exchange
over_base =
    with_residue
    (with_phase (with_ticket (credit (with_supply fresh_exchange 3 3) 15 3 1) 63 (Resting (order 15 3 Sell 1 1))) 3 (Collect (selling (totals 1 0 0) 0 1)))
    3 1

abbrev pub over_first : Exchange
over_first =
    with_residue
    (with_phase (with_ticket (credit (with_supply fresh_exchange 1 3) 0 1 1) 0 (Resting (order 0 1 Sell 1 1))) 1 (Collect (selling (totals 1 0 0) 0 1)))
    1 1

-- ticket 63 in market 3's round, which collects: with any order, where the sells offer 1; and with an offer of 5, in any round
abbrev pub entered_with : Order → Exchange
entered_with o = with_ticket (at_market (Collect (marking (selling (totals 1 0 0) 0 1)))) 63 (Entered o)

abbrev pub collecting_sell : Round → Exchange
collecting_sell r = with_ticket (at_market (Collect r)) 63 (Entered (order 15 3 Sell 1 5))

abbrev pub collecting_buy : Round → Exchange
collecting_buy r = with_ticket (at_market (Collect r)) 63 (Entered (order 15 3 Buy 1 5))

-- ticket 63 in market 3's round, which pays
abbrev pub paying_sell : Round → Exchange
paying_sell r = with_ticket (at_market (Paying r)) 63 (Entered (order 15 3 Sell 1 5))

abbrev pub paying_buy : Round → Exchange
paying_buy r = with_ticket (at_market (Paying r)) 63 (Entered (order 15 3 Buy 1 5))

pub record BoundsRefused : Type 0 where
  -- sizes
  pub rows_17 : NotBounded (set_ledger fresh_exchange (record { rows = replicate 17 (zero_row 4) }))
  pub cells_3 : NotBounded (set_ledger fresh_exchange (record { rows = set (replicate 16 (zero_row 4)) 15 (zero_row 3) }))
  pub three_supplies : NotBounded (set_supply fresh_exchange (replicate 3 (amount 0)))
  pub three_residues : NotBounded (set_residue fresh_exchange (replicate 3 (amount 0)))
  pub tickets_63 : NotBounded (set_tickets fresh_exchange (replicate 63 free_ticket))
  pub two_markets : NotBounded (set_markets fresh_exchange (replicate 2 closed_market))
  -- sums
  pub over_quote_lem : NotBounded over_quote
  pub over_base_lem : NotBounded over_base
  pub over_supply : NotBounded (with_supply fresh_exchange 3 4294967296)
  -- orders: member 16, market 0, market 4, limit 0, offer 0; one of no market is in no round, which two bounds refuse
  pub resting_member : NotBounded (at_ticket (Resting (order 16 3 Sell 1 1)))
  pub resting_market_0 : NotBounded (at_ticket (Resting (order 15 0 Sell 1 1)))
  pub resting_market_4 : NotBounded (at_ticket (Resting (order 15 4 Sell 1 1)))
  pub resting_limit : NotBounded (at_ticket (Resting (order 15 3 Sell 0 1)))
  pub resting_offer : NotBounded (at_ticket (Resting (order 15 3 Sell 1 0)))
  pub entered_member : NotBounded (entered_with (order 16 3 Sell 1 1))
  pub entered_market_0 : NotBounded (at_ticket (Entered (order 15 0 Sell 1 1)))
  pub entered_market_4 : NotBounded (at_ticket (Entered (order 15 4 Sell 1 1)))
  pub entered_limit : NotBounded (entered_with (order 15 3 Sell 0 1))
  pub entered_offer : NotBounded (entered_with (order 15 3 Sell 1 0))
  -- terms: lo 0; lo above r and so, equally far, r above hi, which two bounds refuse; a bound one further from r than the other; hi above
  -- 1,500,000,000; L 0, L 65
  pub lo_zero : NotBounded (at_market (Paying (opened_between 0 2 64 (price 4) (price 0))))
  pub lo_high : NotBounded (at_market (Paying (opened_between 0 2 64 (price 1) (price 3))))
  pub hi_low : NotBounded (at_market (Paying (opened_between 0 2 64 (price 1) (price 3))))
  pub lo_near : NotBounded (at_market (Paying (opened_between 0 2 64 (price 3) (price 2))))
  pub hi_near : NotBounded (at_market (Paying (opened_between 0 2 64 (price 2) (price 1))))
  pub hi_high : NotBounded (at_market (Paying (opened_between 0 750000001 64 (price 1500000001) (price 1))))
  pub length_zero : NotBounded (at_market (Paying (opened_between 0 2 0 (price 3) (price 1))))
  pub length_65 : NotBounded (at_market (Paying (opened_between 0 2 65 (price 3) (price 1))))
  -- in every phase
  pub collect_length : NotBounded (at_market (Collect (opened_between 0 2 65 (price 3) (price 1))))
  pub auction_length : NotBounded (at_market (Auction (opened_between 0 2 65 (price 3) (price 1))))
  -- sides: paid above total, total or got above 32 bits; a ticket 64
  pub buys_paid : NotBounded (at_market (Paying (buying (totals 4 5 0) 9 9)))
  pub sells_paid : NotBounded (at_market (Paying (selling (totals 4 5 0) 9 9)))
  pub buys_total : NotBounded (at_market (Paying (buying (totals 4294967296 0 0) 9 9)))
  pub sells_total : NotBounded (at_market (Paying (selling (totals 4294967296 0 0) 9 9)))
  pub buys_got : NotBounded (at_market (Paying (buying (totals 0 0 4294967296) 9 9)))
  pub sells_got : NotBounded (at_market (Paying (selling (totals 0 0 4294967296) 9 9)))
  pub ticket_64 : NotBounded (at_market (Paying (with_tickets plain_round 18446744073709551616)))
  -- while collecting, what a side holds is its total, and nothing is paid or got
  pub collect_quote : NotBounded (at_market (Collect (buying (totals 5 0 0) 4 0)))
  pub collect_base : NotBounded (at_market (Collect (selling (totals 5 0 0) 0 4)))
  pub collect_paid : NotBounded (at_market (Collect (selling (totals 5 1 0) 0 5)))
  pub collect_got : NotBounded (at_market (Collect (buying (totals 5 0 1) 5 0)))
  -- in auction, what is not sold and what a side got is held
  pub auction_quote : NotBounded (at_market (Auction (buying (totals 5 2 0) 2 9)))
  pub auction_base : NotBounded (at_market (Auction (selling (totals 5 2 0) 9 2)))
  pub auction_buys_got : NotBounded (at_market (Auction (buying (totals 5 2 3) 9 2)))
  pub auction_sells_got : NotBounded (at_market (Auction (selling (totals 5 2 3) 2 9)))
  -- a ticket marked that rests, which two bounds refuse, one that is free, and one that entered another market
  pub rests_marked : NotBounded (with_ticket (at_market (Collect (marking plain_round))) 63 (Resting (order 15 3 Buy 1 1)))
  pub marked_free : NotBounded (at_market (Collect (marking plain_round)))
  pub marked_other : NotBounded (with_phase (with_ticket (at_market (Collect (marking plain_round))) 63 (Entered (order 15 2 Buy 1 1))) 2 (Collect (marking (buying (totals 1 0 0) 1 0))))
  -- a ticket that entered, not marked or above its side's total, in every phase
  pub entered_unmarked : NotBounded (collecting_sell (selling (totals 5 0 0) 0 5))
  pub entered_sell_over : NotBounded (collecting_sell (marking (selling (totals 4 0 0) 0 4)))
  pub entered_buy_over : NotBounded (collecting_buy (marking (buying (totals 4 0 0) 4 0)))
  pub auction_unmarked : NotBounded (with_ticket (at_market (Auction (selling (totals 5 0 0) 0 5))) 63 (Entered (order 15 3 Sell 1 5)))
  pub paying_unmarked : NotBounded (paying_sell (selling (totals 10 7 7) 9 9))
  pub paying_over : NotBounded (paying_sell (marking (selling (totals 4 4 4) 9 9)))
  pub entered_closed : NotBounded (at_ticket (Entered (order 15 3 Sell 1 5)))
  -- a claim of 5 that is not held: T 10, P 7, G 7 pay 4 and get 3
  pub sell_refund : NotBounded (paying_sell (marking (selling (totals 10 7 7) 9 0)))
  pub sell_payment : NotBounded (paying_sell (marking (selling (totals 10 7 7) 2 9)))
  pub buy_refund : NotBounded (paying_buy (marking (buying (totals 10 7 7) 0 9)))
  pub buy_payment : NotBounded (paying_buy (marking (buying (totals 10 7 7) 9 2)))
  -- one that pays 6 where it offers 5; no share does, since no side pays above its total
  pub pays_over : ClaimBounds (marking (selling (totals 10 7 7) 9 9)) (order 15 3 Sell 1 5) 6 3 → ⊥
  -- opened or started after the last block, 7
  pub opened_later : NotBounded (with_block (at_market (Collect (opened_between 8 2 64 (price 3) (price 1)))) 7)
  pub started_later : NotBounded (with_block (at_market (Auction (with_start plain_round 8))) 7)
  -- and in market 1
  pub over_first : NotBounded over_first
  pub first_length : NotBounded (with_phase fresh_exchange 1 (Paying (opened_between 0 2 65 (price 3) (price 1))))
  pub first_entered : NotBounded (with_ticket supplied 0 (Entered (order 0 1 Buy 1 1)))
  pub first_marked : NotBounded (with_phase fresh_exchange 1 (Collect (with_tickets plain_round 1)))
  pub first_opened : NotBounded (with_block (with_phase fresh_exchange 1 (Collect (opened_between 8 2 64 (price 3) (price 1)))) 7)
  pub first_started : NotBounded (with_block (with_phase fresh_exchange 1 (Auction (with_start plain_round 8))) 7)
