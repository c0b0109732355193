-- The examples, computed.
use mathlib.Core.Path.{◌≡◌, refl}
use mathlib.Core.Bool.{true}
use mathlib.Core.List.{map}
use native.Mathlib.Omega.{arith}
use Rattle.pricing.specs.declared.Side.TheVariants.{Buy}
use Rattle.model.specs.State.{fresh_exchange}
use Rattle.model.specs.WholeRun.{SettledTicket}
use Rattle.model.specs.Scripts.{worked, calls_of, history_after, log_after, share_from, worked_accounts, summed, deposits_in}
use Rattle.model.proofs.Day.{has_round}
use Rattle.model.specs.Kinds.{kinds}
use Rattle.cases.specs.Examples.{balances_moved, orders_rested, collected, base_sold, quote_sold, first_round, second_round, second_paid, both_sides_sold, nothing_sold, three_sells, matches_bounded, matches_lowered, quote_of_nothing, late_matches, prices_stepped, auctions_still, last_places_ended, last_places_settled, last_places_paid, last_blocks, last_settle, supply_full, tickets_left, left_empty, sells_left, sells_paid, far_fields, far_missed, far_bounds, inner_matched, inner_settled, strangers, endless_auctions, largest_settled, largest_paid, largest_rates, largest_bids, largest_quotes, second_settled, two_rounds_accounts, left_accounts, largest_accounts, examples, shown_in, shown, all_shown, covers}
use Rattle.model.proofs.Computing.{call_computes, history_computes}

-- the definitions give every answer and every reading of every script
pub examples_hold : map (worked fresh_exchange) examples ≡ examples
unfolding examples balances_moved orders_rested collected base_sold quote_sold first_round second_round second_paid both_sides_sold nothing_sold three_sells matches_bounded matches_lowered quote_of_nothing late_matches prices_stepped auctions_still last_places_ended last_places_settled last_places_paid last_blocks last_settle supply_full tickets_left left_empty sells_left sells_paid far_fields far_missed far_bounds inner_matched inner_settled strangers endless_auctions largest_settled largest_paid largest_rates largest_bids largest_quotes worked call_computes
examples_hold = refl

-- every pair of a kind and a code that it tests occurs in them, and every kind is accepted
pub all_shown_lem : covers examples kinds ≡ true
unfolding examples balances_moved orders_rested collected base_sold quote_sold first_round second_round second_paid both_sides_sold nothing_sold three_sells matches_bounded matches_lowered quote_of_nothing late_matches prices_stepped auctions_still last_places_ended last_places_settled last_places_paid last_blocks last_settle supply_full tickets_left left_empty sells_left sells_paid far_fields far_missed far_bounds inner_matched inner_settled strangers endless_auctions largest_settled largest_paid largest_rates largest_bids largest_quotes shown_in shown all_shown covers
all_shown_lem = refl

-- the theorem's numbers on the two rounds, and that they add up
pub two_rounds_accounts_lem : map worked_accounts two_rounds_accounts ≡ two_rounds_accounts
unfolding two_rounds_accounts first_round second_round second_paid calls_of worked_accounts history_computes
two_rounds_accounts_lem = refl

pub two_rounds_add_up : map summed two_rounds_accounts ≡ map deposits_in two_rounds_accounts
unfolding two_rounds_accounts summed deposits_in
two_rounds_add_up = refl

-- and on a run with tickets that left
pub left_accounts_lem : map worked_accounts left_accounts ≡ left_accounts
unfolding left_accounts sells_left sells_paid calls_of worked_accounts history_computes
left_accounts_lem = refl

pub left_adds_up : map summed left_accounts ≡ map deposits_in left_accounts
unfolding left_accounts summed deposits_in
left_adds_up = refl

-- and on a run with all there can be of two tokens
pub largest_accounts_lem : map worked_accounts largest_accounts ≡ largest_accounts
unfolding largest_accounts largest_settled largest_paid calls_of worked_accounts history_computes
largest_accounts_lem = refl

pub largest_adds_up : map summed largest_accounts ≡ map deposits_in largest_accounts
unfolding largest_accounts summed deposits_in
largest_adds_up = refl

-- in the second round ticket 5 is settled with o 809, its order's 1000 less the 191 of its first claim, and its share is what its claim answers
pub second_settled_lem : SettledTicket (history_after second_settled) 5 (record { member = 0; side = Buy; limit = 3000000 }) 1 809 (log_after second_settled 1)
unfolding first_round second_round calls_of history_computes
second_settled_lem = record { ticket_range = omega arith; market_low = omega arith; market_high = omega arith; round = has_round ((history_after second_settled).rounds 1) tt; stage = refl; part = refl }

pub second_share : share_from (log_after second_settled 1) Buy 809 ≡ (211, 70)
unfolding first_round second_round calls_of history_computes
second_share = refl
