-- The day of document 01, computed.
use mathlib.Core.Path.{◌≡◌, refl}
use mathlib.Core.List.{[], ◌∷◌, map}
use native.Mathlib.Omega.{arith}
use Rattle.pricing.specs.declared.Side.TheVariants.{Buy, Sell}
use Rattle.model.specs.State.{fresh_exchange}
use Rattle.model.specs.Submissions.{model_engine, events_of}
use Rattle.model.specs.History.{Current, idle, running, log_of}
use Rattle.model.specs.WholeRun.{SettledTicket}
use Rattle.model.specs.Scripts.{requests, history_after, log_after, share_from, worked_accounts, summed, deposits_in, worked_member}
use Rattle.model.specs.Day.{day_orders, day_collect, day_auction, day_claims, until_settle, day, answers_to, printed, lines_from, printed_lines, room_at_open, short_at_open, refused_in, day_accounts, day_members}
use Rattle.model.proofs.Computing.{history_computes, run_computes}

-- the printed answers; with 20 bytes for line 6 the day is the same, with 19 the line is 21 and nothing is opened; 21 goes before code 1 too
pub day_printed : map answers_to (requests day ∷ room_at_open 20 ∷ room_at_open 19 ∷ refused_in 8 ∷ refused_in 7 ∷ []) ≡ printed ∷ printed ∷ short_at_open ∷ ((1, 0, 0) ∷ []) ∷ ((21, 0, 0) ∷ []) ∷ []
unfolding day_orders day_collect day_auction day_claims printed short_at_open run_computes
day_printed = refl

-- and the printed bytes
pub day_lines : lines_from 1 (events_of model_engine fresh_exchange (requests day)) ≡ printed_lines
unfolding day_orders day_collect day_auction day_claims lines_from printed_lines run_computes
day_lines = refl

-- the theorem's numbers, and that they add up
pub day_accounts_lem : map worked_accounts day_accounts ≡ day_accounts
unfolding day_orders day_collect day_auction day_claims day_accounts worked_accounts history_computes
day_accounts_lem = refl

pub day_adds_up : map summed day_accounts ≡ map deposits_in day_accounts
unfolding day_accounts summed deposits_in
day_adds_up = refl

pub day_members_lem : map worked_member day_members ≡ day_members
unfolding day_orders day_collect day_auction day_claims day_members worked_member history_computes
day_members_lem = refl

-- a market that has a round
abbrev pub HasRound : Current → Type 0
HasRound idle = ⊥
HasRound (running b) = Unit {0}

pub has_round : (c : Current) → HasRound c → c ≡ running (log_of c)
has_round idle = elim [ ]
has_round (running b) = λ e. refl

-- after line 11 tickets 0 and 1 are settled, so that the theorem's clause on settled tickets speaks of them
pub buy_settled : SettledTicket (history_after until_settle) 0 (record { member = 0; side = Buy; limit = 3000000 }) 1 600 (log_after until_settle 1)
unfolding day_orders day_collect day_auction day_claims history_computes
buy_settled = record { ticket_range = omega arith; market_low = omega arith; market_high = omega arith; round = has_round ((history_after until_settle).rounds 1) tt; stage = refl; part = refl }

pub sell_settled : SettledTicket (history_after until_settle) 1 (record { member = 1; side = Sell; limit = 2000000 }) 1 300 (log_after until_settle 1)
unfolding day_orders day_collect day_auction day_claims history_computes
sell_settled = record { ticket_range = omega arith; market_low = omega arith; market_high = omega arith; round = has_round ((history_after until_settle).rounds 1) tt; stage = refl; part = refl }

-- and their shares, worked from history, are what lines 12 and 13 print
pub day_shares : (share_from (log_after until_settle 1) Buy 600 ∷ share_from (log_after until_settle 1) Sell 300 ∷ []) ≡ (600, 240) ∷ (300, 750) ∷ []
unfolding day_orders day_collect day_auction day_claims history_computes
day_shares = refl
