-- What history makes of orders, parts and rounds, on data where every number is another: what the runs do not reach, and what they reach with
-- equal numbers.
use Rattle.std.specs.Prelude.{ℕ, List, [], ◌∷◌, map, length}
use Rattle.pricing.specs.declared.Side.TheVariants.{Buy, Sell}
use Rattle.model.specs.declared.call.Call.TheVariants.{Leave}
use Rattle.model.specs.Sides.{by_side}
use Rattle.model.specs.History.{PlacedOrder, no_order, placed, less_paid, terms_in, market_in, offered_in, wanted_in, Part, absent, waiting, claimed, offer_on, moved_out, is_ticket, is_waiting, ticket_count, Stage, collecting, auctioning, settled, RoundLog, empty_log, set_stage, set_part, set_m, set_c, set_bid_base, set_bid_quote, with_part, with_match, with_settle, with_bid, changed_at, ended_at, round_begun, Current, idle, running, EndedRound, History, no_history, with_order, with_round, with_accepted}
use Rattle.cases.specs.Literals.{terms}

-- an order of market 3 with 5 left after it paid 2, 5 and 6; no order
unfoldable pub lessened : List PlacedOrder
lessened =
    less_paid (placed (terms 7 Sell 9) 3 5) 2
    ∷ less_paid (placed (terms 7 Sell 9) 3 5) 5
    ∷ less_paid (placed (terms 7 Sell 9) 3 5) 6
    ∷ less_paid no_order 2
    ∷ []

-- the member, limit and market, and the tokens offered and wanted
abbrev pub order_numbers : PlacedOrder → List ℕ
order_numbers o = (terms_in o).member ∷ (terms_in o).limit ∷ market_in o ∷ offered_in o ∷ wanted_in o ∷ []

unfoldable pub parts : List Part
parts = absent ∷ waiting (terms 7 Buy 9) 5 ∷ claimed (terms 7 Buy 9) 5 4 3 ∷ claimed (terms 7 Sell 9) 5 4 3 ∷ []

-- offers and what was moved out, of quote and of base; whether it is a ticket, and one that waits
abbrev pub part_numbers : Part → List ℕ
part_numbers p = offer_on Buy p ∷ offer_on Sell p ∷ moved_out Buy p ∷ moved_out Sell p ∷ is_ticket p ∷ is_waiting p ∷ []

unfoldable pub stages : List Stage
stages = collecting ∷ auctioning ∷ settled ∷ []

-- a round of history whose numbers are all different, and one with each of them changed
abbrev pub stage_number : Stage → ℕ
stage_number collecting = 0
stage_number auctioning = 1
stage_number settled = 2

abbrev pub log_numbers : RoundLog → List ℕ
log_numbers b =
    stage_number b.stage
    ∷ offer_on Buy (b.part 63)
    ∷ b.m
    ∷ b.c
    ∷ b.bid_base Buy
    ∷ b.bid_base Sell
    ∷ b.bid_quote Buy
    ∷ b.bid_quote Sell
    ∷ []

abbrev pub numbered_log : RoundLog
numbered_log =
    record {
      stage = auctioning;
      part = λ k. waiting (terms 7 Buy 9) 2;
      m = 3;
      c = 4;
      bid_base = λ side. by_side side 5 6;
      bid_quote = λ side. by_side side 7 8;
    }

unfoldable pub logs_changed : List RoundLog
logs_changed =
    numbered_log
    ∷ set_stage numbered_log settled
    ∷ set_part numbered_log (λ k. waiting (terms 7 Buy 9) 20)
    ∷ set_m numbered_log 20
    ∷ set_c numbered_log 20
    ∷ set_bid_base numbered_log (λ side. by_side side 20 21)
    ∷ set_bid_quote numbered_log (λ side. by_side side 20 21)
    ∷ with_match (set_stage numbered_log collecting) 20 21
    ∷ with_settle numbered_log
    ∷ with_bid numbered_log Buy 20 30
    ∷ with_bid numbered_log Sell 20 30
    ∷ empty_log
    ∷ []

-- m of a market's round, where it has one
abbrev pub current_numbers : Current → List ℕ
current_numbers idle = []
current_numbers (running b) = b.m ∷ []

-- a round that collects, with m 4, and the same with a ticket; and what changes a round here
abbrev pub with_four : RoundLog
with_four = set_m empty_log 4

abbrev pub with_ticket_four : RoundLog
with_ticket_four = with_part with_four 63 (waiting (terms 7 Buy 9) 5)

abbrev pub to_nine : RoundLog → RoundLog
to_nine b = set_m b 9

-- only a round at the stage named changes, and none begins where one runs
unfoldable pub changes : List Current
changes =
    changed_at collecting to_nine idle
    ∷ changed_at collecting to_nine (running with_four)
    ∷ changed_at auctioning to_nine (running with_four)
    ∷ round_begun idle
    ∷ round_begun (running with_four)
    ∷ []

-- market 3's round of m 7, after another one at that place is changed and may end by it: not at another stage, not with a ticket that waits
unfoldable pub ends : List History
ends =
    ended_at collecting to_nine (with_round no_history 3 (running (set_m empty_log 7))) 3 idle
    ∷ ended_at settled to_nine (with_round no_history 3 (running (set_m empty_log 7))) 3 (running with_four)
    ∷ ended_at collecting to_nine (with_round no_history 3 (running (set_m empty_log 7))) 3 (running with_ticket_four)
    ∷ ended_at collecting to_nine (with_round no_history 3 (running (set_m empty_log 7))) 3 (running with_four)
    ∷ []

-- the round at market 3, and those that ended
abbrev pub end_numbers : History → List ℕ × List ℕ
end_numbers y = (current_numbers (y.rounds 3), map (λ (e : EndedRound). e.log.m) y.ended)

-- tickets 63 and 62 in market 2's round, which collects, and in market 3's at a stage, each with an offer of its own; ticket 63's order is of
-- market 3
abbrev pub two_tickets : Stage → (first second : ℕ) → Current
two_tickets g first second = running (with_part (with_part (set_stage empty_log g) 63 (waiting (terms 7 Buy 9) first)) 62 (waiting (terms 8 Buy 9) second))

abbrev pub entered_at : Stage → History
entered_at g = with_order (with_round (with_round no_history 2 (two_tickets collecting 4 5)) 3 (two_tickets g 6 7)) 63 (placed (terms 7 Buy 9) 3 6)

-- ticket 63 leaves, and the call names 62, which is no member: history does not look at it. While its round collects, at the other stages, and
-- where no round runs; then a ticket without an order
unfoldable pub leaves : List History
leaves =
    with_accepted (entered_at collecting) (Leave 63 62) 6 0
    ∷ with_accepted (entered_at auctioning) (Leave 63 62) 6 0
    ∷ with_accepted (entered_at settled) (Leave 63 62) 6 0
    ∷ with_accepted (with_round (entered_at collecting) 3 idle) (Leave 63 62) 6 0
    ∷ with_accepted (entered_at collecting) (Leave 62 63) 6 0
    ∷ []

-- how many tickets a round has, and the offers of 63 and 62
abbrev pub offers_in : Current → List ℕ
offers_in idle = []
offers_in (running b) = ticket_count b ∷ offer_on Buy (b.part 63) ∷ offer_on Buy (b.part 62) ∷ []

-- what came to and went from member 7 in quote and in market 3's base, claims, and rounds that ended
abbrev pub moved_in : History → List ℕ
moved_in y = y.credits 7 0 ∷ y.credits 7 3 ∷ y.debits 7 0 ∷ y.debits 7 3 ∷ length y.payouts ∷ length y.ended ∷ []

-- the offers in markets 2 and 3, ticket 63's order, and what moved
abbrev pub leave_numbers : History → List ℕ × List ℕ × PlacedOrder × List ℕ
leave_numbers y = (offers_in (y.rounds 2), offers_in (y.rounds 3), y.orders 63, moved_in y)
