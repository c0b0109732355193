-- `bids::bid` meets its contract. Its `requires` gives a record, whose facts the check takes only where an answer names it.
use Rattle.std.proofs.Common.{◌≡◌, ◌<◌, ◌∙◌, false, arith}
use Rattle.std.proofs.lemmas.Grind.{common_steps}
use Rattle.model.specs.State.{totals_of}
use Rattle.model.specs.Calls.{not_available}
use Rattle.parts.specs.Parts.{bid_on}
use Rattle.parts.proofs.RowCalls.{debit_decided}
use Rattle.model.proofs.Frames.{wanted_lt}
use Rattle.bids.proofs.Laws.{trade_fits, takes_fit, given_taken, amount_by_side}
use Rattle.bids.proofs.bid.Goals as goal

pub quote_at-quote-requires : goal.quote_at-quote-requires
quote_at-quote-requires c = grind (arith, common_steps, c.requires c.in-Auction.r c.in-Auction.is)

pub not_available-requires : goal.not_available-requires
not_available-requires c = grind (arith, common_steps, c.requires c.in-Auction.r c.in-Auction.is)

pub returns-in_default-debit_row : goal.returns-in_default-debit_row
unfolding bid_on
returns-in_default-debit_row c =
    let b = c.requires c.in-Auction.r c.in-Auction.is in
    let token : c.wanted_token.result < 4 = rw c.wanted_token.ensures (wanted_lt c.args.side c.args.number b.market) in
    let debit = c.debit_row.ensures ∙ debit_decided _ _ _ token in
    grind (arith, common_steps, debit, b)

pub traded_round-requires : goal.traded_round-requires
traded_round-requires c =
    let b = c.requires c.in-Auction.r c.in-Auction.is in
    let token : c.wanted_token.result < 4 = rw c.wanted_token.ensures (wanted_lt c.args.side c.args.number b.market) in
    let debit = c.debit_row.ensures ∙ debit_decided _ _ _ token in
    grind (arith, common_steps, trade_fits, debit, b)

pub returns : goal.returns
unfolding bid_on
returns c =
    let b = c.requires c.in-Auction.r c.in-Auction.is in
    let s = c.args in
    let q = c.to_amount-q.result.0 in
    let available : not_available s.side s.n.0 q (totals_of c.in-Auction.r s.side) ≡ false = grind (arith, common_steps) in
    let row = given_taken _ _ _ _ _ _ s.side s.number s.n.0 q b.market b.cells (takes_fit _ _ _ _ b s.side s.n.0 q available)
    (rw (c.wanted_token.ensures, c.by_side.ensures, amount_by_side) at c.debit_row.ensures) c.in-Ok.is
    (rw (c.offered_token.ensures, c.by_side-2.ensures, amount_by_side) at c.credit_row.ensures) in
    grind (arith, common_steps)
