-- `exchange::on_claim` meets its contract.
use Rattle.work.proofs.Held.{claim_asks, claim_held}
use Rattle.exchange.proofs.on_claim.Goals as goal

pub claim-answer-requires : goal.claim-answer-requires
claim-answer-requires c =
    (c.requires.1, claim_asks c.args.x.now c.requires.0 c.args.ticket c.requires.1 _ c.ticket_market-market.ensures _ c.ticket_member-m.ensures)

pub returns : goal.returns
returns c =
    claim_held c.args.x.now c.requires.0 c.args.ticket c.requires.1 _ c.ticket_market-market.ensures _ c.ticket_member-m.ensures _ c.claim-answer.ensures
