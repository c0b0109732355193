-- `exchange::on_entry` meets its contract.
use Rattle.work.proofs.Held.{entry_asks, entry_held}
use Rattle.exchange.proofs.on_entry.Goals as goal

pub entry_work-requires : goal.entry_work-requires
entry_work-requires c =
    (c.requires.1, entry_asks c.args.x.now c.requires.0 c.args.ticket c.requires.1 _ c.ticket_market-market.ensures c.args.act)

pub returns : goal.returns
returns c =
    entry_held c.args.x.now c.requires.0 c.args.ticket c.requires.1 _ c.ticket_market-market.ensures c.args.act _ c.entry_work.ensures
