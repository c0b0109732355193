-- `exchange::on_market` meets its contract.
use Rattle.work.proofs.Held.{market_asks, market_held}
use Rattle.exchange.proofs.on_market.Goals as goal

pub market_work-answer-requires : goal.market_work-answer-requires
market_work-answer-requires c =
    market_asks c.args.x.now c.requires.0 c.args.market c.args.member c.args.block c.args.act c.requires.1

pub returns : goal.returns
returns c =
    market_held c.args.x.now c.requires.0 c.args.market c.args.member c.args.block c.args.act c.requires.1 _ c.market_work-answer.ensures
