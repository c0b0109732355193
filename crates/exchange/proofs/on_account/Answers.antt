-- `exchange::on_account` meets its contract.
use Rattle.work.proofs.Held.{account_asks, account_held}
use Rattle.exchange.proofs.on_account.Goals as goal

pub account_work-answer-requires : goal.account_work-answer-requires
account_work-answer-requires c =
    account_asks c.args.x.now c.requires.0 c.args.member c.args.token c.args.ticket c.args.act c.requires.1

pub returns : goal.returns
returns c =
    account_held c.args.x.now c.requires.0 c.args.member c.args.token c.args.ticket c.args.act c.requires.1 _ c.account_work-answer.ensures
