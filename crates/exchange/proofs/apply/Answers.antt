-- `exchange::apply` meets its contract: a call's work is its step.
use Rattle.exchange.proofs.Works.{work_places, work_step}
use Rattle.exchange.proofs.apply.Goals as goal

pub on_account-requires : goal.on_account-requires
on_account-requires c = (c.requires, work_places c.args.c _ c.work_of.ensures _ c.in_ok-work.was _ c.in-Account.is)

pub on_market-requires : goal.on_market-requires
on_market-requires c = (c.requires, work_places c.args.c _ c.work_of.ensures _ c.in_ok-work.was _ c.in-Market.is)

pub on_entry-requires : goal.on_entry-requires
on_entry-requires c = (c.requires, work_places c.args.c _ c.work_of.ensures _ c.in_ok-work.was _ c.in-Entry.is)

pub on_claim-requires : goal.on_claim-requires
on_claim-requires c = (c.requires, work_places c.args.c _ c.work_of.ensures _ c.in_ok-work.was _ c.in-Claim.is)

pub returns-in-Account : goal.returns-in-Account
returns-in-Account c = work_step _ c.requires _ _ c.work_of.ensures _ c.in_ok-work.was _ c.in-Account.is _ c.on_account.ensures

pub returns-in-Market : goal.returns-in-Market
returns-in-Market c = work_step _ c.requires _ _ c.work_of.ensures _ c.in_ok-work.was _ c.in-Market.is _ c.on_market.ensures

pub returns-in-Entry : goal.returns-in-Entry
returns-in-Entry c = work_step _ c.requires _ _ c.work_of.ensures _ c.in_ok-work.was _ c.in-Entry.is _ c.on_entry.ensures

pub returns-in-Claim : goal.returns-in-Claim
returns-in-Claim c = work_step _ c.requires _ _ c.work_of.ensures _ c.in_ok-work.was _ c.in-Claim.is _ c.on_claim.ensures
