-- `decimal::write_number` meets its contract.
use Rattle.decimal.proofs.Storing.{storing_next_by}
use Rattle.decimal.proofs.write_number.Goals as goal

pub loop-i-preserved : goal.loop-i-preserved
loop-i-preserved c = storing_next_by c.loop-i.invariant c.loop-i-test.true
