use Rattle.std.proofs.Common.{◌≡◌, length, arith}
use Rattle.std.proofs.lemmas.Bool.Decides.{nat_tests}
use Rattle.lending.proofs.Taking.{gathered_count}
use Rattle.lending.proofs.Host.is_full.Goals as goal

pub returns : goal.returns
returns c =
    let n : length c.args.self.now.1 ≡ c.self.inside.count = gathered_count _ _ _ _ c.self.view_is (omega arith) in
    grind (arith, nat_tests)
