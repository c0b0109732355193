use Rattle.day.proofs.Piece.{fed_reachable}
use Rattle.day.proofs.Replay.take_last.Goals as goal

pub invariant_of-self : goal.invariant_of-self
invariant_of-self g c = fed_reachable _ _ _ _ _ c.finish-fed.ensures c.self.invariant
