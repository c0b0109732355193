use Rattle.std.proofs.Common.{◌∙◌}
use Rattle.day.proofs.Piece.{fed_reachable, rest_taken}
use Rattle.day.proofs.Replay.take_piece.Goals as goal

pub invariant_of-self-in_err-write_all : goal.invariant_of-self-in_err-write_all
invariant_of-self-in_err-write_all g c = fed_reachable _ _ _ _ _ c.feed-fed.ensures c.loop-rest.invariant.reachable

pub loop-rest-preserved : goal.loop-rest-preserved
loop-rest-preserved g c =
    record {
      reachable = fed_reachable _ _ _ _ _ c.feed-fed.ensures c.loop-rest.invariant.reachable;
      state = rest_taken _ _ _ _ _ c.feed-fed.ensures ∙ c.loop-rest.invariant.state;
    }
