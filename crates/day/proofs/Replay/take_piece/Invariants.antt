-- What is left of the piece leads from what was fed so far to where the whole piece leads.
use Rattle.std.proofs.Common.{◌≡◌, length}
use Rattle.model.specs.Run.{Reachable}
use Rattle.replay.specs.Pieces.{stream_of, after}
use Rattle.day.proofs.Replay.take_piece.Given as goal

abbrev pub invariant-loop-rest : goal.invariant-loop-rest
invariant-loop-rest g l =
    record {
      reachable : Reachable l.self-inside.day.exchange;
      state : after (stream_of l.self-inside.day) l.rest ≡ after l.fn.self l.input;
    }

abbrev pub decreases-loop-rest : goal.decreases-loop-rest
decreases-loop-rest g l = length l.rest
