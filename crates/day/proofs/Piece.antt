-- The day after a piece of it, and what is left of a piece after a front of it was fed.
use Rattle.std.proofs.Common.{◌≡◌, ℕ, ◌-◌, List, ◌++◌, length, take, drop, sym, ap, ◌∙◌, subst}
use Rattle.std.proofs.lemmas.List.{take_rest, take-append-drop}
use Rattle.model.specs.Run.{Reachable, at_first}
use Rattle.replay.specs.Pieces.{Stream, start, after, stream_of, FedBy}
use Rattle.replay.specs.declared.day.Day.{Day}
use Rattle.replay.specs.declared.day.Fed.{Fed}
use Rattle.replay.proofs.StreamLaws.{after_append, after_reachable}

pub start_reachable : (d : Day) → stream_of d ≡ start → Reachable d.exchange
start_reachable d e = subst (λ (s : Stream). Reachable s.exchange) (sym e) at_first

pub fed_reachable : (d : Day) (input out out' : List ℕ) (r : Fed) → FedBy d input out out' r → Reachable d.exchange → Reachable r.day.exchange
fed_reachable d input out out' r f l =
    subst (λ (s : Stream). Reachable s.exchange) (sym f.advanced.state) (after_reachable (stream_of d) l (take r.used input))

pub rest_taken : (d : Day) (input out out' : List ℕ) (r : Fed) → FedBy d input out out' r
    → after (stream_of r.day) (take (length input - r.used) (drop r.used input)) ≡ after (stream_of d) input
rest_taken d input out out' r f =
    ap (λ (s : Stream). after s (take (length input - r.used) (drop r.used input))) f.advanced.state
    ∙ sym (after_append (stream_of d) (take r.used input) _)
    ∙ ap (after (stream_of d)) (ap (λ (l : List ℕ). take r.used input ++ l) (take_rest input r.used) ∙ take-append-drop r.used input)
