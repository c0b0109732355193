-- The days of specs/Examples.antt, computed.
use Prim.Native.Nat.{ℕ, ◌≤◌}
use mathlib.Core.Path.{◌≡◌, ap, refl}
use mathlib.Core.List.{List, []}
use native.Mathlib.Omega.{arith}
use lib.ListN.{length}
use Rattle.units.specs.Worked.{by_hand, given}
use Rattle.replay.specs.Examples.{paper_input}
use Rattle.replay.proofs.Computing.{day_computes}
use Rattle.yeldozhym.specs.Examples.{RoomsRefused, RoomsUsed, answers, rooms}

pub rooms_hold : given rooms ≡ by_hand rooms
unfolding rooms paper_input day_computes
rooms_hold = refl

pub answers_hold : given answers ≡ by_hand answers
unfolding answers day_computes
answers_hold = refl

pub rooms_used : RoomsUsed
rooms_used =
    record {
      by_lines = λ w input. (w input).by_lines;
      by_last = λ w input. (w input).by_last;
      no_line = λ w input e. omega (arith, (w input).by_lines, ap (λ (ls : List (List ℕ)). length ls) e);
    }

pub rooms_refused : RoomsRefused
unfolding day_computes
rooms_refused =
    record {
      header = λ w. let h : 23 ≤ 22 = w [] in omega (arith, h);
      line = λ w. let h : 35 ≤ 34 = w 1000000000 in omega (arith, h);
    }
