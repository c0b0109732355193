-- Streams of bytes, computed.
use Rattle.std.specs.Prelude.{Option}
use mathlib.Core.Path.{◌≡◌, refl}
use mathlib.Core.List.{List, map}
use Prim.Native.Nat.{ℕ}
use Rattle.fields.specs.Examples.{long_lines}
use Rattle.replay.specs.Pieces.{joined, stream_of}
use Rattle.replay.specs.StreamExamples.{streamed, came_of, pieced, last_lines, cut_lines, pieces, long_pieces, long_came, pieces_joined, kept_day, kept_stream}
use Rattle.replay.proofs.Computing.{day_computes}

pub last_lines_lem : map streamed last_lines ≡ last_lines
unfolding last_lines day_computes
last_lines_lem = refl

pub cut_lines_lem : map streamed cut_lines ≡ cut_lines
unfolding cut_lines day_computes
cut_lines_lem = refl

pub pieces_come : map pieced pieces ≡ pieces
unfolding pieces day_computes
pieces_come = refl

-- lines of 79, 80, 81, 82 and 201 bytes
pub long_come : map (λ (e : ℕ × List ℕ × Option (List ℕ)). map came_of (long_pieces e.1)) long_lines ≡ map (λ (e : ℕ × List ℕ × Option (List ℕ)). long_came) long_lines
unfolding long_lines long_came day_computes
long_come = refl

pub pieces_joined_lem : map (λ (e : List (List ℕ) × List ℕ). joined e.0) pieces_joined ≡ map (λ (e : List (List ℕ) × List ℕ). e.1) pieces_joined
unfolding pieces_joined
pieces_joined_lem = refl

pub stream_kept : stream_of kept_day ≡ kept_stream
stream_kept = refl
