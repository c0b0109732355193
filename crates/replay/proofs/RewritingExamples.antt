-- Files rewritten, computed.
use Rattle.std.specs.Prelude.{Option}
use mathlib.Core.Path.{◌≡◌, refl}
use mathlib.Core.List.{List, map}
use Prim.Native.Nat.{ℕ}
use native.Mathlib.Omega.{arith}
use Rattle.units.specs.Decimal.{digits}
use Rattle.fields.specs.Grammar.{number_of, line_numbers}
use Rattle.model.specs.declared.call.Call.{Call}
use Rattle.model.specs.Day.{day_orders, day_collect, day_auction, day_claims}
use Rattle.lines.specs.CallLines.{of_kind, reading_of}
use Rattle.lines.specs.CallText.{line_of_numbers, line_of_call}
use Rattle.replay.specs.Days.{lines_of}
use Rattle.replay.specs.Examples.{paper_input}
use Rattle.replay.specs.Rewriting.{calls_text, with_end, AllSmall}
use Rattle.replay.specs.RewritingExamples.{rewritten, files_of_calls, other_files, largest_calls, largest_reread, WrittenUsed}

-- what a line read and a call written unfold
unfoldable line_trips : Unit {0}
unfolding reading_of of_kind line_numbers number_of line_of_call line_of_numbers digits
line_trips = tt

pub files_rewritten : map rewritten files_of_calls ≡ files_of_calls
unfolding files_of_calls paper_input day_orders day_collect day_auction day_claims line_trips
files_rewritten = refl

pub others_read : map (λ (e : List ℕ × List (Option Call) × List ℕ). (e.0, map reading_of (lines_of e.0), with_end e.0)) other_files ≡ other_files
unfolding other_files line_trips
others_read = refl

pub largest_reread_lem : map (λ (e : List Call × List (Option Call)). (e.0, map reading_of (lines_of (calls_text e.0)))) largest_reread ≡ largest_reread
unfolding largest_reread line_trips
largest_reread_lem = refl

pub largest_small : AllSmall largest_calls
largest_small = ((omega arith, (omega arith, tt)), ((omega arith, (omega arith, tt)), tt))

pub written_used : WrittenUsed
written_used w out e = w out 2 largest_calls (omega (arith, e))
