-- `call_writer::line_size` meets its contract.
use mathlib.Core.Path.{◌≡◌, ap}
use mathlib.Core.List.{List}
use Prim.Native.Nat.{ℕ}
use native.Mathlib.Omega.{arith}
use lib.ListN.{length, take}
use lib.Seq.{take-length}
use Rattle.lines.specs.CallText.{line_of_numbers}
use Rattle.call_writer.proofs.Text.{comma_text, comma_longer, line_size}
use Rattle.call_writer.proofs.line_size.Goals as goal

pub loop-n-preserved : goal.loop-n-preserved
loop-n-preserved c =
    let i = c.loop-n.invariant in
    let more = comma_longer c.args.numbers.now c.loop-n.n-index (omega (arith, c.loop-n-test.true)) in (
      omega (arith, c.loop-n-test.true),
      omega (arith, more, i.1, c.digit_count-size.ensures.value),
      omega (arith, i.2, c.digit_count-size.ensures.upper_bound),
    )

pub returns-clause-value : goal.returns-clause-value
returns-clause-value c =
    let vs = c.args.numbers.now in
    let all : c.loop-n.n-index ≡ length vs = omega (arith, c.loop-n.invariant.0, c.loop-n-test.false) in
    let whole = line_size vs (length vs) c.requires.0 (omega arith) in
    omega (
      arith,
      c.loop-n.invariant.1,
      all,
      ap (λ (k : ℕ). length (comma_text (take k vs))) all,
      whole,
      ap (λ (l : List ℕ). length (line_of_numbers l)) (take-length vs),
    )
