-- `call_writer::write_call` meets its contract: the numbers of the call are written where its line fits.
use Rattle.std.specs.Prelude.{Some, None, Option}
use mathlib.Core.Path.{◌≡◌, sym, ap, ◌∙◌}
use mathlib.Core.List.{List, [], ◌∷◌, ◌++◌}
use Prim.Native.Nat.{ℕ, ◌+◌, ◌≤◌, ◌<◌}
use native.Mathlib.Omega.{arith}
use borrow.Author.Rules.{rules}
use lib.ListN.{length, take, length-append}
use lib.Seq.{take-append_seam}
use Rattle.decimal.specs.Buffer.{put_at, put_from}
use Rattle.decimal.proofs.Put.{from_fits, from_short}
use Rattle.model.specs.declared.call.Call.{Call}
use Rattle.model.specs.Kinds.{numbers_of_call}
use Rattle.lines.specs.CallLines.{line_at}
use Rattle.lines.specs.CallText.{line_of_numbers, line_of_call, call_line, Small}
use Rattle.lines.proofs.RoundTrip.{Remade, remade}
use Rattle.call_numbers.specs.declared.CallNumbers.{CallNumbers}
use Rattle.call_numbers.specs.Numbers.{call_numbers}
use Rattle.call_writer.specs.Writing.{written_of, LineBounded}
use Rattle.call_writer.specs.RoundTrips.{ReadAgain}
use Rattle.call_writer.proofs.WritingLaws.{told_fits, told_short}
use Rattle.call_writer.proofs.Sizes.{lines_bounded}
use Rattle.call_writer.proofs.RoundTrips.{written_read}
use Rattle.call_writer.proofs.write_call.Goals as goal

-- what is promised of the answer w and of the buffer y
record Promised (out : List ℕ) (at : ℕ) (c : Call) (w : Option ℕ) (y : List ℕ) : Type 0 where
  value : w ≡ written_of (length out) at (call_line c)
  out_after : y ≡ put_from out at (call_line c)
  read_again : ReadAgain y at c w
  line_bounded : LineBounded c

-- the places that are counted hold the numbers
module _ (c : Call) (n : CallNumbers) (e : n ≡ call_numbers c) where
  numbers : take n.count n.values ≡ numbers_of_call c
  unfolding call_numbers
  numbers = ap (λ (m : CallNumbers). take m.count m.values) e ∙ take-append_seam (numbers_of_call c) _

  counted : (0 < length (take n.count n.values)) × (length (take n.count n.values) ≤ 8)
  counted =
      let r : Remade c = remade c in
      let size : length (take n.count n.values) ≡ length r.fields + 1 = ap length numbers ∙ ap length r.is ∙ omega arith in
      (omega (arith, size), omega (arith, size, r.few))

  within : n.count ≤ 8
  unfolding call_numbers
  within =
      let r : Remade c = remade c in
      let size : n.count ≡ length r.fields + 1 = ap (λ (m : CallNumbers). m.count) e ∙ ap length r.is ∙ omega arith in
      omega (arith, size, r.few)

-- by the numbers ns of the call, whose line has size bytes
module _ (out : List ℕ) (at : ℕ) (c : Call) (ns : List ℕ) (size : ℕ) (is : ns ≡ numbers_of_call c) (small : Small (numbers_of_call c))
    (long : size ≡ length (line_of_numbers ns) + 1)
  where
    line : line_of_numbers ns ++ (10 ∷ []) ≡ call_line c
    unfolding line_of_call
    line = ap (λ (l : List ℕ). line_of_numbers l ++ (10 ∷ [])) is

    counts : size ≡ length (call_line c)
    counts = long ∙ sym (length-append (line_of_numbers ns) (10 ∷ [])) ∙ ap length line

    refused : length out < at + size → Promised out at c None out
    refused h =
        let short : length out < at + length (call_line c) = omega (arith, counts, h) in
        record {
          value = told_short out at (call_line c) short;
          out_after = sym (from_short out (call_line c) at short);
          read_again = tt;
          line_bounded = lines_bounded c small;
        }

    written : at + size ≤ length out → (y : List ℕ) → y ≡ put_at out at (line_of_numbers ns ++ (10 ∷ [])) → Promised out at c (Some size) y
    written h y e =
        let fits : at + length (call_line c) ≤ length out = omega (arith, counts, h) in
        let put : y ≡ put_from out at (call_line c) = e ∙ ap (put_at out at) line ∙ sym (from_fits out (call_line c) at fits) in
        record {
          value = ap Some counts ∙ told_fits out at (call_line c) fits;
          out_after = put;
          read_again = ap (λ (l : List ℕ). line_at l at) put ∙ written_read out at c small fits;
          line_bounded = lines_bounded c small;
        }

pub shared_ref_as_front-numbers : goal.shared_ref_as_front-numbers
shared_ref_as_front-numbers c =
    let eight : length c.numbers_of-c.result.values ≡ 8 = search rules in
    omega (arith, eight, within _ _ c.numbers_of-c.ensures.value)

pub line_size-size-requires : goal.line_size-size-requires
line_size-size-requires c = counted _ _ c.numbers_of-c.ensures.value

pub returns-then-saturating_sub-size : goal.returns-then-saturating_sub-size
returns-then-saturating_sub-size c =
    let n = c.numbers_of-c.ensures in
    let told = refused c.args.out.now c.args.at c.args.call _ (c.line_size-size.result + 1) (numbers _ _ n.value) n.small
    (ap (λ (k : ℕ). k + 1) c.line_size-size.ensures.value) (omega (arith, c.if-saturating_sub-size.true, c.saturating_sub.ensures)) in
    record { value = told.value; out_after = told.out_after; read_again = told.read_again; line_bounded = told.line_bounded }

pub write_numbers-requires-clause-count_nonzero : goal.write_numbers-requires-clause-count_nonzero
write_numbers-requires-clause-count_nonzero c = counted _ _ c.numbers_of-c.ensures.value

pub returns : goal.returns
returns c =
    let n = c.numbers_of-c.ensures in
    let told = written c.args.out.now c.args.at c.args.call _ (c.line_size-size.result + 1) (numbers _ _ n.value) n.small
    (ap (λ (k : ℕ). k + 1) c.line_size-size.ensures.value) (omega (arith, c.if-saturating_sub-size.false, c.saturating_sub.ensures))
    c.write_numbers.new.out c.write_numbers.ensures in
    record { value = told.value; out_after = told.out_after; read_again = told.read_again; line_bounded = told.line_bounded }
