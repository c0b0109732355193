-- `call_writer::write_numbers` meets its contract.
use mathlib.Core.Path.{◌≡◌, refl, ap, ◌∙◌, subst}
use mathlib.Core.List.{List, [], ◌∷◌, ◌++◌}
use Prim.Native.Nat.{ℕ, ◌+◌, ◌-◌, ◌≤◌, ◌<◌}
use native.Mathlib.Omega.{arith}
use lib.ListN.{length, take, get_or}
use lib.Seq.{take-length}
use Rattle.std.proofs.lemmas.List.{get_or-take, length-take-le}
use Rattle.units.specs.Decimal.{digits}
use Rattle.decimal.specs.Buffer.{put_at}
use Rattle.decimal.proofs.Put.{Run, run_none}
use Rattle.lines.specs.CallText.{line_of_numbers}
use Rattle.call_writer.proofs.Text.{comma_text, line_size, next_fits, comma_run, line_run}
use Rattle.call_writer.proofs.write_numbers.Goals as goal

-- all but the last of the numbers vs
before_last : (vs : List ℕ) → length (take (length vs - 1) vs) ≡ length vs - 1
before_last vs = length-take-le (length vs - 1) vs (omega arith)

-- one of them
inner : (vs : List ℕ) (i : ℕ) → i < length (take (length vs - 1) vs) → get_or (take (length vs - 1) vs) i 0 ≡ get_or vs i 0
inner vs i h = get_or-take (length vs - 1) vs i 0 (omega (arith, h, before_last vs))

-- the numbers vs, all of which fit
module _ (xs vs : List ℕ) (at : ℕ) (some : 0 < length vs) (room : at + length (line_of_numbers vs) + 1 ≤ length xs) where
  fits : at + length (comma_text (take (length vs) vs)) ≤ length xs
  fits = omega (arith, room, line_size vs (length vs) some (omega arith), ap (λ (l : List ℕ). length (line_of_numbers l)) (take-length vs))

  -- what is written next fits
  module _ (i : ℕ) (out : List ℕ) (p : ℕ) (run : Run xs at (comma_text (take i vs)) out p) (same : length out ≡ length xs) where
    next_room : i < length vs → p + length (digits (get_or vs i 0)) + 1 ≤ length out
    next_room h = omega (arith, next_fits xs vs at (length vs) i out p h (omega arith) fits run, same)

    next_run : i < length vs → (y : List ℕ) (q : ℕ) → y ≡ put_at out p (digits (get_or vs i 0) ++ (44 ∷ [])) → q ≡ p + length (digits (get_or vs i 0)) + 1
        → Run xs at (comma_text (take (i + 1) vs)) y q
    next_run h y q e l = comma_run xs vs at (length vs) i out p h (omega arith) fits run y q e l

    last_run : i + 1 ≡ length vs → (y : List ℕ) (q : ℕ) → y ≡ put_at out p (digits (get_or vs i 0) ++ (10 ∷ [])) → q ≡ p + length (digits (get_or vs i 0)) + 1
        → y ≡ put_at xs at (line_of_numbers vs ++ (10 ∷ []))
    last_run last y q e l =
        line_run xs vs at (length vs) i out p (omega (arith, last)) (omega arith) fits run last y q e l
        ∙ ap (λ (ns : List ℕ). put_at xs at (line_of_numbers ns ++ (10 ∷ []))) (take-length vs)

pub loop-n-init : goal.loop-n-init
loop-n-init c = (omega arith, run_none _ _, refl)

pub write_field-next-requires : goal.write_field-next-requires
write_field-next-requires c =
    let r = c.requires in
    let i = c.loop-n.invariant in
    rw (inner c.args.numbers.now c.loop-n.n-index c.loop-n-test.true)
    (next_room c.args.out.now c.args.numbers.now c.args.at r.count_nonzero.0 r.values_in_bounds
    c.loop-n.n-index c.loop-n.out c.loop-n.next i.1 i.2 (omega (arith, c.loop-n-test.true, before_last c.args.numbers.now)))

pub loop-n-preserved : goal.loop-n-preserved
loop-n-preserved c =
    let r = c.requires in
    let i = c.loop-n.invariant in
    let w = c.write_field-next in
    let is = inner c.args.numbers.now c.loop-n.n-index c.loop-n-test.true in (
      omega (arith, c.loop-n-test.true, before_last c.args.numbers.now),
      next_run c.args.out.now c.args.numbers.now c.args.at r.count_nonzero.0 r.values_in_bounds
          c.loop-n.n-index c.loop-n.out c.loop-n.next i.1 i.2 (omega (arith, c.loop-n-test.true, before_last c.args.numbers.now))
          w.new.out w.result
          (w.ensures.out_after ∙ ap (λ (n : ℕ). put_at c.loop-n.out c.loop-n.next (digits n ++ (44 ∷ []))) is)
          (w.ensures.value ∙ ap (λ (n : ℕ). c.loop-n.next + length (digits n) + 1) is),
      w.auto.out ∙ i.2,
    )

-- the last number stands at the index that the loop ends with
pub write_field-requires : goal.write_field-requires
write_field-requires c =
    let r = c.requires in
    let i = c.loop-n.invariant in
    let last : c.loop-n.n-index ≡ length c.args.numbers.now - 1 = omega (arith, c.loop-n-test.false, i.0, before_last c.args.numbers.now) in
    subst (λ (k : ℕ). c.loop-n.next + length (digits (get_or c.args.numbers.now k 0)) + 1 ≤ length c.loop-n.out) last
    (next_room c.args.out.now c.args.numbers.now c.args.at r.count_nonzero.0 r.values_in_bounds
    c.loop-n.n-index c.loop-n.out c.loop-n.next i.1 i.2 (omega (arith, last, r.count_nonzero.0)))

pub returns : goal.returns
returns c =
    let r = c.requires in
    let i = c.loop-n.invariant in
    let w = c.write_field in
    let last : length c.args.numbers.now - 1 ≡ c.loop-n.n-index = omega (arith, c.loop-n-test.false, i.0, before_last c.args.numbers.now) in
    last_run c.args.out.now c.args.numbers.now c.args.at r.count_nonzero.0 r.values_in_bounds
    c.loop-n.n-index c.loop-n.out c.loop-n.next i.1 i.2 (omega (arith, last, r.count_nonzero.0))
    w.new.out w.result
    (w.ensures.out_after ∙ ap (λ (k : ℕ). put_at c.loop-n.out c.loop-n.next (digits (get_or c.args.numbers.now k 0) ++ (10 ∷ []))) last)
    (w.ensures.value ∙ ap (λ (k : ℕ). c.loop-n.next + length (digits (get_or c.args.numbers.now k 0)) + 1) last)
