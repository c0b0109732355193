-- `fields::read_fields` meets its contract.
use mathlib.Core.Path.{◌≡◌, refl, sym, ◌∙◌}
use mathlib.Core.Logic.{inl}
use mathlib.Core.List.{List, []}
use Prim.Native.Nat.{ℕ}
use native.Mathlib.Omega.{arith}
use Rattle.std.specs.Prelude.{Option, None}
use Rattle.std.proofs.Common.{rules}
use Rattle.fields.specs.declared.FieldStep.{FieldStep}
use Rattle.fields.specs.declared.FieldStep.TheVariants.{Value, End, Bad}
use Rattle.fields.proofs.Scan.{Ends, on_step, digit_end, reads_none, reads_full, reads_bad, reads_comma, reads_last}
use Rattle.fields.proofs.read_fields.Goals as goal
use Rattle.fields.proofs.read_fields.Goals.{in_default, in-Value+in-Some+in-Bad, in-Value+then-count-eq-MOST_NUMBERS, in-Value+else-count-eq-MOST_NUMBERS+then-not-comma_at, in-Some+in-End, in_default-get}

pub line-preserved : goal.line-preserved
line-preserved c =
    reads_comma
    c.digits.invariant
    (omega (arith, c.line.invariant.most, c.if-count-eq-MOST_NUMBERS.false))
    (sym c.comma_at.ensures ∙ c.if-not-comma_at.false)

-- a first byte that is no digit
no_value : (d : FieldStep) → ((w : ℕ) → d ≡ Value w → ⊥) → (k : ℕ → Option (List ℕ)) → on_step d k None ≡ None
no_value (Value w) n k = absurd (n w refl)
no_value End n k = refl
no_value Bad n k = refl

pub returns-then-not-good : goal.returns-then-not-good
returns-then-not-good c =
    elim c.match-first_step.branch [
      | in_default w ↦
          let none_yet = no_value c.first_step.result w.in_default.not-Value in
          rw (c.no_fields.ensures, w.i-is) (reads_none c.line.invariant (rw c.first_step.ensures at none_yet))
      | in-Value+in-Some+in-Bad w ↦
          let here = w.in-Some.ensures.lookup.3 in
          rw (c.no_fields.ensures, w.i-is)
          (reads_bad w.digits.invariant here.0 (rw (here.1 0) at (sym w.field_step.ensures ∙ w.in-Bad.is)))
      | in-Value+then-count-eq-MOST_NUMBERS w ↦
          rw (c.no_fields.ensures, w.i-is) (reads_full w.digits.invariant (omega (arith, w.if-count-eq-MOST_NUMBERS.true)))
      | in-Value+else-count-eq-MOST_NUMBERS+then-not-comma_at w ↦ absurd cc
    ]

-- the last field
pub returns : goal.returns
returns c =
    elim c.match-first_step.branch [
      | in_default w ↦ absurd cc
      | in-Value+in-Some+in-Bad w ↦ absurd cc
      | in-Value+then-count-eq-MOST_NUMBERS w ↦ absurd cc
      | in-Value+else-count-eq-MOST_NUMBERS+then-not-comma_at w ↦
          let ended : Ends c.args.bytes.now w.digits.i = elim w.match-get.branch [
            | in_default-get x ↦ inl (search rules)
            | in-Some+in-End x ↦
                let here = x.in-Some.ensures.lookup.3 in
                digit_end c.args.bytes.now w.digits.i [] _ _ here.0 (rw (here.1 0) at (sym x.field_step.ensures ∙ x.in-End.is))
          ] in
          rw (w.values-is, w.count-is, w.i-is)
          (reads_last
          w.digits.invariant
          (omega (arith, c.line.invariant.most, w.if-count-eq-MOST_NUMBERS.false))
          ended
          (sym w.comma_at.ensures ∙ w.if-not-comma_at.true))
    ]
