-- The code that a line is read with, and the one that it is answered with.
use Rattle.std.specs.Prelude.{Some, None, Option}
use Prim.Native.Nat.{ℕ, ◌<◌}
use mathlib.Core.Path.{◌≡◌, refl, sym, ◌∙◌, subst}
use mathlib.Core.List.{List, [], ◌∷◌, map}
use native.Mathlib.Omega.{arith}
use Rattle.units.specs.Decide.{Test, decide}
use Rattle.units.proofs.Cases.{by_test}
use Rattle.model.specs.declared.state.Exchange.{Exchange}
use Rattle.model.specs.declared.call.Call.{Call}
use Rattle.model.specs.declared.call.Call.TheVariants.{Deposit, Withdraw, Order, Cancel, Open, Enter, Match, Bid, Settle, Claim, Leave}
use Rattle.model.specs.declared.answer.Outcome.{Outcome}
use Rattle.model.specs.declared.answer.Refusal.{Refusal}
use Rattle.model.specs.Answers.{refusal_code, code_of}
use Rattle.model.specs.Calls.{refuse, tests_of, done_of}
use Rattle.model.specs.Codes.{codes_of}
use Rattle.model.specs.Run.{step_of}
use Rattle.model.proofs.Codes.{codes_rising}
use Rattle.lines.specs.CallLines.{reading_of}
use Rattle.lines.specs.ReadingCode.{reading_code, line_code}
use Rattle.lines.proofs.ReadingCode.{readings_tell}
use Rattle.replay.specs.Lines.{outcome_of, line_outcome}
use Rattle.replay.specs.LineCodes.{LineCodes}

-- ---- a call's codes are below 20

abbrev Below : List ℕ → Type 0
Below [] = Unit {0}
Below (a ∷ l) = (a < 20) × Below l

codes_below : (c : Call) → Below (codes_of c)
codes_below (Deposit a b d) = omega arith
codes_below (Withdraw a b d) = omega arith
codes_below (Order a b d e f g) = omega arith
codes_below (Cancel a b) = omega arith
codes_below (Open a b d e f) = omega arith
codes_below (Enter a) = omega arith
codes_below (Match a b) = omega arith
codes_below (Bid a b d e f g) = omega arith
codes_below (Settle a b) = omega arith
codes_below (Claim a) = omega arith
codes_below (Leave a b) = omega arith

decided_below : (x : Exchange) (ts : List (Test Refusal)) (o : Outcome) → Below (map (λ (t : Test Refusal). refusal_code t.reason) ts) → code_of o.answer ≡ 0
    → code_of (decide ts (refuse x) o).answer < 20
decided_below x [] o b e = omega (arith, e)
decided_below x (t ∷ ts) o b e = by_test t.applies (λ h. rw h b.0) (λ h. rw h (decided_below x ts o b.1 e))

call_below : (x : Exchange) (c : Call) → code_of (step_of x c).answer < 20
call_below x c =
    let r = codes_rising x c in
    subst (λ (o : Outcome). code_of o.answer < 20) (sym r.step_is)
    (decided_below x (tests_of x c) (done_of x c) (subst Below (sym r.codes_are) (codes_below c)) r.done_accepts)

-- ---- a line

module _ (x : Exchange) where
  none_told : (r : Option Call) → reading_code r ≡ 20 → (code_of (outcome_of x r).answer ≡ 20) × ((outcome_of x r).exchange ≡ x)
  none_told (Some c) e = absurd (omega (arith, e))
  none_told None e = (refl, refl)

  call_told : (r : Option Call) → (reading_code r ≡ 20 → ⊥) → (reading_code r ≡ 0) × (code_of (outcome_of x r).answer < 20)
  call_told (Some c) e = (refl, call_below x c)
  call_told None e = absurd (e refl)

pub line_codes : LineCodes
unfolding line_outcome
line_codes x line =
    let same : reading_code (reading_of line) ≡ line_code line = (readings_tell line).code in
    record {
      no_call = λ e. none_told x (reading_of line) (same ∙ e);
      call =
          λ e.
          let t = call_told x (reading_of line) (λ f. e (sym same ∙ f)) in
          (sym same ∙ t.0, t.1);
    }
