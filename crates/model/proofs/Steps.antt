-- A step taken apart.
use Rattle.std.specs.Prelude.{Ok}
use Prim.Native.Nat.{ℕ}
use mathlib.Core.Path.{◌≡◌}
use native.Mathlib.Omega.{arith}
use Rattle.model.specs.Calls.{done_of, refuse, tests_of}
use Rattle.model.specs.Run.{step_of}
use Rattle.model.specs.declared.answer.Outcome.{Outcome}
use Rattle.model.specs.declared.answer.Refusal.{Refusal}
use Rattle.model.specs.declared.call.Call.{Call}
use Rattle.model.specs.declared.state.Exchange.{Exchange}
use Rattle.units.proofs.Decide.{Passed, decide_passed, decided, passed_by}

-- what holds of every refusal, and of the call done where no test applies, holds of the step
pub step_apart : (x : Exchange) (c : Call) (Q : Outcome → Type 0) → ((r : Refusal) → Q (refuse x r)) → (Passed (tests_of x c) → Q (done_of x c)) → Q (step_of x c)
unfolding step_of
step_apart x c Q refused done = decided (refuse x) (done_of x c) Q (tests_of x c) refused done

-- a call that no test stops is done
pub step_passed : (x : Exchange) (c : Call) → Passed (tests_of x c) → step_of x c ≡ done_of x c
unfolding step_of
step_passed x c p = decide_passed (refuse x) (done_of x c) (tests_of x c) p

-- a call that was accepted passed its tests
pub accepted_passed : (x : Exchange) (c : Call) (a b : ℕ) → (step_of x c).answer ≡ Ok (a, b) → Passed (tests_of x c)
unfolding step_of
accepted_passed x c a b e =
    passed_by (λ (out : Outcome). out.answer ≡ Ok (a, b)) (refuse x) (done_of x c)
    (λ r q. absurd (let z : ◌≡◌ {A = ℕ} 0 1 = cc in omega arith)) (tests_of x c) e
