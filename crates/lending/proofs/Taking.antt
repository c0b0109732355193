-- The states that calls leave, and the bytes that a line's answer takes.
use mathlib.Core.Path.{◌≡◌, sym, ap, ◌∙◌}
use mathlib.Core.List.{List}
use Prim.Native.Nat.{ℕ, ◌≤◌}
use native.Mathlib.Omega.{arith}
use lib.Dec.{ltb}
use lib.ListN.{length, take}
use borrow.Author.Tests.{ltb-false}
use Rattle.std.proofs.Common.{subst}
use Rattle.std.proofs.lemmas.List.{length-take-le}
use Rattle.decimal.specs.Buffer.{put_count}
use Rattle.decimal.proofs.Put.{count_within}
use Rattle.units.proofs.Cases.{by_test}
use Rattle.model.specs.declared.state.Exchange.{Exchange}
use Rattle.model.specs.declared.call.Call.{Call}
use Rattle.model.specs.declared.orders.OrderFields.{OrderFields}
use Rattle.model.specs.declared.orders.AnswerPlace.{AnswerPlace}
use Rattle.model.specs.State.{fresh_exchange}
use Rattle.model.specs.Run.{Reachable, step_of, at_first, after_call}
use Rattle.model.specs.OrderLists.{orders_of}
use Rattle.model.proofs.OrderLists.{orders_reachable}
use Rattle.replay.specs.declared.line.Answered.{Answered}
use Rattle.replay.specs.Lines.{line_text, taken_of}
use Rattle.replay.proofs.LineRun.{lines_reachable}

-- what was written lies in the buffer
pub written_part : (out text last : List ℕ) (used : ℕ) → used ≡ put_count out text → length last ≡ length out → used ≡ length (take used last)
written_part out text last used e k = sym (length-take-le used last (omega (arith, e, k, count_within out text)))

-- as many orders are gathered as the count tells
pub gathered_count : (x : Exchange) (n : ℕ) (list : List OrderFields) (v : Exchange × List OrderFields) → (x, take n list) ≡ v → n ≤ length list → length v.1 ≡ n
gathered_count x n list v e h = ap (λ (w : Exchange × List OrderFields). length w.1) (sym e) ∙ length-take-le n list h

pub fresh_reachable : (y : Exchange) → y ≡ fresh_exchange → Reachable y
fresh_reachable y e = subst Reachable (sym e) at_first

module _ (x y : Exchange) where
  pub step_reachable : (c : Call) → y ≡ (step_of x c).exchange → Reachable x → Reachable y
  step_reachable c e good = subst Reachable (sym e) (after_call good c)

  pub list_reachable : (fs : List OrderFields) (ps : List AnswerPlace) → y ≡ (orders_of x fs ps).exchange → Reachable x → Reachable y
  list_reachable fs ps e good = subst Reachable (sym e) (orders_reachable x good fs ps)

  pub line_reachable : (number : ℕ) (line : List ℕ) (room : ℕ) → y ≡ (taken_of x number line room).exchange → Reachable x → Reachable y
  unfolding taken_of
  line_reachable number line room e good = subst Reachable (sym e) (lines_reachable x good (record { number = number; room = room; line = line }))

-- as many bytes as are lent hold a line's answer
used_within : (x : Exchange) (number : ℕ) (line : List ℕ) (room : ℕ) → (taken_of x number line room).answered.used ≤ room
unfolding taken_of
used_within x number line room = by_test (ltb room (length (line_text x number line))) (λ t. rw t (omega arith)) (λ t. rw t (ltb-false _ _ t))

pub line_within : (x : Exchange) (number : ℕ) (line out last : List ℕ) (a : Answered) → a ≡ (taken_of x number line (length out)).answered
    → length last ≡ length out → a.used ≤ length last
line_within x number line out last a e k = omega (arith, ap (λ (b : Answered). b.used) e, k, used_within x number line (length out))
