-- The laws of a decision: it refuses for a test that applies, or no test applies and the outcome stands.
use mathlib.Core.Path.{◌≡◌, refl, subst}
use mathlib.Core.Bool.{Bool, true, false, cond, ◌||◌}
use mathlib.Core.List.{List, [], ◌∷◌, ◌++◌}
use native.Mathlib.Omega.{arith}
use Prim.Native.Nat.{ℕ}
use Rattle.units.specs.Decide.{Test, decide}

-- no test of the list applies
abbrev pub Passed : {A : Type 0} → List (Test A) → Type 0
Passed [] = Unit {0}
Passed (t ∷ ts) = (t.applies ≡ false) × Passed ts

module _ {A B : Type 0} (refuse : A → B) (out : B) where
  -- what holds of every refusal, and of the outcome where no test applies, holds of the decision
  pub decided : (K : B → Type 0) (ts : List (Test A)) → ((r : A) → K (refuse r)) → (Passed ts → K out) → K (decide ts refuse out)
  decided K [] no_r done = done tt
  decided K (t ∷ ts) no_r done = go t.applies refl (λ e. decided K ts no_r (λ p. done (e, p)))
    where
      go : (q : Bool) → t.applies ≡ q → (t.applies ≡ false → K (decide ts refuse out)) → K (cond t.applies (refuse t.reason) (decide ts refuse out))
      go true e rec = rw e (no_r t.reason)
      go false e rec = rw e (rec e)

  pub decide_passed : (ts : List (Test A)) → Passed ts → decide ts refuse out ≡ out
  decide_passed [] p = refl
  decide_passed (t ∷ ts) p = rw p.0 (decide_passed ts p.1)

  pub decide_stops : (t : Test A) (ts : List (Test A)) → t.applies ≡ true → decide (t ∷ ts) refuse out ≡ refuse t.reason
  decide_stops t ts e = rw e

  pub decide_next : (t : Test A) (ts : List (Test A)) → t.applies ≡ false → decide (t ∷ ts) refuse out ≡ decide ts refuse out
  decide_next t ts e = rw e

-- a decision over two lists, the first of which passes on to the second
pub decide_split : {A B : Type 0} (refuse : A → B) (out mid : B) (ts us : List (Test A)) → (Passed ts → decide us refuse out ≡ mid) → decide (ts ++ us) refuse out ≡ decide ts refuse mid
decide_split refuse out mid [] us h = h tt
decide_split refuse out mid (t ∷ ts) us h = go t.applies refl (λ e. decide_split refuse out mid ts us (λ p. h (e, p)))
  where
    go : (q : Bool) → t.applies ≡ q → (t.applies ≡ false → decide (ts ++ us) refuse out ≡ decide ts refuse mid)
        → cond t.applies (refuse t.reason) (decide (ts ++ us) refuse out) ≡ cond t.applies (refuse t.reason) (decide ts refuse mid)
    go true e rec = rw e
    go false e rec = rw e (rec e)

-- a decision seen through a function
pub decide_carried : {A B C : Type 0} (g : B → C) (f : A → B) (b : B) (h : A → C) (c : C) (ts : List (Test A)) → ((r : A) → g (f r) ≡ h r) → (Passed ts → g b ≡ c) → g (decide ts f b) ≡ decide ts h c
decide_carried g f b h c [] back done = done tt
decide_carried g f b h c (t ∷ ts) back done = go t.applies refl (λ e. decide_carried g f b h c ts back (λ p. done (e, p)))
  where
    go : (q : Bool) → t.applies ≡ q → (t.applies ≡ false → g (decide ts f b) ≡ decide ts h c)
        → g (cond t.applies (f t.reason) (decide ts f b)) ≡ cond t.applies (h t.reason) (decide ts h c)
    go true e rec = rw e (back t.reason)
    go false e rec = rw e (rec e)

-- a decision of which something holds that holds of no refusal passed every test
pub passed_by : {A B : Type 0} (K : B → Type 0) (f : A → B) (b : B) → ((r : A) → K (f r) → ⊥) → (ts : List (Test A)) → K (decide ts f b) → Passed ts
passed_by K f b apart [] k = tt
passed_by K f b apart (t ∷ ts) k = go t.applies refl (λ w. passed_by K f b apart ts (subst K (decide_next f b t ts w) k))
  where
    go : (q : Bool) → t.applies ≡ q → (t.applies ≡ false → Passed ts) → Passed (t ∷ ts)
    go true w rec = absurd (apart t.reason (subst K (decide_stops f b t ts w) k))
    go false w rec = (w, rec w)

-- neither of two tests
pub or_false : (a b : Bool) → (a || b) ≡ false → (a ≡ false) × (b ≡ false)
or_false true b e = absurd (let z : ◌≡◌ {A = ℕ} 0 1 = cc in omega arith)
or_false false b e = (refl, e)
