-- A list of reasons to refuse, and the first that applies.
use Rattle.std.specs.Prelude.{Bool, cond, List, [], ◌∷◌}

-- a reason to refuse, and whether it applies
pub record Test (A : Type 0) : Type 0 where
  pub applies : Bool
  pub reason : A

abbrev pub when : {A : Type 0} → Bool → A → Test A
when b r = record { applies = b; reason = r }

-- "the first that holds is returned"; where none does, the outcome
abbrev pub decide : {A B : Type 0} → List (Test A) → (A → B) → B → B
decide [] refuse out = out
decide (t ∷ ts) refuse out = cond t.applies (refuse t.reason) (decide ts refuse out)
