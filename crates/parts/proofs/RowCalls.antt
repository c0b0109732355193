-- What the ledger's calls on a row give at a token below 4, by its laws.
use Prim.Native.Nat.{ℕ, ◌+◌, ◌-◌, ◌≤◌, ◌<◌}
use mathlib.Core.Path.{◌≡◌, refl}
use mathlib.Core.List.{[], ◌∷◌}
use mathlib.Core.Bool.{Bool, true, false}
use native.Mathlib.Omega.{arith}
use lib.Dec.{ltb}
use borrow.Author.Tests.{ltb-false, ltb-true}
use Rattle.units.specs.Counts.{largest}
use Rattle.units.specs.Decide.{when, decide}
use Rattle.ledger.specs.declared.Row.{Row}
use Rattle.ledger.specs.declared.Fault.TheVariants.{TooSmall}
use Rattle.ledger.specs.Balances.{cell_of, credited_row, debited_row}
use Rattle.ledger.specs.Postings.{RowPosting, posted_row, unposted_row, credit_row_of, debit_row_of}
use Rattle.ledger.proofs.Laws.{credit_row_calls, debit_row_calls}

module _ (r : Row) (t n : ℕ) (h : t < 4) where
  pub credit_done : cell_of r t + n ≤ largest → credit_row_of r t n ≡ posted_row (credited_row r t n) (cell_of r t + n)
  credit_done fits = (credit_row_calls r t n).done (omega (arith, h)) fits

  -- what debit gives where its test of the balance comes to b
  abbrev debited : Bool → RowPosting
  debited b = decide (when b TooSmall ∷ []) (unposted_row r) (posted_row (debited_row r t n) (cell_of r t - n))

  debit_as : (b : Bool) → ltb (cell_of r t) n ≡ b → debit_row_of r t n ≡ debited b
  debit_as true e = (debit_row_calls r t n).short (omega (arith, h)) (ltb-true _ _ e)
  debit_as false e = (debit_row_calls r t n).done (omega (arith, h)) (ltb-false _ _ e)

  pub debit_decided : debit_row_of r t n ≡ decide (when (ltb (cell_of r t) n) TooSmall ∷ []) (unposted_row r) (posted_row (debited_row r t n) (cell_of r t - n))
  debit_decided = debit_as (ltb (cell_of r t) n) refl

-- for the proofs of the calls
pub ruleset row_calls = (credit_done, debit_decided)
