-- The ledger's script, computed.
use mathlib.Core.Path.{◌≡◌, refl}
use Rattle.units.specs.Sums.{sum_to}
use Rattle.ledger.specs.Balances.{
  cell_of,
  with_cell,
  credited_row,
  debited_row,
  row_of,
  with_row,
  balance_in,
  credited,
  debited,
  total_in,
  fresh_ledger,
}
use Rattle.ledger.specs.Postings.{balance_of, credit_of, debit_of, credit_row_of, debit_row_of}
use Rattle.ledger.specs.Examples.{worked, script}

-- the definitions give the numbers of every line
pub script_holds : worked fresh_ledger script ≡ script
unfolding script worked balance_of credit_of debit_of credit_row_of debit_row_of cell_of with_cell credited_row debited_row row_of with_row balance_in credited debited total_in fresh_ledger sum_to
script_holds = refl
