-- "Balances stand as sixteen rows of four": what a ledger holds, and a ledger with one balance changed.
use Rattle.std.specs.Prelude.{ℕ, ◌+◌, ◌-◌, ◌<◌, ◌≡◌, [], length, get_or, set, replicate}
use Rattle.units.specs.Counts.{amount}
use Rattle.units.specs.Sums.{sum_to}
use Rattle.ledger.specs.declared.Row.{Row}
use Rattle.ledger.specs.declared.Ledger.{Ledger}

-- ---- one row

abbrev pub no_row : Row
no_row = record { cells = [] }

-- a row's amount of a token, and the row with that amount changed
unfoldable pub cell_of : Row → ℕ → ℕ
cell_of r t = (get_or r.cells t (amount 0)).0

unfoldable pub with_cell : Row → ℕ → ℕ → Row
with_cell r t n = record { cells = set r.cells t (amount n) }

unfoldable pub credited_row : Row → ℕ → ℕ → Row
credited_row r t n = with_cell r t (cell_of r t + n)

unfoldable pub debited_row : Row → ℕ → ℕ → Row
debited_row r t n = with_cell r t (cell_of r t - n)

-- ---- the ledger

unfoldable pub row_of : Ledger → ℕ → Row
row_of l m = get_or l.rows m no_row

unfoldable pub with_row : Ledger → ℕ → Row → Ledger
with_row l m r = record { rows = set l.rows m r }

-- the balance of member m in token t
unfoldable pub balance_in : Ledger → ℕ → ℕ → ℕ
balance_in l m t = cell_of (row_of l m) t

-- n more, and n less, of token t for member m: one row taken out, changed and put back
unfoldable pub credited : Ledger → ℕ → ℕ → ℕ → Ledger
credited l m t n = with_row l m (credited_row (row_of l m) t n)

unfoldable pub debited : Ledger → ℕ → ℕ → ℕ → Ledger
debited l m t n = with_row l m (debited_row (row_of l m) t n)

-- all members' balances of token t
unfoldable pub total_in : Ledger → ℕ → ℕ
total_in l t = sum_to 16 (λ m. balance_in l m t)

-- "A fresh house is all zero"
unfoldable pub fresh_ledger : Ledger
fresh_ledger = record { rows = replicate 16 (record { cells = replicate 4 (amount 0) }) }

-- a row of four
abbrev pub RowShaped : Row → Type 0
RowShaped r = length r.cells ≡ 4

-- sixteen rows of four
pub record Shaped (l : Ledger) : Type 0 where
  pub rows : length l.rows ≡ 16
  pub cells : (m : ℕ) → m < 16 → RowShaped (get_or l.rows m no_row)
