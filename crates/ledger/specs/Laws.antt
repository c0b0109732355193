-- What is proved of the ledger, and all that the crates above go by: balances, totals, and rows taken out, changed and put back. The proofs
-- stand in proofs/Laws.antt. n units of token t, seen at token u, are `only t n u`.
use Rattle.std.specs.Prelude.{ℕ, ◌+◌, ◌-◌, ◌≤◌, ◌<◌, ◌≡◌, get_or, set, Ok, Err}
use Rattle.units.specs.Counts.{amount}
use Rattle.units.specs.Sums.{only}
use Rattle.ledger.specs.declared.Row.{Row}
use Rattle.ledger.specs.declared.Ledger.{Ledger}
use Rattle.ledger.specs.declared.Fault.TheVariants.{NoSuchMember, NoSuchToken, TooLarge, TooSmall}
use Rattle.ledger.specs.Balances.{
  no_row,
  cell_of,
  credited_row,
  debited_row,
  row_of,
  with_row,
  balance_in,
  credited,
  debited,
  total_in,
  RowShaped,
  Shaped,
}
use Rattle.ledger.specs.Postings.{
  posted,
  unposted,
  posted_row,
  unposted_row,
  balance_of,
  credit_of,
  debit_of,
  credit_row_of,
  debit_row_of,
}

-- ---- balances

-- a ledger is its balances: two of sixteen rows of four that have the same ones are the same ledger
abbrev pub SameBalances : Type 0
SameBalances =
    (l k : Ledger) → Shaped l → Shaped k → ((m t : ℕ) → m < 16 → t < 4 → balance_in l m t ≡ balance_in k m t) → l ≡ k

-- a row is its amounts: two of four that have the same ones are the same row
abbrev pub SameRows : Type 0
SameRows = (r q : Row) → RowShaped r → RowShaped q → ((t : ℕ) → t < 4 → cell_of r t ≡ cell_of q t) → r ≡ q

-- "A fresh house is all zero"
pub record Fresh (l : Ledger) : Type 0 where
  pub shaped : Shaped l
  pub balances : (m t : ℕ) → m < 16 → t < 4 → balance_in l m t ≡ 0
  pub totals : (t : ℕ) → t < 4 → total_in l t ≡ 0

-- ledger k is l with n more of token t for member m: that balance and that total, and no other
pub record Credited (l : Ledger) (m t n : ℕ) (k : Ledger) : Type 0 where
  pub shaped : Shaped l → Shaped k
  pub own : Shaped l → m < 16 → t < 4 → (u : ℕ) → balance_in k m u ≡ balance_in l m u + only t n u
  pub others : (j u : ℕ) → (j ≡ m → ⊥) → balance_in k j u ≡ balance_in l j u
  pub total : Shaped l → m < 16 → t < 4 → (u : ℕ) → total_in k u ≡ total_in l u + only t n u

-- and with n less, which the member has
pub record Debited (l : Ledger) (m t n : ℕ) (k : Ledger) : Type 0 where
  pub shaped : Shaped l → Shaped k
  pub own : Shaped l → m < 16 → t < 4 → n ≤ balance_in l m t → (u : ℕ) → balance_in k m u + only t n u ≡ balance_in l m u
  pub others : (j u : ℕ) → (j ≡ m → ⊥) → balance_in k j u ≡ balance_in l j u
  pub total : Shaped l → m < 16 → t < 4 → n ≤ balance_in l m t → (u : ℕ) → total_in k u + only t n u ≡ total_in l u

abbrev pub Credits : Type 0
Credits = (l : Ledger) (m t n : ℕ) → Credited l m t n (credited l m t n)

abbrev pub Debits : Type 0
Debits = (l : Ledger) (m t n : ℕ) → Debited l m t n (debited l m t n)

-- a balance is part of its token's total
abbrev pub BalancesWithin : Type 0
BalancesWithin = (l : Ledger) (m t : ℕ) → m < 16 → balance_in l m t ≤ total_in l t

-- ---- "one row taken out, changed and put back"

-- row r, taken out, tells member m's balances
pub record RowTaken (l : Ledger) (m : ℕ) (r : Row) : Type 0 where
  pub shaped : Shaped l → m < 16 → RowShaped r
  pub cells : (u : ℕ) → cell_of r u ≡ balance_in l m u

-- row q is r with n more of token t
pub record RowCredited (r : Row) (t n : ℕ) (q : Row) : Type 0 where
  pub shaped : RowShaped r → RowShaped q
  pub cells : RowShaped r → t < 4 → (u : ℕ) → cell_of q u ≡ cell_of r u + only t n u

-- and with n less, which it has
pub record RowDebited (r : Row) (t n : ℕ) (q : Row) : Type 0 where
  pub shaped : RowShaped r → RowShaped q
  pub cells : RowShaped r → t < 4 → n ≤ cell_of r t → (u : ℕ) → cell_of q u + only t n u ≡ cell_of r u

-- ledger k is l with row r put in for member m: what that does to each balance and total
pub record RowPut (l : Ledger) (m : ℕ) (r : Row) (k : Ledger) : Type 0 where
  pub shaped : Shaped l → RowShaped r → Shaped k
  pub own : Shaped l → m < 16 → (u : ℕ) → balance_in k m u ≡ cell_of r u
  pub others : (j u : ℕ) → (j ≡ m → ⊥) → balance_in k j u ≡ balance_in l j u
  pub total : Shaped l → m < 16 → (u : ℕ) → total_in k u + balance_in l m u ≡ total_in l u + cell_of r u

abbrev pub RowsTaken : Type 0
RowsTaken = (l : Ledger) (m : ℕ) → RowTaken l m (row_of l m)

abbrev pub RowCredits : Type 0
RowCredits = (r : Row) (t n : ℕ) → RowCredited r t n (credited_row r t n)

abbrev pub RowDebits : Type 0
RowDebits = (r : Row) (t n : ℕ) → RowDebited r t n (debited_row r t n)

abbrev pub RowsPut : Type 0
RowsPut = (l : Ledger) (m : ℕ) (r : Row) → RowPut l m r (with_row l m r)

-- a row put back as it was leaves the ledger
abbrev pub RowsPutBack : Type 0
RowsPutBack = (l : Ledger) (m : ℕ) → with_row l m (row_of l m) ≡ l

-- ---- rows where they lie

-- a caller that holds a ledger may read a member's row where it lies, and store one there, where `row_of` and `with_row` would copy the
-- ledger: what it reads tells the member's balances, and what it leaves has the balances and totals of the ledger with the row put in
pub record RowsLie (l : Ledger) (m : ℕ) : Type 0 where
  pub read : RowTaken l m (get_or l.rows m no_row)
  pub stored : (r : Row) → RowPut l m r (record { rows = set l.rows m r })

abbrev pub RowsInPlace : Type 0
RowsInPlace = (l : Ledger) (m : ℕ) → RowsLie l m

-- ---- calls: each is done, or refused by one of its codes with the ledger, or the row, as it was

pub record BalanceCall (l : Ledger) (m t : ℕ) : Type 0 where
  pub no_member : 15 < m → balance_of l m t ≡ Err NoSuchMember
  pub no_token : m ≤ 15 → 3 < t → balance_of l m t ≡ Err NoSuchToken
  pub done : m ≤ 15 → t ≤ 3 → balance_of l m t ≡ Ok (amount (balance_in l m t))

pub record CreditCall (l : Ledger) (m t n : ℕ) : Type 0 where
  pub no_member : 15 < m → credit_of l m t n ≡ unposted l NoSuchMember
  pub no_token : m ≤ 15 → 3 < t → credit_of l m t n ≡ unposted l NoSuchToken
  pub full : m ≤ 15 → t ≤ 3 → 4294967295 < balance_in l m t + n → credit_of l m t n ≡ unposted l TooLarge
  pub done : m ≤ 15 → t ≤ 3 → balance_in l m t + n ≤ 4294967295 → credit_of l m t n ≡ posted (credited l m t n) (balance_in l m t + n)

pub record DebitCall (l : Ledger) (m t n : ℕ) : Type 0 where
  pub no_member : 15 < m → debit_of l m t n ≡ unposted l NoSuchMember
  pub no_token : m ≤ 15 → 3 < t → debit_of l m t n ≡ unposted l NoSuchToken
  pub short : m ≤ 15 → t ≤ 3 → balance_in l m t < n → debit_of l m t n ≡ unposted l TooSmall
  pub done : m ≤ 15 → t ≤ 3 → n ≤ balance_in l m t → debit_of l m t n ≡ posted (debited l m t n) (balance_in l m t - n)

pub record CreditRowCall (r : Row) (t n : ℕ) : Type 0 where
  pub no_token : 3 < t → credit_row_of r t n ≡ unposted_row r NoSuchToken
  pub full : t ≤ 3 → 4294967295 < cell_of r t + n → credit_row_of r t n ≡ unposted_row r TooLarge
  pub done : t ≤ 3 → cell_of r t + n ≤ 4294967295 → credit_row_of r t n ≡ posted_row (credited_row r t n) (cell_of r t + n)

pub record DebitRowCall (r : Row) (t n : ℕ) : Type 0 where
  pub no_token : 3 < t → debit_row_of r t n ≡ unposted_row r NoSuchToken
  pub short : t ≤ 3 → cell_of r t < n → debit_row_of r t n ≡ unposted_row r TooSmall
  pub done : t ≤ 3 → n ≤ cell_of r t → debit_row_of r t n ≡ posted_row (debited_row r t n) (cell_of r t - n)

abbrev pub BalanceCalls : Type 0
BalanceCalls = (l : Ledger) (m t : ℕ) → BalanceCall l m t

abbrev pub CreditCalls : Type 0
CreditCalls = (l : Ledger) (m t n : ℕ) → CreditCall l m t n

abbrev pub DebitCalls : Type 0
DebitCalls = (l : Ledger) (m t n : ℕ) → DebitCall l m t n

abbrev pub CreditRowCalls : Type 0
CreditRowCalls = (r : Row) (t n : ℕ) → CreditRowCall r t n

abbrev pub DebitRowCalls : Type 0
DebitRowCalls = (r : Row) (t n : ℕ) → DebitRowCall r t n
