-- The ledger's laws, as specs/Laws.antt states them.
use Prim.Native.Nat.{ℕ, ◌+◌, ◌≤◌, ◌<◌}
use mathlib.Core.Path.{◌≡◌, refl, sym, ap, ◌∙◌}
use native.Mathlib.Omega.{arith}
use lib.ListN.{replicate, get_or-replicate}
use borrow.Author.Tests.{lt-ltb, le-ltb}
use Rattle.units.specs.declared.Amount.{Amount}
use Rattle.units.specs.Counts.{amount}
use Rattle.units.proofs.Sums.{sum_zero, sum_at, term_le}
use Rattle.ledger.specs.declared.Row.{Row}
use Rattle.ledger.specs.declared.Ledger.{Ledger}
use Rattle.ledger.specs.Balances.{
  no_row,
  cell_of,
  credited_row,
  debited_row,
  row_of,
  with_row,
  balance_in,
  credited,
  debited,
  total_in,
  fresh_ledger,
  Shaped,
}
use Rattle.ledger.specs.Postings.{balance_of, credit_of, debit_of, credit_row_of, debit_row_of}
use Rattle.ledger.specs.Laws.{
  SameBalances,
  SameRows,
  Fresh,
  Credits,
  Debits,
  BalancesWithin,
  RowsTaken,
  RowCredits,
  RowDebits,
  RowsPut,
  RowsPutBack,
  RowsInPlace,
  BalanceCalls,
  CreditCalls,
  DebitCalls,
  CreditRowCalls,
  DebitRowCalls,
}
use Rattle.ledger.proofs.Rows.{
  credited_cell,
  debited_cell,
  credited_cells,
  debited_cells,
  same_row,
  row_shaped,
  balance_row,
  same_ledger,
  row_same,
  row_other,
  put_back,
  with_row_shaped,
}

-- ---- rows

pub same_rows : SameRows
same_rows = same_row

pub rows_taken : RowsTaken
rows_taken l m = record { shaped = row_shaped l m; cells = λ u. sym (balance_row l m u) }

pub row_credits : RowCredits
row_credits r t n = record { shaped = λ z. credited_cells r t n ∙ z; cells = credited_cell r t n }

pub row_debits : RowDebits
row_debits r t n = record { shaped = λ z. debited_cells r t n ∙ z; cells = debited_cell r t n }

put_own : (l : Ledger) (m : ℕ) (r : Row) → Shaped l → m < 16 → (u : ℕ) → balance_in (with_row l m r) m u ≡ cell_of r u
put_own l m r z h u = balance_row (with_row l m r) m u ∙ ap (λ (x : Row). cell_of x u) (row_same l m r z h)

put_others : (l : Ledger) (m : ℕ) (r : Row) (j u : ℕ) → (j ≡ m → ⊥) → balance_in (with_row l m r) j u ≡ balance_in l j u
unfolding balance_in
put_others l m r j u d = ap (λ (x : Row). cell_of x u) (row_other l m r j d)

put_total : (l : Ledger) (m : ℕ) (r : Row) → Shaped l → m < 16 → (u : ℕ) → total_in (with_row l m r) u + balance_in l m u ≡ total_in l u + cell_of r u
unfolding total_in
put_total l m r z h u =
    omega (
      arith,
      sum_at 16 m (λ j. balance_in l j u) (λ j. balance_in (with_row l m r) j u) h (λ j hj d. put_others l m r j u d),
      put_own l m r z h u,
    )

pub rows_put : RowsPut
rows_put l m r =
    record {
      shaped = λ z zr. with_row_shaped l m r z (λ h. zr);
      own = put_own l m r;
      others = put_others l m r;
      total = put_total l m r;
    }

pub rows_put_back : RowsPutBack
rows_put_back = put_back

pub rows_in_place : RowsInPlace
unfolding row_of with_row
rows_in_place l m = record { read = rows_taken l m; stored = rows_put l m }

-- ---- balances

pub same_balances : SameBalances
same_balances l k zl zk h =
    same_ledger l k zl zk (λ m hm.
    same_row (row_of l m) (row_of k m) (row_shaped l m zl hm) (row_shaped k m zk hm) (λ t ht.
    sym (balance_row l m t) ∙ h m t hm ht ∙ balance_row k m t))

fresh_row : (m : ℕ) → m < 16 → row_of fresh_ledger m ≡ record { cells = replicate 4 (amount 0) }
unfolding row_of fresh_ledger
fresh_row m h = get_or-replicate 16 m (record { cells = replicate 4 (amount 0) }) no_row h

fresh_shaped : Shaped fresh_ledger
unfolding fresh_ledger
fresh_shaped = record {
  rows = refl;
  cells = λ m h. rw (get_or-replicate 16 m (record { cells = replicate 4 (amount 0) }) no_row h);
}

fresh_balance : (m t : ℕ) → m < 16 → t < 4 → balance_in fresh_ledger m t ≡ 0
unfolding balance_in cell_of
fresh_balance m t hm ht = rw (fresh_row m hm) (ap (λ (x : Amount). x.0) (get_or-replicate 4 t (amount 0) (amount 0) ht))

fresh_total : (t : ℕ) → t < 4 → total_in fresh_ledger t ≡ 0
unfolding total_in
fresh_total t h = sum_zero 16 (λ m. balance_in fresh_ledger m t) (λ m hm. fresh_balance m t hm h)

pub fresh_all_zero : Fresh fresh_ledger
fresh_all_zero = record { shaped = fresh_shaped; balances = fresh_balance; totals = fresh_total }

pub balances_within : BalancesWithin
unfolding total_in
balances_within l m t h = term_le 16 m (λ j. balance_in l j t) h

pub credits : Credits
unfolding credited
credits l m t n =
    let r : Row = credited_row (row_of l m) t n in
    record {
      shaped = λ z. with_row_shaped l m r z (λ h. credited_cells (row_of l m) t n ∙ row_shaped l m z h);
      own = λ z hm ht u. omega (arith, put_own l m r z hm u, credited_cell (row_of l m) t n (row_shaped l m z hm) ht u, balance_row l m u);
      others = put_others l m r;
      total = λ z hm ht u. omega (arith, put_total l m r z hm u, credited_cell (row_of l m) t n (row_shaped l m z hm) ht u, balance_row l m u);
    }

pub debits : Debits
unfolding debited
debits l m t n =
    let r : Row = debited_row (row_of l m) t n in
    let has : n ≤ balance_in l m t → n ≤ cell_of (row_of l m) t = λ le. omega (arith, balance_row l m t) in
    record {
      shaped = λ z. with_row_shaped l m r z (λ h. debited_cells (row_of l m) t n ∙ row_shaped l m z h);
      own = λ z hm ht le u. omega (arith, put_own l m r z hm u, debited_cell (row_of l m) t n (row_shaped l m z hm) ht (has le) u, balance_row l m u);
      others = put_others l m r;
      total = λ z hm ht le u. omega (arith, put_total l m r z hm u, debited_cell (row_of l m) t n (row_shaped l m z hm) ht (has le) u, balance_row l m u);
    }

-- ---- calls

pub balance_calls : BalanceCalls
unfolding balance_of
balance_calls l m t =
    record {
      no_member = λ hm. simp lt-ltb;
      no_token = λ hm ht. simp (le-ltb, lt-ltb);
      done = λ hm ht. simp le-ltb;
    }

pub credit_calls : CreditCalls
unfolding credit_of
credit_calls l m t n =
    record {
      no_member = λ hm. simp lt-ltb;
      no_token = λ hm ht. simp (le-ltb, lt-ltb);
      full = λ hm ht h. simp (le-ltb, lt-ltb);
      done = λ hm ht h. simp le-ltb;
    }

pub debit_calls : DebitCalls
unfolding debit_of
debit_calls l m t n =
    record {
      no_member = λ hm. simp lt-ltb;
      no_token = λ hm ht. simp (le-ltb, lt-ltb);
      short = λ hm ht h. simp (le-ltb, lt-ltb);
      done = λ hm ht h. simp le-ltb;
    }

pub credit_row_calls : CreditRowCalls
unfolding credit_row_of
credit_row_calls r t n =
    record {
      no_token = λ ht. simp lt-ltb;
      full = λ ht h. simp (le-ltb, lt-ltb);
      done = λ ht h. simp le-ltb;
    }

pub debit_row_calls : DebitRowCalls
unfolding debit_row_of
debit_row_calls r t n =
    record {
      no_token = λ ht. simp lt-ltb;
      short = λ ht h. simp (le-ltb, lt-ltb);
      done = λ ht h. simp le-ltb;
    }
