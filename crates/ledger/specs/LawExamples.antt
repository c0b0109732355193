-- The laws of Laws.antt in numbers: what each gives at the last member, the last token and the largest number, and what each refuses there.
use Rattle.std.specs.Prelude.{ℕ, ◌+◌, ◌-◌, ◌≤◌, ◌<◌, ◌≡◌, List, [], ◌∷◌, map, length, replicate, get_or, set, Ok, Err}
use Rattle.units.specs.Counts.{amount}
use Rattle.ledger.specs.declared.Row.{Row}
use Rattle.ledger.specs.declared.Ledger.{Ledger}
use Rattle.ledger.specs.declared.Fault.TheVariants.{NoSuchMember, NoSuchToken, TooLarge, TooSmall}
use Rattle.ledger.specs.Balances.{
  no_row,
  cell_of,
  credited_row,
  debited_row,
  with_row,
  balance_in,
  credited,
  debited,
  total_in,
  fresh_ledger,
  Shaped,
}
use Rattle.ledger.specs.Postings.{
  posted,
  unposted,
  posted_row,
  unposted_row,
  balance_of,
  credit_of,
  debit_of,
  credit_row_of,
  debit_row_of,
}
use Rattle.ledger.specs.Laws.{
  SameBalances,
  SameRows,
  Fresh,
  Credited,
  Debited,
  Credits,
  Debits,
  BalancesWithin,
  RowTaken,
  RowCredited,
  RowDebited,
  RowPut,
  RowsInPlace,
  BalanceCalls,
  CreditCalls,
  DebitCalls,
  CreditRowCalls,
  DebitRowCalls,
}

-- ---- what they give

pub record LawsUsed : Type 0 where
  pub fresh_last : (l : Ledger) → Fresh l → (balance_in l 15 3 ≡ 0) × (total_in l 3 ≡ 0)
  -- two ledgers whose sixteen times four balances are 0 are the same
  pub all_zero :
      SameBalances → (l k : Ledger) → Shaped l → Shaped k → ((m t : ℕ) → m < 16 → t < 4 → balance_in l m t ≡ 0)
      → ((m t : ℕ) → m < 16 → t < 4 → balance_in k m t ≡ 0) → l ≡ k
  -- and so are two rows of four amounts of 0
  pub zero_rows :
      SameRows → (r q : Row) → length r.cells ≡ 4 → length q.cells ≡ 4 → ((t : ℕ) → t < 4 → cell_of r t ≡ 0)
      → ((t : ℕ) → t < 4 → cell_of q t ≡ 0) → r ≡ q
  -- 7 more for the last member in the last token: that balance, that total, and no other
  pub credits_last :
      (l k : Ledger) → Credited l 15 3 7 k → Shaped l → (balance_in k 15 3 ≡ balance_in l 15 3 + 7) × (total_in k 3 ≡ total_in l 3 + 7)
  pub credits_no_other :
      (l k : Ledger) → Credited l 15 3 7 k → Shaped l
      → (balance_in k 15 2 ≡ balance_in l 15 2) × (balance_in k 14 3 ≡ balance_in l 14 3) × (total_in k 2 ≡ total_in l 2)
  -- all that it has less
  pub debits_all :
      (l k : Ledger) → Debited l 15 3 (balance_in l 15 3) k → Shaped l → (balance_in k 15 3 ≡ 0) × (total_in k 3 + balance_in l 15 3 ≡ total_in l 3)
  pub debits_no_other :
      (l k : Ledger) → Debited l 15 3 (balance_in l 15 3) k → Shaped l
      → (balance_in k 15 2 ≡ balance_in l 15 2) × (balance_in k 14 3 ≡ balance_in l 14 3) × (total_in k 2 ≡ total_in l 2)
  pub credits : Credits → (l : Ledger) → Credited l 15 3 7 (credited l 15 3 7)
  pub debits : Debits → (l : Ledger) → Debited l 15 3 7 (debited l 15 3 7)
  pub within_last : BalancesWithin → (l : Ledger) → balance_in l 15 3 ≤ total_in l 3
  -- the last member's row: taken out, changed, put back
  pub takes_last : (l : Ledger) (r : Row) → RowTaken l 15 r → Shaped l → (length r.cells ≡ 4) × (cell_of r 3 ≡ balance_in l 15 3)
  pub row_credits_last :
      (r q : Row) → RowCredited r 3 7 q → length r.cells ≡ 4 → (cell_of q 3 ≡ cell_of r 3 + 7) × (cell_of q 2 ≡ cell_of r 2)
  pub row_debits_all :
      (r q : Row) → RowDebited r 3 (cell_of r 3) q → length r.cells ≡ 4 → (cell_of q 3 ≡ 0) × (cell_of q 2 ≡ cell_of r 2)
  pub puts_last :
      (l k : Ledger) (r : Row) → RowPut l 15 r k → Shaped l
      → (balance_in k 15 3 ≡ cell_of r 3) × (balance_in k 14 3 ≡ balance_in l 14 3) × (total_in k 3 + balance_in l 15 3 ≡ total_in l 3 + cell_of r 3)
  -- the last row read, and stored, where it lies
  pub reads_last : RowsInPlace → (l : Ledger) → cell_of (get_or l.rows 15 no_row) 3 ≡ balance_in l 15 3
  pub stores_last :
      RowsInPlace → (l : Ledger) (r : Row) → Shaped l
      → (balance_in (record { rows = set l.rows 15 r }) 15 3 ≡ cell_of r 3)
      × (total_in (record { rows = set l.rows 15 r }) 3 + balance_in l 15 3 ≡ total_in l 3 + cell_of r 3)
  -- 1 and 2, of each call, with the ledger or the row as it was
  pub no_member :
      BalanceCalls → CreditCalls → DebitCalls → (l : Ledger)
      → (balance_of l 16 4 ≡ Err NoSuchMember) × (credit_of l 16 4 7 ≡ unposted l NoSuchMember) × (debit_of l 16 4 7 ≡ unposted l NoSuchMember)
  pub no_token :
      BalanceCalls → CreditCalls → DebitCalls → (l : Ledger)
      → (balance_of l 15 4 ≡ Err NoSuchToken) × (credit_of l 15 4 7 ≡ unposted l NoSuchToken) × (debit_of l 15 4 7 ≡ unposted l NoSuchToken)
  pub row_no_token :
      CreditRowCalls → DebitRowCalls → (r : Row)
      → (credit_row_of r 4 7 ≡ unposted_row r NoSuchToken) × (debit_row_of r 4 7 ≡ unposted_row r NoSuchToken)
  -- 14: a balance of 5 takes 4,294,967,290 more, and not one more
  pub full :
      CreditCalls → (l : Ledger) → balance_in l 15 3 ≡ 5
      → (credit_of l 15 3 4294967291 ≡ unposted l TooLarge)
      × (credit_of l 15 3 4294967290 ≡ posted (credited l 15 3 4294967290) (balance_in l 15 3 + 4294967290))
  pub row_full :
      CreditRowCalls → (r : Row) → cell_of r 3 ≡ 5
      → (credit_row_of r 3 4294967291 ≡ unposted_row r TooLarge)
      × (credit_row_of r 3 4294967290 ≡ posted_row (credited_row r 3 4294967290) (cell_of r 3 + 4294967290))
  -- 19: it gives 5, and not 6
  pub short :
      DebitCalls → (l : Ledger) → balance_in l 15 3 ≡ 5
      → (debit_of l 15 3 6 ≡ unposted l TooSmall) × (debit_of l 15 3 5 ≡ posted (debited l 15 3 5) (balance_in l 15 3 - 5))
  pub row_short :
      DebitRowCalls → (r : Row) → cell_of r 3 ≡ 5
      → (debit_row_of r 3 6 ≡ unposted_row r TooSmall) × (debit_row_of r 3 5 ≡ posted_row (debited_row r 3 5) (cell_of r 3 - 5))
  pub tells_last : BalanceCalls → (l : Ledger) → balance_of l 15 3 ≡ Ok (amount (balance_in l 15 3))

-- ---- what they refuse

-- a row of these balances, and the fresh ledger with such a row for the last member
abbrev pub row : List ℕ → Row
row ns = record { cells = map amount ns }

abbrev pub last_row : List ℕ → Ledger
last_row ns = with_row fresh_ledger 15 (row ns)

pub record LawsRefused : Type 0 where
  -- fifteen rows, and a row of three
  pub few_rows : Shaped (record { rows = replicate 15 (row (0 ∷ 0 ∷ 0 ∷ 0 ∷ [])) }) → ⊥
  pub few_cells : Shaped (last_row (0 ∷ 0 ∷ 0 ∷ [])) → ⊥
  -- one unit in the last place
  pub not_zero : Fresh (last_row (0 ∷ 0 ∷ 0 ∷ 1 ∷ [])) → ⊥
  -- 7 more: 6, 8, of another token too, of another member too, and without a row
  pub credits_less : Credited fresh_ledger 15 3 7 (last_row (0 ∷ 0 ∷ 0 ∷ 6 ∷ [])) → ⊥
  pub credits_more : Credited fresh_ledger 15 3 7 (last_row (0 ∷ 0 ∷ 0 ∷ 8 ∷ [])) → ⊥
  pub credits_token : Credited fresh_ledger 15 3 7 (last_row (0 ∷ 0 ∷ 1 ∷ 7 ∷ [])) → ⊥
  pub credits_member : Credited fresh_ledger 15 3 7 (with_row (last_row (0 ∷ 0 ∷ 0 ∷ 7 ∷ [])) 14 (row (0 ∷ 0 ∷ 0 ∷ 1 ∷ []))) → ⊥
  pub credits_shape : Credited fresh_ledger 15 3 7 (record { rows = [] }) → ⊥
  -- 7 less of 9
  pub debits_less : Debited (last_row (0 ∷ 0 ∷ 0 ∷ 9 ∷ [])) 15 3 7 (last_row (0 ∷ 0 ∷ 0 ∷ 3 ∷ [])) → ⊥
  pub debits_more : Debited (last_row (0 ∷ 0 ∷ 0 ∷ 9 ∷ [])) 15 3 7 (last_row (0 ∷ 0 ∷ 0 ∷ 1 ∷ [])) → ⊥
  pub debits_token : Debited (last_row (0 ∷ 0 ∷ 1 ∷ 9 ∷ [])) 15 3 7 (last_row (0 ∷ 0 ∷ 0 ∷ 2 ∷ [])) → ⊥
  pub debits_member : Debited (last_row (0 ∷ 0 ∷ 0 ∷ 9 ∷ [])) 15 3 7 (with_row (last_row (0 ∷ 0 ∷ 0 ∷ 2 ∷ [])) 14 (row (0 ∷ 0 ∷ 0 ∷ 1 ∷ []))) → ⊥
  -- rows
  pub takes_other : RowTaken (last_row (0 ∷ 0 ∷ 0 ∷ 9 ∷ [])) 15 (row (0 ∷ 0 ∷ 0 ∷ 8 ∷ [])) → ⊥
  pub row_credits_more : RowCredited (row (1 ∷ 2 ∷ 3 ∷ 4 ∷ [])) 3 7 (row (1 ∷ 2 ∷ 3 ∷ 12 ∷ [])) → ⊥
  pub row_credits_token : RowCredited (row (1 ∷ 2 ∷ 3 ∷ 4 ∷ [])) 3 7 (row (1 ∷ 2 ∷ 4 ∷ 11 ∷ [])) → ⊥
  pub row_debits_more : RowDebited (row (1 ∷ 2 ∷ 3 ∷ 9 ∷ [])) 3 7 (row (1 ∷ 2 ∷ 3 ∷ 1 ∷ [])) → ⊥
  pub row_debits_token : RowDebited (row (1 ∷ 2 ∷ 3 ∷ 9 ∷ [])) 3 7 (row (1 ∷ 2 ∷ 2 ∷ 2 ∷ [])) → ⊥
  pub row_credits_shape : RowCredited (row (1 ∷ 2 ∷ 3 ∷ 4 ∷ [])) 3 7 no_row → ⊥
  pub puts_other : RowPut fresh_ledger 15 (row (0 ∷ 0 ∷ 0 ∷ 9 ∷ [])) (last_row (0 ∷ 0 ∷ 0 ∷ 8 ∷ [])) → ⊥
  pub puts_member :
      RowPut fresh_ledger 15 (row (0 ∷ 0 ∷ 0 ∷ 9 ∷ [])) (with_row (last_row (0 ∷ 0 ∷ 0 ∷ 9 ∷ [])) 14 (row (0 ∷ 0 ∷ 0 ∷ 1 ∷ []))) → ⊥
