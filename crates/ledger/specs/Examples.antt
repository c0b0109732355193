-- Ledger calls from the fresh ledger: the code and the balance that each answers, worked by hand from document 01, and readings between
-- them. Each of the four codes, the first and the last cell, the largest balance and a balance down to 0; a refusal leaves the ledger.
use Rattle.std.specs.Prelude.{ℕ, List, [], ◌∷◌, map}
use Rattle.units.specs.declared.Amount.{Amount}
use Rattle.ledger.specs.declared.Row.{Row}
use Rattle.ledger.specs.declared.Ledger.{Ledger}
use Rattle.ledger.specs.Balances.{row_of, with_row, balance_in, total_in}
use Rattle.ledger.specs.Postings.{entry_code, entry_amount, balance_of, credit_of, debit_of, credit_row_of, debit_row_of}

-- a line of a script: a call with the code and the balance that it answers, or what is read off the ledger between two calls
pub data Line : Type 0 where
  balance : (member token code left : ℕ) → Line
  credit : (member token n code left : ℕ) → Line
  debit : (member token n code left : ℕ) → Line
  -- the member's row taken out, credited or debited, and put back
  credit_row : (member token n code left : ℕ) → Line
  debit_row : (member token n code left : ℕ) → Line
  balance_is : (member token n : ℕ) → Line
  row_is : (member : ℕ) (cells : List ℕ) → Line
  total_is : (token n : ℕ) → Line
  rows_are : (rows : List (List ℕ)) → Line

abbrev pub cells_of : Row → List ℕ
cells_of r = map (λ (a : Amount). a.0) r.cells

-- the same calls and readings, with the numbers that the definitions give, from a ledger on
unfoldable pub worked : Ledger → List Line → List Line
worked l [] = []
worked l (balance m t c b ∷ ls) = balance m t (entry_code (balance_of l m t)) (entry_amount (balance_of l m t)) ∷ worked l ls
worked l (credit m t n c b ∷ ls) =
    credit m t n (entry_code (credit_of l m t n).entry) (entry_amount (credit_of l m t n).entry) ∷ worked (credit_of l m t n).ledger ls
worked l (debit m t n c b ∷ ls) =
    debit m t n (entry_code (debit_of l m t n).entry) (entry_amount (debit_of l m t n).entry) ∷ worked (debit_of l m t n).ledger ls
worked l (credit_row m t n c b ∷ ls) =
    credit_row m t n (entry_code (credit_row_of (row_of l m) t n).entry) (entry_amount (credit_row_of (row_of l m) t n).entry)
    ∷ worked (with_row l m (credit_row_of (row_of l m) t n).row) ls
worked l (debit_row m t n c b ∷ ls) =
    debit_row m t n (entry_code (debit_row_of (row_of l m) t n).entry) (entry_amount (debit_row_of (row_of l m) t n).entry)
    ∷ worked (with_row l m (debit_row_of (row_of l m) t n).row) ls
worked l (balance_is m t n ∷ ls) = balance_is m t (balance_in l m t) ∷ worked l ls
worked l (row_is m ns ∷ ls) = row_is m (cells_of (row_of l m)) ∷ worked l ls
worked l (total_is t n ∷ ls) = total_is t (total_in l t) ∷ worked l ls
worked l (rows_are ns ∷ ls) = rows_are (map cells_of l.rows) ∷ worked l ls

-- four balances of 0
abbrev pub none : List ℕ
none = 0 ∷ 0 ∷ 0 ∷ 0 ∷ []

unfoldable pub script : List Line
script =
    -- "Balances stand as sixteen rows of four"; "A fresh house is all zero"
    rows_are
    (none ∷ none ∷ none ∷ none ∷ none ∷ none ∷ none ∷ none ∷ none ∷ none ∷ none ∷ none ∷ none ∷ none ∷ none ∷ none ∷ [])
    ∷ total_is 0 0
    ∷ balance 0 0 0 0
    ∷ balance 15 3 0 0
    -- "1 member above 15. 2 token above 3"; both at once are 1
    ∷ balance 16 0 1 0
    ∷ balance 0 4 2 0
    ∷ balance 16 4 1 0
    -- the first cell, and its neighbours by token and by member
    ∷ credit 0 0 1000 0 1000
    ∷ credit 0 0 500 0 1500
    ∷ credit 0 1 7 0 7
    ∷ credit 1 0 40 0 40
    ∷ balance 0 0 0 1500
    ∷ balance 0 1 0 7
    ∷ balance 1 0 0 40
    ∷ balance 1 1 0 0
    -- the last cell, up to 4,294,967,295; one unit more is 14, and leaves it
    ∷ credit 15 3 4294967294 0 4294967294
    ∷ credit 15 3 2 14 0
    ∷ credit 15 3 1 0 4294967295
    ∷ credit 15 3 1 14 0
    ∷ credit 15 3 0 0 4294967295
    ∷ balance 15 3 0 4294967295
    -- 14 speaks of one balance: another member has all its room
    ∷ credit 14 3 4294967295 0 4294967295
    ∷ total_is 3 8589934590
    ∷ credit 16 0 1 1 0
    ∷ credit 0 4 1 2 0
    ∷ credit 16 4 1 1 0
    -- 1 and 14; 2 and 14
    ∷ credit 16 0 4294967296 1 0
    ∷ credit 0 4 4294967296 2 0
    -- "19 balance below the amount"
    ∷ debit 0 0 1501 19 0
    ∷ debit 2 0 1 19 0
    ∷ debit 0 0 1 0 1499
    ∷ debit 15 3 5 0 4294967290
    -- 1, 2 and 19; 1 and 19; 2 and 19
    ∷ debit 16 4 1 1 0
    ∷ debit 16 0 1 1 0
    ∷ debit 0 4 1 2 0
    ∷ debit 16 0 0 1 0
    ∷ debit 0 4 0 2 0
    -- down to 0; one unit more is 19
    ∷ debit 0 0 1499 0 0
    ∷ debit 0 0 1 19 0
    ∷ debit 0 0 0 0 0
    ∷ balance 0 0 0 0
    -- every other balance is as it was
    ∷ rows_are
    ((0 ∷ 7 ∷ 0 ∷ 0 ∷ [])
    ∷ (40 ∷ 0 ∷ 0 ∷ 0 ∷ [])
    ∷ none ∷ none ∷ none ∷ none ∷ none ∷ none ∷ none ∷ none ∷ none ∷ none ∷ none ∷ none
    ∷ (0 ∷ 0 ∷ 0 ∷ 4294967295 ∷ [])
    ∷ (0 ∷ 0 ∷ 0 ∷ 4294967290 ∷ [])
    ∷ [])
    -- "one row taken out, changed and put back"
    ∷ credit_row 15 0 30 0 30
    ∷ credit_row 15 3 6 14 0
    ∷ credit_row 15 3 5 0 4294967295
    ∷ credit_row 15 4 1 2 0
    ∷ credit_row 15 4 4294967296 2 0
    ∷ credit_row 0 0 3 0 3
    ∷ debit_row 15 0 31 19 0
    ∷ debit_row 15 0 10 0 20
    ∷ debit_row 15 4 1 2 0
    ∷ debit_row 15 4 0 2 0
    ∷ debit_row 0 0 3 0 0
    ∷ debit_row 0 0 1 19 0
    ∷ row_is 15 (20 ∷ 0 ∷ 0 ∷ 4294967295 ∷ [])
    ∷ row_is 0 (0 ∷ 7 ∷ 0 ∷ 0 ∷ [])
    ∷ balance_is 15 0 20
    ∷ balance_is 15 3 4294967295
    ∷ balance 15 0 0 20
    ∷ debit 15 3 4294967295 0 0
    ∷ total_is 0 60
    ∷ total_is 1 7
    ∷ total_is 2 0
    ∷ total_is 3 4294967295
    -- outside there is nothing
    ∷ row_is 16 []
    ∷ balance_is 16 0 0
    ∷ balance_is 0 4 0
    ∷ []
