-- What a line makes of the books, a ledger and one row apart from it, and what it answers: by how many numbers it has, and the first of them.
use Rattle.std.specs.Prelude.{ℕ, cond, List, [], ◌∷◌, ◌++◌, eqb, Some, None, Option}
use Rattle.units.specs.Decimal.{digits}
use Rattle.ledger.specs.Balances.{row_of, fresh_ledger}
use Rattle.ledger.specs.Postings.{RowPosting, Posting, Entry, entry_code, entry_amount, balance_of, credit_of, debit_of, credit_row_of, debit_row_of}
use Rattle.postings.specs.declared.Books.{Books}

-- what a line answers, and the books after it
pub record Posted : Type 0 where
  pub code : ℕ
  pub amount : ℕ
  pub books : Books

-- "A fresh house is all zero", and the row as member 0 has it
unfoldable pub fresh_books : Books
fresh_books = record { ledger = fresh_ledger; row = row_of fresh_ledger 0 }

abbrev pub told : Entry → Books → Posted
told e b = record { code = entry_code e; amount = entry_amount e; books = b }

-- 20: "line not of the form below"
abbrev pub no_line : Books → Posted
no_line b = record { code = 20; amount = 0; books = b }

-- a call on the ledger leaves the row, and one on the row the ledger
abbrev pub on_ledger : Books → Posting → Posted
on_ledger b p = told p.entry (record { ledger = p.ledger; row = b.row })

abbrev pub on_row : Books → RowPosting → Posted
on_row b p = told p.entry (record { ledger = b.ledger; row = p.row })

-- 6
unfoldable pub alone_of : Books → ℕ → Posted
alone_of b kind = cond (eqb kind 6) (record { code = 0; amount = 0; books = fresh_books }) (no_line b)

-- 3,member,token; 4,token,amount; 5,token,amount
unfoldable pub two_of : Books → ℕ → ℕ → ℕ → Posted
two_of b kind x y =
    cond (eqb kind 3) (told (balance_of b.ledger x y) b)
    (cond (eqb kind 4) (on_row b (credit_row_of b.row x y))
    (cond (eqb kind 5) (on_row b (debit_row_of b.row x y)) (no_line b)))

-- 1,member,token,amount; 2,member,token,amount
unfoldable pub three_of : Books → ℕ → ℕ → ℕ → ℕ → Posted
three_of b kind m t n =
    cond (eqb kind 1) (on_ledger b (credit_of b.ledger m t n))
    (cond (eqb kind 2) (on_ledger b (debit_of b.ledger m t n)) (no_line b))

-- a line by its numbers, none where it is not of the form
abbrev pub posted_of : Books → Option (List ℕ) → Posted
posted_of b None = no_line b
posted_of b (Some []) = no_line b
posted_of b (Some (kind ∷ [])) = alone_of b kind
posted_of b (Some (kind ∷ x ∷ [])) = no_line b
posted_of b (Some (kind ∷ x ∷ y ∷ [])) = two_of b kind x y
posted_of b (Some (kind ∷ x ∷ y ∷ z ∷ [])) = three_of b kind x y z
posted_of b (Some (kind ∷ x ∷ y ∷ z ∷ w ∷ ns)) = no_line b

-- the numbers of an answer, none where the line is none of the six
abbrev pub code_of : Option Entry → ℕ
code_of None = 20
code_of (Some e) = entry_code e

abbrev pub amount_of : Option Entry → ℕ
amount_of None = 0
amount_of (Some e) = entry_amount e

abbrev pub answered : Option Entry → Books → Posted
answered posted b = record { code = code_of posted; amount = amount_of posted; books = b }

-- number, code and amount, parted by commas, and byte 10
abbrev pub posted_text : ℕ → ℕ → ℕ → List ℕ
posted_text number code amount = digits number ++ (44 ∷ (digits code ++ (44 ∷ (digits amount ++ (10 ∷ [])))))
