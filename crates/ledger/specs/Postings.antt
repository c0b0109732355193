-- What a ledger call answers and leaves, refusals too.
use Rattle.std.specs.Prelude.{ℕ, ◌+◌, ◌-◌, List, [], ◌∷◌, ◌++◌, ltb, Ok, Err, Result}
use Rattle.units.specs.declared.Amount.{Amount}
use Rattle.units.specs.Counts.{amount, largest}
use Rattle.units.specs.Ranges.{last_member, last_token}
use Rattle.units.specs.Decide.{Test, when, decide}
use Rattle.ledger.specs.declared.Row.{Row}
use Rattle.ledger.specs.declared.Ledger.{Ledger}
use Rattle.ledger.specs.declared.Fault.{Fault}
use Rattle.ledger.specs.declared.Fault.TheVariants.{NoSuchMember, NoSuchToken, TooLarge, TooSmall}
use Rattle.ledger.specs.Balances.{cell_of, credited_row, debited_row, balance_in, credited, debited}

-- ---- answers

-- the balance, or why the call is refused
abbrev pub Entry : Type 0
Entry = Result Amount Fault

-- the answer, and the ledger after the call
pub record Posting : Type 0 where
  pub entry : Entry
  pub ledger : Ledger

-- the answer, and the row after the call
pub record RowPosting : Type 0 where
  pub entry : Entry
  pub row : Row

-- ---- the numbers of an answer

-- document 01's refusals: 1 member above 15, 2 token above 3, 19 balance below the amount; and 14, which under the rounds speaks of a token's
-- supply, for a balance that would pass 4,294,967,295
abbrev pub fault_code : Fault → ℕ
fault_code NoSuchMember = 1
fault_code NoSuchToken = 2
fault_code TooLarge = 14
fault_code TooSmall = 19

abbrev pub entry_code : Entry → ℕ
entry_code (Ok a) = 0
entry_code (Err f) = fault_code f

abbrev pub entry_amount : Entry → ℕ
entry_amount (Ok a) = a.0
entry_amount (Err f) = 0

-- ---- calls on the ledger

abbrev pub posted : Ledger → ℕ → Posting
posted l n = record { entry = Ok (amount n); ledger = l }

-- a refusal leaves the ledger
abbrev pub unposted : Ledger → Fault → Posting
unposted l f = record { entry = Err f; ledger = l }

abbrev pub place_tests : ℕ → ℕ → List (Test Fault)
place_tests m t = when (ltb last_member m) NoSuchMember ∷ when (ltb last_token t) NoSuchToken ∷ []

-- a member's balance of a token
unfoldable pub balance_of : Ledger → ℕ → ℕ → Entry
balance_of l m t = decide (place_tests m t) Err (Ok (amount (balance_in l m t)))

abbrev pub credit_tests : Ledger → ℕ → ℕ → ℕ → List (Test Fault)
credit_tests l m t n =
    place_tests m t ++ (when (ltb largest (balance_in l m t + n)) TooLarge ∷ [])

-- n more for a member, and the new balance
unfoldable pub credit_of : Ledger → ℕ → ℕ → ℕ → Posting
credit_of l m t n = decide (credit_tests l m t n) (unposted l) (posted (credited l m t n) (balance_in l m t + n))

abbrev pub debit_tests : Ledger → ℕ → ℕ → ℕ → List (Test Fault)
debit_tests l m t n =
    place_tests m t ++ (when (ltb (balance_in l m t) n) TooSmall ∷ [])

-- n less, and the new balance
unfoldable pub debit_of : Ledger → ℕ → ℕ → ℕ → Posting
debit_of l m t n = decide (debit_tests l m t n) (unposted l) (posted (debited l m t n) (balance_in l m t - n))

-- ---- the same calls on one row

abbrev pub posted_row : Row → ℕ → RowPosting
posted_row r n = record { entry = Ok (amount n); row = r }

abbrev pub unposted_row : Row → Fault → RowPosting
unposted_row r f = record { entry = Err f; row = r }

unfoldable pub credit_row_of : Row → ℕ → ℕ → RowPosting
credit_row_of r t n =
    decide (when (ltb last_token t) NoSuchToken ∷ when (ltb largest (cell_of r t + n)) TooLarge ∷ []) (unposted_row r)
    (posted_row (credited_row r t n) (cell_of r t + n))

unfoldable pub debit_row_of : Row → ℕ → ℕ → RowPosting
debit_row_of r t n =
    decide (when (ltb last_token t) NoSuchToken ∷ when (ltb (cell_of r t) n) TooSmall ∷ []) (unposted_row r)
    (posted_row (debited_row r t n) (cell_of r t - n))
