-- "one row taken out, changed and put back": from what the ledger's laws say of balances and rows, a credit, a debit, and a debit with a credit
-- of one member are that member's row taken out, changed and put back; and a row read and stored where it lies is the row taken out and put in.
use Prim.Native.Nat.{ℕ, ◌≤◌, ◌<◌}
use mathlib.Core.Path.{◌≡◌, sym, subst, ◌∙◌}
use native.Mathlib.Omega.{arith}
use native.Mathlib.Decide.{ℕ_discrete}
use lib.ListN.{get_or, set}
use Rattle.ledger.specs.declared.Row.{Row}
use Rattle.ledger.specs.declared.Ledger.{Ledger}
use Rattle.ledger.specs.Balances.{no_row, credited_row, debited_row, row_of, with_row, balance_in, cell_of, credited, debited, RowShaped, Shaped}
use Rattle.ledger.proofs.Laws.{same_balances, same_rows, credits, debits, rows_taken, row_credits, row_debits, rows_put, rows_in_place}

-- a ledger that differs from l in the balances of one member alone is l with that member's row put in
by_row : (l k : Ledger) (m : ℕ) (r : Row) → Shaped l → Shaped k → m < 16 → RowShaped r → ((u : ℕ) → balance_in k m u ≡ cell_of r u)
    → ((j u : ℕ) → (j ≡ m → ⊥) → balance_in k j u ≡ balance_in l j u) → k ≡ with_row l m r
by_row l k m r zl zk hm zr own others =
    same_balances k (with_row l m r) zk ((rows_put l m r).shaped zl zr) (λ j u hj hu. go j u (ℕ_discrete j m))
  where
    go : (j u : ℕ) → Dec (j ≡ m) → balance_in k j u ≡ balance_in (with_row l m r) j u
    go j u (yes e) = subst (λ (i : ℕ). balance_in k i u ≡ balance_in (with_row l m r) i u) (sym e) (own u ∙ sym ((rows_put l m r).own zl hm u))
    go j u (no d) = others j u d ∙ sym ((rows_put l m r).others j u d)

module _ (l : Ledger) (m : ℕ) (z : Shaped l) (hm : m < 16) where
  abbrev row : Row
  row = row_of l m

  shaped : RowShaped row
  shaped = (rows_taken l m).shaped z hm

  pub credited_by_row : (t n : ℕ) → t < 4 → credited l m t n ≡ with_row l m (credited_row (row_of l m) t n)
  credited_by_row t n ht =
      by_row l (credited l m t n) m (credited_row row t n) z ((credits l m t n).shaped z) hm ((row_credits row t n).shaped shaped)
      (λ u. omega (arith, (credits l m t n).own z hm ht u, (row_credits row t n).cells shaped ht u, (rows_taken l m).cells u))
      (credits l m t n).others

  pub debited_by_row : (t n : ℕ) → t < 4 → n ≤ cell_of (row_of l m) t → debited l m t n ≡ with_row l m (debited_row (row_of l m) t n)
  debited_by_row t n ht le =
      let has : n ≤ balance_in l m t = omega (arith, le, (rows_taken l m).cells t) in
      by_row l (debited l m t n) m (debited_row row t n) z ((debits l m t n).shaped z) hm ((row_debits row t n).shaped shaped)
      (λ u. omega (arith, (debits l m t n).own z hm ht has u, (row_debits row t n).cells shaped ht le u, (rows_taken l m).cells u))
      (debits l m t n).others

  -- n of token t for a units of token u: two changes of one row
  pub traded_by_row : (t u n a : ℕ) → t < 4 → u < 4 → n ≤ cell_of (row_of l m) t
      → credited (debited l m t n) m u a ≡ with_row l m (credited_row (debited_row (row_of l m) t n) u a)
  traded_by_row t u n a ht hu le =
      let has : n ≤ balance_in l m t = omega (arith, le, (rows_taken l m).cells t) in
      let k : Ledger = debited l m t n in
      let q : Row = debited_row row t n in
      let zk : Shaped k = (debits l m t n).shaped z in
      let zq : RowShaped q = (row_debits row t n).shaped shaped in
      by_row l (credited k m u a) m (credited_row q u a) z ((credits k m u a).shaped zk) hm ((row_credits q u a).shaped zq)
      (λ v.
      omega (
        arith,
        (credits k m u a).own zk hm hu v,
        (debits l m t n).own z hm ht has v,
        (row_credits q u a).cells zq hu v,
        (row_debits row t n).cells shaped ht le v,
        (rows_taken l m).cells v,
      ))
      (λ j v d. (credits k m u a).others j v d ∙ (debits l m t n).others j v d)

  -- where it lies
  pub row_read : get_or l.rows m no_row ≡ row_of l m
  row_read =
      let taken = (rows_in_place l m).read in
      same_rows (get_or l.rows m no_row) row (taken.shaped z hm) shaped (λ u hu. taken.cells u ∙ sym ((rows_taken l m).cells u))

  pub row_stored : (r : Row) → RowShaped r → ◌≡◌ {A = Ledger} (record { rows = set l.rows m r }) (with_row l m r)
  row_stored r zr =
      let put = (rows_in_place l m).stored r in
      by_row l (record { rows = set l.rows m r }) m r z (put.shaped z zr) hm zr (put.own z hm) put.others
