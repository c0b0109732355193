-- How cells and rows are read and changed, and the calls on a ledger as calls on one row. For the ledger's own proofs: the crates above go by
-- Laws.antt.
use Prim.Native.Nat.{ℕ, ◌+◌, ◌-◌, ◌≤◌, ◌<◌}
use mathlib.Core.Path.{◌≡◌, refl, sym, ap, subst, ◌∙◌}
use mathlib.Core.Bool.{Bool, true, false, cond}
use mathlib.Core.List.{List, [], ◌∷◌}
use native.Mathlib.Omega.{arith}
use native.Mathlib.Decide.{ℕ_discrete}
use lib.ListN.{length, get_or, set, length-set}
use lib.Seq.{get_or-set_same, get_or-set_other, set-get_or, ext_get_or}
use lib.Dec.{ltb}
use borrow.Author.Tests.{le-ltb}
use Rattle.units.specs.declared.Amount.{Amount}
use Rattle.units.specs.Counts.{amount, largest}
use Rattle.units.specs.Decide.{Test, when, decide}
use Rattle.units.specs.Sums.{only}
use Rattle.units.proofs.Sums.{only_add, only_same, only_other}
use Rattle.ledger.specs.declared.Row.{Row}
use Rattle.ledger.specs.declared.Ledger.{Ledger}
use Rattle.ledger.specs.declared.Fault.{Fault}
use Rattle.ledger.specs.declared.Fault.TheVariants.{NoSuchToken, TooLarge, TooSmall}
use Rattle.ledger.specs.Balances.{
  no_row,
  cell_of,
  with_cell,
  credited_row,
  debited_row,
  row_of,
  with_row,
  balance_in,
  credited,
  debited,
  RowShaped,
  Shaped,
}
use Rattle.ledger.specs.Postings.{RowPosting, Posting, posted, unposted, posted_row, unposted_row, credit_of, debit_of, credit_row_of, debit_row_of}

-- ---- one row

cell_same : (r : Row) (t n : ℕ) → t < length r.cells → cell_of (with_cell r t n) t ≡ n
unfolding cell_of with_cell
cell_same r t n h = ap (λ (x : Amount). x.0) (get_or-set_same r.cells t (amount n) (amount 0) h)

cell_other : (r : Row) (t n u : ℕ) → (u ≡ t → ⊥) → cell_of (with_cell r t n) u ≡ cell_of r u
unfolding cell_of with_cell
cell_other r t n u d = ap (λ (x : Amount). x.0) (get_or-set_other r.cells t u (amount n) (amount 0) d)

-- a changed cell, at every token: new + old at t = old + new at t
cell_set : (r : Row) (t n : ℕ) → t < length r.cells → (u : ℕ) → cell_of (with_cell r t n) u + only t (cell_of r t) u ≡ cell_of r u + only t n u
cell_set r t n h u = go (ℕ_discrete u t)
  where
    go : Dec (u ≡ t) → cell_of (with_cell r t n) u + only t (cell_of r t) u ≡ cell_of r u + only t n u
    go (yes e) =
        subst (λ (i : ℕ). cell_of (with_cell r t n) i + only t (cell_of r t) i ≡ cell_of r i + only t n i) (sym e)
        (omega (arith, cell_same r t n h, only_same t (cell_of r t), only_same t n))
    go (no d) = omega (arith, cell_other r t n u d, only_other t (cell_of r t) u d, only_other t n u d)

pub credited_cell : (r : Row) (t n : ℕ) → RowShaped r → t < 4 → (u : ℕ) → cell_of (credited_row r t n) u ≡ cell_of r u + only t n u
unfolding credited_row
credited_cell r t n z h u = omega (arith, cell_set r t (cell_of r t + n) (omega arith) u, only_add t (cell_of r t) n u)

pub debited_cell : (r : Row) (t n : ℕ) → RowShaped r → t < 4 → n ≤ cell_of r t → (u : ℕ) → cell_of (debited_row r t n) u + only t n u ≡ cell_of r u
unfolding debited_row
debited_cell r t n z h le u =
    let e : cell_of r t - n + n ≡ cell_of r t = omega arith in
    omega (arith, cell_set r t (cell_of r t - n) (omega arith) u, only_add t (cell_of r t - n) n u, ap (λ x. only t x u) e)

pub credited_cells : (r : Row) (t n : ℕ) → length (credited_row r t n).cells ≡ length r.cells
unfolding credited_row with_cell
credited_cells r t n = length-set r.cells t (amount (cell_of r t + n))

pub debited_cells : (r : Row) (t n : ℕ) → length (debited_row r t n).cells ≡ length r.cells
unfolding debited_row with_cell
debited_cells r t n = length-set r.cells t (amount (cell_of r t - n))

-- a row is its cells
pub same_row : (r q : Row) → RowShaped r → RowShaped q → ((t : ℕ) → t < 4 → cell_of r t ≡ cell_of q t) → r ≡ q
unfolding cell_of
same_row r q zr zq h =
    ap (λ (x : List Amount). record { cells = x })
    (ext_get_or (amount 0) r.cells q.cells (zr ∙ sym zq) (λ t b. ap amount (h t (omega (arith, zr, b)))))

-- ---- rows

pub row_shaped : (l : Ledger) (m : ℕ) → Shaped l → m < 16 → RowShaped (row_of l m)
unfolding row_of
row_shaped l m z h = z.cells m h

pub balance_row : (l : Ledger) (m t : ℕ) → balance_in l m t ≡ cell_of (row_of l m) t
unfolding balance_in
balance_row l m t = refl

-- a ledger is its rows
pub same_ledger : (l k : Ledger) → Shaped l → Shaped k → ((m : ℕ) → m < 16 → row_of l m ≡ row_of k m) → l ≡ k
unfolding row_of
same_ledger l k zl zk h =
    ap (λ (x : List Row). record { rows = x })
    (ext_get_or no_row l.rows k.rows (zl.rows ∙ sym zk.rows) (λ m b. h m (omega (arith, zl.rows, b))))

pub row_same : (l : Ledger) (m : ℕ) (r : Row) → Shaped l → m < 16 → row_of (with_row l m r) m ≡ r
unfolding row_of with_row
row_same l m r z h = get_or-set_same l.rows m r no_row (omega (arith, z.rows))

pub row_other : (l : Ledger) (m : ℕ) (r : Row) (j : ℕ) → (j ≡ m → ⊥) → row_of (with_row l m r) j ≡ row_of l j
unfolding row_of with_row
row_other l m r j d = get_or-set_other l.rows m j r no_row d

pub put_back : (l : Ledger) (m : ℕ) → with_row l m (row_of l m) ≡ l
unfolding row_of with_row
put_back l m = ap (λ (x : List Row). record { rows = x }) (set-get_or l.rows m no_row)

pub with_row_shaped : (l : Ledger) (m : ℕ) (r : Row) → Shaped l → (m < 16 → RowShaped r) → Shaped (with_row l m r)
unfolding row_of with_row
with_row_shaped l m r z h = record {
  rows = length-set l.rows m r ∙ z.rows;
  cells = λ j hj. go j hj (ℕ_discrete j m);
}
  where
    go : (j : ℕ) → j < 16 → Dec (j ≡ m) → RowShaped (get_or (set l.rows m r) j no_row)
    go j hj (yes e) =
        let q : RowShaped (get_or (set l.rows m r) m no_row) = rw (get_or-set_same l.rows m r no_row (omega (arith, z.rows))) (h (omega arith)) in
        subst (λ (i : ℕ). RowShaped (get_or (set l.rows m r) i no_row)) (sym e) q
    go j hj (no d) = rw (get_or-set_other l.rows m j r no_row d) (z.cells j hj)

-- ---- calls by row

-- a call on a member's row, with the row put back
abbrev back_in : Ledger → ℕ → RowPosting → Posting
back_in l m p = record { entry = p.entry; ledger = with_row l m p.row }

back_decided : (l : Ledger) (m : ℕ) (ts : List (Test Fault)) (r : Row) (n : ℕ)
    → back_in l m (decide ts (unposted_row (row_of l m)) (posted_row r n)) ≡ decide ts (unposted l) (posted (with_row l m r) n)
back_decided l m [] r n = refl
back_decided l m (t ∷ ts) r n = go t.applies (back_decided l m ts r n)
  where
    go : (q : Bool) → back_in l m (decide ts (unposted_row (row_of l m)) (posted_row r n)) ≡ decide ts (unposted l) (posted (with_row l m r) n)
        → back_in l m (cond q (unposted_row (row_of l m) t.reason) (decide ts (unposted_row (row_of l m)) (posted_row r n)))
        ≡ cond q (unposted l t.reason) (decide ts (unposted l) (posted (with_row l m r) n))
    go true e = ap (λ (x : Ledger). unposted x t.reason) (put_back l m)
    go false e = e

-- "the first that holds": the member's number, then what the row says
pub credit_by_row : (l : Ledger) (m t n : ℕ) → m ≤ 15 → credit_of l m t n ≡ back_in l m (credit_row_of (row_of l m) t n)
unfolding credit_of credit_row_of balance_in credited
credit_by_row l m t n h = simp le-ltb (sym (back_decided l m (when (ltb 3 t) NoSuchToken ∷ when (ltb largest (cell_of (row_of l m) t + n)) TooLarge ∷ []) (credited_row (row_of l m) t n) (cell_of (row_of l m) t + n)))

pub debit_by_row : (l : Ledger) (m t n : ℕ) → m ≤ 15 → debit_of l m t n ≡ back_in l m (debit_row_of (row_of l m) t n)
unfolding debit_of debit_row_of balance_in debited
debit_by_row l m t n h = simp le-ltb (sym (back_decided l m (when (ltb 3 t) NoSuchToken ∷ when (ltb (cell_of (row_of l m) t) n) TooSmall ∷ []) (debited_row (row_of l m) t n) (cell_of (row_of l m) t - n)))
