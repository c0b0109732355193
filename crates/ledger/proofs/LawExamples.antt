-- The laws in the numbers of specs/LawExamples.antt: used and refused.
use Prim.Native.Nat.{ℕ}
use mathlib.Core.Path.{◌≡◌, refl, sym, ◌∙◌}
use mathlib.Core.List.{[], ◌∷◌}
use native.Mathlib.Omega.{arith}
use Rattle.units.specs.Sums.{sum_to, only}
use Rattle.ledger.specs.Balances.{cell_of, row_of, with_row, balance_in, total_in, fresh_ledger, Shaped}
use Rattle.ledger.specs.LawExamples.{row, last_row, LawsUsed, LawsRefused}
use Rattle.ledger.proofs.Laws.{fresh_all_zero, rows_put}

pub laws_used : LawsUsed
unfolding only
laws_used =
    record {
      fresh_last = λ l f. (f.balances 15 3 (omega arith) (omega arith), f.totals 3 (omega arith));
      all_zero = λ w l k z y h i. w l k z y (λ m t hm ht. h m t hm ht ∙ sym (i m t hm ht));
      zero_rows = λ w r q z y h i. w r q z y (λ t ht. h t ht ∙ sym (i t ht));
      credits_last = λ l k c z. (c.own z (omega arith) (omega arith) 3, c.total z (omega arith) (omega arith) 3);
      credits_no_other = λ l k c z. (
        omega (arith, c.own z (omega arith) (omega arith) 2),
        c.others 14 3 (λ e. omega (arith, e)),
        omega (arith, c.total z (omega arith) (omega arith) 2),
      );
      debits_all = λ l k d z. (
        omega (arith, d.own z (omega arith) (omega arith) (omega arith) 3),
        d.total z (omega arith) (omega arith) (omega arith) 3,
      );
      debits_no_other = λ l k d z. (
        omega (arith, d.own z (omega arith) (omega arith) (omega arith) 2),
        d.others 14 3 (λ e. omega (arith, e)),
        omega (arith, d.total z (omega arith) (omega arith) (omega arith) 2),
      );
      credits = λ w l. w l 15 3 7;
      debits = λ w l. w l 15 3 7;
      within_last = λ w l. w l 15 3 (omega arith);
      takes_last = λ l r t z. (t.shaped z (omega arith), t.cells 3);
      row_credits_last = λ r q c z. (c.cells z (omega arith) 3, omega (arith, c.cells z (omega arith) 2));
      row_debits_all = λ r q d z. (
        omega (arith, d.cells z (omega arith) (omega arith) 3),
        omega (arith, d.cells z (omega arith) (omega arith) 2),
      );
      puts_last = λ l k r p z. (p.own z (omega arith) 3, p.others 14 3 (λ e. omega (arith, e)), p.total z (omega arith) 3);
      reads_last = λ w l. (w l 15).read.cells 3;
      stores_last = λ w l r z. (((w l 15).stored r).own z (omega arith) 3, ((w l 15).stored r).total z (omega arith) 3);
      no_member = λ b c d l. ((b l 16 4).no_member (omega arith), (c l 16 4 7).no_member (omega arith), (d l 16 4 7).no_member (omega arith));
      no_token = λ b c d l. (
        (b l 15 4).no_token (omega arith) (omega arith),
        (c l 15 4 7).no_token (omega arith) (omega arith),
        (d l 15 4 7).no_token (omega arith) (omega arith),
      );
      row_no_token = λ c d r. ((c r 4 7).no_token (omega arith), (d r 4 7).no_token (omega arith));
      full = λ c l e. (
        (c l 15 3 4294967291).full (omega arith) (omega arith) (omega (arith, e)),
        (c l 15 3 4294967290).done (omega arith) (omega arith) (omega (arith, e)),
      );
      row_full = λ c r e. ((c r 3 4294967291).full (omega arith) (omega (arith, e)), (c r 3 4294967290).done (omega arith) (omega (arith, e)));
      short = λ d l e. (
        (d l 15 3 6).short (omega arith) (omega arith) (omega (arith, e)),
        (d l 15 3 5).done (omega arith) (omega arith) (omega (arith, e)),
      );
      row_short = λ d r e. ((d r 3 6).short (omega arith) (omega (arith, e)), (d r 3 5).done (omega arith) (omega (arith, e)));
      tells_last = λ b l. (b l 15 3).done (omega arith) (omega arith);
    }

-- sixteen rows of four, whatever four stand in the last
last_shaped : (a b c d : ℕ) → Shaped (last_row (a ∷ b ∷ c ∷ d ∷ []))
last_shaped a b c d = (rows_put fresh_ledger 15 (row (a ∷ b ∷ c ∷ d ∷ []))).shaped fresh_all_zero.shaped refl

pub laws_refused : LawsRefused
unfolding cell_of row_of with_row balance_in total_in fresh_ledger sum_to only
laws_refused =
    record {
      few_rows = λ z. let h : ◌≡◌ {A = ℕ} 15 16 = z.rows in omega (arith, h);
      few_cells = λ z. let h : ◌≡◌ {A = ℕ} 3 4 = z.cells 15 (omega arith) in omega (arith, h);
      not_zero = λ f. let h : ◌≡◌ {A = ℕ} 1 0 = f.balances 15 3 (omega arith) (omega arith) in omega (arith, h);
      credits_less = λ c. let h : ◌≡◌ {A = ℕ} 6 7 = c.own fresh_all_zero.shaped (omega arith) (omega arith) 3 in omega (arith, h);
      credits_more = λ c. let h : ◌≡◌ {A = ℕ} 8 7 = c.total fresh_all_zero.shaped (omega arith) (omega arith) 3 in omega (arith, h);
      credits_token = λ c. let h : ◌≡◌ {A = ℕ} 1 0 = c.own fresh_all_zero.shaped (omega arith) (omega arith) 2 in omega (arith, h);
      credits_member = λ c. let h : ◌≡◌ {A = ℕ} 1 0 = c.others 14 3 (λ e. omega (arith, e)) in omega (arith, h);
      credits_shape = λ c. let h : ◌≡◌ {A = ℕ} 0 16 = (c.shaped fresh_all_zero.shaped).rows in omega (arith, h);
      debits_less = λ d. let h : ◌≡◌ {A = ℕ} 10 9 = d.own (last_shaped 0 0 0 9) (omega arith) (omega arith) (omega arith) 3 in omega (arith, h);
      debits_more = λ d. let h : ◌≡◌ {A = ℕ} 8 9 = d.total (last_shaped 0 0 0 9) (omega arith) (omega arith) (omega arith) 3 in omega (arith, h);
      debits_token = λ d. let h : ◌≡◌ {A = ℕ} 0 1 = d.own (last_shaped 0 0 1 9) (omega arith) (omega arith) (omega arith) 2 in omega (arith, h);
      debits_member = λ d. let h : ◌≡◌ {A = ℕ} 1 0 = d.others 14 3 (λ e. omega (arith, e)) in omega (arith, h);
      takes_other = λ t. let h : ◌≡◌ {A = ℕ} 8 9 = t.cells 3 in omega (arith, h);
      row_credits_more = λ c. let h : ◌≡◌ {A = ℕ} 12 11 = c.cells refl (omega arith) 3 in omega (arith, h);
      row_credits_token = λ c. let h : ◌≡◌ {A = ℕ} 4 3 = c.cells refl (omega arith) 2 in omega (arith, h);
      row_debits_more = λ d. let h : ◌≡◌ {A = ℕ} 8 9 = d.cells refl (omega arith) (omega arith) 3 in omega (arith, h);
      row_debits_token = λ d. let h : ◌≡◌ {A = ℕ} 2 3 = d.cells refl (omega arith) (omega arith) 2 in omega (arith, h);
      row_credits_shape = λ c. let h : ◌≡◌ {A = ℕ} 0 4 = c.shaped refl in omega (arith, h);
      puts_other = λ p. let h : ◌≡◌ {A = ℕ} 8 9 = p.own fresh_all_zero.shaped (omega arith) 3 in omega (arith, h);
      puts_member = λ p. let h : ◌≡◌ {A = ℕ} 1 0 = p.others 14 3 (λ e. omega (arith, e)) in omega (arith, h);
    }
