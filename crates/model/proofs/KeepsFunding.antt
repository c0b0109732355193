-- Deposit and withdraw keep the invariant.
use Prim.Native.Nat.{◌+◌, ◌-◌, ◌≤◌, ℕ}
use mathlib.Core.Path.{◌≡◌, subst, sym}
use native.Mathlib.Decide.{ℕ_discrete}
use native.Mathlib.Omega.{arith}
use borrow.Author.Tests.{ltb-false}
use Rattle.model.specs.Calls.{deposit_done, deposit_tests, withdraw_done, withdraw_tests}
use Rattle.model.specs.History.{History, with_accepted}
use Rattle.model.specs.State.{balance, supply, with_supply}
use Rattle.model.specs.declared.state.Exchange.{Exchange}
use Rattle.units.specs.Counts.{largest}
use Rattle.units.specs.Sums.{only}
use Rattle.ledger.proofs.Laws.{balances_within, credits, debits}
use Rattle.model.proofs.Inv.{Inv, in_supply}
use Rattle.model.proofs.Reading.{account_credit, account_debit, put_only, sized_credit, sized_debit, sized_supply, supply_minus, supply_plus}
use Rattle.units.proofs.Decide.{Passed}
use Rattle.units.proofs.Sums.{only_other, only_same}
use Rattle.model.specs.declared.call.Call.TheVariants as Call

only_le : (f : ℕ → ℕ) (t n b u : ℕ) → f t + n ≤ b → f u ≤ b → f u + only t n u ≤ b
only_le f t n b u l m = go (ℕ_discrete u t)
  where
    go : Dec (u ≡ t) → f u + only t n u ≤ b
    go (yes e) = subst (λ (i : ℕ). f i + only t n i ≤ b) (sym e) (omega (arith, only_same t n))
    go (no d) = omega (arith, only_other t n u d)

pub deposit_keeps : (h : Exchange) (y : History) (m t n a b : ℕ) → Inv h y → Passed (deposit_tests h m t n)
    → Inv (deposit_done h m t n).exchange (with_accepted y (Call.Deposit m t n) a b)
unfolding with_accepted
deposit_keeps h y m t n a b i p =
    let hm : m ≤ 15 = ltb-false 15 m p.0 in
    let ht : t ≤ 3 = ltb-false 3 t p.1.0 in
    let hs : supply h t + n ≤ largest = ltb-false largest (supply h t + n) p.1.1.1.0 in
    let h1 : Exchange = with_supply h t (supply h t + n) in
    let zs : (u : ℕ) → supply h1 u ≡ supply h u + only t n u = λ u. supply_plus h t n u (omega (arith, i.sized.supplies)) in
    record {
      sized = sized_credit h1 m t n (sized_supply h t (supply h t + n) i.sized);
      bounded = λ u hu. omega (arith, zs u, only_le (supply h) t n largest u hs (i.bounded u hu));
      ticket_bounds = i.ticket_bounds;
      markets = i.markets;
      books =
          record {
            conserved = λ u hu. omega (arith, (credits h.ledger m t n).total i.sized.shaped (omega arith) (omega arith) u, put_only y.deposited t n u, i.books.conserved u hu);
            supplied = λ u hu. omega (arith, zs u, put_only y.deposited t n u, i.books.supplied u hu);
            accounts = account_credit h.ledger y.credits y.debits i.sized.shaped m t n (omega arith) (omega arith) i.books.accounts;
          };
      tickets = i.tickets;
      past = i.past;
    }

pub withdraw_keeps : (h : Exchange) (y : History) (m t n a b : ℕ) → Inv h y → Passed (withdraw_tests h m t n)
    → Inv (withdraw_done h m t n).exchange (with_accepted y (Call.Withdraw m t n) a b)
unfolding with_accepted
withdraw_keeps h y m t n a b i p =
    let hm : m ≤ 15 = ltb-false 15 m p.0 in
    let ht : t ≤ 3 = ltb-false 3 t p.1.0 in
    let hn : n ≤ balance h m t = ltb-false (balance h m t) n p.1.1.1.0 in
    let hs : n ≤ supply h t = omega (arith, balances_within h.ledger m t (omega arith), in_supply i t (omega arith)) in
    let h1 : Exchange = with_supply h t (supply h t - n) in
    let zs : (u : ℕ) → supply h1 u + only t n u ≡ supply h u = λ u. supply_minus h t n u (omega (arith, i.sized.supplies)) hs in
    record {
      sized = sized_debit h1 m t n (sized_supply h t (supply h t - n) i.sized);
      bounded = λ u hu. omega (arith, zs u, i.bounded u hu);
      ticket_bounds = i.ticket_bounds;
      markets = i.markets;
      books =
          record {
            conserved = λ u hu. omega (arith, (debits h.ledger m t n).total i.sized.shaped (omega arith) (omega arith) hn u, put_only y.withdrawn t n u, i.books.conserved u hu);
            supplied = λ u hu. omega (arith, zs u, put_only y.withdrawn t n u, i.books.supplied u hu);
            accounts = account_debit h.ledger y.credits y.debits i.sized.shaped m t n (omega arith) (omega arith) i.books.accounts hn;
          };
      tickets = i.tickets;
      past = i.past;
    }
