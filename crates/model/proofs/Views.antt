-- What is seen of a fresh house, of a state that calls can leave, and of a call's fields.
use Prim.Native.Nat.{ℕ, zero, suc, ◌<◌}
use mathlib.Core.Path.{◌≡◌, refl, sym, ap, ◌∙◌}
use mathlib.Core.List.{List}
use native.Mathlib.Omega.{arith}
use lib.ListN.{length, get_or, replicate, get_or-replicate}
use lib.Seq.{ext_get_or}
use Rattle.units.specs.declared.Amount.{Amount}
use Rattle.units.specs.Counts.{amount, block}
use Rattle.ledger.proofs.Laws.{fresh_all_zero, same_balances}
use Rattle.model.specs.declared.state.Ticket.{Ticket}
use Rattle.model.specs.declared.state.Market.{Market}
use Rattle.model.specs.declared.state.Exchange.{Exchange}
use Rattle.model.specs.declared.call.Call.TheVariants as Call
use Rattle.model.specs.Answering.{ViewsTell}
use Rattle.model.specs.Bounds.{Bounded}
use Rattle.model.specs.Refusals.{FieldsInOrder}
use Rattle.model.specs.State.{closed_market, free_ticket, fresh_exchange, phase}
use Rattle.model.specs.View.{FreshViewed, View, view}
use Rattle.model.proofs.ReachBounds.{reachable_bounded}

-- ---- a fresh house

-- in the supply and in the residue
fresh_amount : (t : ℕ) → t < 4 → (get_or (replicate 4 (amount 0)) t (amount 0)).0 ≡ 0
fresh_amount t h = ap (λ (a : Amount). a.0) (get_or-replicate 4 t (amount 0) (amount 0) h)

fresh_phase : (n : ℕ) → 0 < n → n < 4 → phase fresh_exchange n ≡ closed_market.phase
fresh_phase zero p q = absurd (omega arith)
fresh_phase (suc j) p q = ap (λ (m : Market). m.phase) (get_or-replicate 3 j closed_market closed_market (omega arith))

pub fresh_viewed : FreshViewed
fresh_viewed =
    record {
      balances = λ m t hm ht. fresh_all_zero.balances m t (omega arith) (omega arith);
      supplies = λ t h. fresh_amount t (omega arith);
      residues = λ t h. fresh_amount t (omega arith);
      tickets = λ k h. ap (λ (t : Ticket). t.state) (get_or-replicate 64 k free_ticket free_ticket (omega arith));
      phases = λ n p q. fresh_phase n (omega arith) (omega arith);
      block = refl;
    }

-- ---- the state that a view tells

-- four amounts by their numbers
same_amounts : (l k : List Amount) → length l ≡ 4 → length k ≡ 4 → ((t : ℕ) → (get_or l t (amount 0)).0 ≡ (get_or k t (amount 0)).0) → l ≡ k
same_amounts l k zl zk h = ext_get_or (amount 0) l k (zl ∙ sym zk) (λ t b. ap amount (h t))

module _ (x y : Exchange) (hx : Bounded x) (hy : Bounded y) (e : view x ≡ view y) where
  ledgers : x.ledger ≡ y.ledger
  ledgers = same_balances x.ledger y.ledger hx.rows hy.rows (λ m t hm ht. ap (λ (v : View). v.balance m t) e)

  supplies : x.supply ≡ y.supply
  supplies = same_amounts x.supply y.supply hx.supplies hy.supplies (λ t. ap (λ (v : View). v.supply t) e)

  residues : x.residue ≡ y.residue
  residues = same_amounts x.residue y.residue hx.residues hy.residues (λ t. ap (λ (v : View). v.residue t) e)

  tickets : x.tickets ≡ y.tickets
  tickets =
      ext_get_or free_ticket x.tickets y.tickets (hx.tickets ∙ sym hy.tickets)
      (λ k b. ap (λ (v : View). record { state = v.ticket k }) e)

  -- market n stands at place n - 1
  markets : x.markets ≡ y.markets
  markets =
      ext_get_or closed_market x.markets y.markets (hx.markets ∙ sym hy.markets)
      (λ j b. ap (λ (v : View). record { phase = v.phase (suc j) }) e)

  told : x ≡ y
  told = λ i. record { ledger = ledgers i; supply = supplies i; residue = residues i; tickets = tickets i; markets = markets i; last = block (e i).last }

pub views_tell : ViewsTell
views_tell x y lx ly e = told x y (reachable_bounded x lx) (reachable_bounded y ly) e

-- ---- a call's fields

pub fields_in_order : FieldsInOrder
fields_in_order (Call.Deposit m t n) = refl
fields_in_order (Call.Withdraw m t n) = refl
fields_in_order (Call.Order k m mk s l n) = refl
fields_in_order (Call.Cancel k m) = refl
fields_in_order (Call.Open mk b r w len) = refl
fields_in_order (Call.Enter k) = refl
fields_in_order (Call.Match mk b) = refl
fields_in_order (Call.Bid mk m b s n bd) = refl
fields_in_order (Call.Settle mk b) = refl
fields_in_order (Call.Claim k) = refl
fields_in_order (Call.Leave k m) = refl
