-- Order and cancel keep the invariant.
use Prim.Native.Nat.{◌<◌, ◌≤◌, ℕ}
use mathlib.Core.Bool.{false, not}
use mathlib.Core.Path.{◌∙◌, ◌≡◌, ap, refl, subst, sym}
use native.Mathlib.Omega.{arith}
use lib.Dec.{eqb}
use lib.ListN.{length}
use borrow.Author.Tests.{eqb-false, ltb-false, not-false}
use Rattle.units.specs.Ranges.{highest_limit}
use Rattle.model.specs.Bounds.{OrderBounds, TicketBounds}
use Rattle.model.specs.Calls.{cancel_done, cancel_tests, order_done, order_tests, outside}
use Rattle.model.specs.History.{History, PlacedOrder, no_order, offered_in, placed, terms_in, with_accepted, with_credit, with_event, with_order}
use Rattle.model.specs.Sides.{offered, side_of}
use Rattle.model.specs.State.{balance, credit, debit, is_free, order_in, ticket}
use Rattle.model.specs.WholeRun.{entered_in, placed_in, resting_in, terms_of}
use Rattle.model.specs.declared.state.Exchange.{Exchange}
use Rattle.model.specs.declared.state.Order.{Order}
use Rattle.model.specs.declared.state.TicketState.TheVariants.{Free, Resting}
use Rattle.units.specs.Counts.{amount, price}
use Rattle.units.specs.Sums.{only}
use Rattle.ledger.proofs.Laws.{credits, debits}
use Rattle.model.proofs.Frames.{bounds_set, inside, offered_lt, tickets_set}
use Rattle.model.proofs.Inv.{Inv, free_is, resting_is}
use Rattle.model.proofs.Reading.{Sized, account_credit, account_debit, resting_set, sized_credit, sized_debit, sized_ticket}
use Rattle.units.proofs.Decide.{Passed, or_false}
use Rattle.model.specs.declared.call.Call.TheVariants as Call

pub order_keeps : (h : Exchange) (y : History) (k m mk sd lim n : ℕ) → Inv h y → Passed (order_tests h k m mk sd lim n)
    → Inv (order_done h k m mk sd lim n).exchange (with_event y (Call.Order k m mk sd lim n) (order_done h k m mk sd lim n).answer)
unfolding with_event with_accepted
order_keeps h y k m mk sd lim n i p =
    let tok : ℕ = offered (side_of sd) mk in
    let hm : m ≤ 15 = ltb-false 15 m p.0 in
    let hmk : (1 ≤ mk) × (mk ≤ 3) = inside mk 1 3 p.1.0 in
    let hk : k ≤ 63 = ltb-false 63 k p.1.1.0 in
    let ea : (eqb n 0 ≡ false) × (outside lim 1 highest_limit ≡ false) = or_false (eqb n 0) (outside lim 1 highest_limit) p.1.1.1.1.0 in
    let hl : (1 ≤ lim) × (lim ≤ highest_limit) = inside lim 1 highest_limit ea.1 in
    let hn : n ≡ 0 → ⊥ = eqb-false n 0 ea.0 in
    let et : ticket h k ≡ Free = free_is (ticket h k) (not-false (is_free (ticket h k)) p.1.1.1.1.1.0) in
    let hb : n ≤ balance h m tok = ltb-false (balance h m tok) n p.1.1.1.1.1.1.0 in
    let o : Order = record { member = m; market = mk; side = side_of sd; limit = price lim; offer = amount n } in
    let h1 : Exchange = debit h m tok n in
    let z1 : Sized h1 = sized_debit h m tok n i.sized in
    let lk : k < 64 = omega arith in
    let er : (u : ℕ) → resting_in (ticket h k) u ≡ 0 = λ u. ap (λ t. resting_in t u) et in
    let ok : OrderBounds o = record { member = omega arith; market_low = omega arith; market_high = omega arith; limit = omega arith; offer = omega arith } in
    let kl : k < length h1.tickets = omega (arith, z1.tickets) in
    record {
      sized = sized_ticket h1 k (Resting o) z1;
      bounded = i.bounded;
      ticket_bounds = bounds_set h1 k (Resting o) kl ok i.ticket_bounds;
      markets = i.markets;
      books =
          record {
            conserved =
                λ u hu. omega (
                  arith,
                  (debits h.ledger m tok n).total i.sized.shaped (omega arith) (offered_lt (side_of sd) mk (omega arith)) hb u,
                  resting_set h1 k (Resting o) z1 lk u,
                  er u,
                  i.books.conserved u hu,
                );
            supplied = i.books.supplied;
            accounts = account_debit h.ledger y.credits y.debits i.sized.shaped m tok n (omega arith) (offered_lt (side_of sd) mk (omega arith)) i.books.accounts hb;
          };
      tickets = tickets_set h1 k (Resting o) kl i.tickets (placed (terms_of o) mk n) refl (λ a. sym (ap (λ t. entered_in t a) et));
      past = i.past;
    }

pub cancel_keeps : (h : Exchange) (y : History) (k m : ℕ) → Inv h y → Passed (cancel_tests h k m)
    → Inv (cancel_done h k).exchange (with_event y (Call.Cancel k m) (cancel_done h k).answer)
unfolding with_event with_accepted
cancel_keeps h y k m i p =
    let o : Order = order_in (ticket h k) in
    let tok : ℕ = offered o.side o.market in
    let hk : k ≤ 63 = ltb-false 63 k p.1.0 in
    let lk : k < 64 = omega arith in
    let et : ticket h k ≡ Resting o = resting_is (ticket h k) (or_false (is_free (ticket h k)) (not (eqb o.member m)) p.1.1.0).0 p.1.1.1.0 in
    let ok : OrderBounds o = subst TicketBounds et (i.ticket_bounds k lk) in
    let h1 : Exchange = credit h o.member tok o.offer.0 in
    let z1 : Sized h1 = sized_credit h o.member tok o.offer.0 i.sized in
    let er : (u : ℕ) → resting_in (ticket h k) u ≡ only tok o.offer.0 u = λ u. ap (λ t. resting_in t u) et in
    let ey : placed_in (Resting o) ≡ y.orders k = sym (ap placed_in et) ∙ i.tickets.tickets_are k lk in
    let kl : k < length h1.tickets = omega (arith, z1.tickets) in
    subst (λ (v : PlacedOrder). Inv (cancel_done h k).exchange (with_credit (with_order y k no_order) (terms_in v).member (offered_in v) o.offer.0)) ey
    (record {
      sized = sized_ticket h1 k Free z1;
      bounded = i.bounded;
      ticket_bounds = bounds_set h1 k Free kl tt i.ticket_bounds;
      markets = i.markets;
      books =
          record {
            conserved =
                λ u hu. omega (
                  arith,
                  (credits h.ledger o.member tok o.offer.0).total i.sized.shaped ok.member (offered_lt o.side o.market ok.market_high) u,
                  resting_set h1 k Free z1 lk u,
                  er u,
                  i.books.conserved u hu,
                );
            supplied = i.books.supplied;
            accounts = account_credit h.ledger y.credits y.debits i.sized.shaped o.member tok o.offer.0 ok.member (offered_lt o.side o.market ok.market_high) i.books.accounts;
          };
      tickets = tickets_set h1 k Free kl i.tickets no_order refl (λ a. sym (ap (λ t. entered_in t a) et));
      past = i.past;
    })
