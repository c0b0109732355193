-- Each call is its form, then its work on the parts that it touches, with the parts put back.
use Rattle.std.specs.Prelude.{Ok, Err}
use Prim.Native.Nat.{ℕ, zero, suc, ◌+◌, ◌-◌, ◌≤◌, ◌<◌}
use mathlib.Core.Path.{◌≡◌, refl, sym, ap, ap₂, ◌∙◌}
use mathlib.Core.Bool.{Bool, true, false, cond, ◌||◌, not}
use mathlib.Core.List.{List, ◌++◌}
use native.Mathlib.Omega.{arith}
use lib.Dec.{eqb}
use lib.ListN.{get_or, set}
use lib.Seq.{set-get_or, get_or-set_other}
use borrow.Author.Tests.{eqb-true, ltb-false, not-false}
use Rattle.units.specs.Ranges.{highest_reference, highest_slack}
use Rattle.units.specs.declared.Amount.{Amount}
use Rattle.units.specs.Counts.{amount, block}
use Rattle.units.specs.Decide.{Test, decide}
use Rattle.units.proofs.Decide.{Passed, decide_split, decide_carried, passed_by, or_false}
use Rattle.ticket_set.specs.TicketSet.{count_of}
use Rattle.pricing.specs.declared.Side.{Side}
use Rattle.ledger.specs.declared.Row.{Row}
use Rattle.ledger.specs.declared.Ledger.{Ledger}
use Rattle.ledger.specs.Balances.{cell_of, credited_row, row_of, with_row, credited, Shaped}
use Rattle.ledger.proofs.Laws.{rows_taken, rows_put_back}
use Rattle.model.specs.declared.state.Order.{Order}
use Rattle.model.specs.declared.state.Ticket.{Ticket}
use Rattle.model.specs.declared.state.TicketState.{TicketState}
use Rattle.model.specs.declared.state.TicketState.TheVariants.{Free, Resting, Entered}
use Rattle.model.specs.declared.state.Round.{Round}
use Rattle.model.specs.declared.state.Phase.{Phase}
use Rattle.model.specs.declared.state.Phase.TheVariants.{Closed, Auction, Paying}
use Rattle.model.specs.declared.state.Market.{Market}
use Rattle.model.specs.declared.state.Exchange.{Exchange}
use Rattle.model.specs.declared.answer.Outcome.{Outcome}
use Rattle.model.specs.declared.answer.Refusal.{Refusal}
use Rattle.model.specs.declared.answer.Refusal.TheVariants.{NoSuchOrder, WrongTicketState}
use Rattle.parts.specs.After.{Form}
use Rattle.model.specs.Sides.{side_of, offered, wanted, gives, takes}
use Rattle.model.specs.State.{supply, last_block, ticket, free_ticket, order_in, is_free, resting_or, phase, closed_market, round_in, market_at, set_market, set_ledger, set_supply, set_residue, set_tickets, set_markets, set_last, with_ticket, with_phase, credit, to_residue}
use Rattle.model.specs.Calls.{bank_form, order_form, cancel_form, open_form, ticket_form, market_form, bid_form, deposit_rest, withdraw_rest, order_rest, cancel_rest, open_rest, enter_rest, match_rest, bid_rest, settle_rest, claim_rest, leave_rest, accept, refuse, above, outside, bid_quote, bid_round, deposit_of, deposit_done, withdraw_of, order_of, order_done, cancel_of, cancel_done, open_of, open_done, enter_of, enter_with, enter_done, match_of, match_done, bid_of, bid_done, settle_of, settle_done, claimed_round, paying_or_closed, claim_of, claim_with, claim_done, leave_of, leave_with, leave_done, share_in, got_in, order_from}
use Rattle.model.specs.Bounds.{Bounded, OrderBounds, TicketBounds}
use Rattle.parts.specs.Parts.{form_of, by_form, ticket_market, ticket_member, supply_at, residue_at, ticket_at, refused_banked, deposited_on, deposit_on, withdrawn_on, withdraw_on, put_banked, refused_placed, ordered_on, order_on, cancelled_on, cancel_on, put_placed, refused_moved, opened_on, open_on, matched_on, match_on, settled_on, settle_on, put_moved, refused_joined, entered_on, enter_on, left_on, leave_on, put_joined, refused_traded, traded_on, bid_on, put_traded, refused_claimed, paid_on, claim_on, put_claimed}
use Rattle.model.proofs.Frames.{inside, offered_lt, wanted_lt}
use Rattle.parts.proofs.OneRow.{credited_by_row, debited_by_row, traded_by_row}

-- ---- forms

-- a call that looks at its form first
on_form : (x : Exchange) (ts us : List (Test Refusal)) (out mid : Outcome) → (Passed ts → decide us (refuse x) out ≡ mid)
    → decide (ts ++ us) (refuse x) out ≡ by_form (form_of ts) (refuse x) mid
unfolding form_of
on_form x ts us out mid h =
    decide_split (refuse x) out mid ts us h
    ∙ sym (decide_carried (λ (f : Form). by_form f (refuse x) mid) Err (Ok tt) (refuse x) mid ts (λ r. refl) (λ p. refl))

-- a good form passed every test
pub form_good : (ts : List (Test Refusal)) → form_of ts ≡ (Ok tt) → Passed ts
unfolding form_of
form_good ts e = passed_by (λ (f : Form). f ≡ (Ok tt)) Err (Ok tt) (λ r q. absurd (let z : ◌≡◌ {A = ℕ} 0 1 = cc in omega arith)) ts e

-- the places that a good form names
bank_in : (m t n : ℕ) → Passed (bank_form m t n) → (m < 16) × (t < 4)
bank_in m t n p = (omega (arith, ltb-false 15 m p.0), omega (arith, ltb-false 3 t p.1.0))

pub bank_places : (m t n : ℕ) → form_of (bank_form m t n) ≡ (Ok tt) → (m < 16) × (t < 4)
bank_places m t n e = bank_in m t n (form_good (bank_form m t n) e)

order_in_lem : (k m n side limit a : ℕ) → Passed (order_form k m n side limit a) → (k < 64) × (m < 16) × (n < 4)
order_in_lem k m n side limit a p =
    (omega (arith, ltb-false 63 k p.1.1.0), omega (arith, ltb-false 15 m p.0), omega (arith, (inside n 1 3 p.1.0).1))

pub order_places : (k m n side limit a : ℕ) → form_of (order_form k m n side limit a) ≡ (Ok tt) → (k < 64) × (m < 16) × (n < 4)
order_places k m n side limit a e = order_in_lem k m n side limit a (form_good (order_form k m n side limit a) e)

cancel_in : (k m : ℕ) → Passed (cancel_form k m) → (k < 64) × (m < 16)
cancel_in k m p = (omega (arith, ltb-false 63 k p.1.0), omega (arith, ltb-false 15 m p.0))

pub cancel_places : (k m : ℕ) → form_of (cancel_form k m) ≡ (Ok tt) → (k < 64) × (m < 16)
cancel_places k m e = cancel_in k m (form_good (cancel_form k m) e)

pub open_places : (n r w len : ℕ) → form_of (open_form n r w len) ≡ (Ok tt) → (0 < n) × (n < 4) × (r ≤ highest_reference) × (w ≤ highest_slack)
open_places n r w len e =
    let p = form_good (open_form n r w len) e in
    let q = or_false (outside r 1 highest_reference) (above w highest_slack || outside len 1 64) p.1.0 in
    let i = inside n 1 3 p.0 in
    (omega (arith, i.0), omega (arith, i.1), (inside r 1 highest_reference q.0).1, ltb-false highest_slack w (or_false (above w highest_slack) (outside len 1 64) q.1).0)

pub ticket_place : (k : ℕ) → form_of (ticket_form k) ≡ (Ok tt) → k < 64
ticket_place k e = omega (arith, ltb-false 63 k (form_good (ticket_form k) e).0)

pub market_in : (n : ℕ) → form_of (market_form n) ≡ (Ok tt) → (0 < n) × (n < 4)
market_in n e =
    let i = inside n 1 3 (form_good (market_form n) e).0 in
    (omega (arith, i.0), omega (arith, i.1))

bid_in : (n m side a : ℕ) → Passed (bid_form n m side a) → (0 < n) × (n < 4) × (m < 16)
bid_in n m side a p =
    let i = inside n 1 3 p.1.0 in
    (omega (arith, i.0), omega (arith, i.1), omega (arith, ltb-false 15 m p.0))

pub bid_places : (n m side a : ℕ) → form_of (bid_form n m side a) ≡ (Ok tt) → (0 < n) × (n < 4) × (m < 16)
bid_places n m side a e = bid_in n m side a (form_good (bid_form n m side a) e)

-- ---- parts put back as they were

pred : (i : ℕ) → suc i - 1 ≡ i
pred i = omega arith

-- market n stands at place n - 1
pub market_place : (ms : List Market) (n : ℕ) → 0 < n → get_or ms (n - 1) closed_market ≡ market_at ms n
market_place ms zero h = absurd (omega arith)
market_place ms (suc i) h = ap (λ (j : ℕ). get_or ms j closed_market) (pred i)

pub set_market_place : (ms : List Market) (n : ℕ) (m : Market) → 0 < n → set ms (n - 1) m ≡ set_market ms n m
set_market_place ms zero m h = absurd (omega arith)
set_market_place ms (suc i) m h = ap (λ (j : ℕ). set ms j m) (pred i)

market_back : (ms : List Market) (n : ℕ) → set_market ms n (market_at ms n) ≡ ms
market_back ms zero = refl
market_back ms (suc i) = set-get_or ms i closed_market

back : (x : Exchange) (l : Ledger) (supply residue : List Amount) (tickets : List Ticket) (markets : List Market) (w : Refusal)
    → l ≡ x.ledger → supply ≡ x.supply → residue ≡ x.residue → tickets ≡ x.tickets → markets ≡ x.markets
    → ◌≡◌ {A = Outcome} (record { answer = Err w; exchange = set_markets (set_tickets (set_residue (set_supply (set_ledger x l) supply) residue) tickets) markets }) (refuse x w)
back x l s r t m w el es er et em = rw (el, es, er, et, em)

-- ---- 1, 2

module _ (x : Exchange) (z : Shaped x.ledger) (m t : ℕ) where
  bank_back : (w : Refusal) → put_banked x m t (refused_banked (row_of x.ledger m) (supply_at x t) w) ≡ refuse x w
  bank_back w = back x _ _ x.residue x.tickets x.markets w (rows_put_back x.ledger m) (set-get_or x.supply t (amount 0)) refl refl refl

  pub deposit_on_lem : (n : ℕ) → deposit_of x m t n ≡ by_form (form_of (bank_form m t n)) (refuse x) (put_banked x m t (deposit_on (row_of x.ledger m) (supply_at x t) t n))
  unfolding deposit_of deposit_on
  deposit_on_lem n =
      let row : Row = row_of x.ledger m in
      let us : List (Test Refusal) = deposit_rest (supply x t) n in
      on_form x (bank_form m t n) us (deposit_done x m t n) _ (λ f.
      sym (decide_carried (put_banked x m t) (refused_banked row (supply_at x t)) (deposited_on row (supply_at x t) t n) (refuse x) (deposit_done x m t n) us bank_back
      (λ p. rw (sym ((rows_taken x.ledger m).cells t), credited_by_row x.ledger m z (bank_in m t n f).0 t n (bank_in m t n f).1))))

  pub withdraw_on_lem : (n : ℕ) → withdraw_of x m t n ≡ by_form (form_of (bank_form m t n)) (refuse x) (put_banked x m t (withdraw_on (row_of x.ledger m) (supply_at x t) t n))
  unfolding withdraw_of withdraw_on
  withdraw_on_lem n =
      let row : Row = row_of x.ledger m in
      let us : List (Test Refusal) = withdraw_rest (cell_of row t) n in
      rw (sym ((rows_taken x.ledger m).cells t))
      (on_form x (bank_form m t n) us _ _ (λ f.
      sym (decide_carried (put_banked x m t) (refused_banked row (supply_at x t)) (withdrawn_on row (supply_at x t) t n) (refuse x) _ us bank_back
      (λ p. rw (debited_by_row x.ledger m z (bank_in m t n f).0 t n (bank_in m t n f).1 (ltb-false (cell_of row t) n p.0))))))

-- ---- 3, 4

order_market : (s : TicketState) → TicketBounds s → (order_in s).market < 4
order_market Free b = omega arith
order_market (Resting o) b = b.market_high
order_market (Entered o) b = b.market_high

module _ (x : Exchange) (b : Bounded x) (m k : ℕ) where
  place_back : (w : Refusal) → put_placed x m k (refused_placed (row_of x.ledger m) (ticket_at x k) w) ≡ refuse x w
  place_back w = back x _ x.supply x.residue _ x.markets w (rows_put_back x.ledger m) refl refl (set-get_or x.tickets k free_ticket) refl

  pub order_on_lem : (market side limit n : ℕ)
      → order_of x k m market side limit n
      ≡ by_form (form_of (order_form k m market side limit n)) (refuse x) (put_placed x m k (order_on (row_of x.ledger m) (ticket_at x k) (order_from m market side limit n)))
  unfolding order_of order_on
  order_on_lem market side limit n =
      let row : Row = row_of x.ledger m in
      let token : ℕ = offered (side_of side) market in
      let us : List (Test Refusal) = order_rest (ticket x k) (cell_of row token) n in
      rw (sym ((rows_taken x.ledger m).cells token))
      (on_form x (order_form k m market side limit n) us (order_done x k m market side limit n) _ (λ f.
      sym (decide_carried (put_placed x m k) (refused_placed row (ticket_at x k)) (ordered_on row (order_from m market side limit n)) (refuse x) (order_done x k m market side limit n) us place_back
      (λ p.
      let i = order_in_lem k m market side limit n f in
      rw (debited_by_row x.ledger m b.rows i.1 token n (offered_lt (side_of side) market i.2) (ltb-false _ _ p.1.0))))))

  pub cancel_on_lem : cancel_of x k m ≡ by_form (form_of (cancel_form k m)) (refuse x) (put_placed x m k (cancel_on (row_of x.ledger m) (ticket_at x k) m))
  unfolding cancel_of cancel_on
  cancel_on_lem =
      let row : Row = row_of x.ledger m in
      let o : Order = order_in (ticket x k) in
      let us : List (Test Refusal) = cancel_rest (ticket x k) m in
      on_form x (cancel_form k m) us (cancel_done x k) _ (λ f.
      sym (decide_carried (put_placed x m k) (refused_placed row (ticket_at x k)) (cancelled_on row o) (refuse x) (cancel_done x k) us place_back (λ p.
      let own : o.member ≡ m = eqb-true o.member m (not-false _ (or_false (is_free (ticket x k)) (not (eqb o.member m)) p.0).1) in
      let i = cancel_in k m f in
      let t : ℕ = offered o.side o.market in
      let ht : t < 4 = offered_lt o.side o.market (order_market (ticket x k) (b.ticket_bounds k i.0)) in
      sym (ap (λ (l : Ledger). put_ledger x k l o.offer.0) (ap (λ (j : ℕ). credited x.ledger j t o.offer.0) own ∙ credited_by_row x.ledger m b.rows i.1 t o.offer.0 ht)))))
    where
      put_ledger : Exchange → ℕ → Ledger → ℕ → Outcome
      put_ledger x k l n =
          record {
            answer = Ok (n, 0);
            exchange = set_tickets (set_ledger x l) (set x.tickets k free_ticket);
          }

-- ---- 5, 7, 9

module _ (x : Exchange) (n at : ℕ) where
  move_back : (w : Refusal) → put_moved x n (refused_moved (market_at x.markets n) x.last w) ≡ refuse x w
  move_back w = back x x.ledger x.supply x.residue x.tickets _ w refl refl refl refl (market_back x.markets n)

  pub open_on_lem : (r w len : ℕ)
      → open_of x n at r w len ≡ by_form (form_of (open_form n r w len)) (refuse x) (put_moved x n (open_on (market_at x.markets n) x.last at r w len))
  unfolding open_of open_on
  open_on_lem r w len =
      let us : List (Test Refusal) = open_rest (phase x n) (last_block x) at in
      on_form x (open_form n r w len) us (open_done x n at r w len) _ (λ f.
      sym (decide_carried (put_moved x n) (refused_moved (market_at x.markets n) x.last) (opened_on at r w len) (refuse x) (open_done x n at r w len) us move_back (λ p. refl)))

  pub match_on_lem : match_of x n at ≡ by_form (form_of (market_form n)) (refuse x) (put_moved x n (match_on (market_at x.markets n) x.last at))
  unfolding match_of match_on
  match_on_lem =
      let r : Round = round_in (phase x n) in
      let us : List (Test Refusal) = match_rest (phase x n) (last_block x) at in
      on_form x (market_form n) us (match_done x n at) _ (λ f.
      sym (decide_carried (put_moved x n) (refused_moved (market_at x.markets n) x.last) (matched_on r at) (refuse x) (match_done x n at) us move_back (λ p. refl)))

  pub settle_on_lem : settle_of x n at ≡ by_form (form_of (market_form n)) (refuse x) (put_moved x n (settle_on (market_at x.markets n) x.last at))
  unfolding settle_of settle_on
  settle_on_lem =
      let r : Round = round_in (phase x n) in
      let us : List (Test Refusal) = settle_rest (phase x n) (last_block x) at in
      on_form x (market_form n) us (settle_done x n at) _ (λ f.
      sym (decide_carried (put_moved x n) (refused_moved (market_at x.markets n) x.last) (settled_on r at) (refuse x) (settle_done x n at) us move_back (λ p. refl)))

-- ---- 6, 11

module _ (x : Exchange) (k : ℕ) (s : TicketState) (e : ticket_at x k ≡ record { state = s }) where
  join_back : (n : ℕ) (w : Refusal) → put_joined x k n (refused_joined (record { state = s }) (market_at x.markets n) w) ≡ refuse x w
  join_back n w =
      ap (λ (t : Ticket). put_joined x k n (refused_joined t (market_at x.markets n) w)) (sym e)
      ∙ back x x.ledger x.supply x.residue _ _ w refl refl refl (set-get_or x.tickets k free_ticket) (market_back x.markets n)

enter_ticket : (x : Exchange) (k : ℕ) (s : TicketState) → ticket_at x k ≡ record { state = s }
    → decide (enter_rest s (phase x (order_in s).market)) (refuse x) (enter_with x k (order_in s) (round_in (phase x (order_in s).market)))
    ≡ put_joined x k (ticket_market s) (enter_on (record { state = s }) (market_at x.markets (ticket_market s)) k)
unfolding enter_on
enter_ticket x k Free e = sym (join_back x k Free e 1 NoSuchOrder)
enter_ticket x k (Resting o) e =
    let m : Market = market_at x.markets o.market in
    let s : TicketState = Resting o in
    sym (decide_carried (put_joined x k o.market) (refused_joined (record { state = s }) m) (entered_on o (round_in m.phase) k) (refuse x) (enter_with x k o (round_in m.phase))
    (enter_rest s m.phase) (join_back x k s e o.market) (λ p. refl))
enter_ticket x k (Entered o) e = sym (join_back x k (Entered o) e o.market WrongTicketState)

pub enter_on_lem : (x : Exchange) (k : ℕ)
    → enter_of x k ≡ by_form (form_of (ticket_form k)) (refuse x) (put_joined x k (ticket_market (ticket x k)) (enter_on (ticket_at x k) (market_at x.markets (ticket_market (ticket x k))) k))
unfolding enter_of
enter_on_lem x k = on_form x (ticket_form k) (enter_rest (ticket x k) (phase x (order_in (ticket x k)).market)) (enter_done x k) _ (λ f. enter_ticket x k (ticket x k) refl)

-- in the market of the ticket's order
leave_there : (x : Exchange) (k m : ℕ) (s : TicketState) → ticket_at x k ≡ record { state = s }
    → decide (leave_rest s (phase x (order_in s).market) m) (refuse x) (leave_with x k (order_in s) (round_in (phase x (order_in s).market)))
    ≡ put_joined x k (order_in s).market (leave_on (record { state = s }) (market_at x.markets (order_in s).market) k m)
unfolding leave_on
leave_there x k m s e =
    let o : Order = order_in s in
    let q : Market = market_at x.markets o.market in
    sym (decide_carried (put_joined x k o.market) (refused_joined (record { state = s }) q) (left_on o (round_in q.phase) k) (refuse x) (leave_with x k o (round_in q.phase))
    (leave_rest s q.phase m) (join_back x k s e o.market) (λ p. refl))

leave_ticket : (x : Exchange) (k m : ℕ) (s : TicketState) → ticket_at x k ≡ record { state = s }
    → decide (leave_rest s (phase x (order_in s).market) m) (refuse x) (leave_with x k (order_in s) (round_in (phase x (order_in s).market)))
    ≡ put_joined x k (ticket_market s) (leave_on (record { state = s }) (market_at x.markets (ticket_market s)) k m)
unfolding leave_on
leave_ticket x k m Free e = sym (join_back x k Free e 1 NoSuchOrder)
leave_ticket x k m (Resting o) e = leave_there x k m (Resting o) e
leave_ticket x k m (Entered o) e = leave_there x k m (Entered o) e

pub leave_on_lem : (x : Exchange) (k m : ℕ)
    → leave_of x k m ≡ by_form (form_of (cancel_form k m)) (refuse x) (put_joined x k (ticket_market (ticket x k)) (leave_on (ticket_at x k) (market_at x.markets (ticket_market (ticket x k))) k m))
unfolding leave_of
leave_on_lem x k m = on_form x (cancel_form k m) (leave_rest (ticket x k) (phase x (order_in (ticket x k)).market) m) (leave_done x k) _ (λ f. leave_ticket x k m (ticket x k) refl)

-- ---- 8

module _ (x : Exchange) (n m at : ℕ) (z : Shaped x.ledger) where
  trade_back : (w : Refusal) → put_traded x n m (refused_traded (market_at x.markets n) (row_of x.ledger m) x.last w) ≡ refuse x w
  trade_back w = back x _ x.supply x.residue x.tickets _ w (rows_put_back x.ledger m) refl refl refl (market_back x.markets n)

  pub bid_on_lem : (side base bound : ℕ)
      → bid_of x n m at side base bound
      ≡ by_form (form_of (bid_form n m side base)) (refuse x) (put_traded x n m (bid_on (market_at x.markets n) (row_of x.ledger m) x.last n at (side_of side) base bound))
  unfolding bid_of bid_on
  bid_on_lem side base bound =
      let row : Row = row_of x.ledger m in
      let s : Side = side_of side in
      let r : Round = round_in (phase x n) in
      let q : ℕ = bid_quote r s at base in
      let us : List (Test Refusal) = bid_rest (phase x n) (last_block x) at s base bound (cell_of row (wanted s n)) in
      rw (sym ((rows_taken x.ledger m).cells (wanted s n)))
      (on_form x (bid_form n m side base) us (bid_done x n m at side base) _ (λ f.
      sym (decide_carried (put_traded x n m) (refused_traded (market_at x.markets n) row x.last) (traded_on r row n at s base q) (refuse x) (bid_done x n m at side base) us trade_back
      (λ p.
      let i = bid_in n m side base f in
      sym (ap (traded x n at r s base q) (traded_by_row x.ledger m z i.2 (wanted s n) (offered s n) (gives s base q) (takes s base q) (wanted_lt s n i.1) (offered_lt s n i.1) (ltb-false _ _ p.1.1.1.1.1.0)))))))
    where
      traded : Exchange → ℕ → ℕ → Round → Side → ℕ → ℕ → Ledger → Outcome
      traded x n at r s base q l =
          record {
            answer = Ok (base, q);
            exchange = set_last (set_markets (set_ledger x l) (set_market x.markets n (record { phase = Auction (bid_round r s base q) }))) (block at);
          }

-- ---- 10

module _ (x : Exchange) (k : ℕ) (s : TicketState) (e : ticket_at x k ≡ record { state = s }) where
  residue_back : (n : ℕ) → set (set x.residue 0 (residue_at x 0)) n (residue_at x n) ≡ x.residue
  residue_back n =
      ap (λ (l : List Amount). set l n (residue_at x n)) (set-get_or x.residue 0 (amount 0)) ∙ set-get_or x.residue n (amount 0)

  claim_back : (n m : ℕ) (w : Refusal)
      → put_claimed x k n m (refused_claimed (record { state = s }) (market_at x.markets n) (row_of x.ledger m) (residue_at x 0) (residue_at x n) w) ≡ refuse x w
  claim_back n m w =
      ap (λ (t : Ticket). put_claimed x k n m (refused_claimed t (market_at x.markets n) (row_of x.ledger m) (residue_at x 0) (residue_at x n) w)) (sym e)
      ∙ back x _ x.supply _ _ _ w (rows_put_back x.ledger m) refl (residue_back n) (set-get_or x.tickets k free_ticket) (market_back x.markets n)

-- the state after a claim, by its ledger, residue and phase
claimed : Exchange → ℕ → Order → ℕ → ℕ → Ledger → List Amount → Phase → Outcome
claimed x k o s got l residue p =
    record {
      answer = Ok (s, got);
      exchange = set_markets (set_tickets (set_residue (set_ledger x l) residue) (set x.tickets k (record { state = resting_or o (o.offer.0 - s) }))) (set_market x.markets o.market (record { phase = p }));
    }

module _ (x : Exchange) (z : Shaped x.ledger) (k : ℕ) (o : Order) (ok : OrderBounds o) (s got : ℕ) (r : Round) where
  -- a last claim sweeps into two cells of the residue
  swept : (q b : ℕ) → set (set x.residue 0 (amount ((residue_at x 0).0 + q))) o.market (amount ((get_or (set x.residue 0 (amount ((residue_at x 0).0 + q))) o.market (amount 0)).0 + b))
      ≡ set (set x.residue 0 (amount ((residue_at x 0).0 + q))) o.market (amount ((residue_at x o.market).0 + b))
  swept q b =
      ap (λ (c : Amount). set (set x.residue 0 (amount ((residue_at x 0).0 + q))) o.market (amount (c.0 + b)))
      (get_or-set_other x.residue 0 o.market (amount ((residue_at x 0).0 + q)) (amount 0) (λ e. omega (arith, ok.market_low, e)))

  paid_parts : accept s got (paying_or_closed (credit (with_ticket x k (resting_or o (o.offer.0 - s))) o.member (wanted o.side o.market) got) o.market r)
      ≡ put_claimed x k o.market o.member (paid_on (row_of x.ledger o.member) (residue_at x 0) (residue_at x o.market) o s got r)
  unfolding claimed
  paid_parts = go (eqb (count_of r.tickets) 0)
    where
      row : credited x.ledger o.member (wanted o.side o.market) got
          ≡ with_row x.ledger o.member (credited_row (row_of x.ledger o.member) (wanted o.side o.market) got)
      row = credited_by_row x.ledger o.member z ok.member (wanted o.side o.market) got (wanted_lt o.side o.market ok.market_high)

      go : (q : Bool)
          → accept s got (cond q (with_phase (to_residue (to_residue (credit (with_ticket x k (resting_or o (o.offer.0 - s))) o.member (wanted o.side o.market) got) 0 r.quote.0) o.market r.base.0) o.market Closed) (with_phase (credit (with_ticket x k (resting_or o (o.offer.0 - s))) o.member (wanted o.side o.market) got) o.market (Paying r)))
          ≡ claimed x k o s got (with_row x.ledger o.member (credited_row (row_of x.ledger o.member) (wanted o.side o.market) got))
          (set (set x.residue 0 (cond q (amount ((residue_at x 0).0 + r.quote.0)) (residue_at x 0))) o.market (cond q (amount ((residue_at x o.market).0 + r.base.0)) (residue_at x o.market)))
          (cond q Closed (Paying r))
      go true = ap₂ (λ (l : Ledger) (c : List Amount). claimed x k o s got l c Closed) row (swept r.quote.0 r.base.0)
      go false = ap₂ (λ (l : Ledger) (c : List Amount). claimed x k o s got l c (Paying r)) row (sym (residue_back x k (ticket x k) refl o.market))

claim_ticket : (x : Exchange) → Shaped x.ledger → (k : ℕ) (s : TicketState) → ticket_at x k ≡ record { state = s } → TicketBounds s
    → decide (claim_rest s (phase x (order_in s).market)) (refuse x) (claim_with x k (order_in s) (round_in (phase x (order_in s).market)))
    ≡ put_claimed x k (ticket_market s) (ticket_member s)
    (claim_on (record { state = s }) (market_at x.markets (ticket_market s)) (row_of x.ledger (ticket_member s)) (residue_at x 0) (residue_at x (ticket_market s)) k)
unfolding claim_on
claim_ticket x z k Free e b = sym (claim_back x k Free e 1 0 NoSuchOrder)
claim_ticket x z k (Resting o) e b = sym (claim_back x k (Resting o) e o.market o.member WrongTicketState)
claim_ticket x z k (Entered o) e b =
    let m : Market = market_at x.markets o.market in
    let r : Round = round_in m.phase in
    let s : TicketState = Entered o in
    let row : Row = row_of x.ledger o.member in
    let next : Round = claimed_round r k o.side (o.offer.0 - share_in r o) (got_in r o) in
    sym (decide_carried (put_claimed x k o.market o.member) (refused_claimed (record { state = s }) m row (residue_at x 0) (residue_at x o.market))
    (paid_on row (residue_at x 0) (residue_at x o.market) o (share_in r o) (got_in r o) next) (refuse x) (claim_with x k o r)
    (claim_rest s m.phase) (claim_back x k s e o.market o.member) (λ p. sym (paid_parts x z k o b (share_in r o) (got_in r o) next)))

pub claim_on_lem : (x : Exchange) → Bounded x → (k : ℕ)
    → claim_of x k
    ≡ by_form (form_of (ticket_form k)) (refuse x)
    (put_claimed x k (ticket_market (ticket x k)) (ticket_member (ticket x k))
    (claim_on (ticket_at x k) (market_at x.markets (ticket_market (ticket x k))) (row_of x.ledger (ticket_member (ticket x k))) (residue_at x 0) (residue_at x (ticket_market (ticket x k))) k))
unfolding claim_of
claim_on_lem x b k =
    on_form x (ticket_form k) (claim_rest (ticket x k) (phase x (order_in (ticket x k)).market)) (claim_done x k) _ (λ f.
    claim_ticket x b.rows k (ticket x k) refl (b.ticket_bounds k (omega (arith, ltb-false 63 k f.0))))
