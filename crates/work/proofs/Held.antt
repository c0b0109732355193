-- The work of a call done on the parts of a state where they lie.
use Rattle.std.specs.Prelude.{Ok}
use Prim.Native.Nat.{ℕ, ◌-◌, ◌<◌}
use mathlib.Core.Path.{◌≡◌, sym, ap, ap₂, ◌∙◌, subst}
use mathlib.Core.List.{List}
use lib.ListN.{get_or, set}
use Rattle.units.specs.declared.Amount.{Amount}
use Rattle.units.specs.declared.Block.{Block}
use Rattle.ledger.specs.declared.Row.{Row}
use Rattle.ledger.specs.declared.Ledger.{Ledger}
use Rattle.ledger.specs.Balances.{no_row, row_of, with_row, RowShaped}
use Rattle.ledger.proofs.Laws.{rows_taken}
use Rattle.model.specs.declared.answer.Outcome.{Outcome}
use Rattle.model.specs.declared.state.Ticket.{Ticket}
use Rattle.model.specs.declared.state.TicketState.{TicketState}
use Rattle.model.specs.declared.state.Phase.TheVariants.{Paying}
use Rattle.model.specs.declared.state.Market.{Market as State_as_Market}
use Rattle.model.specs.declared.state.Exchange.{Exchange}
use Rattle.parts.specs.After.{Claimed, Traded, Joined}
use Rattle.model.specs.State.{closed_market, ticket, market_at, set_ledger, set_supply, set_residue, set_tickets, set_markets, set_last}
use Rattle.model.specs.Bounds.{Bounded}
use Rattle.parts.specs.Asked.{ClaimFits}
use Rattle.model.specs.Run.{Reachable}
use Rattle.parts.specs.Parts.{ticket_market, ticket_member, supply_at, residue_at, ticket_at, claim_on, put_joined, put_traded, put_claimed}
use Rattle.parts.proofs.OneRow.{row_read, row_stored}
use Rattle.parts.proofs.RowsKept.{deposit_row, withdraw_row, order_row, cancel_row, bid_row, claim_row}
use Rattle.parts.proofs.OnParts.{market_place, set_market_place}
use Rattle.parts.proofs.PartBounds.{ticket_places, pay_bounds}
use Rattle.model.proofs.ReachBounds.{reachable_bounded}
use Rattle.work.specs.declared.AccountAct.{AccountAct}
use Rattle.work.specs.declared.MarketAct.{MarketAct}
use Rattle.work.specs.declared.EntryAct.{EntryAct}
use Rattle.work.specs.declared.Work.TheVariants.{Account, Market, Entry, Claim}
use Rattle.work.specs.Work.{Posted, work_done, PlacesExist, AccountFits, account_on, MarketFits, market_on, EntryFits, entry_on, put_posted}
use Rattle.work.proofs.Laws.{account_fits, market_fits, entry_fits}

-- ---- work on a row of four leaves a row of four

account_row : (row : Row) → RowShaped row → (supply : Amount) (k : Ticket) (m t : ℕ) (act : AccountAct) → RowShaped (account_on row supply k m t act).row
account_row row z supply k m t (AccountAct.Deposit n) = deposit_row row z supply t n.0
account_row row z supply k m t (AccountAct.Withdraw n) = withdraw_row row z supply t n.0
account_row row z supply k m t (AccountAct.Place o) = order_row row z k o
account_row row z supply k m t AccountAct.Cancel = cancel_row row z k m

market_row : (q : State_as_Market) (row : Row) → RowShaped row → (last : Block) (n at : ℕ) (act : MarketAct) → RowShaped (market_on q row last n at act).row
market_row q row z last n at (MarketAct.Open r w len) = z
market_row q row z last n at MarketAct.Match = z
market_row q row z last n at (MarketAct.Bid side base bound) = bid_row row z q last n at side base.0 bound.0
market_row q row z last n at MarketAct.Settle = z

module _ (x : Exchange) (h : Reachable x) where
  b : Bounded x
  b = reachable_bounded x h

  -- a member's row read where it lies, and one of four stored there
  read : (m : ℕ) → m < 16 → get_or x.ledger.rows m no_row ≡ row_of x.ledger m
  read m hm = row_read x.ledger m b.rows hm

  put : (m : ℕ) → m < 16 → (r : Row) → RowShaped r → ◌≡◌ {A = Ledger} (record { rows = set x.ledger.rows m r }) (with_row x.ledger m r)
  put m hm = row_stored x.ledger m b.rows hm

  four : (m : ℕ) → m < 16 → RowShaped (row_of x.ledger m)
  four m hm = (rows_taken x.ledger m).shaped b.rows hm

  -- ---- what work asks of parts where they lie

  pub account_asks : (m t k : ℕ) (act : AccountAct) → PlacesExist (Account m t k act)
      → AccountFits (get_or x.ledger.rows m no_row) (supply_at x t) (ticket_at x k) t act
  account_asks m t k act p =
      subst (λ (row : Row). AccountFits row (supply_at x t) (ticket_at x k) t act) (sym (read m p.0)) (account_fits x b m t k act p)

  pub market_asks : (n m : ℕ) (at : Block) (act : MarketAct) → PlacesExist (Market n m at act)
      → MarketFits (get_or x.markets (n - 1) closed_market) (get_or x.ledger.rows m no_row) x.last n act
  market_asks n m at act p =
      subst (λ (row : Row). MarketFits (get_or x.markets (n - 1) closed_market) row x.last n act) (sym (read m p.2))
      (subst (λ (q : State_as_Market). MarketFits q (row_of x.ledger m) x.last n act) (sym (market_place x.markets n p.0)) (market_fits x b n m at act p))

  module _ (k : ℕ) (hk : k < 64) (n : ℕ) (en : n ≡ ticket_market (ticket x k)) where
    pub places : (0 < n) × (n < 4) × (ticket_member (ticket x k) < 16)
    places = subst (λ (j : ℕ). (0 < j) × (j < 4) × (ticket_member (ticket x k) < 16)) (sym en) (ticket_places x b k hk)

    member_in : (m : ℕ) → m ≡ ticket_member (ticket x k) → m < 16
    member_in m em = subst (λ (j : ℕ). j < 16) (sym em) places.2

    market_is : get_or x.markets (n - 1) closed_market ≡ market_at x.markets (ticket_market (ticket x k))
    market_is = market_place x.markets n places.0 ∙ ap (market_at x.markets) en

    pub entry_asks : (act : EntryAct) → EntryFits (ticket_at x k) (get_or x.markets (n - 1) closed_market) act
    entry_asks act = subst (λ (q : State_as_Market). EntryFits (ticket_at x k) q act) (sym market_is) (entry_fits x b k act hk)

    pub claim_asks : (m : ℕ) → m ≡ ticket_member (ticket x k)
        → ClaimFits (ticket_at x k) (get_or x.markets (n - 1) closed_market) (get_or x.ledger.rows m no_row) (residue_at x 0) (residue_at x n) k
    claim_asks m em o r es ep =
        let member : m ≡ o.member = em ∙ ap ticket_member es in
        let market : n ≡ o.market = en ∙ ap ticket_market es in
        let phase : (market_at x.markets o.market).phase ≡ Paying r =
        ap (λ (s : TicketState). (market_at x.markets (ticket_market s)).phase) (sym es) ∙ ap (λ (q : State_as_Market). q.phase) (sym market_is) ∙ ep in
        rw (read m (member_in m em), member, market) (pay_bounds x b k hk o r es phase)

  -- ---- the parts stored where they lie

  pub account_held : (m t k : ℕ) (act : AccountAct) → PlacesExist (Account m t k act) → (p : Posted)
      → p ≡ account_on (get_or x.ledger.rows m no_row) (supply_at x t) (ticket_at x k) m t act
      → ◌≡◌ {A = Outcome}
      (record {
        answer = p.answer;
        exchange =
            set_ledger (set_tickets (set_supply x (set x.supply t p.supply)) (set x.tickets k p.ticket))
            (record { rows = set x.ledger.rows m p.row });
      })
      (work_done x (Ok (Account m t k act)))
  account_held m t k act at p e =
      let on : p ≡ account_on (row_of x.ledger m) (supply_at x t) (ticket_at x k) m t act =
      e ∙ ap (λ (row : Row). account_on row (supply_at x t) (ticket_at x k) m t act) (read m at.0) in
      let z : RowShaped p.row =
      subst (λ (q : Posted). RowShaped q.row) (sym on) (account_row (row_of x.ledger m) (four m at.0) (supply_at x t) (ticket_at x k) m t act) in
      ap (stored p) (put m at.0 p.row z) ∙ ap (put_posted x m t k) on
    where
      stored : Posted → Ledger → Outcome
      stored p l₁ =
          record {
            answer = p.answer;
            exchange = set_tickets (set_supply (set_ledger x l₁) (set x.supply t p.supply)) (set x.tickets k p.ticket);
          }

  pub market_held : (n m : ℕ) (at : Block) (act : MarketAct) → PlacesExist (Market n m at act) → (p : Traded)
      → p ≡ market_on (get_or x.markets (n - 1) closed_market) (get_or x.ledger.rows m no_row) x.last n at.0 act
      → ◌≡◌ {A = Outcome}
      (record {
        answer = p.answer;
        exchange =
            set_ledger (set_last (set_markets x (set x.markets (n - 1) p.market)) p.last)
            (record { rows = set x.ledger.rows m p.row });
      })
      (work_done x (Ok (Market n m at act)))
  market_held n m at act i p e =
      let on : p ≡ market_on (market_at x.markets n) (row_of x.ledger m) x.last n at.0 act =
      e ∙ ap₂ (λ (q : State_as_Market) (row : Row). market_on q row x.last n at.0 act) (market_place x.markets n i.0) (read m i.2) in
      let z : RowShaped p.row =
      subst (λ (q : Traded). RowShaped q.row) (sym on) (market_row (market_at x.markets n) (row_of x.ledger m) (four m i.2) x.last n at.0 act) in
      ap₂ (stored p) (put m i.2 p.row z) (set_market_place x.markets n p.market i.0) ∙ ap (put_traded x n m) on
    where
      stored : Traded → Ledger → List State_as_Market → Outcome
      stored p l₁ ms =
          record { answer = p.answer; exchange = set_last (set_markets (set_ledger x l₁) ms) p.last }

  module _ (k : ℕ) (hk : k < 64) (n : ℕ) (en : n ≡ ticket_market (ticket x k)) where
    pub entry_held : (act : EntryAct) (p : Joined) → p ≡ entry_on (ticket_at x k) (get_or x.markets (n - 1) closed_market) k act
        → ◌≡◌ {A = Outcome}
        (record {
          answer = p.answer;
          exchange =
              set_markets (set_tickets x (set x.tickets k p.ticket)) (set x.markets (n - 1) p.market);
        })
        (work_done x (Ok (Entry k act)))
    entry_held act p e =
        let pos : 0 < n = (places k hk n en).0 in
        ap (stored p) (set_market_place x.markets n p.market pos)
        ∙ ap (put_joined x k n) (e ∙ ap (λ (q : State_as_Market). entry_on (ticket_at x k) q k act) (market_place x.markets n pos))
        ∙ ap (λ (j : ℕ). put_joined x k j (entry_on (ticket_at x k) (market_at x.markets j) k act)) en
      where
        stored : Joined → List State_as_Market → Outcome
        stored p ms =
            record {
              answer = p.answer;
              exchange = set_markets (set_tickets x (set x.tickets k p.ticket)) ms;
            }

    pub claim_held : (m : ℕ) → m ≡ ticket_member (ticket x k) → (p : Claimed)
        → p ≡ claim_on (ticket_at x k) (get_or x.markets (n - 1) closed_market) (get_or x.ledger.rows m no_row) (residue_at x 0) (residue_at x n) k
        → ◌≡◌ {A = Outcome}
        (record {
          answer = p.answer;
          exchange =
              set_ledger
              (set_markets (set_tickets (set_residue x (set (set x.residue 0 p.quote) n p.base)) (set x.tickets k p.ticket)) (set x.markets (n - 1) p.market))
              (record { rows = set x.ledger.rows m p.row });
        })
        (work_done x (Ok (Claim k)))
    claim_held m em p e =
        let pos : 0 < n = (places k hk n en).0 in
        let hm : m < 16 = member_in k hk n en m em in
        let on : p ≡ claim_on (ticket_at x k) (market_at x.markets n) (row_of x.ledger m) (residue_at x 0) (residue_at x n) k =
        e ∙ ap₂ (λ (q : State_as_Market) (row : Row). claim_on (ticket_at x k) q row (residue_at x 0) (residue_at x n) k) (market_place x.markets n pos) (read m hm) in
        let z : RowShaped p.row =
        subst (λ (q : Claimed). RowShaped q.row) (sym on) (claim_row (row_of x.ledger m) (four m hm) (ticket_at x k) (market_at x.markets n) (residue_at x 0) (residue_at x n) k) in
        ap₂ (stored p) (put m hm p.row z) (set_market_place x.markets n p.market pos)
        ∙ ap (put_claimed x k n m) on
        ∙ ap₂ (λ (j i : ℕ). put_claimed x k j i (claim_on (ticket_at x k) (market_at x.markets j) (row_of x.ledger i) (residue_at x 0) (residue_at x j) k)) en em
      where
        stored : Claimed → Ledger → List State_as_Market → Outcome
        stored p l₁ ms =
            record {
              answer = p.answer;
              exchange =
                  set_markets (set_tickets (set_residue (set_ledger x l₁) (set (set x.residue 0 p.quote) n p.base)) (set x.tickets k p.ticket)) ms;
            }
