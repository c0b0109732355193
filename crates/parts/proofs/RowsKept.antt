-- Work on a row of four leaves a row of four.
use Prim.Native.Nat.{ℕ, ◌-◌}
use Rattle.units.specs.declared.Amount.{Amount}
use Rattle.units.specs.declared.Block.{Block}
use Rattle.units.proofs.Decide.{decided}
use Rattle.pricing.specs.declared.Side.{Side}
use Rattle.ledger.specs.declared.Row.{Row}
use Rattle.ledger.specs.Balances.{cell_of, debited_row, RowShaped}
use Rattle.ledger.proofs.Laws.{row_credits, row_debits}
use Rattle.model.specs.declared.state.Order.{Order}
use Rattle.model.specs.declared.state.Ticket.{Ticket}
use Rattle.model.specs.declared.state.Round.{Round}
use Rattle.model.specs.declared.state.Market.{Market}
use Rattle.model.specs.Sides.{offered, wanted, gives, takes}
use Rattle.model.specs.State.{order_in, round_in}
use Rattle.model.specs.Calls.{share_in, got_in, deposit_rest, withdraw_rest, order_rest, cancel_rest, bid_rest, claim_rest, bid_quote, claimed_round}
use Rattle.parts.specs.After.{Claimed, Traded, Placed, Banked}
use Rattle.parts.specs.Parts.{refused_banked, deposited_on, deposit_on, withdrawn_on, withdraw_on, refused_placed, ordered_on, order_on, cancelled_on, cancel_on, refused_traded, traded_on, bid_on, refused_claimed, paid_on, claim_on}

module _ (row : Row) (z : RowShaped row) where
  pub deposit_row : (supply : Amount) (t n : ℕ) → RowShaped (deposit_on row supply t n).row
  unfolding deposit_on
  deposit_row supply t n =
      decided (refused_banked row supply) (deposited_on row supply t n) (λ (p : Banked). RowShaped p.row) (deposit_rest supply.0 n) (λ w. z) (λ p. (row_credits row t n).shaped z)

  pub withdraw_row : (supply : Amount) (t n : ℕ) → RowShaped (withdraw_on row supply t n).row
  unfolding withdraw_on
  withdraw_row supply t n =
      decided (refused_banked row supply) (withdrawn_on row supply t n) (λ (p : Banked). RowShaped p.row) (withdraw_rest (cell_of row t) n) (λ w. z) (λ p. (row_debits row t n).shaped z)

  pub order_row : (t : Ticket) (o : Order) → RowShaped (order_on row t o).row
  unfolding order_on
  order_row t o =
      let token : ℕ = offered o.side o.market in
      decided (refused_placed row t) (ordered_on row o) (λ (p : Placed). RowShaped p.row) (order_rest t.state (cell_of row token) o.offer.0) (λ w. z)
      (λ p. (row_debits row token o.offer.0).shaped z)

  pub cancel_row : (t : Ticket) (m : ℕ) → RowShaped (cancel_on row t m).row
  unfolding cancel_on
  cancel_row t m =
      let o : Order = order_in t.state in
      decided (refused_placed row t) (cancelled_on row o) (λ (p : Placed). RowShaped p.row) (cancel_rest t.state m) (λ w. z)
      (λ p. (row_credits row (offered o.side o.market) o.offer.0).shaped z)

  pub bid_row : (market : Market) (last : Block) (number at : ℕ) (s : Side) (n bound : ℕ) → RowShaped (bid_on market row last number at s n bound).row
  unfolding bid_on
  bid_row market last number at s n bound =
      let r : Round = round_in market.phase in
      let q : ℕ = bid_quote r s at n in
      decided (refused_traded market row last) (traded_on r row number at s n q) (λ (p : Traded). RowShaped p.row)
      (bid_rest market.phase last.0 at s n bound (cell_of row (wanted s number))) (λ w. z)
      (λ p.
      (row_credits (debited_row row (wanted s number) (gives s n q)) (offered s number) (takes s n q)).shaped ((row_debits row (wanted s number) (gives s n q)).shaped z))

  pub claim_row : (t : Ticket) (market : Market) (quote base : Amount) (k : ℕ) → RowShaped (claim_on t market row quote base k).row
  unfolding claim_on
  claim_row t market quote base k =
      let o : Order = order_in t.state in
      let r : Round = round_in market.phase in
      decided (refused_claimed t market row quote base) (paid_on row quote base o (share_in r o) (got_in r o) (claimed_round r k o.side (o.offer.0 - share_in r o) (got_in r o)))
      (λ (p : Claimed). RowShaped p.row) (claim_rest t.state market.phase) (λ w. z) (λ p. (row_credits row (wanted o.side o.market) (got_in r o)).shaped z)
