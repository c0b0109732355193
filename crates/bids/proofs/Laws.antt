-- What a bid's bounds and tests give: room in the round and in the maker's row.
use Rattle.std.specs.Prelude.{Ok}
use Prim.Native.Nat.{ℕ, ◌+◌, ◌≤◌, ◌<◌}
use mathlib.Core.Path.{◌≡◌}
use mathlib.Core.Bool.{false}
use native.Mathlib.Omega.{arith}
use Rattle.std.proofs.lemmas.Grind.{common_steps}
use Rattle.units.specs.declared.Amount.{Amount}
use Rattle.units.specs.declared.Block.{Block}
use Rattle.units.specs.Counts.{largest}
use Rattle.pricing.specs.declared.Side.{Side}
use Rattle.ledger.specs.declared.Row.{Row}
use Rattle.ledger.specs.Balances.{RowShaped, cell_of, credited_row, debited_row}
use Rattle.ledger.specs.Postings.{Entry, RowPosting, credit_row_of, debit_row_of}
use Rattle.ledger.proofs.Laws.{row_debits}
use Rattle.model.specs.declared.state.Round.{Round}
use Rattle.model.specs.Sides.{other, by_side, offered, wanted, gives, takes}
use Rattle.model.specs.State.{totals_of}
use Rattle.model.specs.Calls.{not_available}
use Rattle.model.proofs.Frames.{offered_lt, wanted_lt}
use Rattle.parts.specs.Asked.{BidBounds}
use Rattle.parts.proofs.RowCalls.{row_calls}
use Rattle.bids.specs.Steps.{TradeRoom}

module _ (r : Round) (row : Row) (last : Block) (number : ℕ) (b : BidBounds r row last number) (s : Side) (n q : ℕ) (a : not_available s n q (totals_of r s) ≡ false) where
  -- the side holds what the maker takes, and any balance has room for it
  pub takes_fit : cell_of row (offered s number) + takes s n q ≤ largest
  takes_fit = grind (arith, common_steps, b.auction.unsold s, b.beside s)

  -- and the round has room for what the maker can give
  pub trade_fits : gives s n q ≤ cell_of row (wanted s number) → TradeRoom r s n q
  trade_fits h =
      record {
        paid = grind (arith, common_steps, b.round.total s);
        got = grind (arith, common_steps, b.auction.got s, b.beside (other s));
        held = grind (arith, common_steps, b.auction.unsold s);
        room = grind (arith, common_steps, b.beside (other s));
      }

-- ---- the maker's row

-- an amount that a side chooses
pub amount_by_side : (s : Side) (a b : Amount) → (by_side s a b).0 ≡ by_side s a.0 b.0
amount_by_side s a b = grind arith

-- a debit that is done, and then a credit that fits
pub given_taken : (row paid got : Row) (e f : Entry) (a : Amount) (s : Side) (number n q : ℕ) → number < 4 → RowShaped row
    → cell_of row (offered s number) + takes s n q ≤ largest
    → ◌≡◌ {A = RowPosting} (record { entry = e; row = paid }) (debit_row_of row (wanted s number) (gives s n q)) → e ≡ Ok a
    → ◌≡◌ {A = RowPosting} (record { entry = f; row = got }) (credit_row_of paid (offered s number) (takes s n q))
    → (gives s n q ≤ cell_of row (wanted s number)) × (got ≡ credited_row (debited_row row (wanted s number) (gives s n q)) (offered s number) (takes s n q))
given_taken row paid got e f a s number n q h z fit given done taken =
    let less = (row_debits row (wanted s number) (gives s n q)).cells z (wanted_lt s number h) in
    grind (arith, common_steps, row_calls, offered_lt, wanted_lt)
