-- What settle answers, worked from history: the two numbers by which a licence may bill.
use Rattle.std.specs.Prelude.{ℕ, ◌≡◌, List, Ok}
use Rattle.pricing.specs.declared.Side.TheVariants.{Buy, Sell}
use Rattle.model.specs.declared.call.Call.TheVariants as Call
use Rattle.model.specs.State.{fresh_exchange}
use Rattle.model.specs.Run.{Request, request_of}
use Rattle.model.specs.Submissions.{Submission, model_engine, events_of, state_after}
use Rattle.model.specs.History.{History, RoundLog, P, auctioning, running, history_of}

-- "Answers quote paid by buys, base paid by sells": of the market's round, which was matched and not settled yet, P of its buys, "c plus the quote of
-- the side 0 bids", and P of its sells, "m plus the n of the side 1 bids"
pub record SettleTells (y : History) (market quote base : ℕ) (b : RoundLog) : Type 0 where
  pub round : y.rounds market ≡ running b
  pub stage : b.stage ≡ auctioning
  pub quote_is : quote ≡ P b Buy
  pub base_is : base ≡ P b Sell

-- after every list of submissions, of every settle that is then accepted
abbrev pub SettlesTell : Type 0
SettlesTell =
    (ss : List Submission) (q : Request) (market at quote base : ℕ) → q.call ≡ Call.Settle market at
    → (request_of (state_after model_engine fresh_exchange ss) q).answer ≡ Ok (quote, base)
    → (b : RoundLog) × SettleTells (history_of (events_of model_engine fresh_exchange ss)) market quote base b
