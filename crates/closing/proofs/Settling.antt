-- What an accepted settle answers is what history has its round's match and bids take of each side.
use Rattle.std.specs.Prelude.{Ok}
use Prim.Native.Nat.{ℕ, ◌<◌, ◌≤◌}
use mathlib.Core.Path.{◌≡◌, ◌∙◌, ap, subst₂, sym}
use mathlib.Core.Bool.{Bool, cond, false, true}
use native.Mathlib.Omega.{arith}
use lib.Dec.{ltb}
use lib.ListN.{length}
use borrow.Author.Tests.{not-false}
use Rattle.pricing.specs.declared.Side.TheVariants.{Buy, Sell}
use Rattle.model.specs.declared.state.Exchange.{Exchange}
use Rattle.model.specs.declared.state.Phase.TheVariants.{Auction}
use Rattle.model.specs.declared.state.Round.{Round}
use Rattle.model.specs.declared.call.Call.{Call}
use Rattle.model.specs.declared.answer.Outcome.{Outcome}
use Rattle.model.specs.declared.answer.Refusal.TheVariants.{BufferTooShort}
use Rattle.model.specs.State.{fresh_exchange, is_auction, is_closed, phase, round_in}
use Rattle.model.specs.Answers.{answer_line, first_of, second_of}
use Rattle.model.specs.Calls.{refuse, settle_tests}
use Rattle.model.specs.Run.{Request, request_of, step_of}
use Rattle.model.specs.Submissions.{events_of, model_engine, state_after}
use Rattle.model.specs.History.{History, RoundLog, auctioning, history_of, log_of, no_history, running}
use Rattle.model.proofs.Frames.{inside}
use Rattle.model.proofs.Inv.{Inv, MarketOk, RoundOk, auction_is, running_is}
use Rattle.model.proofs.Steps.{accepted_passed, step_passed}
use Rattle.model.proofs.WholeRun.{fresh_inv, run_keeps}
use Rattle.units.proofs.Decide.{Passed}
use Rattle.closing.specs.Settling.{SettleTells, SettlesTell}

-- the step of a settle that is accepted
step_tells : (x : Exchange) (y : History) → Inv x y → (market at quote base : ℕ) → (step_of x (Call.Settle market at)).answer ≡ Ok (quote, base)
    → (b : RoundLog) × SettleTells y market quote base b
step_tells x y i market at quote base e =
    let p : Passed (settle_tests x market at) = accepted_passed x (Call.Settle market at) quote base e in
    let range : (1 ≤ market) × (market ≤ 3) = inside market 1 3 p.0 in
    let r : Round = round_in (phase x market) in
    let ep : phase x market ≡ Auction r = auction_is (phase x market) (not-false (is_auction (phase x market)) p.1.0) in
    let low : 0 < market = omega arith in
    let high : market < 4 = omega arith in
    let b : RoundLog = log_of (y.rounds market) in
    let er : y.rounds market ≡ running b = running_is (phase x market) (y.rounds market) (ap is_closed ep) (i.markets market low high) in
    let ok : RoundOk auctioning r b = subst₂ MarketOk ep er (i.markets market low high) in
    let told : Ok (quote, base) ≡ Ok (r.buys.paid.0, r.sells.paid.0) =
    sym e ∙ ap (λ (out : Outcome). out.answer) (step_passed x (Call.Settle market at) p) in (
      b,
      record {
        round = er;
        stage = ok.stage;
        quote_is = ap first_of told ∙ ok.paid Buy;
        base_is = ap second_of told ∙ ok.paid Sell;
      },
    )

-- a request that is accepted is its call's step
step_accepted : (x : Exchange) (q : Request) (a b : ℕ) → (request_of x q).answer ≡ Ok (a, b) → (step_of x q.call).answer ≡ Ok (a, b)
unfolding request_of
step_accepted x q a b = go (ltb q.room (length (answer_line q.line (step_of x q.call).answer)))
  where
    go : (t : Bool) → (cond t (refuse x BufferTooShort) (step_of x q.call)).answer ≡ Ok (a, b) → (step_of x q.call).answer ≡ Ok (a, b)
    go true e = absurd (let z : ◌≡◌ {A = ℕ} 0 1 = cc in omega arith)
    go false e = e

pub settles_tell : SettlesTell
settles_tell ss q market at quote base c e =
    let x : Exchange = state_after model_engine fresh_exchange ss in
    step_tells x (history_of (events_of model_engine fresh_exchange ss)) (run_keeps fresh_exchange no_history fresh_inv ss) market at quote base
    (sym (ap (λ (v : Call). (step_of x v).answer) c) ∙ step_accepted x q quote base e)
