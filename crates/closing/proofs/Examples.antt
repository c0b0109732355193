-- The examples, computed.
use Rattle.std.specs.Prelude.{Ok}
use Prim.Native.Nat.{ℕ, ◌+◌, ◌≤◌, ◌<◌}
use mathlib.Core.Bool.{true}
use lib.ListN.{length}
use mathlib.Core.Path.{◌≡◌, ◌∙◌, ap, refl, sym}
use mathlib.Core.List.{[], ◌∷◌, ◌++◌, map}
use Rattle.ticket_set.specs.TicketSet.{next_from, next_of, members_from, members_of}
use Rattle.model.specs.declared.state.Exchange.{Exchange}
use Rattle.model.specs.declared.state.Phase.TheVariants.{Closed}
use Rattle.model.specs.declared.call.Call.TheVariants as Call
use Rattle.model.specs.State.{fresh_exchange, is_paying, phase}
use Rattle.model.specs.Answers.{code_of, first_of, second_of}
use Rattle.model.specs.Run.{Reachable, step_of, after_calls}
use Rattle.model.specs.Scripts.{history_after, requests}
use Rattle.model.specs.Closing.{AllAccepted, closing_calls}
use Rattle.model.specs.Day.{day_orders, day_collect}
use Rattle.model.proofs.Computing.{call_computes, run_computes}
use Rattle.closing.specs.Closings.{PayingClaims, SettledCloses, marked_in, next_marked, claims_named, host_calls}
use native.Mathlib.Omega.{arith}
use Rattle.pricing.specs.declared.Side.TheVariants.{Buy, Sell}
use Rattle.model.specs.History.{Current, P, RoundLog, auctioning, collecting, log_of, put, settled}
use Rattle.closing.specs.Settling.{SettleTells, SettlesTell}
use Rattle.closing.specs.Examples.{worked_host, day_asked, markets_asked, asked, until_bid, bid_taken, day_closed, day_settle, sold_log, sold_history}

pub asked_holds : map (worked_host fresh_exchange) asked ≡ asked
unfolding worked_host day_asked markets_asked next_marked marked_in next_of next_from call_computes
asked_holds = refl

pub day_closed_lem : map (λ (n : ℕ). host_calls n bid_taken 1 19) (0 ∷ 1 ∷ 2 ∷ 64 ∷ []) ++ (closing_calls bid_taken 1 19 ∷ []) ≡ day_closed
unfolding after_calls closing_calls members_of members_from day_orders day_collect day_closed claims_named next_marked marked_in next_of next_from call_computes
day_closed_lem = refl

-- 600 + 15 quote paid by buys, 240 + 60 base paid by sells: these and no others, of a round in auction, in its own market
pub told_met : SettleTells (sold_history auctioning) 2 615 300 (sold_log auctioning)
unfolding put
told_met = record { round = refl; stage = refl; quote_is = refl; base_is = refl }

pub told_used : (quote base : ℕ) (b : RoundLog) → SettleTells (sold_history auctioning) 2 quote base b → (quote ≡ 615) × (base ≡ 300)
unfolding put
told_used quote base b s =
    let e : b ≡ sold_log auctioning = sym (ap log_of s.round) in
    (s.quote_is ∙ ap (λ (v : RoundLog). P v Buy) e, s.base_is ∙ ap (λ (v : RoundLog). P v Sell) e)

pub told_collecting : (quote base : ℕ) (b : RoundLog) → SettleTells (sold_history collecting) 2 quote base b → ⊥
unfolding put
told_collecting quote base b s =
    let e : collecting ≡ auctioning = ap (λ (c : Current). (log_of c).stage) s.round ∙ s.stage in
    absurd (let z : ◌≡◌ {A = ℕ} 0 1 = cc in omega arith)

pub told_settled : (quote base : ℕ) (b : RoundLog) → SettleTells (sold_history settled) 2 quote base b → ⊥
unfolding put
told_settled quote base b s =
    let e : settled ≡ auctioning = ap (λ (c : Current). (log_of c).stage) s.round ∙ s.stage in
    absurd (let z : ◌≡◌ {A = ℕ} 0 1 = cc in omega arith)

pub told_elsewhere : (quote base : ℕ) (b : RoundLog) → SettleTells (sold_history auctioning) 1 quote base b → ⊥
unfolding put
told_elsewhere quote base b s = absurd (let z : ◌≡◌ {A = ℕ} 0 1 = cc s.round in omega arith)

-- of the day's settle the statement speaks, and gives what document 01 prints for it
pub day_told : SettlesTell → (b : RoundLog) × SettleTells (history_after until_bid) 1 600 300 b
unfolding day_orders day_collect run_computes
day_told s = s (requests until_bid) day_settle 1 19 600 300 refl refl

-- ---- the statements on closing, used at a market and a block

pub paying_used : PayingClaims → (x : Exchange) → Reachable x → is_paying (phase x 3) ≡ true
    → let c = Call.Claim (second_of (next_marked x 3)) in
    let y = (step_of x c).exchange in
    (code_of (next_marked x 3) ≡ 0)
    × (0 < first_of (next_marked x 3))
    × (code_of (step_of x c).answer ≡ 0)
    × (first_of (next_marked y 3) + 1 ≡ first_of (next_marked x 3))
    × (first_of (next_marked y 3) ≡ 0 → phase y 3 ≡ Closed)
    × (0 < first_of (next_marked y 3) → is_paying (phase y 3) ≡ true)
paying_used s x l e = let r = s x l 3 e in (r.told, r.some, r.accepted, r.one_less, r.closed, r.paying)

pub settled_used : SettledCloses → (x : Exchange) → Reachable x → (step_of x (Call.Settle 2 9)).answer ≡ Ok (7, 5)
    → (host_calls 64 x 2 9 ≡ closing_calls x 2 9)
    × AllAccepted x (host_calls 64 x 2 9)
    × (length (host_calls 64 x 2 9) ≤ 65)
    × (phase (after_calls x (host_calls 64 x 2 9)) 2 ≡ Closed)
settled_used s x l e = let r = s x l 2 9 7 5 e 64 (omega arith) in (r.calls, r.accepted, r.at_most, r.closed)
