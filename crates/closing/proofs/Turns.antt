-- A host that claims the tickets it is told of, one after the other, closes the market.
use Prim.Native.Nat.{ℕ, zero, suc, ◌+◌, ◌≤◌, ◌<◌, ◌^◌}
use mathlib.Core.Path.{◌≡◌, refl, sym, ap, subst, ◌∙◌}
use mathlib.Core.Bool.{Bool, true, cond}
use mathlib.Core.List.{List, [], ◌∷◌, map}
use native.Mathlib.Decide.{dec_lt}
use native.Mathlib.Omega.{arith}
use lib.ListN.{length, get_or-eq_default}
use borrow.Author.Tests.{eq-eqb, le-ltb, ne_eqb}
use Rattle.units.proofs.Cases.{false_not_true}
use Rattle.units.proofs.Decide.{decide_passed}
use Rattle.std.specs.Prelude.{Option, Some, None, Err}
use Rattle.ticket_set.specs.TicketSet.{count_of, members_of, next_of, removed}
use Rattle.ticket_set.proofs.Laws.{count_le, count_none, count_of_empty}
use Rattle.ticket_set.proofs.Least.{next_nothing, next_of_empty, next_taken}
use Rattle.ticket_set.proofs.Members.{members_next, members_nothing}
use Rattle.model.specs.declared.state.Exchange.{Exchange}
use Rattle.model.specs.declared.state.Market.{Market}
use Rattle.model.specs.declared.state.Phase.TheVariants.{Closed, Paying}
use Rattle.model.specs.declared.state.Round.{Round}
use Rattle.model.specs.declared.call.Call.{Call}
use Rattle.model.specs.declared.answer.Outcome.{Outcome}
use Rattle.model.specs.State.{closed_market, is_paying, phase, round_in}
use Rattle.model.specs.Answers.{code_of, first_of, second_of}
use Rattle.model.specs.Bounds.{PhaseBounds}
use Rattle.model.specs.Calls.{market_form, settled_phase}
use Rattle.model.specs.Run.{Reachable, step_of, after_calls}
use Rattle.model.specs.Closing.{AllAccepted, BackToClosed, closing_calls}
use Rattle.model.proofs.Inv.{paying_is}
use Rattle.model.proofs.Reach.{reachable_inv}
use Rattle.model.proofs.ReachBounds.{reachable_bounded}
use Rattle.model.proofs.Reading.{Sized}
use Rattle.model.proofs.WholeRun.{claim_passes}
use Rattle.model.proofs.WindUp.{Winding, winding_settled, winding_tickets, winding_next, settle_closes, members_named}
use Rattle.closing.specs.Closings.{found, marked_in, next_marked, marks, marks_left, next_claim, after_claim, PayingClaims, claims_named, host_calls, SettledCloses}
use Rattle.closing.proofs.PayingMarks.{Marked, reachable_marked}

-- ---- what a host is told

module _ (x : Exchange) (market : ℕ) (low : 0 < market) (high : market < 4) where
  pub told_is : next_marked x market ≡ marked_in (marks x market)
  unfolding next_marked
  told_is = decide_passed Err (marked_in (marks x market)) (market_form market) (rw (le-ltb market 1 low, le-ltb 3 market (omega arith)), tt)

  told_accepted : code_of (next_marked x market) ≡ 0
  unfolding marked_in
  told_accepted = ap code_of told_is

  left_is : marks_left x market ≡ count_of (marks x market)
  unfolding marked_in
  left_is = ap first_of told_is

  named_is : (k : ℕ) → next_of (marks x market) ≡ Some k → second_of (next_marked x market) ≡ k
  unfolding marked_in
  named_is k e = ap second_of told_is ∙ ap found e

-- a set with tickets has a lowest
lowest : (s : ℕ) → s < 2 ^ 64 → (count_of s ≡ 0 → ⊥) → (k : ℕ) × (next_of s ≡ Some k)
lowest s h some = go (next_of s) refl
  where
    go : (v : Option ℕ) → next_of s ≡ v → (k : ℕ) × (next_of s ≡ Some k)
    go (Some k) e = (k, e)
    go None e = absurd (some (ap count_of (next_nothing s h e) ∙ count_of_empty))

-- ---- a market that is paying

-- it is one of the three
paying_market : (x : Exchange) → Sized x → (market : ℕ) → is_paying (phase x market) ≡ true → (0 < market) × (market < 4)
paying_market x z zero e = absurd (false_not_true e)
paying_market x z (suc i) e = (omega arith, go (dec_lt i 3))
  where
    go : Dec (i < 3) → suc i < 4
    go (yes l) = omega arith
    go (no d) =
        let c : phase x (suc i) ≡ Closed = ap (λ (m : Market). m.phase) (get_or-eq_default x.markets closed_market (omega (arith, z.markets))) in
        absurd (false_not_true (sym (ap is_paying c) ∙ e))

-- the phase that a settle or a claim leaves
settled_none : (r : Round) → count_of r.tickets ≡ 0 → settled_phase r ≡ Closed
settled_none r e = ap (λ (t : Bool). cond t Closed (Paying r)) (eq-eqb (count_of r.tickets) 0 e)

settled_some : (r : Round) → (count_of r.tickets ≡ 0 → ⊥) → settled_phase r ≡ Paying r
settled_some r d = ap (λ (t : Bool). cond t Closed (Paying r)) (ne_eqb (count_of r.tickets) 0 d)

-- ticket k claimed
record Claimed (x : Exchange) (market k : ℕ) : Type 0 where
  accepted : code_of (step_of x (Call.Claim k)).answer ≡ 0
  one_less : count_of (marks (step_of x (Call.Claim k)).exchange market) + 1 ≡ count_of (marks x market)
  closed : count_of (marks (step_of x (Call.Claim k)).exchange market) ≡ 0 → phase (step_of x (Call.Claim k)).exchange market ≡ Closed
  paying : 0 < count_of (marks (step_of x (Call.Claim k)).exchange market) → is_paying (phase (step_of x (Call.Claim k)).exchange market) ≡ true

module _ (x : Exchange) (l : Reachable x) (market : ℕ) (e : is_paying (phase x market) ≡ true) where
  range : (0 < market) × (market < 4)
  range = paying_market x (reachable_inv l).1.sized market e

  abbrev round : Round
  round = round_in (phase x market)

  phase_is : phase x market ≡ Paying round
  phase_is = paying_is (phase x market) e

  some_marked : count_of round.tickets ≡ 0 → ⊥
  some_marked = subst Marked phase_is ((reachable_marked l).marked market range.0 range.1)

  small : round.tickets < 2 ^ 64
  small = (subst PhaseBounds phase_is ((reachable_bounded x l).phase_bounds market range.0 range.1)).tickets

  winding : Winding x market (marks x market)
  winding =
      record {
        reachable = l;
        low = range.0;
        high = range.1;
        small = small;
        round = round;
        tickets = refl;
        phase_is = phase_is ∙ sym (settled_some round some_marked);
      }

  next_claimed : (k : ℕ) → next_of (marks x market) ≡ Some k → Claimed x market k
  next_claimed k n =
      let t = next_taken (marks x market) k n in
      let o = (reachable_bounded x l).marked market range.0 range.1 k t.0 t.1 in
      let w = winding_next x market (marks x market) winding k n in
      let left : marks (step_of x (Call.Claim k)).exchange market ≡ removed (marks x market) k = winding_tickets _ market _ w in
      record {
        accepted = ap (λ (out : Outcome). code_of out.answer) (claim_passes x k t.0 o.0 round o.2 (ap (phase x) o.1 ∙ phase_is));
        one_less = ap (λ (s : ℕ). count_of s + 1) left ∙ t.2;
        closed = λ z. w.phase_is ∙ settled_none w.round (ap count_of (w.tickets ∙ sym left) ∙ z);
        paying = λ z. ap is_paying (w.phase_is ∙ settled_some w.round (λ q. omega (arith, z, q, ap count_of (w.tickets ∙ sym left))));
      }

pub paying_claims : PayingClaims
paying_claims x l market e =
    let r = range x l market e in
    let k = lowest (marks x market) (small x l market e) (some_marked x l market e) in
    let c : Claimed x market (second_of (next_marked x market)) =
    subst (Claimed x market) (sym (named_is x market r.0 r.1 k.0 k.1)) (next_claimed x l market e k.0 k.1) in
    let before = left_is x market r.0 r.1 in
    let after = left_is (after_claim x market) market r.0 r.1 in
    record {
      told = told_accepted x market r.0 r.1;
      some = omega (arith, before, c.one_less);
      accepted = c.accepted;
      one_less = omega (arith, before, after, c.one_less);
      closed = λ z. c.closed (sym after ∙ z);
      paying = λ z. c.paying (omega (arith, after, z));
    }

-- ---- claim after claim

named_claims : (n : ℕ) (x : Exchange) (market : ℕ) → Winding x market (marks x market) → count_of (marks x market) ≤ n
    → claims_named n x market ≡ map Call.Claim (members_of (marks x market))
unfolding claims_named
named_claims zero x market w h =
    ap (map Call.Claim) (sym (members_nothing (marks x market) (ap next_of (count_none (marks x market) w.small (omega (arith, h))) ∙ next_of_empty)))
named_claims (suc n) x market w h = go (next_of (marks x market)) refl (λ k. named_claims n (step_of x (Call.Claim k)).exchange market)
  where
    left : marks_left x market ≡ count_of (marks x market)
    left = left_is x market w.low w.high

    go : (v : Option ℕ) → next_of (marks x market) ≡ v
        → ((k : ℕ) → let y = (step_of x (Call.Claim k)).exchange in Winding y market (marks y market) → count_of (marks y market) ≤ n → claims_named n y market ≡ map Call.Claim (members_of (marks y market)))
        → claims_named (suc n) x market ≡ map Call.Claim (members_of (marks x market))
    go None e rec =
        ap (λ (t : Bool). cond t [] (next_claim x market ∷ claims_named n (after_claim x market) market))
        (eq-eqb (marks_left x market) 0 (left ∙ ap count_of (next_nothing (marks x market) w.small e) ∙ count_of_empty))
        ∙ ap (map Call.Claim) (sym (members_nothing (marks x market) e))
    go (Some k) e rec =
        let t = next_taken (marks x market) k e in
        let v = winding_next x market (marks x market) w k e in
        let less : marks (step_of x (Call.Claim k)).exchange market ≡ removed (marks x market) k = winding_tickets _ market _ v in
        let rest = rec k (subst (Winding (step_of x (Call.Claim k)).exchange market) (sym less) v) (omega (arith, ap count_of less, t.2, h)) in
        ap (λ (b : Bool). cond b [] (next_claim x market ∷ claims_named n (after_claim x market) market))
        (ne_eqb (marks_left x market) 0 (λ z. omega (arith, left, z, t.2)))
        ∙ ap (λ (j : ℕ). Call.Claim j ∷ claims_named n (step_of x (Call.Claim j)).exchange market) (named_is x market w.low w.high k e)
        ∙ ap (λ (cs : List Call). Call.Claim k ∷ cs) (rest ∙ ap (λ (s : ℕ). map Call.Claim (members_of s)) less)
        ∙ ap (map Call.Claim) (sym (members_next (marks x market) k e))

pub settled_closes : SettledCloses
unfolding closing_calls
settled_closes x l market at a b e n enough =
    let y : Exchange = (step_of x (Call.Settle market at)).exchange in
    let w = winding_settled x l market at a b e in
    let same : marks y market ≡ marks x market = winding_tickets y market _ w in
    let claims : claims_named n y market ≡ map Call.Claim (members_of (marks x market)) =
    named_claims n y market (subst (Winding y market) (sym same) w) (omega (arith, count_le (marks y market)))
    ∙ ap (λ (s : ℕ). map Call.Claim (members_of s)) same in
    let calls : host_calls n x market at ≡ closing_calls x market at = ap (λ (cs : List Call). Call.Settle market at ∷ cs) claims in
    let back : BackToClosed x market at (members_of (marks x market)) =
    settle_closes x l market at a b e (members_of (marks x market)) (members_named (marks x market) w.small) in
    record {
      calls = calls;
      accepted = subst (AllAccepted x) (sym calls) back.accepted;
      at_most = subst (λ (cs : List Call). length cs ≤ 65) (sym calls) back.at_most;
      closed = ap (λ (cs : List Call). phase (after_calls x cs) market) calls ∙ back.closed;
    }
