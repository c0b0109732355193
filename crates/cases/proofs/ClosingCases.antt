-- The closing of a market in given states, computed; and the statements on it used and refused.
use Rattle.std.specs.Prelude.{Ok}
use Prim.Native.Nat.{ℕ, zero, suc, ◌+◌, ◌≤◌}
use mathlib.Core.Bool.{Bool, true, cond}
use mathlib.Core.Path.{◌≡◌, ◌∙◌, ap, refl, subst, sym}
use mathlib.Core.List.{List, [], ◌∷◌, map}
use native.Mathlib.Omega.{arith}
use lib.Dec.{eqb}
use borrow.Author.Tests.{ne_eqb}
use Rattle.ticket_set.specs.TicketSet.{bit, members_from, members_of}
use Rattle.ticket_set.proofs.Bits.{bit_inserted_other}
use Rattle.ticket_set.proofs.Laws.{bit_of_empty}
use Rattle.model.specs.declared.state.Exchange.{Exchange}
use Rattle.model.specs.declared.call.Call.{Call}
use Rattle.model.specs.declared.call.Call.TheVariants.{Settle, Claim}
use Rattle.model.specs.State.{phase, is_closed, is_auction}
use Rattle.model.specs.Answers.{code_of}
use Rattle.model.specs.Run.{step_of, after_calls}
use Rattle.model.specs.Closing.{AllAccepted, next_call, times, Names, closing_calls}
use Rattle.model.specs.Scripts.{calls_of}
use Rattle.model.specs.Day.{day_orders, day_collect}
use Rattle.cases.specs.Examples.{last_blocks}
use Rattle.cases.specs.KindCases.{numbers_from}
use Rattle.cases.specs.ClosingCases.{day_over, day_sold, last_auction, all_marked, closing_numbers, ClosingUsed, ClosingRefused}
use Rattle.model.proofs.Computing.{call_computes}

-- ---- the calls

-- lowest first, and 65 of them for 64 tickets
pub day_closing : closing_calls day_over 1 25 ≡ Settle 1 25 ∷ Claim 0 ∷ Claim 1 ∷ []
unfolding day_orders day_collect after_calls closing_calls members_from members_of call_computes
day_closing = refl

pub all_closing : closing_calls all_marked 3 9 ≡ Settle 3 9 ∷ map Claim (numbers_from 64 0)
unfolding closing_calls members_from members_of numbers_from call_computes
all_closing = refl

pub times_counted : map (λ k. times k (3 ∷ 5 ∷ 3 ∷ [])) (3 ∷ 4 ∷ 5 ∷ []) ≡ 2 ∷ 0 ∷ 1 ∷ []
unfolding times
times_counted = refl

-- such states are there, and the day's settle is accepted
pub states_there : map closing_numbers (day_over ∷ last_auction ∷ []) ≡ (14 ∷ 10 ∷ 3 ∷ 25 ∷ []) ∷ (4294967284 ∷ 10 ∷ 1 ∷ 4294967295 ∷ []) ∷ []
unfolding day_orders day_collect last_blocks calls_of after_calls call_computes
states_there = refl

pub auctions_there : map (λ x. is_auction (phase x 1)) (day_over ∷ last_auction ∷ []) ≡ true ∷ true ∷ []
unfolding day_orders day_collect last_blocks calls_of after_calls call_computes
auctions_there = refl

pub settle_there : (step_of day_sold (Settle 1 19)).answer ≡ Ok (600, 300)
unfolding day_orders day_collect after_calls call_computes
settle_there = refl

-- ---- the statements

-- tickets 0 and 1, the other way round
both_named : Names 3 (1 ∷ 0 ∷ [])
unfolding times call_computes
both_named = record { each = go }
  where
    go : (k : ℕ) → times k (1 ∷ 0 ∷ []) ≡ bit 3 k
    go zero = refl
    go (suc zero) = refl
    go (suc (suc n)) =
        ap (λ (q : Bool). cond q 1 0 + (cond (eqb 0 (suc (suc n))) 1 0 + 0)) (ne_eqb 1 (suc (suc n)) (λ e. omega (arith, e)))
        ∙ ap (λ (q : Bool). 0 + (cond q 1 0 + 0)) (ne_eqb 0 (suc (suc n)) (λ e. omega (arith, e)))
        ∙ sym
        (bit_inserted_other 1 1 (suc (suc n)) (λ e. omega (arith, e))
        ∙ bit_inserted_other 0 0 (suc (suc n)) (λ e. omega (arith, e))
        ∙ bit_of_empty (suc (suc n)))

named_in : {s : ℕ} → s ≡ 3 → Names s (1 ∷ 0 ∷ [])
named_in e = subst (λ (s : ℕ). Names s (1 ∷ 0 ∷ [])) (sym e) both_named

pub closing_used : ClosingUsed
closing_used =
    record {
      winds_up =
          λ w x h r p s l t b.
          let c = w x h 1 r p 25 (omega (arith, s, l)) (omega (arith, b)) (1 ∷ 0 ∷ []) (named_in t) in
          record { accepted = c.accepted; closed = c.closed };
      settle_closes =
          λ w x h a t.
          let c = w x h 1 19 600 300 a (1 ∷ 0 ∷ []) (named_in t) in
          record { accepted = c.accepted; closed = c.closed };
      can_close = λ w x h b r p s l. w x h (omega (arith, b)) 1 r p (omega (arith, s, l));
    }

-- the first call of an accepted list is, and so are those after it
first_code : {x : Exchange} {c : Call} {cs : List Call} → AllAccepted x (c ∷ cs) → code_of (step_of x c).answer ≡ 0
first_code (next_call e a) = e

later_calls : {x : Exchange} {c : Call} {cs : List Call} → AllAccepted x (c ∷ cs) → AllAccepted (step_of x c).exchange cs
later_calls (next_call e a) = a

pub closing_refused : ClosingRefused
unfolding day_orders day_collect after_calls times call_computes
closing_refused =
    record {
      left_out = λ n. let h : ◌≡◌ {A = ℕ} 0 1 = n.each 1 in omega (arith, h);
      named_twice = λ n. let h : ◌≡◌ {A = ℕ} 2 1 = n.each 1 in omega (arith, h);
      not_marked = λ n. let h : ◌≡◌ {A = ℕ} 1 0 = n.each 2 in omega (arith, h);
      too_many = λ x b. let h : 66 ≤ 65 = b.at_most in omega (arith, h);
      still_paying = λ b. let h = ap is_closed b.closed in absurd (let z : ◌≡◌ {A = ℕ} 0 1 = cc in omega arith);
      claim_refused = λ b. let h : ◌≡◌ {A = ℕ} 9 0 = first_code (later_calls (later_calls (later_calls b.accepted))) in omega (arith, h);
    }
