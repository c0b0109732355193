-- Kinds, fields, codes and answers, computed.
use Rattle.std.specs.Prelude.{Ok, Some, None}
use Prim.Native.Nat.{◌<◌, ◌≤◌}
use mathlib.Core.Path.{◌≡◌, refl, subst, sym}
use mathlib.Core.List.{[], ◌∷◌, ◌++◌, map}
use lib.ListN.{length, replicate}
use native.Mathlib.Omega.{arith}
use Rattle.units.specs.Decimal.{digits}
use Rattle.model.specs.declared.state.Exchange.{Exchange}
use Rattle.model.specs.declared.call.Call.TheVariants.{Claim, Leave}
use Rattle.model.specs.Answers.{Answer, refusal_code, answer_line}
use Rattle.model.specs.Calls.{deposit_of, withdraw_of, order_of, cancel_of, open_of, enter_of, match_of, bid_of, settle_of, claim_of, leave_of}
use Rattle.model.specs.Run.{step_of}
use Rattle.model.specs.Kinds.{kinds, numbers_of_call, codes_in}
use Rattle.model.specs.Codes.{codes_of, Rising}
use Rattle.cases.specs.KindCases.{CallSteps, claim_request, leave_request, RoomUsed, LeaveRoomUsed, RoomsUsed, done_code, each_call, each_numbers, each_codes, test_codes, numbers_from, row_call, row_more, row_fewer, refusals, answer_numbers, answers, answer_texts}
use Rattle.model.proofs.Codes.{rooms_first}

-- a call's numbers are its kind and its fields in their order, and a kind's row makes the call of its fields
pub each_numbers_lem : map numbers_of_call each_call ≡ each_numbers
unfolding each_call each_numbers
each_numbers_lem = refl

pub each_rows : map row_call kinds ≡ map Some each_call
unfolding each_call numbers_from
each_rows = refl

pub rows_exact : map row_more kinds ++ map row_fewer kinds ≡ replicate 22 None
unfolding numbers_from
rows_exact = refl

-- the codes that a call tests, in any state and in its kind's row
pub each_codes_lem : (x : Exchange) → map (test_codes x) each_call ≡ each_codes
unfolding each_call each_codes
each_codes_lem x = refl

pub each_kinds : map codes_of each_call ≡ each_codes
unfolding each_call each_codes
each_kinds = refl

-- where none of them applies, the call is accepted
pub each_done : (x : Exchange) → map (done_code x) each_call ≡ replicate 11 0
unfolding each_call
each_done x = refl

pub no_kind : codes_in kinds 0 ++ codes_in kinds 12 ≡ []
no_kind = refl

-- two codes that are the same do not rise, nor does a list that falls at its end
pub not_rising : (Rising (1 ∷ 1 ∷ []) → ⊥) × (Rising (1 ∷ 2 ∷ 2 ∷ []) → ⊥) × (Rising (2 ∷ 1 ∷ 3 ∷ []) → ⊥)
not_rising = (λ r. omega (arith, r.0), λ r. omega (arith, r.1.0), λ r. omega (arith, r.0))

pub call_steps : (x : Exchange) → CallSteps x
unfolding step_of deposit_of withdraw_of order_of cancel_of open_of enter_of match_of bid_of settle_of claim_of leave_of
call_steps x =
    record {
      deposit_is = λ m t n. refl;
      withdraw_is = λ m t n. refl;
      order_is = λ k m mk sd lim n. refl;
      cancel_is = λ k m. refl;
      open_is = λ mk at r w len. refl;
      enter_is = λ k. refl;
      match_is = λ mk at. refl;
      bid_is = λ mk m at sd n bound. refl;
      settle_is = λ mk at. refl;
      claim_is = λ k. refl;
      leave_is = λ k m. refl;
    }

claim_room : (x : Exchange) → (step_of x (Claim 63)).answer ≡ Ok (4, 3) → RoomUsed x
unfolding answer_line digits
claim_room x e =
    record {
      short = (rooms_first x (claim_request 40 8 63)).short (subst (λ (a : Answer). 8 < length (answer_line 40 a)) (sym e) (omega arith));
      enough = (rooms_first x (claim_request 40 9 63)).enough (subst (λ (a : Answer). length (answer_line 40 a) ≤ 9) (sym e) (omega arith));
    }

leave_room : (x : Exchange) → (step_of x (Leave 0 0)).answer ≡ Ok (600, 0) → LeaveRoomUsed x
unfolding answer_line digits
leave_room x e =
    record {
      short = (rooms_first x (leave_request 17 10 0 0)).short (subst (λ (a : Answer). 10 < length (answer_line 17 a)) (sym e) (omega arith));
      enough = (rooms_first x (leave_request 17 11 0 0)).enough (subst (λ (a : Answer). length (answer_line 17 a) ≤ 11) (sym e) (omega arith));
    }

pub rooms_used : (x : Exchange) → RoomsUsed x
rooms_used x = record { claim = claim_room x; leave = leave_room x }

-- "1" to "21"
pub refusals_numbered : map refusal_code refusals ≡ numbers_from 22 1
unfolding refusals numbers_from
refusals_numbered = refl

pub answers_numbered : map answer_numbers answers ≡ (0, 7, 8) ∷ (20, 0, 0) ∷ (21, 0, 0) ∷ []
unfolding answers
answers_numbered = refl

pub answers_written : map (answer_line 51) answers ≡ answer_texts
unfolding answers answer_texts answer_line digits
answers_written = refl
