-- Every call and every list of orders is answered as specs/Answering.antt says, and no other answer is so.
use Prim.Native.Nat.{ℕ, zero, suc, ◌<◌}
use mathlib.Core.List.{List, [], ◌∷◌, map}
use mathlib.Core.Path.{◌∙◌, ◌≡◌, ap, refl, subst, sym}
use native.Mathlib.Decide.{ℕ_discrete}
use native.Mathlib.Omega.{arith}
use Rattle.model.specs.declared.state.Exchange.{Exchange}
use Rattle.model.specs.declared.call.Call.{Call}
use Rattle.model.specs.declared.orders.OrderFields.{OrderFields}
use Rattle.model.specs.declared.orders.AnswerPlace.{AnswerPlace}
use Rattle.model.specs.View.{View, view}
use Rattle.model.specs.Answers.{code_of, first_of, second_of}
use Rattle.model.specs.Refusals.{ListCoded}
use Rattle.model.specs.Answering.{AnswersAlone, CallsAnswered, ListsAlone, ListsAnswered, MadeSingly, SameAnswer, SamePlaces, made_none, made_next, same_none, same_next}
use Rattle.model.specs.OrderLists.{Listed, order_call, place_of}
use Rattle.model.specs.Run.{Reachable, after_call, after_calls, answers_to_calls, step_of}
use Rattle.model.proofs.Moves.{accepted_moves}
use Rattle.model.proofs.MovesAlone.{moves_alone}
use Rattle.model.proofs.OrderLists.{list_apart}
use Rattle.model.proofs.Refusals.{calls_coded, codes_alone, list_stays, lists_coded, refusals_stay}

-- ---- a call

pub calls_answered : CallsAnswered
calls_answered x l c =
    record {
      coded = calls_coded x l c;
      moves = accepted_moves x l c;
      zeros = λ h. ((refusals_stay x c h).0, (refusals_stay x c h).1);
      stays = λ h. ap view (refusals_stay x c h).2;
    }

pub answers_alone : AnswersAlone
answers_alone x y z c m a b n d e p q = go m refl (codes_alone x c m n p.coded q.coded)
  where
    go : (i : ℕ) → m ≡ i → n ≡ m → (n ≡ m) × (d ≡ a) × (e ≡ b) × (z ≡ y)
    go zero u w =
        let r = moves_alone c x y z a b d e (p.coded.accepted.0 u) (p.moves u) (q.moves (w ∙ u)) in
        (w, r.0, r.1, r.2)
    go (suc i) u w =
        let lm : 0 < m = omega (arith, u) in
        let ln : 0 < n = omega (arith, u, w) in
        (w, (q.zeros ln).0 ∙ sym (p.zeros lm).0, (q.zeros ln).1 ∙ sym (p.zeros lm).1, q.stays ln ∙ sym (p.stays lm))

-- ---- a list of orders

made_singly : (x : Exchange) → Reachable x → (fs : List OrderFields)
    → let cs : List Call = map order_call fs in
    MadeSingly (view x) fs (map place_of (answers_to_calls x cs)) (view (after_calls x cs))
unfolding after_calls answers_to_calls
made_singly x l [] = made_none
made_singly x l (f ∷ fs) = made_next (calls_answered x l (order_call f)) (made_singly (step_of x (order_call f)).exchange (after_call l (order_call f)) fs)

pub lists_answered : ListsAnswered
lists_answered x l fs ps =
    record {
      coded = (lists_coded x fs ps).0;
      zeros = ((lists_coded x fs ps).1, (lists_coded x fs ps).2);
      made =
          list_apart x fs ps (λ (d : Listed). code_of d.answer ≡ 0 → MadeSingly (view x) fs d.answers (view d.exchange))
          (λ e. absurd (omega (arith, e))) (λ e k z. made_singly x l fs);
      stays = λ e. (ap view (list_stays x fs ps e).0, (list_stays x fs ps e).1);
    }

singly_alone : (fs : List OrderFields) {x y z : View} {ps qs : List AnswerPlace} → MadeSingly x fs ps y → MadeSingly x fs qs z → SamePlaces ps qs × (z ≡ y)
singly_alone [] made_none made_none = (same_none, refl)
singly_alone (f ∷ fs) {x} {y} {z} (made_next {y = v} {p = p} {ps = ps} a more) (made_next {y = w} {p = q} {ps = qs} b also) =
    let r =
    answers_alone x v w (order_call f) (code_of p.answer) (first_of p.answer) (second_of p.answer) (code_of q.answer) (first_of q.answer) (second_of q.answer) a b in
    let t = singly_alone fs more (subst (λ (s : View). MadeSingly s fs qs z) r.3 also) in
    (same_next (r.0, r.1, r.2) t.0, t.1)

places_self : (ps : List AnswerPlace) → SamePlaces ps ps
places_self [] = same_none
places_self (p ∷ ps) = same_next (refl, refl, refl) (places_self ps)

-- a list's code is 0 or 22
list_code : {A : Type 0} (fs : List OrderFields) (ps : List AnswerPlace) (m : ℕ) → ListCoded fs ps m → (m ≡ 0 → A) → (m ≡ 22 → A) → A
list_code {A} fs ps m c f g = go (ℕ_discrete m 0) (ℕ_discrete m 22)
  where
    go : Dec (m ≡ 0) → Dec (m ≡ 22) → A
    go (yes e) d = f e
    go (no e) (yes d) = g d
    go (no e) (no d) = absurd (e (c.accepted.1 (λ h. d (c.refused.1 h))))

pub lists_alone : ListsAlone
lists_alone x y z fs before ps qs r s a b = list_code fs before (code_of r) a.coded accepted refused
  where
    zeros : (first_of s ≡ first_of r) × (second_of s ≡ second_of r)
    zeros = (b.zeros.0 ∙ sym a.zeros.0, b.zeros.1 ∙ sym a.zeros.1)

    accepted : code_of r ≡ 0 → SameAnswer r s × SamePlaces ps qs × (z ≡ y)
    accepted e =
        let d : code_of s ≡ 0 = b.coded.accepted.1 (a.coded.accepted.0 e) in
        let t = singly_alone fs (a.made e) (b.made d) in
        ((d ∙ sym e, zeros.0, zeros.1), t.0, t.1)

    refused : code_of r ≡ 22 → SameAnswer r s × SamePlaces ps qs × (z ≡ y)
    refused e =
        let d : code_of s ≡ 22 = b.coded.refused.1 (a.coded.refused.0 e) in
        ((d ∙ sym e, zeros.0, zeros.1), subst (SamePlaces ps) ((a.stays e).1 ∙ sym (b.stays d).1) (places_self ps), (b.stays d).0 ∙ sym (a.stays e).0)
