-- Lists of orders: a list by its two cases, the states that it leaves, and a list cut in two.
use Prim.Native.Nat.{ℕ, suc, ◌≤◌}
use mathlib.Core.Bool.{Bool, cond, false, true, not, ◌||◌}
use mathlib.Core.List.{List, [], ◌∷◌, ◌++◌, map, map-append}
use mathlib.Core.Path.{◌∙◌, ◌≡◌, ap, refl, subst, sym}
use native.Mathlib.Omega.{arith}
use lib.Dec.{eqb, ltb}
use lib.ListN.{length, length-append}
use borrow.Author.Tests.{eq-eqb, eqb-true, le-ltb, ltb-false}
use Rattle.units.specs.Ranges.{most_orders}
use Rattle.model.specs.OrderLists.{CutAlike, EmptyList, ListOfOne, Listed, ListsCut, NothingChanges, OrdersReachable, list_done, list_refused, order_call, orders_of, place_of}
use Rattle.model.specs.Run.{Reachable, after_call, after_calls, answers_to_calls, step_of}
use Rattle.model.specs.Answers.{Answer}
use Rattle.model.specs.declared.answer.Refusal.TheVariants.{BadOrderList}
use Rattle.model.specs.declared.call.Call.{Call}
use Rattle.model.specs.declared.orders.AnswerPlace.{AnswerPlace}
use Rattle.model.specs.declared.orders.OrderFields.{OrderFields}
use Rattle.model.specs.declared.state.Exchange.{Exchange}

-- ---- the two cases

-- by the two tests: lists that differ in length, or have more than 64 places, and lists that do not
pub tested : (n m : ℕ) (C : Bool → Type 0) → C true → (n ≡ m → n ≤ most_orders → C false) → C (not (eqb n m) || ltb most_orders n)
tested n m C r d = go (eqb n m) (ltb most_orders n) (eqb-true n m) (ltb-false most_orders n)
  where
    go : (s t : Bool) → (s ≡ true → n ≡ m) → (t ≡ false → n ≤ most_orders) → C (not s || t)
    go true true e l = r
    go true false e l = d (e refl) (l refl)
    go false t e l = r

-- what holds of the refused list and of the one that is made holds of the list
pub list_apart : (x : Exchange) (fs : List OrderFields) (ps : List AnswerPlace) (C : Listed → Type 0)
    → C (list_refused x ps BadOrderList) → (length fs ≡ length ps → length fs ≤ most_orders → C (list_done x fs)) → C (orders_of x fs ps)
unfolding orders_of
list_apart x fs ps C r d = tested (length fs) (length ps) (λ (t : Bool). C (cond t (list_refused x ps BadOrderList) (list_done x fs))) r d

list_accepted : (x : Exchange) (fs : List OrderFields) (ps : List AnswerPlace) → length fs ≡ length ps → length fs ≤ most_orders → orders_of x fs ps ≡ list_done x fs
unfolding orders_of
list_accepted x fs ps e l =
    ap (λ (t : Bool). cond t (list_refused x ps BadOrderList) (list_done x fs))
    (ap (λ (t : Bool). not t || ltb most_orders (length fs)) (eq-eqb (length fs) (length ps) e) ∙ le-ltb most_orders (length fs) l)

-- ---- states

reachable_calls : (x : Exchange) → Reachable x → (cs : List Call) → Reachable (after_calls x cs)
unfolding after_calls
reachable_calls x l [] = l
reachable_calls x l (c ∷ cs) = reachable_calls (step_of x c).exchange (after_call l c) cs

pub orders_reachable : OrdersReachable
orders_reachable x l fs ps = list_apart x fs ps (λ (d : Listed). Reachable d.exchange) l (λ e m. reachable_calls x l (map order_call fs))

-- ---- runs of calls, one after the other

calls_more : (x : Exchange) (cs ds : List Call) → after_calls x (cs ++ ds) ≡ after_calls (after_calls x cs) ds
unfolding after_calls
calls_more x [] ds = refl
calls_more x (c ∷ cs) ds = calls_more (step_of x c).exchange cs ds

answers_more : (x : Exchange) (cs ds : List Call) → answers_to_calls x (cs ++ ds) ≡ answers_to_calls x cs ++ answers_to_calls (after_calls x cs) ds
unfolding after_calls answers_to_calls
answers_more x [] ds = refl
answers_more x (c ∷ cs) ds = ap (λ (l : List Answer). (step_of x c).answer ∷ l) (answers_more (step_of x c).exchange cs ds)

-- as many answers as orders
pub all_answered : (x : Exchange) (fs : List OrderFields) → length (list_done x fs).answers ≡ length fs
unfolding answers_to_calls
all_answered x [] = refl
all_answered x (f ∷ fs) = ap suc (all_answered (step_of x (order_call f)).exchange fs)

-- ---- no order, and one

no_orders : (x : Exchange) → NothingChanges x [] (list_done x [])
unfolding after_calls answers_to_calls
no_orders x = record { state = refl; answers = refl }

pub empty_list : EmptyList
empty_list x [] = list_apart x [] [] (NothingChanges x []) (record { state = refl; answers = refl }) (λ e l. no_orders x)
empty_list x (p ∷ ps) = list_apart x [] (p ∷ ps) (NothingChanges x (p ∷ ps)) (record { state = refl; answers = refl }) (λ e l. absurd (omega (arith, e)))

pub list_of_one : ListOfOne
unfolding after_calls answers_to_calls
list_of_one x f p = list_accepted x (f ∷ []) (p ∷ []) refl (omega arith)

-- ---- a list cut in two

pub done_state : (x : Exchange) (fs gs : List OrderFields) → (list_done x (fs ++ gs)).exchange ≡ (list_done (list_done x fs).exchange gs).exchange
done_state x fs gs = ap (after_calls x) (map-append order_call fs gs) ∙ calls_more x (map order_call fs) (map order_call gs)

pub done_answers : (x : Exchange) (fs gs : List OrderFields) → (list_done x (fs ++ gs)).answers ≡ (list_done x fs).answers ++ (list_done (list_done x fs).exchange gs).answers
done_answers x fs gs =
    ap (λ (cs : List Call). map place_of (answers_to_calls x cs)) (map-append order_call fs gs)
    ∙ ap (map place_of) (answers_more x (map order_call fs) (map order_call gs))
    ∙ map-append place_of (answers_to_calls x (map order_call fs)) (answers_to_calls (after_calls x (map order_call fs)) (map order_call gs))

-- said of the lists that are made, and so of the calls that make them
cut_done : (x : Exchange) (fs gs : List OrderFields) → CutAlike (list_done x (fs ++ gs)) (list_done x fs) (list_done (list_done x fs).exchange gs)
cut_done x fs gs =
    record { state = done_state x fs gs; answers = done_answers x fs gs; whole_accepted = refl; first_accepted = refl; second_accepted = refl }

pub lists_cut : ListsCut
lists_cut x fs gs ps qs e d l =
    let n : length (fs ++ gs) ≡ length (ps ++ qs) = omega (arith, length-append fs gs, length-append ps qs, e, d) in
    let first : orders_of x fs ps ≡ list_done x fs = list_accepted x fs ps e (omega (arith, length-append fs gs, l)) in
    let second : orders_of (orders_of x fs ps).exchange gs qs ≡ list_done (list_done x fs).exchange gs =
    list_accepted (orders_of x fs ps).exchange gs qs d (omega (arith, length-append fs gs, l)) ∙ ap (λ (v : Listed). list_done v.exchange gs) first in
    subst (λ (w : Listed). CutAlike w (orders_of x fs ps) (orders_of (orders_of x fs ps).exchange gs qs)) (sym (list_accepted x (fs ++ gs) (ps ++ qs) n l))
    (subst (λ (v : Listed). CutAlike (list_done x (fs ++ gs)) v (orders_of (orders_of x fs ps).exchange gs qs)) (sym first)
    (subst (λ (v : Listed). CutAlike (list_done x (fs ++ gs)) (list_done x fs) v) (sym second) (cut_done x fs gs)))
