-- What the loop over a list of orders has made, and has left to make.
use mathlib.Core.Path.{◌≡◌, refl, sym, ◌∙◌, ap}
use Prim.Native.Nat.{ℕ, ◌+◌, ◌<◌, ◌≤◌}
use mathlib.Core.List.{List, [], ◌++◌, append_assoc, append-nil}
use lib.ListN.{length, get_or, set, take, drop}
use lib.Seq.{take-length, drop-cons, drop-length, take-suc-set}
use borrow.Author.Tests.{eq-eqb, le-ltb}
use Rattle.std.proofs.Common.{add-one, Ok}
use Rattle.units.specs.Ranges.{most_orders}
use Rattle.model.specs.declared.state.Exchange.{Exchange}
use Rattle.model.specs.declared.orders.OrderFields.{OrderFields}
use Rattle.model.specs.declared.orders.AnswerPlace.{AnswerPlace}
use Rattle.model.specs.declared.answer.Outcome.{Outcome}
use Rattle.model.specs.Run.{Reachable, after_call, step_of, after_calls, answers_to_calls}
use Rattle.model.specs.OrderLists.{list_done, orders_of, order_call, place_of}

-- with the first i orders of fs made on x, in state h and with answers zs: the others lead to what all of them do
pub record Made (x : Exchange) (fs : List OrderFields) (h : Exchange) (zs : List AnswerPlace) (i : ℕ) : Type 0 where
  pub reachable : Reachable h
  pub state : (list_done h (drop i fs)).exchange ≡ (list_done x fs).exchange
  pub answers : take i zs ++ (list_done h (drop i fs)).answers ≡ (list_done x fs).answers

pub none_made : {x : Exchange} → Reachable x → (fs : List OrderFields) (zs : List AnswerPlace) → Made x fs x zs 0
none_made l fs zs = record { reachable = l; state = refl; answers = refl }

-- one more
pub one_more : {x h : Exchange} {fs : List OrderFields} {zs : List AnswerPlace} {i : ℕ} (d : OrderFields) (o : Outcome) → o ≡ step_of h (order_call (get_or fs i d))
    → i < length fs → i < length zs → Made x fs h zs i → Made x fs o.exchange (set zs i (place_of o.answer)) (i + 1)
unfolding after_calls answers_to_calls
one_more {x} {h} {fs} {zs} {i} d o s l m k =
    let e = drop-cons fs i d l in
    rw (s, add-one i) (record {
      reachable = after_call k.reachable (order_call (get_or fs i d));
      state = rw e at k.state;
      answers = rw (take-suc-set zs i _ m) (append_assoc (take i zs) _ _ ∙ (rw e at k.answers));
    })

-- all of them
pub all_made : (x h : Exchange) (fs : List OrderFields) (ys zs : List AnswerPlace) → length fs ≡ length ys → length fs ≤ most_orders → length zs ≡ length ys
    → Made x fs h zs (length fs) → record { answer = Ok (0, 0); answers = zs; exchange = h } ≡ orders_of x fs ys
unfolding after_calls answers_to_calls orders_of
all_made x h fs ys zs e l n k =
    let state : h ≡ (list_done x fs).exchange = rw drop-length at k.state in
    let answers : zs ≡ (list_done x fs).answers =
    sym (append-nil zs) ∙ ap (λ (v : List AnswerPlace). v ++ []) (sym (take-length zs)) ∙ (rw (drop-length, e, ← n) at k.answers) in
    rw (eq-eqb (length fs) (length ys) e, le-ltb most_orders (length fs) l, state, answers) refl
