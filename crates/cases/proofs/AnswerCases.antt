-- The statements of when a call is refused and what it moves, used.
use Prim.Native.Nat.{ℕ, suc, ◌+◌, ◌*◌, ◌<◌, ◌≤◌}
use mathlib.Core.List.{List}
use mathlib.Core.Logic.{inl, inr, ⊎_elim}
use mathlib.Core.Path.{◌∙◌, ◌≡◌, ap, refl, subst, subst₂, sym}
use native.Mathlib.Omega.{arith}
use lib.ListN.{length}
use Rattle.units.specs.Rounding.{RoundedDown, RoundedUp}
use Rattle.ticket_set.specs.TicketSet.{bit}
use Rattle.units.proofs.Tested.{at_least}
use Rattle.model.specs.declared.state.Order.{Order}
use Rattle.model.specs.declared.state.Round.{Round}
use Rattle.model.specs.declared.state.Phase.{Phase}
use Rattle.model.specs.declared.state.TicketState.{TicketState}
use Rattle.model.specs.declared.state.TicketState.TheVariants.{Entered, Resting}
use Rattle.model.specs.declared.call.Call.{Call}
use Rattle.model.specs.declared.call.Call.TheVariants.{Deposit, Withdraw, Order as Place, Cancel, Open, Enter, Match, Bid, Settle, Claim, Leave}
use Rattle.model.specs.declared.orders.AnswerPlace.{AnswerPlace}
use Rattle.model.specs.declared.orders.OrderFields.{OrderFields}
use Rattle.model.specs.State.{balance, order_in, round_in, supply, ticket}
use Rattle.model.specs.View.{View, view}
use Rattle.model.specs.Refusals.{Priced, bad_order_list}
use Rattle.model.specs.Moves.{Moved}
use Rattle.model.proofs.Refusals.{Unmet, prices_alone, unmet}
use Rattle.cases.specs.AnswerCases.{AnswersUsed, KindsSay, ListsUsed, after, code_after, first_after, second_after}

pub answers_used : AnswersUsed
answers_used =
    record {
      accepts = λ w x l c. (w x l c).coded.accepted.1;
      accepted = λ w x l c. (w x l c).coded.accepted.0;
      refuses = λ w x l c n p. ((w x l c).coded.refused n p).1;
      refused = λ w x l c n p. ((w x l c).coded.refused n p).0;
      moves = λ w x l c. (w x l c).moves;
      zeros = λ w x l c. (w x l c).zeros;
      stays = λ w x l c p m t. ap (λ (v : View). v.balance m t) ((w x l c).stays p);
      alone = λ u w x l c n d e z h. u (view x) (view (after x c)) z c (code_after x c) (first_after x c) (second_after x c) n d e (w x l c) h;
      one_state = λ t u w x l c n d e y k h r.
          t y (after x c) k r (u (view x) (view (after x c)) (view y) c (code_after x c) (first_after x c) (second_after x c) n d e (w x l c) h).3;
      kept = λ r x c p. r x c p;
      leave_fields = λ f k m. f (Leave k m);
      fresh_balances = λ f m t p q. f.balances m t (omega (arith, p)) (omega (arith, q));
      fresh_tokens = λ f t p. (f.supplies t (omega (arith, p)), f.residues t (omega (arith, p)));
      fresh_tickets = λ f k p. f.tickets k (omega (arith, p));
      fresh_markets = λ f n p q. f.phases n (omega (arith, p)) (omega (arith, q));
      fresh_last = λ f. f.block;
    }

-- lists of one length of 64 at most
fitting : (fs : List OrderFields) (ps : List AnswerPlace) → length fs ≡ length ps → length fs ≤ 64 → bad_order_list fs ps → ⊥
fitting fs ps e h = ⊎_elim (λ n. n e) (⊎_elim (λ l. omega (arith, l, h)) (λ l. omega (arith, l, h, e)))

pub lists_used : ListsUsed
lists_used =
    record {
      too_long = λ w x l fs ps h. (w x l fs ps).coded.refused.1 (inr (inl h));
      too_many = λ w x l fs ps h. (w x l fs ps).coded.refused.1 (inr (inr h));
      fewer = λ w x l fs ps h. (w x l fs ps).coded.refused.1 (inl (λ e. omega (arith, h, e)));
      more = λ w x l fs ps h. (w x l fs ps).coded.refused.1 (inl (λ e. omega (arith, h, e)));
      fits = λ w x l fs ps e h. (w x l fs ps).made ((w x l fs ps).coded.accepted.1 (fitting fs ps e h));
      zeros = λ w x l fs ps. (w x l fs ps).zeros;
      alone = λ u w x l fs ps qs s z h. u (view x) _ z fs ps _ qs _ s (w x l fs ps) h;
      anywhere = λ r x fs ps. r x fs ps;
      kept = λ r x fs ps. r x fs ps;
    }

-- ---- kind by kind

resting_order : (t : TicketState) (o : Order) → t ≡ Resting o → order_in t ≡ o
resting_order t o e = ap order_in e

entered_order : (t : TicketState) (o : Order) → t ≡ Entered o → order_in t ≡ o
entered_order t o e = ap order_in e

-- a number that is not 0
some : (n : ℕ) → (n ≡ 0 → ⊥) → 1 ≤ n
some n h = at_least n 1 (λ l. h (omega (arith, l)))

pub kinds_say : KindsSay
kinds_say =
    record {
      deposit = λ m t n w x l e.
          let c : Call = Deposit m t n in
          let u : Unmet (view x) c = unmet (view x) c ((w x l c).coded.accepted.0 e) in
          let v : Moved c (view x) (view (after x c)) (first_after x c) (second_after x c) = (w x l c).moves e in (
            at_least 15 m (λ h. u.no_1 (inl refl, h)),
            at_least 3 t (λ h. u.no_2 (inr (inl refl), h)),
            some n (λ e. u.no_6 (inl (inl refl, e))),
            at_least 4294967295 (supply x t + n) (λ h. u.no_14 (inl refl, h)),
            v.gains.own,
            v.supplied,
            v.first,
            v.second,
          );
      withdraw = λ m t n w x l e.
          let c : Call = Withdraw m t n in
          let u : Unmet (view x) c = unmet (view x) c ((w x l c).coded.accepted.0 e) in
          let v : Moved c (view x) (view (after x c)) (first_after x c) (second_after x c) = (w x l c).moves e in (
            at_least 15 m (λ h. u.no_1 (inl refl, h)),
            at_least 3 t (λ h. u.no_2 (inr (inl refl), h)),
            some n (λ e. u.no_6 (inl (inr (inl refl), e))),
            at_least (balance x m t) n (λ h. u.no_19 (inl (inl refl, h))),
            v.loses.own,
            v.supplied,
            v.first,
            v.second,
          );
      order = λ k m mk side limit n w x l e.
          let c : Call = Place k m mk side limit n in
          let u : Unmet (view x) c = unmet (view x) c ((w x l c).coded.accepted.0 e) in
          let v : Moved c (view x) (view (after x c)) (first_after x c) (second_after x c) = (w x l c).moves e in (
            at_least 63 k (λ h. u.no_4 (inl refl, h)),
            at_least 15 m (λ h. u.no_1 (inr (inl refl), h)),
            at_least mk 1 (λ h. u.no_3 (inr (inr (inl refl)), inl h)),
            at_least 3 mk (λ h. u.no_3 (inr (inr (inl refl)), inr h)),
            at_least 1 side (λ h. u.no_5 (inr (inr (inr (inl refl))), h)),
            at_least limit 1 (λ h. u.no_6 (inr (inl refl, inl h))),
            at_least 2000000000 limit (λ h. u.no_6 (inr (inl refl, inr h))),
            some n (λ e. u.no_6 (inl (inr (inr (inl refl)), e))),
            v.was,
            ap (λ (o : Order). o.member) (resting_order _ _ v.now) ∙ v.order_is.member,
            ap (λ (o : Order). o.offer.0) (resting_order _ _ v.now) ∙ v.order_is.offer,
            v.first,
            v.second,
          );
      cancel = λ k m w x l e.
          let c : Call = Cancel k m in
          let u : Unmet (view x) c = unmet (view x) c ((w x l c).coded.accepted.0 e) in
          let v : Moved c (view x) (view (after x c)) (first_after x c) (second_after x c) = (w x l c).moves e in (
            at_least 63 k (λ h. u.no_4 (inl refl, h)),
            at_least 15 m (λ h. u.no_1 (inr (inl refl), h)),
            ap (λ (o : Order). o.member) (resting_order _ _ v.was) ∙ v.whose,
            v.now,
            v.first ∙ sym (ap (λ (o : Order). o.offer.0) (resting_order _ _ v.was)),
            v.second,
          );
      open_round = λ mk at r s len w x l e.
          let c : Call = Open mk at r s len in
          let u : Unmet (view x) c = unmet (view x) c ((w x l c).coded.accepted.0 e) in
          let v : Moved c (view x) (view (after x c)) (first_after x c) (second_after x c) = (w x l c).moves e in (
            at_least mk 1 (λ h. u.no_3 (inl refl, inl h)),
            at_least 3 mk (λ h. u.no_3 (inl refl, inr h)),
            at_least r 1 (λ h. u.no_10 (inl refl, inl (inl h))),
            at_least 1000000000 r (λ h. u.no_10 (inl refl, inl (inr h))),
            at_least 500000 s (λ h. u.no_10 (inl refl, inr (inl h))),
            at_least len 1 (λ h. u.no_10 (inl refl, inr (inr (inl h)))),
            at_least 64 len (λ h. u.no_10 (inl refl, inr (inr (inr h)))),
            at_least at (view x).last (λ h. u.no_12 (inl refl, h)),
            v.was,
            v.one_market.block,
            subst (λ (q : ℕ). RoundedDown (r * (1000000 + s)) 1000000 q) (sym v.first) v.hi,
            λ q e.
                let t : v.rest ≡ q = omega (arith, e, v.rest_is) in
                subst₂ (λ (p : ℕ) (z : ℕ). RoundedUp (r * p) 1000000 z) t (sym v.second) v.lo,
          );
      enter = λ k w x l e.
          let c : Call = Enter k in
          let u : Unmet (view x) c = unmet (view x) c ((w x l c).coded.accepted.0 e) in
          let v : Moved c (view x) (view (after x c)) (first_after x c) (second_after x c) = (w x l c).moves e in (
            at_least 63 k (λ h. u.no_4 (inl refl, h)),
            v.was ∙ ap Resting (sym (resting_order _ _ v.was)),
            v.now ∙ ap Entered (sym (resting_order _ _ v.was)),
            v.second,
          );
      match_round = λ mk at w x l e.
          let c : Call = Match mk at in
          let u : Unmet (view x) c = unmet (view x) c ((w x l c).coded.accepted.0 e) in
          let v : Moved c (view x) (view (after x c)) (first_after x c) (second_after x c) = (w x l c).moves e in (
            at_least mk 1 (λ h. u.no_3 (inl refl, inl h)),
            at_least 3 mk (λ h. u.no_3 (inl refl, inr h)),
            at_least at (view x).last (λ h. u.no_12 (inr (inl refl), h)),
            subst (λ (r : Round). r.opened.0 + 4 ≤ at) (sym (ap round_in v.was))
                (at_least at (v.before.opened.0 + 4) (λ h. u.no_13 (inl (inl refl, (v.before, (v.was, h)))))),
            v.one_market.block,
            ap (λ (p : Phase). (round_in p).start.0) v.now ∙ v.start,
            ap (λ (p : Phase). (round_in p).buys.paid.0) v.now ∙ v.buys_paid,
            ap (λ (p : Phase). (round_in p).buys.got.0) v.now ∙ v.buys_got,
          );
      bid_one = λ mk m at n bound w x l e.
          let c : Call = Bid mk m at 1 n bound in
          let u : Unmet (view x) c = unmet (view x) c ((w x l c).coded.accepted.0 e) in
          let v : Moved c (view x) (view (after x c)) (first_after x c) (second_after x c) = (w x l c).moves e in (
            at_least 15 m (λ h. u.no_1 (inr (inl refl), h)),
            some n (λ e. u.no_6 (inl (inr (inr (inr (inl refl))), e))),
            at_least at (view x).last (λ h. u.no_12 (inr (inr (inl refl)), h)),
            subst (λ (r : Round). at ≤ r.start.0 + r.length) (sym (ap round_in v.was))
                (at_least (v.before.start.0 + v.before.length) at (λ h. u.no_16 (inl refl, (v.before, (v.was, h))))),
            subst (λ (r : Round). r.sells.paid.0 + n ≤ r.sells.total.0) (sym (ap round_in v.was))
                (at_least v.before.sells.total.0 (v.before.sells.paid.0 + n) (λ h. u.no_17 (inl refl, (v.before, (v.was, inl (refl, h)))))),
            at_least bound (second_after x c)
                (λ h. u.no_18 (inl refl, (v.before, (v.was, inl (refl, (second_after x c, (((v.sell, v.buy), (v.priced, (v.on_one refl).quote_is)), h))))))),
            (v.on_one refl).pays,
            (v.on_one refl).gets,
            v.first,
            λ p q h.
                let e = prices_alone v.before at v.sell v.buy p q v.priced (subst (λ (r : Round). Priced r at p q) (ap round_in v.was) h) in
                subst (λ (z : ℕ). RoundedUp (n * z) 1000000 (second_after x c)) (sym e.0) (v.on_one refl).quote_is,
          );
      bid_zero = λ mk m at n bound w x l e.
          let c : Call = Bid mk m at 0 n bound in
          let u : Unmet (view x) c = unmet (view x) c ((w x l c).coded.accepted.0 e) in
          let v : Moved c (view x) (view (after x c)) (first_after x c) (second_after x c) = (w x l c).moves e in (
            at_least 15 m (λ h. u.no_1 (inr (inl refl), h)),
            some n (λ e. u.no_6 (inl (inr (inr (inr (inl refl))), e))),
            at_least at (view x).last (λ h. u.no_12 (inr (inr (inl refl)), h)),
            subst (λ (r : Round). at ≤ r.start.0 + r.length) (sym (ap round_in v.was))
                (at_least (v.before.start.0 + v.before.length) at (λ h. u.no_16 (inl refl, (v.before, (v.was, h))))),
            some (second_after x c) (λ e. u.no_17 (inl refl, (v.before, (v.was, inr (refl, (second_after x c, (((v.sell, v.buy), (v.priced, (v.on_zero refl).quote_is)), inl e))))))),
            subst (λ (r : Round). r.buys.paid.0 + second_after x c ≤ r.buys.total.0) (sym (ap round_in v.was))
                (at_least v.before.buys.total.0 (v.before.buys.paid.0 + second_after x c)
                (λ h. u.no_17 (inl refl, (v.before, (v.was, inr (refl, (second_after x c, (((v.sell, v.buy), (v.priced, (v.on_zero refl).quote_is)), inr h)))))))),
            at_least (second_after x c) bound
                (λ h. u.no_18 (inl refl, (v.before, (v.was, inr (refl, (second_after x c, (((v.sell, v.buy), (v.priced, (v.on_zero refl).quote_is)), h))))))),
            (v.on_zero refl).gives,
            (v.on_zero refl).gets,
            v.first,
            λ p q h.
                let e = prices_alone v.before at v.sell v.buy p q v.priced (subst (λ (r : Round). Priced r at p q) (ap round_in v.was) h) in
                subst (λ (z : ℕ). RoundedDown (n * z) 1000000 (second_after x c)) (sym e.1) (v.on_zero refl).quote_is,
          );
      settle = λ mk at w x l e.
          let c : Call = Settle mk at in
          let u : Unmet (view x) c = unmet (view x) c ((w x l c).coded.accepted.0 e) in
          let v : Moved c (view x) (view (after x c)) (first_after x c) (second_after x c) = (w x l c).moves e in (
            at_least mk 1 (λ h. u.no_3 (inl refl, inl h)),
            at_least 3 mk (λ h. u.no_3 (inl refl, inr h)),
            at_least at (view x).last (λ h. u.no_12 (inr (inr (inr (inl refl))), h)),
            v.one_market.block,
            v.first ∙ sym (ap (λ (p : Phase). (round_in p).buys.paid.0) v.was),
            v.second ∙ sym (ap (λ (p : Phase). (round_in p).sells.paid.0) v.was),
            subst (λ (r : Round). first_after x c < r.buys.total.0 → r.start.0 + r.length < at) (sym (ap round_in v.was))
                (λ g. at_least at (suc (v.round.start.0 + v.round.length))
                (λ h. u.no_13 (inr (inl refl, (v.round, (v.was, (inl (omega (arith, g, v.first)), omega (arith, h)))))))),
            subst (λ (r : Round). second_after x c < r.sells.total.0 → r.start.0 + r.length < at) (sym (ap round_in v.was))
                (λ g. at_least at (suc (v.round.start.0 + v.round.length))
                (λ h. u.no_13 (inr (inl refl, (v.round, (v.was, (inr (omega (arith, g, v.second)), omega (arith, h)))))))),
            subst (λ (r : Round). ((k : ℕ) → bit r.tickets k ≡ 0) → (r.quote.0 ≡ 0) × (r.base.0 ≡ 0)) (sym (ap round_in v.was)) v.nothing,
          );
      claim = λ k w x l e.
          let c : Call = Claim k in
          let u : Unmet (view x) c = unmet (view x) c ((w x l c).coded.accepted.0 e) in
          let v : Moved c (view x) (view (after x c)) (first_after x c) (second_after x c) = (w x l c).moves e in
          let o : order_in (ticket x k) ≡ v.order = entered_order _ _ v.was in
          let n : (order_in (ticket x k)).offer.0 ≡ v.order.offer.0 = ap (λ (d : Order). d.offer.0) o in (
            at_least 63 k (λ h. u.no_4 (inl refl, h)),
            v.was ∙ ap Entered (sym o),
            omega (arith, v.left_is, n),
            λ e. v.free (omega (arith, v.left_is, n, e)),
          );
      leave = λ k m w x l e.
          let c : Call = Leave k m in
          let u : Unmet (view x) c = unmet (view x) c ((w x l c).coded.accepted.0 e) in
          let v : Moved c (view x) (view (after x c)) (first_after x c) (second_after x c) = (w x l c).moves e in (
            at_least 63 k (λ h. u.no_4 (inl refl, h)),
            at_least 15 m (λ h. u.no_1 (inr (inl refl), h)),
            ap (λ (o : Order). o.member) (entered_order _ _ v.was) ∙ v.whose,
            v.now ∙ ap Resting (sym (entered_order _ _ v.was)),
            v.first ∙ sym (ap (λ (o : Order). o.offer.0) (entered_order _ _ v.was)),
            v.second,
          );
    }
