-- A call's code is that of the first of document 01's conditions that holds (specs/Refusals.antt).
use Prim.Native.Nat.{ℕ, zero, suc, ◌+◌, ◌-◌, ◌*◌, ◌<◌, ◌≤◌}
use mathlib.Core.Bool.{Bool, true, false, cond, not, ◌||◌}
use mathlib.Core.List.{List, [], ◌∷◌}
use mathlib.Core.Logic.{◌⊎◌, inl, inr, ⊎_elim}
use mathlib.Core.Path.{◌∙◌, ◌≡◌, ap, refl, subst, subst₂, sym}
use native.Mathlib.Omega.{arith}
use lib.Dec.{eqb, ltb}
use lib.ListN.{length}
use borrow.Author.Tests.{eqb-true, ltb-false, ltb-true, not-false}
use Rattle.units.specs.Rounding.{RoundedDown, RoundedUp}
use Rattle.units.proofs.Decide.{or_false as neither}
use Rattle.units.proofs.Tested.{apart, at_least, eq?, must, not?, or_yes}
use Rattle.pricing.specs.declared.Side.TheVariants.{Buy, Sell}
use Rattle.pricing.specs.Laws.{PricedAt}
use Rattle.pricing.specs.Prices.{auction_price}
use Rattle.pricing.proofs.Meanings.{prices_are}
use Rattle.model.specs.Answering.{ListStays, ListsCoded, RefusedStays}
use Rattle.model.specs.Answers.{code_of, first_of, second_of}
use Rattle.model.specs.Bounds.{PhaseBounds, RoundBounds}
use Rattle.model.specs.OrderLists.{Listed, list_done, list_refused, orders_of}
use Rattle.model.specs.Refusals.{Carries, Coded, First, Has, Holds, HoldsIn, InAuction, ListCoded, Of, Priced, QuoteSell, QuoteBuy, amount, auction_over, bad_amount_or_limit, bad_order_list, bad_terms, block, bound, bound_missed, conditions, insufficient_balance, limit_out_of_bounds, market, member, no_such_market, no_such_member, no_such_order, no_such_side, no_such_ticket, no_such_token, not_available, phase_of, side, stale_block, supply_exceeded, the, ticket_in_use, ticket_of, too_early, wrong_phase, wrong_ticket_state}
use Rattle.model.specs.Run.{Reachable, step_of}
use Rattle.model.specs.State.{is_free, last_block, order_in, phase, round_in}
use Rattle.model.specs.View.{View, view}
use Rattle.model.specs.declared.answer.Outcome.{Outcome}
use Rattle.model.specs.declared.answer.Refusal.TheVariants.{BadOrderList}
use Rattle.model.specs.declared.call.Call.{Call}
use Rattle.model.specs.declared.orders.AnswerPlace.{AnswerPlace}
use Rattle.model.specs.declared.orders.OrderFields.{OrderFields}
use Rattle.model.specs.declared.state.Exchange.{Exchange}
use Rattle.model.specs.declared.state.Order.{Order}
use Rattle.model.specs.declared.state.Phase.{Phase}
use Rattle.model.specs.declared.state.Phase.TheVariants.{Auction, Collect, Paying}
use Rattle.model.specs.declared.state.Round.{Round}
use Rattle.model.specs.declared.state.TicketState.{TicketState}
use Rattle.model.specs.declared.state.TicketState.TheVariants.{Entered, Free, Resting}
use Rattle.model.proofs.Codes.{codes_rising}
use Rattle.model.proofs.OrderLists.{list_apart}
use Rattle.model.proofs.ReachBounds.{reachable_bounded}
use Rattle.model.proofs.RefusalTests.{LowerQuote, UpperQuote, above_left, auction?, balance_below, collect?, first_one, first_told, free?, is_after, limit_off, none_told, not_theirs, order_of, order_phase, past_bound, phase_other, sell_price, buy_price, round_of, tellable, ticket_round, ticket_used, too_soon}
use Rattle.model.proofs.Steps.{step_apart}

-- ---- a ticket that carries an order, and a phase that has a round

carried : {t : TicketState} {o : Order} → Carries t o → order_in t ≡ o
carried (inl e) = ap order_in e
carried (inr e) = ap order_in e

carried_used : {t : TicketState} {o : Order} → Carries t o → t ≡ Free → ⊥
carried_used (inl e) q = apart (ap is_free (sym q ∙ e))
carried_used (inr e) q = apart (ap is_free (sym q ∙ e))

used_carries : (t : TicketState) → (t ≡ Free → ⊥) → Carries t (order_in t)
used_carries Free h = absurd (h refl)
used_carries (Resting o) h = inl refl
used_carries (Entered o) h = inr refl

read_entered : {t : TicketState} {o : Order} → t ≡ Entered o → t ≡ Entered (order_in t)
read_entered e = e ∙ ap Entered (sym (ap order_in e))

read_collect : {p : Phase} {r : Round} → p ≡ Collect r → p ≡ Collect (round_in p)
read_collect e = e ∙ ap Collect (sym (ap round_in e))

read_auction : {p : Phase} {r : Round} → p ≡ Auction r → p ≡ Auction (round_in p)
read_auction e = e ∙ ap Auction (sym (ap round_in e))

read_paying : {p : Phase} {r : Round} → p ≡ Paying r → p ≡ Paying (round_in p)
read_paying e = e ∙ ap Paying (sym (ap round_in e))

must_collect : (p : Phase) → (((r : Round) → p ≡ Collect r → ⊥) → ⊥) → p ≡ Collect (round_in p)
must_collect p h = must (collect? p) (λ n. h (λ r e. n (read_collect e)))

must_auction : (p : Phase) → (((r : Round) → p ≡ Auction r → ⊥) → ⊥) → p ≡ Auction (round_in p)
must_auction p h = must (auction? p) (λ n. h (λ r e. n (read_auction e)))

-- ---- from the conditions to those that tests tell

module _ (x : View) (c : Call) where
  down_7 : ticket_in_use x c → ticket_used x c
  down_7 (k, (o, h)) = (k, carried_used h)

  down_8 : no_such_order x c → not_theirs x c
  down_8 (inl h) = inl h
  down_8 (inr (k, (o, (h, n)))) = inr (k, λ e. n (sym (ap (λ (v : Order). v.member) (carried h)) ∙ e))

  down_9 : wrong_ticket_state x c → ticket_round x c
  down_9 (inl (k, (o, e))) = inl (k, read_entered e)
  down_9 (inr (k, f)) = inr (k, λ e. f (order_of x c) e)

  down_11 : wrong_phase x c → phase_other x c
  down_11 (inl h) = inl h
  down_11 (inr (inl (k, (o, (h, f))))) =
      inr (inl (k, λ e. f (round_in (order_phase x c)) (subst (λ (v : Order). x.phase v.market ≡ Collect (round_in (order_phase x c))) (carried h) e)))
  down_11 (inr (inr (inl (k, f)))) = inr (inr (inl (k, λ e. f (round_of x c) e)))
  down_11 (inr (inr (inr (inl (k, f))))) = inr (inr (inr (inl (k, λ e. f (round_of x c) e))))
  down_11 (inr (inr (inr (inr (k, (o, (h, f))))))) =
      inr
      (inr
      (inr (inr (k, λ e. f (round_in (order_phase x c)) (subst (λ (v : Order). x.phase v.market ≡ Paying (round_in (order_phase x c))) (carried h) e)))))

  -- what holds of a round that the market has holds of the round that is read
  in_auction : (P : Round → Type 0) → InAuction x c P → P (round_of x c)
  in_auction P (r, (e, h)) = subst P (sym (ap round_in e)) h

  down_13 : too_early x c → too_soon x c
  down_13 (inl (k, (r, (e, l)))) = inl (k, subst (λ (v : Round). the block c < v.opened.0 + 4) (sym (ap round_in e)) l)
  down_13 (inr (k, h)) =
      inr (
        k,
        in_auction
            (λ v. ((v.buys.paid.0 < v.buys.total.0) ⊎ (v.sells.paid.0 < v.sells.total.0)) × (the block c ≤ v.start.0 + v.length))
            h,
      )

  abbrev OffLimit : Order → Round → Type 0
  OffLimit o r = ((o.side ≡ Buy) × (o.limit.0 < r.hi.0)) ⊎ ((o.side ≡ Sell) × (r.lo.0 < o.limit.0))

  down_15 : limit_out_of_bounds x c → limit_off x c
  down_15 (k, (o, (h, (r, (e, l))))) =
      let er : round_in (order_phase x c) ≡ r = ap (λ (v : Order). round_in (x.phase v.market)) (carried h) ∙ ap round_in e in
      (k, subst₂ OffLimit (sym (carried h)) (sym er) l)

  down_16 : auction_over x c → is_after x c
  down_16 (k, h) = (k, in_auction (λ r. r.start.0 + r.length < the block c) h)

  -- prices by their meaning are those of the definitions
  prices_read : (u v : ℕ) → Priced (round_of x c) (the block c) u v → (u ≡ sell_price x c) × (v ≡ buy_price x c)
  prices_read u v p =
      let r : Round = round_of x c in
      let e : p.k ≡ the block c - r.start.0 = omega (arith, p.k_is) in
      subst (λ (k : ℕ). (u ≡ auction_price Sell r.hi.0 r.lo.0 k r.length) × (v ≡ auction_price Buy r.hi.0 r.lo.0 k r.length)) e
      ((prices_are r.hi.0 r.lo.0 p.k r.length).1 u v p.prices)

  quote_sell : (q : ℕ) → QuoteSell (round_of x c) c q → UpperQuote x c q
  quote_sell q (p, (h, u)) = subst (λ (v : ℕ). RoundedUp (the amount c * v) 1000000 q) (prices_read p.0 p.1 h).0 u

  quote_buy : (q : ℕ) → QuoteBuy (round_of x c) c q → LowerQuote x c q
  quote_buy q (p, (h, d)) = subst (λ (v : ℕ). RoundedDown (the amount c * v) 1000000 q) (prices_read p.0 p.1 h).1 d

  abbrev Above : Round → Type 0
  Above r =
      ((the side c ≡ 1) × (r.sells.total.0 < r.sells.paid.0 + the amount c))
      ⊎ ((the side c ≡ 0) × ((q : ℕ) × (QuoteBuy r c q × ((q ≡ 0) ⊎ (r.buys.total.0 < r.buys.paid.0 + q)))))

  down_17 : not_available x c → above_left x c
  down_17 (k, h) = (k, ⊎_elim inl (λ a. inr (a.0, (a.1.0, (quote_buy a.1.0 a.1.1.0, a.1.1.1)))) (in_auction Above h))

  abbrev Past : Round → Type 0
  Past r =
      ((the side c ≡ 1) × ((q : ℕ) × (QuoteSell r c q × (the bound c < q))))
      ⊎ ((the side c ≡ 0) × ((q : ℕ) × (QuoteBuy r c q × (q < the bound c))))

  down_18 : bound_missed x c → past_bound x c
  down_18 (k, h) = (
    k,
    ⊎_elim (λ a. inl (a.0, (a.1.0, (quote_sell a.1.0 a.1.1.0, a.1.1.1)))) (λ a. inr (a.0, (a.1.0, (quote_buy a.1.0 a.1.1.0, a.1.1.1))))
        (in_auction Past h),
  )

  abbrev Short : Round → Type 0
  Short r =
      ((the side c ≡ 1) × ((q : ℕ) × (QuoteSell r c q × (x.balance (the member c) 0 < q))))
      ⊎ ((the side c ≡ 0) × (x.balance (the member c) (the market c) < the amount c))

  down_19 : insufficient_balance x c → balance_below x c
  down_19 (inl h) = inl h
  down_19 (inr (inl h)) = inr (inl h)
  down_19 (inr (inr (k, h))) =
      inr (inr (k, ⊎_elim (λ a. inl (a.0, (a.1.0, (quote_sell a.1.0 a.1.1.0, a.1.1.1)))) inr (in_auction Short h)))

-- ---- and back, of a call that none of the conditions before it meets

module _ (x : View) (c : Call) where
  up_7 : ticket_used x c → ticket_in_use x c
  up_7 (k, n) = (k, (order_of x c, used_carries (ticket_of x c) n))

  up_8 : not_theirs x c → no_such_order x c
  up_8 (inl h) = inl h
  up_8 (inr (k, n)) = go (free? (ticket_of x c)).test refl
    where
      wider : Of (4 ∷ 11 ∷ []) c → Of (4 ∷ 6 ∷ 10 ∷ 11 ∷ []) c
      wider (inl e) = inl e
      wider (inr (inl e)) = inr (inr (inr (inl e)))
      wider (inr (inr e)) = elim e [ ]

      go : (t : Bool) → (free? (ticket_of x c)).test ≡ t → no_such_order x c
      go true q = inl (wider k, (free? (ticket_of x c)).yes q)
      go false q = inr (k, (order_of x c, (used_carries (ticket_of x c) ((free? (ticket_of x c)).no q), n)))

  up_9 : ticket_round x c → wrong_ticket_state x c
  up_9 (inl (k, e)) = inl (k, (order_of x c, e))
  up_9 (inr (k, f)) = inr (k, λ o e. f (read_entered e))

  -- 8 goes before: the ticket carries an order
  carries_it : (no_such_order x c → ⊥) → Of (4 ∷ 6 ∷ 10 ∷ 11 ∷ []) c → Carries (ticket_of x c) (order_of x c)
  carries_it no_8 k = used_carries (ticket_of x c) (λ e. no_8 (inl (k, e)))

  up_11 : (no_such_order x c → ⊥) → phase_other x c → wrong_phase x c
  up_11 no_8 (inl h) = inl h
  up_11 no_8 (inr (inl (k, f))) = inr (inl (k, (order_of x c, (carries_it no_8 (wider k), λ r e. f (read_collect e)))))
    where
      wider : Of (6 ∷ 11 ∷ []) c → Of (4 ∷ 6 ∷ 10 ∷ 11 ∷ []) c
      wider (inl e) = inr (inl e)
      wider (inr (inl e)) = inr (inr (inr (inl e)))
      wider (inr (inr e)) = elim e [ ]
  up_11 no_8 (inr (inr (inl (k, f)))) = inr (inr (inl (k, λ r e. f (read_collect e))))
  up_11 no_8 (inr (inr (inr (inl (k, f))))) = inr (inr (inr (inl (k, λ r e. f (read_auction e)))))
  up_11 no_8 (inr (inr (inr (inr (k, f))))) = inr (inr (inr (inr (k, (order_of x c, (carries_it no_8 (wider k), λ r e. f (read_paying e)))))))
    where
      wider : Of (10 ∷ []) c → Of (4 ∷ 6 ∷ 10 ∷ 11 ∷ []) c
      wider (inl e) = inr (inr (inl e))
      wider (inr e) = elim e [ ]

  up_13 : (wrong_phase x c → ⊥) → too_soon x c → too_early x c
  up_13 no_11 (inl (k, l)) = inl (k, (round_of x c, (must_collect (phase_of x c) (λ f. no_11 (inr (inr (inl (k, f))))), l)))
  up_13 no_11 (inr (k, l)) = inr (k, (round_of x c, (must_auction (phase_of x c) (λ f. no_11 (inr (inr (inr (inl (wider k, f)))))), l)))
    where
      wider : Of (9 ∷ []) c → Of (8 ∷ 9 ∷ []) c
      wider (inl e) = inr (inl e)
      wider (inr e) = elim e [ ]

  up_15 : (no_such_order x c → ⊥) → (wrong_phase x c → ⊥) → limit_off x c → limit_out_of_bounds x c
  up_15 no_8 no_11 (k, l) = (k, (order_of x c, (in_use, (round_in (order_phase x c), (collects, l)))))
    where
      in_use : Carries (ticket_of x c) (order_of x c)
      in_use = carries_it no_8 (⊎_elim (λ e. inr (inl e)) (λ z. absurd z) k)

      collects : order_phase x c ≡ Collect (round_in (order_phase x c))
      collects = must_collect (order_phase x c) (λ f. no_11 (inr (inl (⊎_elim inl (λ z. absurd z) k, (order_of x c, (in_use, f))))))

  bids_in : (wrong_phase x c → ⊥) → Of (8 ∷ []) c → phase_of x c ≡ Auction (round_of x c)
  bids_in no_11 k = must_auction (phase_of x c) (λ f. no_11 (inr (inr (inr (inl (⊎_elim inl (λ z. absurd z) k, f))))))

  up_16 : (wrong_phase x c → ⊥) → is_after x c → auction_over x c
  up_16 no_11 (k, l) = (k, (round_of x c, (bids_in no_11 k, l)))

-- a bid has a market
bid_has_market : (c : Call) → Of (8 ∷ []) c → Has market c
bid_has_market (Call.Deposit m t n) (inl e) = absurd (omega (arith, e))
bid_has_market (Call.Deposit m t n) (inr e) = elim e [ ]
bid_has_market (Call.Withdraw m t n) (inl e) = absurd (omega (arith, e))
bid_has_market (Call.Withdraw m t n) (inr e) = elim e [ ]
bid_has_market (Call.Order k m mk s l n) (inl e) = absurd (omega (arith, e))
bid_has_market (Call.Order k m mk s l n) (inr e) = elim e [ ]
bid_has_market (Call.Cancel k m) (inl e) = absurd (omega (arith, e))
bid_has_market (Call.Cancel k m) (inr e) = elim e [ ]
bid_has_market (Call.Open mk b r w len) (inl e) = absurd (omega (arith, e))
bid_has_market (Call.Open mk b r w len) (inr e) = elim e [ ]
bid_has_market (Call.Enter k) (inl e) = absurd (omega (arith, e))
bid_has_market (Call.Enter k) (inr e) = elim e [ ]
bid_has_market (Call.Match mk b) (inl e) = absurd (omega (arith, e))
bid_has_market (Call.Match mk b) (inr e) = elim e [ ]
bid_has_market (Call.Bid mk m b s n bd) k = inl refl
bid_has_market (Call.Settle mk b) (inl e) = absurd (omega (arith, e))
bid_has_market (Call.Settle mk b) (inr e) = elim e [ ]
bid_has_market (Call.Claim k) (inl e) = absurd (omega (arith, e))
bid_has_market (Call.Claim k) (inr e) = elim e [ ]
bid_has_market (Call.Leave k m) (inl e) = absurd (omega (arith, e))
bid_has_market (Call.Leave k m) (inr e) = elim e [ ]

module _ (x : Exchange) (l : Reachable x) (c : Call) (no_3 : no_such_market c → ⊥) (no_11 : wrong_phase (view x) c → ⊥) (no_12 : stale_block (view x) c → ⊥) (no_16 : auction_over (view x) c → ⊥) where
  -- the prices of the definitions are those by their meaning
  pub bid_priced : Of (8 ∷ []) c → Priced (round_of (view x) c) (the block c) (sell_price (view x) c) (buy_price (view x) c)
  bid_priced k =
      let mk : ℕ = the market c in
      let at : ℕ = the block c in
      let r : Round = round_of (view x) c in
      let has : Has market c = bid_has_market c k in
      let low : 1 ≤ mk = at_least mk 1 (λ z. no_3 (has, inl z)) in
      let high : mk ≤ 3 = at_least 3 mk (λ z. no_3 (has, inr z)) in
      let pos : 0 < mk = omega (arith, low) in
      let lt4 : mk < 4 = omega (arith, high) in
      let e : phase x mk ≡ Auction r = bids_in (view x) c no_11 k in
      let late : last_block x ≤ at = at_least at (last_block x) (λ z. no_12 (⊎_elim (λ q. inr (inr (inl q))) (λ q. absurd q) k, z)) in
      let soon : at ≤ r.start.0 + r.length = at_least (r.start.0 + r.length) at (λ z. no_16 (k, (r, (e, z)))) in
      let b : RoundBounds r = (subst PhaseBounds e ((reachable_bounded x l).phase_bounds mk pos lt4)).0 in
      let started : r.start.0 ≤ last_block x = (reachable_bounded x l).started mk pos lt4 in
      let within : at - r.start.0 ≤ r.length = omega (arith, soon) in
      record {
        k = at - r.start.0;
        k_is = omega (arith, started, late);
        k_within = within;
        prices =
            (prices_are r.hi.0 r.lo.0 (at - r.start.0) r.length).0 (omega (arith, b.terms.order_low, b.terms.order_high)) b.terms.len_pos within;
      }

  in_round : {P : Round → Type 0} → Of (8 ∷ []) c → P (round_of (view x) c) → InAuction (view x) c P
  in_round k h = (round_of (view x) c, (bids_in (view x) c no_11 k, h))

  up_17 : above_left (view x) c → not_available (view x) c
  up_17 (k, h) = (k, in_round {P = Above (view x) c} k (⊎_elim inl (λ a. inr (a.0, (a.1.0, (((_, _), (bid_priced k, a.1.1.0)), a.1.1.1)))) h))

  up_18 : past_bound (view x) c → bound_missed (view x) c
  up_18 (k, h) = (
    k,
    in_round {P = Past (view x) c} k
        (⊎_elim (λ a. inl (a.0, (a.1.0, (((_, _), (bid_priced k, a.1.1.0)), a.1.1.1)))) (λ a. inr (a.0, (a.1.0, (((_, _), (bid_priced k, a.1.1.0)), a.1.1.1)))) h),
  )

  up_19 : balance_below (view x) c → insufficient_balance (view x) c
  up_19 (inl h) = inl h
  up_19 (inr (inl h)) = inr (inl h)
  up_19 (inr (inr (k, h))) =
      inr (inr (k, in_round {P = Short (view x) c} k (⊎_elim (λ a. inl (a.0, (a.1.0, (((_, _), (bid_priced k, a.1.1.0)), a.1.1.1)))) inr h)))

-- ---- each way, all of them

holds_down : (x : View) (c : Call) (n : ℕ) → Holds n x c → HoldsIn n (tellable x c)
holds_down x c n (inl h) = inl h
holds_down x c n (inr (inl h)) = inr (inl h)
holds_down x c n (inr (inr (inl h))) = inr (inr (inl h))
holds_down x c n (inr (inr (inr (inl h)))) = inr (inr (inr (inl h)))
holds_down x c n (inr (inr (inr (inr (inl h))))) = inr (inr (inr (inr (inl h))))
holds_down x c n (inr (inr (inr (inr (inr (inl h)))))) = inr (inr (inr (inr (inr (inl h)))))
holds_down x c n (inr (inr (inr (inr (inr (inr (inl (e, h)))))))) = inr (inr (inr (inr (inr (inr (inl (e, down_7 x c h)))))))
holds_down x c n (inr (inr (inr (inr (inr (inr (inr (inl (e, h))))))))) = inr (inr (inr (inr (inr (inr (inr (inl (e, down_8 x c h))))))))
holds_down x c n (inr (inr (inr (inr (inr (inr (inr (inr (inl (e, h)))))))))) = inr (inr (inr (inr (inr (inr (inr (inr (inl (e, down_9 x c h)))))))))
holds_down x c n (inr (inr (inr (inr (inr (inr (inr (inr (inr (inl h)))))))))) = inr (inr (inr (inr (inr (inr (inr (inr (inr (inl h)))))))))
holds_down x c n (inr (inr (inr (inr (inr (inr (inr (inr (inr (inr (inl (e, h)))))))))))) = inr (inr (inr (inr (inr (inr (inr (inr (inr (inr (inl (e, down_11 x c h)))))))))))
holds_down x c n (inr (inr (inr (inr (inr (inr (inr (inr (inr (inr (inr (inl h)))))))))))) = inr (inr (inr (inr (inr (inr (inr (inr (inr (inr (inr (inl h)))))))))))
holds_down x c n (inr (inr (inr (inr (inr (inr (inr (inr (inr (inr (inr (inr (inl (e, h)))))))))))))) = inr (inr (inr (inr (inr (inr (inr (inr (inr (inr (inr (inr (inl (e, down_13 x c h)))))))))))))
holds_down x c n (inr (inr (inr (inr (inr (inr (inr (inr (inr (inr (inr (inr (inr (inl h)))))))))))))) = inr (inr (inr (inr (inr (inr (inr (inr (inr (inr (inr (inr (inr (inl h)))))))))))))
holds_down x c n (inr (inr (inr (inr (inr (inr (inr (inr (inr (inr (inr (inr (inr (inr (inl (e, h)))))))))))))))) = inr (inr (inr (inr (inr (inr (inr (inr (inr (inr (inr (inr (inr (inr (inl (e, down_15 x c h)))))))))))))))
holds_down x c n (inr (inr (inr (inr (inr (inr (inr (inr (inr (inr (inr (inr (inr (inr (inr (inl (e, h))))))))))))))))) = inr (inr (inr (inr (inr (inr (inr (inr (inr (inr (inr (inr (inr (inr (inr (inl (e, down_16 x c h))))))))))))))))
holds_down x c n (inr (inr (inr (inr (inr (inr (inr (inr (inr (inr (inr (inr (inr (inr (inr (inr (inl (e, h)))))))))))))))))) = inr (inr (inr (inr (inr (inr (inr (inr (inr (inr (inr (inr (inr (inr (inr (inr (inl (e, down_17 x c h)))))))))))))))))
holds_down x c n (inr (inr (inr (inr (inr (inr (inr (inr (inr (inr (inr (inr (inr (inr (inr (inr (inr (inl (e, h))))))))))))))))))) = inr (inr (inr (inr (inr (inr (inr (inr (inr (inr (inr (inr (inr (inr (inr (inr (inr (inl (e, down_18 x c h))))))))))))))))))
holds_down x c n (inr (inr (inr (inr (inr (inr (inr (inr (inr (inr (inr (inr (inr (inr (inr (inr (inr (inr (inl (e, h)))))))))))))))))))) = inr (inr (inr (inr (inr (inr (inr (inr (inr (inr (inr (inr (inr (inr (inr (inr (inr (inr (inl (e, down_19 x c h)))))))))))))))))))
holds_down x c n (inr (inr (inr (inr (inr (inr (inr (inr (inr (inr (inr (inr (inr (inr (inr (inr (inr (inr (inr h))))))))))))))))))) = elim h [ ]

-- of a call that nothing below n meets
module _ (x : Exchange) (l : Reachable x) (c : Call) where
  holds_up : (n : ℕ) → ((m : ℕ) → m < n → Holds m (view x) c → ⊥) → HoldsIn n (tellable (view x) c) → Holds n (view x) c
  holds_up n low (inl h) = inl h
  holds_up n low (inr (inl h)) = inr (inl h)
  holds_up n low (inr (inr (inl h))) = inr (inr (inl h))
  holds_up n low (inr (inr (inr (inl h)))) = inr (inr (inr (inl h)))
  holds_up n low (inr (inr (inr (inr (inl h))))) = inr (inr (inr (inr (inl h))))
  holds_up n low (inr (inr (inr (inr (inr (inl h)))))) = inr (inr (inr (inr (inr (inl h)))))
  holds_up n low (inr (inr (inr (inr (inr (inr (inl (e, h)))))))) = inr (inr (inr (inr (inr (inr (inl (e, up_7 (view x) c h)))))))
  holds_up n low (inr (inr (inr (inr (inr (inr (inr (inl (e, h))))))))) = inr (inr (inr (inr (inr (inr (inr (inl (e, up_8 (view x) c h))))))))
  holds_up n low (inr (inr (inr (inr (inr (inr (inr (inr (inl (e, h)))))))))) = inr (inr (inr (inr (inr (inr (inr (inr (inl (e, up_9 (view x) c h)))))))))
  holds_up n low (inr (inr (inr (inr (inr (inr (inr (inr (inr (inl h)))))))))) = inr (inr (inr (inr (inr (inr (inr (inr (inr (inl h)))))))))
  holds_up n low (inr (inr (inr (inr (inr (inr (inr (inr (inr (inr (inl (e, h)))))))))))) = inr (inr (inr (inr (inr (inr (inr (inr (inr (inr (inl (e, up_11 (view x) c (λ z. low 8 (omega (arith, e)) (inr (inr (inr (inr (inr (inr (inr (inl (refl, z)))))))))) h)))))))))))
  holds_up n low (inr (inr (inr (inr (inr (inr (inr (inr (inr (inr (inr (inl h)))))))))))) = inr (inr (inr (inr (inr (inr (inr (inr (inr (inr (inr (inl h)))))))))))
  holds_up n low (inr (inr (inr (inr (inr (inr (inr (inr (inr (inr (inr (inr (inl (e, h)))))))))))))) = inr (inr (inr (inr (inr (inr (inr (inr (inr (inr (inr (inr (inl (e, up_13 (view x) c (λ z. low 11 (omega (arith, e)) (inr (inr (inr (inr (inr (inr (inr (inr (inr (inr (inl (refl, z))))))))))))) h)))))))))))))
  holds_up n low (inr (inr (inr (inr (inr (inr (inr (inr (inr (inr (inr (inr (inr (inl h)))))))))))))) = inr (inr (inr (inr (inr (inr (inr (inr (inr (inr (inr (inr (inr (inl h)))))))))))))
  holds_up n low (inr (inr (inr (inr (inr (inr (inr (inr (inr (inr (inr (inr (inr (inr (inl (e, h)))))))))))))))) = inr (inr (inr (inr (inr (inr (inr (inr (inr (inr (inr (inr (inr (inr (inl (e, up_15 (view x) c (λ z. low 8 (omega (arith, e)) (inr (inr (inr (inr (inr (inr (inr (inl (refl, z)))))))))) (λ z. low 11 (omega (arith, e)) (inr (inr (inr (inr (inr (inr (inr (inr (inr (inr (inl (refl, z))))))))))))) h)))))))))))))))
  holds_up n low (inr (inr (inr (inr (inr (inr (inr (inr (inr (inr (inr (inr (inr (inr (inr (inl (e, h))))))))))))))))) = inr (inr (inr (inr (inr (inr (inr (inr (inr (inr (inr (inr (inr (inr (inr (inl (e, up_16 (view x) c (λ z. low 11 (omega (arith, e)) (inr (inr (inr (inr (inr (inr (inr (inr (inr (inr (inl (refl, z))))))))))))) h))))))))))))))))
  holds_up n low (inr (inr (inr (inr (inr (inr (inr (inr (inr (inr (inr (inr (inr (inr (inr (inr (inl (e, h)))))))))))))))))) = inr (inr (inr (inr (inr (inr (inr (inr (inr (inr (inr (inr (inr (inr (inr (inr (inl (e, up_17 x l c (λ z. low 3 (omega (arith, e)) (inr (inr (inl (refl, z))))) (λ z. low 11 (omega (arith, e)) (inr (inr (inr (inr (inr (inr (inr (inr (inr (inr (inl (refl, z))))))))))))) (λ z. low 12 (omega (arith, e)) (inr (inr (inr (inr (inr (inr (inr (inr (inr (inr (inr (inl (refl, z)))))))))))))) (λ z. low 16 (omega (arith, e)) (inr (inr (inr (inr (inr (inr (inr (inr (inr (inr (inr (inr (inr (inr (inr (inl (refl, z)))))))))))))))))) h)))))))))))))))))
  holds_up n low (inr (inr (inr (inr (inr (inr (inr (inr (inr (inr (inr (inr (inr (inr (inr (inr (inr (inl (e, h))))))))))))))))))) = inr (inr (inr (inr (inr (inr (inr (inr (inr (inr (inr (inr (inr (inr (inr (inr (inr (inl (e, up_18 x l c (λ z. low 3 (omega (arith, e)) (inr (inr (inl (refl, z))))) (λ z. low 11 (omega (arith, e)) (inr (inr (inr (inr (inr (inr (inr (inr (inr (inr (inl (refl, z))))))))))))) (λ z. low 12 (omega (arith, e)) (inr (inr (inr (inr (inr (inr (inr (inr (inr (inr (inr (inl (refl, z)))))))))))))) (λ z. low 16 (omega (arith, e)) (inr (inr (inr (inr (inr (inr (inr (inr (inr (inr (inr (inr (inr (inr (inr (inl (refl, z)))))))))))))))))) h))))))))))))))))))
  holds_up n low (inr (inr (inr (inr (inr (inr (inr (inr (inr (inr (inr (inr (inr (inr (inr (inr (inr (inr (inl (e, h)))))))))))))))))))) = inr (inr (inr (inr (inr (inr (inr (inr (inr (inr (inr (inr (inr (inr (inr (inr (inr (inr (inl (e, up_19 x l c (λ z. low 3 (omega (arith, e)) (inr (inr (inl (refl, z))))) (λ z. low 11 (omega (arith, e)) (inr (inr (inr (inr (inr (inr (inr (inr (inr (inr (inl (refl, z))))))))))))) (λ z. low 12 (omega (arith, e)) (inr (inr (inr (inr (inr (inr (inr (inr (inr (inr (inr (inl (refl, z)))))))))))))) (λ z. low 16 (omega (arith, e)) (inr (inr (inr (inr (inr (inr (inr (inr (inr (inr (inr (inr (inr (inr (inr (inl (refl, z)))))))))))))))))) h)))))))))))))))))))
  holds_up n low (inr (inr (inr (inr (inr (inr (inr (inr (inr (inr (inr (inr (inr (inr (inr (inr (inr (inr (inr h))))))))))))))))))) = elim h [ ]

-- ---- a call's code

module _ (x : Exchange) (l : Reachable x) (c : Call) where
  abbrev code : ℕ
  code = code_of (step_of x c).answer

  first : (n : ℕ) → 0 < n → code ≡ n → First n (view x) c
  first n p e =
      let f = first_told x c n p e in
      let low : (m : ℕ) → m < n → Holds m (view x) c → ⊥ = λ m k h. f.1 m k (holds_down (view x) c m h) in
      (holds_up x l c n low f.0, low)

  none : code ≡ 0 → (n : ℕ) → Holds n (view x) c → ⊥
  none e n h = none_told x c e n (holds_down (view x) c n h)

  is_none : ((n : ℕ) → Holds n (view x) c → ⊥) → (k : ℕ) → code ≡ k → code ≡ 0
  is_none h zero e = e
  is_none h (suc k) e = absurd (h (suc k) (first (suc k) (omega arith) e).0)

  is_first : (n : ℕ) → First n (view x) c → (k : ℕ) → code ≡ k → code ≡ n
  is_first n f zero e = absurd (none e n f.0)
  is_first n f (suc k) e = e ∙ first_one (conditions (view x) c) (suc k) n (first (suc k) (omega arith) e) f

  pub calls_coded : Coded (view x) c code
  calls_coded = record { accepted = (none, λ h. is_none h code refl); refused = λ n p. (first n p, λ f. is_first n f code refl) }

pub refusals_stay : RefusedStays
refusals_stay x c =
    step_apart x c (λ (out : Outcome). 0 < code_of out.answer → (first_of out.answer ≡ 0) × (second_of out.answer ≡ 0) × (out.exchange ≡ x))
    (λ r z. (refl, refl, refl)) (λ p z. absurd (omega (arith, z, (codes_rising x c).done_accepts)))

-- no two codes are so
pub codes_alone : (x : View) (c : Call) (m n : ℕ) → Coded x c m → Coded x c n → n ≡ m
codes_alone x c zero zero a b = refl
codes_alone x c zero (suc n) a b = absurd (a.accepted.0 refl (suc n) ((b.refused (suc n) (omega arith)).0 refl).0)
codes_alone x c (suc m) zero a b = absurd (b.accepted.0 refl (suc m) ((a.refused (suc m) (omega arith)).0 refl).0)
codes_alone x c (suc m) (suc n) a b =
    first_one (conditions x c) (suc n) (suc m) ((b.refused (suc n) (omega arith)).0 refl) ((a.refused (suc m) (omega arith)).0 refl)

-- of a call that no refusal meets, each code by itself
pub record Unmet (x : View) (c : Call) : Type 0 where
  pub no_1 : no_such_member c → ⊥
  pub no_2 : no_such_token c → ⊥
  pub no_3 : no_such_market c → ⊥
  pub no_4 : no_such_ticket c → ⊥
  pub no_5 : no_such_side c → ⊥
  pub no_6 : bad_amount_or_limit c → ⊥
  pub no_7 : ticket_in_use x c → ⊥
  pub no_8 : no_such_order x c → ⊥
  pub no_9 : wrong_ticket_state x c → ⊥
  pub no_10 : bad_terms c → ⊥
  pub no_11 : wrong_phase x c → ⊥
  pub no_12 : stale_block x c → ⊥
  pub no_13 : too_early x c → ⊥
  pub no_14 : supply_exceeded x c → ⊥
  pub no_15 : limit_out_of_bounds x c → ⊥
  pub no_16 : auction_over x c → ⊥
  pub no_17 : not_available x c → ⊥
  pub no_18 : bound_missed x c → ⊥
  pub no_19 : insufficient_balance x c → ⊥

pub unmet : (x : View) (c : Call) → ((n : ℕ) → Holds n x c → ⊥) → Unmet x c
unmet x c none =
    record {
      no_1 = λ h. none 1 (inl (refl, h));
      no_2 = λ h. none 2 (inr (inl (refl, h)));
      no_3 = λ h. none 3 (inr (inr (inl (refl, h))));
      no_4 = λ h. none 4 (inr (inr (inr (inl (refl, h)))));
      no_5 = λ h. none 5 (inr (inr (inr (inr (inl (refl, h))))));
      no_6 = λ h. none 6 (inr (inr (inr (inr (inr (inl (refl, h)))))));
      no_7 = λ h. none 7 (inr (inr (inr (inr (inr (inr (inl (refl, h))))))));
      no_8 = λ h. none 8 (inr (inr (inr (inr (inr (inr (inr (inl (refl, h)))))))));
      no_9 = λ h. none 9 (inr (inr (inr (inr (inr (inr (inr (inr (inl (refl, h))))))))));
      no_10 = λ h. none 10 (inr (inr (inr (inr (inr (inr (inr (inr (inr (inl (refl, h)))))))))));
      no_11 = λ h. none 11 (inr (inr (inr (inr (inr (inr (inr (inr (inr (inr (inl (refl, h))))))))))));
      no_12 = λ h. none 12 (inr (inr (inr (inr (inr (inr (inr (inr (inr (inr (inr (inl (refl, h)))))))))))));
      no_13 = λ h. none 13 (inr (inr (inr (inr (inr (inr (inr (inr (inr (inr (inr (inr (inl (refl, h))))))))))))));
      no_14 = λ h. none 14 (inr (inr (inr (inr (inr (inr (inr (inr (inr (inr (inr (inr (inr (inl (refl, h)))))))))))))));
      no_15 = λ h. none 15 (inr (inr (inr (inr (inr (inr (inr (inr (inr (inr (inr (inr (inr (inr (inl (refl, h))))))))))))))));
      no_16 = λ h. none 16 (inr (inr (inr (inr (inr (inr (inr (inr (inr (inr (inr (inr (inr (inr (inr (inl (refl, h)))))))))))))))));
      no_17 = λ h. none 17 (inr (inr (inr (inr (inr (inr (inr (inr (inr (inr (inr (inr (inr (inr (inr (inr (inl (refl, h))))))))))))))))));
      no_18 = λ h. none 18 (inr (inr (inr (inr (inr (inr (inr (inr (inr (inr (inr (inr (inr (inr (inr (inr (inr (inl (refl, h)))))))))))))))))));
      no_19 = λ h. none 19 (inr (inr (inr (inr (inr (inr (inr (inr (inr (inr (inr (inr (inr (inr (inr (inr (inr (inr (inl (refl, h))))))))))))))))))));
    }

-- ---- prices

-- of one round and block there are one price for side 1 and one for side 0
pub prices_alone : (r : Round) (at p q u v : ℕ) → Priced r at p q → Priced r at u v → (u ≡ p) × (v ≡ q)
prices_alone r at p q u v s t =
    let ek : t.k ≡ s.k = omega (arith, s.k_is, t.k_is) in
    let a = (prices_are r.hi.0 r.lo.0 s.k r.length).1 p q s.prices in
    let b =
    (prices_are r.hi.0 r.lo.0 s.k r.length).1 u v (subst (λ (k : ℕ). PricedAt r.hi.0 r.lo.0 k r.length u v) ek t.prices) in
    (b.0 ∙ sym a.0, b.1 ∙ sym a.1)

-- ---- a list of orders

-- where the lists do not differ, both have more than 64 places or neither has
off_no : (n m : ℕ) → (not (eqb n m) || ltb 64 n) ≡ false → (n ≡ m → ⊥) ⊎ (64 < n) ⊎ (64 < m) → ⊥
off_no n m e h =
    let p = neither (not (eqb n m)) (ltb 64 n) e in
    let q : n ≡ m = eqb-true n m (not-false (eqb n m) p.0) in
    ⊎_elim (λ d. d q) (⊎_elim (λ l. omega (arith, l, ltb-false 64 n p.1)) (λ l. omega (arith, l, q, ltb-false 64 n p.1))) h

list_coded : (x : Exchange) (fs : List OrderFields) (ps : List AnswerPlace) → ListCoded fs ps (code_of (orders_of x fs ps).answer)
unfolding orders_of
list_coded x fs ps = go (not (eqb n m) || ltb 64 n) refl
  where
    n : ℕ
    n = length fs

    m : ℕ
    m = length ps

    off : (not (eqb n m) || ltb 64 n) ≡ true → bad_order_list fs ps
    off e = or_yes (not (eqb n m)) (ltb 64 n) (λ d. (not? (eq? n m)).yes d) (λ l. inl (ltb-true 64 n l)) e

    go : (t : Bool) → (not (eqb n m) || ltb 64 n) ≡ t → ListCoded fs ps (code_of (cond t (list_refused x ps BadOrderList) (list_done x fs)).answer)
    go true q = record { accepted = (λ e. absurd (omega (arith, e)), λ h. absurd (h (off q))); refused = (λ e. off q, λ h. refl) }
    go false q = record { accepted = (λ e. off_no n m q, λ h. refl); refused = (λ e. absurd (omega (arith, e)), λ h. absurd (off_no n m q h)) }

list_zeros : (x : Exchange) (fs : List OrderFields) (ps : List AnswerPlace) → (first_of (orders_of x fs ps).answer ≡ 0) × (second_of (orders_of x fs ps).answer ≡ 0)
list_zeros x fs ps =
    list_apart x fs ps (λ (l : Listed). (first_of l.answer ≡ 0) × (second_of l.answer ≡ 0)) (refl, refl) (λ e k. (refl, refl))

pub list_stays : ListStays
list_stays x fs ps =
    list_apart x fs ps (λ (l : Listed). code_of l.answer ≡ 22 → (l.exchange ≡ x) × (l.answers ≡ ps)) (λ e. (refl, refl))
    (λ e k z. absurd (omega (arith, z)))

pub lists_coded : ListsCoded
lists_coded x fs ps = (list_coded x fs ps, (list_zeros x fs ps).0, (list_zeros x fs ps).1)
