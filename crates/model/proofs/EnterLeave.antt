-- An enter and a leave undo each other, in the state and in history.
use Rattle.std.specs.Prelude.{Ok}
use Prim.Native.Nat.{◌+◌, ◌<◌, ◌≤◌, suc, zero, ℕ}
use mathlib.Core.Bool.{Bool, cond, false, not, true}
use mathlib.Core.List.{List, [], ◌++◌, ◌∷◌}
use mathlib.Core.Path.{◌∙◌, ◌≡◌, ap, ap₂, fun_ext, refl, subst, sym}
use native.Mathlib.Omega.{arith}
use lib.Dec.{ltb}
use lib.ListN.{get_or, length, set}
use lib.Seq.{set-get_or, set-set}
use borrow.Author.Tests.{eq-eqb, le-ltb}
use Rattle.model.specs.Answers.{Answer, answer_line}
use Rattle.model.specs.Bounds.{Bounded, CollectBounds, EnteredBounds, OrderBounds, PhaseBounds, TicketBounds}
use Rattle.model.specs.Calls.{accept, cancel_form, enter_rest, enter_tests, enter_with, entered_round, leave_rest, leave_tests, leave_with, left_round, refuse, ticket_form}
use Rattle.model.specs.EnterLeave.{EnterForgotten, EnterLeave, LeaveEnter, LeftAbsent}
use Rattle.model.specs.History.{Current, History, Part, PlacedOrder, RoundLog, Stage, absent, auctioning, changed_at, collecting, history_from, history_of, idle, log_of, market_in, no_history, part_of, put, running, set_part, set_rounds, set_stage, settled, with_accepted, with_enter, with_event, with_leave, with_part}
use Rattle.model.specs.Run.{Request, request_of, step_of}
use Rattle.model.specs.Submissions.{Submission, events_of, left_by, model_engine, single, state_after, told_by}
use Rattle.model.specs.State.{closed_market, free_ticket, fresh_exchange, market_at, order_in, phase, round_in, set_market, set_markets, set_tickets, ticket, totals_of, with_held, with_phase, with_sides, with_ticket, with_tickets}
use Rattle.model.specs.WholeRun.{part_in, placed_in}
use Rattle.model.specs.declared.answer.Outcome.{Outcome}
use Rattle.model.specs.declared.answer.Refusal.TheVariants.{BufferTooShort}
use Rattle.model.specs.declared.call.Call.{Call}
use Rattle.model.specs.declared.state.Exchange.{Exchange}
use Rattle.model.specs.declared.state.Market.{Market}
use Rattle.model.specs.declared.state.Order.{Order}
use Rattle.model.specs.declared.state.Phase.{Phase}
use Rattle.model.specs.declared.state.Phase.TheVariants.{Collect}
use Rattle.model.specs.declared.state.Round.{Round}
use Rattle.model.specs.declared.state.Ticket.{Ticket}
use Rattle.model.specs.declared.state.TicketState.{TicketState}
use Rattle.model.specs.declared.state.TicketState.TheVariants.{Entered, Resting}
use Rattle.pricing.specs.Prices.{off_limit}
use Rattle.pricing.specs.declared.Side.{Side}
use Rattle.pricing.specs.declared.Side.TheVariants.{Buy, Sell}
use Rattle.pricing.specs.declared.Totals.{Totals}
use Rattle.ticket_set.specs.TicketSet.{bit}
use Rattle.units.specs.Counts.{amount}
use Rattle.model.proofs.Inv.{Inv, PartOk, RoundOk}
use Rattle.model.proofs.KeepsEntries.{Told, at_rest, enter_tells, in_round, leave_tells, market_phase, o_ok, order, part_is, part_told, r_ok, runs}
use Rattle.model.proofs.Reach.{reachable_inv}
use Rattle.model.proofs.ReachBounds.{reachable_bounded}
use Rattle.model.proofs.Reading.{phase_same, put_each, put_other, put_same, ticket_same}
use Rattle.model.proofs.Steps.{accepted_passed, step_passed}
use Rattle.model.proofs.WholeRun.{fresh_inv, run_keeps, told_after}
use Rattle.ticket_set.proofs.Bits.{inserted_removed, removed_inserted}
use Rattle.units.proofs.Decide.{Passed}

-- ---- a ticket and a phase put back

-- a list with one place changed, and then as it was
tickets_back : (ts : List Ticket) (k : ℕ) (s t : TicketState) → (get_or ts k free_ticket).state ≡ t → set (set ts k (record { state = s })) k (record { state = t }) ≡ ts
tickets_back ts k s t e =
    set-set ts k (record { state = s }) (record { state = t })
    ∙ ap (λ (v : TicketState). set ts k (record { state = v })) (sym e)
    ∙ set-get_or ts k free_ticket

markets_back : (ms : List Market) (n : ℕ) (p q : Phase) → (market_at ms n).phase ≡ q → set_market (set_market ms n (record { phase = p })) n (record { phase = q }) ≡ ms
markets_back ms zero p q e = refl
markets_back ms (suc i) p q e =
    set-set ms i (record { phase = p }) (record { phase = q })
    ∙ ap (λ (v : Phase). set ms i (record { phase = v })) (sym e)
    ∙ set-get_or ms i closed_market

-- the exchange with a ticket and a phase changed, and then both as they were
exchange_back : (x : Exchange) (n k : ℕ) (p q : Phase) (s t : TicketState) → phase x n ≡ q → ticket x k ≡ t
    → with_ticket (with_phase (with_ticket (with_phase x n p) k s) n q) k t ≡ x
exchange_back x n k p q s t ep et =
    ap₂ (λ (ms : List Market) (ts : List Ticket). set_tickets (set_markets x ms) ts) (markets_back x.markets n p q ep) (tickets_back x.tickets k s t et)

-- ---- a round put back

-- a side with another total
abbrev with_total : Totals → ℕ → Totals
with_total t n = record { total = amount n; paid = t.paid; got = t.got }

-- a round whose totals, holdings and set are given anew, each with the number that it had
round_back : (r : Round) {buys sells quote base tickets : ℕ}
    → buys ≡ r.buys.total.0 → sells ≡ r.sells.total.0 → quote ≡ r.quote.0 → base ≡ r.base.0 → tickets ≡ r.tickets
    → with_tickets (with_held (with_sides r (with_total r.buys buys) (with_total r.sells sells)) quote base) tickets ≡ r
round_back r b s q a t = rw (b, s, q, a, t)

-- an offer in and out again; the ticket had no bit
left_entered : (r : Round) (k : ℕ) (side : Side) (n : ℕ) → bit r.tickets k ≡ 0 → left_round (entered_round r k side n) k side n ≡ r
left_entered r k Buy n clear = round_back r (omega arith) refl (omega arith) (omega arith) (removed_inserted r.tickets k clear)
left_entered r k Sell n clear = round_back r refl (omega arith) (omega arith) (omega arith) (removed_inserted r.tickets k clear)

-- a side's total, with an offer out of it and in again
total_back : (r : Round) (k : ℕ) (side : Side) (n : ℕ) → n ≤ (totals_of r side).total.0 → (totals_of (left_round r k side n) side).total.0 + n ≡ (totals_of r side).total.0
total_back r k Buy n le = omega arith
total_back r k Sell n le = omega arith

-- and out and in again; the ticket had its bit, and the round holds its side's total
entered_left : (r : Round) (k : ℕ) (side : Side) (n : ℕ) → CollectBounds r → bit r.tickets k ≡ 1 → n ≤ (totals_of r side).total.0
    → entered_round (left_round r k side n) k side n ≡ r
entered_left r k Buy n held set le =
    round_back r (omega arith) refl (omega (arith, held.held Buy)) (omega arith) (inserted_removed r.tickets k set)
entered_left r k Sell n held set le =
    round_back r refl (omega arith) (omega arith) (omega (arith, held.held Sell)) (inserted_removed r.tickets k set)

-- ---- a leave and an enter that no test stops

module _ (x : Exchange) (k : ℕ) (hk : k < 64) (o : Order) (r : Round) (ep : phase x o.market ≡ Collect r) where
  leave_passes : ticket x k ≡ Entered o → o.member < 16 → step_of x (Call.Leave k o.member) ≡ leave_with x k o r
  leave_passes et hm =
      step_passed x (Call.Leave k o.member)
      (subst (λ (t : TicketState). Passed (cancel_form k o.member ++ leave_rest t (phase x (order_in t).market) o.member)) (sym et)
      (subst (λ (p : Phase). Passed (cancel_form k o.member ++ leave_rest (Entered o) p o.member)) (sym ep)
      (le-ltb 15 o.member (omega arith), (le-ltb 63 k (omega arith), (ap not (eq-eqb o.member o.member refl), (refl, (refl, tt)))))))
      ∙ ap (λ (t : TicketState). leave_with x k (order_in t) (round_in (phase x (order_in t).market))) et
      ∙ ap (λ (p : Phase). leave_with x k o (round_in p)) ep

  enter_passes : ticket x k ≡ Resting o → off_limit o.side o.limit.0 r.hi.0 r.lo.0 ≡ false → step_of x (Call.Enter k) ≡ enter_with x k o r
  enter_passes et within =
      step_passed x (Call.Enter k)
      (subst (λ (t : TicketState). Passed (ticket_form k ++ enter_rest t (phase x (order_in t).market))) (sym et)
      (subst (λ (p : Phase). Passed (ticket_form k ++ enter_rest (Resting o) p)) (sym ep)
      (le-ltb 63 k (omega arith), (refl, (refl, (refl, (within, tt)))))))
      ∙ ap (λ (t : TicketState). enter_with x k (order_in t) (round_in (phase x (order_in t).market))) et
      ∙ ap (λ (p : Phase). enter_with x k o (round_in p)) ep

-- ---- in the state

-- ticket k with order o, and the round r of its market, which collects
module _ (x : Exchange) (h : Bounded x) (k : ℕ) (hk : k < 64) (o : Order) (r : Round) (ok : OrderBounds o) (ep : phase x o.market ≡ Collect r) where
  -- another round there, and another state of the ticket
  abbrev changed : Round → TicketState → Exchange
  changed r1 t = with_ticket (with_phase x o.market (Collect r1)) k t

  changed_phase : (r1 : Round) (t : TicketState) → phase (changed r1 t) o.market ≡ Collect r1
  changed_phase r1 t = phase_same x o.market (Collect r1) ok.market_low (omega (arith, h.markets, ok.market_high))

  changed_ticket : (r1 : Round) (t : TicketState) → ticket (changed r1 t) k ≡ t
  changed_ticket r1 t = ticket_same (with_phase x o.market (Collect r1)) k t (omega (arith, h.tickets))

  -- the round and the ticket as they were
  changed_back : (r1 r2 : Round) (s t : TicketState) → r2 ≡ r → ticket x k ≡ t
      → with_ticket (with_phase (changed r1 s) o.market (Collect r2)) k t ≡ x
  changed_back r1 r2 s t e et = exchange_back x o.market k (Collect r1) (Collect r2) s t (ep ∙ ap Collect (sym e)) et

  -- after an enter, the leave
  entered_leaves : ticket x k ≡ Resting o → step_of (enter_with x k o r).exchange (Call.Leave k o.member) ≡ accept o.offer.0 0 x
  entered_leaves et =
      let r1 : Round = entered_round r k o.side o.offer.0 in
      let clear : bit r.tickets k ≡ 0 = sym (ap (λ (p : Phase). bit (round_in p).tickets k) ep) ∙ h.rests k hk o et in
      leave_passes (changed r1 (Entered o)) k hk o r1 (changed_phase r1 (Entered o)) (changed_ticket r1 (Entered o)) ok.member
      ∙ ap (accept o.offer.0 0)
      (changed_back r1 (left_round r1 k o.side o.offer.0) (Entered o) (Resting o) (left_entered r k o.side o.offer.0 clear) et)

  -- after a leave, the enter
  left_enters : ticket x k ≡ Entered o → off_limit o.side o.limit.0 r.hi.0 r.lo.0 ≡ false
      → step_of (leave_with x k o r).exchange (Call.Enter k) ≡ accept (totals_of r o.side).total.0 0 x
  left_enters et within =
      let r1 : Round = left_round r k o.side o.offer.0 in
      let has : EnteredBounds r k o = subst (λ (p : Phase). EnteredBounds (round_in p) k o) ep (h.entered k hk o et) in
      let held : CollectBounds r = (subst PhaseBounds ep (h.phase_bounds o.market ok.market_low ok.market_high)).1 in
      enter_passes (changed r1 (Resting o)) k hk o r1 (changed_phase r1 (Resting o)) (changed_ticket r1 (Resting o)) within
      ∙ ap₂ (λ (total : ℕ) (v : Exchange). accept total 0 v) (total_back r k o.side o.offer.0 has.offer)
      (changed_back r1 (entered_round r1 k o.side o.offer.0) (Resting o) (Entered o) (entered_left r k o.side o.offer.0 held has.member has.offer) et)

-- ---- in history: a part put in and taken out

-- a function put at one place twice, with the value that it had there
put_back : {A : Type 0} (f : ℕ → A) (n : ℕ) (a b : A) → f n ≡ b → put (put f n a) n b ≡ f
put_back f n a b e = fun_ext (λ j. put_each (λ i v. v ≡ f i) (put f n a) n b j (λ q. sym e) (λ d. put_other f n a j d))

-- a market's round with a part put in and taken out, whatever stage it stands at
log_back : (b : RoundLog) (g : Stage) (k : ℕ) (q : Part) → b.part k ≡ absent
    → changed_at collecting (λ d. with_part d k absent) (changed_at collecting (λ d. with_part d k q) (running (set_stage b g))) ≡ running (set_stage b g)
log_back b collecting k q e = ap (λ (f : ℕ → Part). running (set_part (set_stage b collecting) f)) (put_back b.part k q absent e)
log_back b auctioning k q e = refl
log_back b settled k q e = refl

-- so with any market's round, and with history
round_forgets : (c : Current) (k : ℕ) (q : Part) → part_in c k ≡ absent
    → changed_at collecting (λ d. with_part d k absent) (changed_at collecting (λ d. with_part d k q) c) ≡ c
round_forgets idle k q e = refl
round_forgets (running b) k q e = log_back b b.stage k q e

history_forgets : (y : History) (k : ℕ) (o : PlacedOrder) → part_in (y.rounds (market_in o)) k ≡ absent → with_leave (with_enter y k o) k o ≡ y
history_forgets y k o e =
    let n : ℕ = market_in o in
    let c : Current = changed_at collecting (λ d. with_part d k (part_of o)) (y.rounds n) in
    ap (λ (v : Current). set_rounds y (put (put y.rounds n c) n (changed_at collecting (λ d. with_part d k absent) v))) (put_same y.rounds n c)
    ∙ ap (set_rounds y) (put_back y.rounds n c _ (sym (round_forgets (y.rounds n) k (part_of o) e)))

-- ---- the theorems, of a call that passed its tests, and then of one that was accepted

enters_leaves : (x : Exchange) → Bounded x → (k : ℕ) → Passed (enter_tests x k)
    → step_of (step_of x (Call.Enter k)).exchange (Call.Leave k (order x k).member) ≡ accept (order x k).offer.0 0 x
enters_leaves x h k p =
    let t = enter_tells x k p in
    ap (λ (out : Outcome). step_of out.exchange (Call.Leave k (order x k).member)) (step_passed x (Call.Enter k) p)
    ∙ entered_leaves x h k t.0 (order x k) (round_in (market_phase x k)) (subst TicketBounds t.1 (h.ticket_bounds k t.0)) t.2 t.1

-- a ticket in a round has a limit that keeps the round's bounds
leaves_enters : (x : Exchange) → Bounded x → (y : History) → Inv x y → (k member : ℕ) → Passed (leave_tests x k member)
    → step_of (step_of x (Call.Leave k member)).exchange (Call.Enter k) ≡ accept (totals_of (round_in (market_phase x k)) (order x k).side).total.0 0 x
leaves_enters x h y i k member p =
    let t : Told x k in_round = leave_tells x k member p in
    let r : Round = round_in (market_phase x k) in
    let ok : RoundOk collecting r (log_of (y.rounds (order x k).market)) = r_ok x y i k in_round t in
    let w = subst (PartOk collecting r.hi.0 r.lo.0 (log_of (y.rounds (order x k).market))) (part_is x y i k in_round t) (ok.parts k t.0) in
    ap (λ (out : Outcome). step_of out.exchange (Call.Enter k)) (step_passed x (Call.Leave k member) p)
    ∙ left_enters x h k t.0 (order x k) r (o_ok x y i k in_round t) t.2 t.1 w.within

leaves_absent : (x : Exchange) (y : History) → Inv x y → (k member : ℕ) → Passed (leave_tests x k member)
    → part_in ((with_leave y k (y.orders k)).rounds (order x k).market) k ≡ absent
leaves_absent x y i k member p =
    let n : ℕ = (order x k).market in
    let b : RoundLog = log_of (y.rounds n) in
    ap (λ (v : History). part_in (v.rounds n) k) (sym (part_told x y i k in_round (leave_tells x k member p) (λ v. absent)))
    ∙ ap (λ (c : Current). part_in c k) (put_same y.rounds n (running (with_part b k absent)))
    ∙ put_same b.part k absent

enters_forgotten : (x : Exchange) (y : History) → Inv x y → (k : ℕ) → Passed (enter_tests x k) → with_leave (with_enter y k (y.orders k)) k (y.orders k) ≡ y
enters_forgotten x y i k p =
    let t : Told x k at_rest = enter_tells x k p in
    let none : part_in (y.rounds (order x k).market) k ≡ absent = ap (λ (c : Current). part_in c k) (runs x y i k at_rest t) ∙ part_is x y i k at_rest t in
    subst (λ (v : PlacedOrder). with_leave (with_enter y k v) k v ≡ y) (sym (ap placed_in t.1) ∙ i.tickets.tickets_are k t.0)
    (history_forgets y k (placed_in (Resting (order x k))) none)

pub enter_leave : EnterLeave
enter_leave x l k a b e = enters_leaves x (reachable_bounded x l) k (accepted_passed x (Call.Enter k) a b e)

pub leave_enter : LeaveEnter
leave_enter x l k member a b e =
    leaves_enters x (reachable_bounded x l) (reachable_inv l).0 (reachable_inv l).1 k member (accepted_passed x (Call.Leave k member) a b e)

-- a request that was accepted is its call
request_accepted : (x : Exchange) (q : Request) (a b : ℕ) → (request_of x q).answer ≡ Ok (a, b) → (step_of x q.call).answer ≡ Ok (a, b)
unfolding request_of
request_accepted x q a b = go (ltb q.room (length (answer_line q.line (step_of x q.call).answer)))
  where
    go : (t : Bool) → (cond t (refuse x BufferTooShort) (step_of x q.call)).answer ≡ Ok (a, b) → (step_of x q.call).answer ≡ Ok (a, b)
    go true e = absurd (let z : ◌≡◌ {A = ℕ} 0 1 = cc in omega arith)
    go false e = e

-- history of a list, and of what comes after it
told_more : (x : Exchange) (y : History) (ss rs : List Submission)
    → history_from y (events_of model_engine x (ss ++ rs)) ≡ history_from (history_from y (events_of model_engine x ss)) (events_of model_engine (state_after model_engine x ss) rs)
unfolding history_from events_of state_after
told_more x y [] rs = refl
told_more x y (s ∷ ss) rs =
    told_after y (told_by model_engine x s) (events_of model_engine (left_by model_engine x s) (ss ++ rs))
    ∙ told_more (left_by model_engine x s) (history_from y (told_by model_engine x s)) ss rs
    ∙ ap (λ (v : History). history_from v (events_of model_engine (state_after model_engine (left_by model_engine x s) ss) rs))
    (sym (told_after y (told_by model_engine x s) (events_of model_engine (left_by model_engine x s) ss)))

-- of one request more, and of two, whose calls and answers are known
one_told : (x : Exchange) (y : History) (q : Request) (c : Call) (s : Answer) → q.call ≡ c → (request_of x q).answer ≡ s
    → history_from y (events_of model_engine x (single q ∷ [])) ≡ with_event y c s
unfolding history_from events_of
one_told x y q c s ec es = ap₂ (with_event y) ec es

two_told : (x : Exchange) (y : History) (p q : Request) (c d : Call) (s t : Answer)
    → p.call ≡ c → q.call ≡ d → (request_of x p).answer ≡ s → (request_of (request_of x p).exchange q).answer ≡ t
    → history_from y (events_of model_engine x (single p ∷ single q ∷ [])) ≡ with_event (with_event y c s) d t
unfolding history_from events_of
two_told x y p q c d s t ec ed es et =
    one_told (request_of x p).exchange (with_event y p.call (request_of x p).answer) q d t ed et
    ∙ ap (λ (v : History). with_event v d t) (one_told x y p c s ec es)

-- of a leave after a list, and of an enter and a leave after it
pub left_absent : LeftAbsent
unfolding with_event with_accepted
left_absent ss leave k member el a b la =
    let x : Exchange = state_after model_engine fresh_exchange ss in
    let y : History = history_of (events_of model_engine fresh_exchange ss) in
    let e : (step_of x (Call.Leave k member)).answer ≡ Ok (a, b) = subst (λ (v : Call). (step_of x v).answer ≡ Ok (a, b)) el (request_accepted x leave a b la) in
    ap (λ (v : History). part_in (v.rounds (order x k).market) k)
    (told_more fresh_exchange no_history ss (single leave ∷ []) ∙ one_told x y leave (Call.Leave k member) (Ok (a, b)) el la)
    ∙ leaves_absent x y (run_keeps fresh_exchange no_history fresh_inv ss) k member (accepted_passed x (Call.Leave k member) a b e)

pub enter_forgotten : EnterForgotten
unfolding with_event with_accepted
enter_forgotten ss enter leave k member ee el a b c d ea la =
    let x : Exchange = state_after model_engine fresh_exchange ss in
    let y : History = history_of (events_of model_engine fresh_exchange ss) in
    let e : (step_of x (Call.Enter k)).answer ≡ Ok (a, b) = subst (λ (v : Call). (step_of x v).answer ≡ Ok (a, b)) ee (request_accepted x enter a b ea) in
    told_more fresh_exchange no_history ss (single enter ∷ single leave ∷ [])
    ∙ two_told x y enter leave (Call.Enter k) (Call.Leave k member) (Ok (a, b)) (Ok (c, d)) ee el ea la
    ∙ enters_forgotten x y (run_keeps fresh_exchange no_history fresh_inv ss) k (accepted_passed x (Call.Enter k) a b e)
