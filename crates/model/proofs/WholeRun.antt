-- The whole_run theorem: the invariant holds after every list, and gives the statement.
use Rattle.std.specs.Prelude.{Ok, Err}
use Prim.Native.Nat.{◌<◌, ◌≤◌, suc, zero, ℕ}
use mathlib.Core.Bool.{Bool, cond, false, not, true}
use mathlib.Core.List.{List, [], ◌∷◌, ◌++◌}
use mathlib.Core.Path.{◌∙◌, ◌≡◌, ap, refl, subst, subst₂, sym}
use native.Mathlib.Omega.{arith}
use lib.Dec.{ltb}
use lib.ListN.{get_or, get_or-replicate, length, replicate}
use borrow.Author.Tests.{le-ltb}
use Rattle.model.specs.Answers.{answer_line, code_of}
use Rattle.model.specs.Bounds.{TicketBounds}
use Rattle.model.specs.Calls.{claim_with, done_of, refuse, tests_of}
use Rattle.model.specs.History.{Current, History, RoundLog, OrderTerms, history_from, history_of, idle, no_history, running, settled, with_event}
use Rattle.model.specs.OrderLists.{Listed, list_done, order_call, orders_of}
use Rattle.model.specs.Run.{Event, Request, after_calls, answers_to_calls, request_of, step_of}
use Rattle.model.specs.Submissions.{Submission, events_of, left_by, list_told, model_engine, order_list, orders_told, single, state_after, told_by}
use Rattle.model.specs.State.{closed_market, free_ticket, fresh_exchange, is_entered, is_free, is_paying, order_in, phase, round_in, ticket}
use Rattle.model.specs.WholeRun.{ListsKeep, PaysOut, RoundPays, SettledTicket, Singly, Whole, WholeRun, entered_in, got_by, next_order, nil, no_order_left, order_with, paid_by, part_in, placed_in, put_by, resting_in, resting_total, rounds_total, unclaimed}
use Rattle.model.specs.declared.answer.Outcome.{Outcome}
use Rattle.model.specs.declared.answer.Refusal.{Refusal}
use Rattle.model.specs.declared.answer.Refusal.TheVariants.{BufferTooShort}
use Rattle.model.specs.declared.call.Call.{Call}
use Rattle.model.specs.declared.orders.AnswerPlace.{AnswerPlace}
use Rattle.model.specs.declared.orders.OrderFields.{OrderFields}
use Rattle.model.specs.declared.state.Exchange.{Exchange}
use Rattle.model.specs.declared.state.Market.{Market}
use Rattle.model.specs.declared.state.Order.{Order}
use Rattle.model.specs.declared.state.Phase.{Phase}
use Rattle.model.specs.declared.state.Phase.TheVariants.{Auction, Closed, Collect, Paying}
use Rattle.model.specs.declared.state.Round.{Round}
use Rattle.model.specs.declared.state.Ticket.{Ticket}
use Rattle.model.specs.declared.state.TicketState.TheVariants.{Entered, Free}
use Rattle.units.specs.Counts.{amount}
use Rattle.units.specs.Sums.{sum_over}
use Rattle.units.specs.declared.Amount.{Amount}
use Rattle.ledger.proofs.Laws.{fresh_all_zero}
use Rattle.model.proofs.Codes.{codes_rising, refusal_code_lem, rooms_first}
use Rattle.model.proofs.Inv.{Inv, MarketOk}
use Rattle.model.proofs.KeepsBid.{bid_keeps}
use Rattle.model.proofs.KeepsClaim.{claim_keeps, pays, shares_are}
use Rattle.model.proofs.KeepsEntries.{enter_keeps, leave_keeps}
use Rattle.model.proofs.KeepsFunding.{deposit_keeps, withdraw_keeps}
use Rattle.model.proofs.KeepsMatch.{match_keeps}
use Rattle.model.proofs.KeepsOpen.{open_keeps}
use Rattle.model.proofs.KeepsOrders.{cancel_keeps, order_keeps}
use Rattle.model.proofs.KeepsSettle.{settle_keeps}
use Rattle.model.proofs.OrderLists.{all_answered, list_apart}
use Rattle.model.proofs.Rounds.{round_pays}
use Rattle.model.proofs.Steps.{step_apart, step_passed}
use Rattle.model.proofs.TicketOf.{entered_of}
use Rattle.units.proofs.Decide.{Passed}
use Rattle.units.proofs.Sums.{sum_zero}

-- ---- every call

-- a refusal leaves state and history; an acceptance keeps the invariant
done_keeps : (h : Exchange) (y : History) → Inv h y → (c : Call) → Passed (tests_of h c) → Inv (done_of h c).exchange (with_event y c (done_of h c).answer)
unfolding with_event
done_keeps h y i (Call.Deposit m t n) p = deposit_keeps h y m t n _ _ i p
done_keeps h y i (Call.Withdraw m t n) p = withdraw_keeps h y m t n _ _ i p
done_keeps h y i (Call.Order k m mk sd lim n) p = order_keeps h y k m mk sd lim n i p
done_keeps h y i (Call.Cancel k m) p = cancel_keeps h y k m i p
done_keeps h y i (Call.Open mk at r w len) p = open_keeps h y mk at r w len i p
done_keeps h y i (Call.Enter k) p = enter_keeps h y k i p
done_keeps h y i (Call.Match mk at) p = match_keeps h y mk at i p
done_keeps h y i (Call.Bid mk m at sd n bound) p = bid_keeps h y mk m at sd n bound i p
done_keeps h y i (Call.Settle mk at) p = settle_keeps h y mk at i p
done_keeps h y i (Call.Claim k) p = claim_keeps h y k i p
done_keeps h y i (Call.Leave k m) p = leave_keeps h y k m i p

pub step_keeps : (h : Exchange) (y : History) → Inv h y → (c : Call) → Inv (step_of h c).exchange (with_event y c (step_of h c).answer)
unfolding with_event
step_keeps h y i c = step_apart h c (λ (out : Outcome). Inv out.exchange (with_event y c out.answer)) (λ r. i) (done_keeps h y i c)

request_keeps : (h : Exchange) (y : History) → Inv h y → (q : Request) → Inv (request_of h q).exchange (with_event y q.call (request_of h q).answer)
unfolding request_of with_event
request_keeps h y i q = go (ltb q.room (length (answer_line q.line (step_of h q.call).answer)))
  where
    go : (t : Bool) → Inv (cond t (refuse h BufferTooShort) (step_of h q.call)).exchange (with_event y q.call (cond t (refuse h BufferTooShort) (step_of h q.call)).answer)
    go true = i
    go false = step_keeps h y i q.call

-- ---- every submission

-- a list of orders, one after the other
orders_keep : (h : Exchange) (y : History) → Inv h y → (fs : List OrderFields) → Inv (list_done h fs).exchange (history_from y (orders_told fs (list_done h fs).answers))
unfolding after_calls answers_to_calls orders_told history_from
orders_keep h y i [] = i
orders_keep h y i (f ∷ fs) = orders_keep (step_of h (order_call f)).exchange (with_event y (order_call f) (step_of h (order_call f)).answer) (step_keeps h y i (order_call f)) fs

-- what is told of one thing after another
pub told_after : (y : History) (es gs : List Event) → history_from y (es ++ gs) ≡ history_from (history_from y es) gs
unfolding history_from
told_after y [] gs = refl
told_after y (e ∷ es) gs = told_after (with_event y e.call e.answer) es gs

submission_keeps : (h : Exchange) (y : History) → Inv h y → (s : Submission) → Inv (left_by model_engine h s) (history_from y (told_by model_engine h s))
unfolding history_from
submission_keeps h y i (single q) = request_keeps h y i q
submission_keeps h y i (order_list fs ps) =
    list_apart h fs ps (λ (l : Listed). Inv l.exchange (history_from y (list_told fs l.answer l.answers))) i (λ e m. orders_keep h y i fs)

pub run_keeps : (h : Exchange) (y : History) → Inv h y → (ss : List Submission) → Inv (state_after model_engine h ss) (history_from y (events_of model_engine h ss))
unfolding state_after events_of history_from
run_keeps h y i [] = i
run_keeps h y i (s ∷ ss) =
    subst (Inv (state_after model_engine (left_by model_engine h s) ss)) (sym (told_after y (told_by model_engine h s) (events_of model_engine (left_by model_engine h s) ss)))
    (run_keeps (left_by model_engine h s) (history_from y (told_by model_engine h s)) (submission_keeps h y i s) ss)

-- ---- the fresh state

fresh_ticket : (k : ℕ) → k < 64 → ticket fresh_exchange k ≡ Free
fresh_ticket k l = ap (λ (t : Ticket). t.state) (get_or-replicate 64 k free_ticket free_ticket l)

pub fresh_phase : (n : ℕ) → n < 4 → phase fresh_exchange n ≡ Closed
fresh_phase zero l = refl
fresh_phase (suc j) l = ap (λ (t : Market). t.phase) (get_or-replicate 3 j closed_market closed_market (omega arith))

zeros : (t : ℕ) → t < 4 → (get_or (replicate 4 (amount 0)) t (amount 0)).0 ≡ 0
zeros t l = ap (λ (a : Amount). a.0) (get_or-replicate 4 t (amount 0) (amount 0) l)

fresh_resting : (t : ℕ) → resting_total fresh_exchange.tickets t ≡ 0
unfolding resting_total
fresh_resting t = sum_zero 64 _ (λ k l. ap (λ s. resting_in s t) (fresh_ticket k l))

fresh_rounds : (t : ℕ) → rounds_total no_history.rounds t ≡ 0
unfolding rounds_total
fresh_rounds t = sum_zero 3 _ (λ k l. refl)

put_nothing : (t : ℕ) → sum_over (put_by t) [] ≡ 0
unfolding sum_over
put_nothing t = refl

pub fresh_inv : Inv fresh_exchange no_history
fresh_inv =
    record {
      sized = record { shaped = fresh_all_zero.shaped; supplies = refl; residues = refl; tickets = refl; markets = refl };
      bounded = λ t l. omega (arith, zeros t l);
      ticket_bounds = λ k l. subst TicketBounds (sym (fresh_ticket k l)) tt;
      markets = λ n p l. subst (λ (v : Phase). MarketOk v idle) (sym (fresh_phase n l)) tt;
      books =
          record {
            conserved = λ t l. omega (arith, fresh_all_zero.totals t l, fresh_resting t, fresh_rounds t, zeros t l);
            supplied = λ t l. omega (arith, zeros t l);
            accounts = λ m lm t lt. omega (arith, fresh_all_zero.balances m t lm lt);
          };
      tickets =
          record {
            tickets_are = λ k l. ap placed_in (fresh_ticket k l);
            places_are = λ k l n p q. ap (λ s. entered_in s n) (fresh_ticket k l);
          };
      past = record { residue_is = λ t l. zeros t l ∙ sym (put_nothing t); ended_well = nil; limits = nil };
    }

-- ---- the statement from the invariant

solvent_in : (p : Phase) (b : RoundLog) → MarketOk p (running b) → RoundPays b
solvent_in Closed b k = absurd k
solvent_in (Collect r) b k = round_pays k.0
solvent_in (Auction r) b k = round_pays k
solvent_in (Paying r) b k = round_pays k

paying_round : (p : Phase) (b : RoundLog) → MarketOk p (running b) → b.stage ≡ settled → p ≡ Paying (round_in p)
paying_round Closed b k e = absurd k
paying_round (Collect r) b k e = absurd (let z : ◌≡◌ {A = ℕ} 0 1 = cc k.0.stage in omega arith)
paying_round (Auction r) b k e = absurd (let z : ◌≡◌ {A = ℕ} 0 1 = cc k.stage in omega arith)
paying_round (Paying r) b k e = refl

module _ (h : Exchange) (k : ℕ) (hk : k < 64) (o : Order) (r : Round) (et : ticket h k ≡ Entered o) (ep : phase h o.market ≡ Paying r) where
  -- a claim that no test stops
  pub claim_passes : step_of h (Call.Claim k) ≡ claim_with h k o r
  claim_passes =
      step_passed h (Call.Claim k) (
        le-ltb 63 k (omega arith),
        (
          ap is_free et,
          (
            ap (λ s. not (is_entered s)) et,
            (ap (λ s. not (is_paying (phase h (order_in s).market))) et ∙ ap (λ p. not (is_paying p)) ep, tt),
          ),
        ),
      )
      ∙ ap (λ s. claim_with h k (order_in s) (round_in (phase h (order_in s).market))) et
      ∙ ap (λ p. claim_with h k o (round_in p)) ep

  request_passes : (line room : ℕ) → length (answer_line line (claim_with h k o r).answer) ≤ room
      → request_of h (record { line = line; room = room; call = Call.Claim k }) ≡ claim_with h k o r
  unfolding request_of
  request_passes line room l =
      ap (λ (out : Outcome). cond (ltb room (length (answer_line line out.answer))) (refuse h BufferTooShort) out) claim_passes
      ∙ ap (λ (q : Bool). cond q (refuse h BufferTooShort) (claim_with h k o r)) (le-ltb room (length (answer_line line (claim_with h k o r).answer)) l)

module _ (h : Exchange) (y : History) (i : Inv h y) (k : ℕ) (terms : OrderTerms) (market o : ℕ) (b : RoundLog) (st : SettledTicket y k terms market o b) where
  abbrev order : Order
  order = order_with terms market o

  entered : ticket h k ≡ Entered order
  entered =
      entered_of (ticket h k) terms market o
      (i.tickets.places_are k st.ticket_range market st.market_low st.market_high
      ∙ ap (λ (c : Current). unclaimed (part_in c k)) st.round ∙ ap unclaimed st.part)

  paying : phase h market ≡ Paying (round_in (phase h market))
  paying = paying_round (phase h market) b (subst (MarketOk (phase h market)) st.round (i.markets market st.market_low st.market_high)) st.stage

  claim_pays : (line room : ℕ) → length (answer_line line (Ok ((paid_by b terms o), (got_by b terms o)))) ≤ room
      → PaysOut h k order (paid_by b terms o) (got_by b terms o) (request_of h (record { line = line; room = room; call = Call.Claim k }))
  claim_pays line room =
      let r : Round = round_in (phase h market) in
      let sh = shares_are h y i k st.ticket_range order r b entered paying st.round in
      subst₂
      (λ (s g : ℕ).
      length (answer_line line (Ok (s, g))) ≤ room
      → PaysOut h k order s g (request_of h (record { line = line; room = room; call = Call.Claim k })))
      sh.0 sh.1
      (λ l.
      subst (PaysOut h k order _ _) (sym (request_passes h k st.ticket_range order r entered paying line room l))
      (pays h y i k st.ticket_range order r b entered paying st.round))

-- a refusal leaves the state: the decision's own refusals do, and an acceptance is none
Leaves : Exchange → Outcome → Type 0
Leaves h out = (why : Refusal) → out.answer ≡ Err why → out.exchange ≡ h

step_leaves : (h : Exchange) (c : Call) → Leaves h (step_of h c)
unfolding Leaves
step_leaves h c =
    step_apart h c (Leaves h) (λ r why e. refl)
    (λ p why e. absurd (omega (arith, refusal_code_lem why, sym (ap code_of e) ∙ (codes_rising h c).done_accepts)))

refused_leaves : (h : Exchange) (q : Request) (why : Refusal) → (request_of h q).answer ≡ Err why → (request_of h q).exchange ≡ h
unfolding request_of Leaves
refused_leaves h q why = go (ltb q.room (length (answer_line q.line (step_of h q.call).answer)))
  where
    go : (t : Bool) → (cond t (refuse h BufferTooShort) (step_of h q.call)).answer ≡ Err why → (cond t (refuse h BufferTooShort) (step_of h q.call)).exchange ≡ h
    go true e = refl
    go false e = step_leaves h q.call why e

pub whole_of : (h : Exchange) (y : History) → Inv h y → Whole request_of h y
whole_of h y i =
    record {
      books = i.books;
      tickets = i.tickets;
      rounds = record { solvent = λ n p l b e. solvent_in (phase h n) b (subst (MarketOk (phase h n)) e (i.markets n p l)) };
      past = i.past;
      engine =
          record {
            refused_stays = λ q why e. refused_leaves h q why e;
            settled_pays =
                λ k terms market o b st. (
                  sym (i.tickets.tickets_are k st.ticket_range) ∙ ap placed_in (entered h y i k terms market o b st),
                  claim_pays h y i k terms market o b st,
                );
          };
    }

-- of lists of orders: an order made singly is its call where there is room
singly : (x : Exchange) (fs : List OrderFields) → Singly request_of x fs (list_done x fs).answers (list_done x fs).exchange
unfolding after_calls answers_to_calls
singly x [] = no_order_left
singly x (f ∷ fs) = next_order (λ line room l. (rooms_first x (record { line = line; room = room; call = order_call f })).enough l) (singly (step_of x (order_call f)).exchange fs)

ListKeeps : Exchange → List OrderFields → List AnswerPlace → Listed → Type 0
ListKeeps x fs ps l =
    ((why : Refusal) → l.answer ≡ Err why → (l.exchange ≡ x) × (l.answers ≡ ps))
    × ((a b : ℕ) → l.answer ≡ Ok (a, b) → (length l.answers ≡ length fs) × (length l.answers ≡ length ps))
    × ((a b : ℕ) → l.answer ≡ Ok (a, b) → Singly request_of x fs l.answers l.exchange)

list_keeps : (x : Exchange) (fs : List OrderFields) (ps : List AnswerPlace) → ListKeeps x fs ps (orders_of x fs ps)
unfolding ListKeeps
list_keeps x fs ps =
    list_apart x fs ps (ListKeeps x fs ps)
    (λ why e. (refl, refl), λ a b e. absurd (let z : ◌≡◌ {A = ℕ} 0 1 = cc (e) in omega arith), λ a b e. absurd (let z : ◌≡◌ {A = ℕ} 0 1 = cc (e) in omega arith))
    (λ same most. (
      λ why e. absurd (let z : ◌≡◌ {A = ℕ} 0 1 = cc (e) in omega arith),
      λ a b e. (all_answered x fs, all_answered x fs ∙ same),
      λ a b e. singly x fs,
    ))

lists_keep : (x : Exchange) → ListsKeep model_engine x
unfolding ListKeeps
lists_keep x =
    record { refused_leaves = λ fs ps. (list_keeps x fs ps).0; all_answered = λ fs ps. (list_keeps x fs ps).1; made_singly = λ fs ps. (list_keeps x fs ps).2 }

-- ---- the theorem

pub whole_run : WholeRun
whole_run ss =
    record {
      whole = whole_of (state_after model_engine fresh_exchange ss) (history_of (events_of model_engine fresh_exchange ss)) (run_keeps fresh_exchange no_history fresh_inv ss);
      lists = lists_keep (state_after model_engine fresh_exchange ss);
    }
