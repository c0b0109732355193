-- Lists of orders, computed.
use Rattle.std.specs.Prelude.{Ok, Err}
use Prim.Native.Nat.{ℕ, suc, ◌≤◌}
use mathlib.Core.Path.{◌≡◌, ◌∙◌, ap, refl, subst, sym}
use mathlib.Core.Bool.{Bool, cond}
use mathlib.Core.List.{List, [], ◌∷◌, map}
use native.Mathlib.Omega.{arith}
use lib.ListN.{length, replicate}
use borrow.Author.Tests.{le-ltb}
use Rattle.pricing.specs.declared.Side.TheVariants.{Buy}
use Rattle.model.specs.declared.state.TicketState.TheVariants.{Resting}
use Rattle.model.specs.declared.state.Exchange.{Exchange}
use Rattle.model.specs.declared.call.Call.{Call}
use Rattle.model.specs.declared.call.Call.TheVariants.{Order}
use Rattle.model.specs.declared.answer.Refusal.{Refusal}
use Rattle.model.specs.declared.answer.Refusal.TheVariants.{TicketInUse, BufferTooShort, BadOrderList}
use Rattle.model.specs.declared.answer.Outcome.{Outcome}
use Rattle.model.specs.declared.orders.OrderFields.{OrderFields}
use Rattle.model.specs.declared.orders.AnswerPlace.{AnswerPlace}
use Rattle.model.specs.State.{balance, last_block, ticket, fresh_exchange}
use Rattle.model.specs.Answers.{Answer, code_of, first_of, second_of, answer_line}
use Rattle.model.specs.Calls.{accept, refuse}
use Rattle.model.specs.Run.{Request, Engine, Event, at_first, after_call, step_of, request_of, after_calls, answers_to_calls}
use Rattle.model.specs.OrderLists.{Listed, order_call, orders_of, EmptyList, ListOfOne, CutAlike, ListsCut}
use Rattle.model.specs.Submissions.{single, order_list, WholeEngine, model_engine, orders_told, events_of, state_after, told_by, SpelledOut, RunsSpelledOut}
use Rattle.model.specs.History.{market_in}
use Rattle.model.specs.WholeRun.{Singly, no_order_left, next_order, ListsKeep}
use Rattle.cases.specs.Literals.{order}
use Rattle.cases.specs.KindCases.{answer_numbers}
use Rattle.cases.specs.ListCases.{fields, place, held, orders_in, answers_in, list_numbers, funded, nine_orders, refused_orders, nine_listed, refused_listed, balances_in, tickets_in, nine_tickets, unit_orders, full_listed, LengthsRefused, LengthsAccepted, nine_told, ListsSilent, mixed_run, mixed_told, mixed_numbers, mixed_read, summed_up, four_placed, outcome, one_order, one_request, same_again, FixesLists, seven_eight, up_to_one, ListsMet, ListsRefused, SinglyMet, SinglyRefused, one_listed, HousesRefused, EmptyUsed, NothingMet, NothingRefused, OneUsed, CutTold, CutUsed, CutsMet, CutsRefused, ReachUsed, SpelledUsed, SpelledRefused}
use Rattle.model.proofs.Computing.{call_computes, history_computes}
use Rattle.model.proofs.WholeRun.{whole_run}

-- one list
unfoldable list_computes : Unit {0}
unfolding call_computes orders_of after_calls answers_to_calls orders_told
list_computes = tt

-- ---- lists worked by hand

pub fields_kept : order_call (fields 21 22 23 24 25 26) ≡ Order 21 22 23 24 25 26
fields_kept = refl

pub nine_answered : list_numbers nine_listed ≡ ((0, 0, 0), answers_in nine_orders)
unfolding nine_orders list_computes
nine_answered = refl

pub nine_balances : balances_in nine_listed.exchange ≡ 0 ∷ 0 ∷ 0 ∷ 0 ∷ []
unfolding nine_orders list_computes
nine_balances = refl

pub nine_tickets_lem : tickets_in nine_listed.exchange ≡ nine_tickets
unfolding nine_orders list_computes
nine_tickets_lem = refl

pub refused_answered : list_numbers refused_listed ≡ ((0, 0, 0), answers_in refused_orders)
unfolding refused_orders list_computes
refused_answered = refl

pub refused_stays : refused_listed.exchange ≡ funded
unfolding refused_orders list_computes
refused_stays = refl

pub full_accepted : full_listed.answer ≡ Ok (0, 0)
unfolding unit_orders list_computes
full_accepted = refl

pub full_answered : full_listed.answers ≡ replicate 64 (place (Ok (1, 0)))
unfolding unit_orders list_computes
full_answered = refl

pub full_balance : balance full_listed.exchange 15 0 ≡ 0
unfolding unit_orders list_computes
full_balance = refl

pub full_ticket : ticket full_listed.exchange 63 ≡ Resting (order 15 3 Buy 1 1)
unfolding unit_orders list_computes
full_ticket = refl

-- ---- lengths

pub code_22 : answer_numbers (Err BadOrderList) ≡ (22, 0, 0)
code_22 = refl

pub lengths_refused : LengthsRefused
unfolding orders_of
lengths_refused =
    record {
      orders_1_places_0 = λ x f p. refl;
      orders_0_places_1 = λ x f p. refl;
      orders_1_places_2 = λ x f p. refl;
      orders_2_places_1 = λ x f p. refl;
      orders_63_places_64 = λ x f p. refl;
      orders_64_places_63 = λ x f p. refl;
      orders_64_places_65 = λ x f p. refl;
      orders_65_places_64 = λ x f p. refl;
      orders_65_places_65 = λ x f p. refl;
      orders_66_places_66 = λ x f p. refl;
      orders_70_places_70 = λ x f p. refl;
      orders_128_places_128 = λ x f p. refl;
      orders_66_places_64 = λ x f p. refl;
      orders_64_places_66 = λ x f p. refl;
      orders_128_places_0 = λ x f p. refl;
      orders_0_places_64 = λ x f p. refl;
      orders_64_places_1 = λ x f p. refl;
      orders_20_places_10 = λ x f p. refl;
      orders_10_places_20 = λ x f p. refl;
    }

pub lengths_accepted : LengthsAccepted
unfolding orders_of after_calls answers_to_calls
lengths_accepted = record { none = λ x. refl; orders_1 = λ x f p. refl; orders_2 = λ x f p. refl; orders_32 = λ x f p. refl; orders_63 = λ x f p. refl; orders_64 = λ x f p. refl }

-- ---- what a list tells

pub nine_told_lem : told_by model_engine funded (order_list (orders_in nine_orders) (replicate 9 held)) ≡ nine_told
unfolding nine_orders nine_told list_computes
nine_told_lem = refl

pub lists_silent : ListsSilent
unfolding orders_of after_calls answers_to_calls orders_told
lists_silent =
    record {
      none = record { tells = λ x f p. refl; leaves = λ x f p. refl };
      orders_2_places_1 = record { tells = λ x f p. refl; leaves = λ x f p. refl };
      orders_1_places_2 = record { tells = λ x f p. refl; leaves = λ x f p. refl };
      orders_65_places_65 = record { tells = λ x f p. refl; leaves = λ x f p. refl };
      orders_128_places_128 = record { tells = λ x f p. refl; leaves = λ x f p. refl };
    }

-- ---- a run with lists

pub mixed_told_lem : events_of model_engine fresh_exchange mixed_run ≡ mixed_told
unfolding nine_orders nine_told mixed_run mixed_told list_computes history_computes
mixed_told_lem = refl

pub mixed_read_lem : mixed_read ≡ mixed_numbers
unfolding nine_orders mixed_run list_computes history_computes
mixed_read_lem = refl

pub mixed_adds_up : map summed_up mixed_read.tokens ≡ (10, 10) ∷ (5, 5) ∷ []
unfolding nine_orders mixed_run list_computes history_computes
mixed_adds_up = refl

-- ---- what the whole_run statement says of lists

-- the first of some orders made singly, the only one, and none
singly_first : {f : Engine} {x y : Exchange} {o : OrderFields} {os : List OrderFields} {p : AnswerPlace} {ps : List AnswerPlace} → Singly f x (o ∷ os) (p ∷ ps) y
    → (between : Exchange)
    × ((line room : ℕ) → length (answer_line line p.answer) ≤ room → f x (record { line = line; room = room; call = order_call o }) ≡ outcome p.answer between)
    × Singly f between os ps y
singly_first (next_order h s) = (_, h, s)

singly_one : {f : Engine} {x y : Exchange} {o : OrderFields} {p : AnswerPlace} → Singly f x (o ∷ []) (p ∷ []) y
    → (line room : ℕ) → length (answer_line line p.answer) ≤ room → f x (record { line = line; room = room; call = order_call o }) ≡ outcome p.answer y
singly_one (next_order h no_order_left) = h

singly_none : {f : Engine} {x y : Exchange} {ps : List AnswerPlace} → Singly f x [] ps y → y ≡ x
singly_none no_order_left = refl

singly_length : {f : Engine} {x y : Exchange} {os : List OrderFields} {ps : List AnswerPlace} → Singly f x os ps y → length os ≡ length ps
singly_length no_order_left = refl
singly_length (next_order h s) = ap suc (singly_length s)

-- with answers that are told
singly_told : {f : Engine} {x y : Exchange} {os : List OrderFields} {ps qs : List AnswerPlace} → ps ≡ qs → Singly f x os ps y → Singly f x os qs y
singly_told {f} {x} {y} {os} e s = subst (λ (l : List AnswerPlace). Singly f x os l y) e s

module _ (e : WholeEngine) (x : Exchange) (k : ListsKeep e x) where
  one_made : (p : AnswerPlace) → (e.order_list x (one_order ∷ []) (p ∷ [])).answer ≡ Ok (3, 4)
      → (e.order_list x (one_order ∷ []) (p ∷ [])).answers ≡ place (Ok (5, 0)) ∷ []
      → e.request x (one_request 40 9) ≡ outcome (Ok (5, 0)) (e.order_list x (one_order ∷ []) (p ∷ [])).exchange
  unfolding history_computes
  one_made p a t = singly_one (singly_told t (k.made_singly _ _ 3 4 a)) 40 9 (omega arith)

  two_made : (p q : AnswerPlace) → (e.order_list x same_again (p ∷ q ∷ [])).answer ≡ Ok (0, 0)
      → (e.order_list x same_again (p ∷ q ∷ [])).answers ≡ place (Ok (5, 0)) ∷ place (Err TicketInUse) ∷ []
      → e.request (e.request x (one_request 40 9)).exchange (one_request 1 8) ≡ outcome (Err TicketInUse) (e.order_list x same_again (p ∷ q ∷ [])).exchange
  unfolding history_computes
  two_made p q a t =
      let s = singly_first (singly_told t (k.made_singly _ _ 0 0 a)) in
      ap (λ (o : Outcome). e.request o.exchange (one_request 1 8)) (s.1 40 9 (omega arith)) ∙ singly_one s.2 1 8 (omega arith)

pub fixes_lists : FixesLists
fixes_lists e x k =
    record {
      state_stays = λ f p r. (k.refused_leaves _ _ _ r).0;
      places_stay = λ f p r. (k.refused_leaves _ _ _ r).1;
      two_answered = λ f h p q a. (k.all_answered _ _ 3 4 a).0;
      placeless = λ f a. let n = k.all_answered (f ∷ []) [] 3 4 a in omega (arith, n.0, n.1);
      one_made = one_made e x k;
      two_made = two_made e x k;
      none_made = λ a. singly_none (k.made_singly [] [] 0 0 a);
    }

-- a refused list is not accepted, and an accepted one not refused
not_accepted : {a b : ℕ} → ◌≡◌ {A = Answer} (Err BadOrderList) (Ok (a, b)) → ⊥
not_accepted e = cc

not_refused : {r : Refusal} → ◌≡◌ {A = Answer} (Ok (0, 0)) (Err r) → ⊥
not_refused e = cc

-- what a list of none and of one answers
up_to_one_leaves : (x : Exchange) (fs : List OrderFields) (ps : List AnswerPlace) (why : Refusal) → (up_to_one x fs ps).answer ≡ Err why
    → ((up_to_one x fs ps).exchange ≡ x) × ((up_to_one x fs ps).answers ≡ ps)
up_to_one_leaves x [] [] why e = absurd (not_refused e)
up_to_one_leaves x [] (p ∷ ps) why e = (refl, refl)
up_to_one_leaves x (f ∷ []) [] why e = (refl, refl)
up_to_one_leaves x (f ∷ []) (p ∷ []) why e = absurd (not_refused e)
up_to_one_leaves x (f ∷ []) (p ∷ q ∷ ps) why e = (refl, refl)
up_to_one_leaves x (f ∷ g ∷ fs) ps why e = (refl, refl)

up_to_one_answers : (x : Exchange) (fs : List OrderFields) (ps : List AnswerPlace) (a b : ℕ) → (up_to_one x fs ps).answer ≡ Ok (a, b)
    → (length (up_to_one x fs ps).answers ≡ length fs) × (length (up_to_one x fs ps).answers ≡ length ps)
up_to_one_answers x [] [] a b e = (refl, refl)
up_to_one_answers x [] (p ∷ ps) a b e = absurd (not_accepted e)
up_to_one_answers x (f ∷ []) [] a b e = absurd (not_accepted e)
up_to_one_answers x (f ∷ []) (p ∷ []) a b e = (refl, refl)
up_to_one_answers x (f ∷ []) (p ∷ q ∷ ps) a b e = absurd (not_accepted e)
up_to_one_answers x (f ∷ g ∷ fs) ps a b e = absurd (not_accepted e)

up_to_one_makes : (x : Exchange) (fs : List OrderFields) (ps : List AnswerPlace) (a b : ℕ) → (up_to_one x fs ps).answer ≡ Ok (a, b)
    → Singly seven_eight x fs (up_to_one x fs ps).answers (up_to_one x fs ps).exchange
up_to_one_makes x [] [] a b e = no_order_left
up_to_one_makes x [] (p ∷ ps) a b e = absurd (not_accepted e)
up_to_one_makes x (f ∷ []) [] a b e = absurd (not_accepted e)
up_to_one_makes x (f ∷ []) (p ∷ []) a b e =
    next_order (λ line room l. ap (λ (t : Bool). cond t (refuse x BufferTooShort) (accept 7 8 x)) (le-ltb room (length (answer_line line (Ok (7, 8)))) l)) no_order_left
up_to_one_makes x (f ∷ []) (p ∷ q ∷ ps) a b e = absurd (not_accepted e)
up_to_one_makes x (f ∷ g ∷ fs) ps a b e = absurd (not_accepted e)

pub lists_met : ListsMet
unfolding state_after
lists_met =
    record {
      refusing_all = λ x. record { refused_leaves = λ fs ps why e. (refl, refl); all_answered = λ fs ps a b e. absurd (not_accepted e); made_singly = λ fs ps a b e. absurd (not_accepted e) };
      up_to_one_lem = λ x. record { refused_leaves = up_to_one_leaves x; all_answered = up_to_one_answers x; made_singly = up_to_one_makes x };
      model_fresh = (whole_run []).lists;
      model_mixed = (whole_run mixed_run).lists;
    }

-- the code in the first place
abbrev first_code : List AnswerPlace → ℕ
first_code [] = 0
first_code (p ∷ ps) = code_of p.answer

pub lists_refused : ListsRefused
unfolding history_computes
lists_refused =
    record {
      clears = λ x k. let h : ◌≡◌ {A = ℕ} 0 1 = ap length (k.refused_leaves [] (held ∷ []) _ refl).1 in omega (arith, h);
      writes = λ x k. let h : ◌≡◌ {A = ℕ} 22 0 = ap first_code (k.refused_leaves [] (held ∷ []) _ refl).1 in omega (arith, h);
      credits = λ k. let h : ◌≡◌ {A = ℕ} 1 0 = ap (λ y. balance y 0 0) (k.refused_leaves [] [] _ refl).0 in omega (arith, h);
      fewer = λ x k. let h : ◌≡◌ {A = ℕ} 0 1 = (k.all_answered (one_order ∷ []) (held ∷ []) 0 0 refl).0 in omega (arith, h);
      more = λ x k. let h : ◌≡◌ {A = ℕ} 2 1 = (k.all_answered (one_order ∷ []) (held ∷ []) 0 0 refl).0 in omega (arith, h);
      placeless = λ x k. let h : ◌≡◌ {A = ℕ} 1 0 = (k.all_answered (one_order ∷ []) [] 0 0 refl).1 in omega (arith, h);
      other_answer = λ x k. let h : ◌≡◌ {A = ℕ} 8 9 = ap (λ o. second_of o.answer) (singly_one (k.made_singly (one_order ∷ []) (held ∷ []) 0 0 refl) 1 80 (omega arith)) in omega (arith, h);
      other_state = λ k. let h : ◌≡◌ {A = ℕ} 0 1 = ap (λ o. balance o.exchange 0 0) (singly_one (k.made_singly (one_order ∷ []) (held ∷ []) 0 0 refl) 1 80 (omega arith)) in omega (arith, h);
    }

-- a request of the model that has room is its call
fits : (x : Exchange) (c : Call) (line room : ℕ) → length (answer_line line (step_of x c).answer) ≤ room → request_of x (record { line = line; room = room; call = c }) ≡ step_of x c
unfolding request_of
fits x c line room l = ap (λ (t : Bool). cond t (refuse x BufferTooShort) (step_of x c)) (le-ltb room (length (answer_line line (step_of x c).answer)) l)

pub singly_met : SinglyMet
unfolding list_computes
singly_met =
    record {
      none = λ f x. no_order_left;
      two = next_order (fits funded (Order 0 0 1 0 3000000 4)) (next_order (fits four_placed (Order 0 1 1 1 1 2)) no_order_left);
    }

pub singly_refused : SinglyRefused
unfolding list_computes history_computes
singly_refused =
    record {
      answer_less = λ f x y o s. let n : ◌≡◌ {A = ℕ} 1 0 = singly_length s in omega (arith, n);
      answer_more = λ f x y p s. let n : ◌≡◌ {A = ℕ} 0 1 = singly_length s in omega (arith, n);
      none_moved = λ f s. let h : ◌≡◌ {A = ℕ} 1 0 = ap (λ y. balance y 0 0) (singly_none s) in omega (arith, h);
      answer = λ y s. let h : ◌≡◌ {A = ℕ} 4 3 = ap (λ o. first_of o.answer) (singly_one s 1 80 (omega arith)) in omega (arith, h);
      state = λ s. let h : ◌≡◌ {A = ℕ} 6 10 = ap (λ o. balance o.exchange 0 0) (singly_one s 1 80 (omega arith)) in omega (arith, h);
      order = λ y s. let h : ◌≡◌ {A = ℕ} 0 7 = ap (λ o. code_of o.answer) ((singly_first s).1 1 80 (omega arith)) in omega (arith, h);
      first_state =
          λ y s.
          let t = singly_first s in
          let h : ◌≡◌ {A = ℕ} 7 0 =
          ap (λ o. code_of o.answer)
          (ap (λ (o : Outcome). request_of o.exchange (record { line = 1; room = 80; call = Order 0 1 1 1 1 2 })) (t.1 1 80 (omega arith)) ∙ singly_one t.2 1 80 (omega arith)) in
          omega (arith, h);
    }

-- ---- engines of the whole house

pub houses_refused : HousesRefused
unfolding one_listed list_computes history_computes
houses_refused =
    record {
      hides = λ w. let h : ◌≡◌ {A = ℕ} 6 10 = (w one_listed).whole.books.accounts 0 (omega arith) 0 (omega arith) in omega (arith, h);
      denies = λ w. let h : ◌≡◌ {A = ℕ} 6 10 = (w one_listed).whole.books.accounts 0 (omega arith) 0 (omega arith) in omega (arith, h);
      promises = λ w. let h : ◌≡◌ {A = ℕ} 14 10 = (w one_listed).whole.books.accounts 0 (omega arith) 0 (omega arith) in omega (arith, h);
      misplaces = λ w. let h : ◌≡◌ {A = ℕ} 0 1 = ap market_in ((w one_listed).whole.tickets.tickets_are 0 (omega arith)) in omega (arith, h);
      moves = λ w. let h : ◌≡◌ {A = ℕ} 1 0 = ap last_block ((w []).whole.engine.refused_stays (one_request 1 80) _ refl) in omega (arith, h);
      clears = λ w. let h : ◌≡◌ {A = ℕ} 0 1 = ap length ((w []).lists.refused_leaves [] (held ∷ []) _ refl).1 in omega (arith, h);
      credits = λ w. let h : ◌≡◌ {A = ℕ} 1 0 = ap (λ x. balance x 0 0) ((w []).lists.refused_leaves [] [] _ refl).0 in omega (arith, h);
    }

-- ---- a list of none, a list of one, lists cut in two, and the states that lists leave

pub empty_used : EmptyList → EmptyUsed
empty_used h =
    record {
      state = λ x. (h x []).state;
      answers = λ x. (h x []).answers;
      state_with_place = λ x p. (h x (p ∷ [])).state;
      place_stays = λ x p. (h x (p ∷ [])).answers;
    }

pub nothing_met : NothingMet
nothing_met = record { state = refl; answers = refl }

pub nothing_refused : NothingRefused
unfolding call_computes
nothing_refused =
    record {
      state = λ n. let h : ◌≡◌ {A = ℕ} 1 0 = ap (λ x. balance x 0 0) n.state in omega (arith, h);
      place_cleared = λ n. let h : ◌≡◌ {A = ℕ} 0 1 = ap length n.answers in omega (arith, h);
    }

pub one_used : ListOfOne → OneUsed
one_used h x = h x one_order held

cut_told : {whole first second : Listed} → CutAlike whole first second → CutTold whole first second
cut_told c = record { state = c.state; answers = c.answers; accepted = (c.whole_accepted, c.first_accepted, c.second_accepted) }

pub cut_used : ListsCut → CutUsed
cut_used cut =
    record {
      two_and_one = λ x f g h p q r. cut_told (cut x (f ∷ g ∷ []) (h ∷ []) (p ∷ q ∷ []) (r ∷ []) refl refl (omega arith));
      all_but_last = λ x f g p q. cut_told (cut x (replicate 63 f) (g ∷ []) (replicate 63 p) (q ∷ []) refl refl (omega arith));
      first_alone = λ x f g p q. cut_told (cut x (f ∷ []) (replicate 63 g) (p ∷ []) (replicate 63 q) refl refl (omega arith));
    }

pub cuts_met : CutsMet
cuts_met = record { state = refl; answers = refl; whole_accepted = refl; first_accepted = refl; second_accepted = refl }

pub cuts_refused : CutsRefused
unfolding call_computes
cuts_refused =
    record {
      state = λ c. let h : ◌≡◌ {A = ℕ} 0 1 = ap (λ x. balance x 0 0) c.state in omega (arith, h);
      turned_first = λ c. let h : ◌≡◌ {A = ℕ} 7 0 = ap first_code c.answers in omega (arith, h);
      left_out = λ c. let h : ◌≡◌ {A = ℕ} 1 2 = ap length c.answers in omega (arith, h);
      whole_refused = λ c. let h : ◌≡◌ {A = ℕ} 22 0 = ap code_of c.whole_accepted in omega (arith, h);
      first_refused = λ c. let h : ◌≡◌ {A = ℕ} 22 0 = ap code_of c.first_accepted in omega (arith, h);
      second_refused = λ c. let h : ◌≡◌ {A = ℕ} 22 0 = ap code_of c.second_accepted in omega (arith, h);
    }

pub reach_used : ReachUsed
reach_used =
    record {
      two_lists = λ h fs gs ps qs. h _ (h fresh_exchange at_first fs ps) gs qs;
      mixed_run_lem = λ h. (h _).1 (mixed_run, refl);
      any_call = λ h x r c. (h _).0 (after_call r c);
    }

-- ---- lists of orders spelled out

mixed_left : balance (state_after model_engine fresh_exchange mixed_run) 1 1 ≡ 1
unfolding nine_orders mixed_run list_computes history_computes
mixed_left = refl

pub spelled_used : RunsSpelledOut → SpelledUsed
spelled_used h =
    let p : SpelledOut fresh_exchange (events_of model_engine fresh_exchange mixed_run) (state_after model_engine fresh_exchange mixed_run) = h fresh_exchange mixed_run in
    (p.requests, p.tell ∙ mixed_told_lem, ap (λ (x : Exchange). balance x 1 1) p.leave ∙ mixed_left)

pub spelled_refused : SpelledRefused
unfolding history_computes
spelled_refused =
    record {
      untold = λ x p e. let z : ◌≡◌ {A = ℕ} 0 1 = sym (ap (λ (qs : List Request). length (events_of model_engine x (map single qs))) e) ∙ ap (λ (es : List Event). length es) p.tell in omega (arith, z);
      unmoved =
          λ p e. let z : ◌≡◌ {A = ℕ} 0 10 = sym (ap (λ (qs : List Request). balance (state_after model_engine fresh_exchange (map single qs)) 0 0) e) ∙ ap (λ (x : Exchange). balance x 0 0) p.leave in omega (arith, z);
    }
