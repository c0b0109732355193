-- Each clause met and missed by one unit.
use Prim.Native.Nat.{ℕ, zero, suc, ◌+◌, ◌≤◌, ◌<◌}
use mathlib.Core.Path.{◌≡◌, ◌∙◌, ap, refl, subst, sym}
use mathlib.Core.List.{List, [], ◌∷◌}
use native.Mathlib.Omega.{arith}
use lib.ListN.{get_or-replicate}
use borrow.Author.Tests.{ne_eqb}
use Rattle.pricing.specs.declared.Side.{Side}
use Rattle.pricing.specs.declared.Side.TheVariants.{Buy, Sell}
use Rattle.pricing.specs.Prices.{fetches}
use Rattle.model.specs.declared.state.Ticket.{Ticket}
use Rattle.model.specs.declared.state.TicketState.{TicketState}
use Rattle.model.specs.declared.call.Call.TheVariants.{Deposit}
use Rattle.model.specs.declared.state.TicketState.TheVariants.{Free, Resting, Entered}
use Rattle.model.specs.State.{last_block, ticket, free_ticket, order_in, is_entered, with_supply, credit, fresh_exchange}
use Rattle.model.specs.Answers.{code_of, second_of}
use Rattle.model.specs.History.{OrderTerms, PlacedOrder, no_order, placed, Part, absent, waiting, claimed, auctioning, settled, RoundLog, came_in, went_out, holds, ticket_count, idle, running, put, terms_in, market_in}
use Rattle.model.specs.WholeRun.{paid_by, got_by, holds_of, LimitKept, RoundPays, EndedWell, placed_in, entered_in, part_in, unclaimed, All, nil, cons}
use Rattle.model.specs.Scripts.{requests}
use Rattle.cases.specs.Literals.{payout}
use Rattle.cases.specs.ClauseCases.{quote_taken, base_taken, quote_claimed, base_claimed, sell_at, buy_at, RoundsMet, RoundsRefused, ended_as, base_left, quote_left, base_left_by_two, quote_left_by_two, base_of_none, swapped, EndsMet, EndsRefused, PastMet, PastRefused, BooksMet, BooksRefused, terms_on, round_with, only_ticket, only_order, no_rounds, round_at, five, TicketsMet, TicketsRefused, five_entered, ClaimsMet, ClaimsRefused, over_taken, WholeRefused, over_state, OthersMet}
use Rattle.units.proofs.Sums.{only_zero}
use Rattle.ledger.proofs.Laws.{credits, fresh_all_zero}
use Rattle.model.proofs.Computing.{past_computes, history_computes}
use Rattle.model.proofs.Reading.{put_each, put_same, put_other, fewer_of, ticket_other}
use Rattle.model.proofs.WholeRun.{whole_run}

-- ---- a round

-- a part that was claimed has its full share
abbrev Shared : RoundLog → Part → Type 0
Shared b p = (t : OrderTerms) (o s got : ℕ) → p ≡ claimed t o s got → (s ≡ paid_by b t o) × (got ≡ got_by b t o)

shared_absent : (b : RoundLog) → Shared b absent
shared_absent b t o s got e = absurd (let z : ◌≡◌ {A = ℕ} 0 1 = cc in omega arith)

shared_waiting : (b : RoundLog) (t' : OrderTerms) (o' : ℕ) → Shared b (waiting t' o')
shared_waiting b t' o' t o s got e = absurd (let z : ◌≡◌ {A = ℕ} 0 1 = cc in omega arith)

same_paid : (b : RoundLog) (t t' : OrderTerms) (o o' : ℕ) → t ≡ t' → o ≡ o' → paid_by b t o ≡ paid_by b t' o'
same_paid b t t' o o' e g = rw (e, g)

same_got : (b : RoundLog) (t t' : OrderTerms) (o o' : ℕ) → t ≡ t' → o ≡ o' → got_by b t o ≡ got_by b t' o'
same_got b t t' o o' e g = rw (e, g)

shared_claimed : (b : RoundLog) (t' : OrderTerms) (o' s' got' : ℕ) → s' ≡ paid_by b t' o' → got' ≡ got_by b t' o' → Shared b (claimed t' o' s' got')
shared_claimed b t' o' s' got' p q t o s got e =
    let et : t' ≡ t = cc in
    let eo : o' ≡ o = cc in
    let es : s ≡ s' = cc in
    let eg : got ≡ got' = cc in
    (es ∙ p ∙ same_paid b t' t o' o et eo, eg ∙ q ∙ same_got b t' t o' o et eo)

-- a part put at one place, where all others have theirs
put_shared : (b : RoundLog) (f : ℕ → Part) (k : ℕ) (p : Part) → Shared b p → ((j : ℕ) → Shared b (f j)) → (j : ℕ) → Shared b (put f k p j)
put_shared b f k p here there j = put_each (λ i q. Shared b q) f k p j (λ e. here) (λ d. there j)

-- covered on both side_number
both : (Q : Side → Type 0) → Q Buy → Q Sell → (side : Side) → Q side
both Q a b Buy = a
both Q a b Sell = b

pays : (b : RoundLog) → ((j : ℕ) → Shared b (b.part j)) → went_out b Buy ≤ came_in b Buy → went_out b Sell ≤ came_in b Sell → RoundPays b
pays b sh qb qs = record { covered = both (λ side. went_out b side ≤ came_in b side) qb qs; shares = λ k h. sh k }

none_shared : (b : RoundLog) (j : ℕ) → Shared b absent
none_shared b j = shared_absent b

-- tickets 63 and 62, or 62 and 1
two : (b : RoundLog) {p q : Part} → Shared b p → Shared b q → (j : ℕ) → Shared b (put (put (λ k. absent) 63 p) 62 q j)
two b {p} {q} sp sq = put_shared b _ 62 q sq (put_shared b _ 63 p sp (none_shared b))

waiters : (b : RoundLog) {p q : Part} → Shared b p → Shared b q → (j : ℕ) → Shared b (put (put (λ k. absent) 62 p) 1 q j)
waiters b {p} {q} sp sq = put_shared b _ 1 q sq (put_shared b _ 62 p sp (none_shared b))

pub rounds_met : RoundsMet
unfolding past_computes
rounds_met =
    record {
      quote_taken_lem = let b = quote_taken 5 in pays b (put_shared b _ 63 _ (shared_waiting b _ _) (none_shared b)) (omega arith) (omega arith);
      base_taken_lem = let b = base_taken 5 in pays b (put_shared b _ 63 _ (shared_waiting b _ _) (none_shared b)) (omega arith) (omega arith);
      quote_claimed_lem = let b = quote_claimed 5 in pays b (two b (shared_claimed b _ _ _ _ refl refl) (shared_waiting b _ _)) (omega arith) (omega arith);
      base_claimed_lem = let b = base_claimed 5 in pays b (two b (shared_claimed b _ _ _ _ refl refl) (shared_waiting b _ _)) (omega arith) (omega arith);
      last_sell = let b = sell_at 63 4 2 in pays b (put_shared b _ 63 _ (shared_claimed b _ _ _ _ refl refl) (waiters b (shared_waiting b _ _) (shared_waiting b _ _))) (omega arith) (omega arith);
      last_buy = let b = buy_at 63 3 3 in pays b (put_shared b _ 63 _ (shared_claimed b _ _ _ _ refl refl) (waiters b (shared_waiting b _ _) (shared_waiting b _ _))) (omega arith) (omega arith);
      first_sell = let b = sell_at 0 4 2 in pays b (put_shared b _ 0 _ (shared_claimed b _ _ _ _ refl refl) (waiters b (shared_waiting b _ _) (shared_waiting b _ _))) (omega arith) (omega arith);
      first_buy = let b = buy_at 0 3 3 in pays b (put_shared b _ 0 _ (shared_claimed b _ _ _ _ refl refl) (waiters b (shared_waiting b _ _) (shared_waiting b _ _))) (omega arith) (omega arith);
    }

pub rounds_refused : RoundsRefused
unfolding past_computes
rounds_refused =
    record {
      quote_taken_lem = λ r. let h : 6 ≤ 5 = r.covered Buy in omega (arith, h);
      base_taken_lem = λ r. let h : 6 ≤ 5 = r.covered Sell in omega (arith, h);
      quote_claimed_lem = λ r. let h : 6 ≤ 5 = r.covered Buy in omega (arith, h);
      base_claimed_lem = λ r. let h : 6 ≤ 5 = r.covered Sell in omega (arith, h);
      sell_paid_more = λ r. let h : ◌≡◌ {A = ℕ} 5 4 = (r.shares 63 (omega arith) _ _ _ _ refl).0 in omega (arith, h);
      sell_paid_less = λ r. let h : ◌≡◌ {A = ℕ} 3 4 = (r.shares 63 (omega arith) _ _ _ _ refl).0 in omega (arith, h);
      sell_got_more = λ r. let h : ◌≡◌ {A = ℕ} 3 2 = (r.shares 63 (omega arith) _ _ _ _ refl).1 in omega (arith, h);
      sell_got_less = λ r. let h : ◌≡◌ {A = ℕ} 1 2 = (r.shares 63 (omega arith) _ _ _ _ refl).1 in omega (arith, h);
      buy_paid_more = λ r. let h : ◌≡◌ {A = ℕ} 4 3 = (r.shares 63 (omega arith) _ _ _ _ refl).0 in omega (arith, h);
      buy_paid_less = λ r. let h : ◌≡◌ {A = ℕ} 2 3 = (r.shares 63 (omega arith) _ _ _ _ refl).0 in omega (arith, h);
      buy_got_more = λ r. let h : ◌≡◌ {A = ℕ} 4 3 = (r.shares 63 (omega arith) _ _ _ _ refl).1 in omega (arith, h);
      buy_got_less = λ r. let h : ◌≡◌ {A = ℕ} 2 3 = (r.shares 63 (omega arith) _ _ _ _ refl).1 in omega (arith, h);
      first_sell = λ r. let h : ◌≡◌ {A = ℕ} 3 4 = (r.shares 0 (omega arith) _ _ _ _ refl).0 in omega (arith, h);
      first_buy = λ r. let h : ◌≡◌ {A = ℕ} 4 3 = (r.shares 0 (omega arith) _ _ _ _ refl).1 in omega (arith, h);
      in_first = λ r. let h : 6 ≤ 5 = (r.solvent 1 (omega arith) (omega arith) _ refl).covered Buy in omega (arith, h);
      in_last = λ r. let h : 6 ≤ 5 = (r.solvent 3 (omega arith) (omega arith) _ refl).covered Buy in omega (arith, h);
    }

-- ---- a round that ended

-- one of n tickets that leaves less than n of each token
ends : (b : RoundLog) (n : ℕ) → RoundPays b → ticket_count b ≡ n → 0 < n → holds b Buy < n → holds b Sell < n → EndedWell (ended_as b)
ends b n p e h q s =
    record {
      pays = p;
      fewer = λ z t. subst (λ (k : ℕ). holds_of 3 b t < k) (sym e) (fewer_of 3 b n (omega arith) h (both (λ side. holds b side < n) q s) t);
      nothing_put = λ z t. absurd (omega (arith, z, e, h));
    }

ended_none : EndedWell (ended_as (base_of_none 0))
unfolding past_computes
ended_none =
    record {
      pays = pays (base_of_none 0) (none_shared (base_of_none 0)) (omega arith) (omega arith);
      fewer = λ z t. absurd (omega (arith, z));
      nothing_put = λ z t. omega (arith, only_zero 0 t, only_zero 3 t);
    }

ended_one : EndedWell (ended_as (base_left 0))
unfolding past_computes
ended_one =
    let b = base_left 0 in
    ends b 1 (pays b (put_shared b _ 63 _ (shared_claimed b _ _ _ _ refl refl) (none_shared b)) (omega arith) (omega arith)) refl (omega arith) (omega arith) (omega arith)

ended_two : EndedWell (ended_as (base_left_by_two 1))
unfolding past_computes
ended_two =
    let b = base_left_by_two 1 in
    ends b 2 (pays b (two b (shared_claimed b _ _ _ _ refl refl) (shared_claimed b _ _ _ _ refl refl)) (omega arith) (omega arith)) refl (omega arith) (omega arith) (omega arith)

pub ends_met : EndsMet
unfolding past_computes
ends_met =
    record {
      base_left_lem = ended_one;
      quote_left_lem =
          let b = quote_left 0 in
          ends b 1 (pays b (put_shared b _ 63 _ (shared_claimed b _ _ _ _ refl refl) (none_shared b)) (omega arith) (omega arith)) refl (omega arith) (omega arith) (omega arith);
      base_left_by_two_lem = ended_two;
      quote_left_by_two_lem =
          let b = quote_left_by_two 1 in
          ends b 2 (pays b (two b (shared_claimed b _ _ _ _ refl refl) (shared_claimed b _ _ _ _ refl refl)) (omega arith) (omega arith)) refl (omega arith) (omega arith) (omega arith);
      none = ended_none;
      swap =
          let b = swapped 4 3 in
          ends b 2 (pays b (two b (shared_claimed b _ _ _ _ refl refl) (shared_claimed b _ _ _ _ refl refl)) (omega arith) (omega arith)) refl (omega arith) (omega arith) (omega arith);
    }

pub ends_refused : EndsRefused
unfolding past_computes
ends_refused =
    record {
      base_left_lem = λ e. let h : 1 < 1 = e.fewer (omega arith) 3 in omega (arith, h);
      quote_left_lem = λ e. let h : 1 < 1 = e.fewer (omega arith) 0 in omega (arith, h);
      base_left_by_two_lem = λ e. let h : 2 < 2 = e.fewer (omega arith) 3 in omega (arith, h);
      quote_left_by_two_lem = λ e. let h : 2 < 2 = e.fewer (omega arith) 0 in omega (arith, h);
      base_of_none_lem = λ e. let h : ◌≡◌ {A = ℕ} 1 0 = e.nothing_put refl 3 in omega (arith, h);
      quote_of_none_lem = λ e. let h : ◌≡◌ {A = ℕ} 1 0 = e.nothing_put refl 0 in omega (arith, h);
      paid_more = λ e. let h : ◌≡◌ {A = ℕ} 5 4 = (e.pays.shares 63 (omega arith) _ _ _ _ refl).0 in omega (arith, h);
      got_less = λ e. let h : ◌≡◌ {A = ℕ} 2 3 = (e.pays.shares 63 (omega arith) _ _ _ _ refl).1 in omega (arith, h);
      taken_over = λ e. let h : 6 ≤ 5 = e.pays.covered Buy in omega (arith, h);
    }

-- ---- the past

head_of : {A : Type 0} {Q : A → Type 0} {a : A} {l : List A} → All Q (a ∷ l) → Q a
head_of (cons q qs) = q

tail_of : {A : Type 0} {Q : A → Type 0} {a : A} {l : List A} → All Q (a ∷ l) → All Q l
tail_of (cons q qs) = qs

-- tokens 0 to 3
four : (Q : ℕ → Type 0) → Q 0 → Q 1 → Q 2 → Q 3 → (t : ℕ) → t < 4 → Q t
four Q a b c d zero h = a
four Q a b c d (suc zero) h = b
four Q a b c d (suc (suc zero)) h = c
four Q a b c d (suc (suc (suc zero))) h = d
four Q a b c d (suc (suc (suc (suc n)))) h = absurd (omega (arith, h))

buy_kept : LimitKept (payout 15 Buy 2000000 5 2)
unfolding past_computes fetches
buy_kept = record { kept = omega arith }

sell_kept : LimitKept (payout 15 Sell 2000000 3 4)
unfolding past_computes fetches
sell_kept = record { kept = omega arith }

pub past_met : PastMet
unfolding past_computes
past_met =
    record {
      buy_limit = buy_kept;
      sell_limit = sell_kept;
      three_ended = record { residue_is = four _ refl refl refl refl; ended_well = cons ended_one (cons ended_none (cons ended_two nil)); limits = nil };
      three_paid = record { residue_is = four _ refl refl refl refl; ended_well = nil; limits = cons buy_kept (cons sell_kept (cons buy_kept nil)) };
    }

pub past_refused : PastRefused
unfolding past_computes fetches
past_refused =
    record {
      buy_limit = λ l. let h : 2 ≤ 1 = l.kept in omega (arith, h);
      sell_limit = λ l. let h : 4 ≤ 3 = l.kept in omega (arith, h);
      base_more = λ p. let h : ◌≡◌ {A = ℕ} 2 1 = p.residue_is 3 (omega arith) in omega (arith, h);
      base_less = λ p. let h : ◌≡◌ {A = ℕ} 0 1 = p.residue_is 3 (omega arith) in omega (arith, h);
      quote_more = λ p. let h : ◌≡◌ {A = ℕ} 2 1 = p.residue_is 0 (omega arith) in omega (arith, h);
      quote_less = λ p. let h : ◌≡◌ {A = ℕ} 0 1 = p.residue_is 0 (omega arith) in omega (arith, h);
      later_end = λ p. let h : 1 < 1 = (head_of (tail_of (tail_of p.ended_well))).fewer (omega arith) 3 in omega (arith, h);
      later_limit = λ p. let h : 2 ≤ 1 = (head_of (tail_of (tail_of p.limits))).kept in omega (arith, h);
    }

-- ---- amounts

pub books_met : BooksMet
unfolding history_computes
books_met = (whole_run (requests (Deposit 15 3 5 ∷ []))).whole.books

pub books_refused : BooksRefused
unfolding history_computes
books_refused =
    record {
      resting_more = λ b. let h : ◌≡◌ {A = ℕ} 6 5 = b.conserved 3 (omega arith) in omega (arith, h);
      round_more = λ b. let h : ◌≡◌ {A = ℕ} 6 5 = b.conserved 3 (omega arith) in omega (arith, h);
      residue_more = λ b. let h : ◌≡◌ {A = ℕ} 6 5 = b.conserved 3 (omega arith) in omega (arith, h);
      withdrawn_more = λ b. let h : ◌≡◌ {A = ℕ} 6 5 = b.conserved 3 (omega arith) in omega (arith, h);
      deposited_more = λ b. let h : ◌≡◌ {A = ℕ} 5 6 = b.conserved 3 (omega arith) in omega (arith, h);
      supply_more = λ b. let h : ◌≡◌ {A = ℕ} 6 5 = b.supplied 3 (omega arith) in omega (arith, h);
      supply_less = λ b. let h : ◌≡◌ {A = ℕ} 4 5 = b.supplied 3 (omega arith) in omega (arith, h);
      other_member = λ b. let h : ◌≡◌ {A = ℕ} 5 0 = b.accounts 15 (omega arith) 3 (omega arith) in omega (arith, h);
      debited_more = λ b. let h : ◌≡◌ {A = ℕ} 6 5 = b.accounts 15 (omega arith) 3 (omega arith) in omega (arith, h);
    }

-- ---- tickets

-- ticket 63 alone, and its order alone
one_placed : (t : TicketState) (o : PlacedOrder) → placed_in t ≡ o → (k : ℕ) → placed_in (only_ticket t k) ≡ only_order o k
one_placed t o e k =
    put_each (λ i s. placed_in s ≡ only_order o i) (λ j. Free) 63 t k
    (λ z. e ∙ sym (put_same (λ j. no_order) 63 o))
    (λ d. sym (put_other (λ j. no_order) 63 o k d))

-- it is in market 3's round alone, or in none
one_there : (t : TicketState) (p : Part) → ((n : ℕ) → (n ≡ 3 → ⊥) → entered_in t n ≡ absent) → entered_in t 3 ≡ unclaimed p → (k n : ℕ) → entered_in (only_ticket t k) n ≡ unclaimed (part_in (round_at 3 p n) k)
one_there t p others here k n =
    put_each (λ i c. entered_in (only_ticket t k) i ≡ unclaimed (part_in c k)) no_rounds 3 (running (round_with 0 0 p)) n
    (λ z. at_three)
    (λ d. put_each (λ j s. entered_in s n ≡ absent) (λ j. Free) 63 t k (λ z. others n d) (λ z. refl))
  where
    at_three : entered_in (only_ticket t k) 3 ≡ unclaimed (put (λ j. absent) 63 p k)
    at_three =
        put_each (λ i s. entered_in s 3 ≡ unclaimed (put (λ j. absent) 63 p i)) (λ j. Free) 63 t k
        (λ z. here ∙ ap unclaimed (sym (put_same (λ j. absent) 63 p)))
        (λ d. ap unclaimed (sym (put_other (λ j. absent) 63 p k d)))

not_there : (n : ℕ) → (n ≡ 3 → ⊥) → entered_in (Entered five) n ≡ absent
not_there n d = rw (ne_eqb n 3 d)

pub tickets_met : TicketsMet
tickets_met =
    record {
      rests = record { tickets_are = λ k h. one_placed (Resting five) _ refl k; places_are = λ k h n l u. put_each (λ j s. entered_in s n ≡ absent) (λ j. Free) 63 (Resting five) k (λ z. refl) (λ z. refl) };
      waits = record { tickets_are = λ k h. one_placed (Entered five) _ refl k; places_are = λ k h n l u. one_there (Entered five) _ not_there refl k n };
      was_claimed = record { tickets_are = λ k h. one_placed (Resting five) _ refl k; places_are = λ k h n l u. one_there (Resting five) _ (λ m d. refl) refl k n };
    }

-- an order's offer where its ticket waits, and 1 more; a side as its number; what an order has left
abbrev waiting_offer : Part → ℕ
waiting_offer absent = 0
waiting_offer (waiting t o) = 1 + o
waiting_offer (claimed t o s got) = 0

abbrev side_number : Side → ℕ
side_number Buy = 0
side_number Sell = 1

abbrev left : PlacedOrder → ℕ
left no_order = 0
left (placed t market o) = o

pub tickets_refused : TicketsRefused
unfolding past_computes
tickets_refused =
    record {
      free = λ t. let h : ◌≡◌ {A = ℕ} 0 5 = ap left (t.tickets_are 63 (omega arith)) in omega (arith, h);
      in_use = λ t. let h : ◌≡◌ {A = ℕ} 5 0 = ap left (t.tickets_are 63 (omega arith)) in omega (arith, h);
      member = λ t. let h : ◌≡◌ {A = ℕ} 15 14 = ap (λ o. (terms_in o).member) (t.tickets_are 63 (omega arith)) in omega (arith, h);
      side = λ t. let h : ◌≡◌ {A = ℕ} 1 0 = ap (λ o. side_number (terms_in o).side) (t.tickets_are 63 (omega arith)) in omega (arith, h);
      limit = λ t. let h : ◌≡◌ {A = ℕ} 1000000 1000001 = ap (λ o. (terms_in o).limit) (t.tickets_are 63 (omega arith)) in omega (arith, h);
      market = λ t. let h : ◌≡◌ {A = ℕ} 3 2 = ap market_in (t.tickets_are 63 (omega arith)) in omega (arith, h);
      offer = λ t. let h : ◌≡◌ {A = ℕ} 5 4 = ap left (t.tickets_are 63 (omega arith)) in omega (arith, h);
      entered_offer = λ t. let h : ◌≡◌ {A = ℕ} 5 4 = ap left (t.tickets_are 63 (omega arith)) in omega (arith, h);
      no_round = λ t. let h : ◌≡◌ {A = ℕ} 6 0 = ap waiting_offer (t.places_are 63 (omega arith) 3 (omega arith) (omega arith)) in omega (arith, h);
      in_round = λ t. let h : ◌≡◌ {A = ℕ} 0 6 = ap waiting_offer (t.places_are 63 (omega arith) 3 (omega arith) (omega arith)) in omega (arith, h);
      in_other = λ t. let h : ◌≡◌ {A = ℕ} 0 6 = ap waiting_offer (t.places_are 63 (omega arith) 1 (omega arith) (omega arith)) in omega (arith, h);
      put_in = λ t. let h : ◌≡◌ {A = ℕ} 6 7 = ap waiting_offer (t.places_are 63 (omega arith) 3 (omega arith) (omega arith)) in omega (arith, h);
      claimed_there = λ t. let h : ◌≡◌ {A = ℕ} 6 0 = ap waiting_offer (t.places_are 63 (omega arith) 3 (omega arith) (omega arith)) in omega (arith, h);
    }

-- ---- settled tickets and their claims

-- a running round is none of a market that has none
no_idle : {b : RoundLog} → idle ≡ running b → ⊥
no_idle e = let z : ◌≡◌ {A = ℕ} 0 1 = cc in omega arith

pub claims_met : ClaimsMet
unfolding history_computes
claims_met =
    record {
      last_settled = record { ticket_range = omega arith; market_low = omega arith; market_high = omega arith; round = refl; stage = refl; part = refl };
      first_settled = record { ticket_range = omega arith; market_low = omega arith; market_high = omega arith; round = refl; stage = refl; part = refl };
      pays =
          record {
            accepted = refl;
            within = omega arith;
            rest = refl;
            other_tickets = λ j d. ticket_other (credit five_entered 15 0 3) 63 _ j d;
            payment = four _ refl refl refl refl;
            other_balances = λ m t d. (credits five_entered.ledger 15 0 3).others m t d;
          };
      stays = record { refused_stays = λ q why e. refl; settled_pays = λ k t market o b s. absurd (no_idle s.round) };
    }

pub claims_refused : ClaimsRefused
unfolding history_computes
claims_refused =
    record {
      ticket_64 = λ s. let h : 64 < 64 = s.ticket_range in omega (arith, h);
      market_0 = λ s. let h : 0 < 0 = s.market_low in omega (arith, h);
      market_4 = λ s. let h : 4 < 4 = s.market_high in omega (arith, h);
      in_auction = λ s. let e = s.stage in absurd (let z : ◌≡◌ {A = ℕ} 0 1 = cc in omega arith);
      other_offer = λ s. let h : ◌≡◌ {A = ℕ} 7 6 = ap waiting_offer s.part in omega (arith, h);
      was_claimed = λ s. let h : ◌≡◌ {A = ℕ} 0 6 = ap waiting_offer s.part in omega (arith, h);
      answered = λ p. let h : ◌≡◌ {A = ℕ} 2 3 = ap second_of p.accepted in omega (arith, h);
      refused = λ p. let h : ◌≡◌ {A = ℕ} 11 0 = ap code_of p.accepted in omega (arith, h);
      rest_more = λ p. let h : ◌≡◌ {A = ℕ} 2 1 = ap (λ t. (order_in t).offer.0) p.rest in omega (arith, h);
      rest_entered = λ p. let h = ap is_entered p.rest in absurd (let z : ◌≡◌ {A = ℕ} 0 1 = cc in omega arith);
      other_ticket = λ p. let h : ◌≡◌ {A = ℕ} 5 0 = ap (λ t. (order_in t).offer.0) (p.other_tickets 0 (λ e. omega (arith, e))) in omega (arith, h);
      got_more = λ p. let h : ◌≡◌ {A = ℕ} 4 3 = p.payment 0 (omega arith) in omega (arith, h);
      base_more = λ p. let h : ◌≡◌ {A = ℕ} 1 0 = p.payment 3 (omega arith) in omega (arith, h);
      other_member = λ p. let h : ◌≡◌ {A = ℕ} 1 0 = p.other_balances 14 0 (λ e. omega (arith, e)) in omega (arith, h);
      paid_over = λ x out p. let h : 6 ≤ 5 = p.within in omega (arith, h);
      moved = λ k. let h : ◌≡◌ {A = ℕ} 1 0 = ap last_block (k.refused_stays (record { line = 1; room = 80; call = Deposit 0 0 1 }) _ refl) in omega (arith, h);
      no_order_settled =
          λ f x k.
          let h : ◌≡◌ {A = ℕ} 0 5 =
          ap left
          (k.settled_pays 63 (terms_on Sell) 3 5 _
          (record { ticket_range = omega arith; market_low = omega arith; market_high = omega arith; round = refl; stage = refl; part = refl })
          ).0 in
          omega (arith, h);
    }

-- ---- the whole

pub whole_refused : WholeRefused
unfolding past_computes
whole_refused f x w = let h : 6 ≤ 5 = (w.rounds.solvent 3 (omega arith) (omega arith) _ refl).covered Buy in omega (arith, h)

others_free : (k : ℕ) → k < 64 → (k ≡ 63 → ⊥) → ticket over_state k ≡ Free
others_free k h d =
    ticket_other (with_supply fresh_exchange 3 1) 63 _ k d
    ∙ ap (λ (t : Ticket). t.state) (get_or-replicate 64 k free_ticket free_ticket h)

over_places : (k : ℕ) → k < 64 → (n : ℕ) → entered_in (ticket over_state k) n ≡ unclaimed (part_in (over_taken.rounds n) k)
over_places k h n =
    put_each (λ i c. entered_in (ticket over_state k) i ≡ unclaimed (part_in c k)) (λ i. idle) 3 _ n
    (λ e. put_each (λ i p. entered_in (ticket over_state i) 3 ≡ unclaimed p) (λ i. absent) 63 _ k (λ z. refl) (λ d. ap (λ s. entered_in s 3) (others_free k h d)))
    (λ m. put_each (λ i (z : ℕ). entered_in (ticket over_state i) n ≡ absent) (λ i. 0) 63 0 k (λ z. rw (ne_eqb n 3 m)) (λ d. ap (λ s. entered_in s n) (others_free k h d)))

-- no round of it is settled
none_settled : (n : ℕ) (b : RoundLog) → over_taken.rounds n ≡ running b → b.stage ≡ settled → ⊥
none_settled n b =
    put_each (λ i c. c ≡ running b → b.stage ≡ settled → ⊥) (λ i. idle) 3 _ n
    (λ z e g. let w : auctioning ≡ b.stage = cc in let v : auctioning ≡ settled = w ∙ g in absurd (let q : ◌≡◌ {A = ℕ} 0 1 = cc in omega arith))
    (λ d e g. no_idle e)

pub others_met : OthersMet
unfolding history_computes
others_met =
    record {
      books =
          record {
            conserved = four _ refl refl refl refl;
            supplied = four _ refl refl refl refl;
            accounts = λ m hm t ht. omega (arith, fresh_all_zero.balances m t hm ht);
          };
      tickets =
          record {
            tickets_are = λ k h. put_each (λ i o. placed_in (ticket over_state i) ≡ o) (λ i. no_order) 63 _ k (λ z. refl) (λ d. ap placed_in (others_free k h d));
            places_are = λ k h n l u. over_places k h n;
          };
      past = record { residue_is = four _ refl refl refl refl; ended_well = nil; limits = nil };
      engine = record { refused_stays = λ q why e. refl; settled_pays = λ k t market o b s. absurd (none_settled market b s.round s.stage) };
    }
