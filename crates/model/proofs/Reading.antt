-- What is read off the state, or off history, after one change; and the sums over tickets and markets after it.
use Prim.Native.Nat.{◌+◌, ◌-◌, ◌<◌, ◌≤◌, suc, zero, ℕ}
use mathlib.Core.List.{List}
use mathlib.Core.Path.{◌∙◌, ◌≡◌, ap, refl, subst, sym}
use native.Mathlib.Decide.{ℕ_discrete}
use native.Mathlib.Omega.{arith}
use lib.ListN.{get_or, length, length-set, set}
use lib.Seq.{get_or-set_other, get_or-set_same}
use borrow.Author.Tests.{eq-eqb, ne_eqb}
use Rattle.ledger.specs.Balances.{Shaped, balance_in, credited, debited}
use Rattle.ledger.specs.declared.Ledger.{Ledger}
use Rattle.model.specs.History.{Current, History, RoundLog, added_to, holds, put, with_round}
use Rattle.model.specs.State.{closed_market, credit, debit, free_ticket, in_phase, market_at, phase, residue, set_ledger, set_market, supply, ticket, to_residue, with_block, with_phase, with_residue, with_supply, with_ticket}
use Rattle.model.specs.WholeRun.{current_holds, holds_of, in_rounds, resting, resting_in, resting_total, rounds_total}
use Rattle.model.specs.declared.state.Exchange.{Exchange}
use Rattle.model.specs.declared.state.Market.{Market}
use Rattle.model.specs.declared.state.Phase.{Phase}
use Rattle.model.specs.declared.state.Ticket.{Ticket}
use Rattle.model.specs.declared.state.TicketState.{TicketState}
use Rattle.pricing.specs.declared.Side.{Side}
use Rattle.pricing.specs.declared.Side.TheVariants.{Buy, Sell}
use Rattle.units.specs.Counts.{amount}
use Rattle.units.specs.Sums.{only, sum_to}
use Rattle.units.specs.declared.Amount.{Amount}
use Rattle.ledger.proofs.Laws.{credits, debits}
use Rattle.units.proofs.Sums.{only_add, only_other, only_same, sum_at}

-- ---- a function with one value changed

pub put_same {ℓ} : {A : Type ℓ} (f : ℕ → A) (k : ℕ) (a : A) → put f k a k ≡ a
unfolding put
put_same f k a = rw (eq-eqb k k refl)

pub put_other {ℓ} : {A : Type ℓ} (f : ℕ → A) (k : ℕ) (a : A) (j : ℕ) → (j ≡ k → ⊥) → put f k a j ≡ f j
unfolding put
put_other f k a j d = rw (ne_eqb j k d)

-- a property of every place, from that of the one put there and that of the others
pub put_each {ℓ} : {A : Type ℓ} (Q : ℕ → A → Type 0) (f : ℕ → A) (k : ℕ) (a : A) (j : ℕ) → (j ≡ k → Q k a) → ((j ≡ k → ⊥) → Q j (f j)) → Q j (put f k a j)
put_each Q f k a j here there = go (ℕ_discrete j k)
  where
    go : Dec (j ≡ k) → Q j (put f k a j)
    go (yes e) =
        let z : Q k (put f k a k) = rw (put_same f k a) (here e) in
        subst (λ (i : ℕ). Q i (put f k a i)) (sym e) z
    go (no d) = rw (put_other f k a j d) (there d)

-- an amount put at one token
pub put_only : (f : ℕ → ℕ) (t n u : ℕ) → put f t (f t + n) u ≡ f u + only t n u
put_only f t n u =
    put_each (λ i v. v ≡ f i + only t n i) f t (f t + n) u
    (λ e. rw (only_same t n))
    (λ d. omega (arith, only_other t n u d))

-- an amount added for one member
pub added_same : (f : ℕ → ℕ → ℕ) (m t n u : ℕ) → added_to f m t n m u ≡ f m u + only t n u
added_same f m t n u = ap (λ (g : ℕ → ℕ). g u) (put_same f m (put (f m) t (f m t + n))) ∙ put_only (f m) t n u

pub added_other : (f : ℕ → ℕ → ℕ) (m t n j u : ℕ) → (j ≡ m → ⊥) → added_to f m t n j u ≡ f j u
added_other f m t n j u d = ap (λ (g : ℕ → ℕ). g u) (put_other f m (put (f m) t (f m t + n)) j d)

-- a credit, and a debit that the balance covers, added to history as well, keep every member's account
module _ (l : Ledger) (c d : ℕ → ℕ → ℕ) (z : Shaped l) (m t n : ℕ) (hm : m < 16) (ht : t < 4)
    (kept : (j : ℕ) → j < 16 → (u : ℕ) → u < 4 → balance_in l j u + d j u ≡ c j u) where
  pub account_credit : (j : ℕ) → j < 16 → (u : ℕ) → u < 4 → balance_in (credited l m t n) j u + d j u ≡ added_to c m t n j u
  account_credit j hj u hu = go (ℕ_discrete j m)
    where
      go : Dec (j ≡ m) → balance_in (credited l m t n) j u + d j u ≡ added_to c m t n j u
      go (yes e) =
          subst (λ (a : ℕ). balance_in (credited l m t n) a u + d a u ≡ added_to c m t n a u) (sym e)
          (omega (arith, (credits l m t n).own z hm ht u, added_same c m t n u, kept m hm u hu))
      go (no a) = omega (arith, (credits l m t n).others j u a, added_other c m t n j u a, kept j hj u hu)

  pub account_debit : n ≤ balance_in l m t → (j : ℕ) → j < 16 → (u : ℕ) → u < 4 → balance_in (debited l m t n) j u + added_to d m t n j u ≡ c j u
  account_debit le j hj u hu = go (ℕ_discrete j m)
    where
      go : Dec (j ≡ m) → balance_in (debited l m t n) j u + added_to d m t n j u ≡ c j u
      go (yes e) =
          subst (λ (a : ℕ). balance_in (debited l m t n) a u + added_to d m t n a u ≡ c a u) (sym e)
          (omega (arith, (debits l m t n).own z hm ht le u, added_same d m t n u, kept m hm u hu))
      go (no a) = omega (arith, (debits l m t n).others j u a, added_other d m t n j u a, kept j hj u hu)

-- per token, from per side: the quote and the base of a market are two tokens
pub fewer_of : (mk : ℕ) (b : RoundLog) (n : ℕ) → 0 < mk → 0 < n → ((x : Side) → holds b x < n) → (t : ℕ) → holds_of mk b t < n
fewer_of mk b n pos some few t = go (ℕ_discrete t 0)
  where
    go2 : (t ≡ 0 → ⊥) → Dec (t ≡ mk) → holds_of mk b t < n
    go2 d (yes e) =
        let z : holds_of mk b mk < n = omega (arith, few Sell, only_same mk (holds b Sell), only_other 0 (holds b Buy) mk (λ q. omega arith)) in
        subst (λ (i : ℕ). holds_of mk b i < n) (sym e) z
    go2 d (no d2) = omega (arith, only_other 0 (holds b Buy) t d, only_other mk (holds b Sell) t d2)

    go : Dec (t ≡ 0) → holds_of mk b t < n
    go (yes e) =
        let z : holds_of mk b 0 < n = omega (arith, few Buy, only_same 0 (holds b Buy), only_other mk (holds b Sell) 0 (λ q. omega arith)) in
        subst (λ (i : ℕ). holds_of mk b i < n) (sym e) z
    go (no d) = go2 d (ℕ_discrete t mk)

-- ---- sizes

pub record Sized (h : Exchange) : Type 0 where
  pub shaped : Shaped h.ledger
  pub supplies : length h.supply ≡ 4
  pub residues : length h.residue ≡ 4
  pub tickets : length h.tickets ≡ 64
  pub markets : length h.markets ≡ 3

pub sized_ledger : (h : Exchange) (l : Ledger) → Shaped l → Sized h → Sized (set_ledger h l)
sized_ledger h l s z = record { shaped = s; supplies = z.supplies; residues = z.residues; tickets = z.tickets; markets = z.markets }

pub sized_credit : (h : Exchange) (m t n : ℕ) → Sized h → Sized (credit h m t n)
sized_credit h m t n z = sized_ledger h (credited h.ledger m t n) ((credits h.ledger m t n).shaped z.shaped) z

pub sized_debit : (h : Exchange) (m t n : ℕ) → Sized h → Sized (debit h m t n)
sized_debit h m t n z = sized_ledger h (debited h.ledger m t n) ((debits h.ledger m t n).shaped z.shaped) z

pub sized_supply : (h : Exchange) (t n : ℕ) → Sized h → Sized (with_supply h t n)
sized_supply h t n z =
    record { shaped = z.shaped; supplies = length-set h.supply t (amount n) ∙ z.supplies; residues = z.residues; tickets = z.tickets; markets = z.markets }

pub sized_residue : (h : Exchange) (t n : ℕ) → Sized h → Sized (with_residue h t n)
sized_residue h t n z =
    record { shaped = z.shaped; supplies = z.supplies; residues = length-set h.residue t (amount n) ∙ z.residues; tickets = z.tickets; markets = z.markets }

pub sized_ticket : (h : Exchange) (k : ℕ) (s : TicketState) → Sized h → Sized (with_ticket h k s)
sized_ticket h k s z =
    record { shaped = z.shaped; supplies = z.supplies; residues = z.residues; tickets = length-set h.tickets k (record { state = s }) ∙ z.tickets; markets = z.markets }

market_length : (ms : List Market) (n : ℕ) (m : Market) → length (set_market ms n m) ≡ length ms
market_length ms zero m = refl
market_length ms (suc i) m = length-set ms i m

pub sized_phase : (h : Exchange) (n : ℕ) (p : Phase) → Sized h → Sized (with_phase h n p)
sized_phase h n p z =
    record { shaped = z.shaped; supplies = z.supplies; residues = z.residues; tickets = z.tickets; markets = market_length h.markets n (in_phase (market_at h.markets n) p) ∙ z.markets }

pub sized_block : (h : Exchange) (n : ℕ) → Sized h → Sized (with_block h n)
sized_block h n z =
    record { shaped = z.shaped; supplies = z.supplies; residues = z.residues; tickets = z.tickets; markets = z.markets }

-- ---- tickets and markets

pub ticket_same : (h : Exchange) (k : ℕ) (s : TicketState) → k < length h.tickets → ticket (with_ticket h k s) k ≡ s
ticket_same h k s l = ap (λ (t : Ticket). t.state) (get_or-set_same h.tickets k (record { state = s }) free_ticket l)

pub ticket_other : (h : Exchange) (k : ℕ) (s : TicketState) (j : ℕ) → (j ≡ k → ⊥) → ticket (with_ticket h k s) j ≡ ticket h j
ticket_other h k s j d = ap (λ (t : Ticket). t.state) (get_or-set_other h.tickets k j (record { state = s }) free_ticket d)

market_same : (ms : List Market) (n : ℕ) (m : Market) → 0 < n → n ≤ length ms → market_at (set_market ms n m) n ≡ m
market_same ms zero m p l = absurd (omega arith)
market_same ms (suc i) m p l = get_or-set_same ms i m closed_market l

market_other : (ms : List Market) (n : ℕ) (m : Market) (j : ℕ) → (j ≡ n → ⊥) → market_at (set_market ms n m) j ≡ market_at ms j
market_other ms zero m j d = refl
market_other ms (suc i) m zero d = refl
market_other ms (suc i) m (suc j) d = get_or-set_other ms i j m closed_market (λ e. d (ap suc e))

pub phase_same : (h : Exchange) (n : ℕ) (p : Phase) → 0 < n → n ≤ length h.markets → phase (with_phase h n p) n ≡ p
phase_same h n p pos l = ap (λ (m : Market). m.phase) (market_same h.markets n (in_phase (market_at h.markets n) p) pos l)

pub phase_other : (h : Exchange) (n : ℕ) (p : Phase) (j : ℕ) → (j ≡ n → ⊥) → phase (with_phase h n p) j ≡ phase h j
phase_other h n p j d = ap (λ (m : Market). m.phase) (market_other h.markets n (in_phase (market_at h.markets n) p) j d)

-- ---- supply and residue

-- one amount of a list of amounts
abbrev pub amount_at : List Amount → ℕ → ℕ
amount_at l t = (get_or l t (amount 0)).0

-- a changed amount, at every token: new + old at t = old + new at t
pub amount_set : (l : List Amount) (t n u : ℕ) → t < length l → amount_at (set l t (amount n)) u + only t (amount_at l t) u ≡ amount_at l u + only t n u
amount_set l t n u h = go (ℕ_discrete u t)
  where
    same : amount_at (set l t (amount n)) t ≡ n
    same = ap (λ (a : Amount). a.0) (get_or-set_same l t (amount n) (amount 0) h)

    go : Dec (u ≡ t) → amount_at (set l t (amount n)) u + only t (amount_at l t) u ≡ amount_at l u + only t n u
    go (yes e) =
        subst (λ (i : ℕ). amount_at (set l t (amount n)) i + only t (amount_at l t) i ≡ amount_at l i + only t n i) (sym e)
        (omega (arith, same, only_same t (amount_at l t), only_same t n))
    go (no d) =
        omega (arith, ap (λ (a : Amount). a.0) (get_or-set_other l t u (amount n) (amount 0) d), only_other t (amount_at l t) u d, only_other t n u d)

pub residue_plus : (h : Exchange) (t n u : ℕ) → t < length h.residue → residue (to_residue h t n) u ≡ residue h u + only t n u
residue_plus h t n u l = omega (arith, amount_set h.residue t (residue h t + n) u l, only_add t (residue h t) n u)

pub supply_plus : (h : Exchange) (t n u : ℕ) → t < length h.supply → supply (with_supply h t (supply h t + n)) u ≡ supply h u + only t n u
supply_plus h t n u l = omega (arith, amount_set h.supply t (supply h t + n) u l, only_add t (supply h t) n u)

pub supply_minus : (h : Exchange) (t n u : ℕ) → t < length h.supply → n ≤ supply h t → supply (with_supply h t (supply h t - n)) u + only t n u ≡ supply h u
supply_minus h t n u l le =
    let e : supply h t - n + n ≡ supply h t = omega arith in
    omega (arith, amount_set h.supply t (supply h t - n) u l, only_add t (supply h t - n) n u, ap (λ a. only t a u) e)

-- ---- resting tickets, rounds

pub resting_set : (h : Exchange) (k : ℕ) (s : TicketState) → Sized h → k < 64 → (u : ℕ)
    → resting (with_ticket h k s) u + resting_in (ticket h k) u ≡ resting h u + resting_in s u
unfolding resting_total
resting_set h k s z hk u =
    let e : ticket (with_ticket h k s) k ≡ s = ticket_same h k s (omega (arith, z.tickets)) in
    let a : resting_in (ticket (with_ticket h k s) k) u ≡ resting_in s u = ap (λ t. resting_in t u) e in
    omega (
      arith,
      sum_at 64 k (λ j. resting_in (ticket h j) u) (λ j. resting_in (ticket (with_ticket h k s) j) u) hk
          (λ j lj d. ap (λ t. resting_in t u) (ticket_other h k s j d)),
    )

-- the rounds' sum after one market's round changed
rounds_set : (f : ℕ → Current) (i : ℕ) (c : Current) → i < 3 → (u : ℕ)
    → sum_to 3 (λ j. current_holds (suc j) (put f (suc i) c (suc j)) u) + current_holds (suc i) (f (suc i)) u
    ≡ sum_to 3 (λ j. current_holds (suc j) (f (suc j)) u) + current_holds (suc i) c u
rounds_set f i c hi u =
    let a : current_holds (suc i) (put f (suc i) c (suc i)) u ≡ current_holds (suc i) c u = ap (λ v. current_holds (suc i) v u) (put_same f (suc i) c) in
    omega (
      arith,
      sum_at 3 i (λ j. current_holds (suc j) (f (suc j)) u) (λ j. current_holds (suc j) (put f (suc i) c (suc j)) u) hi
          (λ j lj d. ap (λ v. current_holds (suc j) v u) (put_other f (suc i) c (suc j) (λ e. d (omega arith)))),
    )

pub in_rounds_set : (y : History) (n : ℕ) (c : Current) → 0 < n → n < 4 → (u : ℕ)
    → in_rounds (with_round y n c) u + current_holds n (y.rounds n) u ≡ in_rounds y u + current_holds n c u
unfolding rounds_total
in_rounds_set y zero c pos l u = omega arith
in_rounds_set y (suc i) c pos l u = rounds_set y.rounds i c (omega arith) u
