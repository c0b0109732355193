-- The invariant that relates a state with what history says.
use Prim.Native.Nat.{◌+◌, ◌<◌, ◌^◌, ◌≤◌, ℕ}
use mathlib.Core.Bool.{cond, false, true}
use mathlib.Core.Path.{◌∙◌, ◌≡◌, ap, refl, subst}
use native.Mathlib.Omega.{arith}
use Rattle.model.specs.Bounds.{TermsBounds, TicketBounds, held_in}
use Rattle.model.specs.History.{Current, G, History, P, Part, RoundLog, Stage, T, OrderTerms, absent, auctioning, came_in, changed_at, claimed, collecting, end_or_round, ended_at, given, idle, is_waiting, log_of, running, same_stage, settled, taken, traded, waiting, went_out}
use Rattle.model.specs.State.{is_auction, is_closed, is_collect, is_entered, is_free, is_paying, order_in, phase, residue, round_in, supply, ticket, totals_of}
use Rattle.model.specs.WholeRun.{BooksAgree, PastAgrees, TicketsAgree, balances, got_by, in_rounds, paid_by, resting}
use Rattle.model.specs.declared.state.Exchange.{Exchange}
use Rattle.model.specs.declared.state.Phase.{Phase}
use Rattle.model.specs.declared.state.Phase.TheVariants.{Auction, Closed, Collect, Paying}
use Rattle.model.specs.declared.state.Round.{Round}
use Rattle.model.specs.declared.state.TicketState.{TicketState}
use Rattle.model.specs.declared.state.TicketState.TheVariants.{Entered, Free, Resting}
use Rattle.pricing.specs.Laws.{Rate}
use Rattle.pricing.specs.Prices.{off_limit}
use Rattle.pricing.specs.declared.Side.{Side}
use Rattle.ticket_set.specs.TicketSet.{bit}
use Rattle.units.specs.Counts.{largest}
use Rattle.model.proofs.Reading.{Sized}

-- ---- rounds

-- a ticket that waits entered with a limit that the round's bound keeps
pub record WaitingOk (hi lo : ℕ) (terms : OrderTerms) (o : ℕ) : Type 0 where
  pub limit_pos : 0 < terms.limit
  pub offer_pos : 0 < o
  pub within : off_limit terms.side terms.limit hi lo ≡ false

pub record ClaimedOk (b : RoundLog) (terms : OrderTerms) (o s got : ℕ) : Type 0 where
  pub offer_pos : 0 < o
  pub s_is : s ≡ paid_by b terms o
  pub got_is : got ≡ got_by b terms o

-- claims come only once the round is settled
abbrev pub ClaimsAt : Stage → Type 0
ClaimsAt collecting = ⊥
ClaimsAt auctioning = ⊥
ClaimsAt settled = Unit {0}

abbrev pub PartOk : Stage → (hi lo : ℕ) → RoundLog → Part → Type 0
PartOk g hi lo b absent = Unit {0}
PartOk g hi lo b (waiting terms o) = WaitingOk hi lo terms o
PartOk g hi lo b (claimed terms o s got) = ClaimsAt g × ClaimedOk b terms o s got

pub record RoundOk (g : Stage) (r : Round) (b : RoundLog) : Type 0 where
  pub stage : b.stage ≡ g
  pub total : (x : Side) → (totals_of r x).total.0 ≡ T b x
  pub paid : (x : Side) → (totals_of r x).paid.0 ≡ P b x
  pub got : (x : Side) → (totals_of r x).got.0 ≡ G b x
  pub held : (x : Side) → held_in r x + went_out b x ≡ came_in b x
  -- the round's set has just the tickets that wait
  pub marks : (k : ℕ) → k < 64 → bit r.tickets k ≡ is_waiting (b.part k)
  pub marks_small : r.tickets < 2 ^ 64
  pub within : (x : Side) → P b x ≤ T b x
  pub empty : (x : Side) → T b x ≡ 0 → G b x ≡ 0
  pub rate : (x : Side) → Rate x r.hi.0 r.lo.0 (P b x) (G b x)
  pub parts : (k : ℕ) → k < 64 → PartOk g r.hi.0 r.lo.0 b (b.part k)
  pub terms : TermsBounds r.reference.0 r.hi.0 r.lo.0 r.length
  pub small_total : (x : Side) → T b x ≤ largest
  pub small_got : (x : Side) → G b x ≤ largest

-- before the match nothing is traded
pub record Quiet (b : RoundLog) : Type 0 where
  pub traded_zero : (x : Side) → traded b x ≡ 0
  pub taken_zero : (x : Side) → taken b x ≡ 0
  pub given_zero : (x : Side) → given b x ≡ 0

abbrev pub MarketOk : Phase → Current → Type 0
MarketOk Closed idle = Unit {0}
MarketOk Closed (running b) = ⊥
MarketOk (Collect r) idle = ⊥
MarketOk (Collect r) (running b) = RoundOk collecting r b × Quiet b
MarketOk (Auction r) idle = ⊥
MarketOk (Auction r) (running b) = RoundOk auctioning r b
MarketOk (Paying r) idle = ⊥
MarketOk (Paying r) (running b) = RoundOk settled r b

-- what holds of state and history after every call: what the statement says of books, tickets and the past, and what keeps it so
pub record Inv (h : Exchange) (y : History) : Type 0 where
  pub sized : Sized h
  pub bounded : (t : ℕ) → t < 4 → supply h t ≤ largest
  pub ticket_bounds : (k : ℕ) → k < 64 → TicketBounds (ticket h k)
  pub markets : (n : ℕ) → 0 < n → n < 4 → MarketOk (phase h n) (y.rounds n)
  pub books : BooksAgree h y
  pub tickets : TicketsAgree (ticket h) y.orders y.rounds
  pub past : PastAgrees (residue h) y.ended y.payouts

-- all amounts are the supply
pub in_supply : {h : Exchange} {y : History} → Inv h y → (t : ℕ) → t < 4 → balances h t + resting h t + in_rounds y t + residue h t ≡ supply h t
in_supply i t l = omega (arith, i.books.conserved t l, i.books.supplied t l)

-- ---- which case a ticket, a phase or a market's round is

pub free_is : (s : TicketState) → is_free s ≡ true → s ≡ Free
free_is Free e = refl
free_is (Resting o) e = cc
free_is (Entered o) e = cc

pub resting_is : (s : TicketState) → is_free s ≡ false → is_entered s ≡ false → s ≡ Resting (order_in s)
resting_is Free e f = cc
resting_is (Resting o) e f = refl
resting_is (Entered o) e f = cc

pub entered_is : (s : TicketState) → is_entered s ≡ true → s ≡ Entered (order_in s)
entered_is Free e = cc
entered_is (Resting o) e = cc
entered_is (Entered o) e = refl

pub closed_is : (p : Phase) → is_closed p ≡ true → p ≡ Closed
closed_is Closed e = refl
closed_is (Collect r) e = cc
closed_is (Auction r) e = cc
closed_is (Paying r) e = cc

pub collect_is : (p : Phase) → is_collect p ≡ true → p ≡ Collect (round_in p)
collect_is Closed e = cc
collect_is (Collect r) e = refl
collect_is (Auction r) e = cc
collect_is (Paying r) e = cc

pub auction_is : (p : Phase) → is_auction p ≡ true → p ≡ Auction (round_in p)
auction_is Closed e = cc
auction_is (Collect r) e = cc
auction_is (Auction r) e = refl
auction_is (Paying r) e = cc

pub paying_is : (p : Phase) → is_paying p ≡ true → p ≡ Paying (round_in p)
paying_is Closed e = cc
paying_is (Collect r) e = cc
paying_is (Auction r) e = cc
paying_is (Paying r) e = refl

pub idle_is : (c : Current) → MarketOk Closed c → c ≡ idle
idle_is idle k = refl
idle_is (running b) k = absurd k

-- a market that is not closed has a running round in history
pub running_is : (p : Phase) (c : Current) → is_closed p ≡ false → MarketOk p c → c ≡ running (log_of c)
running_is p (running b) n k = refl
running_is Closed idle n k = absurd (let z : ◌≡◌ {A = ℕ} 0 1 = cc in omega arith)
running_is (Collect r) idle n k = absurd k
running_is (Auction r) idle n k = absurd k
running_is (Paying r) idle n k = absurd k

-- ---- history's changes of a round that stands at the stage they ask for

stage_self : {A : Type 0} (g : Stage) (a b : A) → cond (same_stage g g) a b ≡ a
stage_self collecting a b = refl
stage_self auctioning a b = refl
stage_self settled a b = refl

pub changed_at_lem : (g : Stage) (f : RoundLog → RoundLog) (c : Current) (b : RoundLog) → c ≡ running b → b.stage ≡ g → changed_at g f c ≡ running (f b)
changed_at_lem g f c b e s =
    ap (changed_at g f) e ∙ ap (λ v. running (cond (same_stage g v) (f b) b)) s ∙ ap running (stage_self g (f b) b)

pub ended_at_lem : (g : Stage) (f : RoundLog → RoundLog) (y : History) (n : ℕ) (c : Current) (b : RoundLog) → c ≡ running b → b.stage ≡ g → ended_at g f y n c ≡ end_or_round y n (f b)
ended_at_lem g f y n c b e s =
    ap (ended_at g f y n) e ∙ ap (λ v. cond (same_stage g v) (end_or_round y n (f b)) y) s ∙ stage_self g (end_or_round y n (f b)) y

-- a claimed part was paid its full share
pub claimed_ok : (g : Stage) (hi lo : ℕ) (b : RoundLog) (q : Part) → PartOk g hi lo b q → (terms : OrderTerms) (o s got : ℕ) → q ≡ claimed terms o s got → ClaimedOk b terms o s got
claimed_ok g hi lo b q k terms o s got e = (subst (PartOk g hi lo b) e k).1
