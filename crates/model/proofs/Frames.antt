-- What the invariant says of every ticket and market, after one ticket or one market changed.
use Prim.Native.Nat.{◌+◌, ◌<◌, ◌≤◌, ℕ}
use mathlib.Core.Bool.{false}
use mathlib.Core.Path.{◌∙◌, ◌≡◌, ap, refl, subst, sym}
use native.Mathlib.Decide.{ℕ_discrete}
use native.Mathlib.Omega.{arith}
use lib.Dec.{ltb}
use lib.ListN.{length}
use borrow.Author.Tests.{ltb-false}
use Rattle.model.specs.Bounds.{TicketBounds}
use Rattle.model.specs.Calls.{outside}
use Rattle.model.specs.History.{Current, History, Part, PlacedOrder, RoundLog, put, running, when_same, with_round}
use Rattle.model.specs.Sides.{offered, other, wanted}
use Rattle.model.specs.State.{phase, ticket, with_block, with_phase, with_ticket}
use Rattle.model.specs.WholeRun.{TicketsAgree, current_holds, entered_in, part_in, placed_in, unclaimed}
use Rattle.model.specs.declared.state.Exchange.{Exchange}
use Rattle.model.specs.declared.state.Phase.{Phase}
use Rattle.model.specs.declared.state.TicketState.{TicketState}
use Rattle.pricing.specs.declared.Side.{Side}
use Rattle.pricing.specs.declared.Side.TheVariants.{Buy, Sell}
use Rattle.units.specs.Sums.{only}
use Rattle.model.proofs.Inv.{Inv, MarketOk}
use Rattle.model.proofs.Reading.{in_rounds_set, phase_other, phase_same, put_each, put_other, put_same, sized_block, sized_phase, ticket_other, ticket_same}
use Rattle.units.proofs.Decide.{or_false}
use Rattle.units.proofs.Sums.{only_zero}

-- a number that is not outside a range
pub inside : (a from to : ℕ) → outside a from to ≡ false → (from ≤ a) × (a ≤ to)
inside a from to e =
    let p = or_false (ltb a from) (ltb to a) e in
    (ltb-false a from p.0, ltb-false to a p.1)

-- ---- tokens of a side

pub offered_lt : (x : Side) (mk : ℕ) → mk < 4 → offered x mk < 4
offered_lt Buy mk l = omega arith
offered_lt Sell mk l = l

pub wanted_lt : (x : Side) (mk : ℕ) → mk < 4 → wanted x mk < 4
wanted_lt Buy mk l = l
wanted_lt Sell mk l = omega arith

-- n units of what side x offers, as quote and as base
pub offered_split : (x : Side) (mk n u : ℕ) → only 0 (when_same Buy x n) u + only mk (when_same Sell x n) u ≡ only (offered x mk) n u
offered_split Buy mk n u = omega (arith, only_zero mk u)
offered_split Sell mk n u = omega (arith, only_zero 0 u)

-- n units of what side x wants
pub wanted_split : (x : Side) (mk n u : ℕ) → only 0 (when_same Buy (other x) n) u + only mk (when_same Sell (other x) n) u ≡ only (wanted x mk) n u
wanted_split Buy mk n u = omega (arith, only_zero 0 u)
wanted_split Sell mk n u = omega (arith, only_zero mk u)

-- ---- one ticket changed

module _ (g : Exchange) (k : ℕ) (s : TicketState) (hk : k < length g.tickets) where
  -- a property of every ticket
  pub each_ticket : (Q : ℕ → TicketState → Type 0) → Q k s → (j : ℕ) → ((j ≡ k → ⊥) → Q j (ticket g j)) → Q j (ticket (with_ticket g k s) j)
  each_ticket Q here j there = go (ℕ_discrete j k)
    where
      go : Dec (j ≡ k) → Q j (ticket (with_ticket g k s) j)
      go (yes e) = subst (λ (a : ℕ). Q a (ticket (with_ticket g k s) a)) (sym e) (subst (Q k) (sym (ticket_same g k s hk)) here)
      go (no d) = subst (Q j) (sym (ticket_other g k s j d)) (there d)

  pub bounds_set : TicketBounds s → ((j : ℕ) → j < 64 → TicketBounds (ticket g j)) → (j : ℕ) → j < 64 → TicketBounds (ticket (with_ticket g k s) j)
  bounds_set ok all j hj = each_ticket (λ a t. TicketBounds t) ok j (λ d. all j hj)

  module _ {orders : ℕ → PlacedOrder} {rounds : ℕ → Current} (all : TicketsAgree (ticket g) orders rounds) where
    -- the ticket's order is in history
    pub placed_set : (v : PlacedOrder) → placed_in s ≡ v → (j : ℕ) → j < 64 → placed_in (ticket (with_ticket g k s) j) ≡ put orders k v j
    placed_set v e j hj =
        put_each (λ a w. placed_in (ticket (with_ticket g k s) a) ≡ w) orders k v j
        (λ q. ap placed_in (ticket_same g k s hk) ∙ e)
        (λ d. ap placed_in (ticket_other g k s j d) ∙ all.tickets_are j hj)

    -- a ticket that stays out of rounds leaves every place as it was
    pub tickets_set : (v : PlacedOrder) → placed_in s ≡ v → ((a : ℕ) → entered_in s a ≡ entered_in (ticket g k) a)
        → TicketsAgree (ticket (with_ticket g k s)) (put orders k v) rounds
    tickets_set v e out =
        record {
          tickets_are = placed_set v e;
          places_are =
              λ j hj a pa la. each_ticket (λ i t. entered_in t a ≡ entered_in (ticket g i) a) (out a) j (λ d. refl) ∙ all.places_are j hj a pa la;
        }

    -- a ticket that goes in or out of market mk's round, whose part q says so, changes the places of that ticket in that round
    pub places_part : (mk : ℕ) (b : RoundLog) (q : Part) (c : Current) → rounds mk ≡ running b → 0 < mk → mk < 4
        → ((j : ℕ) → j < 64 → unclaimed (put b.part k q j) ≡ unclaimed (part_in c j))
        → entered_in s mk ≡ unclaimed q → ((a : ℕ) → (a ≡ mk → ⊥) → entered_in s a ≡ entered_in (ticket g k) a)
        → (j : ℕ) → j < 64 → (a : ℕ) → 0 < a → a < 4 → entered_in (ticket (with_ticket g k s) j) a ≡ unclaimed (part_in (put rounds mk c a) j)
    places_part mk b q c er pm lm same here there j hj a pa la =
        put_each (λ i v. entered_in (ticket (with_ticket g k s) j) i ≡ unclaimed (part_in v j)) rounds mk c a
        (λ e. each_ticket (λ i t. entered_in t mk ≡ unclaimed (put b.part k q i)) (here ∙ sym (ap unclaimed (put_same b.part k q))) j (λ d. other_part d) ∙ same j hj)
        (λ d. each_ticket (λ i t. entered_in t a ≡ entered_in (ticket g i) a) (there a d) j (λ dj. refl) ∙ all.places_are j hj a pa la)
      where
        other_part : (j ≡ k → ⊥) → entered_in (ticket g j) mk ≡ unclaimed (put b.part k q j)
        other_part d =
            all.places_are j hj mk pm lm
            ∙ ap (λ (v : Current). unclaimed (part_in v j)) er
            ∙ sym (ap unclaimed (put_other b.part k q j d))

-- ---- one market changed

module _ (g : Exchange) (mk : ℕ) (p : Phase) (f : ℕ → Current) (c : Current) (pos : 0 < mk) (lm : mk ≤ length g.markets) where
  pub markets_set : MarketOk p c → ((a : ℕ) → 0 < a → a < 4 → MarketOk (phase g a) (f a))
      → (a : ℕ) → 0 < a → a < 4 → MarketOk (phase (with_phase g mk p) a) (put f mk c a)
  markets_set ok all a pa la =
      put_each (λ i v. MarketOk (phase (with_phase g mk p) i) v) f mk c a
      (λ e. subst (λ (q : Phase). MarketOk q c) (sym (phase_same g mk p pos lm)) ok)
      (λ d. subst (λ (q : Phase). MarketOk q (f a)) (sym (phase_other g mk p a d)) (all a pa la))

-- a round whose unclaimed parts stay as they were leaves every place as it was
pub tickets_round : {tickets : ℕ → TicketState} {orders : ℕ → PlacedOrder} {rounds : ℕ → Current} → TicketsAgree tickets orders rounds
    → (mk : ℕ) (c : Current) → ((j : ℕ) → j < 64 → unclaimed (part_in (rounds mk) j) ≡ unclaimed (part_in c j))
    → TicketsAgree tickets orders (put rounds mk c)
tickets_round {tickets} {orders} {rounds} all mk c same =
    record {
      tickets_are = all.tickets_are;
      places_are =
          λ j hj a pa la. put_each (λ i v. (0 < i) → (i < 4) → entered_in (tickets j) i ≡ unclaimed (part_in v j)) rounds mk c a
          (λ e p l. all.places_are j hj mk p l ∙ same j hj)
          (λ d p l. all.places_are j hj a p l)
          pa la;
    }

-- a market's phase changes at a block, and its round in history with it, so that the same tickets wait in it and it holds the same
pub phase_keeps : (h : Exchange) (y : History) → Inv h y → (mk at : ℕ) → 0 < mk → mk < 4 → (p : Phase) (c : Current) → MarketOk p c
    → ((j : ℕ) → j < 64 → unclaimed (part_in (y.rounds mk) j) ≡ unclaimed (part_in c j)) → ((u : ℕ) → current_holds mk c u ≡ current_holds mk (y.rounds mk) u)
    → Inv (with_block (with_phase h mk p) at) (with_round y mk c)
phase_keeps h y i mk at pos lt4 p c ok parts same =
    record {
      sized = sized_block (with_phase h mk p) at (sized_phase h mk p i.sized);
      bounded = i.bounded;
      ticket_bounds = i.ticket_bounds;
      markets = markets_set h mk p y.rounds c pos (omega (arith, i.sized.markets)) ok i.markets;
      books =
          record {
            conserved = λ u hu. omega (arith, in_rounds_set y mk c pos lt4 u, same u, i.books.conserved u hu);
            supplied = i.books.supplied;
            accounts = i.books.accounts;
          };
      tickets = tickets_round i.tickets mk c parts;
      past = i.past;
    }
