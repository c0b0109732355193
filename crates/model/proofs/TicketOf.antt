-- A ticket from what history tells of its order and of its part in its market's round.
use Prim.Native.Nat.{ℕ}
use mathlib.Core.Bool.{Bool, cond, false, true}
use mathlib.Core.Path.{◌≡◌, ap, refl, sym}
use native.Mathlib.Omega.{arith}
use lib.Dec.{eqb}
use borrow.Author.Tests.{eq-eqb, eqb-true}
use Rattle.model.specs.History.{OrderTerms, Part, absent, no_order, placed, waiting}
use Rattle.model.specs.State.{order_in}
use Rattle.model.specs.WholeRun.{entered_in, order_with, placed_in, terms_of}
use Rattle.model.specs.declared.state.TicketState.{TicketState}
use Rattle.model.specs.declared.state.TicketState.TheVariants.{Entered, Free, Resting}

same_order : (t t' : OrderTerms) (mk mk' n n' : ℕ) → t ≡ t' → mk ≡ mk' → n ≡ n' → order_with t mk n ≡ order_with t' mk' n'
same_order t t' mk mk' n n' a b c = rw (a, b, c)

-- a ticket whose part waits in a market's round is entered there, with that part's order
pub entered_of : (s : TicketState) (terms : OrderTerms) (market o : ℕ) → entered_in s market ≡ waiting terms o → s ≡ Entered (order_with terms market o)
entered_of Free terms market o e = absurd (let z : ◌≡◌ {A = ℕ} 0 1 = cc in omega arith)
entered_of (Resting d) terms market o e = absurd (let z : ◌≡◌ {A = ℕ} 0 1 = cc in omega arith)
entered_of (Entered d) terms market o e = go (eqb market d.market) refl e
  where
    own : Part
    own = waiting (terms_of d) d.offer.0

    go : (q : Bool) → eqb market d.market ≡ q → cond (eqb market d.market) own absent ≡ waiting terms o → Entered d ≡ Entered (order_with terms market o)
    go true q f =
        let m : market ≡ d.market = eqb-true market d.market q in
        let g : waiting (terms_of d) d.offer.0 ≡ waiting terms o = rw q at f in
        ap Entered (same_order (terms_of d) terms d.market market d.offer.0 o (cc) (sym m) (cc))
    go false q f =
        let g : absent ≡ waiting terms o = rw q at f in
        absurd (let z : ◌≡◌ {A = ℕ} 0 1 = cc in omega arith)

-- a ticket with an order that is in no round of its market rests
pub rests_of : (s : TicketState) (terms : OrderTerms) (market o : ℕ) → placed_in s ≡ placed terms market o → entered_in s market ≡ absent → s ≡ Resting (order_with terms market o)
rests_of Free terms market o e a = absurd (let z : ◌≡◌ {A = ℕ} 0 1 = cc in omega arith)
rests_of (Resting d) terms market o e a = ap Resting (same_order (terms_of d) terms d.market market d.offer.0 o (cc) (cc) (cc))
rests_of (Entered d) terms market o e a =
    let m : market ≡ d.market = cc in
    let b : waiting (terms_of d) d.offer.0 ≡ absent = rw (eq-eqb market d.market m) at a in
    absurd (let z : ◌≡◌ {A = ℕ} 0 1 = cc in omega arith)

pub free_of : (s : TicketState) → placed_in s ≡ no_order → s ≡ Free
free_of Free e = refl
free_of (Resting d) e = absurd (let z : ◌≡◌ {A = ℕ} 0 1 = cc in omega arith)
free_of (Entered d) e = absurd (let z : ◌≡◌ {A = ℕ} 0 1 = cc in omega arith)

-- the order of a ticket in use is the one placed there
pub order_of : (s : TicketState) (terms : OrderTerms) (market o : ℕ) → placed_in s ≡ placed terms market o → order_in s ≡ order_with terms market o
order_of Free terms market o e = absurd (let z : ◌≡◌ {A = ℕ} 0 1 = cc in omega arith)
order_of (Resting d) terms market o e = same_order (terms_of d) terms d.market market d.offer.0 o (cc) (cc) (cc)
order_of (Entered d) terms market o e = same_order (terms_of d) terms d.market market d.offer.0 o (cc) (cc) (cc)
