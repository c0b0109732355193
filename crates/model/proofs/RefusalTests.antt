-- A call's code is that of the first of these conditions that holds: those of specs/Refusals.antt in the form that the calls' tests tell.
use Prim.Native.Nat.{ℕ, zero, suc, ◌+◌, ◌-◌, ◌*◌, ◌<◌, ◌≤◌}
use mathlib.Core.Bool.{Bool, true, false, cond}
use mathlib.Core.List.{List, [], ◌∷◌}
use mathlib.Core.Logic.{◌⊎◌, inl, inr, ⊎_elim}
use mathlib.Core.Path.{◌∙◌, ◌≡◌, ap, refl, sym}
use native.Mathlib.Omega.{arith}
use lib.Dec.{ltb}
use borrow.Author.Tests.{lt-ltb, ltb-false, ltb-true}
use Rattle.units.specs.Decide.{decide}
use Rattle.units.specs.Rounding.{RoundedDown, RoundedUp}
use Rattle.units.proofs.Decide.{decide_carried}
use Rattle.units.proofs.Rounding.{down_alone, up_alone}
use Rattle.units.proofs.Tested.{Tested, and?, either?, else?, eq?, is?, le?, lt?, never?, not?, one?, or?, sides?}
use Rattle.pricing.specs.declared.Side.{Side}
use Rattle.pricing.specs.declared.Side.TheVariants.{Buy, Sell}
use Rattle.pricing.specs.Prices.{auction_price, off_limit, quote_for}
use Rattle.pricing.proofs.Meanings.{numbers_round}
use Rattle.model.specs.Answers.{code_of, refusal_code}
use Rattle.model.specs.Calls.{done_of, refuse, tests_of}
use Rattle.model.specs.Kinds.{kind_of}
use Rattle.model.specs.View.{View, view}
use Rattle.model.specs.Refusals.{Condition, Field, Has, HoldsIn, InList, Of, amount, auction_length, bad_amount_or_limit, bad_terms, block, bound, condition, fields_of, limit, market, member, no_such_market, no_such_member, no_such_side, no_such_ticket, no_such_token, number_of, phase_of, reference, side, slack, stale_block, supply_exceeded, the, ticket, ticket_of, token}
use Rattle.model.specs.Run.{step_of}
use Rattle.model.specs.Sides.{by_side}
use Rattle.model.specs.State.{is_auction, is_closed, is_collect, is_entered, is_free, is_paying, order_in, round_in}
use Rattle.model.specs.declared.answer.Outcome.{Outcome}
use Rattle.model.specs.declared.call.Call.{Call}
use Rattle.model.specs.declared.state.Exchange.{Exchange}
use Rattle.model.specs.declared.state.Order.{Order}
use Rattle.model.specs.declared.state.Phase.{Phase}
use Rattle.model.specs.declared.state.Phase.TheVariants.{Closed, Collect, Auction, Paying}
use Rattle.model.specs.declared.state.Round.{Round}
use Rattle.model.specs.declared.state.TicketState.{TicketState}
use Rattle.model.specs.declared.state.TicketState.TheVariants.{Free, Entered}
use Rattle.model.proofs.Codes.{codes_rising}
use Rattle.model.proofs.Inv.{auction_is, closed_is, collect_is, entered_is, free_is, paying_is}

-- ---- conditions that tests tell: of the order that is read off a ticket, the round that is read off a phase, and the price of the definitions

-- its ticket, and that ticket's order
abbrev pub order_of : View → Call → Order
order_of x c = order_in (ticket_of x c)

abbrev pub order_phase : View → Call → Phase
order_phase x c = x.phase (order_of x c).market

-- the round in its market
abbrev pub round_of : View → Call → Round
round_of x c = round_in (phase_of x c)

-- the prices of side 1 and of side 0
abbrev pub sell_price : View → Call → ℕ
sell_price x c = let r = round_of x c in auction_price Sell r.hi.0 r.lo.0 (the block c - r.start.0) r.length

abbrev pub buy_price : View → Call → ℕ
buy_price x c = let r = round_of x c in auction_price Buy r.hi.0 r.lo.0 (the block c - r.start.0) r.length

abbrev pub UpperQuote : View → Call → ℕ → Type 0
UpperQuote x c q = RoundedUp (the amount c * sell_price x c) 1000000 q

abbrev pub LowerQuote : View → Call → ℕ → Type 0
LowerQuote x c q = RoundedDown (the amount c * buy_price x c) 1000000 q

-- 7
abbrev pub ticket_used : View → Call → Type 0
ticket_used x c = Of (3 ∷ []) c × (ticket_of x c ≡ Free → ⊥)

-- 8
abbrev pub not_theirs : View → Call → Type 0
not_theirs x c =
    (Of (4 ∷ 6 ∷ 10 ∷ 11 ∷ []) c × (ticket_of x c ≡ Free))
    ⊎ (Of (4 ∷ 11 ∷ []) c × ((order_of x c).member ≡ the member c → ⊥))

-- 9
abbrev pub ticket_round : View → Call → Type 0
ticket_round x c =
    (Of (4 ∷ 6 ∷ []) c × (ticket_of x c ≡ Entered (order_of x c)))
    ⊎ (Of (10 ∷ 11 ∷ []) c × (ticket_of x c ≡ Entered (order_of x c) → ⊥))

-- 11
abbrev pub phase_other : View → Call → Type 0
phase_other x c =
    (Of (5 ∷ []) c × (phase_of x c ≡ Closed → ⊥))
    ⊎ (Of (6 ∷ 11 ∷ []) c × (order_phase x c ≡ Collect (round_in (order_phase x c)) → ⊥))
    ⊎ (Of (7 ∷ []) c × (phase_of x c ≡ Collect (round_of x c) → ⊥))
    ⊎ (Of (8 ∷ 9 ∷ []) c × (phase_of x c ≡ Auction (round_of x c) → ⊥))
    ⊎ (Of (10 ∷ []) c × (order_phase x c ≡ Paying (round_in (order_phase x c)) → ⊥))

-- 13
abbrev pub too_soon : View → Call → Type 0
too_soon x c =
    let r = round_of x c in
    (Of (7 ∷ []) c × (the block c < r.opened.0 + 4))
    ⊎ (Of (9 ∷ []) c
    × (((r.buys.paid.0 < r.buys.total.0) ⊎ (r.sells.paid.0 < r.sells.total.0)) × (the block c ≤ r.start.0 + r.length)))

-- 15
abbrev pub limit_off : View → Call → Type 0
limit_off x c =
    let o = order_of x c in
    let r = round_in (order_phase x c) in
    Of (6 ∷ []) c × (((o.side ≡ Buy) × (o.limit.0 < r.hi.0)) ⊎ ((o.side ≡ Sell) × (r.lo.0 < o.limit.0)))

-- 16
abbrev pub is_after : View → Call → Type 0
is_after x c = let r = round_of x c in Of (8 ∷ []) c × (r.start.0 + r.length < the block c)

-- 17
abbrev pub above_left : View → Call → Type 0
above_left x c =
    let r = round_of x c in
    Of (8 ∷ []) c
    × (((the side c ≡ 1) × (r.sells.total.0 < r.sells.paid.0 + the amount c))
    ⊎ ((the side c ≡ 0) × ((q : ℕ) × (LowerQuote x c q × ((q ≡ 0) ⊎ (r.buys.total.0 < r.buys.paid.0 + q))))))

-- 18
abbrev pub past_bound : View → Call → Type 0
past_bound x c =
    Of (8 ∷ []) c
    × (((the side c ≡ 1) × ((q : ℕ) × (UpperQuote x c q × (the bound c < q))))
    ⊎ ((the side c ≡ 0) × ((q : ℕ) × (LowerQuote x c q × (q < the bound c)))))

-- 19
abbrev pub balance_below : View → Call → Type 0
balance_below x c =
    (Of (2 ∷ []) c × (x.balance (the member c) (the token c) < the amount c))
    ⊎ (Of (3 ∷ []) c
    × (((the side c ≡ 1) × (x.balance (the member c) (the market c) < the amount c))
    ⊎ ((the side c ≡ 0) × (x.balance (the member c) 0 < the amount c))))
    ⊎ (Of (8 ∷ []) c
    × (((the side c ≡ 1) × ((q : ℕ) × (UpperQuote x c q × (x.balance (the member c) 0 < q))))
    ⊎ ((the side c ≡ 0) × (x.balance (the member c) (the market c) < the amount c))))

abbrev pub tellable : View → Call → List Condition
tellable x c =
    condition 1 (no_such_member c)
    ∷ condition 2 (no_such_token c)
    ∷ condition 3 (no_such_market c)
    ∷ condition 4 (no_such_ticket c)
    ∷ condition 5 (no_such_side c)
    ∷ condition 6 (bad_amount_or_limit c)
    ∷ condition 7 (ticket_used x c)
    ∷ condition 8 (not_theirs x c)
    ∷ condition 9 (ticket_round x c)
    ∷ condition 10 (bad_terms c)
    ∷ condition 11 (phase_other x c)
    ∷ condition 12 (stale_block x c)
    ∷ condition 13 (too_soon x c)
    ∷ condition 14 (supply_exceeded x c)
    ∷ condition 15 (limit_off x c)
    ∷ condition 16 (is_after x c)
    ∷ condition 17 (above_left x c)
    ∷ condition 18 (past_bound x c)
    ∷ condition 19 (balance_below x c)
    ∷ []

-- ---- what a call has and meets

abbrev of? : (ks : List ℕ) (c : Call) → Tested (Of ks c)
of? [] c = never?
of? (k ∷ ks) c = or? (eq? (kind_of c) k) (of? ks c)

abbrev in? : (n : ℕ) (es : List (Field × ℕ)) → Tested (InList n es)
in? n [] = never?
in? n (e ∷ es) = or? (eq? (number_of e.0) n) (in? n es)

abbrev has? : (f : Field) (c : Call) → Tested (Has f c)
has? f c = in? (number_of f) (fields_of c)

abbrev pub free? : (t : TicketState) → Tested (t ≡ Free)
free? t = is? is_free t Free refl (free_is t)

abbrev entered? : (t : TicketState) → Tested (t ≡ Entered (order_in t))
entered? t = is? is_entered t (Entered (order_in t)) refl (entered_is t)

abbrev closed? : (p : Phase) → Tested (p ≡ Closed)
closed? p = is? is_closed p Closed refl (closed_is p)

abbrev pub collect? : (p : Phase) → Tested (p ≡ Collect (round_in p))
collect? p = is? is_collect p (Collect (round_in p)) refl (collect_is p)

abbrev pub auction? : (p : Phase) → Tested (p ≡ Auction (round_in p))
auction? p = is? is_auction p (Auction (round_in p)) refl (auction_is p)

abbrev pub paying? : (p : Phase) → Tested (p ≡ Paying (round_in p))
paying? p = is? is_paying p (Paying (round_in p)) refl (paying_is p)

-- ---- a limit, and a quote

limit_yes : (s : Side) (l hi lo : ℕ) → off_limit s l hi lo ≡ true → ((s ≡ Buy) × (l < hi)) ⊎ ((s ≡ Sell) × (lo < l))
limit_yes Buy l hi lo e = inl (refl, ltb-true l hi e)
limit_yes Sell l hi lo e = inr (refl, ltb-true lo l e)

limit_no : (s : Side) (l hi lo : ℕ) → off_limit s l hi lo ≡ false → ((s ≡ Buy) × (l < hi)) ⊎ ((s ≡ Sell) × (lo < l)) → ⊥
limit_no Buy l hi lo e (inl h) = omega (arith, ltb-false l hi e, h.1)
limit_no Buy l hi lo e (inr h) = absurd (let z : ◌≡◌ {A = ℕ} 0 1 = ap (λ (v : Side). by_side v 0 1) h.0 in omega (arith, z))
limit_no Sell l hi lo e (inl h) = absurd (let z : ◌≡◌ {A = ℕ} 1 0 = ap (λ (v : Side). by_side v 0 1) h.0 in omega (arith, z))
limit_no Sell l hi lo e (inr h) = omega (arith, ltb-false lo l e, h.1)

abbrev limit? : (s : Side) (l hi lo : ℕ) → Tested (((s ≡ Buy) × (l < hi)) ⊎ ((s ≡ Sell) × (lo < l)))
limit? s l hi lo = record { test = off_limit s l hi lo; yes = limit_yes s l hi lo; no = limit_no s l hi lo }

abbrev up? : {P : ℕ → Type 0} (n p : ℕ) → ((q : ℕ) → Tested (P q)) → Tested ((q : ℕ) × (RoundedUp (n * p) 1000000 q × P q))
up? n p f = one? (quote_for Sell n p) (numbers_round.pays n p) (λ q r. up_alone _ 1000000 _ _ r (numbers_round.pays n p)) f

abbrev down? : {P : ℕ → Type 0} (n p : ℕ) → ((q : ℕ) → Tested (P q)) → Tested ((q : ℕ) × (RoundedDown (n * p) 1000000 q × P q))
down? n p f = one? (quote_for Buy n p) (numbers_round.gets n p) (λ q r. down_alone _ 1000000 _ _ r (numbers_round.gets n p)) f

-- ---- the tellable' tests

abbrev Tests : List Condition → Type 0
Tests [] = Unit {0}
Tests (p ∷ ps) = Tested p.holds × Tests ps

infixr 1 ◌then◌
abbrev ◌then◌ : {A B : Type 0} → A → B → A × B
a then b = (a, b)

abbrev tests : (x : View) (c : Call) → Tests (tellable x c)
tests x c =
    let r = round_of x c in
    let o = order_of x c in
    let n = the amount c in
    and? (has? member c) (lt? _ (the member c))
    then and? (has? token c) (lt? _ (the token c))
    then and? (has? market c) (or? (lt? (the market c) _) (lt? _ (the market c)))
    then and? (has? ticket c) (lt? _ (the ticket c))
    then and? (has? side c) (lt? _ (the side c))
    then either? (of? (1 ∷ 2 ∷ 3 ∷ 8 ∷ []) c) (eq? n _) (of? (3 ∷ []) c) (or? (lt? (the limit c) _) (lt? _ (the limit c)))
    then and? (of? (3 ∷ []) c) (not? (free? (ticket_of x c)))
    then either? (of? (4 ∷ 6 ∷ 10 ∷ 11 ∷ []) c) (free? (ticket_of x c)) (of? (4 ∷ 11 ∷ []) c) (not? (eq? o.member (the member c)))
    then either? (of? (4 ∷ 6 ∷ []) c) (entered? (ticket_of x c)) (of? (10 ∷ 11 ∷ []) c) (not? (entered? (ticket_of x c)))
    then and? (of? (5 ∷ []) c)
    (or? (or? (lt? (the reference c) _) (lt? _ (the reference c)))
    (or? (lt? _ (the slack c)) (or? (lt? (the auction_length c) _) (lt? _ (the auction_length c)))))
    then else? (of? (5 ∷ []) c) (not? (closed? (phase_of x c)))
    (else? (of? (6 ∷ 11 ∷ []) c) (not? (collect? (order_phase x c)))
    (else? (of? (7 ∷ []) c) (not? (collect? (phase_of x c)))
    (else? (of? (8 ∷ 9 ∷ []) c) (not? (auction? (phase_of x c))) (and? (of? (10 ∷ []) c) (not? (paying? (order_phase x c)))))))
    then and? (of? (5 ∷ 7 ∷ 8 ∷ 9 ∷ []) c) (lt? (the block c) x.last)
    then either? (of? (7 ∷ []) c) (lt? (the block c) _) (of? (9 ∷ []) c)
    (and? (or? (lt? r.buys.paid.0 r.buys.total.0) (lt? r.sells.paid.0 r.sells.total.0)) (le? (the block c) (r.start.0 + r.length)))
    then and? (of? (1 ∷ []) c) (lt? _ (x.supply (the token c) + n))
    then and? (of? (6 ∷ []) c) (limit? o.side o.limit.0 (round_in (order_phase x c)).hi.0 (round_in (order_phase x c)).lo.0)
    then and? (of? (8 ∷ []) c) (lt? (r.start.0 + r.length) (the block c))
    then and? (of? (8 ∷ []) c)
    (sides? (the side c) (lt? r.sells.total.0 (r.sells.paid.0 + n))
    (down? n (buy_price x c) (λ q. or? (eq? q 0) (lt? r.buys.total.0 (r.buys.paid.0 + q)))))
    then and? (of? (8 ∷ []) c)
    (sides? (the side c) (up? n (sell_price x c) (λ q. lt? (the bound c) q)) (down? n (buy_price x c) (λ q. lt? q (the bound c))))
    then else? (of? (2 ∷ []) c) (lt? (x.balance (the member c) (the token c)) n)
    (else? (of? (3 ∷ []) c) (sides? (the side c) (lt? (x.balance (the member c) (the market c)) n) (lt? (x.balance (the member c) 0) n))
    (and? (of? (8 ∷ []) c)
    (sides? (the side c) (up? n (sell_price x c) (λ q. lt? (x.balance (the member c) 0) q)) (lt? (x.balance (the member c) (the market c)) n))))
    then tt

-- the code of the first that holds
abbrev first_code : (ps : List Condition) → Tests ps → ℕ
first_code [] ts = 0
first_code (p ∷ ps) ts = cond ts.0.test p.code (first_code ps ts.1)

-- ---- the calls' tests are these

-- a step's code is the decision over its call's codes
step_code : (x : Exchange) (c : Call) → code_of (step_of x c).answer ≡ decide (tests_of x c) refusal_code 0
unfolding step_of
step_code x c =
    decide_carried (λ (out : Outcome). code_of out.answer) (refuse x) (done_of x c) refusal_code 0 (tests_of x c) (λ r. refl) (λ p. (codes_rising x c).done_accepts)

agrees : (x : Exchange) (c : Call) → decide (tests_of x c) refusal_code 0 ≡ first_code (tellable (view x) c) (tests (view x) c)
agrees x (Call.Deposit m t n) = refl
agrees x (Call.Withdraw m t n) = refl
agrees x (Call.Order k m mk zero l n) = refl
agrees x (Call.Order k m mk (suc zero) l n) = refl
agrees x (Call.Order k m mk (suc (suc s)) l n) = rw (lt-ltb 1 (suc (suc s)) (omega arith))
agrees x (Call.Cancel k m) = refl
agrees x (Call.Open mk b r w len) = refl
agrees x (Call.Enter k) = refl
agrees x (Call.Match mk b) = refl
agrees x (Call.Bid mk m b zero n bd) = refl
agrees x (Call.Bid mk m b (suc zero) n bd) = refl
agrees x (Call.Bid mk m b (suc (suc s)) n bd) = rw (lt-ltb 1 (suc (suc s)) (omega arith))
agrees x (Call.Settle mk b) = refl
agrees x (Call.Claim k) = refl
agrees x (Call.Leave k m) = refl

-- ---- the first that holds

abbrev RisingFrom : ℕ → List Condition → Type 0
RisingFrom a [] = Unit {0}
RisingFrom a (p ∷ ps) = (a < p.code) × RisingFrom p.code ps

-- no code of such a list is a or below
holds_above : (a : ℕ) (ps : List Condition) → RisingFrom a ps → (m : ℕ) → HoldsIn m ps → a < m
holds_above a [] u m h = elim h [ ]
holds_above a (p ∷ ps) u m (inl h) = omega (arith, u.0, h.0)
holds_above a (p ∷ ps) u m (inr h) = omega (arith, u.0, holds_above p.code ps u.1 m h)

-- the first test told
next : (p : Condition) (ps : List Condition) (ts : Tests (p ∷ ps)) (n : ℕ) (t : Bool) → ts.0.test ≡ t → first_code (p ∷ ps) ts ≡ n
    → cond t p.code (first_code ps ts.1) ≡ n
next p ps ts n t q e = ap (λ (b : Bool). cond b p.code (first_code ps ts.1)) (sym q) ∙ e

-- where the code is 0, none holds
none_holds : (a : ℕ) (ps : List Condition) → RisingFrom a ps → (ts : Tests ps) → first_code ps ts ≡ 0 → (m : ℕ) → HoldsIn m ps → ⊥
none_holds a [] u ts e m h = elim h [ ]
none_holds a (p ∷ ps) u ts e m h = go ts.0.test refl h (λ z. none_holds p.code ps u.1 ts.1 z m)
  where
    go : (t : Bool) → ts.0.test ≡ t → HoldsIn m (p ∷ ps) → (first_code ps ts.1 ≡ 0 → HoldsIn m ps → ⊥) → ⊥
    go true q h rec = omega (arith, next p ps ts 0 true q e, u.0)
    go false q (inl h) rec = ts.0.no q h.1
    go false q (inr h) rec = rec (next p ps ts 0 false q e) h

-- where it is n, n holds and nothing below
abbrev pub FirstIn : ℕ → List Condition → Type 0
FirstIn n ps = HoldsIn n ps × ((m : ℕ) → m < n → HoldsIn m ps → ⊥)

first_holds : (a : ℕ) (ps : List Condition) → RisingFrom a ps → (ts : Tests ps) (n : ℕ) → 0 < n → first_code ps ts ≡ n → FirstIn n ps
first_holds a [] u ts n l e = absurd (omega (arith, l, e))
first_holds a (p ∷ ps) u ts n l e = go ts.0.test refl (first_holds p.code ps u.1 ts.1 n l)
  where
    below : p.code ≡ n → (m : ℕ) → m < n → HoldsIn m (p ∷ ps) → ⊥
    below z m k (inl h) = omega (arith, z, k, h.0)
    below z m k (inr h) = omega (arith, z, k, holds_above p.code ps u.1 m h)

    go : (t : Bool) → ts.0.test ≡ t → (first_code ps ts.1 ≡ n → FirstIn n ps) → FirstIn n (p ∷ ps)
    go true q rec = let z : p.code ≡ n = next p ps ts n true q e in (inl (z, ts.0.yes q), below z)
    go false q rec =
        let f : FirstIn n ps = rec (next p ps ts n false q e) in
        (inr f.0, λ m k h. ⊎_elim (λ z. ts.0.no q z.1) (f.1 m k) h)

-- there is one first
pub first_one : (ps : List Condition) (n m : ℕ) → FirstIn n ps → FirstIn m ps → n ≡ m
first_one ps n m f g = go (ltb n m) (ltb m n) refl refl
  where
    go : (s t : Bool) → ltb n m ≡ s → ltb m n ≡ t → n ≡ m
    go true t p q = absurd (g.1 n (ltb-true n m p) f.0)
    go false true p q = absurd (f.1 m (ltb-true m n q) g.0)
    go false false p q = omega (arith, ltb-false n m p, ltb-false m n q)

-- ---- a call's code is that of the first that holds

module _ (x : Exchange) (c : Call) where
  abbrev code : ℕ
  code = code_of (step_of x c).answer

  code_is : code ≡ first_code (tellable (view x) c) (tests (view x) c)
  code_is = step_code x c ∙ agrees x c

  rising : RisingFrom 0 (tellable (view x) c)
  rising = omega arith

  pub none_told : code ≡ 0 → (n : ℕ) → HoldsIn n (tellable (view x) c) → ⊥
  none_told e = none_holds 0 (tellable (view x) c) rising (tests (view x) c) (sym code_is ∙ e)

  pub first_told : (n : ℕ) → 0 < n → code ≡ n → FirstIn n (tellable (view x) c)
  first_told n l e = first_holds 0 (tellable (view x) c) rising (tests (view x) c) n l (sym code_is ∙ e)
