-- A market in auction is brought back to closed by one settle and one claim for each ticket marked.
use Prim.Native.Nat.{◌+◌, ◌-◌, ◌<◌, ◌^◌, ◌≤◌, suc, zero, ℕ}
use mathlib.Core.Bool.{Bool, ◌&&◌, ◌||◌, cond, false, not, true}
use mathlib.Core.List.{List, [], ◌∷◌, map}
use mathlib.Core.Path.{◌∙◌, ◌≡◌, ap, refl, subst, subst₂, sym}
use native.Mathlib.Decide.{dec_lt, ℕ_discrete}
use native.Mathlib.Omega.{arith}
use lib.Dec.{eqb}
use lib.ListN.{get_or-eq_default, length, length-map}
use borrow.Author.Tests.{eq-eqb, le-ltb, lt-ltb, ne_eqb, not-false}
use mathlib.Core.Logic.{◌⊎◌, inl, inr}
use Rattle.model.specs.Answers.{code_of}
use Rattle.model.specs.Calls.{claim_with, claimed_round, paying_or_closed, settle_tests, settle_with, settled_phase, unfilled, is_early}
use Rattle.model.specs.Closing.{AllAccepted, BackToClosed, CanClose, Names, SettleCloses, WindsUp, next_call, no_call, times}
use Rattle.model.specs.History.{History, auctioning, log_of, running}
use Rattle.model.specs.Run.{Reachable, after_call, after_calls, step_of}
use Rattle.model.specs.Sides.{wanted}
use Rattle.model.specs.State.{closed_market, credit, is_auction, is_closed, last_block, phase, resting_or, round_in, ticket, to_residue, totals_of, with_phase, with_ticket}
use Rattle.model.specs.declared.answer.Outcome.{Outcome}
use Rattle.model.specs.declared.state.Exchange.{Exchange}
use Rattle.model.specs.declared.state.Market.{Market}
use Rattle.model.specs.declared.state.Order.{Order}
use Rattle.model.specs.declared.state.Phase.{Phase}
use Rattle.model.specs.declared.state.Phase.TheVariants.{Auction, Closed, Paying}
use Rattle.model.specs.declared.state.Round.{Round}
use Rattle.model.specs.declared.state.TicketState.TheVariants.{Entered}
use Rattle.pricing.specs.Prices.{share_got, share_paid}
use Rattle.pricing.specs.declared.Totals.{Totals}
use Rattle.ticket_set.specs.TicketSet.{bit, count_of, members_from, members_of, next_of, removed}
use Rattle.std.specs.Prelude.{Some, Ok}
use Rattle.units.specs.Counts.{largest}
use Rattle.model.proofs.Inv.{Inv, MarketOk, RoundOk, auction_is, running_is}
use Rattle.model.proofs.Frames.{inside}
use Rattle.model.proofs.Reach.{reachable_inv}
use Rattle.model.proofs.ReachBounds.{marked_order}
use Rattle.model.proofs.Reading.{Sized, phase_same}
use Rattle.model.proofs.Steps.{accepted_passed, step_passed}
use Rattle.model.proofs.WholeRun.{claim_passes}
use Rattle.ticket_set.proofs.Bits.{bit_cases, bit_lt, bit_removed_other, bit_removed_same, removed_lt}
use Rattle.ticket_set.proofs.Laws.{bit_high, count_le, count_none, count_removed}
use Rattle.ticket_set.proofs.Least.{next_taken}
use Rattle.ticket_set.proofs.Members.{members_here, members_there}
use Rattle.units.proofs.Decide.{Passed}
use Rattle.units.proofs.Sums.{sum_zero}
use Rattle.model.specs.declared.call.Call.TheVariants as Call

-- ---- lists that name the members of a ticket set

-- one more for the first of a list, and for no other number
times_here : (k : ℕ) (ks : List ℕ) → times k (k ∷ ks) ≡ 1 + times k ks
unfolding times
times_here k ks = rw (eq-eqb k k refl)

times_there : (j k : ℕ) (ks : List ℕ) → (k ≡ j → ⊥) → times j (k ∷ ks) ≡ times j ks
unfolding times
times_there j k ks d = rw (ne_eqb k j d) (omega arith)

module _ (s k : ℕ) (ks : List ℕ) (n : Names s (k ∷ ks)) where
  -- the first that a list names is a member
  first_member : bit s k ≡ 1
  first_member = omega (arith, times_here k ks, n.each k, bit_lt s k)

  -- and one of the 64 tickets
  first_low : s < 2 ^ 64 → k < 64
  first_low h = go (dec_lt k 64)
    where
      go : Dec (k < 64) → k < 64
      go (yes l) = l
      go (no d) = absurd (omega (arith, first_member, bit_high s k h (omega arith)))

  -- the others name the set without it
  names_tail : Names (removed s k) ks
  names_tail = record { each = λ j. go j (ℕ_discrete k j) }
    where
      go : (j : ℕ) → Dec (k ≡ j) → times j ks ≡ bit (removed s k) j
      go j (yes e) =
          let z : times k ks ≡ bit (removed s k) k = omega (arith, times_here k ks, n.each k, bit_lt s k, bit_removed_same s k) in
          subst (λ (i : ℕ). times i ks ≡ bit (removed s k) i) e z
      go j (no d) =
          omega (arith, times_there j k ks d, n.each j, bit_removed_other s k j (λ e. d (sym e)))

-- a list of nothing names the empty set
names_none : (s : ℕ) → Names s [] → count_of s ≡ 0
unfolding times count_of
names_none s n = sum_zero 64 (bit s) (λ k l. sym (n.each k))

-- a list names no more than the set has
names_length : (s : ℕ) (ks : List ℕ) → s < 2 ^ 64 → Names s ks → length ks ≤ count_of s
names_length s [] h n = omega arith
names_length s (k ∷ ks) h n =
    omega (
      arith,
      names_length (removed s k) ks (removed_lt s k h) (names_tail s k ks n),
      count_removed s k (first_low s k ks n h) (first_member s k ks n),
    )

-- ---- the settle

-- once k is above L, nothing is too early, whatever is left
and_none : (a : Bool) → (a && not true) ≡ false
and_none true = refl
and_none false = refl

-- only markets 1 to 3 can be in auction
auction_market : (x : Exchange) → Sized x → (mk : ℕ) (r : Round) → phase x mk ≡ Auction r → (0 < mk) × (mk < 4)
auction_market x z zero r e = absurd (let q : ◌≡◌ {A = ℕ} 0 1 = cc in omega arith)
auction_market x z (suc i) r e = (omega arith, go (dec_lt i 3))
  where
    go : Dec (i < 3) → suc i < 4
    go (yes l) = omega arith
    go (no d) =
        let l : length x.markets ≤ i = omega (arith, z.markets) in
        let c : phase x (suc i) ≡ Closed = ap (λ (m : Market). m.phase) (get_or-eq_default x.markets closed_market l) in
        absurd (let q : ◌≡◌ {A = ℕ} 0 1 = cc in omega arith)

-- above start + L no test stops it
settle_tests_lem : (x : Exchange) (mk at : ℕ) (r : Round) → 0 < mk → mk < 4 → phase x mk ≡ Auction r → r.start.0 + r.length < at → last_block x ≤ at
    → Passed (settle_tests x mk at)
settle_tests_lem x mk at r pos lt4 ep over late = (
  rw (le-ltb mk 1 pos, le-ltb 3 mk (omega arith)),
  (
    ap (λ p. not (is_auction p)) ep,
    (
      le-ltb at (last_block x) late,
      (
        ap (λ p. is_early (round_in p) at) ep
            ∙ ap (λ (q : Bool). (unfilled r.buys || unfilled r.sells) && not q) (lt-ltb (r.start.0 + r.length) at over)
            ∙ and_none (unfilled r.buys || unfilled r.sells),
        tt,
      ),
    ),
  ),
)

module _ (x : Exchange) (mk at : ℕ) (z : Sized x) (p : Passed (settle_tests x mk at)) where
  settle_market : (0 < mk) × (mk < 4)
  settle_market = let i = inside mk 1 3 p.0 in (omega (arith, i.0), omega (arith, i.1))

  settle_auction : phase x mk ≡ Auction (round_in (phase x mk))
  settle_auction = auction_is (phase x mk) (not-false (is_auction (phase x mk)) p.1.0)

  settle_passes : step_of x (Call.Settle mk at) ≡ settle_with x mk at (round_in (phase x mk))
  settle_passes = step_passed x (Call.Settle mk at) p

  -- it is accepted, and its market is paying, or closed where no ticket is marked
  settle_accepted : code_of (step_of x (Call.Settle mk at)).answer ≡ 0
  settle_accepted = ap (λ (out : Outcome). code_of out.answer) settle_passes

  settle_leaves : phase (step_of x (Call.Settle mk at)).exchange mk ≡ settled_phase (round_in (phase x mk))
  settle_leaves =
      ap (λ (out : Outcome). phase out.exchange mk) settle_passes
      ∙ phase_same x mk (settled_phase (round_in (phase x mk))) settle_market.0 (omega (arith, settle_market.1, z.markets))

-- ---- the claims

-- a claim of ticket k is accepted, and leaves in its market the round without that ticket, or a closed market where it was the last
record Claimed (x : Exchange) (mk k s : ℕ) : Type 0 where
  accepted : code_of (step_of x (Call.Claim k)).answer ≡ 0
  left : Round
  tickets : left.tickets ≡ removed s k
  phase_is : phase (step_of x (Call.Claim k)).exchange mk ≡ settled_phase left

-- the phase of a market whose round had a ticket taken out
paying_phase : (x : Exchange) (mk : ℕ) (r : Round) → 0 < mk → mk ≤ length x.markets → phase (paying_or_closed x mk r) mk ≡ settled_phase r
paying_phase x mk r pos l = go (eqb (count_of r.tickets) 0)
  where
    go : (q : Bool) → phase (cond q (with_phase (to_residue (to_residue x 0 r.quote.0) mk r.base.0) mk Closed) (with_phase x mk (Paying r))) mk
        ≡ cond q Closed (Paying r)
    go true = phase_same (to_residue (to_residue x 0 r.quote.0) mk r.base.0) mk Closed pos l
    go false = phase_same x mk (Paying r) pos l

module _ (x : Exchange) (y : History) (i : Inv x y) (mk : ℕ) (pos : 0 < mk) (lt4 : mk < 4) (r : Round) (ep : phase x mk ≡ Paying r)
    (k : ℕ) (hk : k < 64) where
  -- a ticket with an order of the market
  claimed_order : (o : Order) → o.market ≡ mk → ticket x k ≡ Entered o → Claimed x mk k r.tickets
  claimed_order o em et =
      let t : Totals = totals_of r o.side in
      let s : ℕ = share_paid o.offer.0 t.paid.0 t.total.0 in
      let got : ℕ = share_got o.offer.0 t.got.0 t.total.0 in
      let r1 : Round = claimed_round r k o.side (o.offer.0 - s) got in
      let x1 : Exchange = credit (with_ticket x k (resting_or o (o.offer.0 - s))) o.member (wanted o.side o.market) got in
      let out : step_of x (Call.Claim k) ≡ claim_with x k o r = claim_passes x k hk o r et (ap (phase x) em ∙ ep) in
      let after : phase (claim_with x k o r).exchange o.market ≡ settled_phase r1 = paying_phase x1 o.market r1 (omega arith) (omega (arith, i.sized.markets)) in
      record {
        accepted = ap (λ (v : Outcome). code_of v.answer) out;
        left = r1;
        tickets = refl;
        phase_is =
            ap (λ (v : Outcome). phase v.exchange mk) out
            ∙ subst (λ (n : ℕ). phase (claim_with x k o r).exchange n ≡ settled_phase r1) em after;
      }

  -- a ticket that the round marks
  claim_taken : bit r.tickets k ≡ 1 → Claimed x mk k r.tickets
  claim_taken e =
      let o = marked_order x y i mk pos lt4 k hk (ap (λ (p : Phase). bit (round_in p).tickets k) ep ∙ e) in
      claimed_order o.0 o.1 o.2

-- one claim for each ticket marked: all are accepted, and the market is closed
claims_close : (ks : List ℕ) (x : Exchange) → Reachable x → (mk : ℕ) → 0 < mk → mk < 4 → (r : Round) → r.tickets < 2 ^ 64 → Names r.tickets ks
    → phase x mk ≡ settled_phase r → AllAccepted x (map Call.Claim ks) × (phase (after_calls x (map Call.Claim ks)) mk ≡ Closed)
unfolding after_calls
claims_close [] x l mk pos lt4 r h n ep = (no_call, ep ∙ ap (λ c. cond (eqb c 0) Closed (Paying r)) (names_none r.tickets n))
claims_close (k ∷ ks) x l mk pos lt4 r h n ep =
    let e : bit r.tickets k ≡ 1 = first_member r.tickets k ks n in
    let hk : k < 64 = first_low r.tickets k ks n h in
    let some : eqb (count_of r.tickets) 0 ≡ false = ne_eqb (count_of r.tickets) 0 (λ q. omega (arith, count_removed r.tickets k hk e)) in
    let ep1 : phase x mk ≡ Paying r = ep ∙ ap (λ (q : Bool). cond q Closed (Paying r)) some in
    let v = reachable_inv l in
    let c : Claimed x mk k r.tickets = claim_taken x v.0 v.1 mk pos lt4 r ep1 k hk e in
    let rest =
    claims_close ks (step_of x (Call.Claim k)).exchange (after_call l (Call.Claim k)) mk pos lt4 c.left
    (rw c.tickets (removed_lt r.tickets k h)) (rw c.tickets (names_tail r.tickets k ks n)) c.phase_is in
    (next_call c.accepted rest.0, rest.1)

-- ---- the settle and the claims

-- the tickets of an auction's round are 64 bits
auction_tickets : (x : Exchange) (y : History) → Inv x y → (mk : ℕ) (r : Round) → phase x mk ≡ Auction r → r.tickets < 2 ^ 64
auction_tickets x y i mk r ep =
    let m : (0 < mk) × (mk < 4) = auction_market x i.sized mk r ep in
    let er : y.rounds mk ≡ running (log_of (y.rounds mk)) = running_is (phase x mk) (y.rounds mk) (ap is_closed ep) (i.markets mk m.0 m.1) in
    let ok : RoundOk auctioning r (log_of (y.rounds mk)) = subst₂ MarketOk ep er (i.markets mk m.0 m.1) in
    ok.marks_small

-- the settle, and then the claims
closed_after : (x : Exchange) → Reachable x → (mk at : ℕ) → Passed (settle_tests x mk at) → (ks : List ℕ) → Names (round_in (phase x mk)).tickets ks
    → BackToClosed x mk at ks
unfolding after_calls
closed_after x l mk at p ks n =
    let v = reachable_inv l in
    let z : Sized x = v.1.sized in
    let r : Round = round_in (phase x mk) in
    let m : (0 < mk) × (mk < 4) = settle_market x mk at z p in
    let small : r.tickets < 2 ^ 64 = auction_tickets x v.0 v.1 mk r (settle_auction x mk at z p) in
    let c =
    claims_close ks (step_of x (Call.Settle mk at)).exchange (after_call l (Call.Settle mk at)) mk m.0 m.1 r small n
    (settle_leaves x mk at z p) in
    record {
      accepted = next_call (settle_accepted x mk at z p) c.0;
      closed = c.1;
      at_most = omega (arith, length-map ks Call.Claim, names_length r.tickets ks small n, count_le r.tickets);
    }

pub winds_up : WindsUp
winds_up x l mk r ep at over late ks n =
    let m : (0 < mk) × (mk < 4) = auction_market x (reachable_inv l).1.sized mk r ep in
    closed_after x l mk at (settle_tests_lem x mk at r m.0 m.1 ep over late) ks
    (subst (λ (p : Phase). Names (round_in p).tickets ks) (sym ep) n)

pub settle_closes : SettleCloses
settle_closes x l mk at a b e ks n = closed_after x l mk at (accepted_passed x (Call.Settle mk at) a b e) ks n

-- ---- such a list is there

-- each of the n tickets from i on that is a member stands there once, and no other
times_members : (n i s j : ℕ) → (i ≤ j → j < i + n → times j (members_from n i s) ≡ bit s j) × (j < i → times j (members_from n i s) ≡ 0) × (i + n ≤ j → times j (members_from n i s) ≡ 0)
unfolding members_from times
times_members zero i s j = (λ l u. absurd (omega arith), λ u. refl, λ l. refl)
times_members (suc n) i s j = go (ℕ_discrete i j) (bit_cases s i) (times_members n (suc i) s j)
  where
    go : Dec (i ≡ j) → (bit s i ≡ 0) ⊎ (bit s i ≡ 1)
        → (suc i ≤ j → j < suc i + n → times j (members_from n (suc i) s) ≡ bit s j) × (j < suc i → times j (members_from n (suc i) s) ≡ 0) × (suc i + n ≤ j → times j (members_from n (suc i) s) ≡ 0)
        → (i ≤ j → j < i + suc n → times j (members_from (suc n) i s) ≡ bit s j) × (j < i → times j (members_from (suc n) i s) ≡ 0) × (i + suc n ≤ j → times j (members_from (suc n) i s) ≡ 0)
    go (yes e) (inl z) rec =
        let t : times j (members_from (suc n) i s) ≡ 0 = ap (times j) (members_there n i s z) ∙ rec.1 (omega arith) in
        (λ l u. omega (arith, t, z, ap (bit s) e), λ u. t, λ l. t)
    go (yes e) (inr o) rec =
        let t : times j (members_from (suc n) i s) ≡ 1 + times j (members_from n (suc i) s) =
        ap (times j) (members_here n i s o) ∙ subst (λ (k : ℕ). times k (i ∷ members_from n (suc i) s) ≡ 1 + times k (members_from n (suc i) s)) e (times_here i (members_from n (suc i) s)) in
        (λ l u. omega (arith, t, rec.1 (omega arith), o, ap (bit s) e), λ u. absurd (omega arith), λ l. absurd (omega arith))
    go (no d) (inl z) rec =
        let t : times j (members_from (suc n) i s) ≡ times j (members_from n (suc i) s) = ap (times j) (members_there n i s z) in
        (λ l u. t ∙ rec.0 (omega arith) (omega arith), λ u. t ∙ rec.1 (omega arith), λ l. t ∙ rec.2 (omega arith))
    go (no d) (inr o) rec =
        let t : times j (members_from (suc n) i s) ≡ times j (members_from n (suc i) s) =
        ap (times j) (members_here n i s o) ∙ times_there j i (members_from n (suc i) s) d in
        (λ l u. t ∙ rec.0 (omega arith) (omega arith), λ u. t ∙ rec.1 (omega arith), λ l. t ∙ rec.2 (omega arith))

-- the members are all
pub members_named : (s : ℕ) → s < 2 ^ 64 → Names s (members_of s)
unfolding members_of
members_named s h = record { each = λ k. go k (dec_lt k 64) }
  where
    go : (k : ℕ) → Dec (k < 64) → times k (members_from 64 0 s) ≡ bit s k
    go k (yes l) = (times_members 64 0 s k).0 (omega arith) (omega arith)
    go k (no d) = (times_members 64 0 s k).2 (omega arith) ∙ sym (bit_high s k h (omega arith))

-- at the last block accepted, or at the first block above start + L
pub can_close : CanClose
can_close x l known mk r ep small = go (dec_lt (r.start.0 + r.length) (last_block x))
  where
    named : Names r.tickets (members_of r.tickets)
    named = let v = reachable_inv l in members_named r.tickets (auction_tickets x v.0 v.1 mk r ep)

    go : Dec (r.start.0 + r.length < last_block x) → (at : ℕ) × (at ≤ largest) × (ks : List ℕ) × BackToClosed x mk at ks
    go (yes h) = (last_block x, known, members_of r.tickets, winds_up x l mk r ep (last_block x) h (omega arith) (members_of r.tickets) named)
    go (no d) =
        let at : ℕ = suc (r.start.0 + r.length) in
        (at, omega arith, members_of r.tickets, winds_up x l mk r ep at (omega arith) (omega arith) (members_of r.tickets) named)

-- ---- claim after claim, lowest first

-- a market that was settled, with the tickets s still marked
pub record Winding (x : Exchange) (market s : ℕ) : Type 0 where
  pub reachable : Reachable x
  pub low : 0 < market
  pub high : market < 4
  pub small : s < 2 ^ 64
  pub round : Round
  pub tickets : round.tickets ≡ s
  pub phase_is : phase x market ≡ settled_phase round

pub winding_settled : (x : Exchange) → Reachable x → (market at a b : ℕ) → (step_of x (Call.Settle market at)).answer ≡ Ok (a, b)
    → Winding (step_of x (Call.Settle market at)).exchange market (round_in (phase x market)).tickets
winding_settled x l mk at a b e =
    let v = reachable_inv l in
    let z : Sized x = v.1.sized in
    let p = accepted_passed x (Call.Settle mk at) a b e in
    let m = settle_market x mk at z p in
    record {
      reachable = after_call l (Call.Settle mk at);
      low = m.0;
      high = m.1;
      small = auction_tickets x v.0 v.1 mk (round_in (phase x mk)) (settle_auction x mk at z p);
      round = round_in (phase x mk);
      tickets = refl;
      phase_is = settle_leaves x mk at z p;
    }

-- the tickets that the state marks are these
settled_tickets : (r : Round) → r.tickets < 2 ^ 64 → (round_in (settled_phase r)).tickets ≡ r.tickets
settled_tickets r h = go (ℕ_discrete (count_of r.tickets) 0)
  where
    go : Dec (count_of r.tickets ≡ 0) → (round_in (settled_phase r)).tickets ≡ r.tickets
    go (yes e) = ap (λ (q : Bool). (round_in (cond q Closed (Paying r))).tickets) (eq-eqb (count_of r.tickets) 0 e) ∙ sym (count_none r.tickets h e)
    go (no d) = ap (λ (q : Bool). (round_in (cond q Closed (Paying r))).tickets) (ne_eqb (count_of r.tickets) 0 d)

module _ (x : Exchange) (market s : ℕ) (w : Winding x market s) where
  pub winding_tickets : (round_in (phase x market)).tickets ≡ s
  winding_tickets =
      ap (λ (p : Phase). (round_in p).tickets) w.phase_is
      ∙ settled_tickets w.round (subst (λ (t : ℕ). t < 2 ^ 64) (sym w.tickets) w.small)
      ∙ w.tickets

  -- the next one claimed
  pub winding_next : (k : ℕ) → next_of s ≡ Some k → Winding (step_of x (Call.Claim k)).exchange market (removed s k)
  winding_next k e =
      let n = next_taken s k e in
      let v = reachable_inv w.reachable in
      let some : eqb (count_of w.round.tickets) 0 ≡ false = ne_eqb (count_of w.round.tickets) 0 (λ q. omega (arith, n.2, q, ap count_of w.tickets)) in
      let ep : phase x market ≡ Paying w.round = w.phase_is ∙ ap (λ (q : Bool). cond q Closed (Paying w.round)) some in
      let c : Claimed x market k w.round.tickets =
      claim_taken x v.0 v.1 market w.low w.high w.round ep k n.0 (ap (λ (t : ℕ). bit t k) w.tickets ∙ n.1) in
      record {
        reachable = after_call w.reachable (Call.Claim k);
        low = w.low;
        high = w.high;
        small = removed_lt s k w.small;
        round = c.left;
        tickets = c.tickets ∙ ap (λ (t : ℕ). removed t k) w.tickets;
        phase_is = c.phase_is;
      }
