-- The share law for one side of a round in history: its offers are a list, and sums over the 64 tickets are sums over that list.
use Prim.Native.Nat.{◌+◌, ◌<◌, ◌≤◌, suc, zero, ℕ}
use mathlib.Core.List.{List, [], ◌∷◌}
use mathlib.Core.Logic.{◌⊎◌, inl, inr}
use mathlib.Core.Path.{◌∙◌, ◌≡◌, ap, refl, sym}
use native.Mathlib.Nat.{eq-zero-or-pos}
use native.Mathlib.Omega.{arith}
use lib.ListN.{length}
use Rattle.model.specs.History.{G, P, Part, RoundLog, T, absent, claimed, is_ticket, offer_on, waiting, when_same}
use Rattle.model.specs.Sides.{other}
use Rattle.pricing.specs.Prices.{share_got, share_paid}
use Rattle.pricing.specs.declared.Side.{Side}
use Rattle.pricing.specs.declared.Side.TheVariants.{Buy, Sell}
use Rattle.units.specs.Sums.{sum_over, sum_to}
use Rattle.pricing.proofs.Shares.{got_none, paid_none, share_law}
use Rattle.units.proofs.Sums.{sum_zero, zero_terms}

-- whether a part is a ticket of side x: 1 or 0
abbrev pub on : Side → Part → ℕ
on x absent = 0
on x (waiting terms o) = when_same x terms.side 1
on x (claimed terms o s got) = when_same x terms.side 1

same_both : (x z : Side) → when_same x z 1 + when_same (other x) z 1 ≡ 1
same_both Buy Buy = refl
same_both Buy Sell = refl
same_both Sell Buy = refl
same_both Sell Sell = refl

pub on_both : (x : Side) (q : Part) → on x q + on (other x) q ≡ is_ticket q
on_both x absent = refl
on_both x (waiting terms o) = same_both x terms.side
on_both x (claimed terms o s got) = same_both x terms.side

on_le : (x : Side) (q : Part) → on x q ≤ 1
on_le x absent = omega arith
on_le x (waiting terms o) = omega (arith, same_both x terms.side)
on_le x (claimed terms o s got) = omega (arith, same_both x terms.side)

-- an offer in front of a list, n times: once or not at all
abbrev offers : ℕ → ℕ → List ℕ → List ℕ
offers zero o os = os
offers (suc n) o os = o ∷ os

-- the offers of a side's tickets below n
unfoldable pub offers_to : ℕ → Side → (ℕ → Part) → List ℕ
offers_to zero x f = []
offers_to (suc n) x f = offers (on x (f n)) (offer_on x (f n)) (offers_to n x f)

-- a part's own term is that of its offer, where it is on the side, and that of 0 where it is not
module _ (F : ℕ → ℕ) (z : F 0 ≡ 0) (os : List ℕ) where
  term_on : (x side : Side) (o : ℕ) → sum_over F os + F (when_same x side o) ≡ sum_over F (offers (when_same x side 1) (when_same x side o) os)
  unfolding sum_over
  term_on Buy Buy o = omega arith
  term_on Buy Sell o = omega (arith, z)
  term_on Sell Buy o = omega (arith, z)
  term_on Sell Sell o = omega arith

  term_of : (x : Side) (q : Part) → sum_over F os + F (offer_on x q) ≡ sum_over F (offers (on x q) (offer_on x q) os)
  term_of x absent = omega (arith, z)
  term_of x (waiting terms o) = term_on x terms.side o
  term_of x (claimed terms o s got) = term_on x terms.side o

pub sum_offers : (F : ℕ → ℕ) → F 0 ≡ 0 → (n : ℕ) (x : Side) (f : ℕ → Part) → sum_to n (λ k. F (offer_on x (f k))) ≡ sum_over F (offers_to n x f)
unfolding sum_to offers_to sum_over
sum_offers F z zero x f = refl
sum_offers F z (suc n) x f =
    omega (arith, sum_offers F z n x f, term_of F z (offers_to n x f) x (f n))

count_one : (n o : ℕ) (os : List ℕ) → n ≤ 1 → length os + n ≡ length (offers n o os)
count_one zero o os l = omega arith
count_one (suc n) o os l = omega arith

count_offers : (n : ℕ) (x : Side) (f : ℕ → Part) → sum_to n (λ k. on x (f k)) ≡ length (offers_to n x f)
unfolding sum_to offers_to
count_offers zero x f = refl
count_offers (suc n) x f = omega (arith, count_offers n x f, count_one (on x (f n)) (offer_on x (f n)) (offers_to n x f) (on_le x (f n)))

-- ---- one side of a round

-- what the side's tickets pay and get together, and how many they are
unfoldable pub paid_sum : RoundLog → Side → ℕ
paid_sum b x = sum_to 64 (λ k. share_paid (offer_on x (b.part k)) (P b x) (T b x))

unfoldable pub got_sum : RoundLog → Side → ℕ
got_sum b x = sum_to 64 (λ k. share_got (offer_on x (b.part k)) (G b x) (T b x))

unfoldable pub count_on : RoundLog → Side → ℕ
count_on b x = sum_to 64 (λ k. on x (b.part k))

pub record SideLaw (b : RoundLog) (x : Side) : Type 0 where
  pub paid_enough : P b x ≤ paid_sum b x
  pub paid_close : 0 < count_on b x → paid_sum b x < P b x + count_on b x
  pub none_paid : count_on b x ≡ 0 → paid_sum b x ≡ 0
  pub got_within : got_sum b x ≤ G b x
  pub got_close : 0 < count_on b x → G b x < got_sum b x + count_on b x
  pub none_got : count_on b x ≡ 0 → G b x ≡ 0

module _ (b : RoundLog) (x : Side) where
  os : List ℕ
  os = offers_to 64 x b.part

  paid_list : paid_sum b x ≡ sum_over (λ o. share_paid o (P b x) (T b x)) os
  unfolding paid_sum os
  paid_list = sum_offers (λ o. share_paid o (P b x) (T b x)) (paid_none (P b x) (T b x)) 64 x b.part

  got_list : got_sum b x ≡ sum_over (λ o. share_got o (G b x) (T b x)) os
  unfolding got_sum os
  got_list = sum_offers (λ o. share_got o (G b x) (T b x)) (got_none (G b x) (T b x)) 64 x b.part

  total_list : sum_over (λ o. o) os ≡ T b x
  unfolding os
  total_list = sym (sum_offers (λ o. o) refl 64 x b.part)

  count_list : count_on b x ≡ length os
  unfolding count_on os
  count_list = count_offers 64 x b.part

  -- no tickets, no offers
  none_total : count_on b x ≡ 0 → T b x ≡ 0
  unfolding sum_over
  none_total e = sym total_list ∙ empty os (sym count_list ∙ e)
    where
      empty : (l : List ℕ) → length l ≡ 0 → sum_over (λ o. o) l ≡ 0
      empty [] z = refl
      empty (o ∷ l) z = absurd (omega arith)

  -- without offers nobody pays and nobody gets
  nought_paid : T b x ≡ 0 → paid_sum b x ≡ 0
  unfolding paid_sum
  nought_paid e =
      sum_zero 64 _ (λ k l. ap (λ o. share_paid o (P b x) (T b x)) (zero_terms 64 (λ j. offer_on x (b.part j)) e k l) ∙ paid_none (P b x) (T b x))

  nought_got : T b x ≡ 0 → got_sum b x ≡ 0
  unfolding got_sum
  nought_got e =
      sum_zero 64 _ (λ k l. ap (λ o. share_got o (G b x) (T b x)) (zero_terms 64 (λ j. offer_on x (b.part j)) e k l) ∙ got_none (G b x) (T b x))

  pub side_law : P b x ≤ T b x → (T b x ≡ 0 → G b x ≡ 0) → SideLaw b x
  side_law within empty = go (eq-zero-or-pos (T b x))
    where
      go : (T b x ≡ 0) ⊎ (0 < T b x) → SideLaw b x
      go (inl z) =
          record {
            paid_enough = omega (arith, nought_paid z);
            paid_close = λ c. omega (arith, nought_paid z);
            none_paid = λ c. nought_paid z;
            got_within = omega (arith, nought_got z);
            got_close = λ c. omega (arith, nought_got z, empty z);
            none_got = λ c. empty z;
          }
      go (inr p) =
          let w = share_law (T b x) (P b x) (G b x) os p total_list in
          record {
            paid_enough = omega (arith, paid_list, w.paid_enough);
            paid_close = λ c. omega (arith, paid_list, count_list, w.paid_close (omega (arith, count_list)));
            none_paid = λ c. absurd (omega (arith, none_total c));
            got_within = omega (arith, got_list, w.got_within);
            got_close = λ c. omega (arith, got_list, count_list, w.got_close (omega (arith, count_list)));
            none_got = λ c. absurd (omega (arith, none_total c));
          }
