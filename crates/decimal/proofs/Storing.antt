-- The number writers' loop: digits are stored from the right end on, each where it stays.
use mathlib.Core.Path.{◌≡◌, refl, sym, ap, ◌∙◌}
use Prim.Native.Nat.{ℕ, ◌+◌, ◌-◌, ◌*◌, ◌/◌, ◌%◌, ◌≤◌, ◌<◌}
use native.Mathlib.Omega.{arith}
use mathlib.Core.List.{List, [], ◌∷◌, ◌++◌}
use lib.ListN.{length, drop, set, length-set}
use Rattle.units.specs.Decimal.{digits}
use Rattle.units.proofs.Cases.{by_order}
use Rattle.decimal.specs.Buffer.{put_at}
use Rattle.decimal.proofs.Digits.{digits_some, digits_one, digits_more, digits_longer}
use Rattle.decimal.proofs.Put.{put_start, joins}

-- of n, written at the start of the part entry, the digits of m are still to be stored: they end where i is, and out is the part by now
pub record Storing (entry : List ℕ) (n : ℕ) (out : List ℕ) (i m : ℕ) : Type 0 where
  pub text : digits m ++ drop i out ≡ put_at entry 0 (digits n)
  pub place : length (digits m) ≡ i
  pub room : i ≤ length out
  pub size : length out ≡ length entry

-- at first all are
pub storing_all : (entry : List ℕ) (n k : ℕ) → k ≡ length (digits n) → length (digits n) ≤ length entry → Storing entry n entry k n
storing_all entry n k e h =
    record {
      text = ap (λ (j : ℕ). digits n ++ drop j entry) e ∙ sym (put_start entry (digits n));
      place = sym e;
      room = omega arith;
      size = refl;
    }

module _ {entry : List ℕ} {n : ℕ} {out : List ℕ} {i m : ℕ} (s : Storing entry n out i m) where
  pub storing_place : 0 < i
  storing_place = omega (arith, digits_some m, s.place)

  -- two digits are left, or one
  storing_more : 1 < i → 9 < m
  storing_more h = by_order 9 m (λ more. more) (λ less. absurd (omega (arith, ap length (digits_one m less), s.place)))

  pub storing_less : i ≤ 1 → m ≤ 9
  storing_less h = by_order 9 m (λ more. absurd (omega (arith, digits_longer m more, digits_some (m / 10), s.place))) (λ less. less)

  -- a turn: the last digit is stored before those that are
  pub storing_next : 9 < m → Storing entry n (set out (i - 1) (48 + (m - m / 10 * 10))) (i - 1) (m / 10)
  storing_next h =
      let digit : ℕ = 48 + (m - m / 10 * 10) in
      let is : digit ≡ 48 + m % 10 = omega arith in
      let l : length (digits m) ≡ length (digits (m / 10)) + 1 = digits_longer m h in
      record {
        text =
            joins (digits (m / 10)) out (i - 1) i digit (omega (arith, l, s.place)) (omega (arith, l, s.place, s.room))
            ∙ ap (λ (a : ℕ). (digits (m / 10) ++ (a ∷ [])) ++ drop i out) is
            ∙ ap (λ (d : List ℕ). d ++ drop i out) (sym (digits_more m h))
            ∙ s.text;
        place = omega (arith, l, s.place);
        room = omega (arith, length-set out (i - 1) digit, s.room);
        size = length-set out (i - 1) digit ∙ s.size;
      }

  pub storing_next_by : 1 < i → Storing entry n (set out (i - 1) (48 + (m - m / 10 * 10))) (i - 1) (m / 10)
  storing_next_by two = storing_next (storing_more two)

  -- the digits that are left, written at the start
  pub storing_rest : put_at out 0 (digits m) ≡ put_at entry 0 (digits n)
  storing_rest = put_start out (digits m) ∙ ap (λ (j : ℕ). digits m ++ drop j out) s.place ∙ s.text

  -- one digit that is left, stored at the start
  pub storing_one : m ≤ 9 → set out 0 (48 + m) ≡ put_at entry 0 (digits n)
  storing_one h =
      let one : digits m ≡ (48 + m) ∷ [] = digits_one m h in
      let l : length (digits m) ≡ 1 = ap length one in
      joins [] out 0 i (48 + m) (omega (arith, l, s.place)) (omega (arith, l, s.place, s.room))
      ∙ ap (λ (d : List ℕ). d ++ drop i out) (sym one)
      ∙ s.text

  pub storing_one_by : i ≤ 1 → set out 0 (48 + m) ≡ put_at entry 0 (digits n)
  storing_one_by h = storing_one (storing_less h)

-- what the loop needs
pub ruleset storings = (storing_all, storing_place, storing_less, storing_next_by, storing_one_by)
