-- Laws of `digits`: the last digit and the digits before it.
use mathlib.Core.Path.{◌≡◌, refl, sym, ap, ◌∙◌}
use Prim.Native.Nat.{ℕ, zero, suc, ◌+◌, ◌/◌, ◌%◌, ◌≤◌, ◌<◌, ◌^◌}
use native.Mathlib.Omega.{arith}
use lib.Dec.{lit<}
use native.Mathlib.Nat.{div-one, div-lt_iff_lt-mul, le-div_iff_mul-le, div-div-eq-div-mul, mod-eq_of_lt, one-le-pow, pow-suc, pow-succ', not-suc-le-zero}
use mathlib.Core.List.{List, [], ◌∷◌, ◌++◌}
use lib.ListN.{length, length-append}
use Rattle.units.specs.Decimal.{leading, digits}

-- any bound that is large enough gives the same digits
fuel : (f g m : ℕ) → m ≤ f → m ≤ g → leading f m ≡ leading g m
fuel zero zero m p q = refl
fuel zero (suc g) zero p q = refl
fuel zero (suc g) (suc m) p q = absurd (not-suc-le-zero p)
fuel (suc f) zero zero p q = refl
fuel (suc f) zero (suc m) p q = absurd (not-suc-le-zero q)
fuel (suc f) (suc g) zero p q = refl
fuel (suc f) (suc g) (suc m) p q =
    ap (λ (l : List ℕ). l ++ ((48 + suc m % 10) ∷ [])) (fuel f g (suc m / 10) (omega arith) (omega arith))

-- the digits of m, none for 0
unfoldable pub lead : ℕ → List ℕ
lead m = leading m m

lead_zero : lead 0 ≡ []
unfolding lead
lead_zero = refl

pub lead_step : (m : ℕ) → 0 < m → lead m ≡ lead (m / 10) ++ ((48 + m % 10) ∷ [])
unfolding lead
lead_step zero h = absurd (not-suc-le-zero h)
lead_step (suc m) h =
    ap (λ (l : List ℕ). l ++ ((48 + suc m % 10) ∷ [])) (fuel m (suc m / 10) (suc m / 10) (omega arith) (omega arith))

pub digits_step : (n : ℕ) → digits n ≡ lead (n / 10) ++ ((48 + n % 10) ∷ [])
unfolding digits lead
digits_step n = ap (λ (l : List ℕ). l ++ ((48 + n % 10) ∷ [])) (fuel n (n / 10) (n / 10) (omega arith) (omega arith))

lead_digits : (m : ℕ) → 0 < m → lead m ≡ digits m
lead_digits m h = lead_step m h ∙ sym (digits_step m)

lead_length : (m : ℕ) → 0 < m → length (lead m) ≡ length (lead (m / 10)) + 1
lead_length m h = ap length (lead_step m h) ∙ length-append (lead (m / 10)) _

digits_length : (n : ℕ) → length (digits n) ≡ length (lead (n / 10)) + 1
digits_length n = ap length (digits_step n) ∙ length-append (lead (n / 10)) _

pub digits_some : (n : ℕ) → 0 < length (digits n)
digits_some n = omega (arith, digits_length n)

pub lead_none : (m : ℕ) → m ≤ 0 → lead m ≡ []
lead_none zero h = lead_zero
lead_none (suc m) h = absurd (not-suc-le-zero h)

-- one digit, and more
pub digits_one : (n : ℕ) → n ≤ 9 → digits n ≡ (48 + n) ∷ []
digits_one n h = digits_step n ∙ rw (lead_none (n / 10) (omega arith), mod-eq_of_lt {n = n} {m = 10} (omega arith))

pub digits_more : (n : ℕ) → 9 < n → digits n ≡ digits (n / 10) ++ ((48 + n % 10) ∷ [])
digits_more n h = digits_step n ∙ ap (λ (l : List ℕ). l ++ ((48 + n % 10) ∷ [])) (lead_digits (n / 10) (omega arith))

pub digits_longer : (n : ℕ) → 9 < n → length (digits n) ≡ length (digits (n / 10)) + 1
digits_longer n h = ap length (digits_more n h) ∙ length-append (digits (n / 10)) _

-- m below 10 to the k has at most k digits
lead_most : (k m : ℕ) → m < 10 ^ k → length (lead m) ≤ k
lead_most zero m h = omega (arith, ap length (lead_none m (omega arith)))
lead_most (suc k) zero h = omega (arith, ap length lead_zero)
lead_most (suc k) (suc m) h =
    let less : suc m / 10 < 10 ^ k = (div-lt_iff_lt-mul {k = 10} (lit< tt)).1 (rw pow-suc at h) in
    omega (arith, lead_length (suc m) (omega arith), lead_most k (suc m / 10) less)

pub digits_most : (k n : ℕ) → n < 10 ^ suc k → length (digits n) ≤ suc k
digits_most k n h = omega (arith, digits_length n, lead_most k (n / 10) ((div-lt_iff_lt-mul {k = 10} (lit< tt)).1 (rw pow-suc at h)))

-- n from 10 to the k on has more than k digits
digits_least : (k n : ℕ) → 10 ^ k ≤ n → k < length (digits n)
digits_least zero n h = omega (arith, digits_length n)
digits_least (suc k) n h =
    let more : 10 ^ k ≤ n / 10 = (le-div_iff_mul-le {k = 10} (lit< tt)).1 (rw pow-suc at h) in
    omega (arith, digits_longer n (omega (arith, more, one-le-pow k 10 (lit< tt))), digits_least k (n / 10) more)

-- n from 10 to the k on and below ten times that has k + 1 digits
pub digits_count : (k n : ℕ) → 10 ^ k ≤ n → n < 10 ^ suc k → length (digits n) ≡ suc k
digits_count k n low high = omega (arith, digits_least k n low, digits_most k n high)

-- n from 10 to the k on has k digits more than what is left of it without its last k
pub digits_before : (k n : ℕ) → 10 ^ k ≤ n → length (digits n) ≡ length (digits (n / 10 ^ k)) + k
digits_before zero n h = omega (arith, ap (λ (m : ℕ). length (digits m)) (div-one n))
digits_before (suc k) n h =
    let more : 10 ^ k ≤ n / 10 = (le-div_iff_mul-le {k = 10} (lit< tt)).1 (rw pow-suc at h) in
    let same : n / 10 / 10 ^ k ≡ n / 10 ^ suc k = div-div-eq-div-mul n 10 (10 ^ k) ∙ ap (λ (d : ℕ). n / d) (sym (pow-succ' 10 k)) in
    omega (
      arith,
      digits_longer n (omega (arith, more, one-le-pow k 10 (lit< tt))),
      digits_before k (n / 10) more,
      ap (λ (m : ℕ). length (digits m)) same,
    )

pub digits_bound : (n : ℕ) → n < 2 ^ 32 → length (digits n) ≤ 10
digits_bound n h = digits_most 9 n (omega arith)

-- the counts of digits that the writers meet
pub count_one : (n : ℕ) → n < 10 → length (digits n) ≡ 1
count_one n h = ap length (digits_one n (omega arith))

pub count_two : (n : ℕ) → 10 ≤ n → n < 100 → length (digits n) ≡ 2
count_two n low high = digits_count 1 n (omega arith) (omega arith)

pub count_three : (n : ℕ) → 100 ≤ n → n < 1000 → length (digits n) ≡ 3
count_three n low high = digits_count 2 n (omega arith) (omega arith)

pub count_four : (n : ℕ) → 1000 ≤ n → n < 10000 → length (digits n) ≡ 4
count_four n low high = digits_count 3 n (omega arith) (omega arith)

pub count_five : (n : ℕ) → 10000 ≤ n → n < 100000 → length (digits n) ≡ 5
count_five n low high = digits_count 4 n (omega arith) (omega arith)

pub count_six : (n : ℕ) → 100000 ≤ n → n < 1000000 → length (digits n) ≡ 6
count_six n low high = digits_count 5 n (omega arith) (omega arith)

pub count_seven : (n : ℕ) → 1000000 ≤ n → n < 10000000 → length (digits n) ≡ 7
count_seven n low high = digits_count 6 n (omega arith) (omega arith)

pub count_eight : (n : ℕ) → 10000000 ≤ n → n < 100000000 → length (digits n) ≡ 8
count_eight n low high = digits_count 7 n (omega arith) (omega arith)

pub count_nine : (n : ℕ) → 100000000 ≤ n → n < 1000000000 → length (digits n) ≡ 9
count_nine n low high = digits_count 8 n (omega arith) (omega arith)

pub count_ten : (n : ℕ) → 1000000000 ≤ n → n < 10000000000 → length (digits n) ≡ 10
count_ten n low high = digits_count 9 n (omega arith) (omega arith)

pub count_more : (n : ℕ) → 10000000000 ≤ n → length (digits n) ≡ length (digits (n / 10000000000)) + 10
count_more n h = digits_before 10 n (omega arith)

pub ruleset digit_counts = (count_one, count_two, count_three, count_four, count_five, count_six, count_seven, count_eight, count_nine, count_ten, count_more)
