-- The count of a set: what the crates above go by.
use mathlib.Core.Path.{◌≡◌, refl, sym, ap, ◌∙◌}
use mathlib.Core.Logic.{⊎_elim}
use Prim.Native.Nat.{ℕ, zero, suc, ◌+◌, ◌/◌, ◌%◌, ◌^◌, ◌≤◌, ◌<◌}
use native.Mathlib.Nat.{div-eq_of_lt, div-one, pow-suc, div-div-eq-div-mul, mul_comm, zero-div, lt_of_lt_of_le, pow-le-pow_right, zero-lt-suc}
use native.Mathlib.Decide.{ℕ_discrete}
use native.Mathlib.Omega.{arith}
use lib.Arith.{bin_ind}
use lib.Count.{ones, ones_step}
use Rattle.units.specs.Sums.{sum_to}
use Rattle.units.proofs.Sums.{sum_at, sum_at_most, sum_zero, zero_terms}
use Rattle.ticket_set.specs.TicketSet.{bit, removed, count_of}
use Rattle.ticket_set.proofs.Bits.{bit_cases, bit_lt, bit_removed_same, bit_removed_other}

-- ---- the machine's count is the sum of the bits

ones_sum : (k m : ℕ) → ones m ≡ sum_to k (bit m) + ones (m / 2 ^ k)
unfolding sum_to bit
ones_sum zero m = rw div-one (omega arith)
ones_sum (suc k) m =
    let e : m / 2 ^ k / 2 ≡ m / 2 ^ suc k = div-div-eq-div-mul m (2 ^ k) 2 ∙ ap (λ (x : ℕ). m / x) (sym (pow-suc 2 k)) in
    let s : ones (m / 2 ^ k) ≡ m / 2 ^ k % 2 + ones (m / 2 ^ suc k) = ones_step (m / 2 ^ k) ∙ ap (λ (x : ℕ). m / 2 ^ k % 2 + ones x) e in
    omega (arith, ones_sum k m)

pub ones_count : (m : ℕ) → m < 2 ^ 64 → ones m ≡ count_of m
unfolding count_of ones
ones_count m h = ones_sum 64 m ∙ rw (div-eq_of_lt h) (omega arith)

ones_none : (m : ℕ) → ones m ≡ 0 → m ≡ 0
ones_none = bin_ind (λ (n : ℕ). ones n ≡ 0 → n ≡ 0) (λ _. refl) (λ n ih e. let z : n / 2 ≡ 0 = ih (omega (arith, ones_step n)) in omega (arith, ones_step n))

-- ---- the count

pub count_removed : (m i : ℕ) → i < 64 → bit m i ≡ 1 → count_of (removed m i) + 1 ≡ count_of m
unfolding count_of
count_removed m i l e =
    omega (arith, sum_at 64 i (bit m) (bit (removed m i)) l (λ j _ n. bit_removed_other m i j n), bit_removed_same m i)

pub count_le : (m : ℕ) → count_of m ≤ 64
unfolding count_of
count_le m = omega (arith, sum_at_most 64 1 (bit m) (λ j. omega (arith, bit_lt m j)))

pub count_none : (m : ℕ) → m < 2 ^ 64 → count_of m ≡ 0 → m ≡ 0
count_none m h e = ones_none m (ones_count m h ∙ e)

pub bit_of_empty : (i : ℕ) → bit 0 i ≡ 0
unfolding bit
bit_of_empty i = rw (zero-div (2 ^ i))

-- no member from 64 on
pub bit_high : (m i : ℕ) → m < 2 ^ 64 → 64 ≤ i → bit m i ≡ 0
unfolding bit
bit_high m i h l = rw (div-eq_of_lt (lt_of_lt_of_le h (pow-le-pow_right (zero-lt-suc 1) l)))

pub count_of_empty : count_of 0 ≡ 0
unfolding count_of
count_of_empty = sum_zero 64 (bit 0) (λ j l. bit_of_empty j)

pub none_member : (m : ℕ) → m < 2 ^ 64 → ((i : ℕ) → i < 64 → bit m i ≡ 0) → m ≡ 0
unfolding count_of
none_member m h z = count_none m h (sum_zero 64 (bit m) z)

pub none_counted : (m : ℕ) → count_of m ≡ 0 → (i : ℕ) → i < 64 → bit m i ≡ 0
unfolding count_of
none_counted m e = zero_terms 64 (bit m) e

-- ---- the bits fix the set

bit_first : (m : ℕ) → bit m 0 ≡ m % 2
unfolding bit
bit_first m = ap (λ (x : ℕ). x % 2) (div-one m)

bit_next : (m k : ℕ) → bit (m / 2) k ≡ bit m (suc k)
unfolding bit
bit_next m k = ap (λ (x : ℕ). x % 2) (div-div-eq-div-mul m 2 (2 ^ k) ∙ ap (λ (x : ℕ). m / x) (mul_comm 2 (2 ^ k) ∙ sym (pow-suc 2 k)))

pub no_bits : (m : ℕ) → ((k : ℕ) → bit m k ≡ 0) → m ≡ 0
no_bits =
    bin_ind (λ (n : ℕ). ((k : ℕ) → bit n k ≡ 0) → n ≡ 0) (λ _. refl)
    (λ n ih h. let z : n / 2 ≡ 0 = ih (λ k. bit_next n k ∙ h (suc k)) in omega (arith, sym (bit_first n) ∙ h 0))

-- two sets with the same bits are one
pub bits_fix : (m n : ℕ) → ((k : ℕ) → bit m k ≡ bit n k) → m ≡ n
bits_fix =
    bin_ind (λ (m : ℕ). (n : ℕ) → ((k : ℕ) → bit m k ≡ bit n k) → m ≡ n) (λ n h. sym (no_bits n (λ k. sym (h k) ∙ bit_of_empty k)))
    (λ m ih n h.
    let half : m / 2 ≡ n / 2 = ih (n / 2) (λ k. bit_next m k ∙ h (suc k) ∙ sym (bit_next n k)) in
    let last : m % 2 ≡ n % 2 = sym (bit_first m) ∙ h 0 ∙ bit_first n in
    omega arith)

-- a set is empty, or has a bit
some_bit : (m : ℕ) → (m ≡ 0 → ⊥) → (k : ℕ) × (bit m k ≡ 1)
some_bit =
    bin_ind (λ (m : ℕ). (m ≡ 0 → ⊥) → (k : ℕ) × (bit m k ≡ 1)) (λ h. absurd (h refl))
    (λ m ih h.
    ⊎_elim
    (λ (e : bit m 0 ≡ 0).
    let f = ih (λ z. h (omega (arith, z, sym (bit_first m) ∙ e))) in
    (suc f.0, sym (bit_next m f.0) ∙ f.1))
    (λ (e : bit m 0 ≡ 1). (0, e))
    (bit_cases m 0))

pub by_bits : {A : Type 0} (m : ℕ) → (((k : ℕ) → bit m k ≡ 0) → A) → ((k : ℕ) → bit m k ≡ 1 → A) → A
by_bits {A} m f g = go (ℕ_discrete m 0)
  where
    go : Dec (m ≡ 0) → A
    go (yes e) = f (λ k. ap (λ (v : ℕ). bit v k) e ∙ bit_of_empty k)
    go (no n) = let b = some_bit m n in g b.0 b.1

-- the count tells which
pub no_bits_counted : (m : ℕ) → ((k : ℕ) → bit m k ≡ 0) → count_of m ≡ 0
no_bits_counted m h = ap count_of (no_bits m h) ∙ count_of_empty

pub bit_counted : (m k : ℕ) → m < 2 ^ 64 → bit m k ≡ 1 → count_of m ≡ 0 → ⊥
bit_counted m k l e z =
    omega (arith, sym e ∙ ap (λ (v : ℕ). bit v k) (count_none m l z) ∙ bit_of_empty k)
