-- The bits of a set under the machine's operations, and under `inserted` and `removed`.
use mathlib.Core.Path.{◌≡◌, refl, sym, ap, ◌∙◌, subst}
use mathlib.Core.Bool.{true, false}
use mathlib.Core.Logic.{◌⊎◌, inl, inr, ⊎_elim}
use Prim.Native.Nat.{ℕ, zero, suc, ◌+◌, ◌-◌, ◌*◌, ◌/◌, ◌%◌, ◌^◌, ◌≤◌, ◌<◌, max}
use native.Mathlib.Nat.{mod-lt, one-mul, div-eq_of_lt, mul-div_cancel, mul-mod_left, add-div_right, div_self, pow-suc, zero-lt-suc}
use native.Mathlib.Decide.{dec_lt}
use native.Mathlib.Omega.{arith}
use lib.Dec.{lit<}
use lib.Arith.{digits_mod}
use lib.Pow.{pow_pos, pow-lt, pow-add, shl_exact}
use lib.Bits.{bit_and, bit_or, or_step, or_shr, or_add_and, or_lt, and_comm, and_high, and_le_l}
use Rattle.std.proofs.lemmas.Nat.{and-not}
use borrow.Author.Tests.{eqb-true, eqb-false}
use Rattle.ticket_set.specs.TicketSet.{bit, has_ticket, inserted, removed}

pub bit_lt : (m i : ℕ) → bit m i < 2
unfolding bit
bit_lt m i = mod-lt (m / 2 ^ i) (zero-lt-suc 1)

pub bit_cases : (m i : ℕ) → (bit m i ≡ 0) ⊎ (bit m i ≡ 1)
bit_cases m i = go (bit m i) (bit_lt m i)
  where
    go : (b : ℕ) → b < 2 → (b ≡ 0) ⊎ (b ≡ 1)
    go zero h = inl refl
    go (suc zero) h = inr refl
    go (suc (suc b)) h = absurd (omega arith)

-- what the test says
pub has_true : (m i : ℕ) → has_ticket m i ≡ true → bit m i ≡ 1
has_true m i e = eqb-true (bit m i) 1 e

pub has_false : (m i : ℕ) → has_ticket m i ≡ false → bit m i ≡ 0
has_false m i e = ⊎_elim (λ z. z) (λ (o : bit m i ≡ 1). absurd (eqb-false (bit m i) 1 e o)) (bit_cases m i)

-- ---- the machine's operations with a single bit

-- `1 << i` loses nothing
pub one_shl : (i : ℕ) → i < 64 → (1 * 2 ^ i) % 2 ^ 64 ≡ 2 ^ i
one_shl i h = shl_exact 1 i 64 (lit< tt) (omega arith) ∙ one-mul (2 ^ i)

pub and_bit : (m i : ℕ) → bit_and m (2 ^ i) ≡ bit m i * 2 ^ i
unfolding bit
and_bit m i =
    let e : 2 ^ (1 + i) - 2 ^ i ≡ 2 ^ i = omega (arith, pow-add 2 1 i) in
    rw e at (and_high m 1 i)

pub or_bit : (m i : ℕ) → bit_or m (2 ^ i) ≡ inserted m i
unfolding inserted
or_bit m i = go (bit m i) (bit_lt m i) (and_bit m i)
  where
    go : (b : ℕ) → b < 2 → bit_and m (2 ^ i) ≡ b * 2 ^ i → bit_or m (2 ^ i) ≡ m + (1 - b) * 2 ^ i
    go zero h e = omega (arith, or_add_and m (2 ^ i))
    go (suc zero) h e = omega (arith, or_add_and m (2 ^ i))
    go (suc (suc b)) h e = absurd (omega arith)

pub or_shl : (m i : ℕ) → i < 64 → bit_or m (1 * 2 ^ i % 2 ^ 64) ≡ inserted m i
or_shl m i h = rw (one_shl i h) (or_bit m i)

-- `m & !(1 << i)`
pub and_not_shl : (m i : ℕ) → m < 2 ^ 64 → i < 64 → bit_and m (2 ^ 64 - 1 - 1 * 2 ^ i % 2 ^ 64) ≡ removed m i
unfolding removed
and_not_shl m i h g =
    rw (one_shl i g) (
    omega (arith, and-not 64 (2 ^ i) m (pow-lt g) h, and_comm (2 ^ 64 - 1 - 2 ^ i) m, and_comm (2 ^ i) m, and_bit m i)
    )

-- ---- the bits after an insert

pub bit_or_lem : (a b j : ℕ) → bit (bit_or a b) j ≡ max (bit a j) (bit b j)
unfolding bit
bit_or_lem a b j =
    let h : max (a / 2 ^ j % 2) (b / 2 ^ j % 2) < 2 = omega arith in
    ap (λ (x : ℕ). x % 2) (or_shr a b j ∙ or_step (a / 2 ^ j) (b / 2 ^ j)) ∙ digits_mod (bit_or (a / 2 ^ j / 2) (b / 2 ^ j / 2)) h

pub bit_same : (i : ℕ) → bit (2 ^ i) i ≡ 1
unfolding bit
bit_same i = ap (λ (x : ℕ). x % 2) (div_self (pow_pos i))

bit_above : (i j : ℕ) → i < j → bit (2 ^ i) j ≡ 0
unfolding bit
bit_above i j h = ap (λ (x : ℕ). x % 2) (div-eq_of_lt (pow-lt h))

bit_below : (j d : ℕ) → bit (2 ^ (suc d + j)) j ≡ 0
unfolding bit
bit_below j d =
    ap (λ (x : ℕ). x / 2 ^ j % 2) (pow-add 2 (suc d) j) ∙ ap (λ (x : ℕ). x % 2) (mul-div_cancel (2 ^ suc d) (pow_pos j))
    ∙ ap (λ (x : ℕ). x % 2) (pow-suc 2 d) ∙ mul-mod_left (2 ^ d) 2

pub bit_other : (i j : ℕ) → (j ≡ i → ⊥) → bit (2 ^ i) j ≡ 0
bit_other i j n = go (dec_lt i j)
  where
    go : Dec (i < j) → bit (2 ^ i) j ≡ 0
    go (yes h) = bit_above i j h
    go (no h) =
        let e : suc (i - suc j) + j ≡ i = omega arith in
        subst (λ (x : ℕ). bit (2 ^ x) j ≡ 0) e (bit_below j (i - suc j))

pub bit_inserted_same : (m i : ℕ) → bit (inserted m i) i ≡ 1
bit_inserted_same m i =
    let e : bit (inserted m i) i ≡ max (bit m i) (bit (2 ^ i) i) = ap (λ (x : ℕ). bit x i) (sym (or_bit m i)) ∙ bit_or_lem m (2 ^ i) i in
    omega (arith, bit_lt m i, bit_same i)

pub bit_inserted_other : (m i j : ℕ) → (j ≡ i → ⊥) → bit (inserted m i) j ≡ bit m j
bit_inserted_other m i j n =
    let e : bit (inserted m i) j ≡ max (bit m j) (bit (2 ^ i) j) = ap (λ (x : ℕ). bit x j) (sym (or_bit m i)) ∙ bit_or_lem m (2 ^ i) j in
    omega (arith, bit_other i j n)

-- ---- the bits after a remove: where bit i was set, inserting it again gives m back

-- a set bit is no more than the set
pub bit_le : (m i : ℕ) → bit m i * 2 ^ i ≤ m
bit_le m i = rw (← and_bit m i) (and_le_l m (2 ^ i))

-- take a set bit off: it is clear, and setting it again gives m
module _ (m i : ℕ) (set : bit m i ≡ 1) where
  back : (m - 2 ^ i) + 2 ^ i ≡ m
  back = omega (arith, rw set at (bit_le m i))

  bit_cleared : bit (m - 2 ^ i) i ≡ 0
  unfolding bit
  bit_cleared =
      let e : m / 2 ^ i ≡ (m - 2 ^ i) / 2 ^ i + 1 = ap (λ (x : ℕ). x / 2 ^ i) (sym back) ∙ add-div_right (m - 2 ^ i) (pow_pos i) in
      omega (arith, set)

  inserted_back : inserted (m - 2 ^ i) i ≡ m
  unfolding inserted
  inserted_back = rw bit_cleared (omega (arith, back))

  removed_is : removed m i ≡ m - 2 ^ i
  unfolding removed
  removed_is = rw set (omega arith)

-- and a clear bit changes nothing
removed_clear : (m i : ℕ) → bit m i ≡ 0 → removed m i ≡ m
unfolding removed
removed_clear m i e = rw e (omega arith)

pub bit_removed_same : (m i : ℕ) → bit (removed m i) i ≡ 0
bit_removed_same m i =
    ⊎_elim (λ (e : bit m i ≡ 0). rw (removed_clear m i e) e) (λ (e : bit m i ≡ 1). rw (removed_is m i e) (bit_cleared m i e)) (bit_cases m i)

pub bit_removed_other : (m i j : ℕ) → (j ≡ i → ⊥) → bit (removed m i) j ≡ bit m j
bit_removed_other m i j n =
    ⊎_elim (λ (e : bit m i ≡ 0). rw (removed_clear m i e)) (λ (e : bit m i ≡ 1).
    rw (removed_is m i e) (sym (bit_inserted_other (m - 2 ^ i) i j n) ∙ ap (λ (x : ℕ). bit x j) (inserted_back m i e))) (bit_cases m i)

-- inserting what is not there and removing it gives the set back, and so do removing what is there and inserting it
pub removed_inserted : (m i : ℕ) → bit m i ≡ 0 → removed (inserted m i) i ≡ m
unfolding inserted
removed_inserted m i clear =
    let e : inserted m i ≡ m + 2 ^ i = rw clear (omega arith) in
    removed_is (inserted m i) i (bit_inserted_same m i) ∙ omega (arith, e)

pub inserted_removed : (m i : ℕ) → bit m i ≡ 1 → inserted (removed m i) i ≡ m
inserted_removed m i set = ap (λ (x : ℕ). inserted x i) (removed_is m i set) ∙ inserted_back m i set

-- both stay sets of 64 tickets
pub inserted_lt : (m i : ℕ) → m < 2 ^ 64 → i < 64 → inserted m i < 2 ^ 64
inserted_lt m i h g = rw (← or_bit m i) (or_lt 64 m (2 ^ i) h (pow-lt g))

pub removed_lt : (m i : ℕ) → m < 2 ^ 64 → removed m i < 2 ^ 64
unfolding removed
removed_lt m i h = omega arith
