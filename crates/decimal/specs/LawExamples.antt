-- L3's statements in numbers: what they give, which writings they take and which they refuse, of the numbers 0 and 10 and of a longest one.
use Rattle.std.specs.Prelude.{◌≡◌, ℕ, ◌≤◌, List, [], ◌∷◌, length, take, drop}
use Rattle.units.specs.Decimal.{digits}
use Rattle.decimal.specs.Numbers.{NumberPut, NumbersPut, PutAlone, NumberBounded}
use Rattle.decimal.specs.Examples.{hashes}

-- ---- what they give

pub record LawsUsed : Type 0 where
  -- two bytes are enough for 10, one is not; of three the last stays
  pub just_fits : (used : ℕ) (after : List ℕ) → NumberPut 10 (hashes 2) used after → (used ≡ 2) × (take used after ≡ 49 ∷ 48 ∷ [])
  pub too_short : (used : ℕ) (after : List ℕ) → NumberPut 10 (hashes 1) used after → used ≡ 0
  pub one_more : (used : ℕ) (after : List ℕ) → NumberPut 10 (hashes 3) used after → (used ≡ 2) × (drop 2 after ≡ 35 ∷ [])
  -- bytes that differ
  pub given : NumbersPut → NumberPut 10 (1 ∷ 2 ∷ 3 ∷ 4 ∷ []) 2 (49 ∷ 48 ∷ 3 ∷ 4 ∷ [])
  pub alone : PutAlone → (used : ℕ) (after : List ℕ) → NumberPut 10 (1 ∷ 2 ∷ 3 ∷ 4 ∷ []) used after → (used ≡ 2) × (after ≡ 49 ∷ 48 ∷ 3 ∷ 4 ∷ [])
  -- a number has a digit, and no more than are said
  pub a_digit : (n : ℕ) → NumberBounded n 10 → 1 ≤ length (digits n)
  pub ten_digits : (n : ℕ) → NumberBounded n 10 → length (digits n) ≤ 10

-- ---- which writings they take

pub record LawsMet : Type 0 where
  pub zero : NumberPut 0 (hashes 1) 1 (48 ∷ [])  -- 0
  pub zero_nowhere : NumberPut 0 [] 0 []
  pub exact : NumberPut 10 (hashes 2) 2 (49 ∷ 48 ∷ [])  -- 10
  pub more : NumberPut 10 (hashes 3) 2 (49 ∷ 48 ∷ 35 ∷ [])  -- 10#
  pub less : NumberPut 10 (hashes 1) 0 (35 ∷ [])  -- #

-- ---- which they refuse

pub record LawsRefused : Type 0 where
  -- the exact part turned away, and the one that is longer
  pub turned_away : NumberPut 10 (hashes 2) 0 (hashes 2) → ⊥
  pub longer_away : NumberPut 10 (hashes 3) 0 (hashes 3) → ⊥
  -- a byte after the digits set, or cut off
  pub byte_after : NumberPut 10 (hashes 3) 2 (49 ∷ 48 ∷ 10 ∷ []) → ⊥
  pub byte_gone : NumberPut 10 (hashes 3) 2 (49 ∷ 48 ∷ []) → ⊥
  -- one digit too few, too many, and another
  pub few_digits : NumberPut 10 (hashes 2) 1 (49 ∷ 35 ∷ []) → ⊥
  pub many_digits : NumberPut 10 (hashes 3) 3 (48 ∷ 49 ∷ 48 ∷ []) → ⊥
  pub untrue_count : NumberPut 10 (hashes 2) 3 (49 ∷ 48 ∷ []) → ⊥
  pub other_digit : NumberPut 10 (hashes 2) 2 (49 ∷ 49 ∷ []) → ⊥
  -- where the part is too short: what fits of the number, told and not told
  pub part_told : NumberPut 10 (hashes 1) 1 (49 ∷ []) → ⊥
  pub part_untold : NumberPut 10 (hashes 1) 0 (49 ∷ []) → ⊥
  -- the first digit of a longest number lost, and the count of its digits told or not
  pub first_lost : NumberPut 18446744073709551615 (hashes 20) 19 (56 ∷ 52 ∷ 52 ∷ 54 ∷ 55 ∷ 52 ∷ 52 ∷ 48 ∷ 55 ∷ 51 ∷ 55 ∷ 48 ∷ 57 ∷ 53 ∷ 53 ∷ 49 ∷ 54 ∷ 49 ∷ 53 ∷ 35 ∷ []) → ⊥
  pub first_untold : NumberPut 18446744073709551615 (hashes 20) 20 (35 ∷ 56 ∷ 52 ∷ 52 ∷ 54 ∷ 55 ∷ 52 ∷ 52 ∷ 48 ∷ 55 ∷ 51 ∷ 55 ∷ 48 ∷ 57 ∷ 53 ∷ 53 ∷ 49 ∷ 54 ∷ 49 ∷ 53 ∷ []) → ⊥
  -- a number of ten digits within nine
  pub too_long : NumberBounded 4294967295 9 → ⊥
