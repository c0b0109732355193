-- Cases worked by hand: the numbers that document 01 names, sums and rests of amounts, both roundings, the first reason of a list, sums and decimal text.
use Rattle.std.specs.Prelude.{ℕ, ◌*◌, ◌^◌, ◌≤◌, Bool, true, false, ◌≡◌, List, [], ◌∷◌, Option, None, Some}
use Rattle.units.specs.declared.Amount.{Amount}
use Rattle.units.specs.Counts.{amount, price, block, largest, sum_if_fits, rest_if_within, million}
use Rattle.units.specs.Ranges.{
  last_member,
  last_token,
  last_market,
  last_ticket,
  last_side,
  highest_limit,
  highest_reference,
  highest_slack,
  longest_auction,
  highest_bound,
  blocks_to_match,
}
use Rattle.units.specs.Rounding.{RoundedDown, RoundedUp, down, up, RoundsDown, RoundsUp}
use Rattle.units.specs.Sums.{sum_to, sum_over, only}
use Rattle.units.specs.Decide.{when, decide}
use Rattle.units.specs.Decimal.{digits}

-- ---- the numbers of document 01

unfoldable pub numbers : List (ℕ × ℕ)
numbers =
    -- "All numbers are decimal whole numbers 0 to 4,294,967,295"; "A price counts millionths"
    (largest, 4294967295)
    ∷ (million, 1000000)
    -- "Members 0 to 15. Tokens 0 to 3."; "Markets 1 to 3"; "Tickets 0 to 63."; "5 side above 1."
    ∷ (last_member, 15)
    ∷ (last_token, 3)
    ∷ (last_market, 3)
    ∷ (last_ticket, 63)
    ∷ (last_side, 1)
    -- "limit not 1 to 2,000,000,000"
    ∷ (highest_limit, 2000000000)
    -- "reference price r (1 to 1,000,000,000), slack w (0 to 500,000 millionths), auction length L (1 to 64)"
    ∷ (highest_reference, 1000000000)
    ∷ (highest_slack, 500000)
    ∷ (longest_auction, 64)
    -- 1,000,000,000 × 1,500,000 / 1,000,000
    ∷ (highest_bound, 1500000000)
    -- "At least 4 blocks after open."
    ∷ (blocks_to_match, 4)
    -- each sort of count counts what it is given
    ∷ ((amount 7).0, 7)
    ∷ ((price 8).0, 8)
    ∷ ((block 9).0, 9)
    ∷ []

-- ---- the sum of two amounts, and one less another, where there is one

unfoldable pub checked : List (Option Amount × Option Amount)
checked =
    (sum_if_fits 0 0, Some (amount 0))
    ∷ (sum_if_fits 5 7, Some (amount 12))
    -- the largest number, and 1 more
    ∷ (sum_if_fits 4294967290 5, Some (amount 4294967295))
    ∷ (sum_if_fits 4294967290 6, None)
    ∷ (rest_if_within 7 5, Some (amount 2))
    ∷ (rest_if_within 7 7, Some (amount 0))
    ∷ (rest_if_within 7 8, None)
    ∷ []

-- ---- a / b rounded down, and rounded up

abbrev pub both_ways : ℕ → ℕ → ℕ × ℕ
both_ways a b = (down a b, up a b)

unfoldable pub roundings : List ((ℕ × ℕ) × (ℕ × ℕ))
roundings =
    (both_ways 0 7, (0, 0))
    ∷ (both_ways 1 7, (0, 1))
    ∷ (both_ways 6 7, (0, 1))
    ∷ (both_ways 7 7, (1, 1))
    ∷ (both_ways 8 7, (1, 2))
    ∷ (both_ways 20 7, (2, 3))
    ∷ (both_ways 21 7, (3, 3))
    ∷ (both_ways 5 1, (5, 5))
    -- 100 × 200 / 301, 101 × 200 / 301
    ∷ (both_ways 20000 301, (66, 67))
    ∷ (both_ways 20200 301, (67, 68))
    -- the largest product of two numbers, by each of the two largest
    ∷ (both_ways 18446744065119617025 4294967295, (4294967295, 4294967295))
    ∷ (both_ways 18446744065119617025 4294967294, (4294967296, 4294967297))
    ∷ []

-- what the two meanings hold of, and what they do not: 14 and 20 are 2 × 7 and 6 more; 21 is 3 × 7
pub record Meanings : Type 0 where
  pub down_exact : RoundedDown 14 7 2
  pub down_last : RoundedDown 20 7 2
  pub down_too_low : RoundedDown 21 7 2 → ⊥
  pub down_too_high : RoundedDown 20 7 3 → ⊥
  pub down_by_one : RoundedDown 5 1 5
  pub up_exact : RoundedUp 14 7 2
  pub up_first : RoundedUp 15 7 3
  pub up_too_high : RoundedUp 14 7 3 → ⊥
  pub up_too_low : RoundedUp 15 7 2 → ⊥
  pub up_by_one : RoundedUp 5 1 5
  -- "0 ≤ a - b×c < b"; "the least c with b×c ≥ a"
  pub within : (c : ℕ) → RoundedDown 20 7 c → 7 * c ≤ 20
  pub close : (c : ℕ) → RoundedDown 20 7 c → 14 ≤ 7 * c
  pub reaches : (c : ℕ) → RoundedUp 15 7 c → 15 ≤ 7 * c
  pub least : (c : ℕ) → RoundedUp 15 7 c → c ≤ 3

-- the two laws used: each rounding has its meaning, by 1 as by any other number, and no other number has it
pub record RoundingsUsed : Type 0 where
  pub down_is : RoundsDown → (a : ℕ) → RoundedDown a 1 (down a 1)
  pub down_only : RoundsDown → (a c : ℕ) → RoundedDown a 7 c → c ≡ down a 7
  pub up_is : RoundsUp → (a : ℕ) → RoundedUp a 1 (up a 1)
  pub up_only : RoundsUp → (a c : ℕ) → RoundedUp a 7 c → c ≡ up a 7

-- ---- "the first that holds is returned"

-- three reasons, 1, 2 and 3, of which these apply; 0 where none does
abbrev pub reason : Bool → Bool → Bool → ℕ
reason a b c = decide (when a 1 ∷ when b 2 ∷ when c 3 ∷ []) (λ r. r) 0

unfoldable pub reasons : List (ℕ × ℕ)
reasons =
    (reason false false false, 0)
    ∷ (reason true false false, 1)
    ∷ (reason true true true, 1)
    ∷ (reason true false true, 1)
    ∷ (reason false true false, 2)
    ∷ (reason false true true, 2)
    ∷ (reason false false true, 3)
    ∷ (decide [] (λ (r : ℕ). r) 5, 5)
    -- refused by the function given
    ∷ (decide (when true 4 ∷ []) (λ r. 10 * r) 5, 40)
    ∷ []

-- ---- sums: the powers of ten tell which terms are added

unfoldable pub sums : List (ℕ × ℕ)
sums =
    (sum_to 0 (λ k. 10 ^ k), 0)
    ∷ (sum_to 1 (λ k. 10 ^ k), 1)
    ∷ (sum_to 4 (λ k. 10 ^ k), 1111)
    ∷ (sum_over (λ k. 10 ^ k) [], 0)
    ∷ (sum_over (λ k. 10 ^ k) (5 ∷ []), 100000)
    ∷ (sum_over (λ k. 10 ^ k) (0 ∷ 3 ∷ 1 ∷ 3 ∷ []), 2011)
    -- 7 units of token 2, seen at each token
    ∷ (only 2 7 0, 0)
    ∷ (only 2 7 1, 0)
    ∷ (only 2 7 2, 7)
    ∷ (only 2 7 3, 0)
    -- 2 units of token 7, and 9 of token 0
    ∷ (only 7 2 2, 0)
    ∷ (only 7 2 7, 2)
    ∷ (only 0 9 0, 9)
    ∷ (only 0 9 9, 0)
    ∷ []

-- ---- decimal text

unfoldable pub texts : List (List ℕ × List ℕ)
texts =
    -- 0, 1, 9, 10, 99, 100, 101
    (digits 0, 48 ∷ [])
    ∷ (digits 1, 49 ∷ [])
    ∷ (digits 9, 57 ∷ [])
    ∷ (digits 10, 49 ∷ 48 ∷ [])
    ∷ (digits 99, 57 ∷ 57 ∷ [])
    ∷ (digits 100, 49 ∷ 48 ∷ 48 ∷ [])
    ∷ (digits 101, 49 ∷ 48 ∷ 49 ∷ [])
    -- 1234567890, 4294967295
    ∷ (digits 1234567890, 49 ∷ 50 ∷ 51 ∷ 52 ∷ 53 ∷ 54 ∷ 55 ∷ 56 ∷ 57 ∷ 48 ∷ [])
    ∷ (digits 4294967295, 52 ∷ 50 ∷ 57 ∷ 52 ∷ 57 ∷ 54 ∷ 55 ∷ 50 ∷ 57 ∷ 53 ∷ [])
    -- 18446744073709551615
    ∷ (
      digits 18446744073709551615,
      49 ∷ 56 ∷ 52 ∷ 52 ∷ 54 ∷ 55 ∷ 52 ∷ 52 ∷ 48 ∷ 55 ∷ 51 ∷ 55 ∷ 48 ∷ 57 ∷ 53 ∷ 53 ∷ 49 ∷ 54 ∷ 49 ∷ 53 ∷ [],
    )
    ∷ []
