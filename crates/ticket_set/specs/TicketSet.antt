-- "The round marks each of the 64 tickets with one bit; the count of set bits is the number of its tickets": a set of tickets is a number
-- whose bit k, counted from the lowest, is 1 where ticket k is a member.
use Rattle.std.specs.Prelude.{Bool, cond, List, [], ◌∷◌, Option, Some, None, ℕ, zero, suc, ◌+◌, ◌-◌, ◌*◌, ◌/◌, ◌%◌, ◌^◌, eqb}
use Rattle.units.specs.Sums.{sum_to}

-- bit k of s: 0 or 1
unfoldable pub bit : ℕ → ℕ → ℕ
bit s k = s / 2 ^ k % 2

abbrev pub has_ticket : ℕ → ℕ → Bool
has_ticket s k = eqb (bit s k) 1

-- s with bit k set, and with bit k cleared, whatever it was
unfoldable pub inserted : ℕ → ℕ → ℕ
inserted s k = s + (1 - bit s k) * 2 ^ k

unfoldable pub removed : ℕ → ℕ → ℕ
removed s k = s - bit s k * 2 ^ k

-- the number of members
unfoldable pub count_of : ℕ → ℕ
count_of s = sum_to 64 (bit s)

-- the first member among the n tickets from k on
unfoldable pub next_from : ℕ → ℕ → ℕ → Option ℕ
next_from zero k s = None
next_from (suc n) k s = cond (has_ticket s k) (Some k) (next_from n (suc k) s)

-- the least member
unfoldable pub next_of : ℕ → Option ℕ
next_of s = next_from 64 0 s

-- the members among the n tickets from k on, and all members, lowest first
unfoldable pub members_from : ℕ → ℕ → ℕ → List ℕ
members_from zero k s = []
members_from (suc n) k s = cond (has_ticket s k) (k ∷ members_from n (suc k) s) (members_from n (suc k) s)

unfoldable pub members_of : ℕ → List ℕ
members_of s = members_from 64 0 s
