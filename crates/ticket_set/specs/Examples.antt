-- Cases of the set of tickets, worked by hand: the tickets at the ends and in the middle, 0, 1, 31, 32, 62 and 63, in the empty set, in the
-- full one, and in some between.
use Rattle.std.specs.Prelude.{ℕ, Bool, true, false, List, [], ◌∷◌, Option, Some, None, map}
use Rattle.ticket_set.specs.TicketSet.{
  bit,
  has_ticket,
  inserted,
  removed,
  count_of,
  next_from,
  next_of,
  members_from,
  members_of,
}

abbrev pub ends : List ℕ
ends = 0 ∷ 1 ∷ 31 ∷ 32 ∷ 62 ∷ 63 ∷ []

-- all 64 tickets, and the six of ends: 2^63 + 2^62 + 2^32 + 2^31 + 2 + 1
abbrev pub full : ℕ
full = 18446744073709551615

abbrev pub at_ends : ℕ
at_ends = 13835058061724614659

-- ---- one ticket

unfoldable pub bit_cases : List (List ℕ × List ℕ)
bit_cases =
    (map (bit 0) ends, 0 ∷ 0 ∷ 0 ∷ 0 ∷ 0 ∷ 0 ∷ [])
    ∷ (map (bit full) ends, 1 ∷ 1 ∷ 1 ∷ 1 ∷ 1 ∷ 1 ∷ [])
    ∷ (map (bit at_ends) ends, 1 ∷ 1 ∷ 1 ∷ 1 ∷ 1 ∷ 1 ∷ [])
    ∷ (map (bit at_ends) (2 ∷ 30 ∷ 33 ∷ 61 ∷ 64 ∷ []), 0 ∷ 0 ∷ 0 ∷ 0 ∷ 0 ∷ [])
    -- 5 = 4 + 1; 2^63
    ∷ (map (bit 5) (0 ∷ 1 ∷ 2 ∷ 3 ∷ []), 1 ∷ 0 ∷ 1 ∷ 0 ∷ [])
    ∷ (map (bit 9223372036854775808) ends, 0 ∷ 0 ∷ 0 ∷ 0 ∷ 0 ∷ 1 ∷ [])
    ∷ []

unfoldable pub has_cases : List (List Bool × List Bool)
has_cases =
    (map (has_ticket 5) (0 ∷ 1 ∷ 2 ∷ 3 ∷ []), true ∷ false ∷ true ∷ false ∷ [])
    ∷ (map (has_ticket 9223372036854775808) (0 ∷ 62 ∷ 63 ∷ []), false ∷ false ∷ true ∷ [])
    ∷ []

-- set and cleared, "whatever it was"
unfoldable pub change_cases : List (List ℕ × List ℕ)
change_cases =
    (map (inserted 0) ends, 1 ∷ 2 ∷ 2147483648 ∷ 4294967296 ∷ 4611686018427387904 ∷ 9223372036854775808 ∷ [])
    ∷ (map (inserted full) ends, 18446744073709551615 ∷ 18446744073709551615 ∷ 18446744073709551615 ∷ 18446744073709551615 ∷ 18446744073709551615 ∷ 18446744073709551615 ∷ [])
    -- 101 in binary becomes 101, 111, 101 and 1101
    ∷ (map (inserted 5) (0 ∷ 1 ∷ 2 ∷ 3 ∷ []), 5 ∷ 7 ∷ 5 ∷ 13 ∷ [])
    ∷ (
      map (removed full) ends,
      18446744073709551614 ∷ 18446744073709551613 ∷ 18446744071562067967 ∷ 18446744069414584319 ∷ 13835058055282163711 ∷ 9223372036854775807 ∷ [],
    )
    ∷ (map (removed 0) ends, 0 ∷ 0 ∷ 0 ∷ 0 ∷ 0 ∷ 0 ∷ [])
    -- 100, 101, 001 and 101
    ∷ (map (removed 5) (0 ∷ 1 ∷ 2 ∷ 3 ∷ []), 4 ∷ 5 ∷ 1 ∷ 5 ∷ [])
    ∷ (removed 9223372036854775808 63 ∷ inserted 9223372036854775808 63 ∷ [], 0 ∷ 9223372036854775808 ∷ [])
    ∷ []

-- ---- all tickets: their number

unfoldable pub size_cases : List (List ℕ × List ℕ)
size_cases =
    (map count_of (0 ∷ 1 ∷ 5 ∷ 9223372036854775808 ∷ at_ends ∷ full ∷ []), 0 ∷ 1 ∷ 2 ∷ 1 ∷ 6 ∷ 64 ∷ [])
    -- 2^64: "each of the 64 tickets", and no more
    ∷ (map count_of (18446744073709551616 ∷ []), 0 ∷ [])
    ∷ []

-- ---- the least member, and all members in rising order

unfoldable pub next_cases : List (List (Option ℕ) × List (Option ℕ))
next_cases =
    (map next_of (0 ∷ 1 ∷ 2 ∷ 5 ∷ 6 ∷ []), None ∷ Some 0 ∷ Some 1 ∷ Some 0 ∷ Some 1 ∷ [])
    -- 2^31, 2^32 + 2^63, 2^62 + 2^63, 2^63, all, 2^64
    ∷ (
      map next_of (2147483648 ∷ 9223372041149743104 ∷ 13835058055282163712 ∷ 9223372036854775808 ∷ full ∷ 18446744073709551616 ∷ []),
      Some 31 ∷ Some 32 ∷ Some 62 ∷ Some 63 ∷ Some 0 ∷ None ∷ [],
    )
    -- ticket 3 alone, among 0, 1, 2 and 3 tickets from 1 on, and from 3 and 4 on
    ∷ (
      next_from 0 1 8 ∷ next_from 1 1 8 ∷ next_from 2 1 8 ∷ next_from 3 1 8 ∷ next_from 1 3 8 ∷ next_from 0 3 8 ∷ next_from 9 4 8 ∷ [],
      None ∷ None ∷ None ∷ Some 3 ∷ Some 3 ∷ None ∷ None ∷ [],
    )
    ∷ []

-- a set, and its members
unfoldable pub member_cases : List (ℕ × List ℕ)
member_cases =
    (0, [])
    ∷ (1, 0 ∷ [])
    ∷ (6, 1 ∷ 2 ∷ [])
    ∷ (9223372036854775808, 63 ∷ [])
    ∷ (at_ends, 0 ∷ 1 ∷ 31 ∷ 32 ∷ 62 ∷ 63 ∷ [])
    ∷ (
      full,
      0 ∷ 1 ∷ 2 ∷ 3 ∷ 4 ∷ 5 ∷ 6 ∷ 7 ∷ 8 ∷ 9 ∷ 10 ∷ 11 ∷ 12 ∷ 13 ∷ 14 ∷ 15 ∷ 16 ∷ 17 ∷ 18 ∷ 19 ∷ 20 ∷ 21 ∷ 22 ∷ 23 ∷ 24 ∷ 25 ∷ 26 ∷ 27 ∷ 28 ∷ 29 ∷ 30 ∷ 31
          ∷ 32 ∷ 33 ∷ 34 ∷ 35 ∷ 36 ∷ 37 ∷ 38 ∷ 39 ∷ 40 ∷ 41 ∷ 42 ∷ 43 ∷ 44 ∷ 45 ∷ 46 ∷ 47 ∷ 48 ∷ 49 ∷ 50 ∷ 51 ∷ 52 ∷ 53 ∷ 54 ∷ 55 ∷ 56 ∷ 57 ∷ 58 ∷ 59 ∷ 60 ∷ 61 ∷ 62 ∷ 63 ∷ [],
    )
    ∷ (18446744073709551616, [])
    ∷ []

abbrev pub worked_members : ℕ × List ℕ → ℕ × List ℕ
worked_members c = (c.0, members_of c.0)

-- the first n tickets from 1 on, of 0 to 3
abbrev pub some_members : ℕ → List ℕ
some_members n = members_from n 1 15
