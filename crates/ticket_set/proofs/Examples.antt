-- The cases of specs/Examples.antt, computed.
use mathlib.Core.Path.{◌≡◌, refl}
use mathlib.Core.List.{[], ◌∷◌, map}
use Rattle.units.specs.Sums.{sum_to}
use Rattle.units.specs.Worked.{given, by_hand}
use Rattle.ticket_set.specs.TicketSet.{bit, inserted, removed, count_of, next_from, next_of, members_from, members_of}
use Rattle.ticket_set.specs.Examples.{bit_cases, has_cases, change_cases, size_cases, next_cases, member_cases, worked_members, some_members}

pub bits_hold : given bit_cases ≡ by_hand bit_cases
unfolding bit_cases bit
bits_hold = refl

pub has_hold : given has_cases ≡ by_hand has_cases
unfolding has_cases bit
has_hold = refl

pub changes_hold : given change_cases ≡ by_hand change_cases
unfolding change_cases bit inserted removed
changes_hold = refl

pub sizes_hold : given size_cases ≡ by_hand size_cases
unfolding size_cases bit count_of sum_to
sizes_hold = refl

pub nexts_hold : given next_cases ≡ by_hand next_cases
unfolding next_cases bit next_from next_of
nexts_hold = refl

pub members_hold : map worked_members member_cases ≡ member_cases
unfolding member_cases bit members_from members_of
members_hold = refl

pub some_members_hold : map some_members (0 ∷ 1 ∷ 2 ∷ []) ≡ [] ∷ (1 ∷ []) ∷ (1 ∷ 2 ∷ []) ∷ []
unfolding bit members_from
some_members_hold = refl
