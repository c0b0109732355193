-- Document 02's L3, "No digits kept aside": what it says of a number writer. The writers promise two equations, with `put_count` and `put_into`.
use Rattle.std.specs.Prelude.{◌≡◌, ℕ, ◌≤◌, List, length}
use Rattle.units.specs.Decimal.{digits}
use Rattle.decimal.specs.Buffer.{put_into, put_count, TextPut}

-- "For any number, a part with exactly as many bytes as it has digits is enough, and no byte after them changes." In a shorter part no byte is
-- used, and so none changes: of that L3 does not speak
abbrev pub NumberPut : ℕ → List ℕ → ℕ → List ℕ → Type 0
NumberPut n = TextPut (digits n)

-- what the equations give is so put
abbrev pub NumbersPut : Type 0
NumbersPut = (n : ℕ) (before : List ℕ) → NumberPut n before (put_count before (digits n)) (put_into before (digits n))

-- and nothing else is
abbrev pub PutAlone : Type 0
PutAlone = (n : ℕ) (before : List ℕ) (used : ℕ) (after : List ℕ) → NumberPut n before used after
    → (used ≡ put_count before (digits n)) × (after ≡ put_into before (digits n))

-- a number has a digit, so that 0 bytes used says that the part was too short; and it has at most so many
pub record NumberBounded (n most : ℕ) : Type 0 where
  pub some : 1 ≤ length (digits n)
  pub within : length (digits n) ≤ most
