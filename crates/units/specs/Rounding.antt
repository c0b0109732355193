-- Division rounded down and up: what each means, and a function that computes it.
use Rattle.std.specs.Prelude.{ℕ, ◌+◌, ◌-◌, ◌*◌, ◌/◌, ◌≤◌, ◌<◌, ◌≡◌}

-- c is a / b rounded down, as document 000's Lemma 8.1 has it: 0 ≤ a - b × c < b
pub record RoundedDown (a b c : ℕ) : Type 0 where
  pub within : b * c ≤ a
  pub close : a - b * c < b

-- c is a / b rounded up: the least c with b × c ≥ a
pub record RoundedUp (a b c : ℕ) : Type 0 where
  pub reaches : a ≤ b * c
  pub least : (d : ℕ) → a ≤ b * d → c ≤ d

unfoldable pub down : ℕ → ℕ → ℕ
down a b = a / b

unfoldable pub up : ℕ → ℕ → ℕ
up a b = (a + (b - 1)) / b

-- what is proved of both: each has its meaning, and no other number has it
abbrev pub RoundsDown : Type 0
RoundsDown = (a b : ℕ) → 0 < b → RoundedDown a b (down a b) × ((c : ℕ) → RoundedDown a b c → c ≡ down a b)

abbrev pub RoundsUp : Type 0
RoundsUp = (a b : ℕ) → 0 < b → RoundedUp a b (up a b) × ((c : ℕ) → RoundedUp a b c → c ≡ up a b)

-- so of any two numbers there is at most one of each, whatever computes it
abbrev pub DownAlone : Type 0
DownAlone = (a b c d : ℕ) → RoundedDown a b c → RoundedDown a b d → c ≡ d

abbrev pub UpAlone : Type 0
UpAlone = (a b c d : ℕ) → RoundedUp a b c → RoundedUp a b d → c ≡ d
