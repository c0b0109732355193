-- `down` and `up` round as their meanings say, and no other number does; what each gives in products.
use mathlib.Core.Path.{◌≡◌, sym, ◌∙◌}
use Prim.Native.Nat.{ℕ, zero, suc, ◌+◌, ◌-◌, ◌*◌, ◌/◌, ◌%◌, ◌≤◌, ◌<◌, min}
use native.Mathlib.Nat.{div-add-mod, mod-lt, lt_of_mul-lt-mul_left, mul-le-mul_left, le_antisymm}
use native.Mathlib.Omega.{arith}
use Rattle.units.specs.Rounding.{DownAlone, down, up, RoundedDown, RoundedUp, RoundsDown, RoundsUp, UpAlone}

-- ---- the two bounds of each, in products

pub down_low : (a b : ℕ) → b * down a b ≤ a
unfolding down
down_low a b = omega (arith, div-add-mod a b)

pub down_high : (a b : ℕ) → 0 < b → a < b * down a b + b
unfolding down
down_high a b h = omega (arith, div-add-mod a b, mod-lt a h)

pub up_low : (a b : ℕ) → 0 < b → a ≤ b * up a b
unfolding up
up_low a b h = omega (arith, div-add-mod (a + (b - 1)) b, mod-lt (a + (b - 1)) h)

pub up_high : (a b : ℕ) → 0 < b → b * up a b < a + b
unfolding up
up_high a b h = omega (arith, div-add-mod (a + (b - 1)) b)

-- ---- so each is known by comparing products

pub le_down : (a b c : ℕ) → 0 < b → b * c ≤ a → c ≤ down a b
le_down a b c h l =
    let s : c < down a b + 1 = lt_of_mul-lt-mul_left b (omega (arith, down_high a b h)) in omega arith

pub up_le : (a b c : ℕ) → 0 < b → a ≤ b * c → up a b ≤ c
up_le a b c h l =
    let s : up a b < c + 1 = lt_of_mul-lt-mul_left b (omega (arith, up_high a b h)) in omega arith

-- ---- Lemma 8.1, and "the least c with b × c ≥ a"

pub down_is : (a b : ℕ) → 0 < b → RoundedDown a b (down a b)
down_is a b h = record { within = down_low a b; close = omega (arith, down_high a b h) }

pub down_only : (a b c : ℕ) → 0 < b → RoundedDown a b c → c ≡ down a b
down_only a b c h r =
    let s : down a b < c + 1 = lt_of_mul-lt-mul_left b (omega (arith, down_low a b)) in
    le_antisymm (le_down a b c h r.within) (omega arith)

pub up_is : (a b : ℕ) → 0 < b → RoundedUp a b (up a b)
up_is a b h = record { reaches = up_low a b h; least = λ d l. up_le a b d h l }

pub up_only : (a b c : ℕ) → 0 < b → RoundedUp a b c → c ≡ up a b
up_only a b c h r = le_antisymm (r.least (up a b) (up_low a b h)) (up_le a b c h r.reaches)

pub rounds_down : RoundsDown
rounds_down a b h = (down_is a b h, λ c r. down_only a b c h r)

pub rounds_up : RoundsUp
rounds_up a b h = (up_is a b h, λ c r. up_only a b c h r)

pub down_alone : DownAlone
down_alone a b c d r s =
    let h : 0 < b = omega (arith, r.close) in sym (down_only a b d h s ∙ sym (down_only a b c h r))

pub up_alone : UpAlone
up_alone a b c d r s = le_antisymm (r.least d s.reaches) (s.least c r.reaches)

-- ---- order

pub down_mono : (a a' b : ℕ) → 0 < b → a ≤ a' → down a b ≤ down a' b
down_mono a a' b h l = le_down a' b (down a b) h (omega (arith, down_low a b))

-- a part k / l of d, with k ≤ l, is no more than d, rounded either way; and the whole of d is d
pub part_down_le : (d k l : ℕ) → 0 < l → k ≤ l → down (d * k) l ≤ d
part_down_le d k l h g =
    let s : down (d * k) l < d + 1 = lt_of_mul-lt-mul_left l (omega (arith, down_low (d * k) l, mul-le-mul_left d g)) in omega arith

pub part_up_le : (d k l : ℕ) → 0 < l → k ≤ l → up (d * k) l ≤ d
part_up_le d k l h g = up_le (d * k) l d h (omega (arith, mul-le-mul_left d g))

pub whole_down : (d l : ℕ) → 0 < l → down (d * l) l ≡ d
whole_down d l h = sym (down_only (d * l) l d h (record { within = omega arith; close = omega arith }))

-- in products: c is a / b rounded up where b × c is at least a and below a + b
pub up_only_by : (a b c : ℕ) → a ≤ b * c → b * c < a + b → c ≡ up a b
up_only_by a b c l g =
    let h : 0 < b = omega arith in
    let s : c < up a b + 1 = lt_of_mul-lt-mul_left b (omega (arith, up_low a b h)) in
    le_antisymm (omega arith) (up_le a b c h l)

-- the quotient, with 1 more where a remainder is left
pub ceil_is : (a b : ℕ) → 0 < b → a / b + min 1 (a % b) ≡ up a b
ceil_is a b h = go (a % b) (mod-lt a h) (div-add-mod a b)
  where
    go : (r : ℕ) → r < b → b * (a / b) + r ≡ a → a / b + min 1 r ≡ up a b
    go zero l e = let m : min 1 0 ≡ 0 = omega arith in rw m (up_only_by a b _ (omega arith) (omega arith))
    go (suc r) l e = let m : min 1 (suc r) ≡ 1 = omega arith in rw m (up_only_by a b _ (omega arith) (omega arith))
