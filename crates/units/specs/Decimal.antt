-- A number as decimal text: bytes 48 to 57, no sign, no needless leading zero.
use Rattle.std.specs.Prelude.{ℕ, zero, suc, ◌+◌, ◌/◌, ◌%◌, List, [], ◌∷◌, ◌++◌}

-- the digits of n, most significant first, none for 0; the first argument bounds how many
abbrev pub leading : ℕ → ℕ → List ℕ
leading zero n = []
leading (suc f) zero = []
leading (suc f) (suc n) = leading f (suc n / 10) ++ ((48 + suc n % 10) ∷ [])

-- "A number has no sign and no needless leading zero"
unfoldable pub digits : ℕ → List ℕ
digits n = leading n (n / 10) ++ ((48 + n % 10) ∷ [])
