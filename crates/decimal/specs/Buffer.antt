-- Text put into a lent buffer.
use Rattle.std.specs.Prelude.{◌≡◌, ℕ, ◌+◌, ◌≤◌, ◌<◌, cond, List, ◌++◌, length, take, drop, leb}

-- text over out from index at on; every other byte stays
unfoldable pub put_at : List ℕ → ℕ → List ℕ → List ℕ
put_at out at text = take at out ++ (text ++ drop (at + length text) out)

-- text at the start of out where out is long enough, "and no byte after it changes"; else, as 21 has it, "nothing is written"
unfoldable pub put_into : List ℕ → List ℕ → List ℕ
put_into out text = cond (leb (length text) (length out)) (put_at out 0 text) out

-- how many bytes that takes, 0 where out is too short
unfoldable pub put_count : List ℕ → List ℕ → ℕ
put_count out text = cond (leb (length text) (length out)) (length text) 0

-- the same by its bytes: text, to be put into a part with the bytes before; so many of them are used, and the part then has the bytes after
pub record TextPut (text before : List ℕ) (used : ℕ) (after : List ℕ) : Type 0 where
  -- as many bytes as the text has are enough
  pub enough : length text ≤ length before → (used ≡ length text) × (take used after ≡ text)
  -- where there are fewer, none is used
  pub short : length before < length text → used ≡ 0
  -- and no byte after those that are used changes
  pub kept : drop used after ≡ drop used before

-- text from a place on, where what follows the place is long enough: "Bytes outside the line stay"; else, as 21 has it, "no byte changed"
unfoldable pub put_from : List ℕ → ℕ → List ℕ → List ℕ
put_from out at text = cond (leb (at + length text) (length out)) (put_at out at text) out
