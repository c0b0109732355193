-- What is told of a failure.
use Rattle.std.specs.Prelude.{ℕ, ◌≤◌, Option, List, [], ◌∷◌, ◌++◌, length}
use Rattle.std.specs.Io.KnownBytes.{Appends}

-- a line more: the caller's words, a colon, a space, the cause, of no more than 256 bytes, and byte 10
abbrev pub TellsFailure : Option (List ℕ) → Option (List ℕ) → List ℕ → Type 0
TellsFailure old new words = (cause : List ℕ) × (length cause ≤ 256) × Appends old new (((words ++ (58 ∷ 32 ∷ [])) ++ cause) ++ (10 ∷ []))
