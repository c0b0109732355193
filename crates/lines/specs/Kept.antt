-- A line that has begun: so many of its bytes tell whether it is too long.
use Rattle.std.specs.Prelude.{ℕ, ◌+◌}
use Rattle.fields.specs.Grammar.{longest_line}

abbrev pub kept_bytes : ℕ
kept_bytes = longest_line + 1
