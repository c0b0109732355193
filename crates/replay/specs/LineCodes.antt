-- "20 line not of the form below. It is then no call, and 1 to 19 aren't tested": the code that a line is read with and the one that it is answered with.
use Rattle.std.specs.Prelude.{ℕ, ◌<◌, ◌≡◌, List}
use Rattle.model.specs.declared.state.Exchange.{Exchange}
use Rattle.model.specs.Answers.{code_of}
use Rattle.lines.specs.ReadingCode.{line_code}
use Rattle.replay.specs.Lines.{line_outcome}

-- a line that is no call is answered 20 and leaves the state; a call is answered by its own codes, all below 20
pub record LineCoded (x : Exchange) (line : List ℕ) : Type 0 where
  pub no_call : line_code line ≡ 20 → (code_of (line_outcome x line).answer ≡ 20) × ((line_outcome x line).exchange ≡ x)
  pub call : (line_code line ≡ 20 → ⊥) → (line_code line ≡ 0) × (code_of (line_outcome x line).answer < 20)

abbrev pub LineCodes : Type 0
LineCodes = (x : Exchange) (line : List ℕ) → LineCoded x line
