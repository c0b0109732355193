-- What a host of plain numbers is told, a second time: code by code, in inequalities, by the numbers' own line and not by `written_of`.
use Rattle.std.specs.Prelude.{ℕ, ◌+◌, ◌≤◌, ◌<◌, ◌≡◌, List, length, Some, None}
use Rattle.model.specs.declared.call.Call.{Call}
use Rattle.lines.specs.CallLines.{call_of}
use Rattle.lines.specs.CallText.{line_of_numbers}
use Rattle.call_writer.specs.declared.LinePut.{LinePut}
use Rattle.call_writer.specs.Writing.{put_of}

-- the bytes of numbers with a comma between each two, and byte 10
abbrev pub line_bytes : List ℕ → ℕ
line_bytes ns = length (line_of_numbers ns) + 1

-- a kind number and as many fields as that kind has
pub record IsCall (ns : List ℕ) : Type 0 where
  pub call : Call
  pub read : call_of ns ≡ Some call

-- the code and the bytes told, where the line of the numbers ns was to be put at a place of size bytes
pub record PutTells (size place : ℕ) (ns : List ℕ) (code bytes : ℕ) : Type 0 where
  pub no_call : call_of ns ≡ None → (code ≡ 20) × (bytes ≡ 0)
  -- "Refused: 21 when the place is past the buffer's end or what follows it is too short, with length 0"
  pub short : IsCall ns → size < place + line_bytes ns → (code ≡ 21) × (bytes ≡ 0)
  pub fits : IsCall ns → place + line_bytes ns ≤ size → (code ≡ 0) × (bytes ≡ line_bytes ns)
  -- so the code alone tells the cause
  pub told_20 : code ≡ 20 → call_of ns ≡ None
  pub told_21 : code ≡ 21 → IsCall ns × (size < place + line_bytes ns)
  pub told_0 : code ≡ 0 → IsCall ns × (place + line_bytes ns ≤ size) × (1 ≤ bytes)

abbrev pub PutsTell : Type 0
PutsTell = (size place : ℕ) (ns : List ℕ) → PutTells size place ns (put_of size place (call_of ns)).code (put_of size place (call_of ns)).length

-- nothing else is so
abbrev pub PutTellsAlone : Type 0
PutTellsAlone = (size place : ℕ) (ns : List ℕ) (p : LinePut) → PutTells size place ns p.code p.length → p ≡ put_of size place (call_of ns)
