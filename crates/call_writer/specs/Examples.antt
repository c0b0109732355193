-- Calls written at places of a buffer, and lines read and written again, worked by hand.
use Rattle.std.specs.Prelude.{ℕ, ◌+◌, List, [], ◌∷◌, ◌++◌, length, Some, None, Option}
use Rattle.decimal.specs.Examples.{hashes}
use Rattle.model.specs.declared.call.Call.{Call}
use Rattle.model.specs.declared.call.Call.TheVariants.{Enter, Bid, Claim}
use Rattle.lines.specs.LineExamples.{CallLine}

-- ---- calls written

-- a buffer of so many bytes, a place and a call; the code, the length and the buffer after
pub record CallPut : Type 0 where
  pub room : ℕ
  pub place : ℕ
  pub call : Call
  pub code : ℕ
  pub bytes : ℕ
  pub after : List ℕ

abbrev puts : ℕ → ℕ → Call → ℕ → ℕ → List ℕ → CallPut
puts room place call code bytes after = record { room = room; place = place; call = call; code = code; bytes = bytes; after = after }

-- a comma, the largest number, and then bytes
abbrev largest_then : List ℕ → List ℕ
largest_then bytes = 44 ∷ 52 ∷ 50 ∷ 57 ∷ 52 ∷ 57 ∷ 54 ∷ 55 ∷ 50 ∷ 57 ∷ 53 ∷ bytes  -- ,4294967295

-- no line is longer: 67 bytes and byte 10
abbrev pub longest_bid : Call
longest_bid = Bid 4294967295 4294967295 4294967295 4294967295 4294967295 4294967295

unfoldable pub calls_put : List CallPut
calls_put =
    puts 4 0 (Enter 0) 0 4 (54 ∷ 44 ∷ 48 ∷ 10 ∷ [])  -- 6,0LF
    ∷ puts 5 0 (Enter 0) 0 4 (54 ∷ 44 ∷ 48 ∷ 10 ∷ 35 ∷ [])  -- 6,0LF#
    ∷ puts 3 0 (Enter 0) 21 0 (hashes 3)
    ∷ puts 6 2 (Enter 0) 0 4 (35 ∷ 35 ∷ 54 ∷ 44 ∷ 48 ∷ 10 ∷ [])  -- ##6,0LF
    ∷ puts 6 3 (Enter 0) 21 0 (hashes 6)
    -- at the end, past it, and no buffer
    ∷ puts 6 6 (Enter 0) 21 0 (hashes 6)
    ∷ puts 6 7 (Enter 0) 21 0 (hashes 6)
    ∷ puts 0 0 (Enter 0) 21 0 []
    -- the largest place
    ∷ puts 6 18446744073709551615 (Enter 0) 21 0 (hashes 6)
    ∷ puts 68 0 longest_bid 0 68 (56 ∷ largest_then (largest_then (largest_then (largest_then (largest_then (largest_then (10 ∷ [])))))))
    ∷ puts 67 0 longest_bid 21 0 (hashes 67)
    ∷ puts 8 2 (Claim 63) 0 6 (35 ∷ 35 ∷ 49 ∷ 48 ∷ 44 ∷ 54 ∷ 51 ∷ 10 ∷ [])  -- ##10,63LF
    ∷ []

-- a call at place 1 of a buffer with one byte to spare; the bytes of its row are those before byte 10
abbrev pub put_at_one : CallLine → CallPut
put_at_one e = puts (length e.bytes + 3) 1 e.call 0 (length e.bytes + 1) (35 ∷ (e.bytes ++ (10 ∷ 35 ∷ [])))

-- ---- plain numbers written

-- the same of a kind number and fields
pub record FieldsPut : Type 0 where
  pub room : ℕ
  pub place : ℕ
  pub kind : ℕ
  pub fields : List ℕ
  pub code : ℕ
  pub bytes : ℕ
  pub after : List ℕ

abbrev numbers : ℕ → ℕ → ℕ → List ℕ → ℕ → ℕ → List ℕ → FieldsPut
numbers room place kind fields code bytes after =
    record { room = room; place = place; kind = kind; fields = fields; code = code; bytes = bytes; after = after }

unfoldable pub fields_put : List FieldsPut
fields_put =
    -- just enough room, and a byte less
    numbers 6 2 6 (0 ∷ []) 0 4 (35 ∷ 35 ∷ 54 ∷ 44 ∷ 48 ∷ 10 ∷ [])  -- ##6,0LF
    ∷ numbers 5 2 6 (0 ∷ []) 21 0 (hashes 5)
    -- at the end, past it, far past it, and no buffer
    ∷ numbers 6 6 6 (0 ∷ []) 21 0 (hashes 6)
    ∷ numbers 6 7 6 (0 ∷ []) 21 0 (hashes 6)
    ∷ numbers 6 18446744073709551612 6 (0 ∷ []) 21 0 (hashes 6)
    ∷ numbers 6 18446744073709551615 6 (0 ∷ []) 21 0 (hashes 6)
    ∷ numbers 0 0 6 (0 ∷ []) 21 0 []
    -- a field too many, one too few, none
    ∷ numbers 9 0 6 (0 ∷ 1 ∷ []) 20 0 (hashes 9)
    ∷ numbers 9 0 11 (5 ∷ []) 20 0 (hashes 9)
    ∷ numbers 9 0 6 [] 20 0 (hashes 9)
    ∷ numbers 9 0 11 (5 ∷ 0 ∷ []) 0 7 (49 ∷ 49 ∷ 44 ∷ 53 ∷ 44 ∷ 48 ∷ 10 ∷ 35 ∷ 35 ∷ [])  -- 11,5,0LF##
    -- no such kind
    ∷ numbers 9 0 0 (0 ∷ []) 20 0 (hashes 9)
    ∷ numbers 9 0 12 (5 ∷ 0 ∷ []) 20 0 (hashes 9)
    ∷ numbers 9 0 4294967295 (0 ∷ []) 20 0 (hashes 9)
    -- no call and no room: 20
    ∷ numbers 0 0 0 [] 20 0 []
    ∷ numbers 3 0 6 (0 ∷ 1 ∷ []) 20 0 (hashes 3)
    ∷ numbers 6 6 12 (5 ∷ 0 ∷ []) 20 0 (hashes 6)
    ∷ numbers 6 7 6 [] 20 0 (hashes 6)
    ∷ numbers 6 18446744073709551615 4294967295 (0 ∷ []) 20 0 (hashes 6)
    -- the largest fields
    ∷ numbers 14 1 10 (4294967295 ∷ []) 21 0 (hashes 14)
    ∷ numbers 15 1 10 (4294967295 ∷ []) 0 14 (35 ∷ 49 ∷ 48 ∷ largest_then (10 ∷ []))
    ∷ []

-- ---- lines read, then written

-- bytes and a place; what is read of the line that begins there, where it ends, and the line that the writer makes of it
pub record LineAgain : Type 0 where
  pub bytes : List ℕ
  pub from : ℕ
  pub reading : Option Call
  pub end : ℕ
  pub line : List ℕ

abbrev again : List ℕ → ℕ → Option Call → ℕ → List ℕ → LineAgain
again bytes from reading end line = record { bytes = bytes; from = from; reading = reading; end = end; line = line }

-- 6,0LF 10,63LF 6,1
abbrev three_lines : List ℕ
three_lines = 54 ∷ 44 ∷ 48 ∷ 10 ∷ 49 ∷ 48 ∷ 44 ∷ 54 ∷ 51 ∷ 10 ∷ 54 ∷ 44 ∷ 49 ∷ []

unfoldable pub lines_again : List LineAgain
lines_again =
    again (54 ∷ 44 ∷ 48 ∷ []) 0 (Some (Enter 0)) 3 (54 ∷ 44 ∷ 48 ∷ 10 ∷ [])  -- 6,0
    ∷ again (54 ∷ 44 ∷ 48 ∷ 10 ∷ []) 0 (Some (Enter 0)) 3 (54 ∷ 44 ∷ 48 ∷ 10 ∷ [])  -- 6,0LF
    ∷ again (54 ∷ 44 ∷ 48 ∷ 10 ∷ 120 ∷ 121 ∷ 122 ∷ []) 0 (Some (Enter 0)) 3 (54 ∷ 44 ∷ 48 ∷ 10 ∷ [])  -- 6,0LF xyz
    ∷ again (54 ∷ 44 ∷ 48 ∷ 48 ∷ 10 ∷ []) 0 None 4 []  -- 6,00LF
    ∷ again three_lines 4 (Some (Claim 63)) 9 (49 ∷ 48 ∷ 44 ∷ 54 ∷ 51 ∷ 10 ∷ [])
    ∷ again three_lines 10 (Some (Enter 1)) 13 (54 ∷ 44 ∷ 49 ∷ 10 ∷ [])
    ∷ []
