-- Errors of a read or write, by number, and what is said of all of them.
use Rattle.std.specs.Prelude.{ℕ, ◌<◌, ◌≡◌, Bool, true, false, List, [], ◌∷◌, ℤ, pos, negsuc, None, Some}
use Rattle.std.specs.declared.io.ErrorKind.TheVariants.{BrokenPipe, Interrupted, NotFound, Other, StorageFull, TimedOut, Uncategorized, WouldBlock, WriteZero}
use Rattle.stdio.specs.Passing.{passes, number_in, TwoPass}

-- an error, and whether it passes
unfoldable pub errors : List (Bool × Bool)
errors =
    -- EINTR and EAGAIN, and the numbers beside them
    (passes (pos 4), true)
    ∷ (passes (pos 11), true)
    ∷ (passes (pos 3), false)
    ∷ (passes (pos 5), false)
    ∷ (passes (pos 10), false)
    ∷ (passes (pos 12), false)
    -- no error; EPERM, EBADF, ENOSPC, EPIPE
    ∷ (passes (pos 0), false)
    ∷ (passes (pos 1), false)
    ∷ (passes (pos 9), false)
    ∷ (passes (pos 28), false)
    ∷ (passes (pos 32), false)
    -- 44 and 411; 4 and 11 with a bit more, up to the largest
    ∷ (passes (pos 44), false)
    ∷ (passes (pos 411), false)
    ∷ (passes (pos 260), false)
    ∷ (passes (pos 267), false)
    ∷ (passes (pos 65540), false)
    ∷ (passes (pos 65547), false)
    ∷ (passes (pos 1073741828), false)
    ∷ (passes (pos 1073741835), false)
    ∷ (passes (pos 2147483647), false)
    ∷ (passes (pos 4294967295), false)
    ∷ (passes (pos 4294967300), false)
    ∷ (passes (pos 4294967307), false)
    -- -1, -4, -5, -11, -12 and the least
    ∷ (passes (negsuc 0), false)
    ∷ (passes (negsuc 3), false)
    ∷ (passes (negsuc 4), false)
    ∷ (passes (negsuc 10), false)
    ∷ (passes (negsuc 11), false)
    ∷ (passes (negsuc 2147483647), false)
    ∷ []

-- the number of an error: the system's, whatever its kind, or that of its kind
unfoldable pub numbers : List (ℤ × ℤ)
numbers =
    (number_in (Some (pos 5)) Interrupted, pos 5)
    ∷ (number_in (Some (pos 4)) WouldBlock, pos 4)
    ∷ (number_in (Some (pos 11)) Uncategorized, pos 11)
    ∷ (number_in (Some (pos 0)) Interrupted, pos 0)
    ∷ (number_in (Some (negsuc 0)) WouldBlock, negsuc 0)
    ∷ (number_in None Interrupted, pos 4)
    ∷ (number_in None WouldBlock, pos 11)
    ∷ (number_in None NotFound, pos 0)
    ∷ (number_in None BrokenPipe, pos 0)
    ∷ (number_in None TimedOut, pos 0)
    ∷ (number_in None WriteZero, pos 0)
    ∷ (number_in None StorageFull, pos 0)
    ∷ (number_in None Other, pos 0)
    ∷ (number_in None Uncategorized, pos 0)
    ∷ []

-- the law used: below 4, between the two, above 11 and below 0 nothing passes
pub record PassingUsed : Type 0 where
  pub before : TwoPass → (n : ℕ) → n < 4 → passes (pos n) ≡ false
  pub between : TwoPass → (n : ℕ) → 4 < n → n < 11 → passes (pos n) ≡ false
  pub above : TwoPass → (n : ℕ) → 11 < n → passes (pos n) ≡ false
  pub negative : TwoPass → (n : ℕ) → passes (negsuc n) ≡ false
  pub four : TwoPass → (e : ℤ) → e ≡ pos 4 → passes e ≡ true
  pub eleven : TwoPass → (e : ℤ) → e ≡ pos 11 → passes e ≡ true
