-- Which errors of a read or write pass, so that it is tried again. Assumes nothing.
use Rattle.std.specs.Prelude.{◌≡◌, ◌⊎◌, Bool, true, false, ◌||◌, ℤ, pos, negsuc, eqb, None, Some}
use Rattle.std.specs.IoError.{error_kind, raw_os_error}
use Rattle.std.specs.declared.io.Error.{Error}
use Rattle.std.specs.declared.io.ErrorKind.{ErrorKind}
use Rattle.std.specs.declared.io.ErrorKind.TheVariants.{Interrupted, WouldBlock}
use Rattle.std.specs.declared.option.Option.{Option}

-- 4 is EINTR, a signal came; 11 is EAGAIN, there is nothing to read, or no room, for now
abbrev pub passes : ℤ → Bool
passes (pos n) = eqb n 4 || eqb n 11
passes (negsuc n) = false

-- these two pass, and no other number
pub record TwoPass : Type 0 where
  pub only : (e : ℤ) → passes e ≡ true → (e ≡ pos 4) ⊎ (e ≡ pos 11)
  pub four : passes (pos 4) ≡ true
  pub eleven : passes (pos 11) ≡ true

-- the number of a kind of error, 0 where a read or write does not pass
abbrev pub number_of_kind : ErrorKind → ℤ
number_of_kind Interrupted = pos 4
number_of_kind WouldBlock = pos 11
number_of_kind _ = pos 0

-- the number of an error: the system's, or that of its kind
abbrev pub number_in : Option ℤ → ErrorKind → ℤ
number_in (Some number) kind = number
number_in None kind = number_of_kind kind

abbrev pub number_of : Error → ℤ
number_of e = number_in (raw_os_error e) (error_kind e)
