-- The cases of specs/Examples.antt, computed.
use mathlib.Core.Path.{◌≡◌, refl}
use native.Mathlib.Omega.{arith}
use Rattle.units.specs.Rounding.{down, up}
use Rattle.units.specs.Sums.{sum_to, sum_over, only}
use Rattle.units.specs.Decimal.{digits}
use Rattle.units.specs.Worked.{given, by_hand}
use Rattle.units.specs.Examples.{numbers, checked, roundings, Meanings, RoundingsUsed, reasons, sums, texts}

pub numbers_hold : given numbers ≡ by_hand numbers
unfolding numbers
numbers_hold = refl

pub checked_hold : given checked ≡ by_hand checked
unfolding checked
checked_hold = refl

pub roundings_hold : given roundings ≡ by_hand roundings
unfolding roundings down up
roundings_hold = refl

pub meanings : Meanings
unfolding down up
meanings =
    record {
      down_exact = record { within = omega arith; close = omega arith };
      down_last = record { within = omega arith; close = omega arith };
      down_too_low = λ r. omega (arith, r.close);
      down_too_high = λ r. omega (arith, r.within);
      down_by_one = record { within = omega arith; close = omega arith };
      up_exact = record { reaches = omega arith; least = λ d l. omega arith };
      up_first = record { reaches = omega arith; least = λ d l. omega arith };
      up_too_high = λ r. omega (arith, r.least 2 (omega arith));
      up_too_low = λ r. omega (arith, r.reaches);
      up_by_one = record { reaches = omega arith; least = λ d l. omega arith };
      within = λ c r. r.within;
      close = λ c r. omega (arith, r.close, r.within);
      reaches = λ c r. r.reaches;
      least = λ c r. r.least 3 (omega arith);
    }

pub roundings_used : RoundingsUsed
roundings_used =
    record {
      down_is = λ w a. (w a 1 (omega arith)).0;
      down_only = λ w a c r. (w a 7 (omega arith)).1 c r;
      up_is = λ w a. (w a 1 (omega arith)).0;
      up_only = λ w a c r. (w a 7 (omega arith)).1 c r;
    }

pub reasons_hold : given reasons ≡ by_hand reasons
unfolding reasons
reasons_hold = refl

pub sums_hold : given sums ≡ by_hand sums
unfolding sums sum_to sum_over only
sums_hold = refl

pub texts_hold : given texts ≡ by_hand texts
unfolding texts digits
texts_hold = refl
