-- Digits and text in a buffer, computed.
use mathlib.Core.Path.{◌≡◌, refl}
use mathlib.Core.List.{List, map}
use Prim.Native.Nat.{ℕ}
use lib.ListN.{length}
use Rattle.units.specs.Decimal.{digits}
use Rattle.decimal.specs.Buffer.{put_at, put_into, put_count, put_from}
use Rattle.decimal.specs.Examples.{hashes, numbers_written, numbers_fitted, texts_put, texts_fitted, texts_from}

pub numbers_written_lem : map (λ (e : ℕ × List ℕ × ℕ). (e.0, digits e.0, length (digits e.0))) numbers_written ≡ numbers_written
unfolding numbers_written digits
numbers_written_lem = refl

pub numbers_fitted_lem : map (λ (e : ℕ × ℕ × ℕ × List ℕ). (e.0, e.1, put_count (hashes e.1) (digits e.0), put_into (hashes e.1) (digits e.0))) numbers_fitted ≡ numbers_fitted
unfolding numbers_fitted digits put_at put_into put_count
numbers_fitted_lem = refl

pub texts_put_lem : map (λ (e : List ℕ × ℕ × List ℕ × List ℕ). (e.0, e.1, e.2, put_at e.0 e.1 e.2)) texts_put ≡ texts_put
unfolding texts_put put_at
texts_put_lem = refl

pub texts_fitted_lem : map (λ (e : List ℕ × List ℕ × List ℕ × ℕ). (e.0, e.1, put_into e.0 e.1, put_count e.0 e.1)) texts_fitted ≡ texts_fitted
unfolding texts_fitted put_at put_into put_count
texts_fitted_lem = refl

pub texts_from_lem : map (λ (e : List ℕ × ℕ × List ℕ × List ℕ). (e.0, e.1, e.2, put_from e.0 e.1 e.2)) texts_from ≡ texts_from
unfolding texts_from put_at put_from
texts_from_lem = refl
