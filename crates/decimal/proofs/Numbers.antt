-- What the number writers promise is what L3 says, no less (`numbers-put`) and no more (`put_alone`).
use mathlib.Core.Path.{◌≡◌, sym, ap, subst, ◌∙◌}
use Prim.Native.Nat.{ℕ, suc, ◌≤◌, ◌<◌, ◌^◌}
use native.Mathlib.Omega.{arith}
use mathlib.Core.List.{List, ◌++◌}
use lib.ListN.{length, drop, take-append-drop}
use lib.Seq.{take-append_seam, drop-append_seam}
use Rattle.units.specs.Decimal.{digits}
use Rattle.units.proofs.Cases.{by_order}
use Rattle.decimal.specs.Buffer.{put_into, put_count, TextPut}
use Rattle.decimal.specs.Numbers.{NumbersPut, PutAlone, NumberBounded}
use Rattle.decimal.proofs.Digits.{digits_some, digits_most}
use Rattle.decimal.proofs.Put.{put_fits, put_short, count_fits, count_short}

module _ (text before : List ℕ) where
  put_where_short : length before < length text → TextPut text before (put_count before text) (put_into before text)
  put_where_short h =
      record {
        enough = λ f. absurd (omega (arith, h, f));
        short = λ _. count_short before text h;
        kept = ap (drop (put_count before text)) (put_short before text h);
      }

  put_where_fits : length text ≤ length before → TextPut text before (put_count before text) (put_into before text)
  put_where_fits h =
      let count = count_fits before text h in
      let put = put_fits before text h in
      record {
        enough = λ _. (count, rw (count, put) (take-append_seam text _));
        short = λ s. absurd (omega (arith, h, s));
        kept = rw (count, put) (drop-append_seam text _);
      }

  pub text_put : TextPut text before (put_count before text) (put_into before text)
  text_put = by_order (length before) (length text) put_where_short put_where_fits

  module _ (used : ℕ) (after : List ℕ) (p : TextPut text before used after) where
    alone_where_short : length before < length text → (used ≡ put_count before text) × (after ≡ put_into before text)
    alone_where_short h = (
      p.short h ∙ sym (count_short before text h),
      subst (λ (k : ℕ). drop k after ≡ drop k before) (p.short h) p.kept ∙ sym (put_short before text h),
    )

    alone_where_fits : length text ≤ length before → (used ≡ put_count before text) × (after ≡ put_into before text)
    alone_where_fits h = (
      (p.enough h).0 ∙ sym (count_fits before text h),
      sym (take-append-drop used after)
          ∙ ap (λ (l : List ℕ). l ++ drop used after) (p.enough h).1
          ∙ ap (λ (l : List ℕ). text ++ l) p.kept
          ∙ ap (λ (k : ℕ). text ++ drop k before) (p.enough h).0
          ∙ sym (put_fits before text h),
    )

    pub text_alone : (used ≡ put_count before text) × (after ≡ put_into before text)
    text_alone = by_order (length before) (length text) alone_where_short alone_where_fits

pub numbers_put : NumbersPut
numbers_put n = text_put (digits n)

pub put_alone : PutAlone
put_alone n = text_alone (digits n)

pub number_bounded : (k n : ℕ) → n < 10 ^ suc k → NumberBounded n (suc k)
number_bounded k n h = record { some = digits_some n; within = digits_most k n h }

-- of 32 bits and of 64
pub ten_bounded : (n : ℕ) → n < 2 ^ 32 → NumberBounded n 10
ten_bounded n h = number_bounded 9 n (omega arith)

pub twenty_bounded : (n : ℕ) → n < 2 ^ 64 → NumberBounded n 20
twenty_bounded n h = number_bounded 19 n (omega arith)

pub ruleset number_bounds = (ten_bounded, twenty_bounded)
