-- L3's statements in the numbers of specs/LawExamples.antt: used, met and refused.
use mathlib.Core.Path.{◌≡◌, refl, ap, subst}
use Prim.Native.Nat.{ℕ}
use native.Mathlib.Omega.{arith}
use mathlib.Core.List.{List, [], ◌∷◌}
use lib.ListN.{length, drop, get_or}
use Rattle.units.specs.Decimal.{digits}
use Rattle.decimal.specs.Buffer.{put_at, put_into, put_count}
use Rattle.decimal.specs.Examples.{hashes}
use Rattle.decimal.specs.LawExamples.{LawsUsed, LawsMet, LawsRefused}

pub laws_used : LawsUsed
unfolding digits put_at put_into put_count
laws_used =
    record {
      just_fits = λ used after p. p.enough (omega arith);
      too_short = λ used after p. p.short (omega arith);
      one_more = λ used after p.
          let e : used ≡ 2 = (p.enough (omega arith)).0 in
          (e, subst (λ (k : ℕ). drop k after ≡ drop k (hashes 3)) e p.kept);
      given = λ w. w 10 (1 ∷ 2 ∷ 3 ∷ 4 ∷ []);
      alone = λ w used after p. w 10 (1 ∷ 2 ∷ 3 ∷ 4 ∷ []) used after p;
      a_digit = λ n b. b.some;
      ten_digits = λ n b. b.within;
    }

pub laws_met : LawsMet
unfolding digits
laws_met =
    record {
      zero = record { enough = λ _. (refl, refl); short = λ h. omega (arith, h); kept = refl };
      zero_nowhere = record { enough = λ h. absurd (omega (arith, h)); short = λ _. refl; kept = refl };
      exact = record { enough = λ _. (refl, refl); short = λ h. omega (arith, h); kept = refl };
      more = record { enough = λ _. (refl, refl); short = λ h. omega (arith, h); kept = refl };
      less = record { enough = λ h. absurd (omega (arith, h)); short = λ _. refl; kept = refl };
    }

pub laws_refused : LawsRefused
unfolding digits
laws_refused =
    record {
      turned_away = λ p. let h : ◌≡◌ {A = ℕ} 0 2 = (p.enough (omega arith)).0 in omega (arith, h);
      longer_away = λ p. let h : ◌≡◌ {A = ℕ} 0 2 = (p.enough (omega arith)).0 in omega (arith, h);
      byte_after = λ p. let h : ◌≡◌ {A = ℕ} 10 35 = ap (λ (l : List ℕ). get_or l 0 0) p.kept in omega (arith, h);
      byte_gone = λ p. let h : ◌≡◌ {A = ℕ} 0 1 = ap length p.kept in omega (arith, h);
      few_digits = λ p. let h : ◌≡◌ {A = ℕ} 1 2 = (p.enough (omega arith)).0 in omega (arith, h);
      many_digits = λ p. let h : ◌≡◌ {A = ℕ} 3 2 = (p.enough (omega arith)).0 in omega (arith, h);
      untrue_count = λ p. let h : ◌≡◌ {A = ℕ} 3 2 = (p.enough (omega arith)).0 in omega (arith, h);
      other_digit = λ p. let h : ◌≡◌ {A = ℕ} 49 48 = ap (λ (l : List ℕ). get_or l 1 0) (p.enough (omega arith)).1 in omega (arith, h);
      part_told = λ p. let h : ◌≡◌ {A = ℕ} 1 0 = p.short (omega arith) in omega (arith, h);
      part_untold = λ p. let h : ◌≡◌ {A = ℕ} 49 35 = ap (λ (l : List ℕ). get_or l 0 0) p.kept in omega (arith, h);
      first_lost = λ p. let h : ◌≡◌ {A = ℕ} 19 20 = (p.enough (omega arith)).0 in omega (arith, h);
      first_untold = λ p. let h : ◌≡◌ {A = ℕ} 35 49 = ap (λ (l : List ℕ). get_or l 0 0) (p.enough (omega arith)).1 in omega (arith, h);
      too_long = λ b. omega (arith, b.within);
    }
