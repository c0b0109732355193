-- A line's numbers, from what the field reader answers.
use Rattle.std.specs.Prelude.{Some, None, Option}
use mathlib.Core.Path.{◌≡◌, refl, sym, ap, ◌∙◌}
use mathlib.Core.List.{List, [], ◌∷◌}
use Prim.Native.Nat.{ℕ, ◌≤◌, ◌<◌}
use native.Mathlib.Omega.{arith}
use lib.ListN.{length, take, drop}
use lib.Dec.{leb}
use borrow.Author.Tests.{leb-true, leb-false}
use Rattle.units.proofs.Cases.{by_test}
use Rattle.fields.specs.declared.Fields.{Fields}
use Rattle.fields.specs.Grammar.{line_numbers, parts_of, all_numbers}
use Rattle.fields.specs.Fields.{field_bytes, fields_end, with_numbers, fields_at}
use Rattle.fields.proofs.LineLaws.{stops_short, all_field_bytes, line_short, line_long, numbers_in, numbers_many, fields_stop}
use Rattle.postings.specs.declared.Books.{Books}
use Rattle.postings.specs.Lines.{Posted, no_line, posted_of}

-- of more than four numbers a line is none
many : (b : Books) (ns : List ℕ) → 8 < length ns → no_line b ≡ posted_of b (Some ns)
many b [] h = absurd (omega arith)
many b (k ∷ []) h = absurd (omega arith)
many b (k ∷ x ∷ []) h = absurd (omega arith)
many b (k ∷ x ∷ y ∷ []) h = absurd (omega arith)
many b (k ∷ x ∷ y ∷ z ∷ []) h = absurd (omega arith)
many b (k ∷ x ∷ y ∷ z ∷ w ∷ ns) h = refl

-- the reader's answer and the numbers make the same of it
by_numbers : (b : Books) (stop : ℕ) (m : Option (List ℕ)) → posted_of b (Some (take (with_numbers stop m).count (with_numbers stop m).values)) ≡ posted_of b m
by_numbers b stop None = refl
by_numbers b stop (Some ns) =
    let read : List ℕ → Posted = λ l. posted_of b (Some l) in
    by_test
    (leb (length ns) 8)
    (λ e. ap read (numbers_in stop ns (leb-true _ _ e)))
    (λ e. let h : 8 < length ns = leb-false _ _ e in ap read (numbers_many stop ns h) ∙ many b ns h)

count_within : (stop : ℕ) (m : Option (List ℕ)) → (with_numbers stop m).count ≤ 8
count_within stop None = omega arith
count_within stop (Some ns) = by_test (leb (length ns) 8) (λ e. rw e (leb-true _ _ e)) (λ e. rw e (omega arith))

-- longer than 80 bytes
pub posted_long : (b : Books) (line : List ℕ) → 80 < length line → no_line b ≡ posted_of b (line_numbers line)
posted_long b line h = ap (posted_of b) (sym (line_long line h))

module _ (line : List ℕ) (f : Fields) (is : f ≡ fields_at line 0) where
  stop_is : f.stop ≡ length (field_bytes line)
  unfolding fields_end
  stop_is = omega (arith, ap (λ (x : Fields). x.stop) is ∙ fields_stop line 0)

  pub count_most : f.count ≤ 8
  unfolding fields_at
  count_most = rw is (count_within (fields_end line 0) (all_numbers (parts_of (field_bytes (drop 0 line)))))

  -- with a byte that is neither digit nor comma
  pub posted_stops : (b : Books) → length line ≤ 80 → f.stop < length line → no_line b ≡ posted_of b (line_numbers line)
  posted_stops b short h = ap (posted_of b) (sym (line_short line short ∙ stops_short line (omega (arith, stop_is))))

  -- at most 80 bytes, all read
  pub posted_read : (b : Books) → length line ≤ 80 → length line ≤ f.stop → posted_of b (Some (take f.count f.values)) ≡ posted_of b (line_numbers line)
  unfolding fields_at
  posted_read b short all =
      ap (λ (x : Fields). posted_of b (Some (take x.count x.values)))
      (is ∙ ap (λ (l : List ℕ). with_numbers (fields_end line 0) (all_numbers (parts_of l))) (all_field_bytes line (omega (arith, stop_is))))
      ∙ by_numbers b (fields_end line 0) (all_numbers (parts_of line))
      ∙ ap (posted_of b) (sym (line_short line short))
