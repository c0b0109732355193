-- The text of numbers, as the writer makes it: each with a comma after it, but for the last, which has byte 10.
use mathlib.Core.Path.{◌≡◌, refl, sym, ap, ◌∙◌, subst}
use mathlib.Core.List.{List, [], ◌∷◌, ◌++◌, map, append_assoc}
use Prim.Native.Nat.{ℕ, zero, suc, ◌+◌, ◌-◌, ◌≤◌, ◌<◌}
use native.Mathlib.Numerals.{add-one}
use native.Mathlib.Omega.{arith}
use native.Mathlib.Nat.{not-suc-le-zero, add-sub_of_le}
use lib.ListN.{length, take, drop, get_or, length-append}
use lib.Seq.{take-suc, take-add}
use Rattle.units.specs.Decimal.{digits}
use Rattle.decimal.specs.Buffer.{put_at}
use Rattle.decimal.proofs.Put.{Run, run_more}
use Rattle.lines.specs.CallText.{join_parts, line_of_numbers}

-- numbers, each with a comma after it
abbrev pub comma_text : List ℕ → List ℕ
comma_text [] = []
comma_text (n ∷ ns) = digits n ++ (44 ∷ comma_text ns)

comma_append : (a b : List ℕ) → comma_text (a ++ b) ≡ comma_text a ++ comma_text b
comma_append [] b = refl
comma_append (n ∷ a) b = ap (λ (t : List ℕ). digits n ++ (44 ∷ t)) (comma_append a b) ∙ sym (append_assoc (digits n) (44 ∷ comma_text a) (comma_text b))

-- the numbers before index i, and the one there
module _ (vs : List ℕ) (i : ℕ) (h : i < length vs) where
  next : take (i + 1) vs ≡ take i vs ++ (get_or vs i 0 ∷ [])
  next = rw (add-one i) (take-suc vs i 0 h)

  pub comma_more : comma_text (take (i + 1) vs) ≡ comma_text (take i vs) ++ (digits (get_or vs i 0) ++ (44 ∷ []))
  comma_more = ap comma_text next ∙ comma_append (take i vs) (get_or vs i 0 ∷ [])

  pub comma_longer : length (comma_text (take (i + 1) vs)) ≡ length (comma_text (take i vs)) + length (digits (get_or vs i 0)) + 1
  comma_longer =
      ap length comma_more
      ∙ omega (arith, length-append (comma_text (take i vs)) (digits (get_or vs i 0) ++ (44 ∷ [])), length-append (digits (get_or vs i 0)) (44 ∷ []))

  -- the last one ends the line
  pub line_last : (b : ℕ) → line_of_numbers (take (i + 1) vs) ++ (b ∷ []) ≡ comma_text (take i vs) ++ (digits (get_or vs i 0) ++ (b ∷ []))
  unfolding line_of_numbers
  line_last b = ap (λ (l : List ℕ). join_parts (map digits l) ++ (b ∷ [])) next ∙ join_last (take i vs) (get_or vs i 0)
    where
      join_last : (ns : List ℕ) (n : ℕ) → join_parts (map digits (ns ++ (n ∷ []))) ++ (b ∷ []) ≡ comma_text ns ++ (digits n ++ (b ∷ []))
      join_last [] n = refl
      join_last (m ∷ []) n =
          append_assoc (digits m) (44 ∷ digits n) (b ∷ []) ∙ sym (append_assoc (digits m) (44 ∷ []) (digits n ++ (b ∷ [])))
      join_last (m ∷ (k ∷ ns)) n =
          append_assoc (digits m) (44 ∷ join_parts (map digits ((k ∷ ns) ++ (n ∷ [])))) (b ∷ [])
          ∙ ap (λ (t : List ℕ). digits m ++ (44 ∷ t)) (join_last (k ∷ ns) n)
          ∙ sym (append_assoc (digits m) (44 ∷ comma_text (k ∷ ns)) (digits n ++ (b ∷ [])))

  -- it is as long as the numbers with their commas
  pub line_length : length (line_of_numbers (take (i + 1) vs)) + 1 ≡ length (comma_text (take (i + 1) vs))
  line_length =
      omega (
        arith,
        length-append (line_of_numbers (take (i + 1) vs)) (10 ∷ []),
        ap length (line_last 10),
        length-append (comma_text (take i vs)) (digits (get_or vs i 0) ++ (10 ∷ [])),
        length-append (digits (get_or vs i 0)) (10 ∷ []),
        comma_longer,
      )

-- more numbers take no less
pub comma_mono : (vs : List ℕ) (i k : ℕ) → i ≤ k → length (comma_text (take i vs)) ≤ length (comma_text (take k vs))
comma_mono vs i k h =
    let more : take k vs ≡ take i vs ++ take (k - i) (drop i vs) = ap (λ (n : ℕ). take n vs) (sym (add-sub_of_le h)) ∙ take-add i (k - i) vs in
    omega (
      arith,
      ap (λ (l : List ℕ). length (comma_text l)) more,
      ap length (comma_append (take i vs) (take (k - i) (drop i vs))),
      length-append (comma_text (take i vs)) (comma_text (take (k - i) (drop i vs))),
    )

-- of some numbers, by how many they are
pub line_size : (vs : List ℕ) (k : ℕ) → 0 < k → k ≤ length vs → length (line_of_numbers (take k vs)) + 1 ≡ length (comma_text (take k vs))
line_size vs zero p h = absurd (not-suc-le-zero p)
line_size vs (suc i) p h = subst (λ (n : ℕ). length (line_of_numbers (take n vs)) + 1 ≡ length (comma_text (take n vs))) (add-one i) (line_length vs i h)

-- i numbers written, each with a comma after it, and then the next one, where all of them fit
module _ (xs vs : List ℕ) (at count i : ℕ) (out : List ℕ) (p : ℕ) (inside : i < count) (few : count ≤ length vs)
    (fits : at + length (comma_text (take count vs)) ≤ length xs) (run : Run xs at (comma_text (take i vs)) out p)
  where
    here : i < length vs
    here = omega (arith, inside, few)

    pub next_fits : p + length (digits (get_or vs i 0)) + 1 ≤ length xs
    next_fits = omega (arith, run.place, comma_longer vs i here, comma_mono vs (i + 1) count (omega (arith, inside)), fits)

    -- with the byte b after it
    next_run : (b : ℕ) (y : List ℕ) (q : ℕ) → y ≡ put_at out p (digits (get_or vs i 0) ++ (b ∷ [])) → q ≡ p + length (digits (get_or vs i 0)) + 1
        → Run xs at (comma_text (take i vs) ++ (digits (get_or vs i 0) ++ (b ∷ []))) y q
    next_run b y q e l =
        let long : length (digits (get_or vs i 0) ++ (b ∷ [])) ≡ length (digits (get_or vs i 0)) + 1 = length-append (digits (get_or vs i 0)) (b ∷ []) in
        run_more xs at (comma_text (take i vs)) out (digits (get_or vs i 0) ++ (b ∷ [])) y p q run (omega (arith, long, run.place, next_fits)) e (omega (arith, long, l))

    pub comma_run : (y : List ℕ) (q : ℕ) → y ≡ put_at out p (digits (get_or vs i 0) ++ (44 ∷ [])) → q ≡ p + length (digits (get_or vs i 0)) + 1
        → Run xs at (comma_text (take (i + 1) vs)) y q
    comma_run y q e l = subst (λ (t : List ℕ). Run xs at t y q) (sym (comma_more vs i here)) (next_run 44 y q e l)

    pub line_run : i + 1 ≡ count → (y : List ℕ) (q : ℕ) → y ≡ put_at out p (digits (get_or vs i 0) ++ (10 ∷ [])) → q ≡ p + length (digits (get_or vs i 0)) + 1
        → y ≡ put_at xs at (line_of_numbers (take count vs) ++ (10 ∷ []))
    line_run last y q e l =
        (next_run 10 y q e l).text
        ∙ ap (put_at xs at) (sym (line_last vs i here 10) ∙ ap (λ (k : ℕ). line_of_numbers (take k vs) ++ (10 ∷ [])) last)
