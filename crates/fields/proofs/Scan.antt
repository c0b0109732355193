-- The numbers read byte by byte: `scan` is what the loops of the reader do, and `scan-line` says that it reads what the form of a
-- line gives.
use mathlib.Core.Path.{◌≡◌, refl, sym, ap, ◌∙◌, subst}
use mathlib.Core.Bool.{Bool, true, false, not, cond, ◌&&◌}
use mathlib.Core.Logic.{◌⊎◌, inl, inr}
use mathlib.Core.List.{List, [], ◌∷◌, ◌++◌, append_assoc, append-nil}
use Rattle.std.specs.Prelude.{Some, None, Option}
use Prim.Native.Nat.{ℕ, suc, ◌+◌, ◌*◌, ◌-◌, ◌≤◌, ◌<◌}
use native.Mathlib.Omega.{arith}
use native.Mathlib.Nat.{le_refl, le_trans, not-suc-le-zero}
use lib.Arith.{lt_of_le-ne}
use lib.ListN.{length, length-append, length-drop, length-set, take, drop, set, get_or, replicate, drop_of_length-le, take-append-drop}
use lib.Seq.{take_all, drop-cons, drop-set-lt, drop-drop, take-suc-set, length-take-le}
use native.Mathlib.Numerals.{add-one}
use lib.Dec.{leb, ltb, eqb}
use borrow.Author.Tests.{le-leb, lt-leb, lt-ltb, ne_eqb, leb-true, leb-false, ltb-true, ltb-false, eqb-true, eqb-false}
use Rattle.std.specs.Option.{unwrap_or}
use Rattle.std.specs.List.{slice_range, position_or_len, position}
use Rattle.std.proofs.lemmas.List.{length-take}
use Rattle.std.proofs.lemmas.List.Recursion.{is_position_or_len}
use Rattle.units.specs.Counts.{largest}
use Rattle.units.proofs.Cases.{false_not_true, by_test, by_order}
use Rattle.fields.specs.Grammar.{is_digit, all_digits, value_from, is_number, number_of, on_first, parts_of, cons_number, all_numbers}
use Rattle.fields.specs.Fields.{is_field_byte, field_bytes, fields_end, with_numbers, fields_at, field_step, first_step, comma_at}
use Rattle.fields.specs.declared.Fields.{Fields}
use Rattle.fields.specs.declared.FieldStep.{FieldStep}
use Rattle.fields.specs.declared.FieldStep.TheVariants.{Value, End, Bad}

abbrev pub on_step : FieldStep → (ℕ → Option (List ℕ)) → Option (List ℕ) → Option (List ℕ)
on_step (Value w) f m = f w
on_step End f m = m
on_step Bad f m = None

-- bytes, the numbers before them, whether a field has begun, and its value
abbrev pub scan : List ℕ → List ℕ → Bool → ℕ → Option (List ℕ)
scan [] ns s v = cond s (Some (ns ++ (v ∷ []))) None
scan (b ∷ bs) ns s v =
    cond (eqb b 44) (cond s (scan bs (ns ++ (v ∷ [])) false 0) None)
    (on_step (field_step s v b) (λ w. scan bs ns true w) (cond s (Some (ns ++ (v ∷ []))) None))

-- ---- tests

and_false : (x : Bool) → (x && false) ≡ false
and_false true = refl
and_false false = refl

and_true : (x : Bool) → (x && true) ≡ x
and_true true = refl
and_true false = refl

-- ---- values

pub value_more : (n : ℕ) (ds : List ℕ) (b : ℕ) → value_from n (ds ++ (b ∷ [])) ≡ value_from n ds * 10 + (b - 48)
value_more n [] b = refl
value_more n (d ∷ ds) b = value_more (n * 10 + (d - 48)) ds b

value_grows : (n : ℕ) (ds : List ℕ) → n ≤ value_from n ds
value_grows n [] = le_refl n
value_grows n (d ∷ ds) = le_trans (omega arith) (value_grows (n * 10 + (d - 48)) ds)

value_split : (n : ℕ) (ds es : List ℕ) → value_from n (ds ++ es) ≡ value_from (value_from n ds) es
value_split n [] es = refl
value_split n (d ∷ ds) es = value_split (n * 10 + (d - 48)) ds es

-- ---- fields that are no number

pub all_more : (ds : List ℕ) (b : ℕ) → all_digits ds ≡ true → is_digit b ≡ true → all_digits (ds ++ (b ∷ [])) ≡ true
all_more [] b p q = rw q
all_more (d ∷ ds) b p q =
    by_test (is_digit d) (λ e. rw (e, all_more ds b (rw e at p) q)) (λ e. absurd (false_not_true (rw e at p)))

all_bad : (ds : List ℕ) (b : ℕ) (p : List ℕ) → is_digit b ≡ false → all_digits (ds ++ (b ∷ p)) ≡ false
all_bad [] b p e = rw e
all_bad (d ∷ ds) b p e = rw (all_bad ds b p e) (and_false (is_digit d))

number_bad : (l : List ℕ) → all_digits l ≡ false → is_number l ≡ false
number_bad [] e = refl
number_bad (d ∷ []) e = sym (and_true (is_digit d)) ∙ e
number_bad (d ∷ (f ∷ l)) e = rw e (and_false (not (eqb d 48)))

no_digits : (l : List ℕ) → all_digits l ≡ false → number_of l ≡ None
unfolding number_of
no_digits l e = rw (number_bad l e)

too_large : (l : List ℕ) → largest < value_from 0 l → number_of l ≡ None
unfolding number_of
too_large l h = rw (lt-leb _ _ h, and_false)

-- ---- a field so far: nothing, a lone 0, or digits that begin with another

data State : List ℕ → Bool → ℕ → Type 0 where
  fresh : State [] false 0
  lone : State (48 ∷ []) true 0
  more : (d : ℕ) (ds : List ℕ) (v : ℕ) → (d ≡ 48 → ⊥) → all_digits (d ∷ ds) ≡ true → v ≡ value_from 0 (d ∷ ds) → 0 < v → v ≤ largest
      → State (d ∷ ds) true v

number_more : (d : ℕ) (ds : List ℕ) → (d ≡ 48 → ⊥) → all_digits (d ∷ ds) ≡ true → is_number (d ∷ ds) ≡ true
number_more d [] z a = sym (and_true (is_digit d)) ∙ a
number_more d (e ∷ ds) z a = rw (ne_eqb _ _ z, a)

pub number_good : (d : ℕ) (ds : List ℕ) (v : ℕ) → (d ≡ 48 → ⊥) → all_digits (d ∷ ds) ≡ true → v ≡ value_from 0 (d ∷ ds) → v ≤ largest
    → number_of (d ∷ ds) ≡ Some v
unfolding number_of
number_good d ds v z a e h = rw (number_more d ds z a, ← e, le-leb _ _ h)

-- bytes before the first part
abbrev pub on_all : List ℕ → List (List ℕ) → List (List ℕ)
on_all [] ps = ps
on_all (d ∷ ds) ps = on_first d (on_all ds ps)

pub all_cons : (ds p : List ℕ) (ps : List (List ℕ)) → on_all ds (p ∷ ps) ≡ (ds ++ p) ∷ ps
all_cons [] p ps = refl
all_cons (d ∷ ds) p ps = ap (on_first d) (all_cons ds p ps)

pub all_snoc : (ds : List ℕ) (b : ℕ) (ps : List (List ℕ)) → on_all (ds ++ (b ∷ [])) ps ≡ on_all ds (on_first b ps)
all_snoc [] b ps = refl
all_snoc (d ∷ ds) b ps = ap (on_first d) (all_snoc ds b ps)

first_cons : (b : ℕ) (ps : List (List ℕ)) → (p : List ℕ) × (qs : List (List ℕ)) × (on_first b ps ≡ (b ∷ p) ∷ qs)
first_cons b [] = ([], [], refl)
first_cons b (p ∷ ps) = (p, ps, refl)

abbrev join_n : List ℕ → Option (List ℕ) → Option (List ℕ)
join_n ns None = None
join_n ns (Some ms) = Some (ns ++ ms)

join_snoc : (ns : List ℕ) (v : ℕ) (m : Option (List ℕ)) → join_n (ns ++ (v ∷ [])) m ≡ join_n ns (cons_number (Some v) m)
join_snoc ns v None = refl
join_snoc ns v (Some ms) = ap {B = Option (List ℕ)} Some (append_assoc ns (v ∷ []) ms)

-- a field that is no number leaves none
first_none : (ds : List ℕ) (b : ℕ) (ps : List (List ℕ)) → ((p : List ℕ) → number_of (ds ++ (b ∷ p)) ≡ None)
    → all_numbers (on_all ds (on_first b ps)) ≡ None
first_none ds b ps h =
    let f = first_cons b ps in
    rw (f.2, all_cons ds (b ∷ f.0) f.1, h f.0)

pub first_bad : (ds : List ℕ) (b : ℕ) (ps : List (List ℕ)) → is_digit b ≡ false → all_numbers (on_all ds (on_first b ps)) ≡ None
first_bad ds b ps t = first_none ds b ps (λ p. no_digits _ (all_bad ds b p t))

number_is : (ds : List ℕ) (s : Bool) (v : ℕ) → State ds s v → number_of ds ≡ cond s (Some v) None
unfolding number_of
number_is ds s v fresh = refl
number_is ds s v lone = refl
number_is ds s v (more d es w z a e p h) = number_good d es w z a e h

-- the fields' end
end_with : (ns : List ℕ) (s : Bool) (v : ℕ) → cond s (Some (ns ++ (v ∷ []))) None ≡ join_n ns (cons_number (cond s (Some v) None) (Some []))
end_with ns true v = refl
end_with ns false v = refl

end_is : (ns ds : List ℕ) (s : Bool) (v : ℕ) → State ds s v
    → cond s (Some (ns ++ (v ∷ []))) None ≡ join_n ns (all_numbers (on_all ds ([] ∷ [])))
end_is ns ds s v st = rw (all_cons ds [] [], append-nil ds, number_is ds s v st) (end_with ns s v)

-- a comma
comma_with : (ns : List ℕ) (s : Bool) (v : ℕ) (r m : Option (List ℕ)) → r ≡ join_n (ns ++ (v ∷ [])) m
    → cond s r None ≡ join_n ns (cons_number (cond s (Some v) None) m)
comma_with ns true v r m q = q ∙ join_snoc ns v m
comma_with ns false v r m q = refl

comma_is : (ns ds : List ℕ) (s : Bool) (v : ℕ) (r : Option (List ℕ)) (ps : List (List ℕ)) → State ds s v
    → r ≡ join_n (ns ++ (v ∷ [])) (all_numbers ps) → cond s r None ≡ join_n ns (all_numbers (on_all ds ([] ∷ ps)))
comma_is ns ds s v r ps st q = rw (all_cons ds [] ps, append-nil ds, number_is ds s v st) (comma_with ns s v r (all_numbers ps) q)

-- a digit
pub low : (b : ℕ) → is_digit b ≡ true → 48 ≤ b
low b e = by_test (leb 48 b) (leb-true 48 b) (λ f. absurd (false_not_true (rw f at e)))

pub high : (b : ℕ) → is_digit b ≡ true → b ≤ 57
high b e = leb-true b 57 (rw (le-leb _ _ (low b e)) at e)

state_one : (b : ℕ) → is_digit b ≡ true → State (b ∷ []) true (0 * 10 + (b - 48))
state_one b e =
    by_test
    (eqb b 48)
    (λ f. subst (λ (x : ℕ). State (x ∷ []) true (0 * 10 + (x - 48))) (sym (eqb-true b 48 f)) lone)
    (λ f.
    let z : b ≡ 48 → ⊥ = eqb-false b 48 f in
    let l : 48 ≤ b = low b e in
    let h : b ≤ 57 = high b e in
    let less : 48 < b = lt_of_le-ne l (λ q. z (sym q)) in
    more b [] (0 * 10 + (b - 48)) z (rw e) refl (omega arith) (omega arith))

module _ (ns : List ℕ) (b : ℕ) (k : ℕ → Option (List ℕ)) (m : Option (List ℕ)) (ps : List (List ℕ)) where
  digit_is : (ds : List ℕ) (s : Bool) (v : ℕ) → State ds s v
      → ((es : List ℕ) (w : ℕ) → State es true w → k w ≡ join_n ns (all_numbers (on_all es ps)))
      → is_digit b ≡ true → on_step (field_step s v b) k m ≡ join_n ns (all_numbers (on_all ds (on_first b ps)))
  unfolding field_step number_of
  digit_is ds s v fresh ih e =
      let h : b ≤ 57 = high b e in
      rw (e, le-leb (0 * 10 + (b - 48)) largest (omega arith)) (ih (b ∷ []) (0 * 10 + (b - 48)) (state_one b e))
  digit_is ds s v lone ih e = rw (e, first_none (48 ∷ []) b ps (λ p. refl))
  digit_is ds s v (more d es w z a q p h) ih e =
      let pos : (w ≡ 0 → ⊥) = λ f. not-suc-le-zero (subst (λ (x : ℕ). 0 < x) f p) in
      rw (e, ne_eqb _ _ pos)
      (by_test
      (leb (w * 10 + (b - 48)) largest)
      (λ t.
      rw t
      (ih ((d ∷ es) ++ (b ∷ [])) (w * 10 + (b - 48))
      (more d (es ++ (b ∷ [])) (w * 10 + (b - 48)) z (all_more (d ∷ es) b a e)
      (ap (λ (x : ℕ). x * 10 + (b - 48)) q ∙ sym (value_more 0 (d ∷ es) b)) (omega arith) (leb-true _ _ t))
      ∙ ap (λ (l : List (List ℕ)). join_n ns (all_numbers l)) (all_snoc (d ∷ es) b ps)))
      (λ t.
      rw t
      (sym (ap (join_n ns) (first_none (d ∷ es) b ps
      (λ r.
      too_large ((d ∷ es) ++ (b ∷ r))
      (omega (arith, leb-false (w * 10 + (b - 48)) largest t, value_split 0 (d ∷ es) (b ∷ r), value_grows (value_from 0 (d ∷ es) * 10 + (b - 48)) r, q))))))))

-- a byte that is no digit ends the field
no_digit : (s : Bool) (v b : ℕ) → is_digit b ≡ false → field_step s v b ≡ End
unfolding field_step
no_digit s v b t = rw t

scan_is : (bs ns ds : List ℕ) (s : Bool) (v : ℕ) → State ds s v → scan bs ns s v ≡ join_n ns (all_numbers (on_all ds (parts_of (field_bytes bs))))
scan_is [] ns ds s v st = end_is ns ds s v st
scan_is (b ∷ bs) ns ds s v st =
    by_test
    (eqb b 44)
    (λ e. rw (e, e) (comma_is ns ds s v _ (parts_of (field_bytes bs)) st (scan_is bs (ns ++ (v ∷ [])) [] false 0 fresh)))
    (λ e.
    rw e
    (by_test
    (is_digit b)
    (λ t.
    rw (t, e)
    (digit_is ns b (λ w. scan bs ns true w) _ (parts_of (field_bytes bs)) ds s v st (λ es w st'. scan_is bs ns es true w st') t))
    (λ t. rw (t, no_digit s v b t) (end_is ns ds s v st))))

-- the whole line
join_none : (m : Option (List ℕ)) → join_n [] m ≡ m
join_none None = refl
join_none (Some ms) = refl

pub scan_line : (bs : List ℕ) → all_numbers (parts_of (field_bytes bs)) ≡ scan bs [] false 0
scan_line bs = sym (scan_is bs [] [] false 0 fresh ∙ join_none _)

-- ---- more than eight numbers are refused

abbrev pub no_fields : ℕ → Fields
no_fields stop = with_numbers stop None

long_cond : (stop : ℕ) (s : Bool) (r : Option (List ℕ)) → with_numbers stop r ≡ no_fields stop
    → with_numbers stop (cond s r None) ≡ no_fields stop
long_cond stop true r e = e
long_cond stop false r e = refl

long_digit : (stop : ℕ) (d : FieldStep) (k : ℕ → Option (List ℕ)) (m : Option (List ℕ)) → ((w : ℕ) → with_numbers stop (k w) ≡ no_fields stop)
    → with_numbers stop m ≡ no_fields stop → with_numbers stop (on_step d k m) ≡ no_fields stop
long_digit stop (Value w) k m e f = e w
long_digit stop End k m e f = f
long_digit stop Bad k m e f = refl

long_end : (stop : ℕ) (ns : List ℕ) (v : ℕ) → 8 ≤ length ns → with_numbers stop (Some (ns ++ (v ∷ []))) ≡ no_fields stop
long_end stop ns v h = rw (lt-leb (length (ns ++ (v ∷ []))) 8 (omega (arith, length-append ns (v ∷ []))))

long : (stop : ℕ) (bs ns : List ℕ) (s : Bool) (v : ℕ) → 8 ≤ length ns → with_numbers stop (scan bs ns s v) ≡ no_fields stop
long stop [] ns s v h = long_cond stop s _ (long_end stop ns v h)
long stop (b ∷ bs) ns s v h =
    by_test
    (eqb b 44)
    (λ e. rw e (long_cond stop s _ (long stop bs (ns ++ (v ∷ [])) false 0 (omega (arith, length-append ns (v ∷ []))))))
    (λ e.
    rw e
    (long_digit stop (field_step s v b) (λ w. scan bs ns true w) _ (λ w. long stop bs ns true w h)
    (long_cond stop s _ (long_end stop ns v h))))

-- ---- what field_step tells of the byte

abbrev goes : FieldStep → Bool
goes (Value w) = true
goes End = false
goes Bad = true

goes_on : (s t : Bool) (w : ℕ) → goes (cond s Bad (cond t (Value w) Bad)) ≡ true
goes_on true t w = refl
goes_on false true w = refl
goes_on false false w = refl

goes_is : (s : Bool) (v b : ℕ) → goes (field_step s v b) ≡ is_digit b
unfolding field_step
goes_is s v b = by_test (is_digit b) (λ t. rw t (goes_on (s && eqb v 0) (leb (v * 10 + (b - 48)) largest) _)) (λ t. rw t)

digit_goes : (s : Bool) (v b : ℕ) (d : FieldStep) → field_step s v b ≡ d → is_digit b ≡ goes d
digit_goes s v b d e = sym (goes_is s v b) ∙ ap goes e

pub no_comma : (b : ℕ) → is_digit b ≡ true → eqb b 44 ≡ false
no_comma b t = ne_eqb b 44 (λ e. absurd (omega (arith, low b t)))

digit_field : (b : ℕ) → is_digit b ≡ true → is_field_byte b ≡ true
digit_field b t = rw (no_comma b t) t

-- the place of the first other byte, in the library's words
abbrev other : ℕ → Bool
other b = not (is_field_byte b)

passed_over : (b : ℕ) (bs : List ℕ) → length (field_bytes (b ∷ bs)) ≡ cond (other b) 0 (1 + length (field_bytes bs))
passed_over b bs = by_test (is_field_byte b) (λ e. rw e (omega arith)) (λ e. rw e)

all_passed : (l : List ℕ) → length (field_bytes l) ≡ position_or_len other l
all_passed = is_position_or_len (λ (l : List ℕ). length (field_bytes l)) other refl passed_over

no_more : (l : List ℕ) → length (field_bytes l) ≤ length l
no_more [] = le_refl 0
no_more (b ∷ bs) = by_test (is_field_byte b) (λ e. rw e (omega (arith, no_more bs))) (λ e. rw e (omega arith))

found : (l : List ℕ) → unwrap_or (position other l) (length l) ≡ length (field_bytes l)
found l =
    by_test
    (ltb (position_or_len other l) (length l))
    (λ e. rw e (sym (all_passed l)))
    (λ e. rw e (omega (arith, no_more l, all_passed l, ltb-false (position_or_len other l) (length l) e)))

pub found_within : (l : List ℕ) (r : Option ℕ) → r ≡ position other l → unwrap_or r (length l) ≤ length l
found_within l r e = rw (e, found l) (no_more l)

-- ---- steps of the reader, at index i of the bytes l

module _ (l : List ℕ) (i : ℕ) where
  end_more : i < length l → is_field_byte (get_or l i 0) ≡ true → fields_end l i ≡ fields_end l (i + 1)
  unfolding fields_end
  end_more h e = rw (drop-cons l i 0 h, e, add-one i) (omega arith)

  end_here : i < length l → is_field_byte (get_or l i 0) ≡ false → fields_end l i ≡ i
  unfolding fields_end
  end_here h e = rw (drop-cons l i 0 h, e) (omega arith)

  pub end_found : (bs : List ℕ) (r : Option ℕ) → bs ≡ slice_range l i (length l) → r ≡ position other bs
      → i + unwrap_or r (length bs) ≡ fields_end l i
  unfolding fields_end
  end_found bs r e f =
      let whole : bs ≡ drop i l = e ∙ take_all (length l - i) (drop i l) (omega (arith, length-drop i l)) in
      rw (f, found bs, whole)

  pub end_past : length l ≤ i → fields_end l i ≡ i
  unfolding fields_end
  end_past h = rw (drop_of_length-le l {i = i} h) (omega arith)

  -- a field ends where the bytes do or at a byte that is no digit
  abbrev pub Ends : Type 0
  Ends = (length l ≤ i) ⊎ ((i < length l) × (is_digit (get_or l i 0) ≡ false))

  pub comma_in : comma_at l i ≡ true → i < length l
  unfolding comma_at
  comma_in e = by_test (ltb i (length l)) (ltb-true i (length l)) (λ f. absurd (false_not_true (rw f at e)))

  comma_is_44 : comma_at l i ≡ true → eqb (get_or l i 0) 44 ≡ true
  unfolding comma_at
  comma_is_44 e = rw (lt-ltb _ _ (comma_in e)) at e

  comma_not : i < length l → comma_at l i ≡ false → eqb (get_or l i 0) 44 ≡ false
  unfolding comma_at
  comma_not h e = rw (lt-ltb _ _ h) at e

  pub end_digit : i < length l → is_digit (get_or l i 0) ≡ true → fields_end l i ≡ fields_end l (i + 1)
  end_digit h t = end_more h (digit_field (get_or l i 0) t)

  pub end_comma : comma_at l i ≡ true → fields_end l i ≡ fields_end l (i + 1)
  end_comma e = end_more (comma_in e) (rw (comma_is_44 e))

  pub end_stop : Ends → comma_at l i ≡ false → fields_end l i ≡ i
  end_stop (inl h) e = end_past h
  end_stop (inr h) e = end_here h.0 (rw (comma_not h.0 e) h.1)

-- what the reader answers from index i on: ns are the numbers before, s and v the field so far
abbrev pub rest : List ℕ → ℕ → List ℕ → Bool → ℕ → Fields
rest l i ns s v = with_numbers (fields_end l i) (scan (drop i l) ns s v)

pub at_start : (l : List ℕ) (from : ℕ) → fields_at l from ≡ rest l from [] false 0
unfolding fields_at
at_start l from = ap (with_numbers (fields_end l from)) (scan_line (drop from l))

-- a byte of a field
module _ (l : List ℕ) (i : ℕ) (ns : List ℕ) (s : Bool) (v : ℕ) (h : i < length l) where
  pub digit_step : (w : ℕ) → field_step s v (get_or l i 0) ≡ Value w → rest l i ns s v ≡ rest l (i + 1) ns true w
  digit_step w e =
      let t : is_digit (get_or l i 0) ≡ true = digit_goes s v _ (Value w) e in
      rw (end_digit l i h t, add-one i, drop-cons l i 0 h, no_comma _ t, e)

  pub digit_bad : field_step s v (get_or l i 0) ≡ Bad → rest l i ns s v ≡ no_fields (fields_end l i)
  digit_bad e = rw (drop-cons l i 0 h, no_comma _ (digit_goes s v _ Bad e), e)

  pub digit_end : field_step s v (get_or l i 0) ≡ End → Ends l i
  digit_end e = inr (h, digit_goes s v _ End e)

-- its first byte
first_is : (l : List ℕ) (i : ℕ) → i < length l → first_step l i ≡ field_step false 0 (get_or l i 0)
unfolding first_step
first_is l i h = rw (lt-ltb _ _ h)

pub first_in : (l : List ℕ) (i w : ℕ) → first_step l i ≡ Value w → i < length l
unfolding first_step
first_in l i w e =
    by_test (ltb i (length l)) (ltb-true i (length l)) (λ f. absurd (false_not_true (ap goes (rw f at e))))

module _ (l : List ℕ) (i : ℕ) (ns : List ℕ) where
  pub first_digit : (w : ℕ) → first_step l i ≡ Value w → rest l i ns false 0 ≡ rest l (i + 1) ns true w
  first_digit w e =
      let h = first_in l i w e in
      digit_step l i ns false 0 h w (sym (first_is l i h) ∙ e)

  pub no_first : ((k : ℕ → Option (List ℕ)) → on_step (first_step l i) k None ≡ None) → rest l i ns false 0 ≡ no_fields (fields_end l i)
  no_first e =
      by_order
      i
      (length l)
      (λ h.
      rw (drop-cons l i 0 h)
      (by_test
      (eqb (get_or l i 0) 44)
      (λ f. rw f)
      (λ f. rw (f, rw (first_is l i h) at (e (λ w. scan (drop (suc i) l) ns true w))))))
      (λ h. rw (drop_of_length-le l {i = i} h))

-- the byte after it
module _ (l : List ℕ) (i : ℕ) (ns : List ℕ) (v : ℕ) where
  pub comma_step : comma_at l i ≡ true → rest l i ns true v ≡ rest l (i + 1) (ns ++ (v ∷ [])) false 0
  comma_step e =
      let c : eqb (get_or l i 0) 44 ≡ true = comma_is_44 l i e in
      let h : i < length l = comma_in l i e in
      rw (end_comma l i e, add-one i, drop-cons l i 0 h, c)

  pub last_field : Ends l i → comma_at l i ≡ false → rest l i ns true v ≡ with_numbers i (Some (ns ++ (v ∷ [])))
  last_field (inl h) e = rw (end_stop l i (inl h) e, drop_of_length-le l {i = i} h)
  last_field (inr h) e =
      let c : eqb (get_or l i 0) 44 ≡ false = comma_not l i h.0 e in
      rw (end_stop l i (inr h) e, drop-cons l i 0 h.0, c, no_digit true v _ h.1)

-- after eight numbers there is none
pub full : (l : List ℕ) (i : ℕ) (ns : List ℕ) (s : Bool) (v : ℕ) → 8 ≤ length ns → rest l i ns s v ≡ no_fields (fields_end l i)
full l i ns s v h = long (fields_end l i) (drop i l) ns s v h

-- the eight places: those from count on are 0, and v goes to place count
module _ (vs : List ℕ) (count v : ℕ) (room : count < 8) (eight : length vs ≡ 8) (zeros : drop count vs ≡ replicate (8 - count) 0) where
  pub stored_rest : drop (count + 1) (set vs count v) ≡ replicate (8 - (count + 1)) 0
  stored_rest =
      drop-set-lt (count + 1) vs count v (omega arith)
      ∙ sym (drop-drop 1 count vs)
      ∙ ap (drop 1) (zeros ∙ ap (λ (k : ℕ). replicate {A = ℕ} k 0) less)
    where
      less : 8 - count ≡ suc (8 - (count + 1))
      less = omega arith

  pub stored_front : take (count + 1) (set vs count v) ≡ take count vs ++ (v ∷ [])
  stored_front = rw add-one (take-suc-set vs count v (omega (arith, eight)))

  pub stored_fields : (stop : ℕ)
      → ◌≡◌ {A = Fields} (record { count = count + 1; values = set vs count v; stop = stop }) (with_numbers stop (Some (take count vs ++ (v ∷ []))))
  stored_fields stop =
      let t = take count vs ++ (v ∷ []) in
      let l : length t ≡ count + 1 = length-append (take count vs) (v ∷ []) ∙ ap (λ (k : ℕ). k + 1) (length-take-le count vs (omega (arith, eight))) in
      let all : t ++ replicate (8 - (count + 1)) 0 ≡ set vs count v =
      ap (λ (x : List ℕ). x ++ replicate (8 - (count + 1)) 0) (sym stored_front)
      ∙ ap (λ (x : List ℕ). take (count + 1) (set vs count v) ++ x) (sym stored_rest)
      ∙ take-append-drop (count + 1) (set vs count v) in
      rw (le-leb (length t) 8 (omega (arith, l)), l, all)

-- ---- the reader at index i: count of the values are read, and the field that s and v say has begun

pub record Reads (bytes : List ℕ) (from : ℕ) (values : List ℕ) (count i : ℕ) (s : Bool) (v : ℕ) : Type 0 where
  pub eight : length values ≡ 8
  pub most : count ≤ 8
  pub zeros : drop count values ≡ replicate (8 - count) 0
  pub text : fields_at bytes from ≡ rest bytes i (take count values) s v

pub reads_start : (bytes : List ℕ) (from : ℕ) → Reads bytes from (replicate 8 0) 0 from false 0
reads_start bytes from = record { eight = refl; most = omega arith; zeros = refl; text = at_start bytes from }

module _ {bytes : List ℕ} {from : ℕ} {values : List ℕ} {count i : ℕ} where
  pub reads_first : Reads bytes from values count i false 0 → (w : ℕ) → first_step bytes i ≡ Value w
      → Reads bytes from values count (i + 1) true w
  reads_first r w e =
      record { eight = r.eight; most = r.most; zeros = r.zeros; text = r.text ∙ first_digit bytes i (take count values) w e }

  pub reads_none : Reads bytes from values count i false 0
      → ((k : ℕ → Option (List ℕ)) → on_step (first_step bytes i) k None ≡ None) → no_fields (fields_end bytes i) ≡ fields_at bytes from
  reads_none r e = sym (r.text ∙ no_first bytes i (take count values) e)

  module _ {v : ℕ} (r : Reads bytes from values count i true v) where
    pub reads_digit : i < length bytes → (w : ℕ) → field_step true v (get_or bytes i 0) ≡ Value w
        → Reads bytes from values count (i + 1) true w
    reads_digit h w e =
        record { eight = r.eight; most = r.most; zeros = r.zeros; text = r.text ∙ digit_step bytes i (take count values) true v h w e }

    pub reads_bad : i < length bytes → field_step true v (get_or bytes i 0) ≡ Bad → no_fields (fields_end bytes i) ≡ fields_at bytes from
    reads_bad h e = sym (r.text ∙ digit_bad bytes i (take count values) true v h e)

    pub reads_full : 8 ≤ count → no_fields (fields_end bytes i) ≡ fields_at bytes from
    reads_full h = sym (r.text ∙ full bytes i (take count values) true v (omega (arith, length-take count values, r.eight)))

    pub reads_comma : count < 8 → comma_at bytes i ≡ true → Reads bytes from (set values count v) (count + 1) (i + 1) false 0
    reads_comma room e =
        record {
          eight = length-set values count v ∙ r.eight;
          most = omega arith;
          zeros = stored_rest values count v room r.eight r.zeros;
          text =
              r.text
              ∙ comma_step bytes i (take count values) v e
              ∙ rw (stored_front values count v room r.eight r.zeros);
        }

    pub reads_last : count < 8 → Ends bytes i → comma_at bytes i ≡ false
        → ◌≡◌ {A = Fields} (record { count = count + 1; values = set values count v; stop = i }) (fields_at bytes from)
    reads_last room ended e =
        stored_fields values count v room r.eight r.zeros i ∙ sym (r.text ∙ last_field bytes i (take count values) v ended e)

-- what the reader's loops need
pub ruleset reading = (first_in, comma_in, reads_start, reads_first, reads_digit)
