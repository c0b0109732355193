-- Laws of call lines: the call of a kind and its fields, and a line between two places of an input.
use Rattle.std.specs.Prelude.{Some, None, Option}
use mathlib.Core.Path.{◌≡◌, refl, sym, ap, ◌∙◌}
use mathlib.Core.Bool.{Bool, true, false, cond}
use mathlib.Core.List.{List, [], ◌∷◌, ◌++◌}
use Prim.Native.Nat.{ℕ, suc, ◌+◌, ◌-◌, ◌≤◌, ◌<◌}
use native.Mathlib.Numerals.{add-one}
use native.Mathlib.Omega.{arith}
use native.Mathlib.Nat.{le_of_suc-le-suc, not-suc-le-zero}
use lib.ListN.{length, get_or, take, drop, drop_of_length-le}
use lib.Seq.{take_all, drop-cons, drop-drop}
use lib.Dec.{leb, eqb}
use borrow.Author.Tests.{eq-eqb, ne_eqb, leb-true, leb-false, eqb-true}
use Rattle.units.proofs.Cases.{by_test}
use Rattle.fields.specs.declared.Fields.{Fields}
use Rattle.fields.specs.Grammar.{parts_of, all_numbers, line_numbers, longest_line}
use Rattle.fields.specs.Fields.{is_field_byte, field_bytes, fields_end, with_numbers, fields_at}
use Rattle.fields.proofs.LineLaws.{stops_short, all_field_bytes, line_short, line_long, numbers_in, numbers_many, fields_stop}
use Rattle.model.specs.declared.call.Call.{Call}
use Rattle.model.specs.Kinds.{kinds}
use Rattle.lines.specs.declared.call.LineAt.{LineAt}
use Rattle.lines.specs.CallLines.{read_in, of_kind, call_of, call_of_numbers, reading_of, line_in, line_at}

-- ---- the kinds

-- the call that kind j makes of the fields
pub of_kind_lem : (k j : ℕ) (fields : List ℕ) (c : Call) → read_in kinds j fields ≡ Some c → k ≡ j → Some c ≡ of_kind k fields
unfolding of_kind
of_kind_lem k j fields c e h = sym e ∙ ap (λ (x : ℕ). read_in kinds x fields) (sym h)

-- ---- no kind with so many fields

cond_same : (t : Bool) (r : Option Call) → cond t r r ≡ r
cond_same true r = refl
cond_same false r = refl

-- no other kind has two fields
pub no_two : (k a b : ℕ) → (k ≡ 4 → ⊥) → (k ≡ 7 → ⊥) → (k ≡ 9 → ⊥) → (k ≡ 11 → ⊥) → None ≡ of_kind k (a ∷ (b ∷ []))
unfolding of_kind
no_two k a b h4 h7 h9 h11 = simp (ne_eqb k 4 h4, ne_eqb k 7 h7, ne_eqb k 9 h9, ne_eqb k 11 h11, cond_same)

-- ---- the call of so many numbers

pub no_seven : (k a b c d e f g : ℕ) (ns : List ℕ) → None ≡ of_kind k (a ∷ (b ∷ (c ∷ (d ∷ (e ∷ (f ∷ (g ∷ ns)))))))
unfolding of_kind
no_seven k a b c d e f g ns = simp cond_same

-- no call has as many numbers as the field reader keeps
pub no_eight : (l : List ℕ) → 7 < length l → None ≡ call_of l
no_eight [] q = absurd (omega (arith, q))
no_eight (a ∷ []) q = absurd (omega (arith, q))
no_eight (a ∷ (b ∷ [])) q = absurd (omega (arith, q))
no_eight (a ∷ (b ∷ (c ∷ []))) q = absurd (omega (arith, q))
no_eight (a ∷ (b ∷ (c ∷ (d ∷ [])))) q = absurd (omega (arith, q))
no_eight (a ∷ (b ∷ (c ∷ (d ∷ (e ∷ []))))) q = absurd (omega (arith, q))
no_eight (a ∷ (b ∷ (c ∷ (d ∷ (e ∷ (f ∷ [])))))) q = absurd (omega (arith, q))
no_eight (a ∷ (b ∷ (c ∷ (d ∷ (e ∷ (f ∷ (g ∷ []))))))) q = absurd (omega (arith, q))
no_eight (a ∷ (b ∷ (c ∷ (d ∷ (e ∷ (f ∷ (g ∷ (h ∷ l)))))))) q = no_seven a b c d e f g h l

pub no_more : (values : List ℕ) (count : ℕ) → length values ≡ 8 → 8 < count → None ≡ call_of (take count values)
no_more values count e h = rw (take_all count values (omega (arith, e, h))) (no_eight values (omega (arith, e)))

-- nor more than it keeps
pub no_many : (l : List ℕ) → 8 < length l → None ≡ call_of l
no_many l q = no_eight l (omega (arith, q))

-- the call of the field reader's numbers
call_numbers_lem : (stop : ℕ) (m : Option (List ℕ)) → call_of (take (with_numbers stop m).count (with_numbers stop m).values) ≡ call_of_numbers m
call_numbers_lem stop None = refl
call_numbers_lem stop (Some ns) =
    by_test (leb (length ns) 8)
    (λ e. ap call_of (numbers_in stop ns (leb-true _ _ e)))
    (λ e. ap call_of (numbers_many stop ns (leb-false _ _ e)) ∙ no_many ns (leb-false _ _ e))

-- ---- the end of a line

pub end_here : (bytes : List ℕ) (i : ℕ) → i < length bytes → get_or bytes i 0 ≡ 10 → i ≡ i + length (line_in (drop i bytes))
end_here bytes i h e = rw (drop-cons bytes i 0 h, eq-eqb _ _ e) (omega arith)

pub end_next : (bytes : List ℕ) (i : ℕ) → i < length bytes → (get_or bytes i 0 ≡ 10 → ⊥)
    → i + 1 + length (line_in (drop (i + 1) bytes)) ≡ i + length (line_in (drop i bytes))
end_next bytes i h e = rw (drop-cons bytes i 0 h, ne_eqb _ _ e, add-one i) (omega arith)

pub end_past : (bytes : List ℕ) (i : ℕ) → length bytes ≤ i → i ≡ i + length (line_in (drop i bytes))
end_past bytes i h = rw (drop_of_length-le bytes h) (omega arith)

-- ---- where a line lies

pub line_within : (bs : List ℕ) → length (line_in bs) ≤ length bs
line_within [] = omega arith
line_within (b ∷ bs) = by_test (eqb b 10) (λ e. rw e (omega arith)) (λ e. rw e (omega (arith, line_within bs)))

pub line_front : (bs : List ℕ) → take (length (line_in bs)) bs ≡ line_in bs
line_front [] = refl
line_front (b ∷ bs) = by_test (eqb b 10) (λ e. rw e) (λ e. rw e (ap (λ (l : List ℕ). b ∷ l) (line_front bs)))

ten_next : (bs : List ℕ) → length (line_in bs) < length bs → take (suc (length (line_in bs))) bs ≡ line_in bs ++ (10 ∷ [])
ten_next [] h = absurd (not-suc-le-zero h)
ten_next (b ∷ bs) h =
    by_test (eqb b 10)
    (λ e. rw e (ap (λ (k : ℕ). k ∷ []) (eqb-true b 10 e)))
    (λ e. rw e (ap (λ (l : List ℕ). b ∷ l) (ten_next bs (le_of_suc-le-suc (rw e at h)))))

pub line_ten : (bs : List ℕ) → length (line_in bs) < length bs → take (length (line_in bs) + 1) bs ≡ line_in bs ++ (10 ∷ [])
line_ten bs h = rw add-one (ten_next bs h)

-- ---- a line and its field bytes

-- byte 10 is neither digit nor comma
no_ten : (b : ℕ) → is_field_byte b ≡ true → eqb b 10 ≡ false
no_ten b e = by_test (eqb b 10) (λ t. t ∙ sym (sym (ap is_field_byte (eqb-true b 10 t)) ∙ e)) (λ t. t)

-- the field reader stops within the line
within : (l : List ℕ) → length (line_in l) ≡ length (field_bytes l) + length (line_in (drop (length (field_bytes l)) l))
within [] = refl
within (b ∷ l) =
    by_test (is_field_byte b)
    (λ e. rw (e, no_ten b e) (omega (arith, within l)))
    (λ e. rw e (omega arith))

same_bytes : (l : List ℕ) → field_bytes (line_in l) ≡ field_bytes l
same_bytes [] = refl
same_bytes (b ∷ l) =
    by_test (is_field_byte b)
    (λ e. rw (no_ten b e, e, same_bytes l))
    (λ e. by_test (eqb b 10) (λ t. rw (t, e)) (λ t. rw (t, e)))

same_end : (bytes : List ℕ) (from : ℕ)
    → fields_end bytes from + length (line_in (drop (fields_end bytes from) bytes)) ≡ from + length (line_in (drop from bytes))
unfolding fields_end
same_end bytes from = rw (← drop-drop (length (field_bytes (drop from bytes))) from bytes) (omega (arith, within (drop from bytes)))

-- ---- the call of a line

stops_none : (l : List ℕ) → length (field_bytes l) < length l → None ≡ reading_of l
unfolding reading_of line_numbers
stops_none l h = rw (stops_short l h) (sym (no_numbers (leb (length l) longest_line)))
  where
    no_numbers : (t : Bool) → call_of_numbers (cond t None None) ≡ None
    no_numbers true = refl
    no_numbers false = refl

-- where the line ends, from what the field reader and line_end answer
pub end_is : (bytes : List ℕ) (from : ℕ) (f : Fields) → f ≡ fields_at bytes from
    → f.stop + length (line_in (drop f.stop bytes)) ≡ from + length (line_in (drop from bytes))
end_is bytes from f e =
    ap (λ (x : ℕ). x + length (line_in (drop x bytes))) (ap (λ (x : Fields). x.stop) e ∙ fields_stop bytes from) ∙ same_end bytes from

-- where the reader stopped
stop_is : (bytes : List ℕ) (from : ℕ) (f : Fields) → f ≡ fields_at bytes from
    → f.stop ≡ from + length (field_bytes (line_in (drop from bytes)))
unfolding fields_end
stop_is bytes from f e =
    ap (λ (x : Fields). x.stop) e ∙ fields_stop bytes from ∙ ap (λ (x : List ℕ). from + length x) (sym (same_bytes (drop from bytes)))

-- it stopped before the line's end: the line has a byte that is neither digit nor comma
pub line_stops : (bytes : List ℕ) (from end : ℕ) (f : Fields) → f ≡ fields_at bytes from
    → end ≡ f.stop + length (line_in (drop f.stop bytes)) → f.stop < end
    → ◌≡◌ {A = LineAt} (record { reading = None; end = end }) (line_at bytes from)
unfolding line_at
line_stops bytes from end f e n h =
    let same : end ≡ from + length (line_in (drop from bytes)) = n ∙ end_is bytes from f e in
    let less : length (field_bytes (line_in (drop from bytes))) < length (line_in (drop from bytes)) = omega (arith, stop_is bytes from f e) in
    cc (stops_none (line_in (drop from bytes)) less)

-- the line is too long
pub line_too_long : (bytes : List ℕ) (from end : ℕ) → end ≡ from + length (line_in (drop from bytes)) → 80 < end - from
    → ◌≡◌ {A = LineAt} (record { reading = None; end = end }) (line_at bytes from)
unfolding line_at reading_of
line_too_long bytes from end n h =
    let long : 80 < length (line_in (drop from bytes)) = omega arith in
    cc (line_long (line_in (drop from bytes)) long)

-- all of it is read
line_numbers_lem : (bytes : List ℕ) (from : ℕ) → length (line_in (drop from bytes)) ≤ length (field_bytes (line_in (drop from bytes)))
    → fields_at bytes from ≡ with_numbers (fields_end bytes from) (all_numbers (parts_of (line_in (drop from bytes))))
unfolding fields_at
line_numbers_lem bytes from h =
    ap (λ (l : List ℕ). with_numbers (fields_end bytes from) (all_numbers (parts_of l)))
    (sym (same_bytes (drop from bytes)) ∙ all_field_bytes (line_in (drop from bytes)) h)

pub line_read : (bytes : List ℕ) (from end : ℕ) (f : Fields) (r : Option Call) → f ≡ fields_at bytes from
    → end ≡ f.stop + length (line_in (drop f.stop bytes)) → end ≤ f.stop → end - from ≤ 80
    → r ≡ call_of (take f.count f.values)
    → ◌≡◌ {A = LineAt} (record { reading = r; end = end }) (line_at bytes from)
unfolding line_at reading_of
line_read bytes from end f r e n h s q =
    let same : end ≡ from + length (line_in (drop from bytes)) = n ∙ end_is bytes from f e in
    let short : length (line_in (drop from bytes)) ≤ 80 = omega arith in
    let all : length (line_in (drop from bytes)) ≤ length (field_bytes (line_in (drop from bytes))) = omega (arith, stop_is bytes from f e) in
    let told : r ≡ call_of_numbers (all_numbers (parts_of (line_in (drop from bytes)))) =
    q
    ∙ ap (λ (x : Fields). call_of (take x.count x.values)) (e ∙ line_numbers_lem bytes from all)
    ∙ call_numbers_lem (fields_end bytes from) (all_numbers (parts_of (line_in (drop from bytes)))) in
    cc (line_short (line_in (drop from bytes)) short)

-- ---- a line that stands alone

in_line : (l : List ℕ) → length (field_bytes l) ≤ length (line_in l)
in_line l = omega (arith, within l)

pub whole_line : (l : List ℕ) → length l ≤ length (line_in l) → line_in l ≡ l
whole_line [] h = refl
whole_line (b ∷ l) h =
    by_test (eqb b 10)
    (λ t. absurd (omega (arith, rw t at h)))
    (λ t.
    let less : length l ≤ length (line_in l) = omega (arith, rw t at h) in
    rw (t, whole_line l less))

pub ten_inside : (l : List ℕ) (a : LineAt) → a ≡ line_at l 0 → a.end < length l → None ≡ reading_of l
unfolding line_at
ten_inside l a e h =
    let same : a.end ≡ 0 + length (line_in l) = ap (λ (x : LineAt). x.end) e in
    stops_none l (omega (arith, in_line l))

pub stands_alone : (l : List ℕ) (a : LineAt) → a ≡ line_at l 0 → length l ≤ a.end → a.reading ≡ reading_of l
unfolding line_at
stands_alone l a e h =
    let same : a.end ≡ 0 + length (line_in l) = ap (λ (x : LineAt). x.end) e in
    ap (λ (x : LineAt). x.reading) e ∙ ap reading_of (whole_line l (omega arith))
