-- A call written and read again is the same call, and a line that the reader accepts is the line that its call is written as.
use Rattle.std.specs.Prelude.{Some, None, Option}
use mathlib.Core.Path.{◌≡◌, refl, sym, ap, ◌∙◌, subst}
use mathlib.Core.Bool.{Bool, true, false, ◌&&◌}
use mathlib.Core.List.{List, [], ◌∷◌, ◌++◌, map, append_assoc, append-nil}
use Prim.Native.Nat.{ℕ, zero, suc, ◌+◌, ◌-◌, ◌*◌, ◌/◌, ◌%◌, ◌≤◌, ◌<◌}
use native.Mathlib.Omega.{arith}
use native.Mathlib.Nat.{le_refl, not-suc-le-zero, lt_of_lt_of_le}
use lib.Arith.{lt_of_le-ne, le-zero}
use lib.ListN.{length, length-append}
use lib.Dec.{leb, eqb}
use borrow.Author.Tests.{le-leb, eqb-false, eqb-true}
use Rattle.units.specs.Counts.{largest}
use Rattle.units.specs.Decimal.{digits}
use Rattle.units.proofs.Cases.{false_not_true, by_test, by_order}
use Rattle.fields.specs.Grammar.{is_digit, all_digits, value_from, is_number, number_of, on_first, parts_of, all_numbers, line_numbers, longest_line}
use Rattle.fields.proofs.Scan.{no_comma, low, high, value_more, all_more, number_good}
use Rattle.fields.proofs.LineLaws.{line_short}
use Rattle.model.specs.declared.call.Call.{Call}
use Rattle.model.specs.declared.call.Call.TheVariants.{Deposit, Withdraw, Order, Cancel, Open, Enter, Match, Bid, Settle, Claim, Leave}
use Rattle.model.specs.Kinds.{Taking, Kind, from_fields, kinds, numbers_of_call}
use Rattle.lines.specs.CallLines.{read_in, of_kind, call_of, call_of_numbers, reading_of, line_in, line_at}
use Rattle.lines.specs.CallText.{join_parts, line_of_numbers, line_of_call, Small, CallRound, LineRound}
use Rattle.lines.proofs.CallLaws.{whole_line, ten_inside}
use Rattle.decimal.proofs.Digits.{digits_bound, lead, lead_none, lead_step, digits_step}

and_left : (x y : Bool) → (x && y) ≡ true → x ≡ true
and_left true y e = refl
and_left false y e = e

same : {A : Type 0} (a b : A) → ◌≡◌ {A = Option A} (Some a) (Some b) → b ≡ a
same a b p = cc

differ : {A : Type 0} (a : A) → ◌≡◌ {A = Option A} None (Some a) → ⊥
differ a p = let z : ◌≡◌ {A = ℕ} 0 1 = cc in omega arith

-- ---- read, then written

-- a digit after a positive number
lead_more : (v b : ℕ) → 0 < v → is_digit b ≡ true → lead (v * 10 + (b - 48)) ≡ lead v ++ (b ∷ [])
lead_more v b p e =
    let l : 48 ≤ b = low b e in
    let h : b ≤ 57 = high b e in
    let q : (v * 10 + (b - 48)) / 10 ≡ v = omega arith in
    let r : 48 + (v * 10 + (b - 48)) % 10 ≡ b = omega arith in
    lead_step (v * 10 + (b - 48)) (omega arith)
    ∙ ap (λ (k : ℕ). lead k ++ ((48 + (v * 10 + (b - 48)) % 10) ∷ [])) q
    ∙ ap (λ (k : ℕ). lead v ++ (k ∷ [])) r

lead_all : (bs : List ℕ) (v : ℕ) → 0 < v → all_digits bs ≡ true → lead (value_from v bs) ≡ lead v ++ bs
lead_all [] v p a = sym (append-nil (lead v))
lead_all (b ∷ bs) v p a =
    by_test
    (is_digit b)
    (λ e.
    lead_all bs (v * 10 + (b - 48)) (omega arith) (rw e at a)
    ∙ ap (λ (l : List ℕ). l ++ bs) (lead_more v b p e)
    ∙ append_assoc (lead v) (b ∷ []) bs)
    (λ e. absurd (false_not_true (rw e at a)))

digits_lead : (n : ℕ) → 0 < n → digits n ≡ lead n
digits_lead n p = digits_step n ∙ sym (lead_step n p)

value_pos : (v : ℕ) (bs : List ℕ) → 0 < v → 0 < value_from v bs
value_pos v [] p = p
value_pos v (b ∷ bs) p = value_pos (v * 10 + (b - 48)) bs (omega arith)

-- digits that do not begin with 0
written_plain : (d : ℕ) (bs : List ℕ) → (d ≡ 48 → ⊥) → all_digits (d ∷ bs) ≡ true → digits (value_from 0 (d ∷ bs)) ≡ d ∷ bs
written_plain d bs z a =
    by_test
    (is_digit d)
    (λ e.
    let l : 48 < d = lt_of_le-ne (low d e) (λ q. z (sym q)) in
    let h : d ≤ 57 = high d e in
    let v : 0 < 0 * 10 + (d - 48) = omega arith in
    digits_lead (value_from (0 * 10 + (d - 48)) bs) (value_pos (0 * 10 + (d - 48)) bs v)
    ∙ lead_all bs (0 * 10 + (d - 48)) v (rw e at a)
    ∙ ap (λ (l : List ℕ). l ++ bs)
    (lead_step (0 * 10 + (d - 48)) v
    ∙ ap (λ (k : List ℕ). k ++ ((48 + (0 * 10 + (d - 48)) % 10) ∷ [])) (lead_none ((0 * 10 + (d - 48)) / 10) (omega arith))
    ∙ ap (λ (k : ℕ). k ∷ []) (omega arith)))
    (λ e. absurd (false_not_true (rw e at a)))

written_zero : digits 0 ≡ 48 ∷ []
unfolding digits
written_zero = refl

number_text : (f : List ℕ) → is_number f ≡ true → digits (value_from 0 f) ≡ f
number_text [] e = absurd (false_not_true e)
number_text (d ∷ []) e =
    by_test
    (eqb d 48)
    (λ t. subst (λ (x : ℕ). digits (value_from 0 (x ∷ [])) ≡ x ∷ []) (sym (eqb-true d 48 t)) written_zero)
    (λ t. written_plain d [] (eqb-false d 48 t) (rw e))
number_text (d ∷ (g ∷ bs)) e =
    by_test
    (eqb d 48)
    (λ t. absurd (false_not_true (rw t at e)))
    (λ t. written_plain d (g ∷ bs) (eqb-false d 48 t) (rw t at e))

number_written : (f : List ℕ) (n : ℕ) → number_of f ≡ Some n → digits n ≡ f
unfolding number_of
number_written f n e =
    by_test
    (is_number f && leb (value_from 0 f) largest)
    (λ t. ap digits (same (value_from 0 f) n (rw t at e)) ∙ number_text f (and_left _ _ t))
    (λ t. absurd (differ n (rw t at e)))

by_option : {A P : Type 0} (o : Option A) → (o ≡ None → P) → ((a : A) → o ≡ Some a → P) → P
by_option None f g = f refl
by_option (Some a) f g = g a refl

numbers_written_lem : (ps : List (List ℕ)) (ns : List ℕ) → all_numbers ps ≡ Some ns → map digits ns ≡ ps
numbers_written_lem [] ns e = ap (map digits) (same [] ns e)
numbers_written_lem (p ∷ ps) ns e =
    by_option (number_of p)
    (λ f. absurd (differ ns (rw f at e)))
    (λ n f.
    by_option (all_numbers ps)
    (λ g. absurd (differ ns (rw (f, g) at e)))
    (λ ms g.
    ap (map digits) (same (n ∷ ms) ns (rw (f, g) at e))
    ∙ ap (λ (x : List ℕ). x ∷ map digits ms) (number_written p n f)
    ∙ ap (λ (x : List (List ℕ)). p ∷ x) (numbers_written_lem ps ms g)))

-- the parts of a line make the line
join_first : (b : ℕ) (ps : List (List ℕ)) → join_parts (on_first b ps) ≡ b ∷ join_parts ps
join_first b [] = refl
join_first b (p ∷ []) = refl
join_first b (p ∷ (q ∷ ps)) = refl

join_comma : (bs : List ℕ) → join_parts ([] ∷ parts_of bs) ≡ 44 ∷ join_parts (parts_of bs)
join_comma [] = refl
join_comma (b ∷ bs) = by_test (eqb b 44) (λ e. rw e) (λ e. rw e (on_first_lem b (parts_of bs)))
  where
    on_first_lem : (b : ℕ) (ps : List (List ℕ)) → join_parts ([] ∷ on_first b ps) ≡ 44 ∷ join_parts (on_first b ps)
    on_first_lem b [] = refl
    on_first_lem b (p ∷ ps) = refl

parts_line : (line : List ℕ) → join_parts (parts_of line) ≡ line
parts_line [] = refl
parts_line (b ∷ bs) =
    by_test
    (eqb b 44)
    (λ e. rw e (join_comma bs ∙ ap (λ (l : List ℕ). 44 ∷ l) (parts_line bs) ∙ ap (λ (x : ℕ). x ∷ bs) (sym (eqb-true b 44 e))))
    (λ e. rw e (join_first b (parts_of bs) ∙ ap (λ (l : List ℕ). b ∷ l) (parts_line bs)))

-- a line that the reader accepts is the line of its numbers
read_written : (line ns : List ℕ) → line_numbers line ≡ Some ns → line_of_numbers ns ≡ line
unfolding line_numbers line_of_numbers
read_written line ns e =
    by_test
    (leb (length line) longest_line)
    (λ t. ap join_parts (numbers_written_lem (parts_of line) ns (rw t at e)) ∙ parts_line line)
    (λ t. absurd (differ ns (rw t at e)))

-- ---- written, then read

-- a positive number's digits: the first is not 0, and they read as the number
record Plain (m : ℕ) (l : List ℕ) : Type 0 where
  pub first : ℕ
  pub others : List ℕ
  pub is : l ≡ first ∷ others
  pub not_zero : first ≡ 48 → ⊥
  pub all : all_digits (first ∷ others) ≡ true
  pub value : value_from 0 (first ∷ others) ≡ m

last_digit : (m : ℕ) → is_digit (48 + m % 10) ≡ true
last_digit m = rw (le-leb 48 (48 + m % 10) (omega arith), le-leb (48 + m % 10) 57 (omega arith))

lead_plain : (f m : ℕ) → m ≤ f → 0 < m → Plain m (lead m)
lead_plain zero m h p = absurd (not-suc-le-zero (lt_of_lt_of_le p h))
lead_plain (suc f) m h p =
    by_order 0 (m / 10)
    (λ q.
    let s : Plain (m / 10) (lead (m / 10)) = lead_plain f (m / 10) (omega arith) q in
    record {
      first = s.first;
      others = s.others ++ ((48 + m % 10) ∷ []);
      is = lead_step m p ∙ ap (λ (l : List ℕ). l ++ ((48 + m % 10) ∷ [])) s.is;
      not_zero = s.not_zero;
      all = all_more (s.first ∷ s.others) (48 + m % 10) s.all (last_digit m);
      value = value_more 0 (s.first ∷ s.others) (48 + m % 10) ∙ ap (λ (k : ℕ). k * 10 + (48 + m % 10 - 48)) s.value ∙ omega arith;
    })
    (λ q.
    record {
      first = 48 + m % 10;
      others = [];
      is = lead_step m p ∙ ap (λ (l : List ℕ). l ++ ((48 + m % 10) ∷ [])) (lead_none (m / 10) q);
      not_zero = λ z. not-suc-le-zero (lt_of_lt_of_le p (omega arith));
      all = rw (last_digit m);
      value = omega arith;
    })

zero_read : number_of (digits 0) ≡ Some 0
unfolding number_of digits
zero_read = refl

number_read : (n : ℕ) → n ≤ largest → number_of (digits n) ≡ Some n
number_read n h =
    by_order 0 n
    (λ p.
    let s : Plain n (lead n) = lead_plain n n (le_refl n) p in
    ap number_of (digits_lead n p ∙ s.is) ∙ number_good s.first s.others n s.not_zero s.all (sym s.value) h)
    (λ q. subst (λ (k : ℕ). number_of (digits k) ≡ Some k) (sym (le-zero q)) zero_read)

-- digits have no comma
digits_all : (n : ℕ) → all_digits (digits n) ≡ true
digits_all n =
    ap all_digits (digits_step n)
    ∙ by_order 0 (n / 10)
    (λ p.
    let s : Plain (n / 10) (lead (n / 10)) = lead_plain (n / 10) (n / 10) (le_refl (n / 10)) p in
    all_more (lead (n / 10)) (48 + n % 10) (ap all_digits s.is ∙ s.all) (last_digit n))
    (λ q. ap (λ (l : List ℕ). all_digits (l ++ ((48 + n % 10) ∷ []))) (lead_none (n / 10) q) ∙ rw (last_digit n))

both : (d : ℕ) (ds : List ℕ) → all_digits (d ∷ ds) ≡ true → (is_digit d ≡ true) × (all_digits ds ≡ true)
both d ds a = by_test (is_digit d) (λ e. (e, rw e at a)) (λ e. absurd (false_not_true (rw e at a)))

parts_of_more : (ds rest : List ℕ) → all_digits ds ≡ true → parts_of (ds ++ (44 ∷ rest)) ≡ ds ∷ parts_of rest
parts_of_more [] rest a = refl
parts_of_more (d ∷ ds) rest a =
    rw (no_comma d (both d ds a).0) (ap (on_first d) (parts_of_more ds rest (both d ds a).1))

parts_of_one : (ds : List ℕ) → all_digits ds ≡ true → parts_of ds ≡ ds ∷ []
parts_of_one [] a = refl
parts_of_one (d ∷ ds) a = rw (no_comma d (both d ds a).0) (ap (on_first d) (parts_of_one ds (both d ds a).1))

numbers_read : (n : ℕ) (ns : List ℕ) → Small (n ∷ ns) → all_numbers (parts_of (join_parts (map digits (n ∷ ns)))) ≡ Some (n ∷ ns)
numbers_read n [] s = rw (parts_of_one (digits n) (digits_all n), number_read n s.0)
numbers_read n (m ∷ ns) s =
    rw (parts_of_more (digits n) (join_parts (map digits (m ∷ ns))) (digits_all n), number_read n s.0, numbers_read m ns s.1)

-- a comma and ten digits at most for each number after the first
pub numbers_length : (n : ℕ) (ns : List ℕ) → Small ns → length (join_parts (map digits (n ∷ ns))) ≤ length (digits n) + 11 * length ns
numbers_length n [] s = omega arith
numbers_length n (m ∷ ns) s =
    omega
    (arith, digits_bound m (omega (arith, s.0)), numbers_length m ns s.1, length-append (digits n) (44 ∷ join_parts (map digits (m ∷ ns))))

-- what the writer makes of numbers reads as those numbers
numbers_reread : (n : ℕ) (ns : List ℕ) → Small (n ∷ ns) → length ns ≤ 6 → line_numbers (line_of_numbers (n ∷ ns)) ≡ Some (n ∷ ns)
unfolding line_of_numbers
numbers_reread n ns s h = line_short _ (omega (arith, digits_bound n (omega (arith, s.0)), numbers_length n ns s.1)) ∙ numbers_read n ns s

-- ---- calls

-- the numbers of a call make it again, and are few
pub record Remade (c : Call) : Type 0 where
  pub number : ℕ
  pub fields : List ℕ
  pub is : numbers_of_call c ≡ number ∷ fields
  pub few : length fields ≤ 6
  pub call : of_kind number fields ≡ Some c

pub remade : (c : Call) → Remade c
unfolding of_kind
remade (Deposit a b c) = record { number = _; fields = _; is = refl; few = omega arith; call = refl }
remade (Withdraw a b c) = record { number = _; fields = _; is = refl; few = omega arith; call = refl }
remade (Order a b c d e f) = record { number = _; fields = _; is = refl; few = omega arith; call = refl }
remade (Cancel a b) = record { number = _; fields = _; is = refl; few = omega arith; call = refl }
remade (Open a b c d e) = record { number = _; fields = _; is = refl; few = omega arith; call = refl }
remade (Enter a) = record { number = _; fields = _; is = refl; few = omega arith; call = refl }
remade (Match a b) = record { number = _; fields = _; is = refl; few = omega arith; call = refl }
remade (Bid a b c d e f) = record { number = _; fields = _; is = refl; few = omega arith; call = refl }
remade (Settle a b) = record { number = _; fields = _; is = refl; few = omega arith; call = refl }
remade (Claim a) = record { number = _; fields = _; is = refl; few = omega arith; call = refl }
remade (Leave a b) = record { number = _; fields = _; is = refl; few = omega arith; call = refl }

-- every number of the call is at most 4,294,967,295, as in a Call of the code
pub call_round : CallRound
unfolding line_of_call reading_of
call_round c s =
    let r = remade c in
    ap (λ (ns : List ℕ). call_of_numbers (line_numbers (line_of_numbers ns))) r.is
    ∙ ap call_of_numbers (numbers_reread r.number r.fields (subst Small r.is s) r.few)
    ∙ r.call

pub no_read : (c : Call) → None ≡ Some c → ⊥
no_read c e = let z : ◌≡◌ {A = ℕ} 0 1 = cc in omega arith

-- a call's line has no byte 10, since it is read
pub one_line : (c : Call) → Small (numbers_of_call c) → line_in (line_of_call c) ≡ line_of_call c
unfolding line_at
one_line c s =
    let l = line_of_call c in
    by_order (length (line_in l)) (length l)
    (λ h. absurd (no_read c (ten_inside l (line_at l 0) refl (omega arith) ∙ call_round c s)))
    (λ h. whole_line l h)

-- the fields after these make a call whose numbers are these and the fields
abbrev Writes : (n : ℕ) → Taking n → List ℕ → Type 0
Writes zero c ns = numbers_of_call c ≡ ns
Writes (suc n) f ns = (a : ℕ) → Writes n (f a) (ns ++ (a ∷ []))

fields_written : (n : ℕ) (f : Taking n) (ns : List ℕ) → Writes n f ns → (fields : List ℕ) (c : Call) → from_fields n f fields ≡ Some c → numbers_of_call c ≡ ns ++ fields
fields_written zero d ns w [] c e = let same : c ≡ d = cc in ap numbers_of_call same ∙ w ∙ sym (append-nil ns)
fields_written zero d ns w (a ∷ fields) c e = absurd (no_read c e)
fields_written (suc n) f ns w [] c e = absurd (no_read c e)
fields_written (suc n) f ns w (a ∷ fields) c e = fields_written n (f a) (ns ++ (a ∷ [])) (w a) fields c e ∙ append_assoc ns (a ∷ []) fields

-- every kind of the table writes what it reads
abbrev AllWrite : List Kind → Type 0
AllWrite [] = Unit {0}
AllWrite (k ∷ ks) = Writes k.fields k.call (k.number ∷ []) × AllWrite ks

kinds_write : AllWrite kinds
kinds_write =
    (λ a b c. refl, (λ a b c. refl, (λ a b c d e f. refl, (λ a b. refl, (λ a b c d e. refl, (λ a. refl, (λ a b. refl, (λ a b c d e f. refl, (λ a b. refl, (λ a. refl, (λ a b. refl, tt)))))))))))

kind_written : (ks : List Kind) → AllWrite ks → (number : ℕ) (fields : List ℕ) (c : Call) → read_in ks number fields ≡ Some c → numbers_of_call c ≡ number ∷ fields
kind_written [] w number fields c e = absurd (no_read c e)
kind_written (k ∷ ks) w number fields c e =
    by_test (eqb number k.number)
    (λ t.
    fields_written k.fields k.call (k.number ∷ []) w.0 fields c (rw t at e)
    ∙ ap (λ (x : ℕ). x ∷ fields) (sym (eqb-true number k.number t)))
    (λ t. kind_written ks w.1 number fields c (rw t at e))

pub numbers_call : (ns : List ℕ) (c : Call) → call_of ns ≡ Some c → numbers_of_call c ≡ ns
unfolding of_kind
numbers_call [] c e = absurd (no_read c e)
numbers_call (number ∷ fields) c e = kind_written kinds kinds_write number fields c e

pub line_round : LineRound
unfolding line_of_call reading_of
line_round line c e =
    by_option (line_numbers line)
    (λ f. absurd (no_read c (sym (ap call_of_numbers f) ∙ e)))
    (λ ns f. ap line_of_numbers (numbers_call ns c (sym (ap call_of_numbers f) ∙ e)) ∙ read_written line ns f)
