-- What stands while bytes are fed: the part of the input that was taken, and the buffer that it wrote.
use mathlib.Core.Path.{◌≡◌, refl, sym, ap, ◌∙◌, subst}
use mathlib.Core.List.{List, [], ◌∷◌, ◌++◌, append_assoc}
use Prim.Native.Nat.{ℕ, zero, suc, ◌+◌, ◌-◌, ◌≤◌, ◌<◌}
use native.Mathlib.Omega.{arith}
use native.Mathlib.Nat.{add_assoc, ne_of_gt, le_refl, not-le_of_lt, not-suc-le-zero, le_of_suc-le-suc, lt_of_lt_of_le}
use lib.Dec.{eqb}
use lib.ListN.{length, take, drop, length-append, length-take, length-drop}
use lib.Seq.{take-add, take_all, take_at, drop-append-add, drop-drop}
use Rattle.units.proofs.Cases.{by_test}
use Rattle.decimal.specs.Buffer.{put_at}
use Rattle.fields.specs.Grammar.{number_of, line_numbers}
use Rattle.lines.proofs.CallLaws.{ten_inside}
use Rattle.model.specs.declared.state.Exchange.{Exchange}
use Rattle.lines.specs.AnswerText.{longest_answer}
use Rattle.lines.specs.CallLines.{line_in, line_at, reading_of}
use Rattle.replay.specs.declared.day.Day.{Day}
use Rattle.replay.specs.declared.day.Fed.{Fed}
use Rattle.replay.specs.Lines.{outcome_of, line_outcome, line_text}
use Rattle.replay.specs.Days.{last_line}
use Rattle.lines.specs.Kept.{kept_bytes}
use Rattle.replay.specs.Pieces.{Stream, after, text_of, last_bytes, stream_of, Advanced, first_line, FedBy}
use Rattle.lines.proofs.CallLaws.{line_front, line_ten}
use Rattle.replay.proofs.StreamLaws.{after_append, text_append, begun, line_after, line_silent, ended_after, ended_text, over_after, over_text}

-- i bytes of the input are taken, s is the stream after them, and the first at bytes of the buffer are what they made the program write
pub record SoFar (s₀ : Stream) (input out₀ : List ℕ) (i : ℕ) (s : Stream) (at : ℕ) (out : List ℕ) : Type 0 where
  pub state : s ≡ after s₀ (take i input)
  pub count : at ≡ length (text_of s₀ (take i input))
  pub text : out ≡ text_of s₀ (take i input) ++ drop at out₀
  pub room : at ≤ length out₀

pub so_far_start : (s : Stream) (input out : List ℕ) → SoFar s input out 0 s 0 out
so_far_start s input out = record { state = refl; count = refl; text = refl; room = omega arith }

pub so_far_length : (s₀ : Stream) (input out₀ : List ℕ) (i : ℕ) (s : Stream) (at : ℕ) (out : List ℕ) → SoFar s₀ input out₀ i s at out → length out ≡ length out₀
so_far_length s₀ input out₀ i s at out f =
    ap length f.text ∙ length-append (text_of s₀ (take i input)) (drop at out₀) ∙ omega (arith, f.count, length-drop at out₀, f.room)

-- no text changes nothing
put_nothing : (out : List ℕ) → out ≡ put_at out 0 []
unfolding put_at
put_nothing out = refl

-- bytes p more, which write t
so_far_more : (s₀ : Stream) (input out₀ : List ℕ) (i : ℕ) (s : Stream) (at : ℕ) (out : List ℕ) → SoFar s₀ input out₀ i s at out
    → (j : ℕ) (p t : List ℕ) (s' : Stream) (at' : ℕ) (out' : List ℕ)
    → take j input ≡ take i input ++ p → after s p ≡ s' → text_of s p ≡ t → at + length t ≤ length out₀ → at' ≡ at + length t → out' ≡ put_at out at t
    → SoFar s₀ input out₀ j s' at' out'
unfolding put_at
so_far_more s₀ input out₀ i s at out f j p t s' at' out' bytes next says fits l put =
    let x : List ℕ = text_of s₀ (take i input) in
    let all : text_of s₀ (take j input) ≡ x ++ t =
    ap (text_of s₀) bytes ∙ text_append s₀ (take i input) p ∙ ap (λ (v : Stream). x ++ text_of v p) (sym f.state) ∙ ap (λ (u : List ℕ). x ++ u) says in
    record {
      state = sym (ap (after s₀) bytes ∙ after_append s₀ (take i input) p ∙ ap (λ (v : Stream). after v p) (sym f.state) ∙ next);
      count = l ∙ ap (λ (k : ℕ). k + length t) f.count ∙ sym (ap length all ∙ length-append x t);
      text =
          put
          ∙ ap (λ (o : List ℕ). take at o ++ (t ++ drop (at + length t) o)) f.text
          ∙ ap (λ (u : List ℕ). u ++ (t ++ drop (at + length t) (x ++ drop at out₀))) (take_at x (drop at out₀) at (sym f.count))
          ∙ ap (λ (k : ℕ). x ++ (t ++ drop (k + length t) (x ++ drop at out₀))) f.count
          ∙ ap (λ (u : List ℕ). x ++ (t ++ u)) (drop-append-add x (drop at out₀) (length t) ∙ drop-drop (length t) at out₀)
          ∙ sym (append_assoc x t _)
          ∙ ap (λ (u : List ℕ). u ++ drop (at + length t) out₀) (sym all)
          ∙ ap (λ (k : ℕ). text_of s₀ (take j input) ++ drop k out₀) (sym l);
      room = omega (arith, l);
    }

-- a line that lies whole in the input from place i on, with its byte 10
module _ (s₀ : Stream) (input out₀ : List ℕ) (i : ℕ) (x : Exchange) (n at : ℕ) (out : List ℕ) (f : SoFar s₀ input out₀ i (begun x n []) at out)
    (lines_left : n < last_line) (end : ℕ) (ends : end ≡ i + length (line_in (drop i input))) (whole : end < length input)
  where
    abbrev pub answer : List ℕ
    answer = line_text x (n + 1) (line_in (drop i input))

    bytes : take (end + 1) input ≡ take i input ++ (line_in (drop i input) ++ (10 ∷ []))
    bytes =
        ap (λ (k : ℕ). take (k + 1) input) ends
        ∙ ap (λ (k : ℕ). take k input) (add_assoc i (length (line_in (drop i input))) 1)
        ∙ take-add i (length (line_in (drop i input)) + 1) input
        ∙ ap (λ (l : List ℕ). take i input ++ l) (line_ten (drop i input) (omega (arith, ends, whole, length-drop i input)))

    pub so_far_line : (x' : Exchange) (at' : ℕ) (out' : List ℕ) → x' ≡ (line_outcome x (line_in (drop i input))).exchange → at + length answer ≤ length out₀
        → at' ≡ at + length answer → out' ≡ put_at out at answer → SoFar s₀ input out₀ (end + 1) (begun x' (n + 1) []) at' out'
    so_far_line x' at' out' e fits l put =
        so_far_more s₀ input out₀ i (begun x n []) at out f (end + 1) _ answer _ at' out' bytes
        (ended_after x n lines_left (drop i input) [] ∙ ap (λ (v : Exchange). begun v (n + 1) []) (sym e))
        (ended_text x n lines_left (drop i input) [])
        fits l put

-- where nothing is taken yet
pub none_taken : (x₀ x : Exchange) (n₀ n : ℕ) (input out₀ : List ℕ) (i at : ℕ) (out : List ℕ) → SoFar (begun x₀ n₀ []) input out₀ i (begun x n []) at out → i ≡ 0
    → (n ≡ n₀) × (at ≡ 0)
none_taken x₀ x n₀ n input out₀ i at out f e = (
  ap (λ (s : Stream). s.done) f.state ∙ ap (λ (k : ℕ). (after (begun x₀ n₀ []) (take k input)).done) e,
  f.count ∙ ap (λ (k : ℕ). length (text_of (begun x₀ n₀ []) (take k input))) e,
)

-- once a line is taken, the first is
pub first_taken : (input : List ℕ) (i end : ℕ) → end ≡ i + length (line_in (drop i input)) → (0 < i → length (line_in input) < i) → length (line_in input) < end + 1
first_taken input zero end e h = omega (arith, e)
first_taken input (suc i) end e h = omega (arith, e, h (omega arith))

-- what is taken in the end
pub advanced : (d : Day) (input out out' : List ℕ) (r : Fed) (s₀ : Stream) → s₀ ≡ stream_of d → SoFar s₀ input out r.used (stream_of r.day) r.wrote out'
    → r.used ≤ length input → Advanced d input out out' r
advanced d input out out' r s₀ e g h =
    let f : SoFar (stream_of d) input out r.used (stream_of r.day) r.wrote out' =
    subst (λ (s : Stream). SoFar s input out r.used (stream_of r.day) r.wrote out') e g in
    record { within = h; count = f.count; fits = f.room; text = f.text; state = f.state }

-- a day whose line has not begun
pub unbegun : (d : Day) → d.len ≡ 0 → begun d.exchange d.done [] ≡ stream_of d
unbegun d e = sym (ap (λ (k : ℕ). record { exchange = d.exchange; done = d.done; line = take k d.line }) e)

-- ---- the line that has begun, with the input's bytes up to its end

module _ (d : Day) (input : List ℕ) (lines_left : d.done < last_line) (places : length d.line ≡ kept_bytes) where
  abbrev so_far : List ℕ
  so_far = take d.len d.line

  abbrev pub full : List ℕ
  full = so_far ++ line_in input

  here : begun d.exchange d.done so_far ≡ stream_of d
  here =
      ap (λ (l : List ℕ). record { exchange = d.exchange; done = d.done; line = l })
      (take_all kept_bytes so_far (omega (arith, length-take d.len d.line, places)))

  -- the whole line and its answer
  full_after : after (stream_of d) (first_line input) ≡ begun (line_outcome d.exchange full).exchange (d.done + 1) []
  full_after = ap (λ (s : Stream). after s (first_line input)) (sym here) ∙ ended_after d.exchange d.done lines_left input so_far

  full_text : text_of (stream_of d) (first_line input) ≡ line_text d.exchange (d.done + 1) full
  full_text = ap (λ (s : Stream). text_of s (first_line input)) (sym here) ∙ ended_text d.exchange d.done lines_left input so_far

  -- the line does not end in the input
  pub line_goes_on : (out : List ℕ) (end : ℕ) → end ≡ length (line_in input) → end ≡ length input → (len : ℕ) (line : List ℕ)
      → take len line ≡ take kept_bytes (so_far ++ take end input)
      → FedBy d input out out (record { day = record { exchange = d.exchange; done = d.done; len = len; line = line }; used = end; wrote = 0 })
  line_goes_on out end e all len line k =
      let front : take end input ≡ line_in input = ap (λ (n : ℕ). take n input) e ∙ line_front input in
      let r : Fed = record { day = record { exchange = d.exchange; done = d.done; len = len; line = line }; used = end; wrote = 0 } in
      let kept : take len line ≡ take kept_bytes full = k ∙ ap (λ (l : List ℕ). take kept_bytes (so_far ++ l)) front in
      let f : SoFar (stream_of d) input out end (stream_of r.day) 0 out =
      so_far_more (stream_of d) input out 0 (stream_of d) 0 out (so_far_start (stream_of d) input out) end (line_in input) [] (stream_of r.day) 0 out
      front
      (ap (λ (s : Stream). after s (line_in input)) (sym here)
      ∙ line_after d.exchange d.done lines_left input so_far
      ∙ ap (λ (l : List ℕ). record { exchange = d.exchange; done = d.done; line = l }) (sym kept))
      (ap (λ (s : Stream). text_of s (line_in input)) (sym here) ∙ line_silent d.exchange d.done lines_left input so_far)
      (omega arith)
      refl
      (put_nothing out) in
      record {
        advanced = advanced d input out out r (stream_of d) refl f (omega (arith, all));
        no_end = λ none. all;
        answers = λ inside fits. omega (arith, e, all, inside);
        waits = λ inside short. omega (arith, e, all, inside);
        over = λ last. all;
        goes_on = λ some room. omega (arith, all, some);
      }

  -- its answer does not fit
  pub line_waits : (out out' : List ℕ) → length (line_in input) < length input → out' ≡ out → length out < length (line_text d.exchange (d.done + 1) full) → length (line_text d.exchange (d.done + 1) full) ≤ longest_answer
      → FedBy d input out out' (record { day = d; used = 0; wrote = 0 })
  line_waits out out' inside e short small =
      record {
        advanced =
            advanced d input out out' (record { day = d; used = 0; wrote = 0 }) (stream_of d) refl
            (subst (SoFar (stream_of d) input out 0 (stream_of d) 0) (sym e) (so_far_start (stream_of d) input out))
            (omega arith);
        no_end = λ none. absurd (ne_of_gt inside (sym none));
        answers = λ _ fits. absurd (not-le_of_lt short (subst (λ (t : List ℕ). length t ≤ length out) full_text fits));
        waits = λ _ _. refl;
        over = λ last. absurd (not-le_of_lt lines_left last);
        goes_on = λ some room. absurd (not-le_of_lt (lt_of_lt_of_le short small) room);
      }

  -- it ends and is answered
  pub line_ends : (out out' : List ℕ) (end : ℕ) → end ≡ length (line_in input) → end < length input → (d' : Day) (wrote : ℕ)
      → stream_of d' ≡ begun (line_outcome d.exchange full).exchange (d.done + 1) [] → wrote ≡ length (line_text d.exchange (d.done + 1) full)
      → wrote ≤ length out → out' ≡ put_at out 0 (line_text d.exchange (d.done + 1) full)
      → FedBy d input out out' (record { day = d'; used = end + 1; wrote = wrote })
  line_ends out out' end e inside d' wrote moved count fits put =
      let r : Fed = record { day = d'; used = end + 1; wrote = wrote } in
      let f : SoFar (stream_of d) input out (end + 1) (stream_of r.day) wrote out' =
      so_far_more (stream_of d) input out 0 (stream_of d) 0 out (so_far_start (stream_of d) input out) (end + 1) (first_line input)
      (line_text d.exchange (d.done + 1) full) (stream_of r.day) wrote out'
      (ap (λ (n : ℕ). take (n + 1) input) e ∙ line_ten input (omega (arith, e, inside)))
      (full_after ∙ sym moved)
      full_text
      (omega (arith, count, fits))
      (omega (arith, count))
      put in
      record {
        advanced = advanced d input out out' r (stream_of d) refl f (omega (arith, inside));
        no_end = λ none. omega (arith, e, inside, none);
        answers = λ _ _. omega (arith, e);
        waits = λ _ short. omega (arith, count, fits, short, ap length full_text);
        over = λ last. absurd (not-le_of_lt lines_left last);
        goes_on = λ some room. omega arith;
      }

-- ---- a line that stands alone, ended

pub line_alone : (p : List ℕ) → length p ≤ length (line_in p) → line_in (p ++ (10 ∷ [])) ≡ p
line_alone [] h = refl
line_alone (b ∷ p) h =
    by_test (eqb b 10)
    (λ e. absurd (not-suc-le-zero (rw e at h)))
    (λ e. rw e (ap (λ (t : List ℕ). b ∷ t) (line_alone p (le_of_suc-le-suc (rw e at h)))))

-- bytes with byte 10 among them are no call, as no bytes are
pub ten_among : (x : Exchange) (p : List ℕ) → length (line_in p) < length p → line_outcome x [] ≡ line_outcome x p
unfolding line_outcome reading_of line_numbers number_of line_at
ten_among x p h = ap (outcome_of x) (ten_inside p (line_at p 0) refl (omega (arith, h)))

-- taken whole
module _ (d : Day) (lines_left : d.done < last_line) (none : d.len ≡ 0) (p : List ℕ) (no_ten : length p ≤ length (line_in p)) (out out' : List ℕ) (r : Fed)
    (a : Advanced d (p ++ (10 ∷ [])) out out' r) (whole : length (line_in (p ++ (10 ∷ []))) < r.used)
  where
    abbrev with_end : List ℕ
    with_end = p ++ (10 ∷ [])

    taken : take r.used with_end ≡ first_line with_end
    taken =
        take_all r.used with_end (omega (arith, length-append p (10 ∷ []), whole, ap length (line_alone p no_ten)))
        ∙ ap (λ (l : List ℕ). l ++ (10 ∷ [])) (sym (line_alone p no_ten))

    pub alone_after : stream_of r.day ≡ begun (line_outcome d.exchange p).exchange (d.done + 1) []
    alone_after =
        a.state
        ∙ ap (after (stream_of d)) taken
        ∙ ap (λ (s : Stream). after s (first_line with_end)) (sym (unbegun d none))
        ∙ ended_after d.exchange d.done lines_left with_end []
        ∙ ap (λ (l : List ℕ). begun (line_outcome d.exchange l).exchange (d.done + 1) []) (line_alone p no_ten)

    alone_text : text_of (stream_of d) (take r.used with_end) ≡ line_text d.exchange (d.done + 1) p
    alone_text =
        ap (text_of (stream_of d)) taken
        ∙ ap (λ (s : Stream). text_of s (first_line with_end)) (sym (unbegun d none))
        ∙ ended_text d.exchange d.done lines_left with_end []
        ∙ ap (line_text d.exchange (d.done + 1)) (line_alone p no_ten)

    pub alone_count : r.wrote ≡ length (line_text d.exchange (d.done + 1) p)
    alone_count = a.count ∙ ap length alone_text

    pub alone_written : take r.wrote out' ≡ line_text d.exchange (d.done + 1) p
    alone_written =
        ap (take r.wrote) (a.text ∙ ap (λ (t : List ℕ). t ++ drop r.wrote out) alone_text)
        ∙ take_at (line_text d.exchange (d.done + 1) p) (drop r.wrote out) r.wrote (sym alone_count)

-- ---- what feeding comes to

-- where nothing was taken the buffer is as it was
pub untouched : (d : Day) (input out out' : List ℕ) (r : Fed) → Advanced d input out out' r → r.used ≡ 0 → out' ≡ out
untouched d input out out' r a e =
    let none : text_of (stream_of d) (take r.used input) ≡ [] = ap (λ (k : ℕ). text_of (stream_of d) (take k input)) e in
    a.text ∙ ap (λ (t : List ℕ). t ++ drop r.wrote out) none ∙ ap (λ (k : ℕ). drop k out) (a.count ∙ ap length none)

-- bytes that hold the line that ends first write its answer at least
first_written : (s : Stream) (input : List ℕ) (n : ℕ) → length (line_in input) < n → n ≤ length input
    → length (text_of s (first_line input)) ≤ length (text_of s (take n input))
first_written s input n whole inside =
    let l : ℕ = length (line_in input) in
    let more : List ℕ = take (n - (l + 1)) (drop (l + 1) input) in
    let split : n ≡ l + 1 + (n - (l + 1)) = omega (arith, whole) in
    let parts : take n input ≡ first_line input ++ more =
    ap (λ (k : ℕ). take k input) split
    ∙ take-add (l + 1) (n - (l + 1)) input
    ∙ ap (λ (p : List ℕ). p ++ more) (line_ten input (omega (arith, whole, inside))) in
    omega (
      arith,
      ap (λ (p : List ℕ). length (text_of s p)) parts,
      ap length (text_append s (first_line input) more),
      length-append (text_of s (first_line input)) (text_of (after s (first_line input)) more),
    )

-- whole lines were taken
pub fed_whole : (d : Day) (input out out' : List ℕ) (r : Fed) → Advanced d input out out' r → d.done < last_line → 0 < r.used → length (line_in input) < r.used
    → FedBy d input out out' r
fed_whole d input out out' r a lines_left some whole =
    record {
      advanced = a;
      no_end = λ none. omega (arith, whole, none, a.within);
      answers = λ _ _. whole;
      waits = λ _ short. omega (arith, short, first_written (stream_of d) input r.used whole a.within, a.count, a.fits);
      over = λ last. absurd (not-le_of_lt lines_left last);
      goes_on = λ _ _. some;
    }

-- with the same buffer, and with the same bytes
pub fed_same_out : (d : Day) (input out out₁ out' : List ℕ) (r : Fed) → out₁ ≡ out → FedBy d input out₁ out' r → FedBy d input out out' r
fed_same_out d input out out₁ out' r e f = subst (λ (o : List ℕ). FedBy d input o out' r) e f

pub fed_same_bytes : (d : Day) (input input₁ out out' : List ℕ) (r : Fed) → input₁ ≡ input → FedBy d input out out' r → FedBy d input₁ out out' r
fed_same_bytes d input input₁ out out' r e f = subst (λ (bs : List ℕ). FedBy d bs out out' r) (sym e) f

-- after the last line all is taken and nothing answered
pub fed_over : (d : Day) (input out : List ℕ) → last_line ≤ d.done → FedBy d input out out (record { day = d; used = length input; wrote = 0 })
fed_over d input out h =
    let all : take (length input) input ≡ input = take_all (length input) input (le_refl (length input)) in
    let none : text_of (stream_of d) (take (length input) input) ≡ [] = over_text (stream_of d) h (take (length input) input) in
    record {
      advanced =
          record {
            within = le_refl (length input);
            count = sym (ap length none);
            fits = omega arith;
            text = sym (ap (λ (t : List ℕ). t ++ out) none);
            state = sym (over_after (stream_of d) h (take (length input) input));
          };
      no_end = λ _. refl;
      answers = λ inside _. inside;
      waits = λ _ short. absurd (not-suc-le-zero (subst (λ (t : List ℕ). length out < length t) (over_text (stream_of d) h (first_line input)) short));
      over = λ _. refl;
      goes_on = λ some room. some;
    }

-- there is no last line
pub none_begun : (d : Day) (out : List ℕ) → d.len ≡ 0 → FedBy d (last_bytes (stream_of d).line) out out (record { day = d; used = 0; wrote = 0 })
none_begun d out e =
    let none : last_bytes (stream_of d).line ≡ [] = ap (λ (k : ℕ). last_bytes (take k d.line)) e in
    record {
      advanced = record { within = omega arith; count = refl; fits = omega arith; text = refl; state = refl };
      no_end = λ _. sym (ap length none);
      answers = λ inside _. omega (arith, inside, ap length none);
      waits = λ _ _. refl;
      over = λ _. sym (ap length none);
      goes_on = λ some _. absurd (ne_of_gt some (ap length none));
    }

-- there is one
pub some_begun : (l : List ℕ) → 0 < length l → last_bytes l ≡ 10 ∷ []
some_begun [] h = absurd (not-suc-le-zero h)
some_begun (b ∷ l) h = refl
