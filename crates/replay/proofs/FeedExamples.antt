-- Feeding on the days of specs/FeedExamples.antt: what is fixed, met and refused.
use Prim.Native.Nat.{ℕ, ◌≤◌, ◌<◌}
use mathlib.Core.Path.{◌≡◌, ◌∙◌, ap, refl}
use mathlib.Core.List.{List, [], ◌++◌}
use native.Mathlib.Omega.{arith}
use lib.ListN.{length, take, drop, get_or}
use Rattle.model.specs.State.{balance}
use Rattle.replay.specs.declared.day.Day.{Day}
use Rattle.replay.specs.declared.day.Fed.{Fed}
use Rattle.replay.specs.Pieces.{Stream, after, text_of, stream_of, Advanced}
use Rattle.replay.specs.StreamExamples.{five, six, line}
use Rattle.replay.specs.FeedExamples.{day_with, FedSo, FedUsed, FedMet, FedRefused}
use Rattle.replay.proofs.Computing.{day_computes}

-- with how much was taken all else is fixed
fed_fixed :
    (d : Day) (input out out' : List ℕ) (r : Fed) → Advanced d input out out' r → (u : ℕ) → r.used ≡ u
    → let s : Stream = after (stream_of d) (take u input) in
    let text : List ℕ = text_of (stream_of d) (take u input) in
    FedSo u (length text) (text ++ drop (length text) out) s.done s.line (balance s.exchange 0 0) out' r
fed_fixed d input out out' r a u e =
    let wrote : r.wrote ≡ length (text_of (stream_of d) (take u input)) = a.count ∙ ap (λ (n : ℕ). length (text_of (stream_of d) (take n input))) e in
    let day : stream_of r.day ≡ after (stream_of d) (take u input) = a.state ∙ ap (λ (n : ℕ). after (stream_of d) (take n input)) e in
    record {
      used = e;
      wrote = wrote;
      buffer =
          a.text ∙ ap (λ (n : ℕ). text_of (stream_of d) (take n input) ++ drop r.wrote out) e
          ∙ ap (λ (n : ℕ). text_of (stream_of d) (take u input) ++ drop n out) wrote;
      done = ap (λ (s : Stream). s.done) day;
      kept = ap (λ (s : Stream). s.line) day;
      held = ap (λ (s : Stream). balance s.exchange 0 0) day;
    }

pub fed_used : FedUsed
unfolding day_computes
fed_used =
    record {
      no_bytes = λ out out' r f. fed_fixed _ _ out out' r f.advanced 0 (f.no_end refl);
      cut_line = λ out out' r f. fed_fixed _ _ out out' r f.advanced 1 (f.no_end refl);
      room_left = λ out' r f.
          let h : 7 < r.used = f.answers (omega arith) (omega arith) in
          let w : r.used ≤ 8 = f.advanced.within in
          fed_fixed _ _ _ out' r f.advanced 8 (omega (arith, h, w));
      just_room = λ out' r f.
          let h : 7 < r.used = f.answers (omega arith) (omega arith) in
          let w : r.used ≤ 8 = f.advanced.within in
          fed_fixed _ _ _ out' r f.advanced 8 (omega (arith, h, w));
      too_short = λ out' r f. fed_fixed _ _ _ out' r f.advanced 0 (f.waits (omega arith) (omega arith));
      begun_ends = λ out' r f.
          let h : 0 < r.used = f.answers (omega arith) (omega arith) in
          let w : r.used ≤ 1 = f.advanced.within in
          fed_fixed _ _ _ out' r f.advanced 1 (omega (arith, h, w));
      begun_waits = λ out' r f. fed_fixed _ _ _ out' r f.advanced 0 (f.waits (omega arith) (omega arith));
      first_taken = λ out' r f. f.answers (omega arith) (omega arith);
      second_waits = λ out' r f e.
          let w : r.wrote ≡ 17 = (fed_fixed (day_with 6 []) (line five ++ line six) _ out' r f.advanced 16 e).wrote in
          let h : r.wrote ≤ 8 = f.advanced.fits in
          omega (arith, w, h);
      over = λ out out' r f. fed_fixed _ _ out out' r f.advanced 16 (f.over (omega arith));
      goes_on = λ d b bs out' r f. f.goes_on (omega arith) (omega arith);
    }

pub fed_met : FedMet
unfolding day_computes
fed_met =
    record {
      no_bytes = λ out.
          record {
            advanced = record { within = omega arith; count = refl; fits = omega arith; text = refl; state = refl };
            no_end = λ e. refl;
            answers = λ e l. omega (arith, e);
            waits = λ e l. refl;
            over = λ l. omega (arith, l);
            goes_on = λ p l. omega (arith, p);
          };
      cut_line = λ out.
          record {
            advanced = record { within = omega arith; count = refl; fits = omega arith; text = refl; state = refl };
            no_end = λ e. refl;
            answers = λ e l. omega (arith, e);
            waits = λ e l. omega (arith, e);
            over = λ l. omega (arith, l);
            goes_on = λ p l. omega arith;
          };
      room_left =
          record {
            advanced = record { within = omega arith; count = refl; fits = omega arith; text = refl; state = refl };
            no_end = λ e. refl;
            answers = λ e l. omega arith;
            waits = λ e l. omega (arith, l);
            over = λ l. omega (arith, l);
            goes_on = λ p l. omega arith;
          };
      too_short =
          record {
            advanced = record { within = omega arith; count = refl; fits = omega arith; text = refl; state = refl };
            no_end = λ e. omega (arith, e);
            answers = λ e l. omega (arith, l);
            waits = λ e l. refl;
            over = λ l. omega (arith, l);
            goes_on = λ p l. omega (arith, l);
          };
      over =
          record {
            advanced = record { within = omega arith; count = refl; fits = omega arith; text = refl; state = refl };
            no_end = λ e. refl;
            answers = λ e l. omega arith;
            waits = λ e l. omega (arith, l);
            over = λ l. refl;
            goes_on = λ p l. omega arith;
          };
    }

pub fed_refused : FedRefused
unfolding day_computes
fed_refused =
    record {
      cut_left = λ f. let h : ◌≡◌ {A = ℕ} 0 1 = f.no_end refl in omega (arith, h);
      line_left = λ f. let h : 7 < 0 = f.answers (omega arith) (omega arith) in omega (arith, h);
      end_left = λ f. let h : 7 < 7 = f.answers (omega arith) (omega arith) in omega (arith, h);
      part_taken = λ f. let h : ◌≡◌ {A = ℕ} 7 0 = f.waits (omega arith) (omega arith) in omega (arith, h);
      one_taken = λ f. let h : ◌≡◌ {A = ℕ} 1 0 = f.waits (omega arith) (omega arith) in omega (arith, h);
      over_left = λ f. let h : ◌≡◌ {A = ℕ} 0 8 = f.over (omega arith) in omega (arith, h);
      over_input = λ a. let h : 9 ≤ 8 = a.within in omega (arith, h);
      count_less = λ a. let h : ◌≡◌ {A = ℕ} 7 8 = a.count in omega (arith, h);
      count_more = λ a. let h : ◌≡◌ {A = ℕ} 9 8 = a.count in omega (arith, h);
      text_other = λ a. let h : ◌≡◌ {A = ℕ} 56 55 = ap (λ (bs : List ℕ). get_or bs 0 0) a.text in omega (arith, h);
      end_other = λ a. let h : ◌≡◌ {A = ℕ} 0 9 = ap (λ (bs : List ℕ). get_or bs 9 0) a.text in omega (arith, h);
      buffer_shorter = λ a. let h : ◌≡◌ {A = ℕ} 9 10 = ap (λ (bs : List ℕ). length bs) a.text in omega (arith, h);
      no_room = λ a. let h : 8 ≤ 7 = a.fits in omega (arith, h);
      not_moved = λ a. let h : ◌≡◌ {A = ℕ} 0 5 = ap (λ (s : Stream). balance s.exchange 0 0) a.state in omega (arith, h);
      not_counted = λ a. let h : ◌≡◌ {A = ℕ} 6 7 = ap (λ (s : Stream). s.done) a.state in omega (arith, h);
      kept_more = λ a. let h : ◌≡◌ {A = ℕ} 3 2 = ap (λ (s : Stream). length s.line) a.state in omega (arith, h);
      kept_less = λ a. let h : ◌≡◌ {A = ℕ} 1 2 = ap (λ (s : Stream). length s.line) a.state in omega (arith, h);
    }
