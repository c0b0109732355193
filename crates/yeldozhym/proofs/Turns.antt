-- One turn of the two loops over a day, and the line that is finished after them.
use mathlib.Core.Path.{◌≡◌, sym, ap, ◌∙◌, subst}
use mathlib.Core.List.{List, ◌++◌}
use Prim.Native.Nat.{ℕ, ◌+◌, ◌-◌, ◌^◌, ◌≤◌, ◌<◌}
use native.Mathlib.Omega.{arith}
use borrow.Rule.Slice.PartMut.{put_mid}
use lib.ListN.{length, take, drop, length-append, length-drop}
use Rattle.decimal.specs.Buffer.{put_at}
use Rattle.decimal.proofs.Put.{Run, part_all, put_length}
use Rattle.lines.specs.AnswerText.{longest_answer}
use Rattle.replay.specs.declared.day.Day.{Day}
use Rattle.replay.specs.declared.day.Fed.{Fed}
use Rattle.model.specs.Run.{Reachable}
use Rattle.replay.specs.Days.{day_of}
use Rattle.replay.specs.Pieces.{FedBy, end_text, last_bytes, stream_of, text_of}
use Rattle.yeldozhym.proofs.Lengths.{rooms_bounded}
use Rattle.yeldozhym.proofs.DayLaws.{Worked, end_count, end_is, fed_run, first_fits, front, last_line_lem, more_front, rest, takes_some, worked_all, worked_reachable, worked_more, worked_room}

-- the state is one that calls can leave
pub day_reachable : (input : List ℕ) (from : ℕ) (d : Day) (at : ℕ) → Worked input from (stream_of d) at → Reachable d.exchange
day_reachable input from d at w = worked_reachable input from (stream_of d) at w

-- the rest of the input is fed
module _ (input : List ℕ) (from : ℕ) (d : Day) (at : ℕ) (w : Worked input from (stream_of d) at) (out out' : List ℕ) (r : Fed)
    (f : FedBy d (take (length input - from) (drop from input)) out out' r)
  where
    part : List ℕ
    part = take (length input - from) (drop from input)

    rest_is : part ≡ drop from input
    unfolding part
    rest_is = part_all input from

    pub worked : Worked input (from + r.used) (stream_of r.day) (at + r.wrote)
    unfolding part
    worked = worked_more input from d at w part out out' r rest_is f.advanced

    pub place_small : at + r.wrote < 2 ^ 64
    place_small = omega (arith, worked_room _ _ _ _ worked, (rooms_bounded input).by_last)

    some_part : from < length input → 0 < length part
    some_part h = omega (arith, h, ap length rest_is, length-drop from input)

    -- something is taken where any answer line fits
    pub some_used : longest_answer ≤ length out → from < length input → 0 < r.used
    unfolding part
    some_used room h = f.goes_on (some_part h) room

    pub left_less : from < length input → 0 < r.used → length input - (from + r.used) < length input - from
    left_less h some = omega (arith, worked.inside, some)

-- the text of what was taken stands in a buffer that has room for the day's
module _ (input : List ℕ) (from : ℕ) (d : Day) (at : ℕ) (w : Worked input from (stream_of d) at) (xs : List ℕ) (fits : length (day_of input) ≤ length xs)
    (out : List ℕ) (run : Run xs 0 (front input from) out at)
  where
    coming : ℕ
    coming = length (rest (stream_of d) (drop from input))

    whole : at + coming ≡ length (day_of input)
    unfolding coming
    whole = worked_room _ _ _ _ w

    size : length out ≡ length xs
    size = ap length run.text ∙ put_length xs (front input from) 0 (omega (arith, run.place, whole, fits))

    pub room : at ≤ length out
    room = omega (arith, size, whole, fits)

    lent_is : length (take (length out - at) (drop at out)) ≡ length out - at
    lent_is = ap length (part_all out at) ∙ length-drop at out

    -- a part more
    module _ (out' : List ℕ) (r : Fed) (f : FedBy d (take (length input - from) (drop from input)) (take (length out - at) (drop at out)) out' r) where
      lent : List ℕ
      lent = take (length out - at) (drop at out)

      next : Worked input (from + r.used) (stream_of r.day) (at + r.wrote)
      unfolding lent
      next = worked input from d at w lent out' r f

      pub some_written : from < length input → 0 < r.used
      unfolding lent coming
      some_written h =
          let s = stream_of d in
          let bs = take (length input - from) (drop from input) in
          let all : bs ≡ drop from input = part_all input from in
          let more : 0 < length bs = omega (arith, h, ap length all, length-drop from input) in
          takes_some d bs lent out' r f more
          (omega (arith, first_fits s bs (omega (arith, more)), ap (λ (l : List ℕ). length (rest s l)) all, whole, fits, size, lent_is))

      pub more_run : Run xs 0 (front input (from + r.used)) (put_mid at (length out - at) out out') (at + r.wrote)
      more_run =
          let bs = take (length input - from) (drop from input) in
          subst (λ (t : List ℕ). Run xs 0 t (put_mid at (length out - at) out out') (at + r.wrote))
          (sym (more_front input from d at w bs _ out' r (part_all input from) f.advanced))
          (fed_run xs (front input from) out at run d bs out' r f.advanced
          (omega (arith, worked_room _ _ _ _ next, fits, size))
          (omega (arith, worked_room _ _ _ _ next, fits)))

    -- all was taken, and the last line is finished
    module _ (ended : length input ≤ from) (out' : List ℕ) (r : Fed) (f : FedBy d (last_bytes (stream_of d).line) (take (length out - at) (drop at out)) out' r) where
      all : day_of input ≡ front input from ++ end_text (stream_of d)
      all = worked_all _ _ _ _ w ended

      last_fits : at + length (end_text (stream_of d)) ≡ length (day_of input)
      last_fits = omega (arith, run.place, ap length all, length-append (front input from) (end_text (stream_of d)))

      finished : 0 < length (last_bytes (stream_of d).line) → 0 < r.used
      finished h =
          let s = stream_of d in
          takes_some d (last_bytes s.line) _ out' r f h
          (omega (arith, ap (λ (bs : List ℕ). length (text_of s bs)) (last_line_lem s.line h), last_fits, fits, size, lent_is))

      pub all_written : put_mid at (length out - at) out out' ≡ put_at xs 0 (day_of input)
      all_written =
          let n = end_count d _ _ r f.advanced finished in
          (fed_run xs (front input from) out at run d (last_bytes (stream_of d).line) out' r f.advanced
          (omega (arith, n, last_fits, fits, size))
          (omega (arith, n, last_fits, fits))).text
          ∙ ap (λ (t : List ℕ). put_at xs 0 (front input from ++ t)) (end_is d _ _ r f.advanced finished)
          ∙ ap (put_at xs 0) (sym all)

-- how much is written in the end, where any answer line fits
pub room_is : (input : List ℕ) (from : ℕ) (d : Day) (at : ℕ) → Worked input from (stream_of d) at → length input ≤ from → (out out' : List ℕ) (r : Fed)
    → FedBy d (last_bytes (stream_of d).line) out out' r → longest_answer ≤ length out → at + r.wrote ≡ length (day_of input)
room_is input from d at w ended out out' r f room =
    omega (
      arith,
      w.count,
      ap length (worked_all _ _ _ _ w ended),
      length-append (front input from) (end_text (stream_of d)),
      end_count d _ _ r f.advanced (λ h. f.goes_on h room),
    )
