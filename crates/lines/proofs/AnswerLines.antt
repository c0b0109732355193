-- Laws of the answer line: its fields and its length.
use Rattle.std.specs.Prelude.{Ok, Err}
use mathlib.Core.Path.{◌≡◌, refl}
use mathlib.Core.List.{List, [], ◌∷◌, ◌++◌, append_assoc}
use Prim.Native.Nat.{ℕ, ◌+◌, ◌≤◌, ◌<◌, ◌^◌}
use native.Mathlib.Omega.{arith}
use lib.Dec.{lit<}
use lib.ListN.{length, length-append}
use Rattle.units.specs.Decimal.{digits}
use Rattle.decimal.proofs.Digits.{digits_most, digits_bound}
use Rattle.model.specs.declared.answer.Refusal.{Refusal}
use Rattle.lines.specs.AnswerText.{longest_answer, accepted_text, refused_text}
use Rattle.model.specs.Answers.{Answer, refusal_code, code_of, first_of, second_of, answer_line}

-- a number and the byte that ends it
abbrev pub field : ℕ → ℕ → List ℕ
field n e = digits n ++ (e ∷ [])

pub field_length : (n e : ℕ) → length (field n e) ≡ length (digits n) + 1
field_length n e = length-append (digits n) (e ∷ [])

-- what follows the line's number
pub accepted_length : (first second : ℕ) → length (accepted_text first second) ≡ length (digits first) + length (digits second) + 4
accepted_length first second = simp length-append (omega arith)

pub refused_length : (code : ℕ) → length (refused_text code) ≡ length (digits code) + 5
refused_length code = simp length-append (omega arith)

-- the line by its case, however it is come by
pub accepted_line : (n first second : ℕ) (a : Answer) → a ≡ Ok (first, second) → field n 44 ++ accepted_text first second ≡ answer_line n a
unfolding answer_line digits
accepted_line n first second a e = rw e (append_assoc (digits n) (44 ∷ []) (accepted_text first second))

pub refused_line : (n code : ℕ) (why : Refusal) (a : Answer) → code ≡ refusal_code why → a ≡ Err why
    → field n 44 ++ refused_text code ≡ answer_line n a
unfolding answer_line digits
refused_line n code why a k e = rw (k, e) (append_assoc (digits n) (44 ∷ []) (refused_text (refusal_code why)))

pub line_length : (n : ℕ) (a : Answer)
    → length (answer_line n a) ≡ length (digits n) + length (digits (code_of a)) + length (digits (first_of a)) + length (digits (second_of a)) + 4
unfolding answer_line
line_length n a = simp length-append (omega arith)

refusal_bound : (r : Refusal) → refusal_code r < 100
refusal_bound Refusal.NoSuchMember = lit< tt
refusal_bound Refusal.NoSuchToken = lit< tt
refusal_bound Refusal.NoSuchMarket = lit< tt
refusal_bound Refusal.NoSuchTicket = lit< tt
refusal_bound Refusal.NoSuchSide = lit< tt
refusal_bound Refusal.BadAmountOrLimit = lit< tt
refusal_bound Refusal.TicketInUse = lit< tt
refusal_bound Refusal.NoSuchOrder = lit< tt
refusal_bound Refusal.WrongTicketState = lit< tt
refusal_bound Refusal.BadTerms = lit< tt
refusal_bound Refusal.WrongPhase = lit< tt
refusal_bound Refusal.StaleBlock = lit< tt
refusal_bound Refusal.TooEarly = lit< tt
refusal_bound Refusal.SupplyExceeded = lit< tt
refusal_bound Refusal.LimitOutOfBounds = lit< tt
refusal_bound Refusal.AuctionOver = lit< tt
refusal_bound Refusal.NotAvailable = lit< tt
refusal_bound Refusal.BoundMissed = lit< tt
refusal_bound Refusal.InsufficientBalance = lit< tt
refusal_bound Refusal.MalformedLine = lit< tt
refusal_bound Refusal.BufferTooShort = lit< tt
refusal_bound Refusal.BadOrderList = lit< tt

one_digit : length (digits 0) ≡ 1
unfolding digits
one_digit = refl

-- ten digits at most for each number; the code of an acceptance has one, that of a refusal at most two, and its numbers have one each
pub answer_bound : (n : ℕ) (a : Answer) → n < 2 ^ 32 → first_of a < 2 ^ 32 → second_of a < 2 ^ 32 → length (answer_line n a) ≤ longest_answer
answer_bound n (Ok (first, second)) hn hf hs =
    omega (arith, line_length n (Ok (first, second)), one_digit, digits_bound n hn, digits_bound first hf, digits_bound second hs)
answer_bound n (Err why) hn hf hs =
    omega (arith, line_length n (Err why), digits_most 1 (refusal_code why) (refusal_bound why), one_digit, digits_bound n hn)

pub answer_pos : (n : ℕ) (a : Answer) → 0 < length (answer_line n a)
answer_pos n a = omega (arith, line_length n a)
