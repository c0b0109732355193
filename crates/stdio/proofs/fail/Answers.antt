-- `stdio::fail` meets its contract: where all four parts were taken, they are the line.
use Rattle.std.proofs.Common.{◌≡◌, ℕ, ◌≤◌, List, [], ◌∷◌, length, take, arith, rules}
use Rattle.std.specs.Prelude.{OnOk, Option, Result, Ok, Err}
use Rattle.std.specs.Io.KnownBytes.{Appends}
use Rattle.std.proofs.KnownBytes.{Appends-trans}
use lib.ListN.{length-take}
use Rattle.stdio.specs.Failing.{TellsFailure}
use Rattle.stdio.proofs.fail.Goals as goal

line : {A E : Type 0} (r : Result A E) (old a b c new : Option (List ℕ)) (words cause : List ℕ) → length cause ≤ 256 → Appends old a words → Appends a b (58 ∷ 32 ∷ []) → Appends b c cause
    → OnOk r (Appends c new (10 ∷ [])) → OnOk r (TellsFailure old new words)
line (Ok x) old a b c new words cause short p q s e =
    (cause, short, Appends-trans _ _ _ _ _ (Appends-trans _ _ _ _ _ (Appends-trans _ _ _ _ _ p q) s) e)
line (Err x) old a b c new words cause short p q s e = tt

pub returns : goal.returns
returns g c =
    let n = c.if-is_some.length in
    let room = c.into_inner-room.result in
    let size : length room ≡ 256 = search rules in
    line _ _ _ _ _ _ _ (take n room) (omega (arith, length-take n room, size)) c.in_ok-named.ensures.bytes c.in_ok-parted.ensures.bytes c.in_ok-told.ensures.bytes c.write_all-ended.ensures.bytes
