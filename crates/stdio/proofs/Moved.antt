-- What was moved before a turn, and what the turn moved, are one piece.
use Rattle.std.proofs.Common.{◌≡◌, ℕ, ◌+◌, ◌-◌, ◌≤◌, List, ◌++◌, length, take, drop, subst, sym, ap, ◌∙◌, Option}
use Rattle.std.proofs.Math.Seq.{take-add, take-append-add}
use Rattle.std.proofs.lemmas.List.{length-take-le, take-append-le, take_rest}
use borrow.Rule.Slice.PartMut.{put_mid}
use Rattle.std.specs.Io.KnownBytes.{Appends, Consumes}
use Rattle.std.proofs.KnownBytes.{Appends-trans, Consumes-trans}

-- n bytes of a text were written, and now m of the rest
pub written : (old mid new : Option (List ℕ)) (n m : ℕ) (text : List ℕ) → Appends old mid (take n text)
    → Appends mid new (take m (take (length text - n) (drop n text))) → Appends old new (take (n + m) text)
written old mid new n m text before now =
    subst
    (Appends old new)
    (ap (λ l. take n text ++ take m l) (take_rest text n) ∙ sym (take-add n m text))
    (Appends-trans _ _ _ _ _ before now)

-- n bytes were read, and now m at the front of a part of the buffer
pub read_more : (old mid new : Option (List ℕ)) (n k m : ℕ) (buf part : List ℕ) → n ≤ length buf → m ≤ length part → Consumes old mid (take n buf)
    → Consumes mid new (take m part) → Consumes old new (take (n + m) (put_mid n k buf part))
read_more old mid new n k m buf part h l before now =
    let front = take n buf in
    let rest = drop k (drop n buf) in
    let long : length front ≡ n = length-take-le n buf h in
    subst
    (Consumes old new)
    (sym (ap (λ i. take (i + m) (front ++ (part ++ rest))) (sym long) ∙ take-append-add front (part ++ rest) m ∙ ap (λ z. front ++ z) (take-append-le m part rest l)))
    (Consumes-trans _ _ _ _ _ before now)
