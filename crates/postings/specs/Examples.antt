-- Lines from fresh books on, and the code and amount that each answers, worked by hand from the ledger's refusals.
use Rattle.std.specs.Prelude.{ℕ, List, [], ◌∷◌, Some, None, Option}
use Rattle.postings.specs.declared.Books.{Books}
use Rattle.postings.specs.Lines.{posted_of}

-- a line's numbers, its code and its amount
abbrev pub Case : Type 0
Case = Option (List ℕ) × ℕ × ℕ

-- the same lines with what the definition answers, from books on
unfoldable pub posted : Books → List Case → List Case
posted b [] = []
posted b (c ∷ cs) = (c.0, (posted_of b c.0).code, (posted_of b c.0).amount) ∷ posted (posted_of b c.0).books cs

unfoldable pub lines : List Case
lines =
    -- the ledger and the row are apart
    (Some (1 ∷ 15 ∷ 3 ∷ 100 ∷ []), 0, 100)
    ∷ (Some (4 ∷ 3 ∷ 7 ∷ []), 0, 7)
    ∷ (Some (1 ∷ 0 ∷ 3 ∷ 20 ∷ []), 0, 20)
    ∷ (Some (3 ∷ 15 ∷ 3 ∷ []), 0, 100)
    ∷ (Some (3 ∷ 0 ∷ 3 ∷ []), 0, 20)
    ∷ (Some (2 ∷ 15 ∷ 3 ∷ 30 ∷ []), 0, 70)
    ∷ (Some (5 ∷ 3 ∷ 2 ∷ []), 0, 5)
    ∷ (Some (3 ∷ 15 ∷ 3 ∷ []), 0, 70)
    -- refusals leave both
    ∷ (Some (1 ∷ 16 ∷ 4 ∷ 1 ∷ []), 1, 0)
    ∷ (Some (1 ∷ 15 ∷ 4 ∷ 1 ∷ []), 2, 0)
    ∷ (Some (1 ∷ 15 ∷ 3 ∷ 4294967226 ∷ []), 14, 0)
    ∷ (Some (2 ∷ 15 ∷ 3 ∷ 71 ∷ []), 19, 0)
    ∷ (Some (3 ∷ 16 ∷ 0 ∷ []), 1, 0)
    ∷ (Some (4 ∷ 4 ∷ 1 ∷ []), 2, 0)
    ∷ (Some (4 ∷ 3 ∷ 4294967291 ∷ []), 14, 0)
    ∷ (Some (5 ∷ 3 ∷ 6 ∷ []), 19, 0)
    -- no such line
    ∷ (None, 20, 0)
    ∷ (Some [], 20, 0)
    ∷ (Some (0 ∷ []), 20, 0)
    ∷ (Some (3 ∷ []), 20, 0)
    ∷ (Some (5 ∷ []), 20, 0)
    ∷ (Some (7 ∷ []), 20, 0)
    ∷ (Some (6 ∷ 0 ∷ []), 20, 0)
    ∷ (Some (1 ∷ 15 ∷ 3 ∷ []), 20, 0)
    ∷ (Some (2 ∷ 15 ∷ 3 ∷ []), 20, 0)
    ∷ (Some (6 ∷ 15 ∷ 3 ∷ []), 20, 0)
    ∷ (Some (0 ∷ 15 ∷ 3 ∷ 1 ∷ []), 20, 0)
    ∷ (Some (3 ∷ 15 ∷ 3 ∷ 1 ∷ []), 20, 0)
    ∷ (Some (4 ∷ 15 ∷ 3 ∷ 1 ∷ []), 20, 0)
    ∷ (Some (1 ∷ 15 ∷ 3 ∷ 1 ∷ 1 ∷ []), 20, 0)
    ∷ (Some (1 ∷ 15 ∷ 3 ∷ 1 ∷ 1 ∷ 1 ∷ 1 ∷ 1 ∷ 1 ∷ []), 20, 0)
    -- they left both: one unit less than what was refused is done
    ∷ (Some (3 ∷ 15 ∷ 3 ∷ []), 0, 70)
    ∷ (Some (1 ∷ 15 ∷ 3 ∷ 4294967225 ∷ []), 0, 4294967295)
    ∷ (Some (4 ∷ 3 ∷ 4294967290 ∷ []), 0, 4294967295)
    ∷ (Some (3 ∷ 0 ∷ 3 ∷ []), 0, 20)
    -- fresh books: all balances and the row 0
    ∷ (Some (6 ∷ []), 0, 0)
    ∷ (Some (3 ∷ 15 ∷ 3 ∷ []), 0, 0)
    ∷ (Some (3 ∷ 0 ∷ 3 ∷ []), 0, 0)
    ∷ (Some (5 ∷ 3 ∷ 1 ∷ []), 19, 0)
    ∷ (Some (5 ∷ 3 ∷ 0 ∷ []), 0, 0)
    ∷ []
