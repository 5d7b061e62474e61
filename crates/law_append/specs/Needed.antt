-- 01, "Append (`insert_row_page`)", on trees: the nodes that an append needs, and the row where it begins.
use Rattle.std.specs.Prelude.{ℕ, zero, suc, ◌+◌, List, [], ◌∷◌, length, ltb}
use Rattle.model.specs.Words.{Shape, pick}
use Rattle.model.specs.Tree.{Limit, Open, Below, Level}
use Rattle.model.specs.Reading.{Entry}
use Rattle.model.specs.WellFormed.{of_last}

-- "0 where the right leaf has room; p where the first non-full ancestor has height p": the lowest node with room on the
-- right edge of a tree of height h; o where none has
unfoldable pub needed_from : Shape → (h : ℕ) → Level (suc h) → ℕ → ℕ
needed_from C zero t o = pick (ltb (length t.pairs) C.cap) 0 o
needed_from C (suc h) t o = of_last (λ x. needed_from C h x (pick (ltb (length t.pairs) C.cap) (suc h) o)) t.pairs

-- "height + 2 where all are full"
unfoldable pub needed : Shape → (h : ℕ) → Level (suc h) → ℕ
needed C h t = needed_from C h t (h + 2)

-- "Empty root: the range begins at its start; else at the right leaf's end": where the entries end that begin at row r
abbrev pub end_or : Limit → ℕ → ℕ
end_or Open r = r
end_or (Below e) r = e

unfoldable pub entries_end : ℕ → List Entry → ℕ
entries_end r [] = r
entries_end r (e ∷ es) = entries_end (end_or e.high r) es
