-- The chain of free nodes.
use Rattle.std.specs.Prelude.{ℕ, zero, suc, ◌+◌, List, [], ◌∷◌, Bool, ◌&&◌, get_or, eqb, leb, ltb}
use Rattle.model.specs.Words.{Shape, height, count, free_mark}
use Rattle.model.specs.declared.id.NodeNo.{NodeNo}

-- "each below P and marked free, its next number at most P"
abbrev pub is_link : Shape → ℕ → List ℕ → ℕ → Bool
is_link C P w n = ltb n P && eqb (height C w n) free_mark && leb (count C w n) P

-- the numbers of k nodes of an array, from place i on
unfoldable pub listed : List NodeNo → ℕ → ℕ → List ℕ
listed l i zero = []
listed l i (suc k) = (get_or l i (record { 0 = 0 })).0 ∷ listed l (i + 1) k
