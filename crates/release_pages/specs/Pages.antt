-- The page ids that a walk finds in the leaves it leaves.
use Rattle.std.specs.Prelude.{ℕ, zero, suc, ◌+◌, List, [], ◌∷◌, ◌++◌, eqb}
use Rattle.model.specs.Words.{Shape, pick, height, count, child}
use Rattle.model.specs.Reading.{Visit, Enter, Leave, Bad}

-- page ids i, i + 1, … of node n, k of them
unfoldable pub pages_from : Shape → List ℕ → ℕ → ℕ → ℕ → List ℕ
pages_from C w n i zero = []
pages_from C w n i (suc k) = child C w n i ∷ pages_from C w n (i + 1) k

-- those of a leaf; a branch has none
unfoldable pub pages_at : Shape → List ℕ → ℕ → List ℕ
pages_at C w n = pick (eqb (height C w n) 0) (pages_from C w n 0 (count C w n)) []

-- those of the nodes that are left
unfoldable pub pages_of : Shape → List ℕ → List Visit → List ℕ
pages_of C w [] = []
pages_of C w (Enter n ∷ vs) = pages_of C w vs
pages_of C w (Leave n ∷ vs) = pages_at C w n ++ pages_of C w vs
pages_of C w (Bad n ∷ vs) = pages_of C w vs
