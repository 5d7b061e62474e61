-- What a path has left to visit, on any words.
use Rattle.std.specs.Prelude.{ℕ, suc, ◌-◌, ◌<◌, ◌≤◌, List, [], ◌∷◌, ◌++◌, ◌≡◌, Bool, ltb}
use Rattle.model.specs.Words.{Shape, pick, height, count, end, row}
use Rattle.model.specs.Tree.{Limit, Open, Below, pairs_from, level, last, over_pairs}
use Rattle.model.specs.Reading.{Visit, Leave, visits}
use Rattle.model.specs.Paths.{trail, entered}
use Rattle.model.specs.declared.path.Position.{Position}
use Rattle.model.specs.declared.path.Path.{Path}

-- what is next after the entries that the positions, the last one first, have followed
unfoldable pub bound : Shape → List ℕ → List Position → Limit
bound C w [] = Open
bound C w (p ∷ up) =
    pick (ltb p.index (count C w p.node.0)) (Below (row C w p.node.0 p.index)) (bound C w up)

-- what is left to visit where the last position is a node of height h
unfoldable pub rest : Bool → Shape → ℕ → List ℕ → ℕ → List Position → List Visit
rest ends C P w h [] = []
rest ends C P w h (p ∷ up) =
    let n = p.node.0 in
    over_pairs (visits ends C P h n) (pairs_from C w (level C w h) n p.index (count C w n - p.index)) (last h (end C w n) (bound C w up))
    ++ (Leave n ∷ rest ends C P w (suc h) up)

-- what is left at node n, just entered
abbrev pub below : Bool → Shape → ℕ → List ℕ → ℕ → List Visit
below ends C P w n = rest ends C P w (height C w n) (entered n ∷ [])

-- a path's nodes are in the pool, each one higher than the next, at most 32 of them
unfoldable pub Valid : Shape → ℕ → List ℕ → ℕ → List Position → Type 0
Valid C P w h [] = h ≤ 32
Valid C P w h (p ∷ up) =
    record {
      inside : p.node.0 < P;
      high : height C w p.node.0 ≡ h;
      within : p.index ≤ count C w p.node.0;
      narrow : count C w p.node.0 ≤ C.cap;
      above : Valid C P w (suc h) up;
    }

unfoldable pub lowest : Shape → List ℕ → List Position → ℕ
lowest C w [] = 0
lowest C w (p ∷ up) = height C w p.node.0

unfoldable pub left : Bool → Shape → ℕ → List ℕ → Path → List Visit
left ends C P w p = rest ends C P w (lowest C w (trail p)) (trail p)

unfoldable pub ValidPath : Shape → ℕ → List ℕ → Path → Type 0
ValidPath C P w p = Valid C P w (lowest C w (trail p)) (trail p)

-- a move of the walk from path p to path q: visit v comes first of what was left
pub record Moves (ends : Bool) (C : Shape) (P : ℕ) (w : List ℕ) (p : Path) (v : Visit) (q : Path) : Type 0 where
  pub one : left ends C P w p ≡ v ∷ left ends C P w q
  pub valid : ValidPath C P w q

-- the nodes of positions
unfoldable pub on_path : List Position → List ℕ
on_path [] = []
on_path (p ∷ up) = p.node.0 ∷ on_path up
