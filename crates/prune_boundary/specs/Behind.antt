-- What a reading has left behind: on each node of its path the children before the one that it is in are sound, with all
-- below them.
use Rattle.std.specs.Prelude.{ℕ, suc, ◌-◌, ◌<◌, ◌≤◌, List, [], ◌∷◌, ◌≡◌, T, ltb}
use Rattle.model.specs.Words.{Shape, pick, count, start, end, row, child}
use Rattle.model.specs.Tree.{Limit, Below, sound, level, last, pairs_from, all_pairs, AllSound}
use Rattle.model.specs.Paths.{trail}
use Rattle.model.specs.declared.path.Position.{Position}
use Rattle.model.specs.declared.path.Path.{Path}
use Rattle.tree_turn.specs.Left.{bound, lowest}

module _ (C : Shape) (P : ℕ) (w : List ℕ) where
  -- node n of height h below the positions up passed its test
  pub record Passed (h n : ℕ) (up : List Position) : Type 0 where
    pub inside : n < P
    pub good : T (sound C h (level C w (suc h) n) (start C w n) (bound C w up))

  -- what is next for the last of its first k entries
  abbrev pub limit_at : ℕ → ℕ → ℕ → List Position → Limit
  limit_at h n k up = pick (ltb k (count C w n)) (Below (row C w n k)) (last h (end C w n) (bound C w up))

  -- what its first k entries lead to is sound
  unfoldable pub Done : ℕ → ℕ → ℕ → List Position → Type 0
  Done h n k up = all_pairs (AllSound C P h) (pairs_from C w (level C w h) n 0 k) (limit_at h n k up)

  -- the positions above node n of height h, each at the entry after the one that leads down; none are above the root
  unfoldable pub Above : ℕ → ℕ → ℕ → List Position → Type 0
  Above root h n [] = n ≡ root
  Above root h n (q ∷ up) =
      record {
        some : 1 ≤ q.index;
        within : q.index ≤ count C w q.node.0;
        leads : n ≡ child C w q.node.0 (q.index - 1);
        begins : start C w n ≡ row C w q.node.0 (q.index - 1);
        passed : Passed (suc h) q.node.0 up;
        done : Done (suc h) q.node.0 (q.index - 1) up;
        above : Above root (suc h) q.node.0 up;
      }

  unfoldable pub Behind : ℕ → ℕ → List Position → Type 0
  Behind root h [] = Unit {0}
  Behind root h (p ∷ up) =
      record {
        within : p.index ≤ count C w p.node.0;
        passed : Passed h p.node.0 up;
        done : Done h p.node.0 p.index up;
        above : Above root h p.node.0 up;
      }

  unfoldable pub BehindPath : ℕ → Path → Type 0
  BehindPath root p = Behind root (lowest C w (trail p)) (trail p)
