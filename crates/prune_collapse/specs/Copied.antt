-- The nodes copied as the code answers them.
use Rattle.std.specs.Prelude.{ℕ, suc, ◌-◌, ◌<◌, ◌≤◌, List, true, ◌≡◌, Option, Some, None, Result, Ok, Err, ltb, eqb}
use Rattle.model.specs.Words.{Shape, pick, height, count, start, row, child}
use Rattle.model.specs.Tree.{Open, node_at, sound}
use Rattle.model.specs.Reading.{root_tree}
use Rattle.model.specs.Cut.{trims}
use Rattle.model.specs.Prune as Prune
use Rattle.model.specs.declared.path.Path.{Path}
use Rattle.prune_boundary.specs.Trims.{trims_of}
use Rattle.node_read.specs.Layout.{shape_of}
use Rattle.node_read.specs.declared.layout.Layout.{Layout}
use Rattle.node_chain.specs.Chain.{listed}
use Rattle.model.specs.declared.answer.UnsoundNode.{UnsoundNode}
use Rattle.model.specs.declared.id.NodeNo.{NodeNo}
use Rattle.prune_collapse.specs.declared.Copies.{Copies}

abbrev pub copies_of : Result Copies UnsoundNode → Prune.Copies
copies_of (Ok c) = Prune.copies (listed c.nodes 0 c.count)
copies_of (Err u) = Prune.unsound u.0.0

-- the copy at branch n of height h, of which k entries go: its last child, where that is the one entry that stays
unfoldable pub copy_at : Shape → ℕ → List ℕ → ℕ → ℕ → ℕ → Result (Option NodeNo) UnsoundNode
copy_at C P w n h k =
    let c = child C w n (count C w n - 1) in
    let tested = pick (sound C (h - 1) (node_at C w c) (row C w n (count C w n - 1)) Open) (Ok (Some (record { 0 = c }))) (Err (record { 0 = record { 0 = c } })) in
    pick (eqb (count C w n - k) 1) (pick (ltb c P) tested (Err (record { 0 = record { 0 = n } }))) (Ok None)

-- a root that passed its test
pub record SoundTop (C : Shape) (P : ℕ) (w : List ℕ) (n : ℕ) : Type 0 where
  pub inside : n < P
  pub low : height C w n ≤ 31
  pub good : sound C (height C w n) (node_at C w n) (start C w n) Open ≡ true

-- c are the nodes copied where the edge is that of a prune to row e
unfoldable pub Collapses : Shape → ℕ → List ℕ → ℕ → Path → Prune.Copies → Type 0
Collapses C P w n edge c =
    (e : ℕ) → trims (suc (height C w n)) e (root_tree C w n) (start C w n) ≡ trims_of edge → c ≡ Prune.copies_from C P (height C w n) e (root_tree C w n) (start C w n)

-- a node that can be asked for its copy
abbrev pub Asked : Layout → List ℕ → ℕ → ℕ → Type 0
Asked l w n h = (n < l.pool) × (1 ≤ count (shape_of l) w n) × (count (shape_of l) w n ≤ l.capacity) × (0 < h)
