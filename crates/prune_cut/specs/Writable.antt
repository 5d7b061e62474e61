-- What is known before an accepted prune writes.
use Rattle.std.specs.Prelude.{ℕ, ◌+◌, ◌<◌, ◌≤◌, List, ◌++◌, reverse, ◌≡◌, length, take}
use Rattle.model.specs.Words.{Shape, free_count, free_all, emptied}
use Rattle.model.specs.Reading.{occ, root_nodes}
use Rattle.model.specs.Prune.{copy_all, trim_all}
use Rattle.model.specs.declared.id.NodeNo.{NodeNo}
use Rattle.model.specs.declared.path.Path.{Path}
use Rattle.node_chain.specs.Chain.{listed}
use Rattle.tree_free.specs.CanFree.{CanFree}
use Rattle.prune_boundary.specs.Edge.{went_of}
use Rattle.prune_boundary.specs.Trims.{trims_of, Trims, Outside, Untouched}
use Rattle.prune_write.specs.Nodes.{AllIn}

-- the nodes that go are the first j in postorder, and can be freed; the root is none of them
pub record Resettable (C : Shape) (P : ℕ) (w : List ℕ) (root : ℕ) (edge : Path) (j : ℕ) : Type 0 where
  pub ready : CanFree C P w root j
  pub first : take j (root_nodes C w root) ≡ went_of C w (trims_of edge)
  pub inside : root < P
  pub root-stays : occ root (went_of C w (trims_of edge)) ≡ 0

-- something is left, and nodes are copied into the root
pub record Writable (C : Shape) (P : ℕ) (w : List ℕ) (root : ℕ) (edge : Path) (j : ℕ) (nodes : List NodeNo) : Type 0 where
  pub reset : Resettable C P w root edge j
  pub low : edge.depth ≤ 32
  pub long : length edge.positions ≡ 32
  pub trims : Trims C P w (trims_of edge)
  pub found : AllIn P nodes (length nodes)
  pub stays : Untouched (went_of C w (trims_of edge)) (trims_of edge)
  pub copies-stay : Outside (went_of C w (trims_of edge)) (listed nodes 0 (length nodes))
  pub room : free_count w + length (went_of C w (trims_of edge)) + length nodes ≤ 65535

-- the words that a cut leaves, and a reset
abbrev pub cut_words : Shape → List ℕ → ℕ → ℕ → List (ℕ × ℕ) → List ℕ → List ℕ
cut_words C w n e T ns = free_all C (copy_all C (trim_all C w e T) n ns) (went_of C w T ++ reverse ns)

abbrev pub reset_words : Shape → List ℕ → ℕ → ℕ → List (ℕ × ℕ) → List ℕ
reset_words C w n e T = free_all C (emptied C w n e) (went_of C w T)
