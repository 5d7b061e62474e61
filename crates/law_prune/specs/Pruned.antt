-- What an accepted prune leaves, by the former and the new tree.
use Rattle.std.specs.Prelude.{ℕ, suc, ◌+◌, ◌-◌, ◌≤◌, List, [], ◌∷◌, ◌++◌, reverse, ◌≡◌, length, drop}
use Rattle.model.specs.Words.{Shape, root}
use Rattle.model.specs.Tree.{Open}
use Rattle.model.specs.Cut.{cut}
use Rattle.law_prune.specs.Cutting.{left_tree}
use Rattle.model.specs.Reading.{Entry, entries, occ, nodes}
use Rattle.model.specs.Refusals.{result, refused, Outcome}
use Rattle.model.specs.Ledger.{Cut, refuses, leaves}
use Rattle.law_formed.specs.Formed.{Formed, tree_of}
use Rattle.law_formed.specs.Holds.{entries_from}

-- "levels collapsed; a reset to empty collapses none": from height h to height g, with the entries that are left
unfoldable pub collapsed_levels : ℕ → ℕ → List Entry → ℕ
collapsed_levels h g [] = 0
collapsed_levels h g (a ∷ es) = h - g

-- v are the words, k, f and l the answer: "entries removed, nodes freed, levels collapsed"
pub record Pruned (C : Shape) (P : ℕ) (w : List ℕ) (h r : ℕ) (ns : List ℕ) (e k f l : ℕ) (v : List ℕ) : Type 0 where
  -- the new root's height, the nodes freed in their order, and all free nodes
  pub height : ℕ
  pub freed : List ℕ
  pub chain : List ℕ
  pub formed : Formed C P v height e chain
  pub entries-left : entries (suc height) (tree_of C v height) e Open ≡ drop k (entries (suc h) (tree_of C w h) r Open)
  pub enough : k ≤ length (entries (suc h) (tree_of C w h) r Open)
  -- a node of the former tree is freed, or it is in the new one
  pub split : (m : ℕ) → occ m (nodes (suc h) (tree_of C w h)) ≡ occ m freed + occ m (nodes (suc height) (tree_of C v height))
  pub many : f ≡ length freed
  pub fewer : f ≡ length (nodes (suc h) (tree_of C w h)) - length (nodes (suc height) (tree_of C v height))
  pub chain-is : chain ≡ reverse freed ++ ns
  pub more : length chain ≡ length ns + f
  pub same-root : root v ≡ root w
  -- which tree is left
  pub tree-left : (height, tree_of C v height) ≡ left_tree (root w) h e (cut (suc h) e (tree_of C w h) r)
  pub lower : height ≤ h
  pub reset : entries (suc height) (tree_of C v height) e Open ≡ [] → height ≡ 0
  pub levels : l ≡ collapsed_levels h height (entries (suc height) (tree_of C v height) e Open)

-- the outcome of a prune that names ids and ends at e
pub record Accepts (C : Shape) (P : ℕ) (w : List ℕ) (h r : ℕ) (ns : List ℕ) (e : ℕ) (ids : List ℕ) (o : Outcome) : Type 0 where
  pub f : ℕ
  pub l : ℕ
  pub answer : o.answer ≡ result (length ids ∷ f ∷ l ∷ [])
  pub pruned : Pruned C P w h r ns e (length ids) f l o.words

-- the outcome that a cut of the ledger asks for
unfoldable pub Follows : (C : Shape) (P : ℕ) (w : List ℕ) (h r : ℕ) (ns : List ℕ) (e : ℕ) (ids : List ℕ) → Cut → Outcome → Type 0
Follows C P w h r ns e ids (refuses a d) o = o ≡ record { answer = refused a d; words = w }
Follows C P w h r ns e ids (leaves gs) o =
    (x : Accepts C P w h r ns e ids o) × (entries (suc x.pruned.height) (tree_of C o.words x.pruned.height) e Open ≡ entries_from e gs)
