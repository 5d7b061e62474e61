-- A well-formed store, with its root's height, its start and its free nodes at hand.
use Rattle.std.specs.Prelude.{ℕ, suc, ◌+◌, ◌<◌, ◌≤◌, List, [], ◌≡◌, length, ltb}
use Rattle.model.specs.Words.{Shape, pick, capacity, pool, root, free_head, free_count, NONE, row_limit, max_height, Header}
use Rattle.model.specs.Tree.{Level, level, Open}
use Rattle.model.specs.Reading.{occ, nodes}
use Rattle.model.specs.WellFormed.{Chain}
use Rattle.law_formed.specs.Well.{Well}

-- an empty root leaf from row r on
pub record Blank (P h : ℕ) (t : Level (suc h)) (r : ℕ) : Type 0 where
  pub leaf : h ≡ 0
  pub inside : t.number < P
  pub high : t.height ≡ 0
  pub none : t.pairs ≡ []
  pub begin : t.start ≡ r
  pub low : r ≤ row_limit
  pub ends : t.end ≡ NONE

pub data Whole (C : Shape) (P h : ℕ) (t : Level (suc h)) (r : ℕ) : Type 0 where
  blank : Blank P h t r → Whole C P h t r
  held : Well C P (suc h) t r Open → Whole C P h t r

-- the tree of a store whose root has height h
abbrev pub tree_of : Shape → List ℕ → (h : ℕ) → Level (suc h)
tree_of C w h = level C w (suc h) (root w)

-- the root has height h, rows begin at r, the free nodes are ns, in the chain's order
pub record Formed (C : Shape) (P : ℕ) (w : List ℕ) (h r : ℕ) (ns : List ℕ) : Type 0 where
  pub capacity-is : capacity w ≡ C.cap
  pub pool-is : pool w ≡ P
  pub header : Header C.cap P w
  pub whole : Whole C P h (tree_of C w h) r
  pub high : h ≤ max_height
  pub chain : Chain C P w (free_head w) ns
  pub free : free_count w ≡ length ns
  -- each node stands once in the tree or once in the chain, and nothing else does
  pub cover : (m : ℕ) → occ m (nodes (suc h) (tree_of C w h)) + occ m ns ≡ pick (ltb m P) 1 0
