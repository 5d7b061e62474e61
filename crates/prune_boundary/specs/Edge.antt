-- The boundary of a prune to row e: the nodes that stay but lose entries, and what goes on their left.
use Rattle.std.specs.Prelude.{ℕ, suc, ◌+◌, ◌-◌, ◌<◌, ◌≤◌, List, [], ◌∷◌, ◌++◌, ◌≡◌, length, get_or, ltb}
use Rattle.model.specs.Words.{Shape, pick, height, count, start}
use Rattle.model.specs.Tree.{Limit, Open, Below, Level, level, pairs_from}
use Rattle.model.specs.Reading.{Visit, in_pairs, nodes}
use Rattle.model.specs.Cut.{cut_pairs, cut, went_pairs, went, trims}
use Rattle.model.specs.Paths.{no_position, last_of, above}
use Rattle.model.specs.declared.path.Position.{Position}
use Rattle.model.specs.declared.path.Path.{Path}
use Rattle.law_formed.specs.Visits.{lefts}
use Rattle.tree_tally.specs.Tally.{few}
use Rattle.tree_turn.specs.Left.{ValidPath}
use Rattle.tree_turn.specs.Trace.{Walked}
use Rattle.prune_boundary.specs.Behind.{limit_at, Behind, BehindPath}
use Rattle.prune_leaf.specs.Progress.{Last}

-- the end of the last entry that goes is what is next
unfoldable pub Meets : Limit → ℕ → Type 0
Meets Open e = Unit {0}
Meets (Below x) e = e ≡ x

-- position k of node n
abbrev pub position_of : ℕ → ℕ → Position
position_of n k = record { node = record { 0 = n }; index = k }

module _ (C : Shape) (w : List ℕ) where
  -- the pairs of node n of height h; its first k
  abbrev pub first_pairs : (h n k : ℕ) → List (ℕ × Level h)
  first_pairs h n k = pairs_from C w (level C w h) n 0 k

  -- the nodes below its first k entries, in postorder
  abbrev pub first_nodes : ℕ → ℕ → ℕ → List ℕ
  first_nodes h n k = in_pairs (nodes h) (first_pairs h n k)

  -- the nodes that go where these nodes are trimmed: what their first entries lead to
  unfoldable pub went_of : List (ℕ × ℕ) → List ℕ
  went_of [] = []
  went_of (t ∷ ts) = first_nodes (height C w t.0) t.0 t.1 ++ went_of ts

  -- node n stays, and T are the nodes trimmed from it on
  pub record Stays (e h n : ℕ) (T : List (ℕ × ℕ)) : Type 0 where
    pub first : ℕ × Level h
    pub others : List (ℕ × Level h)
    pub left : cut_pairs e (cut h e) (first_pairs h n (count C w n)) ≡ first ∷ others
    pub below : start C w n < e
    pub trimmed : trims (suc h) e (level C w (suc h) n) (start C w n) ≡ T
    pub gone : went_pairs (cut h e) (went h e) (first_pairs h n (count C w n)) ≡ went_of T

  -- the first k entries of node n go, and the last of them ends at e
  pub record Cutting (P e root h n k : ℕ) (up : List Position) : Type 0 where
    pub behind : Behind C P w root h (position_of n k ∷ up)
    pub some : 1 ≤ k
    pub below : start C w n < e
    pub lands : Meets (limit_at C P w h n k up) e
    pub gone : cut_pairs e (cut h e) (first_pairs h n k) ≡ []

-- the nodes trimmed from the positions above on, each of which stands after the entry that leads down
unfoldable pub trims_up : List Position → List (ℕ × ℕ) → List (ℕ × ℕ)
trims_up [] T = T
trims_up (q ∷ up) T = trims_up up ((q.node.0, q.index - 1) ∷ T)

abbrev pub trims_on : Path → List (ℕ × ℕ)
trims_on p = trims_up (above p) (((last_of p).node.0, (last_of p).index) ∷ [])

-- a path to the leaf of the last entry named, of which u entries are named, and the visits that led to it: they left the
-- nodes that go, k of them
pub record Ended (C : Shape) (P : ℕ) (w : List ℕ) (e root : ℕ) (p : Path) (u k : ℕ) : Type 0 where
  pub deep : 0 < p.depth
  pub long : length p.positions ≡ 32
  pub valid : ValidPath C P w p
  pub behind : BehindPath C P w root p
  pub last : Last C w (last_of p).node.0 u e
  pub seen : List Visit
  pub walked : Walked C P w root seen p
  pub went : lefts seen ≡ went_of C w (trims_on p)
  pub counted : k ≡ few (length (lefts seen))

-- the same of a path to a node of which entries go
pub record Climbed (C : Shape) (P : ℕ) (w : List ℕ) (e root : ℕ) (p : Path) : Type 0 where
  pub deep : 0 < p.depth
  pub long : length p.positions ≡ 32
  pub valid : ValidPath C P w p
  pub cutting : Cutting C w P e root (height C w (last_of p).node.0) (last_of p).node.0 (last_of p).index (above p)
  pub seen : List Visit
  pub walked : Walked C P w root seen p
  pub went : lefts seen ≡ went_of C w (trims_on p)

-- entries of the node at level i of d that go, by a path on which all positions but the last stand after the entry that
-- leads down; none go below it
unfoldable pub goes_at : ℕ → ℕ → ℕ → ℕ
goes_at d i k = pick (ltb (i + 1) d) (k - 1) (pick (ltb i d) k 0)

-- on the first d levels path q has the nodes of path p, each with how many of its entries go
pub record Settled (p q : Path) (d : ℕ) : Type 0 where
  pub depth_is : q.depth ≡ p.depth
  pub long : length q.positions ≡ 32
  pub each : (i : ℕ) → i < d → get_or q.positions i no_position ≡ record { node = (get_or p.positions i no_position).node; index = goes_at p.depth i (get_or p.positions i no_position).index }

-- the path climbed to the first node that keeps an entry, or to the root; k nodes go
pub record Topped (C : Shape) (P : ℕ) (w : List ℕ) (e root : ℕ) (p : Path) (k : ℕ) : Type 0 where
  pub climbed : Climbed C P w e root p
  pub whole : count C w (last_of p).node.0 ≤ (last_of p).index → p.depth ≡ 1
  pub counted : k ≡ length (went_of C w (trims_on p))

-- the edge of a prune to row e: on each level of the tree a node with how many of its entries go, 0 below the last that loses some
pub record PruneEdge (C : Shape) (P : ℕ) (w : List ℕ) (e root : ℕ) (edge : Path) (k : ℕ) : Type 0 where
  pub from : Path
  pub topped : Topped C P w e root from k
  pub settled : Settled from edge (height C w root + 1)
