-- The right edge, on any words: from a node down by its last entry.
use Rattle.std.specs.Prelude.{ℕ, Result, Ok, Err, IfOk, zero, suc, ◌+◌, ◌<◌, ◌≤◌, List, [], ◌∷◌, ◌≡◌, take}
use Rattle.model.specs.Words.{Shape, height, count, child, free_count, row_limit, max_height}
use Rattle.model.specs.Tree.{Open}
use Rattle.model.specs.Reading.{Reached, unsound, leaf, descend, root_leaf, to_right}
use Rattle.model.specs.Append as A
use Rattle.model.specs.Append.{append_start, room_from}
use Rattle.model.specs.declared.answer.UnsoundNode.{UnsoundNode}
use Rattle.model.specs.declared.path.Position.{Position}
use Rattle.tree_right_edge.specs.declared.Room.{Room}
use Rattle.tree_right_edge.specs.declared.RightEdge.{RightEdge}

-- node n at its last entry
abbrev pub last_in : Shape → List ℕ → ℕ → Position
last_in C w n = record { node = record { 0 = n }; index = to_right C w n }

-- the right edge from node n of height h, the top first
unfoldable pub right_edge : Shape → List ℕ → ℕ → ℕ → List Position
right_edge C w zero n = last_in C w n ∷ []
right_edge C w (suc h) n = last_in C w n ∷ right_edge C w h (child C w n (to_right C w n))

abbrev pub room_of : Room → A.Room
room_of o = record { node = o.node.0; needed = o.needed }

-- the leaf that a sound edge ends at, or its first unsound node
abbrev pub end_of : Result RightEdge UnsoundNode → Reached
end_of (Ok e) = leaf e.leaf.0 Open
end_of (Err u) = unsound u.0.0

-- the nodes down from n, of height h, by the last entry of each: they are in the pool, and branches have entries
unfoldable pub Edge : Shape → ℕ → List ℕ → ℕ → ℕ → Type 0
Edge C P w zero n = n < P
Edge C P w (suc h) n = (n < P) × (1 ≤ count C w n) × (count C w n ≤ C.cap) × Edge C P w h (child C w n (to_right C w n))

-- the right edge from root n is sound, down to leaf l
pub record SoundEdge (C : Shape) (P : ℕ) (w : List ℕ) (n l : ℕ) : Type 0 where
  pub high : height C w n ≤ max_height
  pub edge : Edge C P w (height C w n) n
  pub inside : l < P
  pub low : append_start C w l ≤ row_limit

-- the path down from node n of height h, and the lowest node on it with room
pub record EdgeWalked (C : Shape) (w : List ℕ) (h n : ℕ) (e : RightEdge) : Type 0 where
  pub deep : e.path.depth ≡ h + 1
  pub path : take e.path.depth e.path.positions ≡ right_edge C w h n
  pub room : room_of e.room ≡ room_from C w h n (record { node = n; needed = h + 2 })

-- what a walk down from node n of height h answers, which row r leads to: the first unsound node, or the path to the leaf
pub record Descended (C : Shape) (P : ℕ) (w : List ℕ) (h n r : ℕ) (e : Result RightEdge UnsoundNode) : Type 0 where
  pub answer : end_of e ≡ descend (to_right C w) C P w h n n r Open
  pub walked : IfOk e (EdgeWalked C w h n)

-- the right edge from root n, where it is sound: its path, the lowest node on it with room, and what its tests have shown
pub record WholeEdge (C : Shape) (P : ℕ) (w : List ℕ) (n : ℕ) (e : RightEdge) : Type 0 where
  pub ready : SoundEdge C P w n e.leaf.0
  pub deep : e.path.depth ≡ height C w n + 1
  pub path : take e.path.depth e.path.positions ≡ right_edge C w (height C w n) n
  pub room : room_of e.room ≡ A.room C w n

-- what the walk from root n answers, by 01's definition of the path to the right leaf
pub record EdgeFound (C : Shape) (P : ℕ) (w : List ℕ) (n : ℕ) (e : Result RightEdge UnsoundNode) : Type 0 where
  pub answer : end_of e ≡ root_leaf (to_right C w) C P w n
  pub whole : IfOk e (WholeEdge C P w n)

-- room that an append may use, the chain aside
pub record Usable (C : Shape) (P : ℕ) (w : List ℕ) (n : ℕ) (o : A.Room) : Type 0 where
  pub high : height C w n ≤ max_height
  pub few : o.needed ≤ 32
  pub free : o.needed ≤ free_count w
  pub hangs : o.needed ≤ height C w n → (o.node < P) × (count C w o.node < C.cap)
  pub splits : height C w n < o.needed → o.needed ≡ height C w n + 2
