-- An edge that was found in a store whose root passed its test, and what 01 asks of it.
use Rattle.std.specs.Prelude.{ℕ, ◌+◌, ◌<◌, ◌≤◌, List, [], ◌∷◌, ◌++◌, reverse, true, ◌≡◌, length, leb, eqb}
use Rattle.model.specs.Words.{Shape, pick, free_count, free_all, emptied, height, count, start, Header}
use Rattle.model.specs.Tree.{Open, node_at, sound, empty_root, root_sound}
use Rattle.model.specs.Reading.{root_tree}
use Rattle.model.specs.Refusals.{Answer, result, refused, damaged, Outcome}
use Rattle.model.specs.Prune.{Copies, unsound, copies, trim_all, copy_all, copies_from, root_copies, prune_with, prune_root, Scan, prune_scanned}
use Rattle.model.specs.Paths.{last_of}
use Rattle.model.specs.declared.path.Path.{Path}
use Rattle.node_read.specs.Layout.{shape_of}
use Rattle.node_read.specs.declared.header.StoreHeader.{StoreHeader}
use Rattle.prune_boundary.specs.Edge.{went_of, PruneEdge}
use Rattle.prune_boundary.specs.Trims.{trims_of}
use Rattle.prune_edge.specs.declared.Boundary.{Boundary}

-- an open store with root n, of which f nodes are free
pub record InStore (C : Shape) (P : ℕ) (w : List ℕ) (n f : ℕ) : Type 0 where
  pub header : Header C.cap P w
  pub inside : n < P
  pub free : f ≡ free_count w
  pub free_in : f ≤ P

-- a root that passed its test
pub record Rooted (C : Shape) (P : ℕ) (w : List ℕ) (root f : ℕ) : Type 0 where
  pub header : Header C.cap P w
  pub inside : root < P
  pub low : height C w root ≤ 31
  pub good : sound C (height C w root) (node_at C w root) (start C w root) Open ≡ true
  pub free : f ≡ free_count w
  pub free_in : f ≤ P

-- all entries of the last node of an edge go; some stay
abbrev pub AllGo : Shape → List ℕ → Path → Type 0
AllGo C w p = count C w (last_of p).node.0 ≤ (last_of p).index

abbrev pub SomeStay : Shape → List ℕ → Path → Type 0
SomeStay C w p = (last_of p).index < count C w (last_of p).node.0

-- k entries go, the nodes T lose entries, and nothing is left
unfoldable pub reset_to : Shape → ℕ → List ℕ → ℕ → ℕ → ℕ → List (ℕ × ℕ) → Outcome
reset_to C P w n e k T =
    let G = went_of C w T in
    let done : Outcome = record { answer = result (k ∷ length G ∷ 0 ∷ []); words = free_all C (emptied C w n e) G } in
    pick (leb (free_count w + length G) P) done (record { answer = damaged; words = w })

-- k entries go, the nodes T are trimmed, and some are copied into the root
unfoldable pub cut_to : Shape → ℕ → List ℕ → ℕ → ℕ → ℕ → List (ℕ × ℕ) → Copies → Outcome
cut_to C P w n e k T (unsound m) = record { answer = refused 2 m; words = w }
cut_to C P w n e k T (copies ns) =
    let G = went_of C w T in
    let f = length G + length ns in
    let done : Outcome = record { answer = result (k ∷ f ∷ length ns ∷ []); words = free_all C (copy_all C (trim_all C w e T) n ns) (G ++ reverse ns) } in
    pick (leb (free_count w + f) P) done (record { answer = damaged; words = w })

-- k entries go, the last of which ends at e
abbrev pub cut_at : Shape → ℕ → List ℕ → ℕ → ℕ → ℕ → Outcome
cut_at C P w n e k = let h = height C w n in prune_with C P w n h e (root_tree C w n) k (root_copies C P h e (root_tree C w n))

-- what is asked of an open store after 7: "root 2, 8, then leaf by leaf"
unfoldable pub prune_at : Shape → ℕ → List ℕ → ℕ → ℕ → ℕ → List ℕ → Outcome
prune_at C P w n s e ids =
    let refuse : Answer → Outcome = λ a. record { answer = a; words = w } in
    let leaves = pick (empty_root C w n) (refuse (refused 11 0)) (prune_root C P w n (height C w n) e ids (root_tree C w n)) in
    let eight = pick (eqb s (start C w n)) leaves (refuse (refused 8 (start C w n))) in
    pick (root_sound C w n) eight (refuse (refused 2 n))

-- The same in an open store with this header ---------------------------------------------------------------
abbrev pub InOpen : StoreHeader → List ℕ → Type 0
InOpen h w = InStore (shape_of h.layout) h.layout.pool w h.root.0 h.free_count

abbrev pub RootedIn : StoreHeader → List ℕ → Type 0
RootedIn h w = Rooted (shape_of h.layout) h.layout.pool w h.root.0 h.free_count

abbrev pub EdgedIn : StoreHeader → List ℕ → ℕ → Boundary → Type 0
EdgedIn h w e b = PruneEdge (shape_of h.layout) h.layout.pool w e h.root.0 b.edge b.gone

abbrev pub reset_in : StoreHeader → List ℕ → ℕ → ℕ → Path → Outcome
reset_in h w e k p = reset_to (shape_of h.layout) h.layout.pool w h.root.0 e k (trims_of p)

-- with the copies of the tree
abbrev pub cut_in : StoreHeader → List ℕ → ℕ → ℕ → Path → Outcome
cut_in h w e k p =
    let C = shape_of h.layout in
    let n = h.root.0 in
    cut_to C h.layout.pool w n e k (trims_of p) (copies_from C h.layout.pool (height C w n) e (root_tree C w n) (start C w n))

abbrev pub cut_at_in : StoreHeader → List ℕ → ℕ → ℕ → Outcome
cut_at_in h w e k = cut_at (shape_of h.layout) h.layout.pool w h.root.0 e k

abbrev pub prune_in : StoreHeader → List ℕ → ℕ → ℕ → List ℕ → Outcome
prune_in h w s e ids = prune_at (shape_of h.layout) h.layout.pool w h.root.0 s e ids

-- the list against the leaves came to x
abbrev pub scanned_in : StoreHeader → List ℕ → ℕ → Scan → Outcome
scanned_in h w e x =
    let C = shape_of h.layout in
    let n = h.root.0 in
    prune_scanned C h.layout.pool w n (height C w n) e (root_tree C w n) x
