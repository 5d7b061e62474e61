-- Down the right edge, a node a turn.
use Prim.Native.Nat.{ℕ, zero, suc, ◌+◌, ◌-◌, ◌<◌, ◌≤◌}
use mathlib.Core.List.{List, [], ◌∷◌, ◌++◌, append_assoc}
use mathlib.Core.Bool.{Bool, true, false, not}
use mathlib.Core.Path.{◌≡◌, refl, sym, ap, ◌∙◌}
use native.Mathlib.Omega.{arith}
use native.Mathlib.Numerals.{add-one}
use lib.ListN.{length, length-set, set, take}
use lib.Seq.{take-suc-set}
use lib.Dec.{leb, ltb}
use borrow.Author.Tests.{lt-ltb, le-ltb, leb-true, leb-false, not-true, not-false}
use Rattle.model.specs.Words.{Shape, pick, count, row, child}
use Rattle.model.specs.Tree.{Limit, Open, node_at, sound}
use Rattle.model.specs.Reading.{unsound, next_row, descend, to_right}
use Rattle.model.specs.Append.{Room, room_from}
use Rattle.model.specs.declared.path.Position.{Position}
use Rattle.node_test.proofs.Rows.{facts}
use Rattle.tree_path.proofs.Down as down
use Rattle.model.specs.declared.answer.UnsoundNode.{UnsoundNode}
use Rattle.tree_right_edge.specs.Edge.{right_edge, room_of, Descended}
use Rattle.std.specs.Prelude.{Ok, Err}
use Rattle.tree_right_edge.specs.declared.RightEdge.{RightEdge}

-- after the last entry comes what comes after the node
next_last : (C : Shape) (w : List ℕ) (n i : ℕ) (b : Limit) → count C w n ≤ i + 1 → next_row C w n i b ≡ b
unfolding next_row
next_last C w n i b h = rw (le-ltb (i + 1) (count C w n) h)

module _ (C : Shape) (w : List ℕ) where
  -- node n of height h, where it has room; else o
  abbrev pub room_here : ℕ → ℕ → Room → Room
  room_here h n o = pick (ltb (count C w n) C.cap) (record { node = n; needed = h }) o

  -- by the test of a node whose header counts k entries
  module _ (h n : ℕ) (o : Room) (full : Bool) (k : ℕ) (f : full ≡ leb C.cap k) (e : k ≡ count C w n) where
    pub has_room : not full ≡ true → record { node = n; needed = h } ≡ room_here h n o
    has_room t = rw (lt-ltb (count C w n) C.cap (omega (arith, leb-false C.cap k (sym f ∙ not-true full t))))

    pub no_room : not full ≡ false → o ≡ room_here h n o
    no_room t = rw (le-ltb (count C w n) C.cap (omega (arith, leb-true C.cap k (sym f ∙ not-false full t))))

  room-turn : (h n i : ℕ) (o : Room) → 0 < h → i ≡ to_right C w n → room_from C w h n o ≡ room_from C w (h - 1) (child C w n i) (room_here h n o)
  unfolding room_from
  room-turn zero n i o l e = absurd (omega arith)
  room-turn (suc h) n i o l e = let d : suc h - 1 ≡ h = omega arith in rw (d, e)

  room-end : (h n : ℕ) (o : Room) → h ≡ 0 → room_from C w h n o ≡ room_here h n o
  unfolding room_from
  room-end h n o z = rw z

  edge-turn : (h n i : ℕ) → 0 < h → i ≡ to_right C w n → right_edge C w h n ≡ record { node = record { 0 = n }; index = i } ∷ right_edge C w (h - 1) (child C w n i)
  unfolding right_edge
  edge-turn zero n i l e = absurd (omega arith)
  edge-turn (suc h) n i l e = let d : suc h - 1 ≡ h = omega arith in rw (d, e)

  edge-end : (h n i : ℕ) → h ≡ 0 → i ≡ to_right C w n → right_edge C w h n ≡ record { node = record { 0 = n }; index = i } ∷ []
  unfolding right_edge
  edge-end h n i z e = rw (z, e)

-- one position more
stored : (ps : List Position) (d : ℕ) (p : Position) → d < length ps → take (d + 1) (set ps d p) ≡ take d ps ++ (p ∷ [])
stored ps d p h = rw add-one (take-suc-set ps d p h)

-- from root t of height k, led to by row q, d nodes are passed and stored: the path goes on at node n of height h, which node
-- m leads to by row r
pub record Going (C : Shape) (P : ℕ) (w : List ℕ) (k t q : ℕ) (ps : List Position) (o : Room) (m n h r d : ℕ) : Type 0 where
  pub long : length ps ≡ 32
  pub levels : d + h ≡ k
  pub same : descend (to_right C w) C P w k t t q Open ≡ descend (to_right C w) C P w h m n r Open
  pub path : right_edge C w k t ≡ take d ps ++ right_edge C w h n
  pub room : room_from C w k t (record { node = t; needed = k + 2 }) ≡ room_from C w h n o

pub begins : (C : Shape) (P : ℕ) (w : List ℕ) (k t q : ℕ) (ps : List Position) → length ps ≡ 32 → Going C P w k t q ps (record { node = t; needed = k + 2 }) t t k q 0
begins C P w k t q ps l = record { long = l; levels = omega arith; same = refl; path = refl; room = refl }

module _ {C : Shape} {P : ℕ} {w : List ℕ} {k t q : ℕ} {ps : List Position} {o : Room} {m n h r d : ℕ} (g : Going C P w k t q ps o m n h r d) where
  pub far : P ≤ n → descend (to_right C w) C P w k t t q Open ≡ unsound m
  far l = g.same ∙ down.far (to_right C w) C P w m n r Open h l

  pub bad : n < P → sound C h (node_at C w n) r Open ≡ false → descend (to_right C w) C P w k t t q Open ≡ unsound n
  bad l s = g.same ∙ down.bad (to_right C w) C P w m n r Open h l s

  -- a sound node has a last entry
  pub entry : sound C h (node_at C w n) r Open ≡ true → (1 ≤ count C w n) × (count C w n ≤ C.cap)
  entry s = let f = facts C w n h r Open s in (f.some, f.many)

  -- at its last entry i, with the room up to it
  module _ (l : n < P) (s : sound C h (node_at C w n) r Open ≡ true) (low : k ≤ 31) (i : ℕ) (e : i ≡ to_right C w n) (u : Room) (here : u ≡ room_here C w h n o) where
    abbrev at : Position
    at = record { node = record { 0 = n }; index = i }

    taken : take (d + 1) (set ps d at) ≡ take d ps ++ (at ∷ [])
    taken = stored ps d at (omega (arith, g.long, g.levels))

    pub goes_on : 0 < h → Going C P w k t q (set ps d at) u n (child C w n i) (h - 1) (row C w n i) (d + 1)
    goes_on z =
        record {
          long = length-set ps d at ∙ g.long;
          levels = omega (arith, g.levels);
          same = g.same ∙ down.down (to_right C w) C P w m n r Open h i z l s e ∙ ap (descend (to_right C w) C P w (h - 1) n (child C w n i) (row C w n i)) (next_last C w n i Open (omega (arith, e, (entry s).0)));
          path = g.path ∙ rw (edge-turn C w h n i z e, taken, append_assoc);
          room = g.room ∙ room-turn C w h n i o z e ∙ rw here;
        }

    pub arrives : h ≡ 0 → (x : RightEdge) → x.leaf.0 ≡ n → x.path ≡ record { positions = set ps d at; depth = d + 1 } → room_of x.room ≡ u → Descended C P w k t q (Ok x)
    arrives z x b c f =
        record {
          answer = rw b (sym (g.same ∙ down.ends (to_right C w) C P w m n r Open h (omega arith) l (rw z at s)));
          walked = record { deep = rw c (omega (arith, g.levels)); path = rw c (taken ∙ sym (g.path ∙ rw (edge-end C w h n i z e))); room = f ∙ here ∙ sym (g.room ∙ room-end C w h n o z) };
        }

-- an edge that ends at an unsound node
pub stops : (C : Shape) (P : ℕ) (w : List ℕ) (h n r : ℕ) (m : UnsoundNode) → descend (to_right C w) C P w h n n r Open ≡ unsound m.0.0 → Descended C P w h n r (Err m)
stops C P w h n r m d = record { answer = sym d; walked = tt }

-- what the steps down cite
pub ruleset edge_steps = (begins, far, bad, entry, goes_on, arrives, stops, has_room, no_room)
