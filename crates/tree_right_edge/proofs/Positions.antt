-- What is known of a sound right edge, by the positions of its path.
use Prim.Native.Nat.{ℕ, zero, suc, ◌+◌, ◌-◌, ◌<◌, ◌≤◌}
use mathlib.Core.List.{List}
use mathlib.Core.Path.{◌≡◌, refl, sym, ap, ◌∙◌}
use mathlib.Core.Logic.{◌⊎◌, ⊎_elim}
use native.Mathlib.Omega.{arith}
use native.Mathlib.Numerals.{add-one}
use lib.ListN.{get_or}
use lib.Seq.{get_or-take}
use Rattle.model.specs.Words.{Shape, height, count, child}
use Rattle.model.specs.Tree.{Open}
use Rattle.model.specs.Reading.{to_right}
use Rattle.model.specs.Append.{Room, room}
use Rattle.model.specs.Paths.{no_position}
use Rattle.model.specs.declared.path.Position.{Position}
use Rattle.std.specs.Prelude.{Ok}
use Rattle.tree_right_edge.specs.declared.RightEdge.{RightEdge}
use Rattle.tree_right_edge.specs.Edge.{last_in, right_edge, room_of, Edge, WholeEdge, EdgeFound}
use Rattle.tree_right_edge.proofs.Edges.{on, ready, Lowest, found}

module _ (C : Shape) (P : ℕ) (w : List ℕ) where
  first : (h n : ℕ) → on C P w h n 0 ≡ last_in C w n
  unfolding right_edge
  first zero n = refl
  first (suc h) n = refl

  -- each stands in the pool, at its last entry; a branch has entries, and its last child is the next
  each : (h n i : ℕ) → Edge C P w h n → i ≤ h
      → ((on C P w h n i).node.0 < P) × ((on C P w h n i).index ≡ to_right C w (on C P w h n i).node.0)
      × (i < h → (1 ≤ count C w (on C P w h n i).node.0) × (count C w (on C P w h n i).node.0 ≤ C.cap) × ((on C P w h n (suc i)).node.0 ≡ child C w (on C P w h n i).node.0 (on C P w h n i).index))
  unfolding right_edge Edge
  each zero n zero q l = (q, refl, λ z. absurd (omega arith))
  each zero n (suc i) q l = absurd (omega arith)
  each (suc h) n zero q l = (q.0, refl, λ z. (q.1, q.2, ap (λ (p : Position). p.node.0) (first h (child C w n (to_right C w n)))))
  each (suc h) n (suc i) q l = let e = each h (child C w n (to_right C w n)) i q.3 (omega arith) in (e.0, e.1, λ z. e.2 (omega arith))

-- The right edge from root n, where it is sound: its positions, from the root's down to the leaf's ---------

module _ (C : Shape) (P : ℕ) (w : List ℕ) (n : ℕ) (e : RightEdge) (d : EdgeFound C P w n (Ok e)) where
  abbrev pub position : ℕ → Position
  position i = get_or e.path.positions i no_position

  abbrev v : WholeEdge C P w n e
  v = d.whole

  stands : (i : ℕ) → i < e.path.depth → position i ≡ on C P w (height C w n) n i
  stands i l = sym (get_or-take e.path.depth e.path.positions i no_position l) ∙ ap (λ (q : List Position). get_or q i no_position) v.path

  -- the root is the first, the leaf is the last
  pub edge-root : (position 0).node.0 ≡ n
  edge-root = ap (λ (p : Position). p.node.0) (stands 0 (omega (arith, v.deep)) ∙ first C P w (height C w n) n)

  pub edge-leaf : (position (height C w n)).node.0 ≡ e.leaf.0
  edge-leaf = rw (stands (height C w n) (omega (arith, v.deep))) (ready C P w n e.leaf.0 Open (rw (first C P w (height C w n) n) at (each C P w (height C w n) n 0 v.ready.edge (omega arith)).0) (sym d.answer)).1

  -- the room is at the last position that is not full; where all are, none
  lowest : ((room_of e.room ≡ record { node = n; needed = height C w n + 2 }) × ((i : ℕ) → i ≤ height C w n → C.cap ≤ count C w (on C P w (height C w n) n i).node.0)) ⊎ Lowest C P w (height C w n) n (room_of e.room)
  unfolding room
  lowest = rw v.room (found C P w (height C w n) n (record { node = n; needed = height C w n + 2 }) v.ready.edge)

  module _ (i : ℕ) where
    module _ (l : i < e.path.depth) where
      pub edge-node : (position i).node.0 < P
      edge-node = rw (stands i l) (each C P w (height C w n) n i v.ready.edge (omega (arith, v.deep))).0

      pub edge_index : (position i).index ≡ count C w (position i).node.0 - 1
      edge_index = rw (stands i l) (each C P w (height C w n) n i v.ready.edge (omega (arith, v.deep))).1

      pub edge-full : e.path.depth ≤ i + e.room.needed → C.cap ≤ count C w (position i).node.0
      edge-full f = rw (stands i l) (⊎_elim (λ x. x.1 i (omega (arith, v.deep))) (λ x. x.full i (omega (arith, v.deep, x.high)) (omega (arith, v.deep))) lowest)

    module _ (l : i + 1 < e.path.depth) where
      pub edge_count : (1 ≤ count C w (position i).node.0) × (count C w (position i).node.0 ≤ C.cap)
      edge_count = let b = (each C P w (height C w n) n i v.ready.edge (omega (arith, v.deep))).2 (omega (arith, v.deep)) in rw (stands i (omega arith)) (b.0, b.1)

      pub edge-child : (position (i + 1)).node.0 ≡ child C w (position i).node.0 (position i).index
      edge-child = rw (stands i (omega arith), stands (i + 1) l, add-one i) ((each C P w (height C w n) n i v.ready.edge (omega (arith, v.deep))).2 (omega (arith, v.deep))).2

    pub edge-room : i + 1 + e.room.needed ≡ e.path.depth → ((position i).node.0 ≡ e.room.node.0) × (count C w e.room.node.0 < C.cap)
    edge-room f =
        ⊎_elim
        (λ x. absurd (omega (arith, v.deep, ap (λ (u : Room). u.needed) x.0)))
        (λ x. let k : x.at ≡ i = omega (arith, v.deep, x.high) in (rw (stands i (omega arith)) (rw k at x.here), x.space))
        lowest
