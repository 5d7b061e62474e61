use borrow.Author.Rules.{rules}
use Prim.Native.Nat.{◌<◌, ◌≤◌}
use native.Mathlib.Omega.{arith}
use mathlib.Core.Path.{◌≡◌, sym, ap, ◌∙◌}
use lib.ListN.{length, take}
use Rattle.node_read.specs.Layout.{shape_of}
use Rattle.model.specs.Append.{firsts}
use Rattle.model.specs.Refusals.{Outcome}
use Rattle.tree_right_edge.specs.Edge.{room_of}
use Rattle.append_path.specs.Inside.{numbers}
use Rattle.call_append.proofs.Writing.{placed-leaf, nodes_are, nodes_inside, head_apart}
use Rattle.call_append.proofs.place_page.Goals as goal

pub returns-then-room-eq0 : goal.returns-then-room-eq0
returns-then-room-eq0 c =
    let a = c.args in
    let q = placed-leaf (shape_of a.h.layout) a.h.layout.pool a.s.now a.h.root.0 a.new.start.0 a.new.end.0 a.new.page.0 (room_of a.room) c.if-room-eq0.true in
    record { answer = sym (ap (λ (o : Outcome). o.answer) q); words = search rules ∙ sym (ap (λ (o : Outcome). o.words) q) }

pub grow_tree-requires-clause-inside : goal.grow_tree-requires-clause-inside
grow_tree-requires-clause-inside c =
    let a = c.args in
    let w = c.in_ok-wanted.wanted in
    let some = c.in_ok-wanted.ensures.ok_part in
    let given = rw some at c.read_chain-wanted.ensures.given in
    let few : a.room.needed ≤ length w.nodes = search rules in
    let f : numbers (take a.room.needed w.nodes) ≡ firsts (shape_of a.h.layout) a.s.now a.h.free_head.0 a.room.needed = nodes_are w.nodes a.room.needed few ∙ given.0 in
    let t = sym (rw some at c.read_chain-wanted.ensures.ok) in
    let k : 0 < a.room.needed = omega (arith, c.if-room-eq0.false) in
    (nodes_inside _ _ _ _ _ _ t f, head_apart _ _ _ _ _ _ t f a.h.root.0 k c.requires.usable.high)
