use Prim.Native.Nat.{◌-◌}
use mathlib.Core.Path.{◌≡◌}
use lib.ListN.{drop}
use Rattle.node_read.specs.Layout.{shape_of}
use Rattle.model.specs.Prune.{on, scan_leaf}
use Rattle.prune_leaf.specs.Progress.{node_scan}
use Rattle.prune_leaf.proofs.scan_node.Given as goal

abbrev pub invariant-loop-i : goal.invariant-loop-i
invariant-loop-i l = node_scan l.s.layout l.s.words.now l.end.0 l.n.0 l.ids l.initial.place l.initial.reached.0 ≡ scan_leaf (shape_of l.s.layout) l.s.words.now l.end.0 l.n.0 l.i (l.i-end - l.i) (on (drop l.place l.ids) l.place l.reached.0)
