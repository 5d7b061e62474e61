use mathlib.Core.Bool.{false}
use lib.ListN.{length}
use Rattle.node_read.specs.Layout.{shape_of}
use Rattle.tree_turn.specs.Left.{left}
use Rattle.prune_list.specs.Named.{below_scan}
use Rattle.prune_list.proofs.Scanning.{Scanning}
use Rattle.prune_list.proofs.scan_below.Given as goal

abbrev pub invariant-loop-named : goal.invariant-loop-named
invariant-loop-named l = Scanning (shape_of l.s.layout) l.s.layout.pool l.s.words.now l.end.0 l.fn.node.0 l.ids (below_scan l.s.layout l.s.words.now l.end l.fn.node l.ids l.fn.from.place l.fn.from.reached) l.walk l.named.place l.named.reached.0 l.used l.left

abbrev pub decreases-loop-named : goal.decreases-loop-named
decreases-loop-named l = length (left false (shape_of l.s.layout) l.s.layout.pool l.s.words.now l.walk.path)
