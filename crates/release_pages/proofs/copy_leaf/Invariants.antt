use Prim.Native.Nat.{◌+◌, ◌-◌}
use mathlib.Core.Path.{◌≡◌}
use lib.ListN.{length}
use Rattle.node_read.specs.Layout.{shape_of}
use Rattle.model.specs.Words.{fill}
use Rattle.release_pages.specs.Pages.{pages_from}
use Rattle.release_pages.proofs.copy_leaf.Given as goal

abbrev pub invariant-loop-i : goal.invariant-loop-i
invariant-loop-i l = (fill l.initial.pages l.at (pages_from (shape_of l.s.layout) l.s.words.now l.n.0 0 l.h.count) ≡ fill l.pages (l.at + l.i) (pages_from (shape_of l.s.layout) l.s.words.now l.n.0 l.i (l.h.count - l.i))) × (length l.pages ≡ length l.initial.pages)
