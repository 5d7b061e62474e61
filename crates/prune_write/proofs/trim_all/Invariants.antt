use Prim.Native.Nat.{◌-◌}
use mathlib.Core.Path.{◌≡◌}
use Rattle.model.specs.Prune.{trim_all}
use Rattle.node_read.specs.Layout.{shape_of}
use Rattle.node_read.specs.Store.{SameLoan}
use Rattle.prune_boundary.specs.Trims.{trims_from, trims_of, Trims}
use Rattle.prune_write.proofs.trim_all.Given as goal

abbrev pub invariant-loop-p : goal.invariant-loop-p
invariant-loop-p l = let ts = trims_from l.fn.edge.positions l.p-index (l.fn.edge.depth - l.p-index) in
    SameLoan l.fn.s l.s × Trims (shape_of l.fn.s.layout) l.fn.s.layout.pool l.s.words.now ts × (trim_all (shape_of l.fn.s.layout) l.fn.s.words.now l.end.0 (trims_of l.fn.edge) ≡ trim_all (shape_of l.fn.s.layout) l.s.words.now l.end.0 ts)
