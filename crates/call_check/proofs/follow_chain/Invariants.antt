use Prim.Native.Nat.{◌-◌}
use mathlib.Core.Path.{◌≡◌}
use Rattle.node_read.specs.Layout.{shape_of}
use Rattle.model.specs.FullCheck.{chain_ends}
use Rattle.call_check.proofs.follow_chain.Given as goal

abbrev pub invariant-loop : goal.invariant-loop
invariant-loop l = chain_ends (shape_of l.s.layout) l.s.layout.pool l.s.words.now l.initial.n.0 l.k ≡ chain_ends (shape_of l.s.layout) l.s.layout.pool l.s.words.now l.n.0 (l.k - l.counter)
