use Prim.Native.Nat.{◌-◌, ◌≤◌}
use mathlib.Core.Path.{◌≡◌}
use mathlib.Core.List.{[], ◌++◌}
use lib.ListN.{length}
use Rattle.node_read.specs.Layout.{shape_of}
use Rattle.model.specs.Append.{chain_sound, firsts, past}
use Rattle.node_chain.specs.Chain.{listed}
use Rattle.node_chain.proofs.read_chain.Given as goal

abbrev pub invariant-loop-i : goal.invariant-loop-i
invariant-loop-i l = (l.i ≤ l.k) × (length l.nodes ≡ 32) × (chain_sound (shape_of l.s.layout) l.s.layout.pool l.s.words.now l.initial.n.0 [] l.k ≡ chain_sound (shape_of l.s.layout) l.s.layout.pool l.s.words.now l.n.0 (listed l.nodes 0 l.i) (l.k - l.i))
    × (firsts (shape_of l.s.layout) l.s.words.now l.initial.n.0 l.k ≡ listed l.nodes 0 l.i ++ firsts (shape_of l.s.layout) l.s.words.now l.n.0 (l.k - l.i)) × (past (shape_of l.s.layout) l.s.words.now l.initial.n.0 l.k ≡ past (shape_of l.s.layout) l.s.words.now l.n.0 (l.k - l.i))
