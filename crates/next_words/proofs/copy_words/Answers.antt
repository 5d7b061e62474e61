use mathlib.Core.Path.{ap, ◌∙◌}
use native.Mathlib.Omega.{arith}
use lib.ListN.{length}
use Rattle.model.specs.Words.{fill}
use Rattle.node_read.specs.Layout.{shape_of}
use Rattle.model.proofs.Parts.{pairs-few}
use Rattle.next_words.proofs.Writing.{pairs-all, no_pairs}
use Rattle.next_words.proofs.copy_words.Goals as goal

pub returns-then-e-eq0 : goal.returns-then-e-eq0
returns-then-e-eq0 c =
    let a = c.args in no_pairs a.out.now a.s.now a.e c.if-e-eq0.true

pub invariant_of-store : goal.invariant_of-store
invariant_of-store c = record { fits = (c.requires.0 (omega (arith, c.if-e-eq0.false))).0 }

pub entries-requires : goal.entries-requires
entries-requires c = (c.requires.0 (omega (arith, c.if-e-eq0.false))).1

pub copy_front-requires : goal.copy_front-requires
copy_front-requires c =
    let a = c.args in
    omega (arith, ap length c.entries.ensures, pairs-few (shape_of a.e.layout) a.s.now a.e.leaf.0 0 a.e.count, c.requires.1)

pub returns : goal.returns
returns c =
    let b = c in
    let p = b.requires.0 (omega (arith, c.if-e-eq0.false)) in
    c.copy_front.ensures ∙ ap (fill b.args.out.now 0) (c.entries.ensures ∙ pairs-all b.args.s.now b.args.e p)
