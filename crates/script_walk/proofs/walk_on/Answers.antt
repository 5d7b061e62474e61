use Prim.Native.Nat.{ℕ, ◌+◌}
use mathlib.Core.Path.{◌∙◌, subst}
use mathlib.Core.List.{List}
use native.Mathlib.Omega.{arith}
use lib.ListN.{length}
use Rattle.script_text.specs.Lines.{Put}
use Rattle.script_walk.proofs.Walking.{once}
use Rattle.script_walk.proofs.Bound.{left, left-bound, enough, ends, fewer, goes_on}
use Rattle.script_walk.proofs.walk_on.Goals as goal

pub leaves-init : goal.leaves-init
leaves-init c =
    let a = c.args in
    let s = a.s.now in
    let e = enough s (left s a.cursor) (length s + 1) a.cursor (omega arith) (left-bound s a.cursor) in
    record { list = c.requires; rest = λ l₂ p. subst (λ (ls : List ℕ). Put a.out.now ls l₂) e p }

pub returns-then-not-gives_leaf : goal.returns-then-not-gives_leaf
returns-then-not-gives_leaf c =
    let v = c.leaves in
    let w = once v.invariant.list c.next_words-step.ensures c.put_answer.ensures c.gives_leaf.ensures in
    v.invariant.rest _ (ends c.args.s.now v.c w c.if-not-gives_leaf.true)

pub leaves-smaller : goal.leaves-smaller
leaves-smaller c =
    let v = c.leaves in
    let w = once v.invariant.list c.next_words-step.ensures c.put_answer.ensures c.gives_leaf.ensures in
    fewer c.args.s.now v.c w c.if-not-gives_leaf.false

pub leaves-preserved : goal.leaves-preserved
leaves-preserved c =
    let s = c.args.s.now in
    let v = c.leaves in
    let w = once v.invariant.list c.next_words-step.ensures c.put_answer.ensures c.gives_leaf.ensures in
    record {
      list = c.next_words-step.auto.out ∙ v.invariant.list;
      rest = λ l₂ p. v.invariant.rest l₂ (goes_on s v.c w c.if-not-gives_leaf.false l₂ p);
    }
