use borrow.Author.Rules.{rules}
use native.Mathlib.Omega.{arith}
use Rattle.prune_cut.proofs.Edges.{resettable, all-full, all_done}
use Rattle.prune_cut.proofs.prune_all.Goals as goal

pub overflow_sub-h : goal.overflow_sub-h
overflow_sub-h c = let R = c.requires.0 in omega (arith, R.free, R.free_in)

pub returns-then-h-b : goal.returns-then-h-b
returns-then-h-b c =
    let e = all-full c.requires.0 c.requires.1 c.if-h-b.true c.args.k in
    record { answer = rw e; words = rw e }

pub write_reset-requires : goal.write_reset-requires
write_reset-requires c = let p = c.requires in resettable p.0 p.1 c.if-h-b.false

pub returns : goal.returns
returns c =
    let e = all_done c.requires.0 c.requires.1 c.if-h-b.false c.args.k in
    record { answer = rw e; words = rw e (search rules) }
