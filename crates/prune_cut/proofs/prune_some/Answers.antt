use native.Mathlib.Omega.{arith}
use Rattle.std.proofs.Common.{rules}
use Rattle.std.proofs.lemmas.Result.{err_from_is_err_and}
use Rattle.prune_cut.proofs.Edges.{count-few, shaped, none_below, sound-top, some-unsound, some-full, some-done, writable}
use Rattle.prune_cut.proofs.prune_some.Goals as goal

pub find_copies-requires : goal.find_copies-requires
find_copies-requires c = let p = c.requires in record { positions_len = ((shaped p.0 p.1).2, none_below p.0 p.1); sound_top = sound-top p.0 p.1 }

pub returns-in_err-copies : goal.returns-in_err-copies
returns-in_err-copies c =
    let p = c.requires in
    let q = err_from_is_err_and c.from_residual.result c.from_residual.ensures.1 in
    let e = some-unsound p.0 p.1 p.2 c.args.k _ c.in_err-copies.ensures.are in
    record { answer = rw (q.1, q.2, e); words = rw e }

pub overflow_add-freed : goal.overflow_add-freed
overflow_add-freed c = let p = c.requires in omega (arith, count-few p.0 p.1, c.in_ok-copies.ensures.few.0)

pub overflow_sub-h : goal.overflow_sub-h
overflow_sub-h c = let R = c.requires.0 in omega (arith, R.free, R.free_in)

pub returns-then-h-freed : goal.returns-then-h-freed
returns-then-h-freed c =
    let p = c.requires in
    let e = some-full p.0 p.1 p.2 _ _ c.in_ok-copies.ensures.are (omega arith) c.args.k in
    record { answer = rw e; words = rw e }

pub write_edge-requires : goal.write_edge-requires
write_edge-requires c =
    let p = c.requires in
    writable p.0 p.1 p.2 _ _ c.in_ok-copies.ensures.are c.in_ok-copies.ensures.few.1 c.if-h-freed.false (search rules)

pub returns : goal.returns
returns c =
    let p = c.requires in
    let e = some-done p.0 p.1 p.2 _ _ c.in_ok-copies.ensures.are c.if-h-freed.false (search rules) c.args.k in
    record { answer = rw e; words = rw e (search rules) }
