use Rattle.prune_cut.proofs.Written.{after_free, after-trim, after-copy, in_order}
use Rattle.prune_cut.proofs.write_edge.Goals as goal

pub free_first-requires : goal.free_first-requires
free_first-requires c = c.requires.reset.ready

pub trim_all-requires : goal.trim_all-requires
trim_all-requires c =
    let d = c.requires in
    let f = after_free c.args.end.0 d in
    record { depth_bound = rw (c.free_first.ensures.kept.layout, c.free_first.ensures.words, d.reset.first) (d.low, d.long, f.1) }

pub copy_all-requires : goal.copy_all-requires
copy_all-requires c =
    let d = c.requires in
    record { root_lt_pool = rw (c.trim_all.ensures.kept.layout, c.free_first.ensures.kept.layout) (d.reset.inside, d.found) }

pub free_copied-requires : goal.free_copied-requires
free_copied-requires c =
    let d = c.requires in
    let k = c.free_first.ensures.kept.layout in
    let k1 = c.trim_all.ensures.kept.layout in
    let f = after-copy c.args.end.0 d in
    record { free_bound = rw (c.copy_all.ensures.kept.layout, k1, k) (d.found, rw (c.copy_all.ensures.words, k1, c.trim_all.ensures.words, k, c.free_first.ensures.words, d.reset.first) f.1) }

pub returns-clause-words : goal.returns-clause-words
returns-clause-words c =
    let k = c.free_first.ensures.kept.layout in
    let k1 = c.trim_all.ensures.kept.layout in
    rw (c.free_copied.ensures.words, c.copy_all.ensures.kept.layout, c.copy_all.ensures.words, k1, c.trim_all.ensures.words, k, c.free_first.ensures.words, c.requires.reset.first) (in_order c.args.end.0 c.requires)
