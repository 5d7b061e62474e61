use mathlib.Core.Bool.{false}
use mathlib.Core.Path.{sym, ap, ◌∙◌}
use Rattle.std.proofs.lemmas.Result.{err_from_is_err_and}
use Rattle.node_read.specs.Layout.{shape_of}
use Rattle.model.specs.Words.{height, start}
use Rattle.model.specs.Tree.{Open}
use Rattle.model.specs.Refusals.{refusal}
use Rattle.model.specs.Prune.{Scan, on, scan, ran_out}
use Rattle.tree_turn.specs.Left.{below}
use Rattle.tree_turn.proofs.Rest.{passes-fits, root-valid}
use Rattle.prune_list.proofs.Scanning.{tree-scan, tree-stopped, root-last, root-passed}
use Rattle.prune_list.specs.Named.{Ending}
use Rattle.prune_list.proofs.scan_tree.Goals as goal

pub scan_node-requires : goal.scan_node-requires
scan_node-requires c =
    let a = c.args in
    let C = shape_of a.s.layout in
    let w = a.s.words.now in
    let n = a.root.0 in
    let f = passes-fits false C w n (height C w n) (start C w n) Open c.requires.passed_root.2 in
    record { n_lt_pool = (c.requires.passed_root.0, f.1) }

pub scan_below-requires : goal.scan_below-requires
scan_below-requires c =
    let a = c.args in
    let p = c.requires in
    let C = shape_of a.s.layout in
    let w = a.s.words.now in
    let n = a.root.0 in
    record { valid = root-valid false C a.s.layout.pool w n p.passed_root.1 p.passed_root.0 p.passed_root.2; first_value = p.first_value; begun = (root-passed C a.s.layout.pool w a.end.0 n p.passed_root.0 p.passed_root.2, root-last C a.s.layout.pool w a.end.0 n p.passed_root.0 p.passed_root.2 a.ids.now _ _ c.in_ok-named.ensures p.ids_nonzero) }

pub returns-in_err-named : goal.returns-in_err-named
unfolding Ending
returns-in_err-named c =
    let a = c.args in
    let q = c.requires.passed_root in
    let p = err_from_is_err_and c.from_residual.result c.from_residual.ensures.1 in
    record { answer = rw (p.1, p.2) (tree-stopped (shape_of a.s.layout) a.s.layout.pool a.s.words.now a.end.0 a.root.0 q.0 q.2 a.ids.now (refusal c.in_err-named.field-0.0) c.in_err-named.ensures); edge = rw p.1 tt }

pub returns : goal.returns
returns c =
    let a = c.args in
    let C = shape_of a.s.layout in
    let w = a.s.words.now in
    let n = a.root.0 in record {
      answer = c.scan_below.ensures.answer
          ∙ ap (λ (x : Scan). ran_out a.end.0 (scan C w a.end.0 (below false C a.s.layout.pool w n) x)) c.in_ok-named.ensures
          ∙ ap (ran_out a.end.0) (sym (tree-scan C a.s.layout.pool w a.end.0 n c.requires.passed_root.0 c.requires.passed_root.2 (on a.ids.now 0 0)));
      edge = c.scan_below.ensures.edge;
    }
