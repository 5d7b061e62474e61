use mathlib.Core.Path.{◌∙◌, sym, ap, subst}
use Rattle.std.specs.Prelude.{Some, Ok}
use Rattle.std.proofs.lemmas.Result.{err_from_is_err_and}
use Rattle.node_read.proofs.Opened.{is_open, opens-fits}
use Rattle.tree_path.specs.Reached.{reached_of}
use Rattle.next_step.specs.declared.LeafStep.{LeafStep}
use Rattle.next_step.specs.Steps.{Steps}
use Rattle.next_step.proofs.Stepping.{steps-refused, steps-short, steps-done, steps-unsound, steps-given, leaf_in}
use Rattle.next_step.proofs.step.Goals as goal

pub returns-in_err-h : goal.returns-in_err-h
returns-in_err-h c =
    let a = c.args in
    let p = err_from_is_err_and c.from_residual.result c.from_residual.ensures.1 in
    rw (p.1, p.2) (steps-refused a.s.now a.cursor a.len _ (sym c.«open».ensures ∙ c.in_err-h.was))

pub returns-then-len-capacity : goal.returns-then-len-capacity
returns-then-len-capacity c =
    let a = c.args in
    steps-short a.s.now a.cursor a.len _ (is_open a.s.now _ (sym c.«open».ensures ∙ c.in_ok-h.was)) c.if-len-capacity.true

pub returns-then-cursor : goal.returns-then-cursor
returns-then-cursor c =
    let a = c.args in
    steps-done a.s.now a.cursor a.len _ (is_open a.s.now _ (sym c.«open».ensures ∙ c.in_ok-h.was)) c.if-len-capacity.false c.if-cursor.true

pub invariant_of-store : goal.invariant_of-store
invariant_of-store c =
    let a = c.args in
    record { fits = (opens-fits a.s.now _ (is_open a.s.now _ (sym c.«open».ensures ∙ c.in_ok-h.was))).0 }

pub find_leaf-requires : goal.find_leaf-requires
find_leaf-requires c =
    let a = c.args in
    let f = opens-fits a.s.now _ (is_open a.s.now _ (sym c.«open».ensures ∙ c.in_ok-h.was)) in
    record { root_lt_pool = f.1 }

pub returns-in_err-reached : goal.returns-in_err-reached
returns-in_err-reached c =
    let a = c.args in
    let o = is_open a.s.now _ (sym c.«open».ensures ∙ c.in_ok-h.was) in
    let p = err_from_is_err_and c.from_residual-in_err-reached.result c.from_residual-in_err-reached.ensures.1 in
    rw (p.1, p.2) (steps-unsound a.s.now a.cursor a.len _ o c.if-len-capacity.false c.if-cursor.false _ (ap reached_of (sym c.in_err-reached.was) ∙ c.find_leaf.ensures))

pub give-requires : goal.give-requires
give-requires c =
    let a = c.args in
    let o = is_open a.s.now _ (sym c.«open».ensures ∙ c.in_ok-h.was) in
    record { n_lt_pool = leaf_in a.s.now a.cursor a.len _ o c.if-len-capacity.false c.if-cursor.false _ (ap reached_of (sym c.in_ok-reached.was) ∙ c.find_leaf.ensures) }

pub returns : goal.returns
returns c =
    let a = c.args in
    let o = is_open a.s.now _ (sym c.«open».ensures ∙ c.in_ok-h.was) in
    let s = steps-given a.s.now a.cursor a.len _ o c.if-len-capacity.false c.if-cursor.false _ (ap reached_of (sym c.in_ok-reached.was) ∙ c.find_leaf.ensures) in
    subst (λ (g : LeafStep). Steps a.s.now a.cursor a.len (Ok (Some g))) (sym c.give.ensures) s
