use native.Mathlib.Omega.{arith}
use mathlib.Core.Path.{sym, ◌∙◌}
use Rattle.model.proofs.Header.{range_of}
use Rattle.script_calls.proofs.Performing.{out_of_range, too_many, enough}
use Rattle.script_create.proofs.create_length.Goals as goal

pub returns-then-not-in_range-clause-is : goal.returns-then-not-in_range-clause-is
returns-then-not-in_range-clause-is c =
    let a = c.args in
    out_of_range a.all a.capacity a.nodes (sym c.in_range.ensures ∙ c.if-not-in_range.true)

pub store_length-len-requires : goal.store_length-len-requires
store_length-len-requires c =
    let a = c.args in
    let r = range_of a.capacity a.nodes (sym c.in_range.ensures ∙ c.if-not-in_range.false) in
    (r.cap-high, r.pool-high)

pub returns-then-all-len-clause-is : goal.returns-then-all-len-clause-is
returns-then-all-len-clause-is c =
    let a = c.args in
    let good = sym c.in_range.ensures ∙ c.if-not-in_range.false in
    too_many a.all a.capacity a.nodes good (omega (arith, c.store_length-len.ensures, c.if-all-len.true))

pub returns-clause-is : goal.returns-clause-is
returns-clause-is c =
    let a = c.args in
    let good = sym c.in_range.ensures ∙ c.if-not-in_range.false in
    c.store_length-len.ensures ∙ enough a.all a.capacity a.nodes good (omega (arith, c.store_length-len.ensures, c.if-all-len.false))
