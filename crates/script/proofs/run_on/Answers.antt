use borrow.Author.Rules.{rules, part_to_end}
use borrow.Author.Tests.{eqb-true, eqb-false}
use Prim.Native.Nat.{◌<◌}
use mathlib.Core.Path.{◌≡◌, sym, ◌∙◌}
use native.Mathlib.Omega.{arith}
use lib.ListN.{length}
use Rattle.script_calls.specs.Steps.{memory_of}
use Rattle.script_step.proofs.Stepping.{last_line, goes-whole, stops, goes_on, next_fits}
use Rattle.script.proofs.run_on.Goals as goal

pub returns-then-is_err : goal.returns-then-is_err
returns-then-is_err c =
    let v = c.loop-rest in
    let bs = v.rest.now in
    let n = eqb-false (length bs) 0 (sym c.loop-rest-test.ensures) in
    let d = c.step.ensures in
    v.invariant.rest _ (stops v.m bs (omega arith) d.does (sym d.goes ∙ c.if-is_err.ensures.negation))

pub record_length-requires : goal.record_length-requires
record_length-requires c =
    let v = c.loop-rest in
    goes-whole (memory_of v.m) v.rest.now (sym c.step.ensures.goes ∙ c.if-is_err.ensures.negation)

pub slice_bounds-rest-count : goal.slice_bounds-rest-count
slice_bounds-rest-count c =
    let v = c.loop-rest in
    let f = next_fits (memory_of v.m) v.rest.now (sym c.step.ensures.goes ∙ c.if-is_err.ensures.negation) in
    omega arith

pub slice_bounds-rest-start : goal.slice_bounds-rest-start
slice_bounds-rest-start c =
    let v = c.loop-rest in
    let f = next_fits (memory_of v.m) v.rest.now (sym c.step.ensures.goes ∙ c.if-is_err.ensures.negation) in
    search rules

pub loop-rest-preserved : goal.loop-rest-preserved
loop-rest-preserved c =
    let v = c.loop-rest in
    let bs = v.rest.now in
    let n = eqb-false (length bs) 0 (sym c.loop-rest-test.ensures) in
    let d = c.step.ensures in
    let g = sym d.goes ∙ c.if-is_err.ensures.negation in
    let some : 0 < length bs = omega arith in
    let k = c.record_length in
    record {
      words = d.does.many ∙ v.invariant.words;
      rest = λ l₂ p. v.invariant.rest l₂ (goes_on v.m bs some d.does g k.result k.ensures l₂ (rw (part_to_end bs k.result) at p));
    }

pub returns : goal.returns
returns c =
    let v = c.loop-rest in
    let bs = v.rest.now in
    let none : length bs ≡ 0 = eqb-true (length bs) 0 (sym c.loop-rest-test.ensures) in
    v.invariant.rest _ (rw (last_line (memory_of v.m) bs none) c.free_step.ensures)
