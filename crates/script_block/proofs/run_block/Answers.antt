use borrow.Author.Rules.{rules, part_to_end}
use Prim.Native.Nat.{◌+◌, ◌≤◌}
use mathlib.Core.Path.{◌≡◌, sym, ◌∙◌, ap}
use mathlib.Core.Bool.{true, false}
use native.Mathlib.Omega.{arith}
use lib.ListN.{length}
use Rattle.std.specs.Prelude.{Some, is_ok}
use Rattle.std.proofs.lemmas.Result.{IfOk-from_err}
use Rattle.script_records.specs.Records.{first}
use Rattle.script_calls.specs.Calls.{perform}
use Rattle.script_text.proofs.Putting.{same}
use Rattle.script_calls.specs.Steps.{memory_of}
use Rattle.script_block.specs.Blocks.{known_length}
use Rattle.script_block.proofs.Known.{known, stopped, went, placed, goes-fits, left, behind, ended}
use Rattle.script_block.proofs.run_block.Goals as goal

pub returns-in_err-step-clause-ends : goal.returns-in_err-step-clause-ends
returns-in_err-step-clause-ends c =
    let x = c in
    let v = c.loop-out in
    let bs = v.rest.now in
    let h : known_length bs ≡ Some c.in-Some.len = sym c.known_length.ensures ∙ c.in-Some.is in
    let goes : (perform (memory_of v.m) (first bs)).goes ≡ false = sym c.step.ensures.goes ∙ ap is_ok c.in_err-step.was in
    let few : length v.m.words.now ≤ 4096 = omega (arith, v.invariant.words_many, x.requires.0) in
    let room : v.out.at + 65536 ≤ length v.out.bytes.now = omega (arith, v.invariant.within, c.loop-out-test.true) in
    ended c.from_residual.result (stopped bs h few (omega arith) room c.step.ensures.does x.args.out.now (memory_of x.args.m.now) x.args.bytes.now v.invariant.after v.invariant.says goes)

pub returns-in_err-step-clause-bounds : goal.returns-in_err-step-clause-bounds
returns-in_err-step-clause-bounds c =
    let x = c in
    let v = c.loop-out in
    let bs = v.rest.now in
    let h : known_length bs ≡ Some c.in-Some.len = sym c.known_length.ensures ∙ c.in-Some.is in
    let few : length v.m.words.now ≤ 4096 = omega (arith, v.invariant.words_many, x.requires.0) in
    let room : v.out.at + 65536 ≤ length v.out.bytes.now = omega (arith, v.invariant.within, c.loop-out-test.true) in
    let p = placed bs h few (omega arith) room c.step.ensures.does in
    (IfOk-from_err c.from_residual.result _ c.from_residual.ensures.0, p.1)

pub slice_bounds-rest-count : goal.slice_bounds-rest-count
slice_bounds-rest-count c =
    let v = c.loop-out in
    let bs = v.rest.now in
    let h : known_length bs ≡ Some c.in-Some.len = sym c.known_length.ensures ∙ c.in-Some.is in
    let goes : (perform (memory_of v.m) (first bs)).goes ≡ true = sym c.step.ensures.goes ∙ ap is_ok c.in_ok-step.was in
    goes-fits (memory_of v.m) bs c.in-Some.len h goes

pub loop-out-smaller : goal.loop-out-smaller
loop-out-smaller c =
    let v = c.loop-out in
    let bs = v.rest.now in
    let n = c.in-Some.len in
    let h : known_length bs ≡ Some n = sym c.known_length.ensures ∙ c.in-Some.is in
    let goes : (perform (memory_of v.m) (first bs)).goes ≡ true = sym c.step.ensures.goes ∙ ap is_ok c.in_ok-step.was in
    let fits = goes-fits (memory_of v.m) bs n h goes in
    omega (arith, left bs fits (part_to_end bs n), (known bs n h).some)

pub loop-out-preserved : goal.loop-out-preserved
loop-out-preserved c =
    let x = c in
    let v = c.loop-out in
    let bs = v.rest.now in
    let n = c.in-Some.len in
    let h : known_length bs ≡ Some n = sym c.known_length.ensures ∙ c.in-Some.is in
    let goes : (perform (memory_of v.m) (first bs)).goes ≡ true = sym c.step.ensures.goes ∙ ap is_ok c.in_ok-step.was in
    let few : length v.m.words.now ≤ 4096 = omega (arith, v.invariant.words_many, x.requires.0) in
    let room : v.out.at + 65536 ≤ length v.out.bytes.now = omega (arith, v.invariant.within, c.loop-out-test.true) in
    let d = c.step.ensures.does in
    let p = placed bs h few (omega arith) room d in
    let fits = goes-fits (memory_of v.m) bs n h goes in
    let e = part_to_end bs n in
    record {
      words_lent = d.lent ∙ v.invariant.words_lent;
      bytes_lent = d.puts.lent ∙ v.invariant.bytes_lent;
      after = omega (arith, p.0, v.invariant.after);
      within = p.1;
      words_many = d.many ∙ v.invariant.words_many;
      bytes_many = same d.puts.puts ∙ v.invariant.bytes_many;
      left = omega (arith, left bs fits e, v.invariant.left);
      taken = behind bs fits e x.args.bytes.now v.invariant.left v.invariant.taken;
      says = went bs h few (omega arith) room d x.args.out.now (memory_of x.args.m.now) x.args.bytes.now v.invariant.after v.invariant.says goes _ e;
    }

pub slice_bounds-rest-start : goal.slice_bounds-rest-start
slice_bounds-rest-start c =
    let v = c.loop-out in
    let bs = v.rest.now in
    let h : known_length bs ≡ Some c.in-Some.len = sym c.known_length.ensures ∙ c.in-Some.is in
    let goes : (perform (memory_of v.m) (first bs)).goes ≡ true = sym c.step.ensures.goes ∙ ap is_ok c.in_ok-step.was in
    let fits = goes-fits (memory_of v.m) bs c.in-Some.len h goes in
    search rules

pub returns-in_err-step-clause-sizes : goal.returns-in_err-step-clause-sizes
returns-in_err-step-clause-sizes c =
    let v = c.loop-out in
    let d = c.step.ensures.does in
    (d.many ∙ v.invariant.words_many, same d.puts.puts ∙ v.invariant.bytes_many)
