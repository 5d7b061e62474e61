use mathlib.Core.Path.{sym}
use Rattle.script_calls.proofs.Performing.{spoiled}
use Rattle.script_calls.specs.Steps.{memory_of}
use Rattle.script_step.proofs.Firsts.{first-bad, first-meant, bad-ends, meant-goes}
use Rattle.script_step.proofs.step.Goals as goal

pub returns-in_default : goal.returns-in_default
returns-in_default c =
    let x = c.args in
    let r = c.bad_step.ensures in
    let e = first-bad x.bytes.now c.in_default.ensures.is in
    record { does = rw e (spoiled x.m.now x.out.now _ r.puts); goes = rw (e, bad-ends (memory_of x.m.now)) r.ends }

pub returns-in_default-read_body : goal.returns-in_default-read_body
returns-in_default-read_body c =
    let x = c.args in
    let r = c.bad_step-in_default-read_body.ensures in
    let e = first-meant x.bytes.now _ c.in-Some.ensures.is _ c.in_default-read_body.ensures in
    record { does = rw e (spoiled x.m.now x.out.now _ r.puts); goes = rw (e, bad-ends (memory_of x.m.now)) r.ends }

pub returns : goal.returns
returns c =
    let x = c.args in
    let e = first-meant x.bytes.now _ c.in-Some.ensures.is _ c.in-Some-read_body.ensures in
    record { does = rw e c.perform_record.ensures; goes = rw e (sym (meant-goes (memory_of x.m.now) _ c.in-Some-read_body.asked)) }
