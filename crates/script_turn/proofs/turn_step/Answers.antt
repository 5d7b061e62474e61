use borrow.Author.Tests.{eqb-true, eqb-false}
use mathlib.Core.Path.{sym}
use native.Mathlib.Omega.{arith}
use lib.ListN.{length}
use Rattle.script_step.proofs.Stepping.{turn-none}
use Rattle.script_turn.proofs.Turning.{next, few}
use Rattle.script_turn.proofs.turn_step.Goals as goal

pub returns-then-is_empty-clause-does : goal.returns-then-is_empty-clause-does
returns-then-is_empty-clause-does c =
    let bs = c.args.bytes.now in
    turn-none c.args.m.now bs (eqb-true (length bs) 0 (sym c.if-is_empty.ensures)) c.free_step.ensures

pub returns-then-is_empty-clause-few : goal.returns-then-is_empty-clause-few
returns-then-is_empty-clause-few c =
    let bs = c.args.bytes.now in
    few bs c.requires.1 (turn-none c.args.m.now bs (eqb-true (length bs) 0 (sym c.if-is_empty.ensures)) c.free_step.ensures)

pub returns-in-Ok-clause-does : goal.returns-in-Ok-clause-does
returns-in-Ok-clause-does c =
    let bs = c.args.bytes.now in
    let n = eqb-false (length bs) 0 (sym c.if-is_empty.ensures) in
    next bs (omega arith) c.step.ensures.does

pub returns-in-Ok-clause-few : goal.returns-in-Ok-clause-few
returns-in-Ok-clause-few c =
    let bs = c.args.bytes.now in
    let n = eqb-false (length bs) 0 (sym c.if-is_empty.ensures) in
    few bs c.requires.1 (next bs (omega arith) c.step.ensures.does)

pub returns-in-Err-clause-does : goal.returns-in-Err-clause-does
returns-in-Err-clause-does c =
    let bs = c.args.bytes.now in
    let n = eqb-false (length bs) 0 (sym c.if-is_empty.ensures) in
    next bs (omega arith) c.step.ensures.does

pub returns-in-Err-clause-few : goal.returns-in-Err-clause-few
returns-in-Err-clause-few c =
    let bs = c.args.bytes.now in
    let n = eqb-false (length bs) 0 (sym c.if-is_empty.ensures) in
    few bs c.requires.1 (next bs (omega arith) c.step.ensures.does)
