use native.Mathlib.Omega.{arith}
use Prim.Native.Nat.{◌+◌}
use mathlib.Core.Path.{sym}
use Rattle.node_test.proofs.Rows.{begins, goes_on, stops, arrives, rise-falls, tail}
use Rattle.node_test.proofs.rises.Goals as goal

pub loop-i-init : goal.loop-i-init
loop-i-init c = begins c.requires.n_lt_pool.1 c.row-last.ensures

pub returns-then-a-last : goal.returns-then-a-last
returns-then-a-last c = stops c.loop-i.invariant (omega (arith, c.loop-i-test.true)) c.row-a.ensures c.if-a-last.true

pub returns-then-b-a : goal.returns-then-b-a
returns-then-b-a c =
    let l = c.loop-i-test.true in
    let a = goes_on c.loop-i.invariant (c.loop-i.i + 1) (omega arith) (omega arith) c.row-a.ensures c.if-a-last.false in
    stops a (omega arith) c.row-b.ensures c.if-b-a.true

pub returns-then-c-b : goal.returns-then-c-b
returns-then-c-b c =
    let l = c.loop-i-test.true in
    let a = goes_on c.loop-i.invariant (c.loop-i.i + 1) (omega arith) (omega arith) c.row-a.ensures c.if-a-last.false in
    let b = goes_on a (c.loop-i.i + 2) (omega arith) (omega arith) c.row-b.ensures c.if-b-a.false in
    stops b (omega arith) c.row-c.ensures c.if-c-b.true

pub returns-then-d-c : goal.returns-then-d-c
returns-then-d-c c =
    let l = c.loop-i-test.true in
    let a = goes_on c.loop-i.invariant (c.loop-i.i + 1) (omega arith) (omega arith) c.row-a.ensures c.if-a-last.false in
    let b = goes_on a (c.loop-i.i + 2) (omega arith) (omega arith) c.row-b.ensures c.if-b-a.false in
    let d = goes_on b (c.loop-i.i + 3) (omega arith) (omega arith) c.row-c.ensures c.if-c-b.false in
    stops d (omega arith) c.row-d.ensures c.if-d-c.true

pub loop-i-preserved : goal.loop-i-preserved
loop-i-preserved c =
    let l = c.loop-i-test.true in
    let a = goes_on c.loop-i.invariant (c.loop-i.i + 1) (omega arith) (omega arith) c.row-a.ensures c.if-a-last.false in
    let b = goes_on a (c.loop-i.i + 2) (omega arith) (omega arith) c.row-b.ensures c.if-b-a.false in
    let d = goes_on b (c.loop-i.i + 3) (omega arith) (omega arith) c.row-c.ensures c.if-c-b.false in
    goes_on d (c.loop-i.i + 4) (omega arith) (omega arith) c.row-d.ensures c.if-d-c.false

pub returns-then-b-a-2 : goal.returns-then-b-a-2
returns-then-b-a-2 c = sym (rise-falls _ _ _ 2 _ c.if-count-ge4.true (rw (c.row-b-then-count-ge4.ensures, c.row-a-then-count-ge4.ensures) at c.if-b-a-2.true))

pub returns-then-c-b-2 : goal.returns-then-c-b-2
returns-then-c-b-2 c = sym (rise-falls _ _ _ 1 _ (omega (arith, c.if-count-ge4.true)) (rw (c.row-c-then-count-ge4.ensures, c.row-b-then-count-ge4.ensures) at c.if-c-b-2.true))

pub returns-then-count-ge4 : goal.returns-then-count-ge4
returns-then-count-ge4 c =
    rw (c.row-d-then-count-ge4.ensures, c.row-c-then-count-ge4.ensures)
    (tail _ _ _ _ _ _ c.loop-i.invariant c.loop-i-test.false c.if-count-ge4.true
    (rw (c.row-b-then-count-ge4.ensures, c.row-a-then-count-ge4.ensures) at c.if-b-a-2.false) (rw (c.row-c-then-count-ge4.ensures, c.row-b-then-count-ge4.ensures) at c.if-c-b-2.false))

pub returns-then-a-last-2 : goal.returns-then-a-last-2
returns-then-a-last-2 c = stops c.loop-k.invariant c.loop-k-test.true c.row-a-in-loop-k.ensures c.if-a-last-2.true

pub loop-k-preserved : goal.loop-k-preserved
loop-k-preserved c = goes_on c.loop-k.invariant _ (omega arith) c.loop-k-test.true c.row-a-in-loop-k.ensures c.if-a-last-2.false

pub returns : goal.returns
returns c = arrives c.loop-k.invariant c.loop-k-test.false
