use mathlib.Core.Path.{◌≡◌, refl, sym, ap, ◌∙◌}
use mathlib.Core.Bool.{false≢true}
use native.Mathlib.Omega.{arith}
use native.Mathlib.Nat.{sub-zero}
use lib.ListN.{length-set}
use Rattle.model.specs.Append.{chain_sound, past}
use Rattle.node_chain.specs.Chain.{listed}
use Rattle.node_write.proofs.Turns.{turn, stop}
use Rattle.model.specs.declared.node.RowPageIndexNodeHeader.{RowPageIndexNodeHeader}
use Rattle.node_chain.proofs.Links.{link_of, link-is, listed-set, linked, unlinked, firsts-turn, firsts-done}
use Rattle.node_chain.proofs.read_chain.Goals as goal

pub loop-i-init : goal.loop-i-init
unfolding listed
loop-i-init c = (omega arith, refl, rw sub-zero, rw sub-zero, rw sub-zero)

pub returns-then-not-is_link-clause-ok : goal.returns-then-not-is_link-clause-ok
returns-then-not-is_link-clause-ok c = sym (c.loop-i.invariant.2 ∙ unlinked _ _ _ _ _ _ _ c.loop-i-test.true (λ p. false≢true (sym (sym c.is_link.ensures ∙ c.if-not-is_link.true) ∙ link-is _ _ _ _ _ p)))

pub returns-then-holds-clause-ok : goal.returns-then-holds-clause-ok
returns-then-holds-clause-ok c = sym (c.loop-i.invariant.2 ∙ unlinked _ _ _ _ _ _ _ c.loop-i-test.true (λ p. false≢true (rw c.if-holds.true at c.holds.ensures ∙ p.new)))

pub loop-i-preserved : goal.loop-i-preserved
unfolding past
loop-i-preserved c =
    let l = c.loop-i in
    let seen = listed l.nodes 0 l.i in
    let next = (ap (λ (h : RowPageIndexNodeHeader). h.count) c.header.ensures) in
    let more = listed-set l.nodes l.i l.n (omega arith) in
    let g = sym c.is_link.ensures ∙ c.if-not-is_link.false in
    let p = link_of _ _ _ l.n.0 seen g (sym (rw c.if-holds.false at c.holds.ensures)) in (
      omega arith,
      length-set l.nodes l.i l.n ∙ l.invariant.1,
      l.invariant.2 ∙ linked _ _ _ _ _ _ _ c.loop-i-test.true p ∙ rw (more, next),
      l.invariant.3 ∙ firsts-turn _ _ _ _ _ seen c.loop-i-test.true ∙ rw (more, next),
      l.invariant.4 ∙ turn (past _ _ _) _ _ c.loop-i-test.true ∙ rw next,
    )

pub returns : goal.returns
unfolding chain_sound past
returns c =
    let l = c.loop-i in
    let all : l.i ≡ c.args.k = omega arith in record {
      ok = sym (l.invariant.2 ∙ stop (chain_sound _ _ _ _ _) _ _ c.loop-i-test.false);
      given = (ap (listed l.nodes 0) (sym all) ∙ sym (l.invariant.3 ∙ firsts-done _ _ _ _ _ (listed l.nodes 0 l.i) c.loop-i-test.false), sym (l.invariant.4 ∙ stop (past _ _ _) _ _ c.loop-i-test.false));
    }
