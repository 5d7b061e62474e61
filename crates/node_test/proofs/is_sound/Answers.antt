use native.Mathlib.Omega.{arith}
use Prim.Native.Nat.{ℕ}
use mathlib.Core.Path.{◌∙◌, ap, sym}
use mathlib.Core.Bool.{false≢true}
use Rattle.node_read.specs.Layout.{shape_of}
use Rattle.model.specs.Tree.{rising, pairs_from}
use Rattle.model.specs.declared.node.RowPageIndexNodeHeader.{RowPageIndexNodeHeader}
use Rattle.node_test.specs.Test.{limit_of}
use Rattle.model.proofs.Order.{ne_holds, ne_fails}
use Rattle.node_test.proofs.Rows.{Facts, unsound_if, sound_if}
use Rattle.node_test.proofs.is_sound.Goals as goal

pub returns-then-h-height : goal.returns-then-h-height
returns-then-h-height c = sym (unsound_if _ _ _ _ _ _ (λ f. c.if-h-height.true (ap (λ (h : RowPageIndexNodeHeader). h.height) c.header-h.ensures ∙ f.high)))

pub returns-then-count-lt1 : goal.returns-then-count-lt1
returns-then-count-lt1 c = sym (unsound_if _ _ _ _ _ _ (λ f. omega (arith, c.if-count-lt1.true, ap (λ (h : RowPageIndexNodeHeader). h.count) c.header-h.ensures)))

pub returns-then-s-count : goal.returns-then-s-count
returns-then-s-count c = sym (unsound_if _ _ _ _ _ _ (λ f. omega (arith, c.if-s-count.true, ap (λ (h : RowPageIndexNodeHeader). h.count) c.header-h.ensures)))

pub returns-then-ne : goal.returns-then-ne
returns-then-ne c = sym (unsound_if _ _ _ _ _ _ (λ f. ne_holds _ _ (sym c.ne.ensures ∙ c.if-ne.true) (ap (λ (h : RowPageIndexNodeHeader). h.start_row_id.0) c.header-h.ensures ∙ f.begin)))

pub returns-then-ne-2 : goal.returns-then-ne-2
returns-then-ne-2 c = sym (unsound_if _ _ _ _ _ _ (λ f. ne_holds _ _ (sym c.ne-2.ensures ∙ c.if-ne-2.true) (c.row.ensures ∙ f.first)))

pub returns-then-not-end_sound : goal.returns-then-not-end_sound
returns-then-not-end_sound c =
    let ended = rw (c.row-last.ensures, c.header-h.ensures) at c.end_sound.ensures in
    sym (unsound_if _ _ _ _ _ _ (λ f. false≢true (sym c.if-not-end_sound.true ∙ ended ∙ f.ends)))

pub returns : goal.returns
returns c =
    let a = c.args in
    let hdr = c.header-h.ensures in
    let f : Facts (shape_of a.s.layout) a.s.words.now a.n.0 a.height a.row.0 (limit_of a.next) =
    record {
      high = sym (ap (λ (h : RowPageIndexNodeHeader). h.height) hdr) ∙ c.if-h-height.false;
      some = omega (arith, c.if-count-lt1.false, ap (λ (h : RowPageIndexNodeHeader). h.count) hdr);
      many = omega (arith, c.if-s-count.false, ap (λ (h : RowPageIndexNodeHeader). h.count) hdr);
      begin = sym (ap (λ (h : RowPageIndexNodeHeader). h.start_row_id.0) hdr) ∙ ne_fails _ _ (sym c.ne.ensures ∙ c.if-ne.false);
      first = sym c.row.ensures ∙ ne_fails _ _ (sym c.ne-2.ensures ∙ c.if-ne-2.false);
      ends = sym (rw (c.row-last.ensures, hdr) at c.end_sound.ensures) ∙ c.if-not-end_sound.false;
    } in
    c.rises.ensures ∙ ap (λ (h : RowPageIndexNodeHeader). rising (pairs_from (shape_of a.s.layout) a.s.words.now (λ (x : ℕ). x) a.n.0 0 h.count)) hdr ∙ sym (sound_if (shape_of a.s.layout) a.s.words.now a.n.0 a.height a.row.0 (limit_of a.next) f)
