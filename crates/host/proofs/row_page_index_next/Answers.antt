use Prim.Native.Nat.{ℕ}
use mathlib.Core.List.{List}
use mathlib.Core.Path.{◌≡◌, ap, ◌∙◌}
use Rattle.model.specs.Refusals.{Answer}
use Rattle.answer_words.proofs.Telling.{told}
use Rattle.model.specs.declared.cursor.RowPageIndexMemCursor.{RowPageIndexMemCursor}
use Rattle.next_words.specs.Written.{next_words_of, WordOutcome}
use Rattle.next_words.proofs.Equation.{words_are}
use Rattle.host_cursor.specs.Cursors.{cursor_in, cursor_after}
use Rattle.host.proofs.row_page_index_next.Goals as goal

both : (l : List ℕ) (c d : RowPageIndexMemCursor) (x y : Answer) → c ≡ d → x ≡ y → cursor_after l c x ≡ cursor_after l d y
both l c d x y p q = ap (λ (e : RowPageIndexMemCursor). cursor_after l e x) p ∙ ap (cursor_after l d) q

pub returns : goal.returns
returns c =
    let a = c.args in
    let s = words_are a.words.now _ a.records.now _ _ c.next_words-step.ensures in
    let e : next_words_of a.words.now _ a.records.now ≡ next_words_of a.words.now (cursor_in a.cursor.now) a.records.now = ap (λ (c : RowPageIndexMemCursor). next_words_of a.words.now c a.records.now) c.cursor_in.ensures in
    let t = s.0 ∙ ap (λ (o : WordOutcome). o.answer) e in
    record { cursor = c.cursor_out.ensures ∙ both a.cursor.now _ _ _ _ (s.1 ∙ ap (λ (o : WordOutcome). o.cursor) e) t; records = s.2 ∙ ap (λ (o : WordOutcome). o.words) e; answer = told c.from-n.ensures t c.tell.ensures }
