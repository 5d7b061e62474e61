-- What next_words promises is an equation: next on the words read as records, and its list written back.
use Prim.Native.Nat.{ℕ, ◌+◌, ◌*◌, ◌/◌, ◌<◌, ◌≤◌}
use mathlib.Core.List.{List, [], ◌∷◌, ◌++◌}
use mathlib.Core.Path.{◌≡◌, refl, sym, ap, ◌∙◌}
use native.Mathlib.Omega.{arith}
use lib.ListN.{length, drop, length-append, length-drop}
use Rattle.model.specs.Words.{fill}
use Rattle.model.specs.Refusals.{next_leaf}
use Rattle.model.specs.declared.node.PageEntry.{PageEntry}
use Rattle.model.specs.declared.cursor.RowPageIndexMemCursor.{RowPageIndexMemCursor}
use Rattle.model.proofs.Answers.{next-leaf-one}
use Rattle.model.proofs.Fill.{fill_is}
use Rattle.next_words.specs.Written.{record_words, WordSteps, records_in, next_words_of}
use Rattle.next_words.specs.declared.WordStep.{WordStep}

words-length : (a : List PageEntry) → length (record_words a) ≡ 2 * length a
unfolding record_words
words-length [] = refl
words-length (e ∷ a) = omega (arith, words-length a)

-- half of them, rounded down
record_count : (b : List ℕ) → (2 * length (records_in b) ≤ length b) × (length b < 2 * length (records_in b) + 2)
unfolding records_in
record_count [] = (omega arith, omega arith)
record_count (r ∷ []) = (omega arith, omega arith)
record_count (r ∷ x ∷ b) = let q = record_count b in (omega (arith, q.0), omega (arith, q.1))

record_half : (b : List ℕ) → length (records_in b) ≡ length b / 2
record_half b = let q = record_count b in omega (arith, q.0, q.1)

-- writing back what was read changes nothing
back : (b : List ℕ) → record_words (records_in b) ++ drop (length (record_words (records_in b))) b ≡ b
unfolding records_in record_words
back [] = refl
back (r ∷ []) = refl
back (r ∷ x ∷ b) = ap (λ (l : List ℕ). r ∷ x ∷ l) (back b)

pub written_back : (b : List ℕ) → fill b 0 (record_words (records_in b)) ≡ b
written_back b = fill_is b (record_words (records_in b)) (omega (arith, words-length (records_in b), (record_count b).0)) ∙ back b

behind : (b : List ℕ) (g : List PageEntry) → 2 * length g ≤ length b
    → (let all = record_words (g ++ drop (length g) (records_in b)) in all ++ drop (length all) b) ≡ record_words g ++ drop (length (record_words g)) b
unfolding records_in record_words
behind b [] h = back b
behind [] (e ∷ g) h = absurd (omega arith)
behind (r ∷ []) (e ∷ g) h = absurd (omega arith)
behind (r ∷ x ∷ b) (e ∷ g) h = ap (λ (l : List ℕ). e.row_id.0 ∷ e.page_id.0 ∷ l) (behind b g (omega arith))

filled : (b : List ℕ) (g : List PageEntry) → length g ≤ length (records_in b) → fill b 0 (record_words (fill (records_in b) 0 g)) ≡ fill b 0 (record_words g)
filled b g h =
    let q = (record_count b).0 in
    let all = g ++ drop (length g) (records_in b) in
    let n : length all ≡ length (records_in b) = omega (arith, length-append g (drop (length g) (records_in b)), length-drop (length g) (records_in b)) in
    ap (λ (l : List PageEntry). fill b 0 (record_words l)) (fill_is (records_in b) g h)
    ∙ fill_is b (record_words all) (omega (arith, words-length all, n))
    ∙ behind b g (omega arith)
    ∙ sym (fill_is b (record_words g) (omega (arith, words-length g)))

-- the law
pub words_are : (w : List ℕ) (c : RowPageIndexMemCursor) (before after : List ℕ) (r : WordStep) → WordSteps w c before after r
    → (next_leaf r.answer ≡ (next_words_of w c before).answer) × (r.cursor ≡ (next_words_of w c before).cursor) × (after ≡ (next_words_of w c before).words)
words_are w c before after r s =
    let l = records_in before in
    let q = record_half before in (
      s.answer l q,
      s.cursor l q,
      s.words ∙ sym (filled before s.given (omega (arith, s.few, q))) ∙ ap (λ (x : List PageEntry). fill before 0 (record_words x)) (sym (s.list l q)),
    )

pub words_unique : (w : List ℕ) (c : RowPageIndexMemCursor) (before v u : List ℕ) (a b : WordStep) → WordSteps w c before v a → WordSteps w c before u b
    → (a.answer ≡ b.answer) × (a.cursor ≡ b.cursor) × (v ≡ u)
words_unique w c before v u a b p q =
    let x = words_are w c before v a p in
    let y = words_are w c before u b q in
    (next-leaf-one a.answer b.answer (x.0 ∙ sym y.0), x.1 ∙ sym y.1, x.2 ∙ sym y.2)
