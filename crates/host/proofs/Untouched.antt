-- Demand 1 for a host: a refusal, and none, leave every array that a function was lent as it was, whatever it held.
use Prim.Native.Nat.{ℕ, suc}
use mathlib.Core.List.{List, [], ◌∷◌}
use mathlib.Core.Bool.{true, false}
use mathlib.Core.Path.{◌≡◌, refl, ap, ◌∙◌}
use native.Mathlib.Omega.{arith}
use lib.ListN.{length}
use borrow.Author.Tests.{eqb-true}
use Rattle.model.specs.Words.{lent, fill}
use Rattle.model.specs.Refusals.{Answer, result, refused, Outcome}
use Rattle.model.specs.Create as Create
use Rattle.model.specs.Append.{insert_row_page}
use Rattle.model.specs.Prune.{prune_checkpoint_prefix}
use Rattle.model.specs.LeafWalk.{Stepped, gives_leaf, next_leaf_of}
use Rattle.model.specs.Release as Release
use Rattle.model.specs.Release.{Released}
use Rattle.model.proofs.Still.{create-still, insert_still, prune-still, destroy-still, empty_still, next-still}
use Rattle.next_words.specs.Written.{record_words, records_in}
use Rattle.next_words.proofs.Equation.{written_back}
use Rattle.host_cursor.specs.Cursors.{cursor_in, cursor_after}
use Rattle.host.specs.Served.{Arrays, with_words, with_pages, with_cursor, with_records, Function, create, append, find, prune, destroy, destroy_empty, check, seek, next, served, is_none, changes_nothing}

no_way : {A : Type 0} → false ≡ true → A
no_way e = let z : ◌≡◌ {A = ℕ} 0 1 = cc in absurd (omega arith)

-- functions that are lent words alone, and give none never
on-words : (m : Arrays) (f : Function) (o : Outcome) → ((l : List ℕ) → is_none f l ≡ false)
    → ((a d : ℕ) → o.answer ≡ refused a d → o ≡ record { answer = refused a d; words = m.words })
    → changes_nothing f o.answer ≡ true → with_words m o.words ≡ m
unfolding changes_nothing
on-words m f o never same t = go o.answer refl t
  where
    go : (x : Answer) → o.answer ≡ x → changes_nothing f x ≡ true → with_words m o.words ≡ m
    go (result l) e u = no_way (rw (never l) at u)
    go (refused a d) e u = ap (λ (y : Outcome). with_words m y.words) (same a d e)

module _ (m : Arrays) where
  release-same : (v : ℕ) → changes_nothing (destroy v) (Release.destroy lent m.words v m.pages).answer ≡ true → (served m (destroy v)).arrays ≡ m
  unfolding changes_nothing is_none
  release-same v t = go (Release.destroy lent m.words v m.pages).answer refl t
    where
      go : (x : Answer) → (Release.destroy lent m.words v m.pages).answer ≡ x → changes_nothing (destroy v) x ≡ true → (served m (destroy v)).arrays ≡ m
      go (result l) e u = no_way u
      go (refused a d) e u = ap (λ (y : Released). with_pages (with_words m y.words) y.list) (destroy-still m.words m.pages lent v a d e)

  -- what a step leaves
  abbrev stepped : Stepped → Arrays
  stepped o = with_records (with_cursor m (cursor_after m.cursor o.cursor o.answer)) (fill m.records 0 (record_words o.list))

  abbrev step : Stepped
  step = next_leaf_of lent m.words (cursor_in m.cursor) (records_in m.records)

  next-same : changes_nothing next step.answer ≡ true → stepped step ≡ m
  unfolding changes_nothing is_none gives_leaf
  next-same t = go step.answer refl t
    where
      go : (x : Answer) → step.answer ≡ x → changes_nothing next x ≡ true → stepped step ≡ m
      go (result []) e u = ap stepped (next-still m.words (cursor_in m.cursor) (records_in m.records) lent (result []) tt e) ∙ ap (with_records m) (written_back m.records)
      go (result (x ∷ l)) e u = absurd (omega (arith, eqb-true (suc (length l)) 0 u))
      go (refused a d) e u = ap stepped (next-still m.words (cursor_in m.cursor) (records_in m.records) lent (refused a d) tt e) ∙ ap (with_records m) (written_back m.records)

  -- the law
  pub untouched : (f : Function) → changes_nothing f (served m f).answer ≡ true → (served m f).arrays ≡ m
  unfolding changes_nothing is_none
  untouched (create C P s) t = on-words m (create C P s) (Create.create lent m.words C P s) (λ l. refl) (create-still m.words lent C P s) t
  untouched (append k x) t = on-words m (append k x) (insert_row_page lent m.words k x) (λ l. refl) (insert_still m.words lent k x) t
  untouched (find q) t = refl
  untouched (prune s e ids) t = on-words m (prune s e ids) (prune_checkpoint_prefix lent m.words s e ids) (λ l. refl) (prune-still m.words lent s e ids) t
  untouched (destroy v) t = release-same v t
  untouched destroy_empty t = on-words m destroy_empty (Release.destroy_empty lent m.words) (λ l. refl) (empty_still m.words lent) t
  untouched check t = refl
  untouched (seek q) t = no_way t
  untouched next t = next-same t
