-- The page ids that a walk over a sound tree finds are those of its entries.
use Prim.Native.Nat.{ℕ, zero, suc, ◌+◌, ◌<◌}
use mathlib.Core.List.{List, [], ◌∷◌, ◌++◌, append_assoc, append-nil}
use mathlib.Core.Bool.{true, false}
use mathlib.Core.Path.{◌≡◌, refl, sym, ap, ap₂, ◌∙◌}
use native.Mathlib.Omega.{arith}
use Rattle.model.specs.Words.{Shape, height, count, start, end, row, child}
use Rattle.model.specs.Tree.{Limit, Open, pairs_from, node_at, sound, level, next, last, over_pairs, all_pairs, AllSound}
use Rattle.model.specs.Reading.{Visit, Enter, Leave, Bad, passes, visits, root_visits, Entry, entries, page_ids, root_entries}
use Rattle.model.specs.Paths.{entered}
use Rattle.model.specs.WellFormed.{SoundRoot, empty_tree, sound_tree}
use Rattle.model.proofs.Tests.{is_true}
use Rattle.model.proofs.Sound.{sound-at}
use Rattle.model.proofs.Once.{own}
use Rattle.law_formed.proofs.Rooted.{empty_entries}
use Rattle.law_formed.proofs.Tally.{lower, sound-visits, leaf-visits, tree-visits, blank-visits}
use Rattle.tree_turn.specs.Left.{bound, rest}
use Rattle.tree_turn.proofs.Rest.{rest_end, child-good}
use Rattle.release_pages.specs.Pages.{pages_from, pages_at, pages_of}
use Rattle.release_pages.proofs.Filling.{leaf-pages, branch-pages}

ids-append : (a b : List Entry) → page_ids (a ++ b) ≡ page_ids a ++ page_ids b
ids-append [] b = refl
ids-append (x ∷ a) b = ap (λ (l : List ℕ). x.page ∷ l) (ids-append a b)

module _ (C : Shape) (P : ℕ) (w : List ℕ) where
  pages-append : (a b : List Visit) → pages_of C w (a ++ b) ≡ pages_of C w a ++ pages_of C w b
  unfolding pages_of
  pages-append [] b = refl
  pages-append (Enter n ∷ a) b = pages-append a b
  pages-append (Leave n ∷ a) b = ap (λ (l : List ℕ). pages_at C w n ++ l) (pages-append a b) ∙ sym (append_assoc (pages_at C w n) (pages_of C w a) (pages_of C w b))
  pages-append (Bad n ∷ a) b = pages-append a b

  leaf-ids : (n i k : ℕ) (b : Limit) → page_ids (over_pairs (entries 0) (pairs_from C w (level C w 0) n i k) b) ≡ pages_from C w n i k
  unfolding over_pairs entries pairs_from level pages_from
  leaf-ids n i zero b = refl
  leaf-ids n i (suc k) b = ap (λ (l : List ℕ). child C w n i ∷ l) (leaf-ids n (i + 1) k b)

  pairs-pages : (h n i k : ℕ) (b : Limit)
      → ((m x r : ℕ) (a : Limit) → AllSound C P (suc h) (level C w (suc h) x) r a → pages_of C w (visits false C P (suc h) m (level C w (suc h) x) r a) ≡ page_ids (entries (suc h) (level C w (suc h) x) r a))
      → all_pairs (AllSound C P (suc h)) (pairs_from C w (level C w (suc h)) n i k) b
      → pages_of C w (over_pairs (visits false C P (suc h) n) (pairs_from C w (level C w (suc h)) n i k) b) ≡ page_ids (over_pairs (entries (suc h)) (pairs_from C w (level C w (suc h)) n i k) b)
  unfolding pairs_from over_pairs all_pairs pages_of
  pairs-pages h n i zero b f a = refl
  pairs-pages h n i (suc k) b f a =
      let ps = pairs_from C w (level C w (suc h)) n (i + 1) k in
      let x = level C w (suc h) (child C w n i) in
      let v = visits false C P (suc h) n x (row C w n i) (next ps b) in
      let e = entries (suc h) x (row C w n i) (next ps b) in
      pages-append v (over_pairs (visits false C P (suc h) n) ps b)
      ∙ ap₂ (λ (s t : List ℕ). s ++ t) (f n (child C w n i) (row C w n i) (next ps b) a.0) (pairs-pages h n (i + 1) k b f a.1)
      ∙ sym (ids-append e (over_pairs (entries (suc h)) ps b))

  -- the visits of a sound node
  shows : (h m n r : ℕ) (b : Limit) → AllSound C P (suc h) (level C w (suc h) n) r b
      → pages_of C w (visits false C P (suc h) m (level C w (suc h) n) r b) ≡ pages_of C w (lower C P false h m (level C w (suc h) n) r b) ++ pages_at C w n
  unfolding pages_of level
  shows h m n r b g =
      let vs = lower C P false h m (level C w (suc h) n) r b in
      ap (pages_of C w) (sound-visits C P h m (level C w (suc h) n) r b g) ∙ pages-append vs (Leave n ∷ []) ∙ ap (λ (l : List ℕ). pages_of C w vs ++ l) (append-nil (pages_at C w n))

  pub sound-pages : (h m n r : ℕ) (b : Limit) → AllSound C P (suc h) (level C w (suc h) n) r b
      → pages_of C w (visits false C P (suc h) m (level C w (suc h) n) r b) ≡ page_ids (entries (suc h) (level C w (suc h) n) r b)
  unfolding AllSound entries level pages_of
  sound-pages zero m n r b g =
      let ps = pairs_from C w (level C w 0) n 0 (count C w n) in
      shows zero m n r b g
      ∙ rw (leaf-visits C P n ps (last 0 (end C w n) b), leaf-pages C w n (own C P w 0 n r b g).0)
      (sym (leaf-ids n 0 (count C w n) (last 0 (end C w n) b)))
  sound-pages (suc h) m n r b g =
      shows (suc h) m n r b g
      ∙ rw (branch-pages C w n (λ z. absurd (omega (arith, z, (own C P w (suc h) n r b g).0))), append-nil)
      (pairs-pages h n 0 (count C w n) (last (suc h) (end C w n) b) (λ m₂ x r₂ a q. sound-pages h m₂ x r₂ a q) g.2)

  -- From the root -----------------------------------------------------------------------------------------

  module _ (n : ℕ) where
    abbrev tall : ℕ
    tall = height C w n

    sound-passes : AllSound C P (suc tall) (level C w (suc tall) n) (start C w n) Open → passes false C tall (node_at C w n) (start C w n) Open ≡ true
    unfolding AllSound level passes
    sound-passes g = rw (← sound-at (level C w tall) C w tall n (start C w n) Open, is_true (sound C tall (level C w (suc tall) n) (start C w n) Open) g.1)

    -- the root is entered, then comes what its path has left
    pub root-rest : n < P → SoundRoot C P w tall n → root_visits false C P w n ≡ Enter n ∷ rest false C P w tall (entered n ∷ [])
    unfolding rest bound
    root-rest i (empty_tree e) = blank-visits C P w n false e ∙ ap (λ (vs : List Visit). Enter n ∷ vs) (sym (rest_end false C P w tall (entered n) [] (omega (arith, e.none))))
    root-rest i (sound_tree l g) = tree-visits C P w n l g ∙ sym (append-nil _) ∙ child-good false C P w tall n n (start C w n) [] i (sound-passes g)

    root-pages : SoundRoot C P w tall n → pages_of C w (root_visits false C P w n) ≡ page_ids (root_entries C w n)
    unfolding pages_of pages_from
    root-pages (empty_tree e) =
        ap (pages_of C w) (blank-visits C P w n false e)
        ∙ rw (leaf-pages C w n e.leaf, e.none, empty_entries C w tall n e (start C w n) Open)
    root-pages (sound_tree l g) = ap (pages_of C w) (tree-visits C P w n l g) ∙ sound-pages tall n n (start C w n) Open g

    -- the law
    pub rest-pages : n < P → SoundRoot C P w tall n → pages_of C w (rest false C P w tall (entered n ∷ [])) ≡ page_ids (root_entries C w n)
    unfolding pages_of
    rest-pages i s = sym (ap (pages_of C w) (root-rest i s)) ∙ root-pages s
