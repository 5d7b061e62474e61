-- The root: no Bad in its visits just where all nodes from it are sound; and what its nodes are.
use Prim.Native.Nat.{ℕ, zero, suc, ◌<◌, ◌≤◌}
use mathlib.Core.List.{List, [], ◌∷◌, ◌++◌}
use mathlib.Core.Bool.{Bool, true, false}
use mathlib.Core.Path.{◌≡◌, refl, sym, ap, ◌∙◌, subst}
use mathlib.Core.Logic.{inl}
use native.Mathlib.Omega.{arith}
use lib.Dec.{T, leb, eqb, ltb→lt, leb→le, eqb→eq}
use borrow.Author.Tests.{eqb-true, eqb-false, leb-true, le-leb, eq-eqb}
use Rattle.model.specs.Words.{Shape, pick, part, height, count, start, end, NONE, row_limit, max_height}
use Rattle.model.specs.Tree.{Limit, Open, pairs_from, empty_root, Level, level, last, over_pairs, all_pairs, AllSound}
use Rattle.model.specs.Reading.{Visit, Enter, Leave, Bad, end_fits, visits, root_visits, clear, first_bad, entries, occ, in_pairs, nodes}
use Rattle.model.specs.WellFormed.{EndFits, EndsFit, EmptyRoot, SoundRoot, empty_tree, sound_tree}
use Rattle.model.proofs.Tests.{and_l, and_r, by_test, holds}
use Rattle.model.proofs.Frame.{occ-append, occ_self, occ_nil}
use Rattle.model.proofs.Once.{occ-other, once, lower}
use Rattle.model.proofs.Lookup.{is_empty, not_empty}
use Rattle.law_formed.proofs.Pairs.{none_in}
use Rattle.law_formed.specs.Visits.{clean}
use Rattle.law_formed.proofs.Clean.{clear-clean, clean-clear, reads, sound-clean, reads-well, well-clean, wrong_ends, first_of, first-wrong}
use Rattle.law_formed.proofs.Ends.{sound-well, well-ends}

-- An empty root ------------------------------------------------------------------------------------------

pub empty_of : (C : Shape) (w : List ℕ) (n : ℕ) → empty_root C w n ≡ true → EmptyRoot C w n
unfolding empty_root
empty_of C w n e =
    let z = holds _ e in
    record {
      leaf = eqb→eq (height C w n) 0 (search (and_l, and_r, z));
      none = eqb→eq (count C w n) 0 (search (and_l, and_r, z));
      low = leb→le (start C w n) row_limit (search (and_l, and_r, z));
      ends = eqb→eq (end C w n) NONE (search (and_l, and_r, z));
    }

module _ (C : Shape) (w : List ℕ) (h n : ℕ) (e : EmptyRoot C w n) where
  pub empty_pairs : (level C w (suc h) n).pairs ≡ []
  unfolding level pairs_from
  empty_pairs = rw e.none

  pub empty_nodes : nodes (suc h) (level C w (suc h) n) ≡ n ∷ []
  unfolding nodes level in_pairs
  empty_nodes = ap (λ (ps : List (ℕ × Level h)). in_pairs (nodes h) ps ++ (n ∷ [])) empty_pairs

  pub empty_entries : (r : ℕ) (b : Limit) → entries (suc h) (level C w (suc h) n) r b ≡ []
  unfolding entries over_pairs level
  empty_entries r b = ap (λ (ps : List (ℕ × Level h)). over_pairs (entries h) ps (last h (end C w n) b)) empty_pairs

  pub empty_fits : EndsFit (suc h) (level C w (suc h) n) (start C w n) Open
  unfolding EndsFit EndFits level part all_pairs
  empty_fits = (fit h, subst (λ (ps : List (ℕ × Level h)). all_pairs (EndsFit h) ps (last h (end C w n) Open)) (sym empty_pairs) tt)
    where
      fit : (g : ℕ) → EndFits g (level C w (suc g) n) Open
      fit zero = tt
      fit (suc g) = inl e.ends

  pub empty_right : wrong_ends (suc h) (level C w (suc h) n) (start C w n) Open ≡ []
  unfolding wrong_ends over_pairs level end_fits
  empty_right =
      rw (fit h) (ap (λ (ps : List (ℕ × Level h)). over_pairs (wrong_ends h) ps (last h (end C w n) Open)) empty_pairs)
    where
      fit : (g : ℕ) → end_fits g Open (end C w n) ≡ true
      fit zero = refl
      fit (suc g) = eq-eqb (end C w n) NONE e.ends

-- The nodes of a sound tree are in the pool ---------------------------------------------------------------

pub inside : (C : Shape) (P m : ℕ) → P ≤ m → (h : ℕ) (t : Level h) (r : ℕ) (b : Limit) → AllSound C P h t r b → occ m (nodes h t) ≡ 0
unfolding AllSound nodes
inside C P m l zero t r b g = occ_nil m
inside C P m l (suc h) t r b g =
    omega (
      arith,
      occ-append m (in_pairs (nodes h) t.pairs) (t.number ∷ []),
      none_in m (AllSound C P h) (nodes h) (inside C P m l h) t.pairs (last h t.end b) g.2,
      occ-other m t.number (λ e. absurd (omega (arith, ltb→lt t.number P g.0))),
    )

module _ (C : Shape) (P : ℕ) (w : List ℕ) (h n : ℕ) where
  -- each once, in the pool, not marked free
  pub root-once : (m : ℕ) → SoundRoot C P w h n → occ m (nodes (suc h) (level C w (suc h) n)) ≤ 1
  root-once m (empty_tree e) =
      by_test (eqb m n)
      (λ t. omega (arith, ap (occ m) (empty_nodes C w h n e), subst (λ (k : ℕ). occ m (k ∷ []) ≡ 1) (eqb-true m n t) (occ_self m)))
      (λ t. omega (arith, ap (occ m) (empty_nodes C w h n e), occ-other m n (eqb-false m n t)))
  root-once m (sound_tree l g) = once C P w m (suc h) n (start C w n) Open g

  pub root-inside : n < P → (m : ℕ) → P ≤ m → SoundRoot C P w h n → occ m (nodes (suc h) (level C w (suc h) n)) ≡ 0
  root-inside l m p (empty_tree e) = omega (arith, ap (occ m) (empty_nodes C w h n e), occ-other m n (λ q. absurd (omega arith)))
  root-inside l m p (sound_tree k g) = inside C P m p (suc h) (level C w (suc h) n) (start C w n) Open g

  pub root-low : (m : ℕ) → SoundRoot C P w h n → 0 < occ m (nodes (suc h) (level C w (suc h) n)) → height C w m ≤ max_height
  root-low m (empty_tree e) p =
      by_test (eqb m n)
      (λ t. omega (arith, ap (height C w) (eqb-true m n t), e.leaf))
      (λ t. absurd (omega (arith, ap (occ m) (empty_nodes C w h n e), occ-other m n (eqb-false m n t))))
  root-low m (sound_tree l g) p = omega (arith, lower C P w m (suc h) n (start C w n) Open g p)

-- The root's visits --------------------------------------------------------------------------------------

module _ (C : Shape) (P : ℕ) (w : List ℕ) (n : ℕ) where
  abbrev tall : ℕ
  tall = height C w n

  -- visits with no Bad: the root is empty, or its tree shows none
  module _ (ends : Bool) where
    abbrev tree : List Visit
    tree = visits ends C P (suc tall) n (level C w (suc tall) n) (start C w n) Open

    root-read : {A : Type 0} → first_bad (root_visits ends C P w n) ≡ clear → (EmptyRoot C w n → A) → (tall ≤ max_height → T (clean tree) → A) → A
    unfolding root_visits clean
    root-read {A} c f g = go (empty_root C w n) (leb tall max_height) refl refl c
      where
        go : (a d : Bool) → empty_root C w n ≡ a → leb tall max_height ≡ d → first_bad (pick a (Enter n ∷ Leave n ∷ []) (pick d tree (Bad n ∷ []))) ≡ clear → A
        go true d p q z = f (empty_of C w n p)
        go false true p q z = g (leb-true tall max_height q) (clear-clean tree z)
        go false false p q z = absurd (clear-clean (Bad n ∷ []) z)

    pub empty_clear : EmptyRoot C w n → first_bad (root_visits ends C P w n) ≡ clear
    unfolding root_visits first_bad
    empty_clear e = rw (is_empty C w n e)

    tree-clear : tall ≤ max_height → T (clean tree) → first_bad (root_visits ends C P w n) ≡ clear
    unfolding root_visits first_bad
    tree-clear l c = by_test (empty_root C w n) (λ t. rw t) (λ t. rw (t, le-leb tall max_height l) (clean-clear tree c))

  pub root-sound : first_bad (root_visits false C P w n) ≡ clear → SoundRoot C P w tall n
  root-sound c = root-read false c empty_tree (λ l g. sound_tree l (reads C P tall n (level C w (suc tall) n) (start C w n) Open g))

  pub sound-root : SoundRoot C P w tall n → first_bad (root_visits false C P w n) ≡ clear
  sound-root (empty_tree e) = empty_clear false e
  sound-root (sound_tree l g) = tree-clear false l (sound-clean C P (suc tall) n (level C w (suc tall) n) (start C w n) Open g)

  pub root_ends : first_bad (root_visits true C P w n) ≡ clear → EndsFit (suc tall) (level C w (suc tall) n) (start C w n) Open
  root_ends c =
      root-read true c (empty_fits C w tall n)
      (λ l g. well-ends C P (suc tall) (level C w (suc tall) n) (start C w n) Open (reads-well C P tall n (level C w (suc tall) n) (start C w n) Open g))

  pub ends-root : SoundRoot C P w tall n → EndsFit (suc tall) (level C w (suc tall) n) (start C w n) Open → first_bad (root_visits true C P w n) ≡ clear
  ends-root (empty_tree e) f = empty_clear true e
  ends-root (sound_tree l g) f =
      tree-clear true l (well-clean C P (suc tall) n (level C w (suc tall) n) (start C w n) Open (sound-well C P (suc tall) (level C w (suc tall) n) (start C w n) Open g f))

  -- where all nodes are sound, the visits that look at ends name the first branch whose end does not fit
  pub root-wrong : SoundRoot C P w tall n → first_bad (root_visits true C P w n) ≡ first_of (wrong_ends (suc tall) (level C w (suc tall) n) (start C w n) Open)
  unfolding root_visits first_of
  root-wrong (empty_tree e) = empty_clear true e ∙ sym (ap first_of (empty_right C w tall n e))
  root-wrong (sound_tree l g) =
      rw (not_empty C P w tall n (start C w n) Open g, le-leb tall max_height l) (first-wrong C P (suc tall) n (level C w (suc tall) n) (start C w n) Open g)
