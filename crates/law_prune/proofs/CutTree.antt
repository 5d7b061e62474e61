-- A well-formed tree cut at an entry's end, and collapsed: its entries, its nodes, its height, and that it is
-- well-formed from there on.
use Prim.Native.Nat.{ℕ, suc, ◌+◌, ◌<◌}
use mathlib.Core.List.{List, [], ◌∷◌, ◌++◌, reverse, reverse-cons, append-nil}
use mathlib.Core.Path.{◌≡◌, refl, ap, ◌∙◌, subst}
use native.Mathlib.Omega.{arith}
use lib.ListN.{length, length-append}
use lib.Dec.{ltb→lt}
use borrow.Author.Tests.{lt-ltb}
use Rattle.model.specs.Words.{Shape}
use Rattle.model.specs.Tree.{Limit, Level}
use Rattle.model.specs.Reading.{entries, occ, nodes}
use Rattle.model.specs.Cut.{Rest, gone, stays, if_gone, cut_pairs, trim, cut, went}
use Rattle.model.proofs.Frame.{occ-append}
use Rattle.law_formed.specs.Well.{Well}
use Rattle.law_formed.proofs.Clean.{well-sound}
use Rattle.law_prune.specs.Cutting.{tree_entries, below_root, tree_nodes, gone_nodes, collapse, copied_nodes, drop_to, Lands}
use Rattle.law_prune.proofs.Rests.{up_to, cut-number}
use Rattle.law_prune.proofs.Went.{of_rest, rest-nodes}
use Rattle.law_prune.proofs.Stay.{CutTo, rest-entries}
use Rattle.law_prune.proofs.CutWell.{RestFits, rest-well}
use Rattle.law_prune.proofs.Collapse.{collapse-entries, collapse-nodes, collapse-number, collapse-well}

-- Lists turned round
pub occ-reverse : (m : ℕ) (l : List ℕ) → occ m (reverse l) ≡ occ m l
occ-reverse m [] = refl
occ-reverse m (n ∷ l) =
    ap (occ m) (reverse-cons n l) ∙ omega (arith, occ-append m (reverse l) (n ∷ []), occ-append m (n ∷ []) l, occ-reverse m l)

pub length-reverse : (l : List ℕ) → length (reverse l) ≡ length l
length-reverse [] = refl
length-reverse (n ∷ l) = ap length (reverse-cons n l) ∙ omega (arith, length-append (reverse l) (n ∷ []), length-reverse l)

module _ (C : Shape) (P h e : ℕ) (t : Level (suc h)) (r : ℕ) (b : Limit) (well : Well C P (suc h) t r b) (below : r < e)
    (lands : Lands e (drop_to e (entries (suc h) t r b))) where
  -- what is tested at the root
  pub root-rest : trim e t (cut_pairs e (cut h e) t.pairs) ≡ cut (suc h) e t r
  unfolding cut
  root-rest = rw (lt-ltb r e below)

  root-went : went (suc h) e t r ≡ gone_nodes h e t ++ if_gone (cut (suc h) e t r) (t.number ∷ []) []
  unfolding went cut
  root-went = rw (lt-ltb r e below)

  -- nothing stays
  module _ (all : cut (suc h) e t r ≡ gone) where
    pub gone-entries : drop_to e (entries (suc h) t r b) ≡ []
    unfolding CutTo
    gone-entries =
        subst (λ (c : Rest (Level (suc h))). CutTo (entries (suc h)) e c r b (drop_to e (entries (suc h) t r b))) all
        (rest-entries C P (suc h) e t r b (well-sound C P (suc h) t r b well))

    pub gone-nodes : nodes (suc h) t ≡ gone_nodes h e t ++ (t.number ∷ [])
    unfolding of_rest if_gone
    gone-nodes = rest-nodes (suc h) e t r ∙ rw (root-went, all, append-nil)

  -- y stays
  module _ (y : Level (suc h)) (stay : cut (suc h) e t r ≡ stays y) where
    pub left-well : Well C P (suc h) y e b × (up_to e r ≡ e)
    unfolding RestFits
    left-well = subst (λ (c : Rest (Level (suc h))). RestFits (Well C P (suc h)) e c r b) stay (rest-well C P (suc h) e t r b well lands)

    pub left-nodes : nodes (suc h) t ≡ gone_nodes h e t ++ nodes (suc h) y
    unfolding of_rest if_gone
    left-nodes = rest-nodes (suc h) e t r ∙ rw (root-went, stay, append-nil)

    inside : t.number < P
    unfolding Well
    inside = ltb→lt t.number P well.0

    -- the laws
    pub cut-well : Well C P (suc (collapse t.number h y).0) (collapse t.number h y).1 e b
    cut-well = collapse-well C P t.number inside h y e b left-well.0

    pub cut-entries : tree_entries (collapse t.number h y) e b ≡ drop_to e (entries (suc h) t r b)
    unfolding CutTo
    cut-entries =
        collapse-entries t.number h y e (up_to e r) b
        ∙ (subst (λ (c : Rest (Level (suc h))). CutTo (entries (suc h)) e c r b (drop_to e (entries (suc h) t r b))) stay
        (rest-entries C P (suc h) e t r b (well-sound C P (suc h) t r b well))).0

    -- those gone, those that stay, those copied, and the root
    pub cut-nodes : nodes (suc h) t ≡ gone_nodes h e t ++ (below_root (collapse t.number h y) ++ (reverse (copied_nodes h y) ++ (t.number ∷ [])))
    cut-nodes = left-nodes ∙ ap (λ (l : List ℕ). gone_nodes h e t ++ l) (collapse-nodes t.number h y ∙ rw (cut-number h e t y r stay))

    new-nodes : tree_nodes (collapse t.number h y) ≡ below_root (collapse t.number h y) ++ (t.number ∷ [])
    unfolding nodes
    new-nodes = ap (λ (k : ℕ). below_root (collapse t.number h y) ++ (k ∷ [])) (collapse-number t.number h y)

    -- as multisets
    pub cut-occ : (m : ℕ) → occ m (nodes (suc h) t) ≡ occ m (gone_nodes h e t) + occ m (copied_nodes h y) + occ m (tree_nodes (collapse t.number h y))
    cut-occ m =
        let g = gone_nodes h e t in
        let f = below_root (collapse t.number h y) in
        let c = reverse (copied_nodes h y) in
        let n = t.number ∷ [] in
        omega (arith, ap (occ m) cut-nodes, ap (occ m) new-nodes, occ-append m g (f ++ (c ++ n)), occ-append m f (c ++ n), occ-append m c n, occ-append m f n, occ-reverse m (copied_nodes h y))

    pub cut-count : length (nodes (suc h) t) ≡ length (gone_nodes h e t) + length (copied_nodes h y) + length (tree_nodes (collapse t.number h y))
    cut-count =
        let g = gone_nodes h e t in
        let f = below_root (collapse t.number h y) in
        let c = reverse (copied_nodes h y) in
        let n = t.number ∷ [] in
        omega (arith, ap length cut-nodes, ap length new-nodes, length-append g (f ++ (c ++ n)), length-append f (c ++ n), length-append c n, length-append f n, length-reverse (copied_nodes h y))
