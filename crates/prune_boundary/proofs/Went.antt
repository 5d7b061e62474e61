-- The nodes that go: how they grow as a reading goes on, and that they come first in postorder.
use Prim.Native.Nat.{ℕ, zero, suc, ◌+◌, ◌-◌, ◌<◌, ◌≤◌}
use mathlib.Core.List.{List, [], ◌∷◌, ◌++◌, append-nil, append_assoc}
use mathlib.Core.Path.{◌≡◌, refl, sym, ap, ◌∙◌}
use mathlib.Core.Logic.{◌⊎◌, inl, inr, ⊎_elim}
use native.Mathlib.Omega.{arith}
use native.Mathlib.Nat.{zero-add}
use lib.ListN.{length, take}
use Rattle.model.specs.Words.{Shape, height, count, row, child}
use Rattle.model.specs.Tree.{pairs_from, level}
use Rattle.model.specs.Reading.{in_pairs, nodes, root_nodes}
use Rattle.model.specs.Paths.{stack, last_of, above, rooted, popped, entered_path}
use Rattle.model.specs.declared.path.Position.{Position}
use Rattle.model.specs.declared.path.Path.{Path}
use Rattle.model.proofs.Paths.{stack_pop}
use Rattle.model.proofs.Writes.{pairs_snoc}
use Rattle.tree_turn.proofs.InPlace.{entered-under, entered-last}
use Rattle.prune_boundary.specs.Behind.{Passed, Above, Behind}
use Rattle.prune_boundary.specs.Edge.{first_pairs, first_nodes, went_of, trims_up, trims_on}
use Rattle.prune_boundary.proofs.Behind.{tall}
use Rattle.prune_boundary.proofs.Goes.{pairs-split}

-- Lists ----------------------------------------------------------------------------------------------------

in_append : {K : Type 0} (f : K → List ℕ) (ps qs : List (ℕ × K)) → in_pairs f (ps ++ qs) ≡ in_pairs f ps ++ in_pairs f qs
unfolding in_pairs
in_append f [] qs = refl
in_append f (p ∷ ps) qs = ap (λ (l : List ℕ). f p.1 ++ l) (in_append f ps qs) ∙ sym (append_assoc (f p.1) (in_pairs f ps) (in_pairs f qs))

trims-split : (up : List Position) (T : List (ℕ × ℕ)) → trims_up up T ≡ trims_up up [] ++ T
unfolding trims_up
trims-split [] T = refl
trims-split (q ∷ up) T =
    let t : ℕ × ℕ = (q.node.0, q.index - 1) in
    trims-split up (t ∷ T) ∙ sym (append_assoc (trims_up up []) (t ∷ []) T) ∙ ap (λ (ts : List (ℕ × ℕ)). ts ++ T) (sym (trims-split up (t ∷ [])))

take-front : (a b : List ℕ) → take (length a) (a ++ b) ≡ a
take-front [] b = refl
take-front (x ∷ a) b = ap (λ (l : List ℕ). x ∷ l) (take-front a b)

module _ (C : Shape) (P : ℕ) (w : List ℕ) where
  went-split : (a b : List (ℕ × ℕ)) → went_of C w (a ++ b) ≡ went_of C w a ++ went_of C w b
  unfolding went_of
  went-split [] b = refl
  went-split (t ∷ a) b =
      ap (λ (l : List ℕ). first_nodes C w (height C w t.0) t.0 t.1 ++ l) (went-split a b) ∙ sym (append_assoc (first_nodes C w (height C w t.0) t.0 t.1) (went_of C w a) (went_of C w b))

  went_up : (up : List Position) (T : List (ℕ × ℕ)) → went_of C w (trims_up up T) ≡ went_of C w (trims_up up []) ++ went_of C w T
  went_up up T = ap (went_of C w) (trims-split up T) ∙ went-split (trims_up up []) T

  -- The first nodes of a node --------------------------------------------------------------------------------
  first-none : (h n : ℕ) → first_nodes C w h n 0 ≡ []
  unfolding pairs_from in_pairs
  first-none h n = refl

  -- pages are no nodes
  first_leaf : (h n i k : ℕ) → h ≡ 0 → in_pairs (nodes h) (pairs_from C w (level C w h) n i k) ≡ []
  unfolding pairs_from in_pairs nodes
  first_leaf zero n i zero z = refl
  first_leaf zero n i (suc k) z = first_leaf zero n (i + 1) k z
  first_leaf (suc h) n i k z = absurd (omega arith)

  first_more : (h n k : ℕ) → first_nodes C w h n (suc k) ≡ first_nodes C w h n k ++ nodes h (level C w h (child C w n k))
  unfolding in_pairs
  first_more h n k = rw (pairs_snoc C w (level C w h) n 0 k, zero-add k, in_append (nodes h) (first_pairs C w h n k) ((row C w n k, level C w h (child C w n k)) ∷ []), append-nil (nodes h (level C w h (child C w n k))))

  all-nodes : (h n : ℕ) → nodes (suc h) (level C w (suc h) n) ≡ first_nodes C w h n (count C w n) ++ (n ∷ [])
  unfolding nodes level
  all-nodes h n = refl

  -- A turn of the reading ------------------------------------------------------------------------------------

  -- a child is entered: nothing more goes
  pub went_in : (up : List Position) (n i c : ℕ) → went_of C w (trims_up up ((n, i) ∷ (c, 0) ∷ [])) ≡ went_of C w (trims_up up ((n, i) ∷ []))
  unfolding went_of
  went_in up n i c =
      went_up up ((n, i) ∷ (c, 0) ∷ []) ∙ ap (λ (l : List ℕ). went_of C w (trims_up up []) ++ (first_nodes C w (height C w n) n i ++ (l ++ []))) (first-none (height C w c) c) ∙ sym (went_up up ((n, i) ∷ []))

  -- the entries of a leaf lead to no nodes
  pub went-leaf : (up : List Position) (n i k : ℕ) → height C w n ≡ 0 → went_of C w (trims_up up ((n, i) ∷ [])) ≡ went_of C w (trims_up up ((n, k) ∷ []))
  unfolding went_of
  went-leaf up n i k z = went_up up ((n, i) ∷ []) ∙ ap (λ (l : List ℕ). went_of C w (trims_up up []) ++ (l ++ [])) (first_leaf (height C w n) n 0 i z ∙ sym (first_leaf (height C w n) n 0 k z)) ∙ sym (went_up up ((n, k) ∷ []))

  -- a node is left, with what lies below it: it is the last that goes
  pub went-out : (root h n k : ℕ) (q : Position) (up : List Position) → Passed C P w h n (q ∷ up) → Above C P w root h n (q ∷ up) → (h ≡ 0) ⊎ (k ≡ count C w n)
      → went_of C w (trims_up up ((q.node.0, q.index) ∷ [])) ≡ went_of C w (trims_up (q ∷ up) ((n, k) ∷ [])) ++ (n ∷ [])
  unfolding went_of trims_up Above
  went-out root h n k q up p a o =
      let m = q.node.0 in
      let j = q.index - 1 in
      let own : first_nodes C w h n (count C w n) ≡ first_nodes C w h n k =
      ⊎_elim (λ (z : h ≡ 0). first_leaf h n 0 (count C w n) z ∙ sym (first_leaf h n 0 k z)) (λ (z : k ≡ count C w n). ap (first_nodes C w h n) (sym z)) o in
      let kid : nodes (suc h) (level C w (suc h) (child C w m j)) ≡ first_nodes C w h n k ++ (n ∷ []) = rw (← a.leads) (all-nodes h n ∙ rw own) in
      let y : q.index ≡ suc j = omega (arith, a.some) in
      let after : first_nodes C w (suc h) m q.index ≡ first_nodes C w (suc h) m j ++ (first_nodes C w h n k ++ (n ∷ [])) = ap (first_nodes C w (suc h) m) y ∙ first_more (suc h) m j ∙ rw kid in
      rw (went_up up ((m, q.index) ∷ []), went_up up ((m, j) ∷ (n, k) ∷ []), tall C P w (suc h) m up a.passed, tall C P w h n (q ∷ up) p, after) (simp (append_assoc, append-nil))

  -- The same on a path ------------------------------------------------------------------------------------
  pub went-rooted : (n : ℕ) → [] ≡ went_of C w (trims_on (rooted n))
  unfolding stack trims_up went_of
  went-rooted n = sym (append-nil (first_nodes C w (height C w n) n 0) ∙ first-none (height C w n) n)

  module _ (p : Path) (z : 0 < p.depth) where
    pub went-entered : length p.positions ≡ 32 → p.depth < 32 → (c : ℕ) → went_of C w (trims_on p) ≡ went_of C w (trims_on (entered_path p c))
    unfolding trims_up
    went-entered l d c =
        let y : p.depth + 1 - 1 ≡ p.depth = omega arith in
        let i : (last_of p).index + 1 - 1 ≡ (last_of p).index = omega arith in
        rw (y, entered-under p z l c (omega arith), entered-last p z l c d)
        (sym (ap (λ (j : ℕ). went_of C w (trims_up (above p) (((last_of p).node.0, j) ∷ (c, 0) ∷ []))) i ∙ went_in (above p) (last_of p).node.0 (last_of p).index c))

    pub went-popped : (root : ℕ) → Behind C P w root (height C w (last_of p).node.0) (last_of p ∷ above p) → 1 < p.depth → (height C w (last_of p).node.0 ≡ 0) ⊎ (count C w (last_of p).node.0 ≤ (last_of p).index)
        → went_of C w (trims_on (popped p)) ≡ went_of C w (trims_on p) ++ ((last_of p).node.0 ∷ [])
    unfolding Behind
    went-popped root b₀ l o =
        let n = (last_of p).node.0 in
        let over : above p ≡ last_of (popped p) ∷ above (popped p) = stack_pop p.positions (p.depth - 1) (omega arith) in
        let b = rw over at b₀ in
        rw over (went-out root (height C w n) n (last_of p).index (last_of (popped p)) (above (popped p)) b.passed b.above (⊎_elim (λ (e : height C w n ≡ 0). inl e) (λ (m : count C w n ≤ (last_of p).index). inr (omega (arith, b.within))) o))

  -- The order ----------------------------------------------------------------------------------------------

  -- the nodes of the tree begin with the first nodes of n
  first_of : (h n k : ℕ) → k ≤ count C w n → (more : List ℕ) × (nodes (suc h) (level C w (suc h) n) ≡ first_nodes C w h n k ++ more)
  first_of h n k l =
      let z : count C w n ≡ k + (count C w n - k) = omega arith in
      let qs = pairs_from C w (level C w h) n (0 + k) (count C w n - k) in
      (in_pairs (nodes h) qs ++ (n ∷ []), all-nodes h n ∙ ap (λ (c : ℕ). first_nodes C w h n c ++ (n ∷ [])) z ∙ rw (pairs-split C w (level C w h) n 0 k (count C w n - k), in_append (nodes h) (first_pairs C w h n k) qs, append_assoc))

  -- and so on up to the root
  up_to : (root h n : ℕ) (T : List (ℕ × ℕ)) (up : List Position) → Passed C P w h n up → Above C P w root h n up → (more : List ℕ) × (nodes (suc h) (level C w (suc h) n) ≡ went_of C w T ++ more)
      → (more : List ℕ) × (root_nodes C w root ≡ went_of C w (trims_up up T) ++ more)
  unfolding Above trims_up went_of
  up_to root h n T [] p a s =
      (s.0, ap (λ (x : ℕ). root_nodes C w x) (sym a) ∙ ap (λ (x : ℕ). nodes (suc x) (level C w (suc x) n)) (tall C P w h n [] p) ∙ s.1)
  up_to root h n T (q ∷ up) p a s =
      let m = q.node.0 in
      let j = q.index - 1 in
      let b = first_of (suc h) m (suc j) (omega (arith, a.some, a.within)) in
      let kid : nodes (suc h) (level C w (suc h) (child C w m j)) ≡ went_of C w T ++ s.0 = rw (← a.leads) s.1 in
      up_to root (suc h) m ((m, j) ∷ T) up a.passed a.above (s.0 ++ b.0, b.1 ∙ rw (first_more (suc h) m j, kid, tall C P w (suc h) m up a.passed) (simp append_assoc))

  -- the law: the nodes that go are the first in postorder
  pub went-first : (root h n k : ℕ) (up : List Position) → Passed C P w h n up → Above C P w root h n up → k ≤ count C w n
      → take (length (went_of C w (trims_up up ((n, k) ∷ [])))) (root_nodes C w root) ≡ went_of C w (trims_up up ((n, k) ∷ []))
  unfolding went_of
  went-first root h n k up p a l =
      let b = first_of h n k l in
      let e = up_to root h n ((n, k) ∷ []) up p a (b.0, b.1 ∙ rw (tall C P w h n up p, append-nil (first_nodes C w h n k))) in
      rw e.1 (take-front (went_of C w (trims_up up ((n, k) ∷ []))) e.0)
