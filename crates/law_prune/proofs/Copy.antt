-- Copying down the only children makes the collapsed tree.
use Prim.Native.Nat.{ℕ, zero, suc, ◌+◌, ◌<◌, ◌≤◌}
use mathlib.Core.List.{List, [], ◌∷◌, append-nil}
use mathlib.Core.Path.{◌≡◌, refl, sym, ◌∙◌, subst}
use mathlib.Core.Logic.{◌≢◌}
use native.Mathlib.Omega.{arith}
use Rattle.model.specs.Words.{Shape, word, part, count, child, row_place, child_place, node_size, copied, Header}
use Rattle.model.specs.Tree.{Open, Level, pairs_from, level}
use Rattle.model.specs.Reading.{occ, in_pairs, nodes}
use Rattle.model.specs.Prune.{copy_all}
use Rattle.model.proofs.Words.{header_at}
use Rattle.model.proofs.Frame.{Same, Narrow, kept, occ-append, occ_self, length_pairs, occ-child, all-child, nodes_self}
use Rattle.model.proofs.Writes.{pairs-same, copied-length, copied-word, copied-keeps, copied-part}
use Rattle.law_prune.specs.Cutting.{Tree, named, only_or, collapse, copied_nodes}

module _ (C : Shape) (P a b : ℕ) (inside : b < P) (apart : a ≢ b) (w : List ℕ) (hd : Header C.cap P w) where
  pub copied-header : Header C.cap P (copied C w a b)
  copied-header = header_at C.cap P w (copied C w a b) hd (copied-length C a b w)

  pub copied-level : (h : ℕ) → Narrow C (suc h) (level C w (suc h) a) → occ b (nodes (suc h) (level C w (suc h) a)) ≡ 0 → level C (copied C w a b) (suc h) b ≡ named b (level C w (suc h) a)
  unfolding level Narrow
  copied-level h nar z =
      let few : count C w a ≤ C.cap = omega (arith, nar.0, length_pairs C w (level C w h) a 0 (count C w a)) in
      let v = copied C w a b in
      let p : (i : ℕ) → i < node_size C.cap → part C v b i ≡ part C w a i = λ i l. copied-part C a b w P hd apart inside i l in
      rw (
        p 0 (omega arith),
        p 1 (omega arith),
        p 2 (omega arith),
        p 3 (omega arith),
        ← pairs-same C w v (level C w h) (level C v h) a b 0 (count C w a)
            (λ j l u. (
              sym (p (row_place j) (omega arith)),
              sym (p (child_place j) (omega arith)),
              kept C w v h (child C w a j) (all-child C w (level C w h) a (λ x r c. Narrow C h x) 0 (count C w a) Open nar.1 j (omega arith) (omega arith)).1
                  (λ m q. copied-keeps C a b w m (λ e. absurd (omega (arith, z, nodes_self C w h a b, occ-child C w (level C w h) a (nodes h) b 0 (count C w a) j (omega arith) (omega arith), subst (λ (k : ℕ). 0 < occ k (nodes h (level C w h (child C w a j)))) e q)))),
            )),
      )

-- only what stands below a node matters
copied_nodes-named : (h n : ℕ) (x : Level (suc h)) → copied_nodes h (named n x) ≡ copied_nodes h x
unfolding copied_nodes
copied_nodes-named zero n x = refl
copied_nodes-named (suc h) n x = refl

collapse-named : (h n m : ℕ) (x : Level (suc h)) → collapse n h (named m x) ≡ collapse n h x
unfolding collapse
collapse-named zero n m x = refl
collapse-named (suc h) n m x = refl

narrow-named : (C : Shape) (h n : ℕ) (x : Level (suc h)) → Narrow C (suc h) x → Narrow C (suc h) (named n x)
unfolding Narrow
narrow-named C h n x a = a

by_count : {A : Type 0} (c : ℕ) → (c ≡ 0 → A) → (c ≡ 1 → A) → ((k : ℕ) → c ≡ suc (suc k) → A) → A
by_count zero f g k = f refl
by_count (suc zero) f g k = g refl
by_count (suc (suc c)) f g k = k c refl

pub record Collapsed (C : Shape) (P n : ℕ) (v v₂ : List ℕ) (t : Tree) : Type 0 where
  pub tree : level C v₂ (suc t.0) n ≡ t.1
  pub header : Header C.cap P v₂
  pub beside : (m : ℕ) → m ≢ n → Same C v v₂ m

module _ (C : Shape) (P n : ℕ) (inside : n < P) where
  unfoldable pub CopyLaw : ℕ → Type 0
  CopyLaw h = (v : List ℕ) → Header C.cap P v → (t : Level (suc h)) → level C v (suc h) n ≡ t → Narrow C (suc h) t → ((m : ℕ) → occ m (nodes (suc h) t) ≤ 1)
      → Collapsed C P n v (copy_all C v n (copied_nodes h t)) (collapse n h t)

  stay : (h : ℕ) (v : List ℕ) → Header C.cap P v → Collapsed C P n v v (h, named n (level C v (suc h) n))
  unfolding level
  stay h v hd = record { tree = refl; header = hd; beside = λ m d i q. refl }

  -- the only child of n is copied into it
  module _ (h : ℕ) (law : CopyLaw h) (v : List ℕ) (hd : Header C.cap P v) (nar : Narrow C (suc (suc h)) (level C v (suc (suc h)) n))
      (one : (m : ℕ) → occ m (nodes (suc (suc h)) (level C v (suc (suc h)) n)) ≤ 1) (single : count C v n ≡ 1) where
    k : ℕ
    k = child C v n 0

    x : Level (suc h)
    x = level C v (suc h) k

    parts : (m : ℕ) → occ m (nodes (suc (suc h)) (level C v (suc (suc h)) n)) ≡ occ m (nodes (suc h) x) + occ m (n ∷ [])
    unfolding x k in_pairs pairs_from
    parts m = nodes_self C v (suc h) n m ∙ rw (single, append-nil)

    nar_x : Narrow C (suc h) x
    unfolding x k Narrow level
    nar_x = (all-child C v (level C v (suc h)) n (λ y r c. Narrow C (suc h) y) 0 (count C v n) Open nar.1 0 (omega arith) (omega arith)).1

    occ-x : (m : ℕ) → occ m (nodes (suc h) x) ≡ occ m (in_pairs (nodes h) x.pairs) + occ m (k ∷ [])
    unfolding x nodes level
    occ-x m = occ-append m (in_pairs (nodes h) x.pairs) (k ∷ [])

    occ-named : (m : ℕ) → occ m (nodes (suc h) (named n x)) ≡ occ m (in_pairs (nodes h) x.pairs) + occ m (n ∷ [])
    unfolding nodes
    occ-named m = occ-append m (in_pairs (nodes h) x.pairs) (n ∷ [])

    apart : k ≢ n
    apart q = absurd (omega (arith, one n, parts n, occ-x n, occ_self n, subst (λ (i : ℕ). occ n (i ∷ []) ≡ 1) (sym q) (occ_self n)))

    v₁ : List ℕ
    v₁ = copied C v k n

    down : Collapsed C P n v₁ (copy_all C v₁ n (copied_nodes h (named n x))) (collapse n h (named n x))
    unfolding v₁ x CopyLaw
    down =
        law (copied C v k n) (copied-header C P k n inside apart v hd) (named n x)
        (copied-level C P k n inside apart v hd h nar_x (omega (arith, one n, parts n, occ_self n))) (narrow-named C h n x nar_x)
        (λ m. omega (arith, one m, parts m, occ-x m, occ-named m))

    only_child : {A : Type 0} (f : Level (suc h) → A) (z : A) → only_or f z (pairs_from C v (level C v (suc h)) n 0 (count C v n)) ≡ f x
    unfolding only_or pairs_from x k
    only_child f z = rw single

    copy_case : Collapsed C P n v (copy_all C v n (copied_nodes (suc h) (level C v (suc (suc h)) n))) (collapse n (suc h) (level C v (suc (suc h)) n))
    unfolding copied_nodes collapse level copy_all v₁ x
    copy_case =
        let d = rw (copied_nodes-named h n x, collapse-named h n n x) at down in
        rw (only_child (λ (y : Level (suc h)). y.number ∷ copied_nodes h y) [], only_child (collapse n h) (suc h, named n (level C v (suc (suc h)) n)))
        (record { tree = d.tree; header = d.header; beside = λ m e i q. copied-keeps C k n v m e i q ∙ d.beside m e i q })

  not-only : (h : ℕ) (v : List ℕ) {A : Type 0} (f : Level (suc h) → A) (z : A) (c : ℕ) → (c ≡ 1 → ⊥) → only_or f z (pairs_from C v (level C v (suc h)) n 0 c) ≡ z
  unfolding only_or pairs_from
  not-only h v f z zero d = refl
  not-only h v f z (suc zero) d = absurd (d refl)
  not-only h v f z (suc (suc c)) d = refl

  stay_case : (h : ℕ) (v : List ℕ) → Header C.cap P v → (count C v n ≡ 1 → ⊥)
      → Collapsed C P n v (copy_all C v n (copied_nodes (suc h) (level C v (suc (suc h)) n))) (collapse n (suc h) (level C v (suc (suc h)) n))
  unfolding copied_nodes collapse level copy_all
  stay_case h v hd d =
      rw (not-only h v (λ (y : Level (suc h)). y.number ∷ copied_nodes h y) [] (count C v n) d, not-only h v (collapse n h) (suc h, named n (level C v (suc (suc h)) n)) (count C v n) d)
      (stay (suc h) v hd)

  -- the law
  pub copy-all : (h : ℕ) → CopyLaw h
  unfolding CopyLaw copied_nodes collapse copy_all
  copy-all zero v hd t p nar one = subst (λ (y : Level 1). Collapsed C P n v v (zero, named n y)) p (stay 0 v hd)
  copy-all (suc h) v hd t p nar one =
      subst (λ (y : Level (suc (suc h))). Narrow C (suc (suc h)) y → ((m : ℕ) → occ m (nodes (suc (suc h)) y) ≤ 1) → Collapsed C P n v (copy_all C v n (copied_nodes (suc h) y)) (collapse n (suc h) y)) p
      (λ a o. by_count (count C v n)
      (λ e. stay_case h v hd (λ e₂. absurd (omega arith)))
      (λ e. copy_case h (copy-all h) v hd a o e)
      (λ k e. stay_case h v hd (λ e₂. absurd (omega arith))))
      nar one

pub copies-word : (C : Shape) (w : List ℕ) (n : ℕ) (ns : List ℕ) (i : ℕ) → i < 8 → word (copy_all C w n ns) i ≡ word w i
unfolding copy_all
copies-word C w n [] i l = refl
copies-word C w n (m ∷ ns) i l = copies-word C (copied C w m n) n ns i l ∙ copied-word C m n w i l
