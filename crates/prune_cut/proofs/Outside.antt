-- The nodes copied into the root are none of those that go.
use Prim.Native.Nat.{ℕ, zero, suc, ◌-◌, ◌≤◌}
use mathlib.Core.List.{List, [], ◌∷◌}
use mathlib.Core.Bool.{true}
use mathlib.Core.Path.{◌≡◌, refl, sym, ap, ◌∙◌, subst}
use native.Mathlib.Omega.{arith}
use lib.Dec.{ltb, eqb}
use borrow.Author.Tests.{ltb-false, eqb-true, eqb-false}
use Rattle.model.specs.Words.{Shape, count, start, end, row, child}
use Rattle.model.specs.Tree.{Open, level, end_sound, sound, node_at}
use Rattle.model.specs.Reading.{occ}
use Rattle.model.specs.Cut.{trims, kept}
use Rattle.model.specs.Prune.{Copies, unsound, copies, before, copies_from}
use Rattle.model.proofs.Tests.{by_test, holds}
use Rattle.model.proofs.Sound.{soundly, sound-at}
use Rattle.prune_collapse.proofs.Copying.{first_pair_lem, others, trims-child, many, at_leaf, one}
use Rattle.prune_boundary.specs.Trims.{Outside, Untouched}

-- what is found before a list
copies-are : (a b : List ℕ) → copies a ≡ copies b → a ≡ b
copies-are a b q = cc

not-unsound : {A : Type 0} (m : ℕ) (ns : List ℕ) → unsound m ≡ copies ns → A
not-unsound m ns q = let z : ◌≡◌ {A = ℕ} 0 1 = cc in absurd (omega arith)

by_copies : {A : Type 0} (c : Copies) (n : ℕ) (ns : List ℕ) → before n c ≡ copies ns → ((ms : List ℕ) → c ≡ copies ms → n ∷ ms ≡ ns → A) → A
unfolding before
by_copies (unsound m) n ns q f = not-unsound m ns q
by_copies (copies ms) n ns q f = f ms refl (copies-are (n ∷ ms) ns q)

untouched-others : (C : Shape) (G : List ℕ) (ts : List (ℕ × ℕ)) → Untouched G ts → Untouched G (others ts)
unfolding Untouched others
untouched-others C G [] u = tt
untouched-others C G (t ∷ ts) u = u.1

module _ (C : Shape) (P : ℕ) (w : List ℕ) (e : ℕ) (G : List ℕ) (right : (m : ℕ) → e ≤ start C w m → occ m G ≡ 0) where
  -- a node that is trimmed heads its list
  heads : (h m r : ℕ) → ltb r e ≡ true → Untouched G (trims (suc h) e (level C w (suc h) m) r) → occ m G ≡ 0
  unfolding trims Untouched level
  heads h m r t = rw t (λ u. u.0)

  begins-at : (h m r : ℕ) → sound C h (level C w (suc h) m) r Open ≡ true → start C w m ≡ r
  unfolding level
  begins-at h m r s = (soundly C h (level C w (suc h) m) r Open (holds _ s)).begin

  not-gone : (h m r : ℕ) → sound C h (level C w (suc h) m) r Open ≡ true → Untouched G (trims (suc h) e (level C w (suc h) m) r) → occ m G ≡ 0
  not-gone h m r s u = by_test (ltb r e) (λ t. heads h m r t u) (λ t. right m (omega (arith, begins-at h m r s, ltb-false r e t)))

  first-row : (h n : ℕ) → sound C h (level C w (suc h) n) (start C w n) Open ≡ true → (1 ≤ count C w n) × (row C w n 0 ≡ start C w n)
  unfolding level
  first-row h n s =
      let g = soundly C h (node_at C w n) (start C w n) Open (holds _ (sym (sound-at (level C w h) C w h n (start C w n) Open) ∙ s)) in
      first_pair_lem C w n (count C w n) (start C w n) (end_sound h Open (end C w n)) g.rise

  -- the law
  pub copies-outside : (h n : ℕ) → sound C h (level C w (suc h) n) (start C w n) Open ≡ true → Untouched G (trims (suc h) e (level C w (suc h) n) (start C w n)) → (ns : List ℕ)
      → copies_from C P h e (level C w (suc h) n) (start C w n) ≡ copies ns → Outside G ns
  unfolding Outside
  copies-outside zero n s u ns q = subst (Outside G) (copies-are [] ns (sym (at_leaf C P w e n) ∙ q)) tt
  copies-outside (suc h) n s u ns q =
      let c = count C w n - 1 in
      let kid = child C w n c in
      let r = row C w n c in
      by_test (eqb (kept (suc h) e (level C w (suc (suc h)) n) (start C w n)) 1)
      (λ k. let k₁ = eqb-true (kept (suc h) e (level C w (suc (suc h)) n) (start C w n)) 1 k in
      let f = first-row (suc h) n s in
      let z : count C w n ≡ suc c = omega (arith, f.0) in
      let q₂ = sym (one C P w e h n c z k₁) ∙ q in
      let u₂ = subst (Untouched G) (trims-child C P w e h n c z f.1 k₁) (untouched-others C G (trims (suc (suc h)) e (level C w (suc (suc h)) n) (start C w n)) u) in
      by_test (ltb kid P)
      (λ i. by_test (sound C h (level C w (suc h) kid) r Open)
      (λ g. by_copies (copies_from C P h e (level C w (suc h) kid) r) kid ns (rw (i, g) at q₂)
      (λ ms x y. let b = begins-at h kid r g in
      subst (Outside G) y (
        not-gone h kid r g u₂,
        copies-outside h kid (subst (λ (v : ℕ). sound C h (level C w (suc h) kid) v Open ≡ true) (sym b) g) (subst (λ (v : ℕ). Untouched G (trims (suc h) e (level C w (suc h) kid) v)) (sym b) u₂) ms
            (ap (copies_from C P h e (level C w (suc h) kid)) b ∙ x),
      )))
      (λ g. not-unsound kid ns (rw (i, g) at q₂)))
      (λ i. not-unsound n ns (rw i at q₂)))
      (λ k. subst (Outside G) (copies-are [] ns (sym (many C P w e h n (eqb-false (kept (suc h) e (level C w (suc (suc h)) n) (start C w n)) 1 k)) ∙ q)) tt)
