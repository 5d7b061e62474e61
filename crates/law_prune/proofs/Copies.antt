-- On a well-formed tree the check of the nodes to be copied finds them sound: they are those copied in the cut tree.
use Prim.Native.Nat.{ℕ, zero, suc}
use mathlib.Core.List.{List, [], ◌∷◌}
use mathlib.Core.Bool.{false}
use mathlib.Core.Path.{◌≡◌, refl, ap, ◌∙◌}
use native.Mathlib.Omega.{arith}
use lib.ListN.{length}
use lib.Dec.{ltb, eqb}
use borrow.Author.Tests.{ne_eqb}
use Rattle.model.specs.Words.{Shape, pick}
use Rattle.model.specs.Tree.{Node, Limit, Open, Level, next, last, sound, all_pairs}
use Rattle.model.specs.Cut.{Rest, stays, keep, cut_pairs, cut, kept}
use Rattle.model.specs.Prune.{Copies, unsound, copies, before, at_last, copies_from}
use Rattle.model.proofs.Tests.{by_test, is_true}
use Rattle.model.proofs.Sound.{Begins, begins, sound-begins}
use Rattle.law_formed.specs.Well.{Well}
use Rattle.law_prune.specs.Cutting.{only_or, copied_nodes}
use Rattle.law_prune.proofs.Rests.{up_to, by_rest, stays-is, trim-is, cut-number}

-- the last pair, of which alone something stays
pub record Lone {K : Type 0} (Q : K → ℕ → Limit → Type 0) (f : K → ℕ → Rest K) (ps : List (ℕ × K)) (b : Limit) (y : K) : Type 0 where
  pub what : K
  pub low : ℕ
  pub is : f what low ≡ stays y
  pub holds : Q what low b
  pub at : (g : K → ℕ → Copies) (z : Copies) → at_last g z ps ≡ g what low

module _ {K : Type 0} (e : ℕ) (Q : K → ℕ → Limit → Type 0) (f : K → ℕ → Rest K) (b : Limit) (s : ℕ) (y : K) where
  nothing-kept : (k : ℕ × K) (ps : List (ℕ × K)) (t : ℕ) (x : K) → (t, x) ∷ ps ≡ (s, y) ∷ [] → (ps ≡ []) × (x ≡ y)
  nothing-kept k ps t x p = let q : ◌≡◌ {A = ℕ × K} (t, x) (s, y) = cc in (cc, ap (λ (v : ℕ × K). v.1) q)

  pub lone : (k : ℕ × K) (ps : List (ℕ × K)) → all_pairs Q (k ∷ ps) b → cut_pairs e f (k ∷ ps) ≡ (s, y) ∷ [] → Lone Q f (k ∷ ps) b y
  unfolding cut_pairs keep all_pairs next at_last
  lone k [] a p =
      by_rest (f k.1 k.0)
      (λ g. let z : [] ≡ (s, y) ∷ [] = rw g at p in let n : ◌≡◌ {A = ℕ} 0 1 = cc in absurd (omega arith))
      (λ x g. let q = nothing-kept k [] (up_to e k.0) x (rw g at p) in
      record { what = k.1; low = k.0; is = g ∙ ap stays q.1; holds = a.0; at = λ h z. refl })
  lone k (k₂ ∷ ps) a p =
      by_rest (f k.1 k.0)
      (λ g. let r = lone k₂ ps a.1 (rw g at p) in record { what = r.what; low = r.low; is = r.is; holds = r.holds; at = λ h z. r.at h z })
      (λ x g. let q = nothing-kept k (k₂ ∷ ps) (up_to e k.0) x (rw g at p) in let n : ◌≡◌ {A = ℕ} 0 1 = cc in absurd (omega arith))

module _ (C : Shape) (P e : ℕ) where
  -- what 01 says of pair (s, x) of t, whose child is to be copied
  abbrev admit : (h : ℕ) → Level (suc (suc h)) → Level (suc h) → ℕ → Copies
  admit h t x s =
      pick (ltb x.number P) (pick (sound C h x s Open) (before x.number (copies_from C P h e x s)) (unsound x.number)) (unsound t.number)

  -- what the check does with the last pair of t, of which y stays
  one-copy : (h : ℕ) (t : Level (suc (suc h))) (x y : Level (suc h)) (s : ℕ) → Well C P (suc h) x s Open → cut (suc h) e x s ≡ stays y → copies_from C P h e x s ≡ copies (copied_nodes h y)
      → admit h t x s ≡ copies (y.number ∷ copied_nodes h y)
  unfolding Well before
  one-copy h t x y s g p q = rw (is_true (ltb x.number P) g.0, is_true (sound C h x s Open) g.1, q, cut-number h e x y s p)

  unfoldable pub CopiesLaw : ℕ → Type 0
  CopiesLaw h = (t y : Level (suc h)) (r : ℕ) → Well C P (suc h) t r Open → cut (suc h) e t r ≡ stays y → copies_from C P h e t r ≡ copies (copied_nodes h y)

  -- a node that loses entries, ps being left
  cut_case : (h : ℕ) → CopiesLaw h → (t : Level (suc (suc h))) (k : ℕ × Level (suc h)) (us ps : List (ℕ × Level (suc h))) → all_pairs (Well C P (suc h)) (k ∷ us) Open
      → cut_pairs e (cut (suc h) e) (k ∷ us) ≡ ps
      → pick (eqb (length ps) 1) (at_last (admit h t) (copies []) (k ∷ us)) (copies [])
      ≡ copies (only_or (λ (x : Level (suc h)). x.number ∷ copied_nodes h x) [] ps)
  unfolding only_or CopiesLaw
  cut_case h law t k us [] a p = refl
  cut_case h law t k us (j ∷ []) a p =
      let l = lone e (Well C P (suc h)) (cut (suc h) e) Open j.0 j.1 k us a p in
      l.at (admit h t) (copies [])
      ∙ one-copy h t l.what j.1 l.low l.holds l.is (law l.what j.1 l.low l.holds l.is)
  cut_case h law t k us (j ∷ j₂ ∷ ps) a p = rw (ne_eqb (suc (suc (length ps))) 1 (λ q. absurd (omega arith)))

  -- a node that loses none
  uncut_case : (h : ℕ) → CopiesLaw h → (t : Level (suc (suc h))) (r : ℕ) (us : List (ℕ × Level (suc h))) → ltb r e ≡ false → Begins r us → all_pairs (Well C P (suc h)) us Open
      → pick (eqb (length us) 1) (at_last (admit h t) (copies []) us) (copies [])
      ≡ copies (only_or (λ (x : Level (suc h)). x.number ∷ copied_nodes h x) [] us)
  unfolding only_or CopiesLaw at_last all_pairs next cut
  uncut_case h law t r _ u (begins x []) a = let c : cut (suc h) e x r ≡ stays x = rw u in one-copy h t x x r a.0 c (law x x r a.0 c)
  uncut_case h law t r _ u (begins x (k ∷ ps)) a = rw (ne_eqb (suc (suc (length ps))) 1 (λ q. absurd (omega arith)))

  cut-begins : (h : ℕ) → CopiesLaw h → (t : Level (suc (suc h))) (r : ℕ) (us : List (ℕ × Level (suc h))) → Begins r us → all_pairs (Well C P (suc h)) us Open
      → pick (eqb (length (cut_pairs e (cut (suc h) e) us)) 1) (at_last (admit h t) (copies []) us) (copies [])
      ≡ copies (only_or (λ (x : Level (suc h)). x.number ∷ copied_nodes h x) [] (cut_pairs e (cut (suc h) e) us))
  cut-begins h law t r _ (begins x us) a = cut_case h law t (r, x) us (cut_pairs e (cut (suc h) e) ((r, x) ∷ us)) a refl

  -- the law
  pub copies-sound : (h : ℕ) → CopiesLaw h
  unfolding CopiesLaw copies_from copied_nodes cut kept Well last
  copies-sound zero t y r g = λ p. refl
  copies-sound (suc h) t y r g =
      by_test (ltb r e)
      (λ u. rw u (λ p. rw (← ap (λ (v : Node (Level (suc h))). v.pairs) (trim-is e t y (cut_pairs e (cut (suc h) e) t.pairs) p))
      (cut-begins h (copies-sound h) t r t.pairs (sound-begins C (suc h) t r Open g.1) g.3)))
      (λ u. rw u (λ p. rw (← ap (λ (v : Node (Level (suc h))). v.pairs) (stays-is t y p)) (uncut_case h (copies-sound h) t r t.pairs u (sound-begins C (suc h) t r Open g.1) g.3)))
