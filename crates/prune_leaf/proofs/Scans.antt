-- The check of the list, one entry and one visit at a time. A check that was refused, or has used the list, stays so.
use Prim.Native.Nat.{ℕ, zero, suc, ◌+◌, ◌-◌, ◌<◌, ◌≤◌}
use mathlib.Core.List.{List, [], ◌∷◌}
use mathlib.Core.Bool.{Bool, true, false}
use mathlib.Core.Path.{◌≡◌, refl, sym, ap, ◌∙◌}
use native.Mathlib.Omega.{arith}
use native.Mathlib.Numerals.{add-one}
use native.Mathlib.Nat.{eq-or-lt_of_le, sub-zero, zero-add}
use mathlib.Core.Logic.{⊎_elim}
use lib.ListN.{get_or, length, drop, drop_of_length-le}
use lib.Seq.{drop-cons}
use lib.Dec.{eqb, leb}
use borrow.Author.Tests.{eq-eqb, ne_eqb, le-leb, lt-leb, eqb-true}
use Rattle.model.specs.Words.{Shape, pick, height, count, child}
use Rattle.model.specs.Reading.{Visit, Enter, Leave, Bad}
use Rattle.model.proofs.Tests.{by_test}
use Rattle.prune_leaf.specs.Progress.{Last}
use Rattle.model.specs.Prune.{Scan, stopped, on, entry_end, against, scan_leaf, spoilt, scan, ran_out}

pick_same : {A : Type 0} (t : Bool) (a b : A) → a ≡ b → pick t a b ≡ b
pick_same true a b p = p
pick_same false a b p = refl

-- the ids left at a place
module _ (ids : List ℕ) (p : ℕ) where
  pub none_left : length ids ≤ p → drop p ids ≡ []
  none_left l = drop_of_length-le ids l

  pub one_left : p < length ids → drop p ids ≡ get_or ids p 0 ∷ drop (p + 1) ids
  one_left l = drop-cons ids p 0 l ∙ ap (λ (k : ℕ). get_or ids p 0 ∷ drop k ids) (sym (add-one p))

module _ (C : Shape) (w : List ℕ) (e : ℕ) where
  pub leaf-stopped : (n i k a d : ℕ) → scan_leaf C w e n i k (stopped a d) ≡ stopped a d
  unfolding scan_leaf against
  leaf-stopped n i zero a d = refl
  leaf-stopped n i (suc k) a d = leaf-stopped n (i + 1) k a d

  pub leaf-used : (n i k p c : ℕ) → scan_leaf C w e n i k (on [] p c) ≡ on [] p c
  unfolding scan_leaf against
  leaf-used n i zero p c = refl
  leaf-used n i (suc k) p c = leaf-used n (i + 1) k p c

  pub scan-stopped : (vs : List Visit) (a d : ℕ) → scan C w e vs (stopped a d) ≡ stopped a d
  unfolding scan spoilt
  scan-stopped [] a d = refl
  scan-stopped (Enter n ∷ vs) a d = ap (scan C w e vs) (pick_same (eqb (height C w n) 0) (scan_leaf C w e n 0 (count C w n) (stopped a d)) (stopped a d) (leaf-stopped n 0 (count C w n) a d)) ∙ scan-stopped vs a d
  scan-stopped (Leave n ∷ vs) a d = scan-stopped vs a d
  scan-stopped (Bad n ∷ vs) a d = scan-stopped vs a d

  pub scan-used : (vs : List Visit) (p c : ℕ) → scan C w e vs (on [] p c) ≡ on [] p c
  unfolding scan spoilt
  scan-used [] p c = refl
  scan-used (Enter n ∷ vs) p c = ap (scan C w e vs) (pick_same (eqb (height C w n) 0) (scan_leaf C w e n 0 (count C w n) (on [] p c)) (on [] p c) (leaf-used n 0 (count C w n) p c)) ∙ scan-used vs p c
  scan-used (Leave n ∷ vs) p c = scan-used vs p c
  scan-used (Bad n ∷ vs) p c = scan-used vs p c

  -- entry i of k entries of leaf n against the id at place p
  module _ (ids : List ℕ) (n i k p c : ℕ) where
    pub turn-used : length ids ≤ p → scan_leaf C w e n i k (on (drop p ids) p c) ≡ on (drop p ids) p c
    turn-used l = rw (none_left ids p l) (leaf-used n i k p c)

    module _ (l : i < k) (m : p < length ids) where
      one-turn : scan_leaf C w e n i (k - i) (on (drop p ids) p c)
          ≡ scan_leaf C w e n (i + 1) (k - (i + 1)) (against e (child C w n i) (entry_end C w n i) (on (get_or ids p 0 ∷ drop (p + 1) ids) p c))
      unfolding scan_leaf
      one-turn = let z : k - i ≡ suc (k - (i + 1)) = omega arith in rw (z, one_left ids p m)

      pub turn-page : (child C w n i ≡ get_or ids p 0 → ⊥) → scan_leaf C w e n i (k - i) (on (drop p ids) p c) ≡ stopped 9 p
      unfolding against
      turn-page d = one-turn ∙ rw (ne_eqb (child C w n i) (get_or ids p 0) d) (leaf-stopped n (i + 1) (k - (i + 1)) 9 p)

      module _ (q : child C w n i ≡ get_or ids p 0) where
        pub turn_end : e < entry_end C w n i → scan_leaf C w e n i (k - i) (on (drop p ids) p c) ≡ stopped 10 p
        unfolding against
        turn_end h = one-turn ∙ rw (eq-eqb (child C w n i) (get_or ids p 0) q, lt-leb (entry_end C w n i) e h) (leaf-stopped n (i + 1) (k - (i + 1)) 10 p)

        pub turn_on : entry_end C w n i ≤ e
            → scan_leaf C w e n i (k - i) (on (drop p ids) p c) ≡ scan_leaf C w e n (i + 1) (k - (i + 1)) (on (drop (p + 1) ids) (p + 1) (entry_end C w n i))
        unfolding against
        turn_on h = one-turn ∙ rw (eq-eqb (child C w n i) (get_or ids p 0) q, le-leb (entry_end C w n i) e h)

  pub turns-end : (n i k : ℕ) (s : Scan) → k ≤ i → scan_leaf C w e n i (k - i) s ≡ s
  unfolding scan_leaf
  turns-end n i k s l = let z : k - i ≡ 0 = omega arith in rw z

-- What the list comes to -----------------------------------------------------------------------------------
pub ends-long : (e : ℕ) (ids : List ℕ) (p c : ℕ) → p < length ids → ran_out e (on (drop p ids) p c) ≡ stopped 11 p
unfolding ran_out
ends-long e ids p c l = rw (one_left ids p l)

-- what is said of a leaf with k entries
pub told : (C : Shape) (w : List ℕ) (e n : ℕ) (ids : List ℕ) (p c k : ℕ) → height C w n ≡ 0 → k ≡ count C w n
    → pick (eqb (height C w n) 0) (scan_leaf C w e n 0 (count C w n) (on (drop p ids) p c)) (on (drop p ids) p c) ≡ scan_leaf C w e n 0 (k - 0) (on (drop p ids) p c)
told C w e n ids p c k a d = rw (eq-eqb (height C w n) 0 a, ← d, sub-zero)

-- The last entry named ---------------------------------------------------------------------------------------
-- from place p and entry i on, k entries lead to place p₂
pub record Leafed (C : Shape) (w : List ℕ) (n i k p c p₂ c₂ : ℕ) : Type 0 where
  pub onward : p ≤ p₂
  pub most : p₂ ≤ p + k
  pub same : p ≡ p₂ → c₂ ≡ c
  pub ends : p < p₂ → c₂ ≡ entry_end C w n (i + (p₂ - p) - 1)

module _ (C : Shape) (w : List ℕ) (e n : ℕ) where
  still : (i k p c p₂ c₂ : ℕ) (ids ids₂ : List ℕ) → on ids p c ≡ on ids₂ p₂ c₂ → Leafed C w n i k p c p₂ c₂
  still i k p c p₂ c₂ ids ids₂ q =
      let a : p ≡ p₂ = cc in
      let b : c ≡ c₂ = cc in
      record { onward = omega arith; most = omega arith; same = λ z. sym b; ends = λ z. absurd (omega arith) }

  further : (i k p c p₂ c₂ : ℕ) → Leafed C w n (i + 1) k (p + 1) (entry_end C w n i) p₂ c₂ → Leafed C w n i (suc k) p c p₂ c₂
  further i k p c p₂ c₂ f =
      record {
        onward = omega (arith, f.onward);
        most = omega (arith, f.most);
        same = λ z. absurd (omega (arith, f.onward));
        ends = λ z. ⊎_elim
            (λ (y : p + 1 ≡ p₂). let x : i ≡ i + (p₂ - p) - 1 = omega arith in f.same y ∙ ap (entry_end C w n) x)
            (λ (y : p + 1 < p₂). let x : i + 1 + (p₂ - (p + 1)) - 1 ≡ i + (p₂ - p) - 1 = omega arith in f.ends y ∙ ap (entry_end C w n) x)
            (eq-or-lt_of_le f.onward);
      }

  stopped-not : {A : Type 0} (a d : ℕ) (ids : List ℕ) (p c : ℕ) → stopped a d ≡ on ids p c → A
  stopped-not a d ids p c q = let z : ◌≡◌ {A = ℕ} 0 1 = cc in absurd (omega arith)

  pub leafed : (k i p c : ℕ) (ids : List ℕ) (p₂ c₂ : ℕ) (ids₂ : List ℕ) → scan_leaf C w e n i k (on ids p c) ≡ on ids₂ p₂ c₂ → Leafed C w n i k p c p₂ c₂
  unfolding scan_leaf against
  leafed zero i p c ids p₂ c₂ ids₂ q = still i 0 p c p₂ c₂ ids ids₂ q
  leafed (suc k) i p c [] p₂ c₂ ids₂ q = still i (suc k) p c p₂ c₂ [] ids₂ (sym (leaf-used C w e n (i + 1) k p c) ∙ q)
  leafed (suc k) i p c (y ∷ ids) p₂ c₂ ids₂ q =
      by_test (eqb (child C w n i) y)
      (λ u. by_test (leb (entry_end C w n i) e)
      (λ v. further i k p c p₂ c₂ (leafed k (i + 1) (p + 1) (entry_end C w n i) ids p₂ c₂ ids₂ (rw (u, v) at q)))
      (λ v. stopped-not 10 p ids₂ p₂ c₂ (sym (leaf-stopped C w e n (i + 1) k 10 p) ∙ (rw (u, v) at q))))
      (λ u. stopped-not 9 p ids₂ p₂ c₂ (sym (leaf-stopped C w e n (i + 1) k 9 p) ∙ (rw u at q)))

  -- of a node: a leaf where something was named
  pub noded : (p c : ℕ) (ids : List ℕ) (p₂ c₂ : ℕ) (ids₂ : List ℕ) → on ids₂ p₂ c₂ ≡ pick (eqb (height C w n) 0) (scan_leaf C w e n 0 (count C w n) (on ids p c)) (on ids p c)
      → (p ≤ p₂) × (p < p₂ → Last C w n (p₂ - p) c₂)
  noded p c ids p₂ c₂ ids₂ =
      by_test (eqb (height C w n) 0)
      (λ u. rw u (λ q. let f = leafed (count C w n) 0 p c ids p₂ c₂ ids₂ (sym q) in
      (f.onward, λ l. record { leaf = eqb-true (height C w n) 0 u; some = omega arith; within = omega (arith, f.most); ends = f.ends l ∙ ap (λ (j : ℕ). entry_end C w n (j - 1)) (zero-add (p₂ - p)) })))
      (λ u. rw u (λ q. let f = still 0 0 p c p₂ c₂ ids ids₂ (sym q) in (f.onward, λ l. absurd (omega (arith, f.most)))))
