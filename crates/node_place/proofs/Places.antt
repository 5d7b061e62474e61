-- The place of a row in a node whose rows rise.
use Prim.Native.Nat.{ℕ, zero, suc, ◌+◌, ◌-◌, ◌<◌, ◌≤◌}
use mathlib.Core.List.{List}
use mathlib.Core.Path.{◌≡◌, refl, sym, ◌∙◌, subst}
use mathlib.Core.Logic.{⊎_elim, ◌⊎◌, inl, inr}
use native.Mathlib.Omega.{arith}
use native.Mathlib.Nat.{eq-or-lt_of_le}
use lib.Dec.{T, leb}
use borrow.Author.Tests.{lt-leb, leb-true, leb-false}
use Rattle.model.specs.Words.{Shape, row}
use Rattle.model.specs.Tree.{pairs_from, rising}
use Rattle.model.specs.Reading.{last_not_above}
use Rattle.model.proofs.Tests.{by_test}
use Rattle.model.proofs.Place.{risen, last-at}
use Rattle.node_place.specs.Place.{LiesIn}
use Rattle.node_test.proofs.Rows.{yes, rise-all}

module _ (C : Shape) (w : List ℕ) (n k : ℕ) (some : 1 ≤ k) (up : T (rising (pairs_from C w (λ (x : ℕ). x) n 0 k))) where
  pub rise : (a c : ℕ) → a < c → c < k → row C w n a < row C w n c
  rise a c l m =
      let e : 0 + 1 + (k - 1) ≡ k = omega arith in
      let r = subst T (rise-all C w n k some) up in
      risen C w n (λ (x : ℕ). x) yes 0 (k - 1) r a c (omega arith) l (omega arith)

  module _ (q : ℕ) where
    none : (j : ℕ) → ((m : ℕ) → m < j → q < row C w n m) → last_not_above C w q n j ≡ 0
    unfolding last_not_above
    none zero f = refl
    none (suc j) f = rw (lt-leb (row C w n j) q (f j (omega arith))) (none j (λ m l. f m (omega arith)))

    -- low is the place, or the first where no row is low enough; every row from low + 1 on is above q
    pub place_at : (low : ℕ) → low < k → (low ≡ 0) ⊎ (row C w n low ≤ q) → ((m : ℕ) → low < m → m < k → q < row C w n m) → low ≡ last_not_above C w q n k
    place_at low l (inr h) f = sym (last-at C w n q k low l h f)
    place_at low l (inl z) f =
        by_test (leb (row C w n low) q)
        (λ t. sym (last-at C w n q k low l (leb-true (row C w n low) q t) f))
        (λ t. z ∙ sym (none k (λ m b. ⊎_elim
        (λ (e : low ≡ m). subst (λ (x : ℕ). q < row C w n x) e (leb-false (row C w n low) q t))
        (λ (g : low < m). f m g b)
        (eq-or-lt_of_le (omega arith)))))

    -- rows from high on are above q
    pub above_from : (high : ℕ) → (k ≤ high) ⊎ (q < row C w n high) → (m : ℕ) → high ≤ m → m < k → q < row C w n m
    above_from high (inl h) m l b = absurd (omega arith)
    above_from high (inr h) m l b =
        ⊎_elim (λ (e : high ≡ m). subst (λ (x : ℕ). q < row C w n x) e h) (λ (g : high < m). omega (arith, h, rise high m g b)) (eq-or-lt_of_le l)

-- it is one of the places
pub place-below : (C : Shape) (w : List ℕ) (n q k : ℕ) → 1 ≤ k → last_not_above C w q n k < k
unfolding last_not_above
place-below C w n q zero h = absurd (omega arith)
place-below C w n q (suc zero) h = by_test (leb (row C w n 0) q) (λ t. rw t (omega arith)) (λ t. rw t (omega arith))
place-below C w n q (suc (suc k)) h =
    by_test (leb (row C w n (suc k)) q) (λ t. rw t (omega arith)) (λ t. rw t (omega (arith, place-below C w n q (suc k) (omega arith))))

-- a row that is not above q is at the place or before it
pub place-from : (C : Shape) (w : List ℕ) (n q k i : ℕ) → i < k → row C w n i ≤ q → i ≤ last_not_above C w q n k
unfolding last_not_above
place-from C w n q zero i l h = absurd (omega arith)
place-from C w n q (suc k) i l h =
    by_test (leb (row C w n k) q)
    (λ t. rw t (omega arith))
    (λ t. rw t (⊎_elim (λ (e : i ≡ k). absurd (omega (arith, leb-false (row C w n k) q t, subst (λ (x : ℕ). row C w n x ≤ q) e h))) (λ (g : i < k). place-from C w n q k i g h) (eq-or-lt_of_le (omega arith))))

-- where every row from i on is above q, the place is before i
pub place-before : (C : Shape) (w : List ℕ) (n q k i : ℕ) → 1 ≤ i → ((m : ℕ) → i ≤ m → m < k → q < row C w n m) → last_not_above C w q n k < i
unfolding last_not_above
place-before C w n q zero i s f = omega arith
place-before C w n q (suc k) i s f =
    by_test (leb (row C w n k) q)
    (λ t. by_test (leb i k)
    (λ u. absurd (omega (arith, leb-true (row C w n k) q t, f k (leb-true i k u) (omega arith))))
    (λ u. rw t (omega (arith, leb-false i k u))))
    (λ t. rw t (place-before C w n q k i s (λ m l b. f m l (omega arith))))

-- The part that the place lies in ------------------------------------------------------------------------

-- after the rows before i: it lies behind the last one that is not above q, or i is the next to look at
abbrev pub Looked : Shape → List ℕ → ℕ → ℕ → ℕ → ℕ → ℕ → ℕ → Type 0
Looked C w q n k step place i =
    (place < k) × (place ≤ last_not_above C w q n k) × ((last_not_above C w q n k < place + step) ⊎ (place + step ≡ i))

module _ (C : Shape) (w : List ℕ) (n k : ℕ) (some : 1 ≤ k) (up : T (rising (pairs_from C w (λ (x : ℕ). x) n 0 k))) (q step place i : ℕ) (h : Looked C w q n k step place i) where
  pub moved : i < k → row C w n i ≤ q → Looked C w q n k step i (i + step)
  moved l r = (l, place-from C w n q k i l r, inr refl)

  pub kept : 1 ≤ step → i < k → q < row C w n i → Looked C w q n k step place (i + step)
  kept s l r = (
    h.0,
    h.1,
    inl (⊎_elim (λ (g : last_not_above C w q n k < place + step). g)
        (λ (e : place + step ≡ i). omega (arith, place-before C w n q k i (omega arith) (above_from C w n k some up q i (inr r)))) h.2),
  )

  -- all rows up to the end were looked at, and the place is below it
  pub found : (end : ℕ) → last_not_above C w q n k < end → end ≤ i → LiesIn C w q n k place step
  found end b l =
      record { from = h.1; before = ⊎_elim (λ (g : last_not_above C w q n k < place + step). g) (λ (e : place + step ≡ i). omega arith) h.2 }

-- it lies among all entries
pub lies_in-all : (C : Shape) (w : List ℕ) (n q k : ℕ) → 1 ≤ k → LiesIn C w q n k 0 k
lies_in-all C w n q k h = record { from = omega arith; before = omega (arith, place-below C w n q k h) }

-- a part that it lies in begins at an entry
pub begins : (C : Shape) (w : List ℕ) (n q k low width : ℕ) → 1 ≤ k → LiesIn C w q n k low width → low < k
begins C w n q k low width h p = omega (arith, p.from, place-below C w n q k h)
