-- The node test in the terms of the code.
use Prim.Native.Nat.{ℕ, zero, suc, ◌+◌, ◌-◌, ◌<◌, ◌≤◌}
use mathlib.Core.List.{List, [], ◌∷◌}
use mathlib.Core.Bool.{Bool, true, false, ◌&&◌, ◌||◌, and-false}
use mathlib.Core.Path.{◌≡◌, refl, sym, ap, ◌∙◌, subst}
use native.Mathlib.Omega.{arith}
use native.Mathlib.Nat.{add-zero}
use lib.Dec.{leb, ltb, eqb, leb→le, eqb→eq}
use borrow.Author.Tests.{lt-ltb, le-ltb, le-leb, eq-eqb, ltb-true, ltb-false}
use Rattle.model.specs.Words.{Shape, height, count, start, end, row, child, NONE}
use Rattle.model.specs.Tree.{Limit, node_at, pairs_from, rising, first_row, last_row, end_sound, sound}
use Rattle.node_test.specs.Test.{first_out}
use Rattle.model.proofs.Tests.{and_l, and_r, by_test, holds, is_true}
use Rattle.model.proofs.Sound.{rises}
use Rattle.model.proofs.Frame.{length_pairs}

-- a branch's end
pub ends-branch : (h : ℕ) (b : Limit) (e l : ℕ) → (h ≡ 0 → ⊥) → end_sound h b e l ≡ (eqb e NONE || ltb l e)
unfolding end_sound
ends-branch zero b e l h = absurd (h refl)
ends-branch (suc k) b e l h = refl

abbrev pub yes : ℕ → Bool
yes r = true

abbrev same : ℕ → ℕ
same x = x

rising-is : (p : ℕ × ℕ) (ps : List (ℕ × ℕ)) → rising (p ∷ ps) ≡ rises yes p.0 ps
unfolding rising rises
rising-is p [] = refl
rising-is p (q ∷ ps) = ap (λ (t : Bool). ltb p.0 q.0 && t) (rising-is q ps)

module _ (C : Shape) (w : List ℕ) (n : ℕ) where
  -- the rows after the last one read, up to row k
  abbrev pub rest : ℕ → ℕ → ℕ → Bool
  rest last i k = rises yes last (pairs_from C w (λ (x : ℕ). x) n i (k - i))

  pub rise-all : (k : ℕ) → 1 ≤ k → rising (pairs_from C w (λ (x : ℕ). x) n 0 k) ≡ rest (row C w n 0) 1 k
  unfolding pairs_from
  rise-all zero h = absurd (omega arith)
  rise-all (suc k) h = let e : suc k - 1 ≡ k = omega arith in rw e (rising-is (row C w n 0, child C w n 0) (pairs_from C w (λ (x : ℕ). x) n (0 + 1) k))

  more : (last i k : ℕ) → i < k → rest last i k ≡ (ltb last (row C w n i) && rest (row C w n i) (i + 1) k)
  unfolding rises pairs_from
  more last i k h = let e : k - i ≡ suc (k - (i + 1)) = omega arith in rw e

  -- a row above the last: on to the next; j is the place after i
  rise-on : (last i j k : ℕ) → i < k → i + 1 ≡ j → last < row C w n i → rest last i k ≡ rest (row C w n i) j k
  rise-on last i j k h e g = more last i k h ∙ rw (lt-ltb last (row C w n i) g, e)

  -- a row not above the last
  rise-stop : (last i k : ℕ) → i < k → row C w n i ≤ last → rest last i k ≡ false
  rise-stop last i k h g = more last i k h ∙ rw (le-ltb last (row C w n i) g)

  -- no row left
  rise-end : (last i k : ℕ) → k ≤ i → rest last i k ≡ true
  unfolding rises pairs_from
  rise-end last i k h = let e : k - i ≡ 0 = omega arith in rw e

  -- a row that is not above the one before it, at any place
  falls : (d i k : ℕ) → i + d + 1 < k → row C w n (i + d + 1) ≤ row C w n (i + d) → rest (row C w n i) (i + 1) k ≡ false
  falls zero i k h g = let e : i + 0 ≡ i = omega arith in rise-stop (row C w n i) (i + 1) k (omega arith) (rw e at g)
  falls (suc d) i k h g =
      let e : i + suc d ≡ i + 1 + d = omega arith in
      more (row C w n i) (i + 1) k (omega arith) ∙ rw (falls d (i + 1) k (omega arith) (rw e at g), and-false)

  -- at place d before the last
  pub rise-falls : (d k : ℕ) → d + 2 ≤ k → row C w n (k - (d + 1)) ≤ row C w n (k - (d + 2)) → rising (pairs_from C w (λ (x : ℕ). x) n 0 k) ≡ false
  rise-falls d k h g =
      let e : 0 + (k - (d + 2)) ≡ k - (d + 2) = omega arith in
      let f : k - (d + 2) + 1 ≡ k - (d + 1) = omega arith in
      rise-all k (omega arith) ∙ falls (k - (d + 2)) 0 k (omega arith) (rw (e, f) g)

  -- each row from place i on is above the one before it
  rise-rest : (d i k : ℕ) → i + d ≡ k → 1 ≤ i → ((j : ℕ) → i ≤ j → j < k → row C w n (j - 1) < row C w n j) → rest (row C w n (i - 1)) i k ≡ true
  rise-rest zero i k e o f = rise-end (row C w n (i - 1)) i k (omega arith)
  rise-rest (suc d) i k e o f =
      let z : i ≡ i + 1 - 1 = omega arith in
      rise-on (row C w n (i - 1)) i (i + 1) k (omega arith) refl (f i (omega arith) (omega arith))
      ∙ ap (λ (j : ℕ). rest (row C w n j) (i + 1) k) z
      ∙ rise-rest d (i + 1) k (omega arith) (omega arith) (λ j a b. f j (omega arith) b)

  -- the last four rise
  four : (k d : ℕ) → 1 ≤ d → d ≤ 3 → row C w n (k - 4) < row C w n (k - 3) → row C w n (k - 3) < row C w n (k - 2) → row C w n (k - 2) < row C w n (k - 1) → row C w n (k - (d + 1)) < row C w n (k - d)
  four k zero a b p q r = absurd (omega arith)
  four k (suc zero) a b p q r = r
  four k (suc (suc zero)) a b p q r = q
  four k (suc (suc (suc zero))) a b p q r = p
  four k (suc (suc (suc (suc d)))) a b p q r = absurd (omega arith)

  -- the rows before place i rise, and last is the one before it
  pub record At (last i k : ℕ) : Type 0 where
    pub low : 1 ≤ i
    pub high : i ≤ k
    pub same : rising (pairs_from C w (λ (x : ℕ). x) n 0 k) ≡ rest last i k
    pub is : last ≡ row C w n (i - 1)

  -- and fewer than four rows are left
  pub tail : (last i k : ℕ) → At last i k → k ≤ i + 3 → 4 ≤ k → row C w n (k - 4) < row C w n (k - 3) → row C w n (k - 3) < row C w n (k - 2)
      → ltb (row C w n (k - 2)) (row C w n (k - 1)) ≡ rising (pairs_from C w (λ (x : ℕ). x) n 0 k)
  tail last i k g b z p q =
      let o = g.low in
      let a = g.high in
      by_test (ltb (row C w n (k - 2)) (row C w n (k - 1)))
      (λ t. let each : (j : ℕ) → i ≤ j → j < k → row C w n (j - 1) < row C w n j = λ j x y.
      let u : j ≡ k - (k - j) = omega arith in
      let v : j - 1 ≡ k - (k - j + 1) = omega arith in
      subst (λ (m : ℕ). row C w n (j - 1) < row C w n m) (sym u) (rw v (four k (k - j) (omega arith) (omega arith) p q (ltb-true (row C w n (k - 2)) (row C w n (k - 1)) t))) in
      t ∙ sym (g.same ∙ rw g.is (rise-rest (k - i) i k (omega arith) o each)))
      (λ t. t ∙ sym (rise-falls 0 k (omega arith) (ltb-false (row C w n (k - 2)) (row C w n (k - 1)) t)))

  last_row_lem : (i k : ℕ) → last_row (pairs_from C w (λ (x : ℕ). x) n i (suc k)) ≡ row C w n (i + k)
  unfolding last_row pairs_from
  last_row_lem i zero = rw add-zero
  last_row_lem i (suc k) = let e : i + 1 + k ≡ i + suc k = omega arith in last_row_lem (i + 1) k ∙ rw e

  ends_of : (k : ℕ) → 1 ≤ k → last_row (pairs_from C w (λ (x : ℕ). x) n 0 k) ≡ row C w n (k - 1)
  ends_of zero h = absurd (omega arith)
  ends_of (suc k) h = let e : 0 + k ≡ suc k - 1 = omega arith in last_row_lem 0 k ∙ rw e

  begins-at : (k : ℕ) → 1 ≤ k → first_row (pairs_from C w (λ (x : ℕ). x) n 0 k) ≡ row C w n 0
  unfolding first_row pairs_from
  begins-at zero h = absurd (omega arith)
  begins-at (suc k) h = refl

  module _ (P : ℕ) where
    -- child number i is in range
    pub out_on : (i k : ℕ) → i < k → child C w n i < P → first_out C P w n i (k - i) ≡ first_out C P w n (i + 1) (k - (i + 1))
    unfolding first_out
    out_on i k h l = let e : k - i ≡ suc (k - (i + 1)) = omega arith in rw (e, lt-ltb (child C w n i) P l)

  -- what a sound node's words say
  pub record Facts (h r : ℕ) (b : Limit) : Type 0 where
    pub high : height C w n ≡ h
    pub some : 1 ≤ count C w n
    pub many : count C w n ≤ C.cap
    pub begin : start C w n ≡ r
    pub first : row C w n 0 ≡ r
    pub ends : end_sound h b (end C w n) (row C w n (count C w n - 1)) ≡ true

  module _ (h r : ℕ) (b : Limit) where
    sound-is : sound C h (node_at C w n) r b
        ≡ (eqb (height C w n) h && leb 1 (count C w n) && leb (count C w n) C.cap && rising (pairs_from C w (λ (x : ℕ). x) n 0 (count C w n))
        && eqb (start C w n) (first_row (pairs_from C w (λ (x : ℕ). x) n 0 (count C w n))) && eqb (start C w n) r
        && end_sound h b (end C w n) (last_row (pairs_from C w (λ (x : ℕ). x) n 0 (count C w n))))
    unfolding sound
    sound-is = rw length_pairs

    pub facts : sound C h (node_at C w n) r b ≡ true → Facts h r b
    facts s =
        let t = holds _ (sym sound-is ∙ s) in
        let k : 1 ≤ count C w n = leb→le 1 (count C w n) (search (and_l, and_r) depth 8) in
        let e : start C w n ≡ r = eqb→eq (start C w n) r (search (and_l, and_r) depth 8) in
        let f : start C w n ≡ first_row (pairs_from C w (λ (x : ℕ). x) n 0 (count C w n)) = eqb→eq (start C w n) (first_row (pairs_from C w (λ (x : ℕ). x) n 0 (count C w n))) (search (and_l, and_r) depth 8) in
        record {
          high = eqb→eq (height C w n) h (search (and_l, and_r) depth 8);
          some = k;
          many = leb→le (count C w n) C.cap (search (and_l, and_r) depth 8);
          begin = e;
          first = sym (begins-at (count C w n) k) ∙ sym f ∙ e;
          ends = ap (end_sound h b (end C w n)) (sym (ends_of (count C w n) k)) ∙ is_true _ (search (and_l, and_r) depth 8);
        }

    -- a fact that fails is enough
    pub unsound_if : (Facts h r b → ⊥) → sound C h (node_at C w n) r b ≡ false
    unsound_if f = by_test (sound C h (node_at C w n) r b) (λ t. absurd (f (facts t))) (λ t. t)

    -- with these, the rows decide
    pub sound_if : Facts h r b → sound C h (node_at C w n) r b ≡ rising (pairs_from C w (λ (x : ℕ). x) n 0 (count C w n))
    sound_if f =
        sound-is
        ∙ rw (
          eq-eqb (height C w n) h f.high,
          le-leb 1 (count C w n) f.some,
          le-leb (count C w n) C.cap f.many,
          begins-at (count C w n) f.some,
          ends_of (count C w n) f.some,
          eq-eqb (start C w n) r f.begin,
          eq-eqb (start C w n) (row C w n 0) (f.begin ∙ sym f.first),
          f.ends,
        )
        (by_test (rising (pairs_from C w (λ (x : ℕ). x) n 0 (count C w n))) (λ t. rw t) (λ t. rw t))

-- the turns over the rows: the first row, one more that is above the last or is not, and none left
module _ {C : Shape} {w : List ℕ} {n last k : ℕ} where
  pub begins : 1 ≤ k → last ≡ row C w n 0 → At C w n last 1 k
  begins h e = record { low = omega arith; high = h; same = rise-all C w n k h ∙ rw e; is = e }

  module _ {i r : ℕ} (g : At C w n last i k) where
    pub goes_on : (j : ℕ) → i + 1 ≡ j → i < k → r ≡ row C w n i → last < r → At C w n r j k
    goes_on j e h p l =
        let z : i ≡ j - 1 = omega arith in
        let up : last < row C w n i = rw p at l in
        record { low = omega arith; high = omega arith; same = g.same ∙ rise-on C w n last i j k h e up ∙ rw p; is = p ∙ ap (row C w n) z }

    pub stops : i < k → r ≡ row C w n i → r ≤ last → false ≡ rising (pairs_from C w (λ (x : ℕ). x) n 0 k)
    stops h p l = sym (g.same ∙ rise-stop C w n last i k h (rw p at l))

  pub arrives : {i : ℕ} → At C w n last i k → k ≤ i → true ≡ rising (pairs_from C w (λ (x : ℕ). x) n 0 k)
  arrives {i} g h = sym (g.same ∙ rise-end C w n last i k h)
