-- The node test, told by its rows: they begin at r, rise, and the last one passes the test of the end.
use Prim.Native.Nat.{ℕ, zero, suc, ◌+◌, ◌<◌, ◌≤◌}
use mathlib.Core.List.{List, [], ◌∷◌}
use mathlib.Core.Bool.{Bool, false, ◌&&◌}
use mathlib.Core.Path.{◌≡◌, refl, sym, ap, ◌∙◌, subst}
use native.Mathlib.Omega.{arith}
use lib.ListN.{length}
use lib.Dec.{T, leb, ltb, eqb, leb→le, eqb→eq, eqb_refl, le→leb}
use Rattle.model.specs.Words.{Shape, count, row, child, row_limit}
use Rattle.model.specs.Tree.{Node, pairs_from, node_with, node_at, Limit, Open, Below, rising, first_row, last_row, meets, end_sound, sound, Level, next, last, all_pairs, Under, AllSound}
use Rattle.model.proofs.Tests.{and_l, and_r, both}

-- rows from r on rise, and the last one passes z
unfoldable pub rises : {K : Type 0} → (ℕ → Bool) → ℕ → List (ℕ × K) → Bool
rises z r [] = z r
rises z r (p ∷ ps) = ltb r p.0 && rises z p.0 ps

-- the rows begin at r
unfoldable pub rows : {K : Type 0} → (ℕ → Bool) → ℕ → List (ℕ × K) → Bool
rows z r [] = false
rows z r (p ∷ ps) = eqb p.0 r && rises z p.0 ps

pub record Soundly {K : Type 0} (C : Shape) (h : ℕ) (t : Node K) (r : ℕ) (b : Limit) : Type 0 where
  pub high : t.height ≡ h
  pub many : length t.pairs ≤ C.cap
  pub begin : t.start ≡ r
  pub rise : T (rows (end_sound h b t.end) r t.pairs)

rises_of : {K : Type 0} (z : ℕ → Bool) (p : ℕ × K) (ps : List (ℕ × K)) → T (rising (p ∷ ps)) → T (z (last_row (p ∷ ps))) → T (rises z p.0 ps)
unfolding rising last_row rises
rises_of z p [] a l = l
rises_of z p (q ∷ ps) a l =
    both (ltb p.0 q.0) (rises z q.0 ps) (and_l (ltb p.0 q.0) (rising (q ∷ ps)) a)
    (rises_of z q ps (and_r (ltb p.0 q.0) (rising (q ∷ ps)) a) l)

of_rises : {K : Type 0} (z : ℕ → Bool) (p : ℕ × K) (ps : List (ℕ × K)) → T (rises z p.0 ps) → T (rising (p ∷ ps)) × T (z (last_row (p ∷ ps)))
unfolding rising last_row rises
of_rises z p [] a = (tt, a)
of_rises z p (q ∷ ps) a =
    let i = of_rises z q ps (and_r (ltb p.0 q.0) (rises z q.0 ps) a) in
    (both (ltb p.0 q.0) (rising (q ∷ ps)) (and_l (ltb p.0 q.0) (rises z q.0 ps) a) i.0, i.1)

rows_of : {K : Type 0} (z : ℕ → Bool) (s r : ℕ) (ps : List (ℕ × K)) → T (leb 1 (length ps)) → T (rising ps) → T (eqb s (first_row ps)) → s ≡ r → T (z (last_row ps)) → T (rows z r ps)
unfolding rows first_row
rows_of z s r [] n a f e l = absurd n
rows_of z s r (p ∷ ps) n a f e l =
    both (eqb p.0 r) (rises z p.0 ps) (subst (λ (x : ℕ). T (eqb p.0 x)) (sym (eqb→eq s p.0 f) ∙ e) (eqb_refl p.0)) (rises_of z p ps a l)

of_rows : {K : Type 0} (z : ℕ → Bool) (r : ℕ) (ps : List (ℕ × K)) → T (rows z r ps) → T (leb 1 (length ps)) × T (rising ps) × (first_row ps ≡ r) × T (z (last_row ps))
unfolding rows first_row
of_rows z r [] a = absurd a
of_rows z r (p ∷ ps) a =
    let i = of_rises z p ps (and_r (eqb p.0 r) (rises z p.0 ps) a) in
    (le→leb 1 (length (p ∷ ps)) (omega arith), i.0, eqb→eq p.0 r (and_l (eqb p.0 r) (rises z p.0 ps) a), i.1)

module _ {K : Type 0} (C : Shape) (h : ℕ) (t : Node K) (r : ℕ) (b : Limit) where
  pub soundly : T (sound C h t r b) → Soundly C h t r b
  unfolding sound
  soundly s =
      let e : t.start ≡ r = eqb→eq t.start r (search (and_l, and_r) depth 8) in
      record {
        high = eqb→eq t.height h (search (and_l, and_r) depth 8);
        many = leb→le (length t.pairs) C.cap (search (and_l, and_r) depth 8);
        begin = e;
        rise = rows_of (end_sound h b t.end) t.start r t.pairs (search (and_l, and_r) depth 8) (search (and_l, and_r) depth 8) (search (and_l, and_r) depth 8) e (search (and_l, and_r) depth 8);
      }

  pub sound_of : Soundly C h t r b → T (sound C h t r b)
  unfolding sound
  sound_of q =
      let i = of_rows (end_sound h b t.end) r t.pairs q.rise in
      let one : T (eqb t.height h) = subst (λ (x : ℕ). T (eqb t.height x)) q.high (eqb_refl t.height) in
      let five : T (eqb t.start (first_row t.pairs)) = subst (λ (x : ℕ). T (eqb t.start x)) (q.begin ∙ sym i.2) (eqb_refl t.start) in
      let six : T (eqb t.start r) = subst (λ (x : ℕ). T (eqb t.start x)) q.begin (eqb_refl t.start) in
      search (both, one, i, le→leb (length t.pairs) C.cap q.many, five, six) depth 9

-- The test does not look at what the numbers lead to -------------------------------------------------------

unfoldable mapped : {K : Type 0} → (ℕ → K) → List (ℕ × ℕ) → List (ℕ × K)
mapped f [] = []
mapped f (p ∷ ps) = (p.0, f p.1) ∷ mapped f ps

module _ {K : Type 0} (f : ℕ → K) where
  mapped-length : (ps : List (ℕ × ℕ)) → length (mapped f ps) ≡ length ps
  unfolding mapped
  mapped-length [] = refl
  mapped-length (p ∷ ps) = ap suc (mapped-length ps)

  mapped-rising : (ps : List (ℕ × ℕ)) → rising (mapped f ps) ≡ rising ps
  unfolding mapped rising
  mapped-rising [] = refl
  mapped-rising (p ∷ []) = refl
  mapped-rising (p ∷ q ∷ ps) = ap (λ (t : Bool). ltb p.0 q.0 && t) (mapped-rising (q ∷ ps))

  mapped-first : (ps : List (ℕ × ℕ)) → first_row (mapped f ps) ≡ first_row ps
  unfolding mapped first_row
  mapped-first [] = refl
  mapped-first (p ∷ ps) = refl

  mapped-last : (ps : List (ℕ × ℕ)) → last_row (mapped f ps) ≡ last_row ps
  unfolding mapped last_row
  mapped-last [] = refl
  mapped-last (p ∷ []) = refl
  mapped-last (p ∷ q ∷ ps) = mapped-last (q ∷ ps)

  pairs-mapped : (C : Shape) (w : List ℕ) (n i k : ℕ) → pairs_from C w f n i k ≡ mapped f (pairs_from C w (λ (x : ℕ). x) n i k)
  unfolding pairs_from mapped
  pairs-mapped C w n i zero = refl
  pairs-mapped C w n i (suc k) = ap (λ (l : List (ℕ × K)). (row C w n i, f (child C w n i)) ∷ l) (pairs-mapped C w n (i + 1) k)

  pub sound-at : (C : Shape) (w : List ℕ) (h n r : ℕ) (b : Limit) → sound C h (node_with C w f n) r b ≡ sound C h (node_at C w n) r b
  unfolding sound
  sound-at C w h n r b =
      let ps = pairs_from C w (λ (x : ℕ). x) n 0 (count C w n) in
      rw (pairs-mapped C w n 0 (count C w n), mapped-length ps, mapped-rising ps, mapped-first ps, mapped-last ps)

-- the pairs of a sound node begin at its row
pub data Begins {K : Type 0} (r : ℕ) : List (ℕ × K) → Type 0 where
  begins : (x : K) (ps : List (ℕ × K)) → Begins r ((r, x) ∷ ps)

pub row_first : {K : Type 0} (z : ℕ → Bool) (r : ℕ) (ps : List (ℕ × K)) → T (rows z r ps) → Begins r ps
unfolding rows
row_first z r [] t = absurd t
row_first z r (p ∷ ps) t = rw (← eqb→eq p.0 r (and_l (eqb p.0 r) (rises z p.0 ps) t)) (begins p.1 ps)

-- the test of the last row holds of some row
pub row_last : {K : Type 0} (z : ℕ → Bool) (r : ℕ) (ps : List (ℕ × K)) → T (rises z r ps) → (l : ℕ) × T (z l)
unfolding rises
row_last z r [] t = (r, t)
row_last z r (p ∷ ps) t = row_last z p.0 ps (and_r (ltb r p.0) (rises z p.0 ps) t)

pub rows_last : {K : Type 0} (z : ℕ → Bool) (r : ℕ) (ps : List (ℕ × K)) → T (rows z r ps) → (l : ℕ) × T (z l)
unfolding rows
rows_last z r [] t = absurd t
rows_last z r (p ∷ ps) t = row_last z p.0 ps (and_r (eqb p.0 r) (rises z p.0 ps) t)

module _ {K : Type 0} (C : Shape) (h : ℕ) (t : Node K) (r : ℕ) (b : Limit) (s : T (sound C h t r b)) where
  pub sound-ends : (l : ℕ) × T (end_sound h b t.end l)
  sound-ends = rows_last (end_sound h b t.end) r t.pairs (soundly C h t r b s).rise

  pub sound-begins : Begins r t.pairs
  sound-begins = row_first (end_sound h b t.end) r t.pairs (soundly C h t r b s).rise

-- What is next -------------------------------------------------------------------------------------------

pub below_trans : (r s : ℕ) (b : Limit) → r < s → Under s b → Under r b
unfolding Under
below_trans r s Open h g = tt
below_trans r s (Below e) h g = omega arith

-- a leaf that has a next entry ends there
pub meets-is : (a c : Bool) (e x : ℕ) → T (a && c && meets (Below x) e) → e ≡ x
unfolding meets
meets-is a c e x s = eqb→eq e x (and_r (a && c) (eqb e x) s)

pub last-below : {K : Type 0} (h : ℕ) (t : Node K) (r : ℕ) (b : Limit) → (l : ℕ) × T (end_sound h b t.end l) → Under r (last h t.end b) → Under r b
unfolding end_sound last Under
last-below zero t r Open s g = tt
last-below zero t r (Below e) s g = subst (λ (x : ℕ). r < x) (meets-is (ltb s.0 t.end) (leb t.end row_limit) t.end e s.1) g
last-below (suc h) t r b s g = g

pub last-is : {K : Type 0} (h : ℕ) (t : Node K) (e : ℕ) → (l : ℕ) × T (end_sound h (Below e) t.end l) → last h t.end (Below e) ≡ Below e
unfolding end_sound last
last-is zero t e s = ap Below (meets-is (ltb s.0 t.end) (leb t.end row_limit) t.end e s.1)
last-is (suc h) t e s = refl

-- where Q keeps each pair below what is next for it, the first row is below what is next for the last
module _ {K : Type 0} (Q : K → ℕ → Limit → Type 0) (below : (x : K) (r : ℕ) (b : Limit) → Q x r b → Under r b) where
  pub chain : (p : ℕ × K) (ps : List (ℕ × K)) (b : Limit) → all_pairs Q (p ∷ ps) b → Under p.0 b
  unfolding all_pairs next Under
  chain p [] b g = below p.1 p.0 b g.0
  chain p (q ∷ ps) b g = below_trans p.0 q.0 b (below p.1 p.0 (Below q.0) g.0) (chain q ps b g.1)

  pub pairs_below : (r : ℕ) (b : Limit) (ps : List (ℕ × K)) → Begins r ps → all_pairs Q ps b → Under r b
  pairs_below r b _ (begins x ps) g = chain (r, x) ps b g

pub sound-below : (C : Shape) (P h : ℕ) (t : Level h) (r : ℕ) (b : Limit) → AllSound C P h t r b → Under r b
unfolding AllSound
sound-below C P zero x r b g = g
sound-below C P (suc h) t r b g =
    last-below h t r b (sound-ends C h t r b g.1)
    (pairs_below (AllSound C P h) (sound-below C P h) r (last h t.end b) t.pairs (sound-begins C h t r b g.1) g.2)
