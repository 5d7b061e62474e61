-- Trimming the nodes that stay but lose rows makes the cut tree.
use Prim.Native.Nat.{ℕ, zero, suc, ◌+◌, ◌-◌, ◌<◌, ◌≤◌}
use mathlib.Core.List.{List, [], ◌∷◌, ◌++◌}
use mathlib.Core.Path.{◌≡◌, refl, sym, ap, ◌∙◌, subst}
use mathlib.Core.Logic.{◌≢◌}
use native.Mathlib.Omega.{arith}
use lib.ListN.{length}
use lib.Dec.{ltb, eqb, ltb→lt, eqb→eq}
use borrow.Author.Tests.{ltb-true}
use Rattle.model.specs.Words.{Shape, height, count, end, row, child, row_place, child_place, Header}
use Rattle.model.specs.Tree.{Limit, Open, Level, pairs_from, node_with, level, next, last, all_pairs, AllSound}
use Rattle.model.specs.Reading.{occ, in_pairs, nodes}
use Rattle.model.specs.Cut.{Rest, gone, stays, if_gone, keep, cut_pairs, trim, cut, trims_pairs, trims}
use Rattle.model.specs.Prune.{trimmed, trim_all}
use Rattle.model.proofs.Tests.{by_test, and_l}
use Rattle.model.proofs.Sound.{rows, soundly}
use Rattle.model.proofs.Frame.{Same, Narrow, same-pairs, kept, occ-append, occ_self, length_pairs, occ-child, all-child}
use Rattle.model.proofs.Writes.{pairs-same}
use Rattle.law_formed.proofs.Clean.{sound-narrow}
use Rattle.law_prune.proofs.Rests.{up_to, with_pairs, by_rest, gone-not, stays-is}
use Rattle.law_prune.proofs.Trim.{trimmed-header, trimmed-node, trimmed_with, trimmed-few}

-- the first pair that stays, among those from i on
pub record SpotAt {K : Type 0} (C : Shape) (w : List ℕ) (g : ℕ → K) (n e : ℕ) (f : K → ℕ → Rest K) (i c : ℕ) : Type 0 where
  pub place : ℕ
  pub what : K
  pub low : i ≤ place
  pub high : place < i + c
  pub is : f (g (child C w n place)) (row C w n place) ≡ stays what
  pub cuts : cut_pairs e f (pairs_from C w g n i c) ≡ (up_to e (row C w n place), what) ∷ pairs_from C w g n (place + 1) (i + c - (place + 1))
  pub trimmed_in : (tr : K → ℕ → List (ℕ × ℕ)) → trims_pairs f tr (pairs_from C w g n i c) ≡ tr (g (child C w n place)) (row C w n place)

module _ {K : Type 0} (C : Shape) (w : List ℕ) (g : ℕ → K) (n e : ℕ) (f : K → ℕ → Rest K) where
  pub spot : {A : Type 0} (i c : ℕ) → (cut_pairs e f (pairs_from C w g n i c) ≡ [] → A) → (SpotAt C w g n e f i c → A) → A
  unfolding pairs_from cut_pairs keep trims_pairs if_gone
  spot i zero no_one some_one = no_one refl
  spot i (suc c) no_one some_one =
      by_rest (f (g (child C w n i)) (row C w n i))
      (λ p. spot (i + 1) c (λ q. no_one (rw p q))
      (λ s. let a : i + 1 + c ≡ i + suc c = omega arith in
      some_one (record { place = s.place; what = s.what; low = omega (arith, s.low); high = omega (arith, s.high); is = s.is; cuts = rw (p, ← a) s.cuts; trimmed_in = λ tr. rw p (s.trimmed_in tr) })))
      (λ y p. let a : i + suc c - (i + 1) ≡ c = omega arith in
      some_one (record { place = i; what = y; low = omega arith; high = omega arith; is = p; cuts = rw (p, a); trimmed_in = λ tr. rw p }))

-- the same words make the same node
with_same : {K : Type 0} (C : Shape) (w v : List ℕ) (f : ℕ → K) (n : ℕ) → Same C w v n → count C w n ≤ C.cap → node_with C w f n ≡ node_with C v f n
with_same C w v f n s l =
    rw (s 0 (omega arith), s 2 (omega arith), s 3 (omega arith), same-pairs C w v n s f f 0 (count C w n) (omega arith) (λ j a b. refl), s 1 (omega arith))

pub record Trimmed (C : Shape) (P h n : ℕ) (v v₂ : List ℕ) (y : Level h) : Type 0 where
  pub tree : level C v₂ h n ≡ y
  pub header : Header C.cap P v₂
  pub beside : (m : ℕ) → occ m (nodes h y) ≡ 0 → Same C v v₂ m

module _ (C : Shape) (P e : ℕ) (w : List ℕ) where
  -- what is asked: on words v that agree with w on the nodes that stay
  unfoldable pub PathLaw : ℕ → Type 0
  PathLaw h = (n r : ℕ) (b : Limit) (v : List ℕ) (y : Level h) → Header C.cap P v → Narrow C h (level C w h n) → cut h e (level C w h n) r ≡ stays y → AllSound C P h y (up_to e r) b
      → ((m : ℕ) → occ m (nodes h y) ≤ 1) → ((m : ℕ) → 0 < occ m (nodes h y) → Same C w v m) → Trimmed C P h n v (trim_all C v e (trims h e (level C w h n) r)) y

  -- node n, which loses its first j entries, x being what is left of what entry j leads to
  abbrev trimmed_node : (h n j : ℕ) → Level h → Level (suc h)
  trimmed_node h n j x = record { number = n; height = height C w n; start = e; end = end C w n; pairs = (up_to e (row C w n j), x) ∷ pairs_from C w (level C w h) n (j + 1) (count C w n - (j + 1)) }

  module _ (h n j : ℕ) (x : Level h) (b : Limit) (v : List ℕ) (hd : Header C.cap P v) (few : count C w n ≤ C.cap) (lose : j < count C w n)
      (sounds : AllSound C P (suc h) (trimmed_node h n j x) e b) (one : (m : ℕ) → occ m (nodes (suc h) (trimmed_node h n j x)) ≤ 1)
      (same : (m : ℕ) → 0 < occ m (nodes (suc h) (trimmed_node h n j x)) → Same C w v m) where
    others : List (ℕ × Level h)
    others = pairs_from C w (level C w h) n (j + 1) (count C w n - (j + 1))

    -- how often a node stands in each part
    parts : (m : ℕ) → occ m (nodes (suc h) (trimmed_node h n j x)) ≡ occ m (nodes h x) + occ m (in_pairs (nodes h) others) + occ m (n ∷ [])
    unfolding nodes in_pairs others
    parts m = occ-append m (nodes h x ++ in_pairs (nodes h) others) (n ∷ []) ∙ ap (λ (k : ℕ). k + occ m (n ∷ [])) (occ-append m (nodes h x) (in_pairs (nodes h) others))

    inside : n < P
    unfolding AllSound
    inside = ltb→lt n P sounds.0

    same-n : Same C w v n
    same-n = same n (omega (arith, parts n, occ_self n))

    few-v : count C v n ≤ C.cap
    few-v = omega (arith, same-n 1 (omega arith))

    lose_v : j < count C v n
    lose_v = omega (arith, same-n 1 (omega arith))

    v₁ : List ℕ
    v₁ = trimmed C v n j e

    to_v₁ : (m : ℕ) → m ≢ n → Same C v v₁ m
    unfolding v₁
    to_v₁ m d = trimmed-node C P v hd n j e inside lose_v few-v m d

    not-n : (m : ℕ) → 0 < occ m (nodes h x) + occ m (in_pairs (nodes h) others) → m ≢ n
    not-n m p q = absurd (omega (arith, parts m, one m, subst (λ (k : ℕ). occ m (k ∷ []) ≡ 1) q (occ_self m)))

    first-row : up_to e (row C w n j) ≡ e
    unfolding AllSound rows
    first-row = eqb→eq (up_to e (row C w n j)) e (and_l (eqb (up_to e (row C w n j)) e) _ (soundly C h (trimmed_node h n j x) e b sounds.1).rise)

    sound-x : AllSound C P h x (up_to e (row C w n j)) (next others (last h (end C w n) b))
    unfolding AllSound all_pairs others
    sound-x = sounds.2.0

    sound-others : all_pairs (AllSound C P h) others (last h (end C w n) b)
    unfolding AllSound all_pairs others
    sound-others = sounds.2.1

    module _ (v₂ : List ℕ) (t : Trimmed C P h (child C w n j) v₁ v₂ x) where
      other : (a : ℕ) → j + 1 ≤ a → a < j + 1 + (count C w n - (j + 1)) → level C w h (child C w n a) ≡ level C v₂ h (child C w n a)
      unfolding others
      other a l u =
          let g = all-child C w (level C w h) n (AllSound C P h) (j + 1) (count C w n - (j + 1)) (last h (end C w n) b) sound-others a l u in
          kept C w v₂ h (child C w n a) (sound-narrow C P h (level C w h (child C w n a)) (row C w n a) g.0 g.1)
          (λ m p i q. let o = occ-child C w (level C w h) n (nodes h) m (j + 1) (count C w n - (j + 1)) a l u in
          same m (omega (arith, parts m)) i q ∙ to_v₁ m (not-n m (omega arith)) i q ∙ t.beside m (omega (arith, parts m, one m)) i q)

      node_case : Trimmed C P (suc h) n v v₂ (trimmed_node h n j x)
      unfolding level v₁ others
      node_case =
          record {
            tree =
                sym (with_same C v₁ v₂ (level C v₂ h) n (t.beside n (omega (arith, parts n, one n, occ_self n))) (trimmed-few C P v hd n j e inside lose_v few-v))
                ∙ trimmed_with C P v hd n j e inside lose_v few-v (level C v₂ h)
                ∙ rw (
                  ← same-n 0 (omega arith),
                  ← same-n 3 (omega arith),
                  ← same-n 1 (omega arith),
                  ← same-n (child_place j) (omega arith),
                  t.tree,
                  first-row,
                  pairs-same C w v (level C w h) (level C v₂ h) n n (j + 1) (count C w n - (j + 1)) (λ a l u. (same-n (row_place a) (omega arith), same-n (child_place a) (omega arith), other a l u)),
                );
            header = t.header;
            beside = λ m z i q. to_v₁ m (λ d. absurd (omega (arith, parts m, subst (λ (k : ℕ). occ m (k ∷ []) ≡ 1) d (occ_self m)))) i q ∙ t.beside m (omega (arith, parts m)) i q;
          }

    -- by the law one level down
    by_law : PathLaw h → Narrow C h (level C w h (child C w n j)) → cut h e (level C w h (child C w n j)) (row C w n j) ≡ stays x
        → Trimmed C P (suc h) n v (trim_all C (trimmed C v n j e) e (trims h e (level C w h (child C w n j)) (row C w n j))) (trimmed_node h n j x)
    unfolding PathLaw v₁
    by_law law nar is =
        node_case (trim_all C (trimmed C v n j e) e (trims h e (level C w h (child C w n j)) (row C w n j)))
        (law (child C w n j) (row C w n j) (next others (last h (end C w n) b)) (trimmed C v n j e) x (trimmed-header C P v hd n j e inside lose_v few-v) nar is sound-x
        (λ m. omega (arith, parts m, one m))
        (λ m p i q. same m (omega (arith, parts m)) i q ∙ to_v₁ m (not-n m (omega arith)) i q))

  trim_nil : (h : ℕ) (t : Level (suc h)) (ps : List (ℕ × Level h)) → ps ≡ [] → trim e t ps ≡ gone
  unfolding trim
  trim_nil h t ps p = rw p

  trim-some : (h : ℕ) (t : Level (suc h)) (ps : List (ℕ × Level h)) (k : ℕ × Level h) (l : List (ℕ × Level h)) → ps ≡ k ∷ l → trim e t ps ≡ stays (with_pairs e t (k ∷ l))
  unfolding trim
  trim-some h t ps k l p = rw p

  -- the number of entries lost
  lost : (h n : ℕ) (x : ℕ × Level h) (j : ℕ) → j < count C w n → (ps : List (ℕ × Level h)) → ps ≡ x ∷ pairs_from C w (level C w h) n (j + 1) (count C w n - (j + 1))
      → length (pairs_from C w (level C w h) n 0 (count C w n)) - length ps ≡ j
  lost h n x j l ps p =
      omega (arith, length_pairs C w (level C w h) n 0 (count C w n), length_pairs C w (level C w h) n (j + 1) (count C w n - (j + 1)), ap length p)

  child-narrow : (h n j : ℕ) → Narrow C (suc h) (level C w (suc h) n) → j < count C w n → Narrow C h (level C w h (child C w n j))
  unfolding Narrow level
  child-narrow h n j a l = (all-child C w (level C w h) n (λ x r b. Narrow C h x) 0 (count C w n) Open a.1 j (omega arith) (omega arith)).1

  node-few : (h n : ℕ) → Narrow C (suc h) (level C w (suc h) n) → count C w n ≤ C.cap
  unfolding Narrow level
  node-few h n a = omega (arith, a.0, length_pairs C w (level C w h) n 0 (count C w n))

  at-spot : (h : ℕ) → PathLaw h → (n r : ℕ) (b : Limit) (v : List ℕ) (y : Level (suc h)) → Header C.cap P v → Narrow C (suc h) (level C w (suc h) n) → r < e
      → trim e (level C w (suc h) n) (cut_pairs e (cut h e) (pairs_from C w (level C w h) n 0 (count C w n))) ≡ stays y → AllSound C P (suc h) y e b
      → ((m : ℕ) → occ m (nodes (suc h) y) ≤ 1) → ((m : ℕ) → 0 < occ m (nodes (suc h) y) → Same C w v m)
      → SpotAt C w (level C w h) n e (cut h e) 0 (count C w n)
      → Trimmed C P (suc h) n v (trim_all C v e ((n, length (pairs_from C w (level C w h) n 0 (count C w n)) - length (cut_pairs e (cut h e) (pairs_from C w (level C w h) n 0 (count C w n))))
      ∷ trims_pairs (cut h e) (trims h e) (pairs_from C w (level C w h) n 0 (count C w n)))) y
  unfolding trim_all level
  at-spot h law n r b v y hd nar l p sounds one same s =
      let j = s.place in
      let z : 0 + count C w n ≡ count C w n = omega arith in
      let u : j < count C w n = omega (arith, s.high) in
      let cs = rw z at s.cuts in
      let ps = cut_pairs e (cut h e) (pairs_from C w (level C w h) n 0 (count C w n)) in
      let q : trimmed_node h n j s.what ≡ y = stays-is (trimmed_node h n j s.what) y (sym (trim-some h (level C w (suc h) n) ps (up_to e (row C w n j), s.what) _ cs) ∙ p) in
      rw (lost h n (up_to e (row C w n j), s.what) j u ps cs, s.trimmed_in (trims h e))
      (subst (λ (t : Level (suc h)). AllSound C P (suc h) t e b → ((m : ℕ) → occ m (nodes (suc h) t) ≤ 1) → ((m : ℕ) → 0 < occ m (nodes (suc h) t) → Same C w v m)
      → Trimmed C P (suc h) n v (trim_all C (trimmed C v n j e) e (trims h e (level C w h (child C w n j)) (row C w n j))) t) q
      (λ g o sm. by_law h n j s.what b v hd (node-few h n nar) u g o sm law (child-narrow h n j nar u) s.is)
      sounds one same)

  -- the law
  pub path-trim : (h : ℕ) → PathLaw h
  unfolding PathLaw cut trims level trim_all
  path-trim zero n r b v y hd nar p sounds one same =
      record { tree = by_test (ltb r e) (λ u. gone-not y (rw u at p)) (λ u. stays-is n y (rw u at p)); header = hd; beside = λ m z i q. refl }
  path-trim (suc h) n r b v y hd nar p sounds one same =
      by_test (ltb r e)
      (λ u. let p₂ = rw u at p in
      rw u (spot C w (level C w h) n e (cut h e) 0 (count C w n)
      (λ q. gone-not y (sym (trim_nil h (level C w (suc h) n) _ q) ∙ p₂))
      (at-spot h (path-trim h) n r b v y hd nar (ltb-true r e u) p₂ (rw u at sounds) one same)))
      (λ u. let q : level C w (suc h) n ≡ y = stays-is (level C w (suc h) n) y (rw u at p) in
      rw u (record {
        tree = sym (kept C w v (suc h) n nar (λ m z. same m (subst (λ (t : Level (suc h)). 0 < occ m (nodes (suc h) t)) q z))) ∙ q;
        header = hd;
        beside = λ m z i k. refl;
      }))
