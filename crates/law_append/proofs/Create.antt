-- A created store is well-formed: node 0 an empty root leaf, the chain 1, 2, … P − 1.
use Prim.Native.Nat.{ℕ, zero, suc, ◌+◌, ◌-◌, ◌<◌, ◌≤◌}
use mathlib.Core.List.{List, [], ◌∷◌, ◌++◌}
use mathlib.Core.Path.{◌≡◌, refl, sym, ap, ◌∙◌, subst}
use native.Mathlib.Omega.{arith}
use lib.ListN.{length, drop}
use lib.Seq.{sets, sets-eq, length-sets}
use lib.Dec.{leb, ltb, eqb}
use borrow.Author.Tests.{eqb-true, eqb-false, le-leb, lt-ltb, ltb-true, ltb-false, leb-true}
use Rattle.model.specs.Words.{Shape, pick, word, root, sized, part, put, emptied, height, count, start, end, Header, NONE, row_limit, free_mark}
use Rattle.model.specs.Tree.{pairs_from, level, Open}
use Rattle.model.specs.Reading.{occ, in_pairs, nodes, entries}
use Rattle.model.specs.Refusals.{result, refused}
use Rattle.model.specs.WellFormed.{Chain}
use Rattle.model.specs.Create.{chained, new_header, new_store, create}
use Rattle.model.proofs.Tests.{by_test}
use Rattle.model.proofs.Words.{header_at, put-header, put_same, put_other, put_word, put-length}
use Rattle.model.proofs.Header.{sized-header, header-sized}
use Rattle.model.proofs.Frame.{Same, occ_self, occ_nil, nodes_self}
use Rattle.model.proofs.Once.{occ-other}
use Rattle.model.proofs.Writes.{occ_cons, put_keeps, emptied-length, emptied-word}
use Rattle.law_formed.specs.Formed.{Blank, blank, tree_of, Formed}
use Rattle.law_append.specs.Created.{numbers_from}
use Rattle.law_append.proofs.Ends.{blank-entries}

-- Numbers in turn ---------------------------------------------------------------------------------------

length-numbers : (n k : ℕ) → length (numbers_from n k) ≡ k
unfolding numbers_from
length-numbers n zero = refl
length-numbers n (suc k) = ap suc (length-numbers (n + 1) k)

below-numbers : (m n k : ℕ) → m < n → occ m (numbers_from n k) ≡ 0
unfolding numbers_from
below-numbers m n zero l = occ_nil m
below-numbers m n (suc k) l = omega (arith, occ_cons m n (numbers_from (n + 1) k), occ-other m n (omega arith), below-numbers m (n + 1) k (omega arith))

above-numbers : (m n k : ℕ) → n + k ≤ m → occ m (numbers_from n k) ≡ 0
unfolding numbers_from
above-numbers m n zero l = occ_nil m
above-numbers m n (suc k) l = omega (arith, occ_cons m n (numbers_from (n + 1) k), occ-other m n (omega arith), above-numbers m (n + 1) k (omega arith))

among-numbers : (m n k : ℕ) → n ≤ m → m < n + k → occ m (numbers_from n k) ≡ 1
unfolding numbers_from
among-numbers m n zero a b = absurd (omega arith)
among-numbers m n (suc k) a b =
    by_test (eqb m n)
    (λ t. omega (arith, eqb-true m n t, occ_cons m n (numbers_from (n + 1) k), subst (λ (j : ℕ). occ m (j ∷ []) ≡ 1) (eqb-true m n t) (occ_self m), below-numbers m (n + 1) k (omega (arith, eqb-true m n t))))
    (λ t. omega (arith, occ_cons m n (numbers_from (n + 1) k), occ-other m n (eqb-false m n t), among-numbers m (n + 1) k (omega (arith, eqb-false m n t)) (omega arith)))

-- The tree of an empty root -----------------------------------------------------------------------------

new-nodes : (C : Shape) (v : List ℕ) (m : ℕ) → count C v 0 ≡ 0 → occ m (nodes 1 (level C v 1 0)) ≡ occ m (0 ∷ [])
unfolding pairs_from in_pairs occ
new-nodes C v m z = omega (arith, nodes_self C v 0 0 m, ap (λ (k : ℕ). occ m (in_pairs (nodes 0) (pairs_from C v (level C v 0) 0 0 k))) z)

covers : (C : Shape) (P : ℕ) (v : List ℕ) (m : ℕ) → 1 ≤ P → count C v 0 ≡ 0 → occ m (nodes 1 (level C v 1 0)) + occ m (numbers_from 1 (P - 1)) ≡ pick (ltb m P) 1 0
covers C P v m p z =
    by_test (eqb m 0)
    (λ t. let e = eqb-true m 0 t in
    rw (lt-ltb m P (omega arith)) (omega (arith, new-nodes C v m z, subst (λ (j : ℕ). occ m (j ∷ []) ≡ 1) e (occ_self m), below-numbers m 1 (P - 1) (omega arith))))
    (λ t. let d = eqb-false m 0 t in
    by_test (ltb m P)
    (λ u. rw u (omega (arith, new-nodes C v m z, occ-other m 0 d, among-numbers m 1 (P - 1) (omega arith) (omega (arith, ltb-true m P u)))))
    (λ u. rw u (omega (arith, new-nodes C v m z, occ-other m 0 d, above-numbers m 1 (P - 1) (omega (arith, ltb-false m P u))))))

-- The writes --------------------------------------------------------------------------------------------

-- the words of an empty leaf
module _ (C : Shape) (P : ℕ) (w : List ℕ) (hd : Header C.cap P w) (n s : ℕ) (inside : n < P) where
  record Emptied : Type 0 where
    high : height C (emptied C w n s) n ≡ 0
    none : count C (emptied C w n s) n ≡ 0
    begin : start C (emptied C w n s) n ≡ s
    ends : end C (emptied C w n s) n ≡ NONE

  emptied-words : Emptied
  unfolding emptied
  emptied-words =
      let h₀ = put-header C P w hd n 0 0 in
      let h₁ = put-header C P _ h₀ n 1 0 in
      let h₂ = put-header C P _ h₁ n 2 s in
      record {
        high = put_other C _ n 3 0 _ (omega arith) ∙ put_other C _ n 2 0 _ (omega arith) ∙ put_other C _ n 1 0 _ (omega arith) ∙ put_same C P w hd n 0 0 inside (omega arith);
        none = put_other C _ n 3 1 _ (omega arith) ∙ put_other C _ n 2 1 _ (omega arith) ∙ put_same C P _ h₀ n 1 0 inside (omega arith);
        begin = put_other C _ n 3 2 _ (omega arith) ∙ put_same C P _ h₁ n 2 s inside (omega arith);
        ends = put_same C P _ h₂ n 3 NONE inside (omega arith);
      }

module _ (C : Shape) where
  -- one node of the chain
  abbrev link : List ℕ → ℕ → List ℕ
  link w n = put C (put C w n 0 free_mark) n 1 (n + 1)

  chained-length : (w : List ℕ) (n k : ℕ) → length (chained C w n k) ≡ length w
  unfolding chained
  chained-length w n zero = refl
  chained-length w n (suc k) = chained-length (link w n) (n + 1) k ∙ put-length C _ n 1 _ ∙ put-length C w n 0 _

  chained-word : (w : List ℕ) (n k i : ℕ) → i < 8 → word (chained C w n k) i ≡ word w i
  unfolding chained
  chained-word w n zero i l = refl
  chained-word w n (suc k) i l = chained-word (link w n) (n + 1) k i l ∙ put_word C _ n 1 _ i l ∙ put_word C w n 0 _ i l

  chained_keeps : (w : List ℕ) (n k m : ℕ) → m < n → Same C w (chained C w n k) m
  unfolding chained
  chained_keeps w n zero m l j b = refl
  chained_keeps w n (suc k) m l j b =
      put_keeps C w n m 0 _ (omega arith) (omega arith) j b ∙ put_keeps C _ n m 1 _ (omega arith) (omega arith) j b ∙ chained_keeps (link w n) (n + 1) k m (omega arith) j b

  chained-chain : (P : ℕ) (w : List ℕ) (n k : ℕ) → n + k ≡ P → Header C.cap P w → Chain C P (chained C w n k) n (numbers_from n k)
  unfolding chained Chain numbers_from
  chained-chain P w n zero e hd = omega arith
  chained-chain P w n (suc k) e hd =
      let u₁ = put C w n 0 free_mark in
      let u = link w n in
      let h₁ = put-header C P w hd n 0 free_mark in
      let q = chained_keeps u (n + 1) k n (omega arith) in
      let i : n < P = omega arith in (
        refl,
        i,
        sym (q 0 (omega arith)) ∙ put_other C u₁ n 1 0 (n + 1) (omega arith) ∙ put_same C P w hd n 0 free_mark i (omega arith),
        subst (λ (j : ℕ). Chain C P (chained C u (n + 1) k) j (numbers_from (n + 1) k)) (sym (sym (q 1 (omega arith)) ∙ put_same C P u₁ h₁ n 1 (n + 1) i (omega arith)))
            (chained-chain P u (n + 1) k (omega arith) (put-header C P u₁ h₁ n 1 (n + 1))),
      )

-- The call ----------------------------------------------------------------------------------------------

module _ (C : Shape) (P : ℕ) (w : List ℕ) (s : ℕ) where
  -- what an acceptance tells
  record Accepted : Type 0 where
    header : Header C.cap P w
    low : s ≤ row_limit
    words : (create C.slots w C.cap P s).words ≡ new_store C P s w

  accepted : (create C.slots w C.cap P s).answer ≡ result [] → Accepted
  unfolding create
  accepted a =
      by_test (sized C.cap P (length w))
      (λ t. by_test (leb s row_limit)
      (λ u. record { header = sized-header C.cap P w t; low = leb-true s row_limit u; words = rw (t, u) })
      (λ u. let e : refused 4 0 ≡ result [] = rw (t, u) at a in let z : ◌≡◌ {A = ℕ} 0 1 = cc in absurd (omega arith)))
      (λ t. let e : refused 1 0 ≡ result [] = rw t at a in let z : ◌≡◌ {A = ℕ} 0 1 = cc in absurd (omega arith))

  module _ (hd : Header C.cap P w) where
    -- the first words
    head : List ℕ
    head = sets w 0 (new_header C.cap P)

    head-header : Header C.cap P head
    unfolding head
    head-header = header_at C.cap P w head hd (length-sets w 0 (new_header C.cap P))

    u : List ℕ
    u = emptied C head 0 s

    u-header : Header C.cap P u
    unfolding u
    u-header = header_at C.cap P head u head-header (emptied-length C head 0 s)

    v : List ℕ
    v = chained C u 1 (P - 1)

    v-new : new_store C P s w ≡ v
    unfolding new_store v u head
    v-new = refl

    v-word : (i : ℕ) → i < 8 → word v i ≡ word (new_header C.cap P ++ drop 8 w) i
    unfolding v u head
    v-word i l = chained-word C u 1 (P - 1) i l ∙ emptied-word C head 0 s i l ∙ ap (λ (z : List ℕ). word z i) (sets-eq (new_header C.cap P) w 0 (omega (arith, hd.long)))

    -- node 0 is an empty leaf
    v_empty : (j : ℕ) → j < 4 → part C v 0 j ≡ part C u 0 j
    unfolding v
    v_empty j l = sym (chained_keeps C u 1 (P - 1) 0 (omega arith) j (omega arith))

    new-root : root v ≡ 0
    new-root = v-word 2 (omega arith)

    E : Emptied C P head head-header 0 s (omega (arith, hd.pool-low))
    E = emptied-words C P head head-header 0 s (omega (arith, hd.pool-low))

    new-blank : s ≤ row_limit → Blank P 0 (tree_of C v 0) s
    unfolding level pairs_from u
    new-blank l =
        subst (λ (n : ℕ). Blank P 0 (level C v 1 n) s) (sym new-root)
        (record {
          leaf = refl;
          inside = omega (arith, hd.pool-low);
          high = v_empty 0 (omega arith) ∙ E.high;
          none = ap (pairs_from C v (level C v 0) 0 0) (v_empty 1 (omega arith) ∙ E.none);
          begin = v_empty 2 (omega arith) ∙ E.begin;
          low = l;
          ends = v_empty 3 (omega arith) ∙ E.ends;
        })

    new-formed : s ≤ row_limit → Formed C P v 0 s (numbers_from 1 (P - 1))
    unfolding v u
    new-formed l =
        record {
          capacity-is = v-word 0 (omega arith);
          pool-is = v-word 1 (omega arith);
          header = header_at C.cap P u v u-header (chained-length C u 1 (P - 1));
          whole = blank (new-blank l);
          high = omega arith;
          chain = subst (λ (n : ℕ). Chain C P v n (numbers_from 1 (P - 1))) (sym (v-word 3 (omega arith))) (chained-chain C P u 1 (P - 1) (omega (arith, hd.pool-low)) u-header);
          free = v-word 4 (omega arith) ∙ sym (length-numbers 1 (P - 1));
          cover = λ m. subst (λ (n : ℕ). occ m (nodes 1 (level C v 1 n)) + occ m (numbers_from 1 (P - 1)) ≡ pick (ltb m P) 1 0) (sym new-root) (covers C P v m hd.pool-low (v_empty 1 (omega arith) ∙ E.none));
        }

  -- the law
  pub create-formed : (create C.slots w C.cap P s).answer ≡ result [] → Formed C P (create C.slots w C.cap P s).words 0 s (numbers_from 1 (P - 1))
  create-formed a =
      let A = accepted a in
      subst (λ (z : List ℕ). Formed C P z 0 s (numbers_from 1 (P - 1))) (sym (A.words ∙ v-new A.header)) (new-formed A.header A.low)

  pub create_empty : (create C.slots w C.cap P s).answer ≡ result [] → entries 1 (tree_of C (create C.slots w C.cap P s).words 0) s Open ≡ []
  create_empty a =
      let A = accepted a in
      subst (λ (z : List ℕ). entries 1 (tree_of C z 0) s Open ≡ []) (sym (A.words ∙ v-new A.header))
      (blank-entries C P (v A.header) 0 s (new-blank A.header A.low))

  -- it is accepted where C, P, the length and the start fit
  pub create-accepts : Header C.cap P w → s ≤ row_limit → (create C.slots w C.cap P s).answer ≡ result []
  unfolding create
  create-accepts hd l =
      rw (header-sized C.cap P w hd, le-leb s row_limit l)

  pub create-fits : (create C.slots w C.cap P s).answer ≡ result [] → Header C.cap P w × (s ≤ row_limit)
  create-fits a = let A = accepted a in (A.header, A.low)
