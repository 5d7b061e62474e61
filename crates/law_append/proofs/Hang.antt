-- Hanging on the words is hanging on the tree.
use Prim.Native.Nat.{ℕ, zero, suc, ◌+◌, ◌<◌, ◌≤◌}
use mathlib.Core.List.{List, [], ◌∷◌}
use mathlib.Core.Path.{◌≡◌, refl, sym, ap, ◌∙◌}
use mathlib.Core.Logic.{◌≢◌}
use native.Mathlib.Omega.{arith}
use native.Mathlib.Nat.{zero-add}
use native.Mathlib.Numerals.{add-one}
use lib.ListN.{length}
use Rattle.model.specs.Words.{Shape, word, part, put, added, height, count, start, end, row, child, row_place, child_place, node_size, Header}
use Rattle.model.specs.Tree.{Limit, Level, level, last, AllSound}
use Rattle.model.specs.Reading.{occ, nodes, to_right}
use Rattle.model.specs.Append.{top_of, new_path, hang}
use Rattle.model.proofs.Words.{header_at, put-header, put_same, put_other, put_word}
use Rattle.model.proofs.Frame.{Same, occ_self, nodes_self, kept}
use Rattle.model.proofs.Once.{own, lower, some_pairs}
use Rattle.model.proofs.Writes.{pairs_snoc, pairs-same, put_keeps, added-length, added-word, added-count, added-row, added-child, added-part, added-keeps}
use Rattle.law_formed.proofs.Clean.{sound-narrow}
use Rattle.law_append.specs.Grown.{path_tree, end_at, up, hung}
use Rattle.law_append.proofs.Right.{Inside, Distinct, right_at}
use Rattle.law_append.proofs.Last.{same_but_last, few-pairs, child-sound, last-sound, alone, below-child, right_in}
use Rattle.law_append.proofs.Fresh.{path-word, path-header, path-keeps, path-level}

-- what hanging c in node n, of height p, does to the words; ns are the nodes taken
pub record Hangs (C : Shape) (w v : List ℕ) (n p s e c : ℕ) (ns : List ℕ) : Type 0 where
  pub other : (m : ℕ) → m ≢ n → occ m ns ≡ 0 → Same C w v m
  pub high : height C v n ≡ height C w n
  pub begin : start C v n ≡ start C w n
  pub ends : end C v n ≡ end_at p e (end C w n)
  pub counts : count C v n ≡ count C w n + 1
  pub rows : (j : ℕ) → j < count C w n → row C v n j ≡ row C w n j
  pub children : (j : ℕ) → j < count C w n → child C v n j ≡ child C w n j
  pub low : row C v n (count C w n) ≡ s
  pub leads : child C v n (count C w n) ≡ c

pub hang-word : (C : Shape) (w : List ℕ) (n s e x : ℕ) (ns : List ℕ) (i : ℕ) → i < 8 → word (hang C w n s e x ns) i ≡ word w i
unfolding hang
hang-word C w n s e x [] i l = put_word C _ n 3 e i l ∙ added-word C w n s x i l
hang-word C w n s e x (m ∷ ns) i l = path-word C s e x (added C w n s m) (m ∷ ns) i l ∙ added-word C w n s m i l

module _ (C : Shape) (P : ℕ) (w : List ℕ) (hd : Header C.cap P w) (n s e x : ℕ) where
  added-header : (m : ℕ) → Header C.cap P (added C w n s m)
  added-header m = header_at C.cap P w (added C w n s m) hd (added-length C w n s m)

  pub hang-header : (ns : List ℕ) → Header C.cap P (hang C w n s e x ns)
  unfolding hang
  hang-header [] = put-header C P _ (added-header x) n 3 e
  hang-header (m ∷ ns) = path-header C s e x P (added C w n s m) (m ∷ ns) (added-header m)

  pub hang-path : (ns : List ℕ) → Inside P ns → Distinct ns → level C (hang C w n s e x ns) (length ns) (top_of x ns) ≡ path_tree s e x ns
  unfolding hang top_of level path_tree
  hang-path [] i d = refl
  hang-path (m ∷ ns) i d = path-level C s e x P (added C w n s m) (m ∷ ns) (added-header m) i d

  module _ (inside : n < P) (space : count C w n < C.cap) where
    -- a word of n that one more entry leaves
    stays : (m k : ℕ) → k ≢ 1 → k ≢ row_place (count C w n) → k ≢ child_place (count C w n) → part C (added C w n s m) n k ≡ part C w n k
    stays m = added-part C w n s m P hd inside space

    pub hang-hangs : (ns : List ℕ) → occ n ns ≡ 0 → Hangs C w (hang C w n s e x ns) n (length ns) s e (top_of x ns) ns
    unfolding hang top_of end_at
    hang-hangs [] z =
        let u = added C w n s x in
        let q : (k : ℕ) → k ≢ 3 → part C (put C u n 3 e) n k ≡ part C u n k = λ k d. put_other C u n 3 k e d in
        record {
          other = λ m d o k b. added-keeps C w n s x P hd inside space m d k b ∙ put_keeps C u n m 3 e d (omega arith) k b;
          high = q 0 (omega arith) ∙ stays x 0 (omega arith) (omega arith) (omega arith);
          begin = q 2 (omega arith) ∙ stays x 2 (omega arith) (omega arith) (omega arith);
          ends = put_same C P u (added-header x) n 3 e inside (omega arith);
          counts = q 1 (omega arith) ∙ added-count C w n s x P hd inside space;
          rows = λ j l. q (row_place j) (omega arith) ∙ stays x (row_place j) (omega arith) (omega arith) (omega arith);
          children = λ j l. q (child_place j) (omega arith) ∙ stays x (child_place j) (omega arith) (omega arith) (omega arith);
          low = q (row_place (count C w n)) (omega arith) ∙ added-row C w n s x P hd inside space;
          leads = q (child_place (count C w n)) (omega arith) ∙ added-child C w n s x P hd inside space;
        }
    hang-hangs (m ∷ ns) z =
        let c : 2 ≤ C.cap = hd.cap-low in
        let u = added C w n s m in
        let k = path-keeps C s e x P u (m ∷ ns) (added-header m) in
        let q : (j : ℕ) → j < node_size C.cap → part C (new_path C u s e x (m ∷ ns)) n j ≡ part C u n j = λ j b. sym (k n z j b) in
        record {
          other = λ j d o i b. added-keeps C w n s m P hd inside space j d i b ∙ k j o i b;
          high = q 0 (omega arith) ∙ stays m 0 (omega arith) (omega arith) (omega arith);
          begin = q 2 (omega arith) ∙ stays m 2 (omega arith) (omega arith) (omega arith);
          ends = q 3 (omega arith) ∙ stays m 3 (omega arith) (omega arith) (omega arith);
          counts = q 1 (omega arith) ∙ added-count C w n s m P hd inside space;
          rows = λ j l. q (row_place j) (omega arith) ∙ stays m (row_place j) (omega arith) (omega arith) (omega arith);
          children = λ j l. q (child_place j) (omega arith) ∙ stays m (child_place j) (omega arith) (omega arith) (omega arith);
          low = q (row_place (count C w n)) (omega arith) ∙ added-row C w n s m P hd inside space;
          leads = q (child_place (count C w n)) (omega arith) ∙ added-child C w n s m P hd inside space;
        }

pub occ_absent : (m n : ℕ) (l : List ℕ) → occ n l ≡ 0 → 0 < occ m l → m ≢ n
occ_absent m n l z p e = let q : occ m l ≡ 0 = rw e z in omega arith

module _ (C : Shape) (P : ℕ) (w : List ℕ) where
  -- what lies below a node is not the node
  pub not-below : (h n r i m : ℕ) (b : Limit) → AllSound C P (suc h) (level C w (suc h) n) r b → i < count C w n → 0 < occ m (nodes h (level C w h (child C w n i))) → m ≢ n
  not-below h n r i m b q l z o =
      let g = child-sound C P w h n r b q i l in
      omega (arith, (own C P w h n r b q).0, ap (height C w) o, lower C P w m h (child C w n i) (row C w n i) g.0 g.1 z)

  -- what lies below a child stays, if its nodes stay
  pub child-kept : (v : List ℕ) (h n r i : ℕ) (b : Limit) → AllSound C P (suc h) (level C w (suc h) n) r b → i < count C w n
      → ((m : ℕ) → 0 < occ m (nodes h (level C w h (child C w n i))) → Same C w v m) → level C w h (child C w n i) ≡ level C v h (child C w n i)
  child-kept v h n r i b q l s =
      let g = child-sound C P w h n r b q i l in
      kept C w v h (child C w n i) (sound-narrow C P h (level C w h (child C w n i)) (row C w n i) g.0 g.1) s

  module _ (v : List ℕ) (s e c : ℕ) (ns : List ℕ) where
    -- the law
    pub hang-level : (d p n r : ℕ) (b : Limit) (y : Level p) → AllSound C P (suc (up p d)) (level C w (suc (up p d)) n) r b
        → ((m : ℕ) → 0 < occ m (nodes (suc (up p d)) (level C w (suc (up p d)) n)) → occ m ns ≡ 0)
        → Hangs C w v (right_at C w d n) p s e c ns → level C v p c ≡ y
        → level C v (suc (up p d)) n ≡ hung d p (level C w (suc (up p d)) n) s e y
    unfolding right_at hung level last
    hang-level zero p n r b y q a H f =
        rw (
          H.high,
          H.begin,
          H.ends,
          H.counts,
          add-one,
          pairs_snoc,
          zero-add,
          H.low,
          H.leads,
          f,
          pairs-same C w v (level C w p) (level C v p) n n 0 (count C w n)
              (λ j l i. (
                sym (H.rows j (omega arith)),
                sym (H.children j (omega arith)),
                child-kept v p n r j b q (omega arith) (λ m z. H.other m (not-below p n r j m b q (omega arith) z) (a m (below-child C P w p n j m (omega arith) z))),
              )),
        )
    hang-level (suc d) p n r b y q a H f =
        let h = suc (up p d) in
        let i : 0 < count C w n = some_pairs C P w h n r b q in
        let k = child C w n (to_right C w n) in
        let z = last-sound C P w h n r b q in
        let t = right_in C P w d p k (row C w n (to_right C w n)) b z in
        let x = right_at C w d k in
        same_but_last C w v h n (λ o. hung d p o s e y)
        (H.other n (λ o. not-below h n r (to_right C w n) x b q (omega arith) t.0 (sym o)) (a n (omega (arith, nodes_self C w h n n, occ_self n))))
        i (few-pairs C P w h n r b q).0
        (λ j l. child-kept v h n r j b q (omega arith)
        (λ m u. H.other m (occ_absent m x (nodes h (level C w h (child C w n j))) (alone C P w h n r b q x j l t.0) u) (a m (below-child C P w h n j m (omega arith) u))))
        (hang-level d p k (row C w n (to_right C w n)) b y z (λ m u. a m (below-child C P w h n (to_right C w n) m (omega arith) u)) H f)
