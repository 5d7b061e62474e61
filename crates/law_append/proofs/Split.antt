-- Splitting the root on the words is splitting it on the tree.
use Prim.Native.Nat.{ℕ, suc, ◌+◌, ◌<◌, ◌≤◌}
use mathlib.Core.List.{List, [], ◌∷◌}
use mathlib.Core.Path.{◌≡◌, sym, ap, ◌∙◌}
use mathlib.Core.Logic.{◌≢◌}
use native.Mathlib.Omega.{arith}
use lib.ListN.{length}
use Rattle.model.specs.Words.{Shape, word, part, put, copied, height, count, start, end, row, child, row_place, child_place, node_size, Header, NONE}
use Rattle.model.specs.Tree.{Limit, Level, pairs_from, level, AllSound}
use Rattle.model.specs.Reading.{occ, nodes}
use Rattle.model.specs.Append.{top_of, new_path, raised, split_root}
use Rattle.model.proofs.Words.{header_at, put-header, put_same, put_other, put_word, put-length}
use Rattle.model.proofs.Frame.{Same}
use Rattle.model.proofs.Once.{own}
use Rattle.model.proofs.Writes.{pairs-same, put_keeps, copied-length, copied-word, copied-keeps, copied-part, not_first, not-rest}
use Rattle.law_append.specs.Grown.{path_tree, renamed, parted}
use Rattle.law_append.proofs.Right.{Inside, Distinct}
use Rattle.law_append.proofs.Last.{few-pairs, below-child}
use Rattle.law_append.proofs.Fresh.{path-word, path-header, path-keeps, path-level}
use Rattle.law_append.proofs.Hang.{not-below, child-kept}

-- the words of a root over c and m
pub record Raised (C : Shape) (w v : List ℕ) (n c s m : ℕ) : Type 0 where
  pub high : height C v n ≡ height C w n + 1
  pub two : count C v n ≡ 2
  pub begin : start C v n ≡ start C w n
  pub ends : end C v n ≡ NONE
  pub low₀ : row C v n 0 ≡ start C w n
  pub leads₀ : child C v n 0 ≡ c
  pub low₁ : row C v n 1 ≡ s
  pub leads₁ : child C v n 1 ≡ m

module _ (C : Shape) (w : List ℕ) (n c s m : ℕ) where
  raised-length : length (raised C w n c s m) ≡ length w
  unfolding raised
  raised-length = simp put-length

  raised-word : (i : ℕ) → i < 8 → word (raised C w n c s m) i ≡ word w i
  unfolding raised
  raised-word i l =
      put_word C _ n _ _ i l ∙ put_word C _ n _ _ i l ∙ put_word C _ n _ _ i l ∙ put_word C _ n _ _ i l ∙ put_word C _ n _ _ i l ∙ put_word C _ n _ _ i l ∙ put_word C w n _ _ i l

  module _ (P : ℕ) (hd : Header C.cap P w) where
    raised-header : Header C.cap P (raised C w n c s m)
    raised-header = header_at C.cap P w (raised C w n c s m) hd raised-length

    raised_keeps : (k : ℕ) → k ≢ n → Same C w (raised C w n c s m) k
    unfolding raised
    raised_keeps k d j b =
        let two : 2 ≤ C.cap = hd.cap-low in
        put_keeps C w n k 0 _ d (omega arith) j b ∙ put_keeps C _ n k 1 _ d (omega arith) j b ∙ put_keeps C _ n k 3 _ d (omega arith) j b ∙ put_keeps C _ n k _ _ d (omega arith) j b
        ∙ put_keeps C _ n k _ _ d (omega arith) j b ∙ put_keeps C _ n k _ _ d (omega arith) j b ∙ put_keeps C _ n k _ _ d (omega arith) j b

    raised-words : n < P → Raised C w (raised C w n c s m) n c s m
    unfolding raised
    raised-words inside =
        let two : 2 ≤ C.cap = hd.cap-low in
        let r₀ = row_place 0 in
        let p₀ = child_place 0 in
        let r₁ = row_place 1 in
        let p₁ = child_place 1 in
        let h₀ = put-header C P w hd n 0 (height C w n + 1) in
        let h₁ = put-header C P _ h₀ n 1 2 in
        let h₃ = put-header C P _ h₁ n 3 NONE in
        let h₄ = put-header C P _ h₃ n r₀ (start C w n) in
        let h₅ = put-header C P _ h₄ n p₀ c in
        let h₆ = put-header C P _ h₅ n r₁ s in
        record {
          high = put_other C _ n p₁ 0 _ (omega arith) ∙ put_other C _ n r₁ 0 _ (omega arith) ∙ put_other C _ n p₀ 0 _ (omega arith) ∙ put_other C _ n r₀ 0 _ (omega arith) ∙ put_other C _ n 3 0 _ (omega arith) ∙ put_other C _ n 1 0 _ (omega arith) ∙ put_same C P w hd n 0 _ inside (omega arith);
          two = put_other C _ n p₁ 1 _ (omega arith) ∙ put_other C _ n r₁ 1 _ (omega arith) ∙ put_other C _ n p₀ 1 _ (omega arith) ∙ put_other C _ n r₀ 1 _ (omega arith) ∙ put_other C _ n 3 1 _ (omega arith) ∙ put_same C P _ h₀ n 1 2 inside (omega arith);
          begin = put_other C _ n p₁ 2 _ (omega arith) ∙ put_other C _ n r₁ 2 _ (omega arith) ∙ put_other C _ n p₀ 2 _ (omega arith) ∙ put_other C _ n r₀ 2 _ (omega arith) ∙ put_other C _ n 3 2 _ (omega arith) ∙ put_other C _ n 1 2 _ (omega arith) ∙ put_other C w n 0 2 _ (omega arith);
          ends = put_other C _ n p₁ 3 _ (omega arith) ∙ put_other C _ n r₁ 3 _ (omega arith) ∙ put_other C _ n p₀ 3 _ (omega arith) ∙ put_other C _ n r₀ 3 _ (omega arith) ∙ put_same C P _ h₁ n 3 NONE inside (omega arith);
          low₀ = put_other C _ n p₁ r₀ _ (omega arith) ∙ put_other C _ n r₁ r₀ _ (omega arith) ∙ put_other C _ n p₀ r₀ _ (omega arith) ∙ put_same C P _ h₃ n r₀ _ inside (omega arith);
          leads₀ = put_other C _ n p₁ p₀ _ (omega arith) ∙ put_other C _ n r₁ p₀ _ (omega arith) ∙ put_same C P _ h₄ n p₀ c inside (omega arith);
          low₁ = put_other C _ n p₁ r₁ _ (omega arith) ∙ put_same C P _ h₅ n r₁ s inside (omega arith);
          leads₁ = put_same C P _ h₆ n p₁ m inside (omega arith);
        }

-- what splitting does to the words; ns are the nodes of the new path
pub record Splits (C : Shape) (w v : List ℕ) (n c s m : ℕ) (ns : List ℕ) : Type 0 where
  pub other : (k : ℕ) → k ≢ n → k ≢ c → occ k ns ≡ 0 → Same C w v k
  pub copy : (j : ℕ) → j ≢ 3 → j < node_size C.cap → part C v c j ≡ part C w n j
  pub ends : end C v c ≡ s
  pub root : Raised C w v n c s m

module _ (C : Shape) (w : List ℕ) (n s e x c : ℕ) (ns : List ℕ) where
  -- the copy has its end; the root stands over it
  u₁ : List ℕ
  u₁ = put C (copied C w n c) c 3 s

  u₂ : List ℕ
  u₂ = raised C u₁ n c s (top_of x ns)

  pub split-word : (i : ℕ) → i < 8 → word (split_root C w n s e x (c ∷ ns)) i ≡ word w i
  unfolding split_root
  split-word i l = path-word C s e x _ ns i l ∙ raised-word C _ n c s (top_of x ns) i l ∙ put_word C _ c 3 s i l ∙ copied-word C n c w i l

  module _ (P : ℕ) (hd : Header C.cap P w) where
    h₀ : Header C.cap P (copied C w n c)
    h₀ = header_at C.cap P w (copied C w n c) hd (copied-length C n c w)

    h₁ : Header C.cap P u₁
    unfolding u₁
    h₁ = put-header C P _ h₀ c 3 s

    h₂ : Header C.cap P u₂
    unfolding u₂
    h₂ = raised-header C u₁ n c s (top_of x ns) P h₁

    keeps₁ : (k : ℕ) → k ≢ c → Same C w u₁ k
    unfolding u₁
    keeps₁ k d j b = copied-keeps C n c w k d j b ∙ put_keeps C _ c k 3 s d (omega arith) j b

    pub split-header : Header C.cap P (split_root C w n s e x (c ∷ ns))
    unfolding split_root u₂ u₁
    split-header = path-header C s e x P u₂ ns h₂

    pub split-path : Inside P ns → Distinct ns → level C (split_root C w n s e x (c ∷ ns)) (length ns) (top_of x ns) ≡ path_tree s e x ns
    unfolding split_root u₂ u₁
    split-path i d = path-level C s e x P u₂ ns h₂ i d

    pub split-splits : n ≢ c → n < P → c < P → occ n ns ≡ 0 → occ c ns ≡ 0 → Splits C w (split_root C w n s e x (c ∷ ns)) n c s (top_of x ns) ns
    unfolding split_root u₂ u₁
    split-splits apart inside i zn zc =
        let two : 2 ≤ C.cap = hd.cap-low in
        let q = path-keeps C s e x P u₂ ns h₂ in
        let root : (j : ℕ) → j < node_size C.cap → part C (new_path C u₂ s e x ns) n j ≡ part C u₂ n j = λ j b. sym (q n zn j b) in
        let R = raised-words C u₁ n c s (top_of x ns) P h₁ inside in
        let tail : (j : ℕ) → j < node_size C.cap → part C (new_path C u₂ s e x ns) c j ≡ part C u₁ c j = λ j b. sym (raised_keeps C u₁ n c s (top_of x ns) P h₁ c (λ o. apart (sym o)) j b ∙ q c zc j b) in
        record {
          other = λ k d f z j b. keeps₁ k f j b ∙ raised_keeps C u₁ n c s (top_of x ns) P h₁ k d j b ∙ q k z j b;
          copy = λ j d b. tail j b ∙ put_other C _ c 3 j s d ∙ copied-part C n c w P hd apart i j b;
          ends = tail 3 (omega arith) ∙ put_same C P _ h₀ c 3 s i (omega arith);
          root = record {
            high = root 0 (omega arith) ∙ R.high ∙ ap (λ (k : ℕ). k + 1) (sym (keeps₁ n apart 0 (omega arith)));
            two = root 1 (omega arith) ∙ R.two;
            begin = root 2 (omega arith) ∙ R.begin ∙ sym (keeps₁ n apart 2 (omega arith));
            ends = root 3 (omega arith) ∙ R.ends;
            low₀ = root (row_place 0) (omega arith) ∙ R.low₀ ∙ sym (keeps₁ n apart 2 (omega arith));
            leads₀ = root (child_place 0) (omega arith) ∙ R.leads₀;
            low₁ = root (row_place 1) (omega arith) ∙ R.low₁;
            leads₁ = root (child_place 1) (omega arith) ∙ R.leads₁;
          };
        }

module _ (C : Shape) (P : ℕ) (w v : List ℕ) (n c s m : ℕ) (ns : List ℕ) (h r : ℕ) (b : Limit) (q : AllSound C P (suc h) (level C w (suc h) n) r b)
    (free : (k : ℕ) → 0 < occ k (nodes (suc h) (level C w (suc h) n)) → occ k (c ∷ ns) ≡ 0) (S : Splits C w v n c s m ns) where
  -- the copy is the root under another number
  copy-level : level C v (suc h) c ≡ renamed h (level C w (suc h) n) c s
  unfolding level renamed
  copy-level =
      let u = (few-pairs C P w h n r b q).0 in
      rw (
        S.copy 0 (omega arith) (omega arith),
        S.copy 1 (omega arith) (omega arith),
        S.copy 2 (omega arith) (omega arith),
        S.ends,
        pairs-same C w v (level C w h) (level C v h) n c 0 (count C w n)
            (λ j l i. (
              sym (S.copy (row_place j) (omega arith) (omega arith)),
              sym (S.copy (child_place j) (omega arith) (omega arith)),
              child-kept C P w v h n r j b q (omega arith)
                  (λ k z. let f = free k (below-child C P w h n j k (omega arith) z) in
                  S.other k (not-below C P w h n r j k b q (omega arith) z) (not_first k c ns f) (not-rest k c ns f)),
            )),
      )

  -- the law
  pub split_level : (y : Level (suc h)) → level C v (suc h) m ≡ y → level C v (suc (suc h)) n ≡ parted h (level C w (suc h) n) c s y
  unfolding level parted pairs_from
  split_level y f =
      let R = S.root in
      let e : height C w n + 1 ≡ suc h = omega (arith, (own C P w h n r b q).0) in
      let made : ℕ → Level (suc h) → Level (suc h) → Level (suc (suc h)) = λ a k z. record { number = n; height = a; start = start C w n; end = NONE; pairs = (start C w n, k) ∷ (s, z) ∷ [] } in
      rw (R.high, R.two, R.begin, R.ends, R.low₀, R.leads₀, R.low₁, R.leads₁)
      (ap (λ (a : ℕ). made a (level C v (suc h) c) (level C v (suc h) m)) e ∙ ap (λ (k : Level (suc h)). made (suc h) k (level C v (suc h) m)) copy-level ∙ ap (made (suc h) (renamed h (level C w (suc h) n) c s)) f)
