-- New nodes and new paths, on the words.
use Prim.Native.Nat.{ℕ, ◌<◌, ◌≤◌}
use mathlib.Core.List.{List, [], ◌∷◌}
use mathlib.Core.Path.{◌≡◌, refl, ◌∙◌}
use mathlib.Core.Logic.{◌≢◌}
use native.Mathlib.Omega.{arith}
use lib.ListN.{length}
use Rattle.model.specs.Words.{Shape, word, height, count, start, end, row, child, row_place, child_place, Header}
use Rattle.model.specs.Tree.{pairs_from, level}
use Rattle.model.specs.Reading.{occ}
use Rattle.model.specs.Append.{fresh, top_of, end_over, new_path}
use Rattle.model.proofs.Words.{header_at, put-header, put_same, put_other, put_word, put-length}
use Rattle.model.proofs.Frame.{Same}
use Rattle.model.proofs.Writes.{put_keeps, not_first, not-rest}
use Rattle.law_append.specs.Grown.{path_tree}
use Rattle.law_append.proofs.Right.{Inside, Distinct}

module _ (C : Shape) (w : List ℕ) (n h s e x : ℕ) where
  fresh-length : length (fresh C w n h s e x) ≡ length w
  unfolding fresh
  fresh-length = simp put-length

  fresh-word : (i : ℕ) → i < 8 → word (fresh C w n h s e x) i ≡ word w i
  unfolding fresh
  fresh-word i l = put_word C _ n _ _ i l ∙ put_word C _ n _ _ i l ∙ put_word C _ n _ _ i l ∙ put_word C _ n _ _ i l ∙ put_word C _ n _ _ i l ∙ put_word C w n _ _ i l

  module _ (P : ℕ) (hd : Header C.cap P w) where
    pub fresh-header : Header C.cap P (fresh C w n h s e x)
    fresh-header = header_at C.cap P w (fresh C w n h s e x) hd fresh-length

    fresh_keeps : (m : ℕ) → m ≢ n → Same C w (fresh C w n h s e x) m
    unfolding fresh
    fresh_keeps m d k b =
        let c = hd.cap-low in
        put_keeps C w n m 0 _ d (omega arith) k b ∙ put_keeps C _ n m 1 _ d (omega arith) k b ∙ put_keeps C _ n m 2 _ d (omega arith) k b
        ∙ put_keeps C _ n m 3 _ d (omega arith) k b ∙ put_keeps C _ n m _ _ d (omega arith) k b ∙ put_keeps C _ n m _ _ d (omega arith) k b

    module _ (inside : n < P) where
      -- the words of a fresh node
      record Fresh : Type 0 where
        high : height C (fresh C w n h s e x) n ≡ h
        one : count C (fresh C w n h s e x) n ≡ 1
        begin : start C (fresh C w n h s e x) n ≡ s
        ends : end C (fresh C w n h s e x) n ≡ e
        low : row C (fresh C w n h s e x) n 0 ≡ s
        leads : child C (fresh C w n h s e x) n 0 ≡ x

      fresh-words : Fresh
      unfolding fresh
      fresh-words =
          let c : 2 ≤ C.cap = hd.cap-low in
          let r = row_place 0 in
          let p = child_place 0 in
          let h₀ = put-header C P w hd n 0 h in
          let h₁ = put-header C P _ h₀ n 1 1 in
          let h₂ = put-header C P _ h₁ n 2 s in
          let h₃ = put-header C P _ h₂ n 3 e in
          let h₄ = put-header C P _ h₃ n r s in
          record {
            high = put_other C _ n p 0 _ (omega arith) ∙ put_other C _ n r 0 _ (omega arith) ∙ put_other C _ n 3 0 _ (omega arith) ∙ put_other C _ n 2 0 _ (omega arith) ∙ put_other C _ n 1 0 _ (omega arith) ∙ put_same C P w hd n 0 h inside (omega arith);
            one = put_other C _ n p 1 _ (omega arith) ∙ put_other C _ n r 1 _ (omega arith) ∙ put_other C _ n 3 1 _ (omega arith) ∙ put_other C _ n 2 1 _ (omega arith) ∙ put_same C P _ h₀ n 1 1 inside (omega arith);
            begin = put_other C _ n p 2 _ (omega arith) ∙ put_other C _ n r 2 _ (omega arith) ∙ put_other C _ n 3 2 _ (omega arith) ∙ put_same C P _ h₁ n 2 s inside (omega arith);
            ends = put_other C _ n p 3 _ (omega arith) ∙ put_other C _ n r 3 _ (omega arith) ∙ put_same C P _ h₂ n 3 e inside (omega arith);
            low = put_other C _ n p r _ (omega arith) ∙ put_same C P _ h₃ n r s inside (omega arith);
            leads = put_same C P _ h₄ n p x inside (omega arith);
          }

module _ (C : Shape) (s e x : ℕ) where
  pub path-word : (w : List ℕ) (ns : List ℕ) (i : ℕ) → i < 8 → word (new_path C w s e x ns) i ≡ word w i
  unfolding new_path
  path-word w [] i l = refl
  path-word w (n ∷ ns) i l = path-word (fresh C w n (length ns) s (end_over e ns) (top_of x ns)) ns i l ∙ fresh-word C w n (length ns) s (end_over e ns) (top_of x ns) i l

  module _ (P : ℕ) where
    pub path-header : (w : List ℕ) (ns : List ℕ) → Header C.cap P w → Header C.cap P (new_path C w s e x ns)
    unfolding new_path
    path-header w [] hd = hd
    path-header w (n ∷ ns) hd = path-header (fresh C w n (length ns) s (end_over e ns) (top_of x ns)) ns (fresh-header C w n (length ns) s (end_over e ns) (top_of x ns) P hd)

    pub path-keeps : (w : List ℕ) (ns : List ℕ) → Header C.cap P w → (m : ℕ) → occ m ns ≡ 0 → Same C w (new_path C w s e x ns) m
    unfolding new_path
    path-keeps w [] hd m z k b = refl
    path-keeps w (n ∷ ns) hd m z k b =
        fresh_keeps C w n (length ns) s (end_over e ns) (top_of x ns) P hd m (not_first m n ns z) k b
        ∙ path-keeps (fresh C w n (length ns) s (end_over e ns) (top_of x ns)) ns (fresh-header C w n (length ns) s (end_over e ns) (top_of x ns) P hd) m (not-rest m n ns z) k b

    -- the law
    pub path-level : (w : List ℕ) (ns : List ℕ) → Header C.cap P w → Inside P ns → Distinct ns → level C (new_path C w s e x ns) (length ns) (top_of x ns) ≡ path_tree s e x ns
    unfolding new_path level path_tree top_of Inside Distinct pairs_from
    path-level w [] hd i d = refl
    path-level w (n ∷ ns) hd i d =
        let c : 2 ≤ C.cap = hd.cap-low in
        let u = fresh C w n (length ns) s (end_over e ns) (top_of x ns) in
        let hu = fresh-header C w n (length ns) s (end_over e ns) (top_of x ns) P hd in
        let q = fresh-words C w n (length ns) s (end_over e ns) (top_of x ns) P hd i.0 in
        let k = path-keeps u ns hu n d.0 in
        rw (← k 0 (omega arith), ← k 1 (omega arith), ← k 2 (omega arith), ← k 3 (omega arith), q.high, q.one, q.begin, q.ends, ← k (row_place 0) (omega arith), ← k (child_place 0) (omega arith), q.low, q.leads, path-level u ns hu i.1 d.1)
