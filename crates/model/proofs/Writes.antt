-- What the shared writes leave: which words are new, and that all others stay.
use Prim.Native.Nat.{ℕ, zero, suc, ◌+◌, ◌<◌, ◌≤◌}
use mathlib.Core.List.{List, [], ◌∷◌, ◌++◌}
use mathlib.Core.Path.{◌≡◌, refl, sym, ap, ◌∙◌, subst}
use mathlib.Core.Logic.{⊎_elim, ◌≢◌}
use native.Mathlib.Omega.{arith}
use native.Mathlib.Nat.{add-zero, eq-or-lt_of_le}
use lib.ListN.{set, length, length-set}
use lib.Seq.{get_or-set_same, get_or-set_other}
use Rattle.model.specs.Words.{Shape, word, free_head, free_count, part, put, height, count, row, child, row_place, child_place, node_size, free_mark, Header, emptied, added, copy_from, copied, freed, free_all}
use Rattle.model.specs.Tree.{pairs_from}
use Rattle.model.specs.Reading.{occ}
use Rattle.model.specs.WellFormed.{Chain}
use Rattle.model.proofs.Words.{put_same, put_other, put-node, put_word, put-length, set-part, put-header, header_at}
use Rattle.model.proofs.Frame.{Same, occ-append, occ_self}

-- Members of a list -------------------------------------------------------------------------------------

pub occ_cons : (m n : ℕ) (ns : List ℕ) → occ m (n ∷ ns) ≡ occ m (n ∷ []) + occ m ns
occ_cons m n ns = occ-append m (n ∷ []) ns

pub not_first : (m n : ℕ) (ns : List ℕ) → occ m (n ∷ ns) ≡ 0 → m ≢ n
not_first m n ns z e = absurd (omega (arith, occ_cons m n ns, subst (λ (k : ℕ). occ k (n ∷ []) ≡ 1) (sym e) (occ_self n)))

pub not-rest : (m n : ℕ) (ns : List ℕ) → occ m (n ∷ ns) ≡ 0 → occ m ns ≡ 0
not-rest m n ns z = omega (arith, occ_cons m n ns)

pub occ-here : (n : ℕ) (ns : List ℕ) → 0 < occ n (n ∷ ns)
occ-here n ns = omega (arith, occ_cons n n ns, occ_self n)

pub occ_in : (m n : ℕ) (ns : List ℕ) → 0 < occ m ns → 0 < occ m (n ∷ ns)
occ_in m n ns p = omega (arith, occ_cons m n ns)

-- Pairs -------------------------------------------------------------------------------------------------

-- one pair more, at the end
pub pairs_snoc : {K : Type 0} (C : Shape) (w : List ℕ) (f : ℕ → K) (n i k : ℕ) → pairs_from C w f n i (suc k) ≡ pairs_from C w f n i k ++ ((row C w n (i + k), f (child C w n (i + k))) ∷ [])
unfolding pairs_from
pairs_snoc C w f n i zero = rw add-zero
pairs_snoc C w f n i (suc k) =
    let e : i + 1 + k ≡ i + suc k = omega arith in
    ap (λ (l : List (ℕ × _)). (row C w n i, f (child C w n i)) ∷ l) (pairs_snoc C w f n (i + 1) k ∙ rw e)

-- the pairs of node a in w are those of node b in v
pub pairs-same : {K : Type 0} (C : Shape) (w v : List ℕ) (f g : ℕ → K) (a b i k : ℕ)
    → ((j : ℕ) → i ≤ j → j < i + k → (row C w a j ≡ row C v b j) × (child C w a j ≡ child C v b j) × (f (child C w a j) ≡ g (child C w a j)))
    → pairs_from C w f a i k ≡ pairs_from C v g b i k
unfolding pairs_from
pairs-same C w v f g a b i zero e = refl
pairs-same C w v f g a b i (suc k) e =
    let q = e i (omega arith) (omega arith) in
    rw (q.0, q.2, q.1, pairs-same C w v f g a b (i + 1) k (λ j x y. e j (omega arith) (omega arith)))

-- One node written --------------------------------------------------------------------------------------

pub put_keeps : (C : Shape) (w : List ℕ) (n m j x : ℕ) → m ≢ n → j < node_size C.cap → Same C w (put C w n j x) m
put_keeps C w n m j x d l k b = sym (put-node C w n m j k x d l b)

pub set_keeps : (C : Shape) (w : List ℕ) (i x m : ℕ) → i < 8 → Same C w (set w i x) m
set_keeps C w i x m l k b = sym (set-part C w i x m k l)

module _ (C : Shape) (w : List ℕ) (n s : ℕ) where
  pub emptied-keeps : (m : ℕ) → m ≢ n → Same C w (emptied C w n s) m
  unfolding emptied
  emptied-keeps m d k b =
      put_keeps C w n m 0 _ d (omega arith) k b ∙ put_keeps C _ n m 1 _ d (omega arith) k b ∙ put_keeps C _ n m 2 _ d (omega arith) k b ∙ put_keeps C _ n m 3 _ d (omega arith) k b

  pub emptied-word : (i : ℕ) → i < 8 → word (emptied C w n s) i ≡ word w i
  unfolding emptied
  emptied-word i l = put_word C _ n 3 _ i l ∙ put_word C _ n 2 _ i l ∙ put_word C _ n 1 _ i l ∙ put_word C w n 0 _ i l

  pub emptied-length : length (emptied C w n s) ≡ length w
  unfolding emptied
  emptied-length = put-length C _ n 3 _ ∙ put-length C _ n 2 _ ∙ put-length C _ n 1 _ ∙ put-length C w n 0 _

module _ (C : Shape) (w : List ℕ) (n r x : ℕ) where
  pub added-length : length (added C w n r x) ≡ length w
  unfolding added
  added-length = put-length C _ n 1 _ ∙ put-length C _ n _ _ ∙ put-length C w n _ _

  pub added-word : (i : ℕ) → i < 8 → word (added C w n r x) i ≡ word w i
  unfolding added
  added-word i l = put_word C _ n 1 _ i l ∙ put_word C _ n _ _ i l ∙ put_word C w n _ _ i l

  module _ (P : ℕ) (hd : Header C.cap P w) (inside : n < P) (space : count C w n < C.cap) where
    pub added-count : count C (added C w n r x) n ≡ count C w n + 1
    unfolding added
    added-count = put_same C P _ (put-header C P _ (put-header C P w hd n _ r) n _ x) n 1 _ inside (omega arith)

    pub added-row : row C (added C w n r x) n (count C w n) ≡ r
    unfolding added
    added-row = put_other C _ n 1 _ _ (omega arith) ∙ put_other C _ n _ _ x (omega arith) ∙ put_same C P w hd n _ r inside (omega arith)

    pub added-child : child C (added C w n r x) n (count C w n) ≡ x
    unfolding added
    added-child = put_other C _ n 1 _ _ (omega arith) ∙ put_same C P _ (put-header C P w hd n _ r) n _ x inside (omega arith)

    -- every other word of n: not its count, and no place of the new pair
    pub added-part : (k : ℕ) → k ≢ 1 → k ≢ row_place (count C w n) → k ≢ child_place (count C w n) → part C (added C w n r x) n k ≡ part C w n k
    unfolding added
    added-part k a b c = put_other C _ n 1 k _ a ∙ put_other C _ n _ k x c ∙ put_other C w n _ k r b

    pub added-keeps : (m : ℕ) → m ≢ n → Same C w (added C w n r x) m
    unfolding added
    added-keeps m d k b = put_keeps C w n m _ r d (omega arith) k b ∙ put_keeps C _ n m _ x d (omega arith) k b ∙ put_keeps C _ n m 1 _ d (omega arith) k b

-- A node copied -----------------------------------------------------------------------------------------

module _ (C : Shape) (a c : ℕ) where
  copy-length : (w : List ℕ) (i k : ℕ) → length (copy_from C w a c i k) ≡ length w
  unfolding copy_from
  copy-length w i zero = refl
  copy-length w i (suc k) = copy-length (put C w c i (part C w a i)) (i + 1) k ∙ put-length C w c i _

  copy-word : (w : List ℕ) (i k j : ℕ) → j < 8 → word (copy_from C w a c i k) j ≡ word w j
  unfolding copy_from
  copy-word w i zero j l = refl
  copy-word w i (suc k) j l = copy-word (put C w c i (part C w a i)) (i + 1) k j l ∙ put_word C w c i _ j l

  copy-keeps : (w : List ℕ) (i k m : ℕ) → i + k ≤ node_size C.cap → m ≢ c → Same C w (copy_from C w a c i k) m
  unfolding copy_from
  copy-keeps w i zero m l d j b = refl
  copy-keeps w i (suc k) m l d j b = put_keeps C w c m i _ d (omega arith) j b ∙ copy-keeps (put C w c i (part C w a i)) (i + 1) k m (omega arith) d j b

  -- words before i stay
  copy-before : (w : List ℕ) (i k j : ℕ) → j < i → part C (copy_from C w a c i k) c j ≡ part C w c j
  unfolding copy_from
  copy-before w i zero j b = refl
  copy-before w i (suc k) j b = copy-before (put C w c i (part C w a i)) (i + 1) k j (omega arith) ∙ put_other C w c i j _ (omega arith)

  module _ (P : ℕ) (apart : a ≢ c) (inside : c < P) where
    copy-part : (w : List ℕ) → Header C.cap P w → (i k j : ℕ) → i + k ≤ node_size C.cap → i ≤ j → j < i + k → part C (copy_from C w a c i k) c j ≡ part C w a j
    unfolding copy_from
    copy-part w hd i zero j l f g = absurd (omega arith)
    copy-part w hd i (suc k) j l f g =
        let u = put C w c i (part C w a i) in
        ⊎_elim
        (λ (e : i ≡ j). rw (← e) (copy-before u (i + 1) k i (omega arith) ∙ put_same C P w hd c i (part C w a i) inside (omega arith)))
        (λ (h : i < j). copy-part u (put-header C P w hd c i (part C w a i)) (i + 1) k j (omega arith) (omega arith) (omega arith) ∙ put-node C w c a i j (part C w a i) apart (omega arith) (omega arith))
        (eq-or-lt_of_le f)

  module _ (w : List ℕ) where
    pub copied-length : length (copied C w a c) ≡ length w
    unfolding copied
    copied-length = copy-length w 0 (node_size C.cap)

    pub copied-word : (j : ℕ) → j < 8 → word (copied C w a c) j ≡ word w j
    unfolding copied
    copied-word j l = copy-word w 0 (node_size C.cap) j l

    pub copied-keeps : (m : ℕ) → m ≢ c → Same C w (copied C w a c) m
    unfolding copied
    copied-keeps m d = copy-keeps w 0 (node_size C.cap) m (omega arith) d

    pub copied-part : (P : ℕ) → Header C.cap P w → a ≢ c → c < P → (j : ℕ) → j < node_size C.cap → part C (copied C w a c) c j ≡ part C w a j
    unfolding copied
    copied-part P hd apart inside j l = copy-part P apart inside w hd 0 (node_size C.cap) j (omega arith) (omega arith) (omega arith)

-- Nodes freed -------------------------------------------------------------------------------------------

module _ (C : Shape) (w : List ℕ) (n : ℕ) where
  -- the words after the node's own two, and after the head
  abbrev marked : List ℕ
  marked = put C (put C w n 0 free_mark) n 1 (free_head w)

  abbrev headed : List ℕ
  headed = set marked 3 n

  pub freed-length : length (freed C w n) ≡ length w
  unfolding freed
  freed-length = simp (length-set, put-length)

  pub freed-keeps : (m : ℕ) → m ≢ n → Same C w (freed C w n) m
  unfolding freed
  freed-keeps m d k b =
      put_keeps C w n m 0 _ d (omega arith) k b ∙ put_keeps C _ n m 1 _ d (omega arith) k b ∙ set_keeps C marked 3 n m (omega arith) k b ∙ set_keeps C headed 4 (free_count w + 1) m (omega arith) k b

  -- header words other than the head and the count
  pub freed-word : (i : ℕ) → i < 8 → i ≢ 3 → i ≢ 4 → word (freed C w n) i ≡ word w i
  unfolding freed
  freed-word i l a b = get_or-set_other headed 4 i (free_count w + 1) 0 b ∙ get_or-set_other marked 3 i n 0 a ∙ put_word C _ n 1 _ i l ∙ put_word C w n 0 _ i l

  -- its third word and those after it stay
  pub freed-part : (j : ℕ) → 2 ≤ j → part C (freed C w n) n j ≡ part C w n j
  unfolding freed
  freed-part j l = set-part C headed 4 (free_count w + 1) n j (omega arith) ∙ set-part C marked 3 n n j (omega arith) ∙ put_other C _ n 1 j _ (omega arith) ∙ put_other C w n 0 j _ (omega arith)

  module _ (P : ℕ) (hd : Header C.cap P w) where
    long : 8 ≤ length w
    long = omega (arith, hd.long)

    pub freed-head : free_head (freed C w n) ≡ n
    unfolding freed
    freed-head =
        get_or-set_other headed 4 3 (free_count w + 1) 0 (λ e. omega arith)
        ∙ get_or-set_same marked 3 n 0 (omega (arith, long, put-length C (put C w n 0 free_mark) n 1 (free_head w), put-length C w n 0 free_mark))

    pub freed-count : free_count (freed C w n) ≡ free_count w + 1
    unfolding freed
    freed-count =
        get_or-set_same headed 4 (free_count w + 1) 0 (omega (arith, long, length-set marked 3 n, put-length C (put C w n 0 free_mark) n 1 (free_head w), put-length C w n 0 free_mark))

    module _ (inside : n < P) where
      pub freed_mark : height C (freed C w n) n ≡ free_mark
      unfolding freed
      freed_mark = set-part C headed 4 (free_count w + 1) n 0 (omega arith) ∙ set-part C marked 3 n n 0 (omega arith) ∙ put_other C _ n 1 0 _ (omega arith) ∙ put_same C P w hd n 0 _ inside (omega arith)

      pub freed-next : count C (freed C w n) n ≡ free_head w
      unfolding freed
      freed-next = set-part C headed 4 (free_count w + 1) n 1 (omega arith) ∙ set-part C marked 3 n n 1 (omega arith) ∙ put_same C P _ (put-header C P w hd n 0 _) n 1 _ inside (omega arith)

module _ (C : Shape) where
  pub free-all-length : (w : List ℕ) (ns : List ℕ) → length (free_all C w ns) ≡ length w
  unfolding free_all
  free-all-length w [] = refl
  free-all-length w (n ∷ ns) = free-all-length (freed C w n) ns ∙ freed-length C w n

  pub free-all-keeps : (w : List ℕ) (ns : List ℕ) (m : ℕ) → occ m ns ≡ 0 → Same C w (free_all C w ns) m
  unfolding free_all
  free-all-keeps w [] m z k b = refl
  free-all-keeps w (n ∷ ns) m z k b = freed-keeps C w n m (not_first m n ns z) k b ∙ free-all-keeps (freed C w n) ns m (not-rest m n ns z) k b

  pub free-all-word : (w : List ℕ) (ns : List ℕ) (i : ℕ) → i < 8 → i ≢ 3 → i ≢ 4 → word (free_all C w ns) i ≡ word w i
  unfolding free_all
  free-all-word w [] i l a b = refl
  free-all-word w (n ∷ ns) i l a b = free-all-word (freed C w n) ns i l a b ∙ freed-word C w n i l a b

  pub free-all-count : (P : ℕ) (w : List ℕ) (ns : List ℕ) → Header C.cap P w → free_count (free_all C w ns) ≡ free_count w + length ns
  unfolding free_all
  free-all-count P w [] hd = sym (add-zero (free_count w))
  free-all-count P w (n ∷ ns) hd =
      omega (arith, free-all-count P (freed C w n) ns (header_at C.cap P w (freed C w n) hd (freed-length C w n)), freed-count C w n P hd)

-- the chain depends on its nodes alone
pub chain_same : (C : Shape) (P : ℕ) (w v : List ℕ) (ns : List ℕ) (n : ℕ) → ((m : ℕ) → 0 < occ m ns → Same C w v m) → Chain C P w n ns → Chain C P v n ns
unfolding Chain
chain_same C P w v [] n s c = c
chain_same C P w v (m ∷ ms) n s c =
    let q = s m (occ-here m ms) in
    (c.0, c.1, sym (q 0 (omega arith)) ∙ c.2, subst (λ (k : ℕ). Chain C P v k ms) (q 1 (omega arith)) (chain_same C P w v ms (count C w m) (λ k p. s k (occ_in k m ms p)) c.3))

-- freed nodes stand before the chain, the last one first
pub chain-freed : (C : Shape) (P : ℕ) (w : List ℕ) → Header C.cap P w → (n : ℕ) → n < P → (ns : List ℕ) → occ n ns ≡ 0 → Chain C P w (free_head w) ns → Chain C P (freed C w n) (free_head (freed C w n)) (n ∷ ns)
unfolding Chain
chain-freed C P w hd n inside ns z c = (
  freed-head C w n P hd,
  inside,
  freed_mark C w n P hd inside,
  subst (λ (k : ℕ). Chain C P (freed C w n) k ns) (sym (freed-next C w n P hd inside))
      (chain_same C P w (freed C w n) ns (free_head w) (λ m p. freed-keeps C w n m (λ e. omega (arith, subst (λ (k : ℕ). occ k ns ≡ 0) (sym e) z))) c),
)
