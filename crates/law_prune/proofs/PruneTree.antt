-- The words that prune leaves hold the cut tree, collapsed, or an empty root leaf; the freed nodes stand before the
-- chain.
use Prim.Native.Nat.{ℕ, suc, ◌+◌, ◌<◌, ◌≤◌}
use mathlib.Core.List.{List, [], ◌∷◌, ◌++◌, reverse, reverse-cons, append_assoc}
use mathlib.Core.Path.{◌≡◌, refl, sym, ap, ◌∙◌, subst}
use mathlib.Core.Logic.{◌≢◌}
use native.Mathlib.Omega.{arith}
use lib.ListN.{length}
use lib.Dec.{ltb, ltb→lt}
use borrow.Author.Tests.{ltb-true}
use Rattle.model.specs.Words.{Shape, word, pick, free_head, free_count, put, height, count, start, end, Header, NONE, emptied, freed, free_all}
use Rattle.model.specs.Tree.{Limit, Level, pairs_from, level, all_pairs, AllSound}
use Rattle.model.specs.Reading.{entries, occ, in_pairs, nodes}
use Rattle.model.specs.WellFormed.{Chain}
use Rattle.model.specs.Cut.{gone, stays, if_gone, cut, trims}
use Rattle.model.specs.Prune.{trim_all, copy_all, prune_tree}
use Rattle.model.proofs.Tests.{by_test}
use Rattle.model.proofs.Words.{put_same, put_other, put-header, header_at}
use Rattle.model.proofs.Frame.{Same, Narrow, kept, occ-append, occ_self}
use Rattle.model.proofs.Once.{own}
use Rattle.model.proofs.Writes.{occ_cons, occ-here, occ_in, emptied-keeps, emptied-word, emptied-length, freed-length, free-all-length, free-all-keeps, free-all-word, free-all-count, chain_same, chain-freed}
use Rattle.law_formed.specs.Well.{Well}
use Rattle.law_formed.proofs.Clean.{well-sound, sound-narrow}
use Rattle.law_prune.specs.Cutting.{Tree, tree_nodes, gone_nodes, collapse, copied_nodes, drop_to, Lands, reset_tree}
use Rattle.law_prune.proofs.Rests.{up_to, cut-number}
use Rattle.law_prune.proofs.Trim.{trims-word}
use Rattle.law_prune.proofs.Copy.{Collapsed, CopyLaw, copy-all, copies-word}
use Rattle.law_prune.proofs.Path.{Trimmed, PathLaw, path-trim}
use Rattle.law_prune.proofs.CutTree.{occ-reverse, root-rest, gone-nodes, left-well, left-nodes, cut-well, cut-occ}

-- freed nodes stand before the chain, the last one first
pub chain-free-all : (C : Shape) (P : ℕ) (w : List ℕ) (ns l : List ℕ) → Header C.cap P w → ((m : ℕ) → 0 < occ m ns → m < P) → ((m : ℕ) → occ m ns + occ m l ≤ 1) → Chain C P w (free_head w) l
    → Chain C P (free_all C w ns) (free_head (free_all C w ns)) (reverse ns ++ l)
unfolding free_all
chain-free-all C P w [] l hd a o c = c
chain-free-all C P w (n ∷ ns) l hd a o c =
    let z : occ n l ≡ 0 = omega (arith, o n, occ-here n ns) in
    rw (reverse-cons n ns, append_assoc)
    (chain-free-all C P (freed C w n) ns (n ∷ l) (header_at C.cap P w (freed C w n) hd (freed-length C w n)) (λ m p. a m (occ_in m n ns p)) (λ m. omega (arith, o m, occ_cons m n l, occ_cons m n ns))
    (chain-freed C P w hd n (a n (occ-here n ns)) l z c))

-- what is known of the words v after a prune that frees ms, with n as the root
pub record Left (C : Shape) (P : ℕ) (w v : List ℕ) (n : ℕ) (ms ns : List ℕ) (t : Tree) : Type 0 where
  pub tree : level C v (suc t.0) n ≡ t.1
  pub header : Header C.cap P v
  pub words : (i : ℕ) → i < 8 → i ≢ 3 → i ≢ 4 → word v i ≡ word w i
  pub chain : Chain C P v (free_head v) (reverse ms ++ ns)
  pub free : free_count v ≡ free_count w + length ms

module _ (C : Shape) (P : ℕ) (w u : List ℕ) (n : ℕ) (ms ns : List ℕ) (t : Tree) (hd : Header C.cap P u) (tree : level C u (suc t.0) n ≡ t.1) (narrow : Narrow C (suc t.0) t.1)
    (words : (i : ℕ) → i < 8 → word u i ≡ word w i) (same : (m : ℕ) → 0 < occ m ns → Same C w u m)
    (apart : (m : ℕ) → occ m ms + occ m ns + occ m (tree_nodes t) ≤ 1) (inside : (m : ℕ) → 0 < occ m ms → m < P) (chain : Chain C P w (free_head w) ns) where
  -- nodes ms, which are neither in the tree nor in the chain, are freed last
  freed-last : Left C P w (free_all C u ms) n ms ns t
  freed-last =
      let here : Chain C P u (free_head u) ns = subst (λ (k : ℕ). Chain C P u k ns) (sym (words 3 (omega arith))) (chain_same C P w u ns (free_head w) same chain) in
      record {
        tree = sym (kept C u (free_all C u ms) (suc t.0) n (rw tree narrow) (λ m p. free-all-keeps C u ms m (omega (arith, apart m, ap (λ (x : Level (suc t.0)). occ m (nodes (suc t.0) x)) tree)))) ∙ tree;
        header = header_at C.cap P u (free_all C u ms) hd (free-all-length C u ms);
        words = λ i l a b. free-all-word C u ms i l a b ∙ words i l;
        chain = chain-free-all C P u ms ns hd inside (λ m. omega (arith, apart m)) here;
        free = omega (arith, free-all-count C P u ms hd, words 4 (omega arith));
      }

module _ (C : Shape) (P : ℕ) (w : List ℕ) (hd : Header C.cap P w) (n e : ℕ) (inside : n < P) where
  empty_root_lem : level C (emptied C w n e) 1 n ≡ (reset_tree n e).1
  unfolding emptied level pairs_from
  empty_root_lem =
      let v₁ = put C w n 0 0 in
      let v₂ = put C v₁ n 1 0 in
      let v₃ = put C v₂ n 2 e in
      let h₁ = put-header C P w hd n 0 0 in
      let h₂ = put-header C P v₁ h₁ n 1 0 in
      let h₃ = put-header C P v₂ h₂ n 2 e in
      let a : height C (put C v₃ n 3 NONE) n ≡ 0 = put_other C v₃ n 3 0 NONE (omega arith) ∙ put_other C v₂ n 2 0 e (omega arith) ∙ put_other C v₁ n 1 0 0 (omega arith) ∙ put_same C P w hd n 0 0 inside (omega arith) in
      let b : count C (put C v₃ n 3 NONE) n ≡ 0 = put_other C v₃ n 3 1 NONE (omega arith) ∙ put_other C v₂ n 2 1 e (omega arith) ∙ put_same C P v₁ h₁ n 1 0 inside (omega arith) in
      let c : start C (put C v₃ n 3 NONE) n ≡ e = put_other C v₃ n 3 2 NONE (omega arith) ∙ put_same C P v₂ h₂ n 2 e inside (omega arith) in
      let d : end C (put C v₃ n 3 NONE) n ≡ NONE = put_same C P v₃ h₃ n 3 NONE inside (omega arith) in
      rw (a, b, c, d)

  empty_narrow : Narrow C 1 (reset_tree n e).1
  unfolding Narrow all_pairs
  empty_narrow = (omega arith, tt)

  pub empty_nodes : tree_nodes (reset_tree n e) ≡ n ∷ []
  unfolding nodes in_pairs
  empty_nodes = refl

module _ (C : Shape) (P : ℕ) (w : List ℕ) (hd : Header C.cap P w) (h n e r : ℕ) (b : Limit) (well : Well C P (suc h) (level C w (suc h) n) r b) (below : r < e)
    (lands : Lands e (drop_to e (entries (suc h) (level C w (suc h) n) r b)))
    (ns : List ℕ) (cover : (m : ℕ) → occ m (nodes (suc h) (level C w (suc h) n)) + occ m ns ≡ pick (ltb m P) 1 0) (chain : Chain C P w (free_head w) ns) where
  abbrev former : Level (suc h)
  former = level C w (suc h) n

  gs : List ℕ
  gs = gone_nodes h e former

  once-all : (m : ℕ) → occ m (nodes (suc h) former) + occ m ns ≤ 1
  once-all m = by_test (ltb m P) (λ t. omega (arith, rw t at (cover m))) (λ t. omega (arith, rw t at (cover m)))

  all-inside : (m : ℕ) → 0 < occ m (nodes (suc h) former) → m < P
  all-inside m p = by_test (ltb m P) (λ t. ltb-true m P t) (λ t. absurd (omega (arith, rw t at (cover m))))

  inside : n < P
  unfolding Well level
  inside = ltb→lt n P well.0

  module _ (all : cut (suc h) e former r ≡ gone) where
    parts : (m : ℕ) → occ m (nodes (suc h) former) ≡ occ m gs + occ m (n ∷ [])
    unfolding gs level
    parts m = ap (occ m) (gone-nodes C P h e former r b well below lands all) ∙ occ-append m (gone_nodes h e former) (n ∷ [])

    -- the law where nothing is left
    pub prune-reset : Left C P w (prune_tree C w n h e former []) n (gone_nodes h e former) ns (reset_tree n e)
    unfolding prune_tree if_gone gs
    prune-reset =
        rw (root-rest C P h e former r b well below lands, all)
        (freed-last C P w (emptied C w n e) n gs ns (reset_tree n e)
        (header_at C.cap P w (emptied C w n e) hd (emptied-length C w n e)) (empty_root_lem C P w hd n e inside) (empty_narrow C P w hd n e inside)
        (emptied-word C w n e) (λ m p. emptied-keeps C w n e m (λ q. omega (arith, once-all m, parts m, subst (λ (k : ℕ). occ m (k ∷ []) ≡ 1) q (occ_self m))))
        (λ m. omega (arith, once-all m, parts m, ap (occ m) (empty_nodes C P w hd n e inside))) (λ m p. all-inside m (omega (arith, parts m))) chain)

  module _ (y : Level (suc h)) (stay : cut (suc h) e former r ≡ stays y) where
    -- trimmed, copied
    w₂ : List ℕ
    w₂ = trim_all C w e (trims (suc h) e former r)

    w₃ : List ℕ
    w₃ = copy_all C w₂ n (copied_nodes h y)

    new : Tree
    new = collapse n h y

    left-parts : (m : ℕ) → occ m (nodes (suc h) former) ≡ occ m gs + occ m (nodes (suc h) y)
    unfolding gs
    left-parts m = ap (occ m) (left-nodes C P h e former r b well below lands y stay) ∙ occ-append m (gone_nodes h e former) (nodes (suc h) y)

    new-parts : (m : ℕ) → occ m (nodes (suc h) former) ≡ occ m gs + occ m (copied_nodes h y) + occ m (tree_nodes new)
    unfolding gs level new
    new-parts m = cut-occ C P h e former r b well below lands y stay m

    y_well : Well C P (suc h) y e b × (up_to e r ≡ e)
    y_well = left-well C P h e former r b well below lands y stay

    y_sound : AllSound C P (suc h) y e b
    y_sound = well-sound C P (suc h) y e b y_well.0

    trims-done : Trimmed C P (suc h) n w w₂ y
    unfolding w₂ PathLaw
    trims-done =
        path-trim C P e w (suc h) n r b w y hd (sound-narrow C P (suc h) former r b (well-sound C P (suc h) former r b well)) stay (rw y_well.1 y_sound)
        (λ m. omega (arith, once-all m, left-parts m)) (λ m p i q. refl)

    copies-done : Collapsed C P n w₂ w₃ new
    unfolding w₃ new CopyLaw
    copies-done = copy-all C P n inside h w₂ trims-done.header y trims-done.tree (sound-narrow C P (suc h) y e b y_sound) (λ m. omega (arith, once-all m, left-parts m))

    new-well : Well C P (suc new.0) new.1 e b
    unfolding new level
    new-well = cut-well C P h e former r b well below lands y stay

    starts-at : former.start ≡ r
    unfolding level
    starts-at = (own C P w h n r b (well-sound C P (suc h) former r b well)).1

    -- n stays
    has-root : 0 < occ n (nodes (suc h) y)
    unfolding nodes level
    has-root =
        omega (arith, occ-append n (in_pairs (nodes h) y.pairs) (y.number ∷ []), subst (λ (k : ℕ). occ n (k ∷ []) ≡ 1) (sym (cut-number h e former y r stay)) (occ_self n))

    not_root : (m : ℕ) → 0 < occ m ns → m ≢ n
    not_root m p d = omega (arith, once-all n, left-parts n, has-root, subst (λ (k : ℕ). 0 < occ k ns) d p)

    -- the law
    pub prune-tree : Left C P w (prune_tree C w n h e former (copied_nodes h y)) n (gone_nodes h e former ++ reverse (copied_nodes h y)) ns (collapse n h y)
    unfolding prune_tree if_gone gs w₂ w₃ new
    prune-tree =
        let freeing = gs ++ reverse (copied_nodes h y) in
        rw (root-rest C P h e former r b well below lands, stay)
        (subst (λ (s : ℕ). Left C P w (free_all C (copy_all C (trim_all C w e (trims (suc h) e former s)) n (copied_nodes h y)) freeing) n freeing ns new) (sym starts-at)
        (freed-last C P w w₃ n freeing ns new
        copies-done.header copies-done.tree (sound-narrow C P (suc new.0) new.1 e b (well-sound C P (suc new.0) new.1 e b new-well))
        (λ i l. copies-word C w₂ n (copied_nodes h y) i l ∙ trims-word C w e (trims (suc h) e former r) i l)
        (λ m p i q. trims-done.beside m (omega (arith, once-all m, left-parts m)) i q ∙ copies-done.beside m (not_root m p) i q)
        (λ m. omega (arith, once-all m, new-parts m, occ-append m gs (reverse (copied_nodes h y)), occ-reverse m (copied_nodes h y)))
        (λ m p. all-inside m (omega (arith, new-parts m, occ-append m gs (reverse (copied_nodes h y)), occ-reverse m (copied_nodes h y)))) chain))
