-- The writes of an append keep a store well-formed, and add its entry.
use Prim.Native.Nat.{ℕ, zero, suc, ◌+◌, ◌<◌, ◌≤◌}
use mathlib.Core.List.{List, [], ◌∷◌, ◌++◌}
use mathlib.Core.Bool.{Bool, true, false}
use mathlib.Core.Path.{◌≡◌, refl, sym, ap, ◌∙◌, subst}
use mathlib.Core.Logic.{◌≢◌, ◌⊎◌, inl, inr}
use native.Mathlib.Omega.{arith}
use lib.ListN.{length, length-append}
use lib.Dec.{ltb}
use borrow.Author.Tests.{lt-ltb, le-leb, lt-leb, ne_eqb}
use Rattle.model.specs.Words.{Shape, pick, word, root, free_head, height, count, start, end, row, child, Header, row_limit, max_height}
use Rattle.model.specs.Tree.{Open, Below, Level, pairs_from, level, last}
use Rattle.model.specs.Reading.{Entry, entries, occ, in_pairs, nodes}
use Rattle.model.specs.WellFormed.{Chain}
use Rattle.model.specs.Append.{Room, room_from, firsts, past, taken, top_of, end_over, hang, split_root, append_start, append_at}
use Rattle.model.proofs.Frame.{Same, occ-append, occ_self, nodes_self}
use Rattle.model.proofs.Once.{own}
use Rattle.model.proofs.Writes.{occ_cons, not_first, not-rest, chain_same}
use Rattle.law_formed.specs.Well.{Well}
use Rattle.law_formed.specs.Formed.{Blank, Whole, blank, held, tree_of, Formed}
use Rattle.law_formed.proofs.Clean.{well-sound}
use Rattle.law_append.specs.Inserted.{Appended}
use Rattle.law_append.specs.Grown.{path_tree, end_at, up, hung, parted, Grown, begins, hangs, splits}
use Rattle.law_append.proofs.Right.{Inside, Distinct, Tip, right_at}
use Rattle.law_append.proofs.Last.{few-pairs, right_in}
use Rattle.law_append.proofs.Hung.{hung-well, hung-entries, hung-nodes, entries_any, path-tree-well, path-tree-entries, path-tree-nodes}
use Rattle.law_append.proofs.Parted.{parted-well, parted-entries, parted-nodes}
use Rattle.law_append.proofs.Hang.{Hangs, hang-word, hang-header, hang-hangs, hang-path, hang-level, occ_absent}
use Rattle.law_append.proofs.Split.{split-word, split-header, split-path, split-splits, split_level}
use Rattle.law_append.proofs.Taken.{taken-part, taken_word, taken-header, taken-head, taken_free, all-parts, Taken, chain-taken, once-distinct}
use Rattle.law_append.proofs.Edge.{Spotted, full, free, spotted, tip-at, room_at, right-some}
use Rattle.law_append.proofs.Ends.{blank-count, blank-entries, blank-ends, start-ends}

pub at_most : (t : Bool) → pick t 1 0 ≤ 1
at_most true = omega arith
at_most false = omega arith

-- nodes fs come from the chain, rest stays there
record Before (C : Shape) (P : ℕ) (w : List ℕ) (h r k : ℕ) (fs rest : List ℕ) : Type 0 where
  formed : Formed C P w h r (fs ++ rest)
  many : length fs ≡ k
  chain : Chain C P w (past C w (free_head w) k) rest
  inside : Inside P fs

module _ (C : Shape) (P : ℕ) (w : List ℕ) (h r k : ℕ) (fs rest : List ℕ) (B : Before C P w h r k fs rest) where
  -- each once
  sums : (m : ℕ) → occ m (nodes (suc h) (tree_of C w h)) + occ m fs + occ m rest ≤ 1
  sums m = omega (arith, B.formed.cover m, at_most (ltb m P), occ-append m fs rest)

  distinct : Distinct fs
  distinct = once-distinct fs (λ m. omega (arith, sums m))

  apart : (m : ℕ) → 0 < occ m (nodes (suc h) (tree_of C w h)) → occ m fs ≡ 0
  apart m p = omega (arith, sums m)

-- v holds tree t, of height a, made of that of w and the nodes fs
module _ (C : Shape) (P : ℕ) (w v : List ℕ) (h r k s e x : ℕ) (fs rest : List ℕ) where
  record Makes (a : ℕ) (t : Level (suc a)) : Type 0 where
    header : Header C.cap P v
    words : (i : ℕ) → i < 8 → word v i ≡ word w i
    made : level C v (suc a) (root w) ≡ t
    low : a ≤ max_height
    tall : ((a ≡ h) × (k ≤ h)) ⊎ ((a ≡ suc h) × (k ≡ h + 2))
    well : Well C P (suc a) t r Open
    all : (m : ℕ) → occ m (nodes (suc a) t) ≡ occ m (nodes (suc h) (tree_of C w h)) + occ m fs
    more : entries (suc a) t r Open ≡ entries (suc h) (tree_of C w h) r Open ++ ((record { low = s; high = Below e; page = x }) ∷ [])
    other : (m : ℕ) → occ m (nodes (suc h) (tree_of C w h)) ≡ 0 → occ m fs ≡ 0 → Same C w v m
    grown : Grown s e x h (tree_of C w h) a t fs

  finish : Before C P w h r k fs rest → (a : ℕ) (t : Level (suc a)) → Makes a t → Appended C P w (taken C w v k) h r k s e x (fs ++ rest)
  finish B a t M =
      let z = taken C w v k in
      let F = B.formed in
      let one = sums C P w h r k fs rest B in
      let words₂ : (i : ℕ) → i < 8 → i ≢ 3 → i ≢ 4 → word z i ≡ word w i = λ i l a b. taken_word C w v k i a b ∙ M.words i l in
      let q : tree_of C z a ≡ t = ap (level C z (suc a)) (words₂ 2 (omega arith) (omega arith) (omega arith)) ∙ all-parts C v z (taken-part C w v k) (suc a) (root w) ∙ M.made in
      record {
        above = a;
        rest = rest;
        formed = record {
          capacity-is = words₂ 0 (omega arith) (omega arith) (omega arith) ∙ F.capacity-is;
          pool-is = words₂ 1 (omega arith) (omega arith) (omega arith) ∙ F.pool-is;
          header = taken-header C w v k P M.header;
          whole = held (subst (λ (y : Level (suc a)). Well C P (suc a) y r Open) (sym q) M.well);
          high = M.low;
          chain = subst (λ (y : ℕ). Chain C P z y rest) (sym (taken-head C w v k P M.header))
              (chain_same C P w z rest (past C w (free_head w) k) (λ m p j b. M.other m (omega (arith, one m)) (omega (arith, one m)) j b ∙ sym (taken-part C w v k m j)) B.chain);
          free = taken_free C w v k P M.header ∙ omega (arith, F.free, B.many, length-append fs rest);
          cover = λ m. rw q (omega (arith, M.all m, F.cover m, occ-append m fs rest));
        };
        gone = fs;
        left = refl;
        many = B.many;
        tall = M.tall;
        grew = λ m. rw q (M.all m);
        more = rw q M.more;
        grown = subst (λ (y : Level (suc a)). Grown s e x h (tree_of C w h) a y fs) (sym q) M.grown;
      }

pub up_least : (p d : ℕ) → p ≤ up p d
up_least p zero = omega arith
up_least p (suc d) = omega (arith, up_least p d)

-- by cases of where the entry goes
module _ (C : Shape) (P : ℕ) (w : List ℕ) (r k s e x : ℕ) (some : s < e) (most : e ≤ row_limit) where
  hang_case : (d : ℕ) (fs rest : List ℕ) → Before C P w (up (length fs) d) r k fs rest → Well C P (suc (up (length fs) d)) (tree_of C w (up (length fs) d)) r Open
      → end C w (right_at C w (up (length fs) d) (root w)) ≡ s → count C w (right_at C w d (root w)) < C.cap
      → Appended C P w (taken C w (hang C w (right_at C w d (root w)) s e x fs) k) (up (length fs) d) r k s e x (fs ++ rest)
  hang_case d fs rest B g ends space =
      let h = up (length fs) d in
      let n = root w in
      let m = right_at C w d n in
      let y = path_tree s e x fs in
      let t = tree_of C w h in
      let v = hang C w m s e x fs in
      let hd = B.formed.header in
      let good = well-sound C P (suc h) t r Open g in
      let tip : Tip h t s = subst (Tip h t) ends (tip-at C P w h n r Open good) in
      let i = right_in C P w d (length fs) n r Open good in
      let a = apart C P w h r k fs rest B in
      let H = hang-hangs C P w hd m s e x i.1 space fs (a m i.0) in
      finish C P w v h r k s e x fs rest B h (hung d (length fs) t s e y)
      (record {
        header = hang-header C P w hd m s e x fs;
        words = hang-word C w m s e x fs;
        made = hang-level C P w v s e (top_of x fs) fs d (length fs) n r Open y good a H (hang-path C P w hd m s e x fs B.inside (distinct C P w h r k fs rest B));
        low = B.formed.high;
        tall = inl (refl, omega (arith, B.many, up_least (length fs) d));
        well = hung-well C P s e some most d (length fs) t r y g tip (room_at C P w d (length fs) n r Open good space) (path-tree-well C P s e some most x fs (omega (arith, hd.cap-low)) B.inside);
        all = λ j. hung-nodes j d (length fs) t s e y tip ∙ ap (λ (z : ℕ). occ j (nodes (suc h) t) + z) (path-tree-nodes s e x j fs);
        more = hung-entries d (length fs) t r s e y tip ∙ ap (λ (z : List Entry). entries (suc h) t r Open ++ z) (path-tree-entries s e x fs);
        other = λ j z f. H.other j (λ o. occ_absent m j (nodes (suc h) t) z i.0 (sym o)) f;
        grown = hangs d fs t;
      })

  split_case : (c m : ℕ) (ms rest : List ℕ) → length ms < max_height → Before C P w (length ms) r k (c ∷ m ∷ ms) rest → Well C P (suc (length ms)) (tree_of C w (length ms)) r Open
      → end C w (right_at C w (length ms) (root w)) ≡ s
      → Appended C P w (taken C w (split_root C w (root w) s e x (c ∷ m ∷ ms)) k) (length ms) r k s e x (c ∷ m ∷ ms ++ rest)
  unfolding Inside Distinct last top_of
  split_case c m ms rest low B g ends =
      let h = length ms in
      let n = root w in
      let fs = c ∷ m ∷ ms in
      let y = path_tree s e x (m ∷ ms) in
      let t = tree_of C w h in
      let v = split_root C w n s e x fs in
      let hd = B.formed.header in
      let good = well-sound C P (suc h) t r Open g in
      let tip : Tip h t s = subst (Tip h t) ends (tip-at C P w h n r Open good) in
      let a = apart C P w h r k fs rest B in
      let i : 0 < occ n (nodes (suc h) t) = omega (arith, nodes_self C w h n n, occ_self n) in
      let z = a n i in
      let D = distinct C P w h r k fs rest B in
      let S = split-splits C w n s e x c (m ∷ ms) P hd (not_first n c (m ∷ ms) z) (few-pairs C P w h n r Open good).1 B.inside.0 (not-rest n c (m ∷ ms) z) D.0 in
      finish C P w v h r k s e x fs rest B (suc h) (parted h t c s y)
      (record {
        header = split-header C w n s e x c (m ∷ ms) P hd;
        words = split-word C w n s e x c (m ∷ ms);
        made = split_level C P w v n c s m (m ∷ ms) h r Open good a S y (split-path C w n s e x c (m ∷ ms) P hd B.inside.1 D.1);
        low = omega arith;
        tall = inr (refl, omega (arith, B.many));
        well = parted-well C P s (omega arith) h t r c y hd.cap-low B.inside.0 g tip (path-tree-well C P s e some most x (m ∷ ms) (omega (arith, hd.cap-low)) B.inside.1);
        all = λ j. omega (arith, parted-nodes j h t s c y, path-tree-nodes s e x j (m ∷ ms), occ_cons j c (m ∷ ms));
        more = parted-entries h t r s c y tip ∙ ap (λ (l : List Entry). entries (suc h) t r Open ++ l) (path-tree-entries s e x (m ∷ ms));
        other = λ j u f. S.other j (λ o. occ_absent n j (nodes (suc h) t) u i (sym o)) (not_first j c (m ∷ ms) f) (not-rest j c (m ∷ ms) f);
        grown = splits c m ms t;
      })

  blank-made : (n : ℕ) (v : List ℕ) → height C w n ≡ 0 → start C w n ≡ s → count C w n ≡ 0 → Hangs C w v n 0 s e x [] → level C v 1 n ≡ path_tree s e x (n ∷ [])
  unfolding level path_tree end_over end_at pairs_from
  blank-made n v high from none H =
      let low₂ : row C v n 0 ≡ s = subst (λ (j : ℕ). row C v n j ≡ s) none H.low in
      let leads₂ : child C v n 0 ≡ x = subst (λ (j : ℕ). child C v n j ≡ x) none H.leads in
      let one : count C v n ≡ 1 = omega (arith, H.counts) in
      rw (H.high, H.begin, H.ends, one, high, from, low₂, leads₂)

  one_inside : (n : ℕ) → n < P → Inside P (n ∷ [])
  unfolding Inside
  one_inside n i = (i, tt)

  blank-nodes : (n j : ℕ) → count C w n ≡ 0 → occ j (nodes 1 (level C w 1 n)) ≡ occ j (n ∷ [])
  unfolding in_pairs occ pairs_from
  blank-nodes n j z = omega (arith, nodes_self C w 0 n j, ap (λ (l : ℕ). occ j (in_pairs (nodes 0) (pairs_from C w (level C w 0) n 0 l))) z)

  blank_case : (rest : List ℕ) → Before C P w 0 r k [] rest → Blank P 0 (tree_of C w 0) r → s ≡ r → Appended C P w (taken C w (hang C w (root w) s e x []) k) 0 r k s e x rest
  unfolding level occ top_of last
  blank_case rest B b from =
      let n = root w in
      let v = hang C w n s e x [] in
      let hd = B.formed.header in
      let none : count C w n ≡ 0 = blank-count C P w 0 r b in
      let H = hang-hangs C P w hd n s e x b.inside (omega (arith, hd.cap-low)) [] refl in
      finish C P w v 0 r k s e x [] rest B 0 (path_tree s e x (n ∷ []))
      (record {
        header = hang-header C P w hd n s e x [];
        words = hang-word C w n s e x [];
        made = blank-made n v b.high (b.begin ∙ sym from) none H;
        low = omega arith;
        tall = inl (refl, omega (arith, B.many));
        well = subst (λ (z : ℕ). Well C P 1 (path_tree s e x (n ∷ [])) z Open) from (path-tree-well C P s e some most x (n ∷ []) (omega (arith, hd.cap-low)) (one_inside n b.inside));
        all = λ j. omega (arith, path-tree-nodes s e x j (n ∷ []), blank-nodes n j none);
        more = entries_any 0 (path_tree s e x (n ∷ [])) r s Open Open ∙ path-tree-entries s e x (n ∷ []) ∙ ap (λ (l : List Entry). l ++ ((record { low = s; high = Below e; page = x }) ∷ [])) (sym (blank-entries C P w 0 r b));
        other = λ j z f. H.other j (λ o. occ_absent n j (nodes 1 (tree_of C w 0)) z (omega (arith, blank-nodes n n none, occ_self n)) (sym o)) f;
        grown = begins (tree_of C w 0) b.none;
      })

-- the room that the words of a root of height h show
abbrev pub spot : Shape → List ℕ → ℕ → Room
spot C w h = room_from C w h (root w) (record { node = root w; needed = h + 2 })

module _ (C : Shape) (P : ℕ) (w : List ℕ) (h r s e x : ℕ) (ns : List ℕ) (F : Formed C P w h r ns) (some : s < e) (most : e ≤ row_limit) where
  before : (k : ℕ) (T : Taken C P w (free_head w) k ns) → Before C P w h r k (firsts C w (free_head w) k) T.rest
  before k T = record { formed = subst (Formed C P w h r) T.whole F; many = T.many; chain = T.chain; inside = T.inside }

  -- all nodes of the edge are full
  split_any : (k : ℕ) (fs rest : List ℕ) → length fs ≡ h + 2 → h < max_height → Before C P w h r k fs rest → Well C P (suc h) (tree_of C w h) r Open → end C w (right_at C w h (root w)) ≡ s
      → Appended C P w (taken C w (split_root C w (root w) s e x fs) k) h r k s e x (fs ++ rest)
  split_any k [] rest l b B g q = absurd (omega arith)
  split_any k (c ∷ []) rest l b B g q = absurd (omega arith)
  split_any k (c ∷ m ∷ ms) rest l b B g q =
      let j : length ms ≡ h = omega arith in
      subst (λ (a : ℕ). a < max_height → Before C P w a r k (c ∷ m ∷ ms) rest → Well C P (suc a) (tree_of C w a) r Open → end C w (right_at C w a (root w)) ≡ s → Appended C P w (taken C w (split_root C w (root w) s e x (c ∷ m ∷ ms)) k) a r k s e x (c ∷ m ∷ ms ++ rest))
      j (split_case C P w r k s e x some most c m ms rest) b B g q

  held_case : (o : Room) → Spotted C w h (root w) (record { node = root w; needed = h + 2 }) o → o.needed ≤ length ns → (h < o.needed → h < max_height)
      → Well C P (suc h) (tree_of C w h) r Open → height C w (root w) ≡ h → end C w (right_at C w h (root w)) ≡ s
      → Appended C P w (append_at C w (root w) s e x o) h r o.needed s e x ns
  unfolding append_at
  held_case _ full enough high g u q =
      let k = h + 2 in
      let T = chain-taken C P w (free_head w) k ns enough F.chain in
      rw (u, lt-leb k h (omega arith))
      (subst (λ (l : List ℕ). Appended C P w (taken C w (split_root C w (root w) s e x (firsts C w (free_head w) k)) k) h r k s e x l) (sym T.whole)
      (split_any k (firsts C w (free_head w) k) T.rest T.many (high (omega arith)) (before k T) g q))
  held_case _ (free d p z space) enough high g u q =
      let T = chain-taken C P w (free_head w) p ns enough F.chain in
      let fs = firsts C w (free_head w) p in
      let v = taken C w (hang C w (right_at C w d (root w)) s e x fs) p in
      let j : up (length fs) d ≡ h = ap (λ (a : ℕ). up a d) T.many ∙ z in
      rw (u, le-leb p h (omega (arith, up_least p d)))
      (subst (λ (l : List ℕ). Appended C P w v h r p s e x l) (sym T.whole)
      (subst (λ (a : ℕ). Before C P w a r p fs T.rest → Well C P (suc a) (tree_of C w a) r Open → end C w (right_at C w a (root w)) ≡ s → Appended C P w v a r p s e x (fs ++ T.rest))
      j (λ B g₂ q₂. hang_case C P w r p s e x some most d fs T.rest B g₂ q₂ space) (before p T) g q))

module _ (C : Shape) (P : ℕ) (w : List ℕ) (h r : ℕ) (ns : List ℕ) (F : Formed C P w h r ns) where
  held_start : Well C P (suc h) (tree_of C w h) r Open → append_start C w (right_at C w h (root w)) ≡ end C w (right_at C w h (root w))
  unfolding append_start
  held_start g =
      let good = well-sound C P (suc h) (tree_of C w h) r Open g in
      rw (ne_eqb (count C w (right_at C w h (root w))) 0 (omega (arith, right-some C P w h (root w) r Open good)))

  pub blank-spot : Blank P h (tree_of C w h) r → spot C w h ≡ record { node = root w; needed = 0 }
  unfolding room_from
  blank-spot b = rw (b.leaf, lt-ltb (count C w (root w)) C.cap (omega (arith, blank-count C P w h r b, F.header.cap-low)))

-- an empty root gets its first entry
blank-keeps : (C : Shape) (P : ℕ) (w : List ℕ) (r : ℕ) (ns : List ℕ) → Formed C P w 0 r ns → (s e x : ℕ) → s < e → e ≤ row_limit → Blank P 0 (tree_of C w 0) r → s ≡ r
    → Appended C P w (append_at C w (root w) s e x (spot C w 0)) 0 r (spot C w 0).needed s e x ns
unfolding append_at firsts past level Inside
blank-keeps C P w r ns F s e x some most b q =
    rw (b.high, blank-spot C P w 0 r ns F b)
    (blank_case C P w r 0 s e x some most ns (record { formed = F; many = refl; chain = F.chain; inside = tt }) b q)

-- the law
pub append-keeps : (C : Shape) (P : ℕ) (w : List ℕ) (h r : ℕ) (ns : List ℕ) → Formed C P w h r ns → (s e x : ℕ) → s ≡ append_start C w (right_at C w h (root w)) → s < e → e ≤ row_limit
    → (spot C w h).needed ≤ length ns → (h < (spot C w h).needed → h < max_height)
    → Appended C P w (append_at C w (root w) s e x (spot C w h)) h r (spot C w h).needed s e x ns
append-keeps C P w h r ns F s e x q some most enough high = by_whole F.whole
  where
    by_whole : Whole C P h (tree_of C w h) r → Appended C P w (append_at C w (root w) s e x (spot C w h)) h r (spot C w h).needed s e x ns
    by_whole (held g) =
        let good = well-sound C P (suc h) (tree_of C w h) r Open g in
        held_case C P w h r s e x ns F some most (spot C w h) (spotted C w h (root w) (record { node = root w; needed = h + 2 })) enough high g (own C P w h (root w) r Open good).0 (sym (q ∙ held_start C P w h r ns F g))
    by_whole (blank b) =
        subst (λ (a : ℕ). Formed C P w a r ns → Blank P a (tree_of C w a) r → s ≡ r → Appended C P w (append_at C w (root w) s e x (spot C w a)) a r (spot C w a).needed s e x ns)
        (sym b.leaf) (λ F₂ b₂ q₂. blank-keeps C P w r ns F₂ s e x some most b₂ q₂) F b (q ∙ start-ends C P w h r (blank b) ∙ blank-ends C P w h r b)
