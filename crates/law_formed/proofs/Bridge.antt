-- The working form is well-formedness.
use Prim.Native.Nat.{ℕ, suc, ◌+◌, ◌<◌, ◌≤◌}
use mathlib.Core.List.{List, ◌++◌}
use mathlib.Core.Bool.{Bool}
use mathlib.Core.Path.{◌≡◌, refl, sym, ap, ◌∙◌, subst}
use native.Mathlib.Omega.{arith}
use lib.ListN.{length, length-append}
use lib.Dec.{ltb, ltb→lt}
use borrow.Author.Tests.{ltb-true, ltb-false, lt-ltb}
use Rattle.model.specs.Words.{store_shape, Arrangement, shape, Shape, pick, capacity, pool, root, free_head, height, count, start, row_limit, max_height}
use Rattle.model.specs.Tree.{Open, level, AllSound}
use Rattle.model.specs.Reading.{occ, nodes}
use Rattle.model.specs.WellFormed.{Chain, EndsFit, EmptyRoot, SoundRoot, empty_tree, sound_tree, WellFormedAt, WellFormed}
use Rattle.model.proofs.Tests.{by_test}
use Rattle.model.proofs.Frame.{length_pairs, occ-append}
use Rattle.model.proofs.Once.{own}
use Rattle.law_formed.specs.Well.{Well}
use Rattle.law_formed.specs.Formed.{Blank, Whole, blank, held, tree_of, Formed}
use Rattle.law_formed.proofs.Clean.{well-sound}
use Rattle.law_formed.proofs.Ends.{sound-well, well-ends}
use Rattle.law_formed.proofs.Chains.{chain-once, chain-free}
use Rattle.law_formed.proofs.Counting.{all, long}
use Rattle.law_formed.proofs.Rooted.{empty_pairs, empty_fits, root-once, root-inside, root-low}

-- Tree and chain hold each node at most once -------------------------------------------------------------

module _ (C : Shape) (P : ℕ) (w : List ℕ) (h n : ℕ) (l : n < P) (s : SoundRoot C P w h n) (ns : List ℕ) (c : Chain C P w (free_head w) ns) where
  abbrev ms : List ℕ
  ms = nodes (suc h) (level C w (suc h) n)

  together : (m : ℕ) → occ m (ms ++ ns) ≡ occ m ms + occ m ns
  together m = occ-append m ms ns

  together-once : (m : ℕ) → occ m (ms ++ ns) ≤ 1
  together-once m =
      by_test (ltb 0 (occ m ns))
      (λ t. by_test (ltb 0 (occ m ms))
      (λ u. absurd (omega (arith, root-low C P w h n m s (ltb-true 0 (occ m ms) u), (chain-free C P w m (free_head w) ns c (ltb-true 0 (occ m ns) t)).1)))
      (λ u. omega (arith, together m, ltb-false 0 (occ m ms) u, chain-once C P w m (free_head w) ns c)))
      (λ t. omega (arith, together m, ltb-false 0 (occ m ns) t, root-once C P w h n m s))

  together-inside : (m : ℕ) → P ≤ m → occ m (ms ++ ns) ≡ 0
  together-inside m p =
      by_test (ltb 0 (occ m ns))
      (λ t. absurd (omega (arith, (chain-free C P w m (free_head w) ns c (ltb-true 0 (occ m ns) t)).0)))
      (λ t. omega (arith, together m, ltb-false 0 (occ m ns) t, root-inside C P w h n l m p s))

  pub counted : length ms + length ns ≡ P → (m : ℕ) → m < P → occ m ms + occ m ns ≡ 1
  counted e m p = sym (together m) ∙ all (ms ++ ns) P together-inside together-once (length-append ms ns ∙ e) m p

  pub counts : ((m : ℕ) → m < P → occ m ms + occ m ns ≡ 1) → length ms + length ns ≡ P
  counts o = sym (length-append ms ns) ∙ long (ms ++ ns) P together-inside (λ m p. together m ∙ o m p)

  pub beyond : (m : ℕ) → P ≤ m → occ m ms + occ m ns ≡ 0
  beyond m p = sym (together m) ∙ together-inside m p

-- From 01's words ----------------------------------------------------------------------------------------

module _ (C : Shape) (P : ℕ) (w : List ℕ) (h : ℕ) where
  pub formed-at : capacity w ≡ C.cap → pool w ≡ P → h ≡ height C w (root w) → (F : WellFormedAt C P w h (root w)) → Formed C P w h (start C w (root w)) F.chain
  unfolding level
  formed-at c p q F =
      record {
        capacity-is = c;
        pool-is = p;
        header = F.fits;
        whole = whole F.sound;
        high = high F.sound;
        chain = F.linked;
        free = sym F.free;
        cover = λ m. by_test (ltb m P)
            (λ t. rw t (F.once m (ltb-true m P t)))
            (λ t. rw t (beyond C P w h n F.is_open F.sound F.chain F.linked m (ltb-false m P t)));
      }
    where
      n : ℕ
      n = root w

      whole : SoundRoot C P w h n → Whole C P h (tree_of C w h) (start C w n)
      whole (empty_tree e) = blank (record { leaf = q ∙ e.leaf; inside = F.is_open; high = e.leaf; none = empty_pairs C w h n e; begin = refl; low = e.low; ends = e.ends })
      whole (sound_tree l g) = held (sound-well C P (suc h) (level C w (suc h) n) (start C w n) Open g F.ends)

      high : SoundRoot C P w h n → h ≤ max_height
      high (empty_tree e) = omega (arith, q, e.leaf)
      high (sound_tree l g) = l

pub formed_of : (L : Arrangement) (w : List ℕ) → WellFormed L w → (ns : List ℕ) × Formed (store_shape L w) (pool w) w (height (store_shape L w) w (root w)) (start (store_shape L w) w (root w)) ns
unfolding WellFormed
formed_of L w F = (F.chain, formed-at (store_shape L w) (pool w) w (height (store_shape L w) w (root w)) refl refl refl F)

-- And back -----------------------------------------------------------------------------------------------

module _ (C : Shape) (P : ℕ) (w : List ℕ) (h r : ℕ) where
  -- what the tree says of its root
  pub record RootIs : Type 0 where
    pub inside : root w < P
    pub tall : height C w (root w) ≡ h
    pub begin : start C w (root w) ≡ r
    pub sound : h ≤ max_height → SoundRoot C P w h (root w)
    pub ends : EndsFit (suc h) (tree_of C w h) (start C w (root w)) Open

  pub blank_empty : Blank P h (tree_of C w h) r → EmptyRoot C w (root w)
  unfolding level
  blank_empty b =
      record {
        leaf = b.high;
        none = sym (length_pairs C w (level C w h) (root w) 0 (count C w (root w))) ∙ ap length b.none;
        low = subst (λ (x : ℕ). x ≤ row_limit) (sym b.begin) b.low;
        ends = b.ends;
      }

  pub root_is : Whole C P h (tree_of C w h) r → RootIs
  unfolding Well level
  root_is (blank b) =
      let e = blank_empty b in
      record { inside = b.inside; tall = b.high ∙ sym b.leaf; begin = b.begin; sound = λ l. empty_tree e; ends = empty_fits C w h (root w) e }
  root_is (held g) =
      let z = well-sound C P (suc h) (tree_of C w h) r Open g in
      let s = own C P w h (root w) r Open z in
      record {
        inside = ltb→lt (root w) P g.0;
        tall = s.0;
        begin = s.1;
        sound = λ l. sound_tree l (subst (λ (x : ℕ). AllSound C P (suc h) (tree_of C w h) x Open) (sym s.1) z);
        ends = subst (λ (x : ℕ). EndsFit (suc h) (tree_of C w h) x Open) (sym s.1) (well-ends C P (suc h) (tree_of C w h) r Open g);
      }

  module _ (ns : List ℕ) (F : Formed C P w h r ns) where
    pub formed-root : RootIs
    formed-root = root_is F.whole

    pub well-formed-at : WellFormedAt C P w h (root w)
    well-formed-at =
        record {
          fits = F.header;
          is_open = formed-root.inside;
          sound = formed-root.sound F.high;
          chain = ns;
          linked = F.chain;
          free = sym F.free;
          once = λ m p. F.cover m ∙ ap (λ (t : Bool). pick t 1 0) (lt-ltb m P p);
          ends = formed-root.ends;
        }

    pub well-formed : WellFormed C.slots w
    unfolding WellFormed
    well-formed =
        let a = subst (λ (x : ℕ). WellFormedAt C P w x (root w)) (sym formed-root.tall) well-formed-at in
        subst (λ (y : ℕ). WellFormedAt (store_shape C.slots w) y w (height (store_shape C.slots w) w (root w)) (root w)) (sym F.pool-is)
        (subst (λ (x : ℕ). WellFormedAt (shape C.slots x) P w (height (shape C.slots x) w (root w)) (root w)) (sym F.capacity-is) a)
