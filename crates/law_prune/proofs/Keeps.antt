-- An accepted prune on a well-formed store: what it answers and leaves.
use Prim.Native.Nat.{ℕ, suc, ◌+◌, ◌-◌, ◌<◌, ◌≤◌}
use mathlib.Core.List.{List, [], ◌∷◌, ◌++◌, reverse}
use mathlib.Core.Bool.{Bool, true, false, ◌||◌}
use mathlib.Core.Path.{◌≡◌, refl, sym, ap, ◌∙◌, subst}
use native.Mathlib.Omega.{arith}
use native.Mathlib.Nat.{add-zero}
use lib.ListN.{length, drop, length-append}
use lib.Dec.{eqb}
use borrow.Author.Tests.{le-leb, eqb-true}
use Rattle.model.specs.Words.{Shape, root, free_count, row_limit}
use Rattle.model.specs.Tree.{Open, Level, level, over_pairs}
use Rattle.model.specs.Reading.{Entry, entries, occ, nodes}
use Rattle.model.specs.Refusals.{result, Outcome}
use Rattle.model.specs.Cut.{gone, stays, if_gone, cut}
use Rattle.model.specs.Prune.{Scan, stopped, on, against, ran_out, copies, copies_from, root_copies, prune_tree, prune_with, prune_scanned}
use Rattle.model.proofs.Tests.{by_test}
use Rattle.model.proofs.Frame.{occ-append}
use Rattle.model.proofs.Once.{own}
use Rattle.law_formed.specs.Well.{Well}
use Rattle.law_formed.specs.Formed.{Whole, blank, held, tree_of, Formed}
use Rattle.law_formed.proofs.Clean.{well-sound}
use Rattle.law_formed.proofs.Bridge.{formed-root}
use Rattle.law_formed.proofs.Linked.{Linked, sound-linked}
use Rattle.law_formed.proofs.Opens.{formed-sum}
use Rattle.law_prune.specs.Cutting.{Tree, tree_entries, tree_nodes, gone_nodes, reset_tree, collapse, left_tree, copied_nodes}
use Rattle.law_prune.specs.Pruned.{collapsed_levels, Pruned, Accepts}
use Rattle.law_prune.proofs.Rests.{by_rest}
use Rattle.law_prune.proofs.Stay.{Starts, starts, sound-starts}
use Rattle.law_prune.proofs.Collapse.{collapse-levels}
use Rattle.law_prune.proofs.CutTree.{occ-reverse, length-reverse, root-rest, gone-entries, gone-nodes, cut-well, cut-entries, cut-occ, cut-count}
use Rattle.law_prune.proofs.PruneTree.{Left, empty_nodes, prune-reset, prune-tree}
use Rattle.law_prune.proofs.Check.{run, Used, used-run, no_way}
use Rattle.law_prune.proofs.Copies.{CopiesLaw, copies-sound}

pub or-false : (a b : Bool) → (a || b) ≡ false → (a ≡ false) × (b ≡ false)
or-false true b p = let z : ◌≡◌ {A = ℕ} 0 1 = cc in absurd (omega arith)
or-false false b p = (refl, p)

-- where the entries before began does not matter to the first
pub fresh : (e r c : ℕ) (es : List Entry) → Starts r es → (ids : List ℕ) → eqb (length ids) 0 ≡ false → run e es (on ids 0 c) ≡ run e es (on ids 0 r)
unfolding run against
fresh e r c _ (starts a es p) [] z = let n : ◌≡◌ {A = ℕ} 0 1 = cc in absurd (omega arith)
fresh e r c _ (starts a es p) (y ∷ ids) z = refl

-- a list that passes: all its ids are used, and the last entry named ends at e
all-used : (e : ℕ) (s : Scan) (ids : List ℕ) (k c : ℕ) → ran_out e s ≡ on ids k c → s ≡ on [] k e
unfolding ran_out
all-used e (stopped a d) ids k c = λ p. no_way a d ids k c p
all-used e (on [] q d) ids k c =
    by_test (eqb d e) (λ u. rw u (λ p. let x : q ≡ k = cc in let y : d ≡ e = eqb-true d e u in rw (x, y))) (λ u. rw u (λ p. no_way 10 q ids k c p))
all-used e (on (y ∷ l) q d) ids k c = λ p. no_way 11 q ids k c p

some-levels : (h g r : ℕ) (es : List Entry) → Starts r es → collapsed_levels h g es ≡ h - g
unfolding collapsed_levels
some-levels h g r _ (starts a es p) = refl

not_none : {A : Type 0} (r : ℕ) (es : List Entry) → Starts r es → es ≡ [] → A
not_none r _ (starts a es p) q = let n : ◌≡◌ {A = ℕ} 0 1 = cc in absurd (omega arith)

module _ (C : Shape) (P : ℕ) (w : List ℕ) (h r : ℕ) (ns : List ℕ) (formed : Formed C P w h r ns) (e k l : ℕ) where
  abbrev former : Level (suc h)
  former = tree_of C w h

  abbrev es : List Entry
  es = entries (suc h) former r Open

  -- the words after a prune that frees ms and leaves tree t
  module _ (v : List ℕ) (ms : List ℕ) (t : Tree) (left : Left C P w v (root w) ms ns t) (whole : Whole C P t.0 t.1 e)
      (split : (m : ℕ) → occ m (nodes (suc h) former) ≡ occ m ms + occ m (tree_nodes t)) (count : length (nodes (suc h) former) ≡ length ms + length (tree_nodes t))
      (lower : t.0 ≤ h) (ends : tree_entries t e Open ≡ drop k es) (enough : k ≤ length es) (levels : l ≡ collapsed_levels h t.0 (tree_entries t e Open))
      (reset : tree_entries t e Open ≡ [] → t.0 ≡ 0) (made : t ≡ left_tree (root w) h e (cut (suc h) e former r)) where
    same-root : root v ≡ root w
    same-root = left.words 2 (omega arith) (omega arith) (omega arith)

    tree_is : tree_of C v t.0 ≡ t.1
    tree_is = ap (level C v (suc t.0)) same-root ∙ left.tree

    longer : length (reverse ms ++ ns) ≡ length ns + length ms
    longer = omega (arith, length-append (reverse ms) ns, length-reverse ms)

    formed-after : Formed C P v t.0 e (reverse ms ++ ns)
    formed-after =
        record {
          capacity-is = left.words 0 (omega arith) (omega arith) (omega arith) ∙ formed.capacity-is;
          pool-is = left.words 1 (omega arith) (omega arith) (omega arith) ∙ formed.pool-is;
          header = left.header;
          whole = rw tree_is whole;
          high = omega (arith, formed.high);
          chain = left.chain;
          free = omega (arith, left.free, formed.free, longer);
          cover = λ m. rw (tree_is, ← formed.cover m) (omega (arith, split m, occ-append m (reverse ms) ns, occ-reverse m ms));
        }

    pub pruned_as : Pruned C P w h r ns e k (length ms) l v
    pruned_as =
        record {
          height = t.0;
          freed = ms;
          chain = reverse ms ++ ns;
          formed = formed-after;
          entries-left = rw tree_is ends;
          enough = enough;
          split = λ m. rw tree_is (split m);
          many = refl;
          fewer = rw tree_is (omega (arith, count));
          chain-is = refl;
          more = longer;
          same-root = same-root;
          tree-left = ap (λ (y : Level (suc t.0)). let x : Tree = (t.0, y) in x) tree_is ∙ made;
          lower = lower;
          levels = rw tree_is levels;
          reset = λ p. reset (rw tree_is at p);
        }

module _ (C : Shape) (P : ℕ) (w : List ℕ) (h r : ℕ) (ns : List ℕ) (formed : Formed C P w h r ns) (well : Well C P (suc h) (tree_of C w h) r Open)
    (e : ℕ) (ids : List ℕ) (below : r < e) (some : eqb (length ids) 0 ≡ false) where
  abbrev before : Level (suc h)
  before = tree_of C w h

  abbrev all : List Entry
  all = entries (suc h) before r Open

  module _ (ids₂ : List ℕ) (k c : ℕ) (passes : ran_out e (run e all (on ids 0 0)) ≡ on ids₂ k c) where
    linked : Linked r all Open
    linked = sound-linked C P h before r Open (well-sound C P (suc h) before r Open well)

    last_end : ℕ
    last_end = linked.end

    used : Used e r last_end 0 k ids all
    unfolding last_end
    used =
        used-run e r linked.end all linked.run ids 0 k
        (sym (fresh e r 0 all (sound-starts C P (suc h) before r Open (well-sound C P (suc h) before r Open well)) ids some) ∙ all-used e (run e all (on ids 0 0)) ids₂ k c passes)

    low : e ≤ row_limit
    unfolding last_end
    low = omega (arith, used.high, linked.low)

    k-is : k ≡ length ids
    k-is = omega (arith, used.number)

    abbrev outcome : Outcome
    outcome = prune_scanned C P w (root w) h e before (on ids₂ k c)

    -- nothing stays
    module _ (none : cut (suc h) e before r ≡ gone) where
      no_copies : root_copies C P h e before ≡ copies []
      unfolding root_copies if_gone
      no_copies = rw (root-rest C P h e before r Open well below used.lands, none)

      parts : nodes (suc h) before ≡ gone_nodes h e before ++ (root w ∷ [])
      unfolding level
      parts = gone-nodes C P h e before r Open well below used.lands none

      emptied-is : outcome ≡ record { answer = result (length ids ∷ length (gone_nodes h e before) ∷ 0 ∷ []); words = prune_tree C w (root w) h e before [] }
      unfolding prune_scanned prune_with
      emptied-is =
          rw (
            no_copies,
            add-zero,
            le-leb (free_count w + length (gone_nodes h e before)) P
                (omega (arith, formed-sum C P w h r ns formed, ap length parts, length-append (gone_nodes h e before) (root w ∷ []))),
            k-is,
          )

      inside : root w < P
      inside = (formed-root C P w h r ns formed).inside

      no_entries_lem : tree_entries (reset_tree (root w) e) e Open ≡ []
      unfolding entries over_pairs
      no_entries_lem = refl

      one-node : tree_nodes (reset_tree (root w) e) ≡ root w ∷ []
      one-node = empty_nodes C P w formed.header (root w) e inside

      no_levels : 0 ≡ collapsed_levels h 0 (tree_entries (reset_tree (root w) e) e Open)
      unfolding collapsed_levels
      no_levels = rw no_entries_lem

      accepts-none : Accepts C P w h r ns e ids outcome
      unfolding left_tree
      accepts-none =
          rw emptied-is (record {
            f = length (gone_nodes h e before);
            l = 0;
            answer = refl;
            pruned = pruned_as C P w h r ns formed e (length ids) 0 (prune_tree C w (root w) h e before []) (gone_nodes h e before) (reset_tree (root w) e)
                (prune-reset C P w formed.header h (root w) e r Open well below used.lands ns formed.cover formed.chain none)
                (blank (record { leaf = refl; inside = inside; high = refl; none = refl; begin = refl; low = low; ends = refl }))
                (λ m. ap (occ m) parts ∙ occ-append m (gone_nodes h e before) (root w ∷ []) ∙ rw one-node)
                (ap length parts ∙ length-append (gone_nodes h e before) (root w ∷ []) ∙ rw one-node)
                (omega arith) (no_entries_lem ∙ sym (gone-entries C P h e before r Open well below used.lands none) ∙ used.cut) used.enough no_levels (λ p. refl) (rw none);
          })

    -- y stays
    module _ (y : Level (suc h)) (stay : cut (suc h) e before r ≡ stays y) where
      abbrev freeing : List ℕ
      freeing = gone_nodes h e before ++ reverse (copied_nodes h y)

      abbrev new : Tree
      new = collapse (root w) h y

      the_copies : root_copies C P h e before ≡ copies (copied_nodes h y)
      unfolding root_copies if_gone CopiesLaw level
      the_copies =
          rw (root-rest C P h e before r Open well below used.lands, stay)
          (subst (λ (s : ℕ). copies_from C P h e before s ≡ copies (copied_nodes h y)) (sym (own C P w h (root w) r Open (well-sound C P (suc h) before r Open well)).1)
          (copies-sound C P e h before y r well stay))

      many-freed : length freeing ≡ length (gone_nodes h e before) + length (copied_nodes h y)
      many-freed = omega (arith, length-append (gone_nodes h e before) (reverse (copied_nodes h y)), length-reverse (copied_nodes h y))

      counts : length (nodes (suc h) before) ≡ length freeing + length (tree_nodes new)
      unfolding level
      counts = omega (arith, many-freed, cut-count C P h e before r Open well below used.lands y stay)

      cut-is : outcome ≡ record { answer = result (length ids ∷ length freeing ∷ length (copied_nodes h y) ∷ []); words = prune_tree C w (root w) h e before (copied_nodes h y) }
      unfolding prune_scanned prune_with
      cut-is =
          rw (the_copies, ← many-freed, le-leb (free_count w + length freeing) P (omega (arith, formed-sum C P w h r ns formed, counts)), k-is)

      new-well : Well C P (suc new.0) new.1 e Open
      unfolding level
      new-well = cut-well C P h e before r Open well below used.lands y stay

      new-entries : tree_entries new e Open ≡ drop (length ids) all
      unfolding level
      new-entries = cut-entries C P h e before r Open well below used.lands y stay ∙ used.cut

      split : (m : ℕ) → occ m (nodes (suc h) before) ≡ occ m freeing + occ m (tree_nodes new)
      unfolding level
      split m = omega (arith, cut-occ C P h e before r Open well below used.lands y stay m, occ-append m (gone_nodes h e before) (reverse (copied_nodes h y)), occ-reverse m (copied_nodes h y))

      new-starts : Starts e (tree_entries new e Open)
      new-starts = sound-starts C P (suc new.0) new.1 e Open (well-sound C P (suc new.0) new.1 e Open new-well)

      levels-are : length (copied_nodes h y) ≡ collapsed_levels h new.0 (tree_entries new e Open)
      levels-are = omega (arith, some-levels h new.0 e (tree_entries new e Open) new-starts, collapse-levels (root w) h y)

      accepts-some : Accepts C P w h r ns e ids outcome
      unfolding left_tree
      accepts-some =
          rw cut-is (record {
            f = length freeing;
            l = length (copied_nodes h y);
            answer = refl;
            pruned = pruned_as C P w h r ns formed e (length ids) (length (copied_nodes h y)) (prune_tree C w (root w) h e before (copied_nodes h y)) freeing new
                (prune-tree C P w formed.header h (root w) e r Open well below used.lands ns formed.cover formed.chain y stay)
                (held new-well) split counts (omega (arith, collapse-levels (root w) h y)) new-entries used.enough levels-are (λ p. not_none e (tree_entries new e Open) new-starts p) (rw stay);
          })

    -- the law
    pub accepted : Accepts C P w h r ns e ids outcome
    accepted = by_rest (cut (suc h) e before r) accepts-none accepts-some
