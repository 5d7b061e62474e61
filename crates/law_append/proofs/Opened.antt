-- The right edge of a well-formed store has no fault.
use Prim.Native.Nat.{ℕ, zero, suc, ◌+◌, ◌≤◌}
use mathlib.Core.List.{List}
use mathlib.Core.Path.{◌≡◌, ◌∙◌}
use native.Mathlib.Omega.{arith}
use lib.Dec.{ltb}
use borrow.Author.Tests.{le-ltb, le-leb}
use Rattle.model.specs.Words.{Shape, root, count, row, child, max_height}
use Rattle.model.specs.Tree.{Limit, Open, level, last, sound, AllSound}
use Rattle.model.specs.Reading.{Reached, leaf, checked, descend, next_row, root_leaf, to_right}
use Rattle.model.proofs.Tests.{is_true}
use Rattle.model.proofs.Sound.{sound-at}
use Rattle.model.proofs.Once.{own, some_pairs}
use Rattle.model.proofs.Lookup.{not_empty, is_empty}
use Rattle.law_formed.specs.Formed.{Whole, blank, held, tree_of}
use Rattle.law_formed.proofs.Clean.{well-sound}
use Rattle.law_formed.proofs.Bridge.{blank_empty}
use Rattle.law_append.proofs.Right.{right_at}
use Rattle.law_append.proofs.Last.{last-sound}

module _ (C : Shape) (P : ℕ) (w : List ℕ) where
  -- a sound node is passed
  passed : (h m n r : ℕ) (b : Limit) (x : Reached) → AllSound C P (suc h) (level C w (suc h) n) r b → checked C P w h m n r b x ≡ x
  unfolding checked AllSound level
  passed h m n r b x g =
      rw (is_true (ltb n P) g.0, ← sound-at (level C w h) C w h n r b, is_true (sound C h (level C w (suc h) n) r b) g.1)

  -- the right edge has no fault
  right-leaf : (h m n r : ℕ) (b : Limit) → AllSound C P (suc h) (level C w (suc h) n) r b → descend (to_right C w) C P w h m n r b ≡ leaf (right_at C w h n) b
  unfolding descend right_at next_row last
  right-leaf zero m n r b g = passed 0 m n r b (leaf n b) g
  right-leaf (suc h) m n r b g =
      let i = to_right C w n in
      passed (suc h) m n r b _ g
      ∙ rw (le-ltb (i + 1) (count C w n) (omega (arith, some_pairs C P w (suc h) n r b g))) (right-leaf h n (child C w n i) (row C w n i) b (last-sound C P w (suc h) n r b g))

module _ (C : Shape) (P : ℕ) (w : List ℕ) (h r : ℕ) where
  -- the law
  pub root-leaf : h ≤ max_height → Whole C P h (tree_of C w h) r → root_leaf (to_right C w) C P w (root w) ≡ leaf (right_at C w h (root w)) Open
  unfolding root_leaf right_at
  root-leaf l (held g) =
      let good = well-sound C P (suc h) (tree_of C w h) r Open g in
      let o = own C P w h (root w) r Open good in
      rw (not_empty C P w h (root w) r Open good, o.0, le-leb h max_height l, o.1) (right-leaf C P w h (root w) (root w) r Open good)
  root-leaf l (blank b) = rw (is_empty C w (root w) (blank_empty C P w h r b), b.leaf)
