-- Page ids that go into a lent list.
use Prim.Native.Nat.{ℕ, zero, suc, ◌+◌, ◌-◌, ◌<◌, ◌≤◌}
use mathlib.Core.List.{List, []}
use mathlib.Core.Path.{◌≡◌, refl, ap, ◌∙◌}
use native.Mathlib.Omega.{arith}
use native.Mathlib.Nat.{sub-zero}
use lib.ListN.{length, set}
use borrow.Author.Tests.{eq-eqb, ne_eqb}
use Rattle.model.specs.Words.{Shape, fill, height, count, child}
use Rattle.node_read.proofs.Asked.{leaf-height, branch-height}
use Rattle.release_pages.specs.Pages.{pages_from, pages_at}

-- The page ids of one node --------------------------------------------------------------------------------

module _ (C : Shape) (w : List ℕ) (n : ℕ) where
  pub pages-length : (i k : ℕ) → length (pages_from C w n i k) ≡ k
  unfolding pages_from
  pages-length i zero = refl
  pages-length i (suc k) = ap suc (pages-length (i + 1) k)

  pub leaf-pages : height C w n ≡ 0 → pages_at C w n ≡ pages_from C w n 0 (count C w n)
  unfolding pages_at
  leaf-pages e = rw (eq-eqb (height C w n) 0 e)

  pub branch-pages : (height C w n ≡ 0 → ⊥) → pages_at C w n ≡ []
  unfolding pages_at
  branch-pages e = rw (ne_eqb (height C w n) 0 e)

  pub leaf-length : height C w n ≡ 0 → length (pages_at C w n) ≡ count C w n
  leaf-length e = ap length (leaf-pages e) ∙ pages-length 0 (count C w n)

  -- the turns of a loop over them
  pub fill_start : (l : List ℕ) (a k : ℕ) → fill l a (pages_from C w n 0 k) ≡ fill l a (pages_from C w n 0 (k - 0))
  fill_start l a k = rw sub-zero

  module _ (l : List ℕ) (a i k : ℕ) where
    pub fill_more : i < k → fill l (a + i) (pages_from C w n i (k - i)) ≡ fill (set l (a + i) (child C w n i)) (a + (i + 1)) (pages_from C w n (i + 1) (k - (i + 1)))
    unfolding fill pages_from
    fill_more h = let e : k - i ≡ suc (k - (i + 1)) = omega arith in let s : a + (i + 1) ≡ a + i + 1 = omega arith in rw (e, s)

    pub fill_done : k ≤ i → fill l (a + i) (pages_from C w n i (k - i)) ≡ l
    unfolding fill pages_from
    fill_done h = let e : k - i ≡ 0 = omega arith in rw e

pub ruleset filling = (leaf-pages, branch-pages, leaf-length, fill_start, fill_more, fill_done, leaf-height, branch-height)
