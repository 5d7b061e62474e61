-- A leaf that a path reaches can be searched; the lookup by cases.
use Prim.Native.Nat.{ℕ, ◌<◌, ◌≤◌}
use mathlib.Core.List.{List}
use mathlib.Core.Path.{◌≡◌, sym, ◌∙◌}
use mathlib.Core.Logic.{⊎_elim}
use native.Mathlib.Omega.{arith}
use lib.Dec.{T}
use borrow.Author.Tests.{le-ltb}
use Rattle.model.specs.Words.{Shape, count, start}
use Rattle.model.specs.Tree.{Limit, pairs_from, rising}
use Rattle.model.specs.Reading.{leaf, root_leaf, to_row}
use Rattle.model.specs.Lookup.{found_in, find_in_tree}
use Rattle.model.proofs.Tests.{holds}
use Rattle.node_test.proofs.Rows.{facts, sound_if}
use Rattle.tree_path.proofs.Down.{Sound, root-sound}
use Rattle.law_formed.proofs.Rooted.{empty_of}
use Rattle.call_find.specs.Leaf.{IsLeaf}

-- no entries rise
none-rise : (C : Shape) (w : List ℕ) (n k : ℕ) → k ≡ 0 → T (rising (pairs_from C w (λ (x : ℕ). x) n 0 k))
unfolding rising pairs_from
none-rise C w n k e = rw e tt

pub is_leaf : (f : ℕ → ℕ) (C : Shape) (P : ℕ) (w : List ℕ) (n : ℕ) (b : Limit) (k : ℕ) → k < P → root_leaf f C P w k ≡ leaf n b → IsLeaf C P w n
is_leaf f C P w n b k l e =
    ⊎_elim
    (λ p. let z = empty_of C w n p.1 in record { inside = p.0; many = omega (arith, z.none); rises = none-rise C w n (count C w n) z.none })
    (λ (q : Sound f C P w n b). let t = facts C w n 0 q.row b q.good in
    record { inside = q.inside; many = t.many; rises = holds _ (sym (sound_if C w n 0 q.row b t) ∙ q.good) })
    (root-sound f C P w n b k l e)

module _ (C : Shape) (P : ℕ) (w : List ℕ) (n q : ℕ) where
  pub inside : start C w n ≤ q → find_in_tree C P w n q ≡ found_in C w q (root_leaf (to_row C w q) C P w n)
  unfolding find_in_tree
  inside l = rw (le-ltb q (start C w n) l)
