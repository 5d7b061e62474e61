-- The reading from the root, by cases of the root.
use Prim.Native.Nat.{ℕ, suc, ◌<◌}
use mathlib.Core.List.{List, [], ◌∷◌, append-nil}
use mathlib.Core.Bool.{Bool, true, false}
use mathlib.Core.Path.{◌≡◌, sym, ◌∙◌}
use lib.Dec.{leb}
use Rattle.model.specs.Words.{Shape, height, start, max_height}
use Rattle.model.specs.Tree.{Open, node_at, empty_root, level}
use Rattle.model.specs.Paths.{entered}
use Rattle.model.specs.Reading.{Enter, passes, visits, root_visits}
use Rattle.tree_turn.specs.Left.{bound, rest, below}
use Rattle.tree_turn.proofs.Rest.{child-bad, child-good, passes-fits, rest-leaf, root-valid}
use Rattle.tree_turn.proofs.Tests.{pass-sound, pass-unsound}
use Rattle.tree_turn.proofs.Turns.{by_ends}
use Rattle.law_formed.proofs.Rooted.{empty_of}
use Rattle.tree_tally.specs.Tally.{counted, tally}
use Rattle.tree_tally.specs.declared.Counts.{Counts}
use Rattle.std.specs.Prelude.{Ok, Err}

module _ (ends : Bool) (C : Shape) (P : ℕ) (w : List ℕ) (n : ℕ) (k : Counts) where
  pub from_empty : empty_root C w n ≡ true → tally C w (root_visits ends C P w n) k ≡ Ok (counted C w n k)
  unfolding root_visits tally
  from_empty e = rw e

  -- below a leaf there is nothing to count
  pub below-leaf : height C w n ≡ 0 → tally C w (below ends C P w n) k ≡ Ok k
  unfolding tally rest
  below-leaf z = rw (rest-leaf ends C P w (height C w n) (entered n) [] z)

  module _ (e : empty_root C w n ≡ false) where
    pub from-high : leb (height C w n) max_height ≡ false → tally C w (root_visits ends C P w n) k ≡ Err (record { 0 = record { 0 = n } })
    unfolding root_visits tally
    from-high h = rw (e, h)

    module _ (h : leb (height C w n) max_height ≡ true) (inside : n < P) where
      pub from-bad : passes ends C (height C w n) (node_at C w n) (start C w n) Open ≡ false → tally C w (root_visits ends C P w n) k ≡ Err (record { 0 = record { 0 = n } })
      unfolding root_visits tally
      from-bad s = rw (e, h, child-bad ends C P w (height C w n) n n (start C w n) Open inside s)

      pub from-good : passes ends C (height C w n) (node_at C w n) (start C w n) Open ≡ true
          → tally C w (root_visits ends C P w n) k ≡ tally C w (below ends C P w n) (counted C w n k)
      unfolding root_visits tally bound rest
      from-good s =
          let q : visits ends C P (suc (height C w n)) n (level C w (suc (height C w n)) n) (start C w n) Open ≡ Enter n ∷ below ends C P w n =
          sym (append-nil (visits ends C P (suc (height C w n)) n (level C w (suc (height C w n)) n) (start C w n) Open)) ∙ child-good ends C P w (height C w n) n n (start C w n) [] inside s in
          rw (e, h, q)

pub ruleset from_root = (from_empty, from-high, from-bad, from-good, below-leaf, empty_of, pass-sound, pass-unsound, passes-fits, root-valid, by_ends)
