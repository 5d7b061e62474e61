-- One turn of following the chain, and what comes after it.
use Prim.Native.Nat.{ℕ, suc, ◌+◌, ◌-◌, ◌<◌, ◌≤◌}
use mathlib.Core.List.{List, [], ◌∷◌}
use mathlib.Core.Bool.{Bool, true, false}
use mathlib.Core.Path.{◌≡◌}
use native.Mathlib.Omega.{arith}
use lib.Dec.{eqb}
use borrow.Author.Tests.{lt-ltb, le-ltb, eq-eqb, ne_eqb, eqb-true, eqb-false}
use Rattle.model.specs.Words.{Shape, height, count, free_mark}
use Rattle.model.specs.FullCheck.{chain_ends}
use Rattle.model.specs.Refusals.{result, damaged}
use Rattle.node_read.specs.declared.header.StoreHeader.{StoreHeader}
use Rattle.tree_tally.specs.declared.Counts.{Counts}
use Rattle.call_check.specs.Ending.{ending}

module _ (C : Shape) (P : ℕ) (w : List ℕ) (n i : ℕ) where
  pub ends-done : i ≤ 0 → chain_ends C P w n i ≡ eqb n P
  unfolding chain_ends
  ends-done z = let e : i ≡ 0 = omega arith in rw e

  module _ (z : 0 < i) where
    again : i ≡ suc (i - 1)
    again = omega arith

    pub ends-out : P ≤ n → chain_ends C P w n i ≡ false
    unfolding chain_ends
    ends-out l = rw (again, le-ltb n P l)

    pub ends_mark : n < P → (height C w n ≡ free_mark → ⊥) → chain_ends C P w n i ≡ false
    unfolding chain_ends
    ends_mark l d = rw (again, lt-ltb n P l, ne_eqb (height C w n) free_mark d)

    pub ends-turn : n < P → height C w n ≡ free_mark → chain_ends C P w n i ≡ chain_ends C P w (count C w n) (i - 1)
    unfolding chain_ends
    ends-turn l d = let e : suc (i - 1) - 1 ≡ i - 1 = omega arith in rw (again, lt-ltb n P l, eq-eqb (height C w n) free_mark d, e)

-- after a tree with counts k
module _ (h : StoreHeader) (k : Counts) (chain : Bool) where
  pub end-chain : chain ≡ false → ending h k chain ≡ damaged
  unfolding ending
  end-chain c = rw c

  module _ (c : chain ≡ true) (l : h.free_count ≤ h.layout.pool) where
    pub end-count : (k.nodes ≡ h.layout.pool - h.free_count → ⊥) → ending h k chain ≡ damaged
    unfolding ending
    end-count d = rw (c, ne_eqb (k.nodes + h.free_count) h.layout.pool (λ e. d (omega arith)))

    pub end-held : k.nodes ≡ h.layout.pool - h.free_count → ending h k chain ≡ result (k.entries ∷ k.nodes ∷ h.free_count ∷ [])
    unfolding ending
    end-held d = rw (c, eq-eqb (k.nodes + h.free_count) h.layout.pool (omega arith))

pub ruleset following = (ends-done, ends-out, ends_mark, ends-turn, eqb-true, eqb-false)

pub ruleset ends = (end-chain, end-count, end-held)
