-- The first k nodes of an array.
use Prim.Native.Nat.{ℕ, zero, suc, ◌+◌, ◌<◌, ◌≤◌}
use mathlib.Core.List.{List}
use mathlib.Core.Path.{◌≡◌, refl, ap, ◌∙◌}
use native.Mathlib.Omega.{arith}
use lib.ListN.{take, length}
use Rattle.std.proofs.lemmas.List.{get_or-take, length-take-le}
use Rattle.model.specs.declared.id.NodeNo.{NodeNo}
use Rattle.node_chain.specs.Chain.{listed}
use Rattle.prune_write.specs.Nodes.{AllIn}

module _ (l : List NodeNo) (k : ℕ) where
  listed-part : (i n : ℕ) → i + n ≤ k → listed (take k l) i n ≡ listed l i n
  unfolding listed
  listed-part i zero h = refl
  listed-part i (suc n) h = rw (get_or-take k l i (record { 0 = 0 }) (omega arith), listed-part (i + 1) n (omega arith))

  module _ (h : k ≤ length l) where
    pub listed-take : listed (take k l) 0 (length (take k l)) ≡ listed l 0 k
    listed-take = ap (listed (take k l) 0) (length-take-le k l h) ∙ listed-part 0 k (omega arith)

    pub all-take : (P : ℕ) → AllIn P l k → AllIn P (take k l) (length (take k l))
    unfolding AllIn
    all-take P a i m =
        let b : i < k = omega (arith, length-take-le k l h) in
        rw (get_or-take k l i (record { 0 = 0 }) b) (a i b)
