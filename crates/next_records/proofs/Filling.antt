-- Laws of `records`: the length, a turn of the loop that copies.
use Prim.Native.Nat.{ℕ, zero, suc, ◌+◌}
use mathlib.Core.Path.{◌≡◌, refl, ◌∙◌, ap}
use mathlib.Core.List.{List, [], ◌∷◌, ◌++◌}
use native.Mathlib.Omega.{arith}
use native.Mathlib.Nat.{add-zero}
use native.Mathlib.Numerals.{add-one}
use lib.ListN.{length, set}
use Rattle.model.specs.Words.{Shape, fill, row, child}
use Rattle.model.specs.LeafWalk.{page_entry, records}
use Rattle.model.specs.declared.node.PageEntry.{PageEntry}
use Rattle.model.proofs.Fill.{fill_snoc}

module _ (C : Shape) (w : List ℕ) (n : ℕ) where
  pub length-records : (i k : ℕ) → length (records C w n i k) ≡ k
  unfolding records
  length-records i zero = refl
  length-records i (suc k) = ap suc (length-records (i + 1) k)

  pub records_snoc : (i k : ℕ) → records C w n i (suc k) ≡ records C w n i k ++ (page_entry (row C w n (i + k)) (child C w n (i + k)) ∷ [])
  unfolding records
  records_snoc i zero = rw add-zero
  records_snoc i (suc k) =
      let e : i + 1 + k ≡ i + suc k = omega arith in
      ap (λ (t : List PageEntry). page_entry (row C w n i) (child C w n i) ∷ t) (records_snoc (i + 1) k ∙ rw e)

  module _ (zs : List PageEntry) where
    abbrev pub upto : ℕ → List PageEntry
    upto k = fill zs 0 (records C w n 0 k)

    pub none : zs ≡ upto 0
    unfolding fill records
    none = refl

    pub more : (i : ℕ) (ys : List PageEntry) (e : PageEntry) → ys ≡ upto i → e ≡ page_entry (row C w n i) (child C w n i) → set ys i e ≡ upto (i + 1)
    more i ys e is at =
        let z : 0 + i ≡ i = omega arith in
        rw (is, at, add-one i, records_snoc 0 i, fill_snoc, length-records 0 i, z)
