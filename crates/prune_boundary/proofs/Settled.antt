-- An edge by the path that was climbed.
use Prim.Native.Nat.{ℕ, zero, suc, ◌+◌, ◌-◌, ◌<◌, ◌≤◌}
use mathlib.Core.List.{List, [], ◌∷◌, ◌++◌, append_assoc}
use mathlib.Core.Path.{◌≡◌, refl, sym, ap, ◌∙◌}
use native.Mathlib.Omega.{arith}
use native.Mathlib.Nat.{zero-add, add-zero}
use lib.ListN.{get_or}
use borrow.Author.Tests.{lt-ltb, le-ltb}
use Rattle.model.specs.Paths.{no_position, stack, last_of}
use Rattle.model.specs.declared.path.Position.{Position}
use Rattle.model.specs.declared.path.Path.{Path}
use Rattle.prune_boundary.specs.Edge.{trims_up, trims_on, goes_at, Settled}
use Rattle.prune_boundary.specs.Trims.{trims_from, trims_of, NoneBelow}

-- what goes at each level
goes-up : (d i k : ℕ) → i + 1 < d → goes_at d i k ≡ k - 1
unfolding goes_at
goes-up d i k l = rw (lt-ltb (i + 1) d l)

goes_last : (d i k : ℕ) → i + 1 ≡ d → goes_at d i k ≡ k
unfolding goes_at
goes_last d i k e = rw (le-ltb (i + 1) d (omega arith), lt-ltb i d (omega arith))

goes-below : (d i k : ℕ) → d ≤ i → goes_at d i k ≡ 0
unfolding goes_at
goes-below d i k l = rw (le-ltb (i + 1) d (omega arith), le-ltb i d l)

from_last : (l : List Position) (i m : ℕ) → trims_from l i (suc m) ≡ trims_from l i m ++ (((get_or l (i + m) no_position).node.0, (get_or l (i + m) no_position).index) ∷ [])
unfolding trims_from
from_last l i zero = rw add-zero
from_last l i (suc m) = let z : i + 1 + m ≡ i + suc m = omega arith in ap (λ (ts : List (ℕ × ℕ)). ((get_or l i no_position).node.0, (get_or l i no_position).index) ∷ ts) (from_last l (i + 1) m ∙ rw z)

module _ (p q : Path) (d : ℕ) (s : Settled p q d) (z : 0 < p.depth) (m : p.depth ≤ d) where
  pub settled-last : last_of q ≡ last_of p
  settled-last =
      ap (λ (i : ℕ). get_or q.positions (i - 1) no_position) s.depth_is ∙ s.each (p.depth - 1) (omega arith)
      ∙ ap (λ (k : ℕ). record { node = (last_of p).node; index = k }) (goes_last p.depth (p.depth - 1) (last_of p).index (omega arith))

  pub settled-none : NoneBelow q d
  settled-none i l h = ap (λ (x : Position). x.index) (s.each i h) ∙ goes-below p.depth i (get_or p.positions i no_position).index (omega (arith, s.depth_is))

  -- the levels above the last
  above-is : (j : ℕ) → j < p.depth → (T : List (ℕ × ℕ)) → trims_up (stack p.positions j) T ≡ trims_from q.positions 0 j ++ T
  unfolding trims_up stack trims_from
  above-is zero l T = refl
  above-is (suc j) l T =
      let x = get_or p.positions j no_position in
      let t : ℕ × ℕ = (x.node.0, x.index - 1) in
      let e : get_or q.positions j no_position ≡ record { node = x.node; index = x.index - 1 } = s.each j (omega arith) ∙ ap (λ (k : ℕ). record { node = x.node; index = k }) (goes-up p.depth j x.index (omega arith)) in
      above-is j (omega arith) (t ∷ T) ∙ sym (append_assoc (trims_from q.positions 0 j) (t ∷ []) T)
      ∙ ap (λ (ts : List (ℕ × ℕ)). ts ++ T) (sym (from_last q.positions 0 j ∙ ap (λ (i : ℕ). trims_from q.positions 0 j ++ (((get_or q.positions i no_position).node.0, (get_or q.positions i no_position).index) ∷ [])) (zero-add j) ∙ ap (λ (y : Position). trims_from q.positions 0 j ++ ((y.node.0, y.index) ∷ [])) e))

  -- the law
  pub settled-trims : trims_of q ≡ trims_on p
  settled-trims =
      let j = p.depth - 1 in
      let e : p.depth ≡ suc j = omega arith in
      let a : get_or q.positions j no_position ≡ last_of p = s.each j (omega arith) ∙ ap (λ (k : ℕ). record { node = (last_of p).node; index = k }) (goes_last p.depth j (last_of p).index (omega arith)) in
      ap (trims_from q.positions 0) (s.depth_is ∙ e) ∙ rw (from_last q.positions 0 j, zero-add j, a) (sym (above-is j (omega arith) (((last_of p).node.0, (last_of p).index) ∷ [])))
