-- A well-formed store passes the header test and is open.
use Prim.Native.Nat.{ℕ, suc, ◌+◌, ◌<◌}
use mathlib.Core.List.{List}
use mathlib.Core.Bool.{Bool, true}
use mathlib.Core.Path.{◌≡◌, ap, ◌∙◌}
use mathlib.Core.Logic.{◌≢◌}
use native.Mathlib.Omega.{arith}
use lib.ListN.{length}
use borrow.Author.Tests.{lt-ltb, ne_eqb}
use Rattle.model.specs.Words.{store_shape, Arrangement, Shape, pick, pool, root, free_head, free_count, height}
use Rattle.model.specs.Reading.{root_nodes, nodes, occ}
use Rattle.model.specs.Refusals.{Answer, header_ok, when_open}
use Rattle.model.specs.WellFormed.{WellFormed}
use Rattle.model.proofs.Header.{header_is}
use Rattle.law_formed.specs.Formed.{tree_of, Formed}
use Rattle.law_formed.proofs.Chains.{chain-low}
use Rattle.law_formed.proofs.Bridge.{counts, formed-root, well-formed}

module _ (L : Arrangement) (w : List ℕ) (F : WellFormed L w) where
  pub sum : length (root_nodes (store_shape L w) w (root w)) + free_count w ≡ pool w
  unfolding WellFormed
  sum = omega (arith, F.free, counts (store_shape L w) (pool w) w (height (store_shape L w) w (root w)) (root w) F.is_open F.sound F.chain F.linked F.once)

  pub well_open : root w < pool w
  unfolding WellFormed
  well_open = F.is_open

  pub well-header : header_ok w ≡ true
  unfolding WellFormed
  well-header =
      header_is w (record {
        fits = F.fits;
        root-low = omega (arith, well_open);
        head-low = chain-low (store_shape L w) (pool w) w (free_head w) F.chain F.linked;
        count_low = omega (arith, sum);
      })

  pub not-closed : root w ≢ pool w
  not-closed e = omega (arith, well_open)

  -- every call goes on
  pub goes_on : {A : Type 0} (refuse : Answer → A) (a : A) → when_open w refuse a ≡ a
  goes_on refuse a = rw (well-header, ne_eqb (root w) (pool w) not-closed)

module _ (C : Shape) (P : ℕ) (w : List ℕ) (h r : ℕ) (ns : List ℕ) (F : Formed C P w h r ns) where
  pub formed-header : header_ok w ≡ true
  formed-header = well-header C.slots w (well-formed C P w h r ns F)

  pub formed_open : root w < pool w
  formed_open = well_open C.slots w (well-formed C P w h r ns F)

  pub formed-not-closed : root w ≢ pool w
  formed-not-closed = not-closed C.slots w (well-formed C P w h r ns F)

  pub formed-goes-on : {A : Type 0} (refuse : Answer → A) (a : A) → when_open w refuse a ≡ a
  formed-goes-on refuse a = goes_on C.slots w (well-formed C P w h r ns F) refuse a

  -- tree nodes and free nodes are P together
  pub formed-sum : free_count w + length (nodes (suc h) (tree_of C w h)) ≡ P
  formed-sum =
      let q = formed-root C P w h r ns F in
      let once : (m : ℕ) → m < P → occ m (nodes (suc h) (tree_of C w h)) + occ m ns ≡ 1 = λ m p. F.cover m ∙ ap (λ (t : Bool). pick t 1 0) (lt-ltb m P p) in
      omega (arith, F.free, counts C P w h (root w) q.inside (q.sound F.high) ns F.chain once)
