-- The three answers of the header test.
use Prim.Native.Nat.{ℕ, ◌≤◌, ◌<◌}
use mathlib.Core.List.{List}
use mathlib.Core.Bool.{true, false}
use mathlib.Core.Path.{◌≡◌}
use native.Mathlib.Omega.{arith}
use lib.ListN.{length}
use lib.Dec.{eqb}
use borrow.Author.Tests.{eq-eqb, ne_eqb, eqb-false}
use Rattle.model.specs.Words.{capacity, pool, root, free_head, free_count, Header}
use Rattle.model.specs.Refusals.{Answer, header_ok, when_open, refusal}
use Rattle.model.specs.declared.answer.Refusal.{Refusal}
use Rattle.model.proofs.Tests.{by_test}
use Rattle.model.specs.declared.answer.Refusal.TheVariants.{Closed, Unsound}
use Rattle.node_read.specs.Layout.{store_header, opened}
use Rattle.node_read.specs.declared.header.StoreHeader.{StoreHeader}
use Rattle.std.specs.Prelude.{Result, Ok, Err}
use Rattle.model.proofs.Header.{header_of}

module _ (w : List ℕ) where
  pub opened-damaged : header_ok w ≡ false → opened w ≡ Err (Unsound (record { 0 = 65535 }))
  unfolding opened
  opened-damaged e = rw e

  pub opened-closed : header_ok w ≡ true → root w ≡ pool w → opened w ≡ Err Closed
  unfolding opened
  opened-closed e c = rw (e, eq-eqb (root w) (pool w) c)

  pub opened_open : header_ok w ≡ true → (root w ≡ pool w → ⊥) → opened w ≡ Ok (store_header w)
  unfolding opened
  opened_open e c = rw (e, ne_eqb (root w) (pool w) c)

  -- the header's own words are there
  pub eight : header_ok w ≡ true → 8 ≤ length w
  eight e = let p = header_of w e in omega arith

-- what an open store and a refused one say
pub ruleset opening = (opened-damaged, opened-closed, opened_open, eight)

-- The same test in the definitions of the calls: what a call does after it, in both cases
pub record IsOpen (w : List ℕ) (h : StoreHeader) : Type 0 where
  pub header_is : h ≡ store_header w
  pub fits : Header (capacity w) (pool w) w
  pub inside : root w < pool w
  pub head_in : free_head w ≤ pool w
  pub free_in : free_count w ≤ pool w
  pub passes : header_ok w ≡ true
  pub not-closed : eqb (root w) (pool w) ≡ false

module _ (w : List ℕ) where
  pub is_open : (h : StoreHeader) → opened w ≡ Ok h → IsOpen w h
  unfolding opened
  is_open h e =
      by_test (header_ok w)
      (λ t. by_test (eqb (root w) (pool w))
      (λ u. let q : ◌≡◌ {A = Result StoreHeader Refusal} (Err Closed) (Ok h) = rw (t, u) at e in let z : ◌≡◌ {A = ℕ} 0 1 = cc in absurd (omega arith))
      (λ u. let q : Ok (store_header w) ≡ Ok h = rw (t, u) at e in
      let p = header_of w t in
      record {
        header_is = cc;
        fits = p.fits;
        inside = omega (arith, p.root-low, eqb-false (root w) (pool w) u);
        head_in = p.head-low;
        free_in = p.count_low;
        passes = t;
        not-closed = u;
      }))
      (λ t. let q : Err (Unsound (record { 0 = 65535 })) ≡ Ok h = rw t at e in let z : ◌≡◌ {A = ℕ} 0 1 = cc in absurd (omega arith))

  pub is-refused : (r : Refusal) → opened w ≡ Err r → {A : Type 0} (refuse : Answer → A) (a : A) → when_open w refuse a ≡ refuse (refusal r)
  unfolding opened
  is-refused r e refuse a =
      by_test (header_ok w)
      (λ t. by_test (eqb (root w) (pool w))
      (λ u. let q : Err Closed ≡ Err r = rw (t, u) at e in let d : Closed ≡ r = cc in rw (t, u, ← d))
      (λ u. let q : Ok (store_header w) ≡ Err r = rw (t, u) at e in let z : ◌≡◌ {A = ℕ} 0 1 = cc in absurd (omega arith)))
      (λ t. let q : Err (Unsound (record { 0 = 65535 })) ≡ Err r = rw t at e in let d : Unsound (record { 0 = 65535 }) ≡ r = cc in rw (t, ← d))

  pub goes_on : (h : StoreHeader) → IsOpen w h → {A : Type 0} (refuse : Answer → A) (a : A) → when_open w refuse a ≡ a
  goes_on h o refuse a = rw (o.passes, o.not-closed)

module _ (w : List ℕ) (h : StoreHeader) (o : IsOpen w h) where
  -- the same by the header that was read
  pub opens-fits : Header h.layout.capacity h.layout.pool w × (h.root.0 < h.layout.pool)
  opens-fits = rw o.header_is (o.fits, o.inside)

  pub opens-free : (h.free_count ≤ 65535) × (free_count w ≤ 65535)
  opens-free = rw o.header_is (omega (arith, o.free_in, o.fits.pool-high), omega (arith, o.free_in, o.fits.pool-high))
