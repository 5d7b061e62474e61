-- What the tests of C, P, length and header say.
use Prim.Native.Nat.{ℕ, ◌≤◌}
use mathlib.Core.List.{List}
use mathlib.Core.Bool.{Bool, true, false}
use mathlib.Core.Path.{◌≡◌}
use lib.ListN.{length}
use lib.Dec.{eqb, leb→le, eqb→eq}
use borrow.Author.Tests.{le-leb, eq-eqb}
use Rattle.model.specs.Words.{capacity, pool, root, free_head, free_count, store_length, in_range, sized, Header}
use Rattle.model.specs.Refusals.{header_ok}
use Rattle.model.proofs.Tests.{and_l, and_r, by_test, is_true, holds}

pub record InRange (C P : ℕ) : Type 0 where
  pub cap-low : 2 ≤ C
  pub cap-high : C ≤ 4094
  pub pool-low : 1 ≤ P
  pub pool-high : P ≤ 65535

module _ (C P : ℕ) where
  pub range_of : in_range C P ≡ true → InRange C P
  range_of e =
      let t = holds (in_range C P) e in
      record {
        cap-low = leb→le 2 C (search (and_l, and_r) depth 8);
        cap-high = leb→le C 4094 (search (and_l, and_r) depth 8);
        pool-low = leb→le 1 P (search (and_l, and_r) depth 8);
        pool-high = leb→le P 65535 (search (and_l, and_r) depth 8);
      }

  pub range-is : InRange C P → in_range C P ≡ true
  range-is r = rw (le-leb 2 C r.cap-low, le-leb C 4094 r.cap-high, le-leb 1 P r.pool-low, le-leb P 65535 r.pool-high)

  -- a fact that fails is enough
  pub range-not : (InRange C P → ⊥) → in_range C P ≡ false
  range-not f = by_test (in_range C P) (λ e. absurd (f (range_of e))) (λ e. e)

module _ (C P : ℕ) (w : List ℕ) where
  abbrev as_long : Bool
  as_long = eqb (length w) (store_length C P)

  pub sized-header : sized C P (length w) ≡ true → Header C P w
  sized-header e =
      let t = holds (sized C P (length w)) e in
      let r = range_of C P (is_true (in_range C P) (and_l (in_range C P) as_long t)) in
      record {
        cap-low = r.cap-low;
        cap-high = r.cap-high;
        pool-low = r.pool-low;
        pool-high = r.pool-high;
        long = eqb→eq (length w) (store_length C P) (and_r (in_range C P) as_long t);
      }

  pub header-sized : Header C P w → sized C P (length w) ≡ true
  header-sized h =
      let r : InRange C P = record { cap-low = h.cap-low; cap-high = h.cap-high; pool-low = h.pool-low; pool-high = h.pool-high } in
      rw (range-is C P r, eq-eqb (length w) (store_length C P) h.long)

module _ (w : List ℕ) where
  pub record HeaderFits : Type 0 where
    pub fits : Header (capacity w) (pool w) w
    pub root-low : root w ≤ pool w
    pub head-low : free_head w ≤ pool w
    pub count_low : free_count w ≤ pool w

  pub header_of : header_ok w ≡ true → HeaderFits
  unfolding header_ok
  header_of e =
      let t = holds (header_ok w) e in
      record {
        fits = sized-header (capacity w) (pool w) w (is_true _ (search (and_l, and_r) depth 8));
        root-low = leb→le (root w) (pool w) (search (and_l, and_r) depth 8);
        head-low = leb→le (free_head w) (pool w) (search (and_l, and_r) depth 8);
        count_low = leb→le (free_count w) (pool w) (search (and_l, and_r) depth 8);
      }

  pub header_is : HeaderFits → header_ok w ≡ true
  unfolding header_ok
  header_is h =
      rw (
        header-sized (capacity w) (pool w) w h.fits,
        le-leb (root w) (pool w) h.root-low,
        le-leb (free_head w) (pool w) h.head-low,
        le-leb (free_count w) (pool w) h.count_low,
      )

  -- a fact that fails is enough
  pub header-not : (HeaderFits → ⊥) → header_ok w ≡ false
  header-not f = by_test (header_ok w) (λ e. absurd (f (header_of e))) (λ e. e)
