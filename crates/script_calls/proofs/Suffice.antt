-- "the lists lent here always suffice": refusal 13 does not come, on any words, where there are at most 4,096 of them.
use Prim.Native.Nat.{ℕ, ◌+◌, ◌*◌, ◌≤◌, ◌<◌}
use mathlib.Core.Path.{◌≡◌, refl}
use mathlib.Core.List.{List}
use mathlib.Core.Bool.{Bool, true, false}
use native.Mathlib.Omega.{arith}
use native.Mathlib.Nat.{mul-le-mul_left}
use lib.ListN.{length, length-replicate}
use lib.Dec.{leb, eqb}
use borrow.Author.Tests.{le-ltb, le-leb, eqb-false}
use Rattle.model.specs.Words.{store_shape, lent, capacity, pool, root, free_count, height}
use Rattle.model.specs.Reading.{Fault, clear, at, unless_bad, first_bad, root_visits, Reached, unsound, leaf, root_leaf, to_row, root_entries, root_nodes}
use Rattle.model.specs.Refusals.{Answer, result, refused, header_ok}
use Rattle.model.specs.LeafWalk.{page_entry, given, next_leaf_of}
use Rattle.model.specs.Release.{Released, first_low, destroy}
use Rattle.model.specs.declared.cursor.RowPageIndexMemCursor.{RowPageIndexMemCursor}
use Rattle.model.proofs.Tests.{by_test}
use Rattle.model.proofs.Words.{slots-are}
use Rattle.model.proofs.Header.{header_of}
use Rattle.law_formed.proofs.Rooted.{root-sound}
use Rattle.law_formed.proofs.Few.{root-few-nodes, root-few-entries}
use Rattle.script_calls.specs.Calls.{lent_records, lent_pages}

-- refusal 13
abbrev pub wants_more : Answer → Bool
wants_more (result vs) = false
wants_more (refused number detail) = eqb number 13

module _ (w : List ℕ) (small : length w ≤ 4096) where
  module _ (h : header_ok w ≡ true) where
    product : 4 * pool w + 2 * (capacity w * pool w) ≤ 4088
    product =
        let fits = (header_of w h).fits in
        omega (arith, slots-are (capacity w) (pool w) w fits)

    capacity-small : capacity w ≤ 2048
    capacity-small = let fits = (header_of w h).fits in omega (arith, product, mul-le-mul_left (capacity w) fits.pool-low)

    entries-few : root w < pool w → first_bad (root_visits false (store_shape lent w) (pool w) w (root w)) ≡ clear → length (root_entries (store_shape lent w) w (root w)) ≤ 2048
    entries-few i e =
        let s = root-sound (store_shape lent w) (pool w) w (root w) e in
        let few = root-few-nodes (store_shape lent w) (pool w) w (height (store_shape lent w) w (root w)) (root w) i s in
        let es = root-few-entries (store_shape lent w) (pool w) w (height (store_shape lent w) w (root w)) (root w) s in
        omega (arith, product, es, mul-le-mul_left (capacity w) few)

  given_suffices : (c : RowPageIndexMemCursor) (x : Reached) → wants_more (given (store_shape lent w) w c lent_records x).answer ≡ false
  unfolding given
  given_suffices c (unsound n) = refl
  given_suffices c (leaf n b) = refl

  pub next_suffices : (c : RowPageIndexMemCursor) → wants_more (next_leaf_of lent w c lent_records).answer ≡ false
  unfolding next_leaf_of
  next_suffices c =
      by_test (header_ok w)
      (λ h. let t = le-ltb (length lent_records) (capacity w) (omega (arith, capacity-small h, length-replicate 2048 (page_entry 0 0))) in
      by_test (eqb (root w) (pool w))
      (λ e. rw (h, e))
      (λ e. by_test c.done
      (λ d. rw (h, e, t, d))
      (λ d. rw (h, e, t, d) (given_suffices _ (root_leaf (to_row (store_shape lent w) w c.row_id.0) (store_shape lent w) (pool w) w (root w))))))
      (λ h. rw h)

  unless : (f : Fault) (g : ℕ → Released) (a : Released) → ((m : ℕ) → wants_more (g m).answer ≡ false) → (f ≡ clear → wants_more a.answer ≡ false) → wants_more (unless_bad f g a).answer ≡ false
  unless clear g a p q = q refl
  unless (at m) g a p q = p m

  pub release_suffices : (v : ℕ) → wants_more (destroy lent w v lent_pages).answer ≡ false
  unfolding destroy
  release_suffices v =
      by_test (header_ok w)
      (λ h. let low = (header_of w h).root-low in
      by_test (eqb (root w) (pool w))
      (λ e. rw (h, e))
      (λ e. let i : root w < pool w = omega (arith, eqb-false (root w) (pool w) e) in
      rw (h, e)
      (unless (first_bad (root_visits false (store_shape lent w) (pool w) w (root w))) _ _ (λ m. refl) (λ z.
      unless (first_low v (root_entries (store_shape lent w) w (root w))) _ _ (λ m. refl) (λ y.
      let z₀ : ℕ = 0 in
      let t = le-leb (length (root_entries (store_shape lent w) w (root w))) (length lent_pages) (omega (arith, entries-few h i z, length-replicate 2048 z₀)) in
      by_test (leb (free_count w + length (root_nodes (store_shape lent w) w (root w))) (pool w)) (λ u. rw (t, u)) (λ u. rw (t, u)))))))
      (λ h. rw h)
