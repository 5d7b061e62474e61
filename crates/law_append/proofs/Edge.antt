-- The right edge of the words and of the tree: where it ends, where it has room.
use Prim.Native.Nat.{ℕ, zero, suc, ◌<◌}
use mathlib.Core.List.{List, [], ◌∷◌, ◌++◌}
use mathlib.Core.Bool.{Bool, true, false}
use mathlib.Core.Path.{◌≡◌, refl, ap, ◌∙◌}
use native.Mathlib.Omega.{arith}
use lib.Dec.{ltb}
use borrow.Author.Tests.{ltb-true}
use Rattle.model.specs.Words.{Shape, pick, count, end, row, child}
use Rattle.model.specs.Tree.{Limit, Level, pairs_from, level, last, AllSound}
use Rattle.model.specs.Reading.{to_right}
use Rattle.model.specs.WellFormed.{of_last}
use Rattle.model.specs.Append.{Room, room_from}
use Rattle.model.proofs.Tests.{by_test}
use Rattle.model.proofs.Frame.{length_pairs}
use Rattle.model.proofs.Once.{some_pairs}
use Rattle.law_append.specs.Needed.{needed_from}
use Rattle.law_append.specs.Grown.{up}
use Rattle.law_append.proofs.Right.{Tip, Roomy, right_at}
use Rattle.law_append.proofs.Last.{last-sound, at-child, front, split-pairs}

of_snoc : {K : Type 0} (f : K → ℕ) (ks : List (ℕ × K)) (k : ℕ × K) → of_last f (ks ++ (k ∷ [])) ≡ f k.1
unfolding of_last
of_snoc f [] k = refl
of_snoc f (a ∷ []) k = refl
of_snoc f (a ∷ b ∷ ks) k = of_snoc f (b ∷ ks) k

-- where there is room, if any: o where there is none
pub data Spotted (C : Shape) (w : List ℕ) (h n : ℕ) (o : Room) : Room → Type 0 where
  full : Spotted C w h n o o
  free : (d p : ℕ) → up p d ≡ h → count C w (right_at C w d n) < C.cap → Spotted C w h n o (record { node = right_at C w d n; needed = p })

pick-needed : (t : Bool) (a o : Room) → pick t a.needed o.needed ≡ (pick t a o).needed
pick-needed true a o = refl
pick-needed false a o = refl

module _ (C : Shape) (w : List ℕ) where
  lift : (h n : ℕ) (o z : Room) → Spotted C w h (child C w n (to_right C w n)) (pick (ltb (count C w n) C.cap) (record { node = n; needed = suc h }) o) z → Spotted C w (suc h) n o z
  unfolding right_at
  lift h n o _ full = by_test (ltb (count C w n) C.cap) (λ t. rw t (free 0 (suc h) refl (ltb-true (count C w n) C.cap t))) (λ t. rw t full)
  lift h n o _ (free d p e l) = free (suc d) p (ap suc e) l

  pub spotted : (h n : ℕ) (o : Room) → Spotted C w h n o (room_from C w h n o)
  unfolding room_from right_at
  spotted zero n o = by_test (ltb (count C w n) C.cap) (λ t. rw t (free 0 0 refl (ltb-true (count C w n) C.cap t))) (λ t. rw t full)
  spotted (suc h) n o =
      let k = child C w n (to_right C w n) in
      let u = pick (ltb (count C w n) C.cap) (record { node = n; needed = suc h }) o in
      lift h n o (room_from C w h k u) (spotted h k u)

module _ (C : Shape) (P : ℕ) (w : List ℕ) where
  pub tip-at : (h n r : ℕ) (b : Limit) → AllSound C P (suc h) (level C w (suc h) n) r b → Tip h (level C w (suc h) n) (end C w (right_at C w h n))
  unfolding Tip right_at level last
  tip-at zero n r b q = refl
  tip-at (suc h) n r b q =
      let k = child C w n (to_right C w n) in
      at-child C P w (suc h) n r b q (λ x. Tip h x (end C w (right_at C w h k))) (tip-at h k (row C w n (to_right C w n)) b (last-sound C P w (suc h) n r b q))

  pub room_at : (d p n r : ℕ) (b : Limit) → AllSound C P (suc (up p d)) (level C w (suc (up p d)) n) r b → count C w (right_at C w d n) < C.cap → Roomy C d p (level C w (suc (up p d)) n)
  unfolding Roomy right_at level last
  room_at zero p n r b q l = omega (arith, length_pairs C w (level C w p) n 0 (count C w n))
  room_at (suc d) p n r b q l =
      at-child C P w (suc (up p d)) n r b q (Roomy C d p) (room_at d p (child C w n (to_right C w n)) (row C w n (to_right C w n)) b (last-sound C P w (suc (up p d)) n r b q) l)

  -- the right leaf has some entry
  pub right-some : (h n r : ℕ) (b : Limit) → AllSound C P (suc h) (level C w (suc h) n) r b → 0 < count C w (right_at C w h n)
  unfolding right_at last
  right-some zero n r b q = some_pairs C P w 0 n r b q
  right-some (suc h) n r b q = right-some h (child C w n (to_right C w n)) (row C w n (to_right C w n)) b (last-sound C P w (suc h) n r b q)

  -- the nodes needed by the words are those needed by the tree
  pub needed-from : (h n r : ℕ) (b : Limit) → AllSound C P (suc h) (level C w (suc h) n) r b → (o : Room) → needed_from C h (level C w (suc h) n) o.needed ≡ (room_from C w h n o).needed
  unfolding needed_from room_from level last
  needed-from zero n r b q o =
      ap (λ (k : ℕ). pick (ltb k C.cap) 0 o.needed) (length_pairs C w (level C w 0) n 0 (count C w n)) ∙ pick-needed (ltb (count C w n) C.cap) (record { node = n; needed = 0 }) o
  needed-from (suc h) n r b q o =
      let k = child C w n (to_right C w n) in
      let u = pick (ltb (count C w n) C.cap) (record { node = n; needed = suc h }) o in
      let ks = pairs_from C w (level C w (suc h)) n 0 (count C w n) in
      let F : ℕ → Level (suc h) → ℕ = λ j x. needed_from C h x j in
      ap (λ (j : ℕ). of_last (F (pick (ltb j C.cap) (suc h) o.needed)) ks) (length_pairs C w (level C w (suc h)) n 0 (count C w n))
      ∙ ap (λ (j : ℕ). of_last (F j) ks) (pick-needed (ltb (count C w n) C.cap) (record { node = n; needed = suc h }) o)
      ∙ ap (of_last (F u.needed)) (split-pairs C P w (suc h) n r b q)
      ∙ of_snoc (F u.needed) (front C P w (suc h) n r b q) (row C w n (to_right C w n), level C w (suc h) k)
      ∙ needed-from h k (row C w n (to_right C w n)) b (last-sound C P w (suc h) n r b q) u
