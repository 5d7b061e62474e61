-- The full check accepts exactly the well-formed stores.
use Prim.Native.Nat.{ℕ, ◌+◌, ◌<◌}
use mathlib.Core.List.{List, [], ◌∷◌}
use mathlib.Core.Bool.{Bool, true, false, ◌&&◌}
use mathlib.Core.Path.{◌≡◌, refl, ◌∙◌, subst}
use mathlib.Core.Logic.{◌⊎◌, inl, inr}
use native.Mathlib.Omega.{arith}
use lib.ListN.{length}
use lib.Dec.{eqb, eqb→eq}
use borrow.Author.Tests.{eqb-true, eqb-false, eq-eqb}
use Rattle.model.specs.Words.{store_shape, Arrangement, Shape, pick, pool, root, free_head, free_count, height}
use Rattle.model.specs.Reading.{Fault, clear, at, unless_bad, first_bad, root_visits, root_entries, root_nodes}
use Rattle.model.specs.Refusals.{Answer, result, refused, damaged, header_ok}
use Rattle.model.specs.Append.{firsts}
use Rattle.model.specs.WellFormed.{WellFormed}
use Rattle.model.specs.FullCheck.{chain_ends, full_check}
use Rattle.model.proofs.Tests.{and_l, and_r, holds}
use Rattle.law_formed.proofs.Chains.{long-firsts, follows, followed}
use Rattle.law_formed.proofs.Rooted.{root-sound, sound-root, root_ends, ends-root}
use Rattle.law_formed.proofs.Bridge.{counted}
use Rattle.model.proofs.Header.{header_of}
use Rattle.law_formed.proofs.Opens.{goes_on, sum}

-- what an acceptance passed
past-bad : (f : Fault) (a : Answer) (xs : List ℕ) → unless_bad f (refused 2) a ≡ result xs → (f ≡ clear) × (a ≡ result xs)
past-bad clear a xs e = (refl, e)
past-bad (at n) a xs e = let z : ◌≡◌ {A = ℕ} 0 1 = cc in absurd (omega arith)

past-test : (t : Bool) (a : Answer) (m n : ℕ) (xs : List ℕ) → pick t a (refused m n) ≡ result xs → (t ≡ true) × (a ≡ result xs)
past-test true a m n xs e = (refl, e)
past-test false a m n xs e = let z : ◌≡◌ {A = ℕ} 0 1 = cc in absurd (omega arith)

past-closed : (t : Bool) (a : Answer) (m n : ℕ) (xs : List ℕ) → pick t (refused m n) a ≡ result xs → (t ≡ false) × (a ≡ result xs)
past-closed false a m n xs e = (refl, e)
past-closed true a m n xs e = let z : ◌≡◌ {A = ℕ} 0 1 = cc in absurd (omega arith)

-- an answer that is no refusal other than 2
pub data Told : Answer → Type 0 where
  accepting : (xs : List ℕ) → Told (result xs)
  unsoundly : (n : ℕ) → Told (refused 2 n)

told-bad : (f : Fault) (a : Answer) → Told a → Told (unless_bad f (refused 2) a)
told-bad clear a t = t
told-bad (at n) a t = unsoundly n

told-test : (t : Bool) (xs : List ℕ) → Told (pick t (result xs) damaged)
told-test true xs = accepting xs
told-test false xs = unsoundly 65535

module _ (L : Arrangement) (w : List ℕ) where
  abbrev C : Shape
  C = store_shape L w

  abbrev P : ℕ
  P = pool w

  abbrev n : ℕ
  n = root w

  abbrev tree : ℕ
  tree = length (root_nodes C w n)

  -- the answer of an open store whose header passes
  abbrev ending : Bool
  ending = chain_ends C P w (free_head w) (free_count w) && eqb (tree + free_count w) P

  abbrev chained : Answer
  chained = pick ending (result (length (root_entries C w n) ∷ tree ∷ free_count w ∷ [])) damaged

  abbrev opened : Answer
  opened = unless_bad (first_bad (root_visits false C P w n)) (refused 2) (unless_bad (first_bad (root_visits true C P w n)) (refused 2) chained)

  opened-told : Told opened
  opened-told = told-bad (first_bad (root_visits false C P w n)) _ (told-bad (first_bad (root_visits true C P w n)) _ (told-test ending _))

  pub accepts : (xs : List ℕ) → full_check L w ≡ result xs → WellFormed L w
  unfolding full_check WellFormed
  accepts xs e =
      let k = free_count w in
      let p = past-test (header_ok w) _ 2 65535 xs e in
      let q = past-closed (eqb n P) _ 3 0 xs p.1 in
      let one = past-bad (first_bad (root_visits false C P w n)) _ xs q.1 in
      let two = past-bad (first_bad (root_visits true C P w n)) chained xs one.1 in
      let z = holds _ (past-test ending _ 2 65535 xs two.1).0 in
      let H = header_of w p.0 in
      let l : n < P = omega (arith, H.root-low, eqb-false n P q.0) in
      let s = root-sound C P w n one.0 in
      let c = follows C P w (free_head w) k (and_l (chain_ends C P w (free_head w) k) (eqb (tree + k) P) z) in
      let long = long-firsts C P w (free_head w) k in
      record {
        fits = H.fits;
        is_open = l;
        sound = s;
        chain = firsts C w (free_head w) k;
        linked = c;
        free = long;
        once = counted C P w (height C w n) n l s (firsts C w (free_head w) k) c (omega (arith, long, eqb→eq (tree + k) P (and_r (chain_ends C P w (free_head w) k) (eqb (tree + k) P) z)));
        ends = root_ends C P w n two.0;
      }

  pub accepted : WellFormed L w → full_check L w ≡ result (length (root_entries (store_shape L w) w (root w)) ∷ length (root_nodes (store_shape L w) w (root w)) ∷ free_count w ∷ [])
  unfolding full_check WellFormed
  accepted F =
      goes_on L w F (λ (a : Answer). a) opened
      ∙ rw (
        sound-root C P w n F.sound,
        ends-root C P w n F.sound F.ends,
        subst (λ (k : ℕ). chain_ends C P w (free_head w) k ≡ true) F.free (followed C P w (free_head w) F.chain F.linked),
        eq-eqb (tree + free_count w) P (sum L w F),
      )

  -- Refusals: 3 for a closed store, 2 for all else -------------------------------------------------------

  pub closed : header_ok w ≡ true → root w ≡ pool w → full_check L w ≡ refused 3 0
  unfolding full_check
  closed h e = rw (h, eq-eqb n P e)

  pub closed-only : full_check L w ≡ refused 3 0 → (header_ok w ≡ true) × (root w ≡ pool w)
  unfolding full_check
  closed-only e = go (header_ok w) (eqb n P) opened refl refl opened-told e
    where
      go : (t u : Bool) (a : Answer) → header_ok w ≡ t → eqb n P ≡ u → Told a → pick t (pick u (refused 3 0) a) damaged ≡ refused 3 0 → (header_ok w ≡ true) × (root w ≡ pool w)
      go true true a p q k z = (p, eqb-true n P q)
      go true false _ p q (accepting xs) z = let f : ◌≡◌ {A = ℕ} 0 1 = cc in absurd (omega arith)
      go true false _ p q (unsoundly m) z = let f : ◌≡◌ {A = ℕ} 2 3 = cc in absurd (omega arith)
      go false u a p q k z = let f : ◌≡◌ {A = ℕ} 2 3 = cc in absurd (omega arith)

  pub refuses : (WellFormed L w → ⊥) → (full_check L w ≡ refused 3 0) ⊎ ((m : ℕ) × (full_check L w ≡ refused 2 m))
  unfolding full_check
  refuses f = go (header_ok w) (eqb n P) opened opened-told refl
    where
      go : (t u : Bool) (a : Answer) → Told a → full_check L w ≡ pick t (pick u (refused 3 0) a) damaged → (full_check L w ≡ refused 3 0) ⊎ ((m : ℕ) × (full_check L w ≡ refused 2 m))
      go true true a k z = inl z
      go true false _ (accepting xs) z = absurd (f (accepts xs z))
      go true false _ (unsoundly m) z = inr (m, z)
      go false u a k z = inr (65535, z)
