-- The empty form, by cases.
use Prim.Native.Nat.{ℕ, ◌+◌, ◌<◌, ◌≤◌}
use mathlib.Core.List.{List, [], ◌∷◌}
use mathlib.Core.Bool.{Bool, true, false}
use mathlib.Core.Path.{◌≡◌, subst}
use lib.ListN.{set}
use borrow.Author.Tests.{le-leb, lt-leb}
use Rattle.model.specs.Words.{store_shape, Shape, lent, pool, root, free_count, freed, free_all}
use Rattle.model.specs.Tree.{empty_root, root_sound}
use Rattle.model.specs.Release.{released_words, destroy_empty}
use Rattle.model.specs.Refusals.{Answer, result, refused, damaged, Outcome, refusal}
use Rattle.model.specs.declared.answer.Refusal.{Refusal}
use Rattle.node_read.specs.Layout.{shape_of, opened}
use Rattle.node_read.specs.declared.header.StoreHeader.{StoreHeader}
use Rattle.std.specs.Prelude.{Err}
use Rattle.node_read.proofs.Opened.{IsOpen, is_open, is-refused, opens-fits, opens-free}
use Rattle.model.proofs.Writes.{freed-length}

abbrev refuses : List ℕ → Answer → Outcome
refuses w a = record { answer = a; words = w }

pub empty_closed : (w : List ℕ) (r : Refusal) → opened w ≡ Err r → destroy_empty lent w ≡ refuses w (refusal r)
unfolding destroy_empty
empty_closed w r e = is-refused w r e (refuses w) _

module _ (w : List ℕ) (h : StoreHeader) (o : IsOpen w h) where
  of_root : (f : Shape → List ℕ → ℕ → Bool) (t : Bool) → f (shape_of h.layout) w h.root.0 ≡ t → f (store_shape lent w) w (root w) ≡ t
  of_root f t e = subst (λ (g : StoreHeader). f (shape_of g.layout) w g.root.0 ≡ t) o.header_is e

  pub empty_unsound : root_sound (shape_of h.layout) w h.root.0 ≡ false → destroy_empty lent w ≡ refuses w (refused 2 h.root.0)
  unfolding destroy_empty
  empty_unsound e = rw (o.passes, o.not-closed, of_root root_sound false e, o.header_is)

  pub empty_not : root_sound (shape_of h.layout) w h.root.0 ≡ true → empty_root (shape_of h.layout) w h.root.0 ≡ false → destroy_empty lent w ≡ refuses w (refused 12 0)
  unfolding destroy_empty
  empty_not s e = rw (o.passes, o.not-closed, of_root root_sound true s, of_root empty_root false e)

  module _ (e : empty_root (shape_of h.layout) w h.root.0 ≡ true) where
    -- an empty root leaf is sound
    empty_sound : root_sound (store_shape lent w) w (root w) ≡ true
    unfolding root_sound
    empty_sound = rw (of_root empty_root true e)

    pub empty_full : h.layout.pool < h.free_count + 1 → destroy_empty lent w ≡ refuses w damaged
    unfolding destroy_empty
    empty_full l =
        let m = subst (λ (g : StoreHeader). g.layout.pool < g.free_count + 1) o.header_is l in
        rw (o.passes, o.not-closed, empty_sound, of_root empty_root true e, lt-leb (free_count w + 1) (pool w) m)

    pub empty_done : h.free_count + 1 ≤ h.layout.pool → destroy_empty lent w ≡ record { answer = result (1 ∷ 0 ∷ []); words = set (freed (shape_of h.layout) w h.root.0) 2 h.layout.pool }
    unfolding destroy_empty released_words free_all
    empty_done l =
        let m = subst (λ (g : StoreHeader). g.free_count + 1 ≤ g.layout.pool) o.header_is l in
        rw (o.passes, o.not-closed, empty_sound, of_root empty_root true e, le-leb (free_count w + 1) (pool w) m, o.header_is)

pub ruleset emptying = (is_open, opens-fits, opens-free, empty_closed, empty_unsound, empty_not, empty_full, empty_done, freed-length)
