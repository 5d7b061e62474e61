-- Release, by cases of what its reading of the tree found.
use Prim.Native.Nat.{ℕ, ◌+◌, ◌<◌, ◌≤◌}
use mathlib.Core.List.{List, [], ◌∷◌}
use mathlib.Core.Bool.{Bool, true, false}
use mathlib.Core.Path.{◌≡◌, sym, ap, ◌∙◌, subst}
use native.Mathlib.Omega.{arith}
use lib.ListN.{length}
use lib.Seq.{take_all}
use lib.Dec.{leb}
use borrow.Author.Tests.{le-leb, lt-leb}
use Rattle.model.specs.Words.{store_shape, Shape, lent, pick, fill, pool, root, free_count, height, start}
use Rattle.model.specs.Reading.{Visit, clear, at, first_bad, root_visits, page_ids, root_entries, root_nodes}
use Rattle.model.specs.Release.{Released, first_low, released_words, destroy}
use Rattle.model.specs.Refusals.{Answer, result, refused, damaged, refusal}
use Rattle.model.specs.declared.answer.Refusal.{Refusal}
use Rattle.model.specs.WellFormed.{SoundRoot}
use Rattle.law_formed.proofs.Few.{root-few-nodes}
use Rattle.law_formed.proofs.Rooted.{root-sound}
use Rattle.node_read.specs.Layout.{shape_of, opened}
use Rattle.node_read.specs.declared.header.StoreHeader.{StoreHeader}
use Rattle.std.specs.Prelude.{Option, Some, None, Result, Ok, Err}
use Rattle.model.specs.declared.id.RowID.{RowID}
use Rattle.model.proofs.Tests.{by_test}
use Rattle.model.specs.declared.answer.UnsoundNode.{UnsoundNode}
use Rattle.node_read.proofs.Opened.{IsOpen, is_open, is-refused, opens-fits, opens-free}
use Rattle.tree_tally.specs.Tally.{no_counts, tally}
use Rattle.tree_tally.specs.declared.Counts.{Counts}
use Rattle.tree_survey.proofs.Exact.{survey_bad, survey_clear, survey_counts}
use Rattle.release_pages.specs.Releasable.{Releasable, starts_below, first_below}
use Rattle.call_release.proofs.Pivot.{pivot}

module _ (w : List ℕ) (v : ℕ) (l : List ℕ) where
  abbrev C : Shape
  C = store_shape lent w

  abbrev P : ℕ
  P = pool w

  abbrev n : ℕ
  n = root w

  abbrev vs : List Visit
  vs = root_visits false C P w n

  abbrev refuses : Answer → Released
  refuses a = record { answer = a; words = w; list = l }

  abbrev reading : StoreHeader → Result Counts UnsoundNode
  reading h = tally (shape_of h.layout) w (root_visits false (shape_of h.layout) h.layout.pool w h.root.0) no_counts

  pub not_open : (r : Refusal) → opened w ≡ Err r → destroy lent w v l ≡ refuses (refusal r)
  unfolding destroy
  not_open r e = is-refused w r e refuses _

  module _ (h : StoreHeader) (o : IsOpen w h) where
    pub bad-node : (m : ℕ) → reading h ≡ Err (record { 0 = record { 0 = m } }) → destroy lent w v l ≡ refuses (refused 2 m)
    unfolding destroy
    bad-node m e = rw (o.passes, o.not-closed, survey_bad C w vs no_counts m (subst (λ (g : StoreHeader). reading g ≡ Err (record { 0 = record { 0 = m } })) o.header_is e))

    module _ (k : Counts) (e : reading h ≡ Ok k) where
      read : tally C w vs no_counts ≡ Ok k
      read = subst (λ (g : StoreHeader). reading g ≡ Ok k) o.header_is e

      none-bad : first_bad vs ≡ clear
      none-bad = survey_clear C w vs no_counts k read

      sound : SoundRoot C P w (height C w n) n
      sound = root-sound C P w n none-bad

      exact : (k.nodes ≡ length (root_nodes C w n)) × (k.entries ≡ length (root_entries C w n))
      exact = let q = sym read ∙ survey_counts C P w n o.fits o.inside sound in (cc, cc)

      -- a sound tree has at most P nodes
      pub few-nodes : k.nodes ≤ 65535
      few-nodes = omega (arith, exact.0, root-few-nodes C P w (height C w n) n o.inside sound, o.fits.pool-high)

      -- what the writes ask for
      pub releasable : h.free_count + k.nodes ≤ h.layout.pool → Releasable (shape_of h.layout) h.layout.pool w h.root.0 k.nodes
      releasable m =
          let r = subst (λ (g : StoreHeader). g.free_count + k.nodes ≤ g.layout.pool) o.header_is m in
          subst (λ (g : StoreHeader). Releasable (shape_of g.layout) g.layout.pool w g.root.0 k.nodes) (sym o.header_is)
          (record { header = o.fits; inside = o.inside; sound = sound; room = omega (arith, r, o.fits.pool-high) })

      pub counts : (k.nodes ≡ length (root_nodes (shape_of h.layout) w h.root.0)) × (k.entries ≡ length (root_entries (shape_of h.layout) w h.root.0))
      counts = subst (λ (g : StoreHeader). (k.nodes ≡ length (root_nodes (shape_of g.layout) w g.root.0)) × (k.entries ≡ length (root_entries (shape_of g.layout) w g.root.0))) (sym o.header_is) exact

      low-is : (t : Bool) → starts_below (shape_of h.layout) w h.root.0 k.entries v ≡ t → first_low v (root_entries C w n) ≡ pick t (at (start C w n)) clear
      low-is t b =
          pivot v C P w n sound
          ∙ ap (λ (x : Bool). pick x (at (start C w n)) clear)
          (ap (λ (x : ℕ). starts_below C w n x v) (sym exact.1) ∙ subst (λ (g : StoreHeader). starts_below (shape_of g.layout) w g.root.0 k.entries v ≡ t) o.header_is b)

      is-low : (r : RowID) → first_below (shape_of h.layout) w h.root.0 k.entries v ≡ Some r → (starts_below (shape_of h.layout) w h.root.0 k.entries v ≡ true) × (start (shape_of h.layout) w h.root.0 ≡ r.0)
      unfolding first_below
      is-low r e =
          by_test (starts_below (shape_of h.layout) w h.root.0 k.entries v)
          (λ t. let q : ◌≡◌ {A = Option RowID} (Some (record { 0 = start (shape_of h.layout) w h.root.0 })) (Some r) = rw t at e in (t, cc))
          (λ t. let q : ◌≡◌ {A = Option RowID} None (Some r) = rw t at e in let z : ◌≡◌ {A = ℕ} 0 1 = cc in absurd (omega arith))

      not-low : first_below (shape_of h.layout) w h.root.0 k.entries v ≡ None → starts_below (shape_of h.layout) w h.root.0 k.entries v ≡ false
      unfolding first_below
      not-low e =
          by_test (starts_below (shape_of h.layout) w h.root.0 k.entries v)
          (λ t. let q : ◌≡◌ {A = Option RowID} (Some (record { 0 = start (shape_of h.layout) w h.root.0 })) None = rw t at e in let z : ◌≡◌ {A = ℕ} 0 1 = cc in absurd (omega arith))
          (λ t. t)

      pub too_low : (r : RowID) → first_below (shape_of h.layout) w h.root.0 k.entries v ≡ Some r → destroy lent w v l ≡ refuses (refused 12 r.0)
      unfolding destroy
      too_low r b = let q = is-low r b in rw (o.passes, o.not-closed, none-bad, low-is true q.0, ← q.1, o.header_is)

      module _ (b : first_below (shape_of h.layout) w h.root.0 k.entries v ≡ None) where
        pub too_short : length l < k.entries → destroy lent w v l ≡ refuses (refused 13 k.entries)
        unfolding destroy
        too_short s = rw (o.passes, o.not-closed, none-bad, low-is false (not-low b), lt-leb (length (root_entries C w n)) (length l) (omega (arith, exact.1)), exact.1)

        module _ (s : k.entries ≤ length l) where
          fits-list : leb (length (root_entries C w n)) (length l) ≡ true
          fits-list = le-leb (length (root_entries C w n)) (length l) (omega (arith, exact.1))

          pub too_full : h.layout.pool < h.free_count + k.nodes → destroy lent w v l ≡ refuses damaged
          unfolding destroy
          too_full m =
              let r = subst (λ (g : StoreHeader). g.layout.pool < g.free_count + k.nodes) o.header_is m in
              rw (o.passes, o.not-closed, none-bad, low-is false (not-low b), fits-list, lt-leb (free_count w + length (root_nodes C w n)) P (omega (arith, exact.0, r)))

          pub released : h.free_count + k.nodes ≤ h.layout.pool
              → destroy lent w v l
              ≡ record {
                answer = result (k.nodes ∷ k.entries ∷ []);
                words = released_words (shape_of h.layout) h.layout.pool w (root_nodes (shape_of h.layout) w h.root.0);
                list = fill l 0 (page_ids (root_entries (shape_of h.layout) w h.root.0));
              }
          unfolding destroy
          released m =
              let r = subst (λ (g : StoreHeader). g.free_count + k.nodes ≤ g.layout.pool) o.header_is m in
              rw (o.passes, o.not-closed, none-bad, low-is false (not-low b), fits-list, le-leb (free_count w + length (root_nodes C w n)) P (omega (arith, exact.0, r)), exact.0, exact.1, o.header_is)

pub ruleset deciding = (is_open, opens-fits, opens-free, not_open, bad-node, few-nodes, releasable, counts, too_low, too_short, too_full, released)

pub ruleset all_freed = (take_all)
