-- What the two readings of the tree decide of the full check, on an open store.
use Prim.Native.Nat.{ℕ}
use mathlib.Core.List.{List}
use mathlib.Core.Bool.{Bool, true, false}
use mathlib.Core.Path.{◌≡◌, sym, ◌∙◌, subst}
use lib.ListN.{length}
use Rattle.model.specs.Words.{store_shape, Shape, lent, pool, root}
use Rattle.model.specs.Reading.{Visit, clear, first_bad, root_visits, root_entries, root_nodes}
use Rattle.model.specs.FullCheck.{chain_ends, full_check}
use Rattle.model.specs.Refusals.{Answer, refused, refusal}
use Rattle.law_formed.proofs.Rooted.{root-sound}
use Rattle.node_read.specs.Layout.{shape_of, store_header, opened}
use Rattle.node_read.specs.declared.header.StoreHeader.{StoreHeader}
use Rattle.node_read.proofs.Opened.{IsOpen, is_open, is-refused, goes_on, opens-fits}
use Rattle.tree_tally.specs.Tally.{no_counts, tally}
use Rattle.tree_tally.specs.declared.Counts.{Counts}
use Rattle.model.specs.declared.answer.UnsoundNode.{UnsoundNode}
use Rattle.model.specs.declared.answer.Refusal.{Refusal}
use Rattle.std.specs.Prelude.{Result, Ok, Err}
use Rattle.tree_survey.proofs.Exact.{survey_bad, survey_clear, survey_counts}
use Rattle.call_check.specs.Ending.{ending}

module _ (w : List ℕ) where
  abbrev C : Shape
  C = store_shape lent w

  abbrev P : ℕ
  P = pool w

  abbrev first : List Visit
  first = root_visits false C P w (root w)

  abbrev second : List Visit
  second = root_visits true C P w (root w)

  -- what is read, by the header
  abbrev reading : StoreHeader → Bool → Result Counts UnsoundNode
  reading h ends = tally (shape_of h.layout) w (root_visits ends (shape_of h.layout) h.layout.pool w h.root.0) no_counts

  pub not_open : (r : Refusal) → opened w ≡ Err r → full_check lent w ≡ refusal r
  unfolding full_check
  not_open r e = is-refused w r e (λ (a : Answer). a) _

  module _ (h : StoreHeader) (o : IsOpen w h) where
    of_store : (ends : Bool) (x : Result Counts UnsoundNode) → reading h ends ≡ x → reading (store_header w) ends ≡ x
    of_store ends x e = subst (λ (g : StoreHeader). reading g ends ≡ x) o.header_is e

    -- an unsound node
    pub first-bad : (n : ℕ) → reading h false ≡ Err (record { 0 = record { 0 = n } }) → full_check lent w ≡ refused 2 n
    unfolding full_check
    first-bad n e = goes_on w h o (λ (a : Answer). a) _ ∙ rw (survey_bad C w first no_counts n (of_store false _ e))

    module _ (k : Counts) (e : reading h false ≡ Ok k) where
      none-bad : first_bad first ≡ clear
      none-bad = survey_clear C w first no_counts k (of_store false _ e)

      -- a branch whose end is wrong
      pub second-bad : (n : ℕ) → reading h true ≡ Err (record { 0 = record { 0 = n } }) → full_check lent w ≡ refused 2 n
      unfolding full_check
      second-bad n f = goes_on w h o (λ (a : Answer). a) _ ∙ rw (none-bad, survey_bad C w second no_counts n (of_store true _ f))

      -- the counts are the tree's
      exact : (k.nodes ≡ length (root_nodes C w (root w))) × (k.entries ≡ length (root_entries C w (root w)))
      exact =
          let q = sym (of_store false _ e) ∙ survey_counts C P w (root w) o.fits o.inside (root-sound C P w (root w) none-bad) in
          (cc, cc)

      -- all but the chain
      pub both-clear : (j : Counts) → reading h true ≡ Ok j → full_check lent w ≡ ending h k (chain_ends (shape_of h.layout) h.layout.pool w h.free_head.0 h.free_count)
      unfolding full_check ending
      both-clear j f =
          goes_on w h o (λ (a : Answer). a) _
          ∙ rw (none-bad, survey_clear C w second no_counts j (of_store true _ f), o.header_is, exact.0, exact.1)

pub ruleset passing = (is_open, opens-fits, not_open, first-bad, second-bad, both-clear)
