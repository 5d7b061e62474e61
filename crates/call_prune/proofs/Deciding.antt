-- The call on a root that holds entries, by cases.
use Prim.Native.Nat.{ℕ, suc, ◌≤◌}
use mathlib.Core.List.{List}
use mathlib.Core.Bool.{Bool, true, false, ◌&&◌}
use mathlib.Core.Path.{◌≡◌, refl, sym, ◌∙◌, subst}
use mathlib.Core.Logic.{◌≢◌}
use lib.Dec.{leb}
use borrow.Author.Tests.{eq-eqb, ne_eqb, leb-true}
use Rattle.std.specs.Prelude.{Some, None, Ok}
use Rattle.model.specs.Words.{Shape, height, start, max_height}
use Rattle.model.specs.Tree.{Open, node_at, level, sound, empty_root, root_sound}
use Rattle.model.specs.Reading.{passes, root_tree, visits}
use Rattle.model.specs.Refusals.{Answer, refused, Outcome, refusal}
use Rattle.model.specs.Prune.{Scan, on, scan, ran_out, prune_scanned, prune_root}
use Rattle.model.specs.declared.answer.Refusal.{Refusal}
use Rattle.model.specs.declared.node.RowPageIndexNodeHeader.{RowPageIndexNodeHeader}
use Rattle.model.proofs.Answers.{is-refusal}
use Rattle.node_read.specs.Layout.{header_at}
use Rattle.node_read.specs.declared.header.StoreHeader.{StoreHeader}
use Rattle.node_read.proofs.Opened.{IsOpen}
use Rattle.node_test.specs.Test.{node_test}
use Rattle.tree_turn.specs.Turn.{out_of}
use Rattle.tree_turn.proofs.Tests.{pass-sound, pass-unsound}
use Rattle.prune_leaf.specs.Progress.{stopped_by}
use Rattle.prune_list.specs.Named.{prefix_of}
use Rattle.prune_list.specs.declared.Prefix.{Prefix}
use Rattle.prune_cut.specs.Found.{InStore, InOpen, Rooted, cut_at, prune_at}

abbrev refuses : List ℕ → Answer → Outcome
refuses w a = record { answer = a; words = w }

-- a node passes without a look at the ends where it is sound
and-true : (a : Bool) → a && true ≡ a
and-true true = refl
and-true false = refl

passes-sound : (C : Shape) (w : List ℕ) (h n r : ℕ) → passes false C h (node_at C w n) r Open ≡ sound C h (node_at C w n) r Open
unfolding passes
passes-sound C w h n r = and-true (sound C h (node_at C w n) r Open)

-- x is the header of root n
module _ (C : Shape) (P : ℕ) (w : List ℕ) (n s e : ℕ) (ids : List ℕ) {x : RowPageIndexNodeHeader} (q : x ≡ header_at C w n) (full : empty_root C w n ≡ false) (low : leb x.height max_height ≡ true) where
  low-is : leb (height C w n) max_height ≡ true
  low-is = rw q at low

  pub at-bad : node_test C P w n x.height x.start_row_id.0 Open ≡ None → prune_at C P w n s e ids ≡ refuses w (refused 2 n)
  unfolding prune_at root_sound
  at-bad t = rw (full, low-is, sym (passes-sound C w (height C w n) n (start C w n)) ∙ pass-unsound C P w n (height C w n) (start C w n) Open (rw q at t))

  module _ {first : ℕ} (t : node_test C P w n x.height x.start_row_id.0 Open ≡ Some first) where
    pub good : (passes false C (height C w n) (node_at C w n) (start C w n) Open ≡ true) × (first ≡ out_of C P w (height C w n) n)
    good = pass-sound C P w n (height C w n) (start C w n) Open first (rw q at t)

    pub high : height C w n ≤ 31
    high = leb-true (height C w n) max_height low-is

    pub at_other : s ≢ x.start_row_id.0 → prune_at C P w n s e ids ≡ refuses w (refused 8 x.start_row_id.0)
    unfolding prune_at root_sound
    at_other d = rw (full, low-is, sym (passes-sound C w (height C w n) n (start C w n)) ∙ good.0, ne_eqb s (start C w n) (rw q at d)) (rw q)

    pub at-root : (f : ℕ) → InStore C P w n f → Rooted C P w n f
    at-root f o = record { header = o.header; inside = o.inside; low = high; good = sym (passes-sound C w (height C w n) n (start C w n)) ∙ good.0; free = o.free; free_in = o.free_in }

    -- v is what the list against the leaves comes to
    module _ (d : s ≡ x.start_row_id.0) {v : Scan} (k : v ≡ ran_out e (scan C w e (visits false C P (suc (height C w n)) n (root_tree C w n) (start C w n) Open) (on ids 0 0))) where
      at-start : prune_at C P w n s e ids ≡ prune_scanned C P w n (height C w n) e (root_tree C w n) v
      unfolding prune_at root_sound prune_root level
      at-start = rw (full, low-is, sym (passes-sound C w (height C w n) n (start C w n)) ∙ good.0, eq-eqb s (start C w n) (rw q at d), k)

      pub at-refused : (r : Refusal) → v ≡ stopped_by (refusal r) → prune_at C P w n s e ids ≡ refuses w (refusal r)
      unfolding prune_scanned
      at-refused r z = at-start ∙ rw z (let i = is-refusal r in rw i.is)

      pub at-entries : (p : Prefix) → v ≡ prefix_of e (Ok p) → prune_at C P w n s e ids ≡ cut_at C P w n e p.entries
      unfolding prune_scanned
      at-entries p z = at-start ∙ rw z

-- an open store
pub in_store : (w : List ℕ) (h : StoreHeader) → IsOpen w h → InOpen h w
in_store w h o = subst (λ (g : StoreHeader). InOpen g w) (sym o.header_is) (record { header = o.fits; inside = o.inside; free = refl; free_in = o.free_in })
