-- An append from its first test on.
use Prim.Native.Nat.{ℕ, ◌<◌}
use mathlib.Core.List.{List}
use mathlib.Core.Path.{◌≡◌, refl, sym, ◌∙◌, subst}
use Rattle.model.specs.Words.{lent, free_head, free_count}
use Rattle.model.specs.Tree.{Limit, Open}
use Rattle.model.specs.Reading.{Reached, unsound, leaf, root_leaf, to_right}
use Rattle.model.specs.Refusals.{Answer, refused, Outcome, refusal}
use Rattle.model.specs.Append.{append_to, insert_row_page}
use Rattle.model.specs.declared.answer.Refusal.{Refusal}
use Rattle.node_read.specs.Layout.{shape_of, Fits, store_header, opened}
use Rattle.node_read.specs.declared.header.StoreHeader.{StoreHeader}
use Rattle.std.specs.Prelude.{Ok, Err}
use Rattle.node_read.proofs.Opened.{is_open, is-refused, goes_on, opens-fits}

-- the right leaf of an open store
abbrev pub right : List ℕ → StoreHeader → Reached
right w h = root_leaf (to_right (shape_of h.layout) w) (shape_of h.layout) h.layout.pool w h.root.0

module _ (w : List ℕ) (h : StoreHeader) (e : opened w ≡ Ok h) where
  is-header : h ≡ store_header w
  is-header = (is_open w h e).header_is

  pub open_fits : Fits h.layout w × (h.root.0 < h.layout.pool)
  open_fits = opens-fits w h (is_open w h e)

  pub open_chain : (h.free_head.0 ≡ free_head w) × (h.free_count ≡ free_count w)
  open_chain = subst (λ (z : StoreHeader). (z.free_head.0 ≡ free_head w) × (z.free_count ≡ free_count w)) (sym is-header) (refl, refl)

module _ (w : List ℕ) (k x : ℕ) where
  abbrev refuse : Answer → Outcome
  refuse a = record { answer = a; words = w }

  pub insert_refused : (r : Refusal) → opened w ≡ Err r → insert_row_page lent w k x ≡ record { answer = refusal r; words = w }
  unfolding insert_row_page
  insert_refused r e = is-refused w r e refuse _

  module _ (h : StoreHeader) (e : opened w ≡ Ok h) where
    insert_open : insert_row_page lent w k x ≡ append_to (shape_of h.layout) h.layout.pool w h.root.0 k x (right w h)
    unfolding insert_row_page
    insert_open =
        subst (λ (z : StoreHeader). insert_row_page lent w k x ≡ append_to (shape_of z.layout) z.layout.pool w z.root.0 k x (right w z)) (sym (is-header w h e))
        (goes_on w h (is_open w h e) refuse _)

    pub insert_unsound : (m : ℕ) → right w h ≡ unsound m → insert_row_page lent w k x ≡ record { answer = refused 2 m; words = w }
    unfolding append_to
    insert_unsound m q = insert_open ∙ rw q

    pub insert_leaf : (l : ℕ) (b : Limit) → right w h ≡ leaf l b → insert_row_page lent w k x ≡ append_to (shape_of h.layout) h.layout.pool w h.root.0 k x (leaf l Open)
    unfolding append_to
    insert_leaf l b q = insert_open ∙ rw q
