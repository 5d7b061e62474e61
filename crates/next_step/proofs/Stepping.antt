-- The answers of the step by value, and the definition of next by cases.
use Prim.Native.Nat.{ℕ, ◌<◌, ◌≤◌}
use mathlib.Core.List.{List}
use mathlib.Core.Bool.{true, false}
use mathlib.Core.Path.{◌≡◌, sym, ap, ◌∙◌, subst}
use native.Mathlib.Omega.{arith}
use lib.ListN.{length}
use borrow.Author.Tests.{lt-ltb, le-ltb}
use Rattle.std.specs.Prelude.{Option, Some, None, Result, Ok, Err}
use Rattle.model.specs.Words.{lent, capacity}
use Rattle.model.specs.Reading.{root_leaf, to_row}
use Rattle.model.specs.Refusals.{Answer, refusal}
use Rattle.model.specs.LeafWalk.{Stepped, given, next_leaf_of}
use Rattle.model.specs.declared.answer.Refusal.{Refusal}
use Rattle.model.specs.declared.answer.Refusal.TheVariants.{ListTooShort, Unsound}
use Rattle.model.specs.declared.answer.UnsoundNode.{UnsoundNode}
use Rattle.model.specs.declared.node.PageEntry.{PageEntry}
use Rattle.model.specs.declared.cursor.RowPageIndexMemCursor.{RowPageIndexMemCursor}
use Rattle.node_read.specs.Layout.{shape_of, opened}
use Rattle.node_read.specs.declared.header.StoreHeader.{StoreHeader}
use Rattle.node_read.proofs.Opened.{IsOpen, is-refused, goes_on, opens-fits}
use Rattle.node_test.specs.Test.{limit_of}
use Rattle.tree_path.specs.Reached.{reached_of}
use Rattle.tree_path.specs.declared.path.Reached.{Reached}
use Rattle.call_find.specs.Leaf.{IsLeaf}
use Rattle.call_find.proofs.Reach.{is_leaf}
use Rattle.next_records.specs.Listing.{Readable}
use Rattle.next_step.specs.declared.LeafStep.{LeafStep}
use Rattle.next_step.specs.Steps.{Steps, gives}

-- nothing moves
abbrev pub still : RowPageIndexMemCursor → List PageEntry → Answer → Stepped
still c l a = record { answer = a; cursor = c; list = l }

module _ (w : List ℕ) (c : RowPageIndexMemCursor) (len : ℕ) where
  no-leaf : {A : Type 0} (g : LeafStep) → ◌≡◌ {A = Result (Option LeafStep) Refusal} (Ok None) (Ok (Some g)) → A
  no-leaf g e = let z : ◌≡◌ {A = ℕ} 0 1 = cc in absurd (omega arith)

  no-refusal : {A : Type 0} (r : Refusal) (g : LeafStep) → ◌≡◌ {A = Result (Option LeafStep) Refusal} (Err r) (Ok (Some g)) → A
  no-refusal r g e = let z : ◌≡◌ {A = ℕ} 0 1 = cc in absurd (omega arith)

  refuses : (r : Refusal) → ((l : List PageEntry) → length l ≡ len → next_leaf_of lent w c l ≡ still c l (refusal r)) → Steps w c len (Err r)
  refuses r f = record { is = λ l e. sym (f l e); given = λ g e. no-refusal r g e }

  pub steps-refused : (r : Refusal) → opened w ≡ Err r → Steps w c len (Err r)
  unfolding next_leaf_of
  steps-refused r e = refuses r (λ l z. is-refused w r e (still c l) _)

  module _ (h : StoreHeader) (o : IsOpen w h) where
    pub steps-short : len < h.layout.capacity → Steps w c len (Err (ListTooShort h.layout.capacity))
    unfolding next_leaf_of
    steps-short g =
        let e : h.layout.capacity ≡ capacity w = ap (λ (x : StoreHeader). x.layout.capacity) o.header_is in
        refuses (ListTooShort h.layout.capacity) (λ l z. goes_on w h o (still c l) _ ∙ rw (e, lt-ltb (length l) (capacity w) (omega (arith, z, g, e))))

    pub steps-done : h.layout.capacity ≤ len → c.done ≡ true → Steps w c len (Ok None)
    unfolding next_leaf_of
    steps-done g d =
        let e : h.layout.capacity ≡ capacity w = ap (λ (x : StoreHeader). x.layout.capacity) o.header_is in
        record {
          is = λ l z. sym (goes_on w h o (still c l) _ ∙ rw (le-ltb (length l) (capacity w) (omega (arith, z, g, e)), d));
          given = λ x e. no-leaf x e;
        }

    module _ (g : h.layout.capacity ≤ len) (d : c.done ≡ false) where
      -- the path to the leaf
      abbrev pub Path : Type 0
      Path = Result Reached UnsoundNode

      pub goes : (p : Path) → reached_of p ≡ root_leaf (to_row (shape_of h.layout) w c.row_id.0) (shape_of h.layout) h.layout.pool w h.root.0
          → (l : List PageEntry) → length l ≡ len → next_leaf_of lent w c l ≡ given (shape_of h.layout) w c l (reached_of p)
      unfolding next_leaf_of
      goes p says l z =
          let e : h.layout.capacity ≡ capacity w = ap (λ (x : StoreHeader). x.layout.capacity) o.header_is in
          goes_on w h o (still c l) _ ∙ rw (le-ltb (length l) (capacity w) (omega (arith, z, g, e)), d, says, o.header_is)

      pub steps-unsound : (u : UnsoundNode) → reached_of (Err u) ≡ root_leaf (to_row (shape_of h.layout) w c.row_id.0) (shape_of h.layout) h.layout.pool w h.root.0 → Steps w c len (Err (Unsound u.0))
      unfolding given
      steps-unsound u says = refuses (Unsound u.0) (λ l z. goes (Err u) says l z)

      module _ (r : Reached) (says : reached_of (Ok r) ≡ root_leaf (to_row (shape_of h.layout) w c.row_id.0) (shape_of h.layout) h.layout.pool w h.root.0) where
        sound-leaf : IsLeaf (shape_of h.layout) h.layout.pool w r.leaf.0
        sound-leaf = is_leaf (to_row (shape_of h.layout) w c.row_id.0) (shape_of h.layout) h.layout.pool w r.leaf.0 (limit_of r.next) h.root.0 (opens-fits w h o).1 (sym says)

        pub leaf_in : r.leaf.0 < h.layout.pool
        leaf_in = sound-leaf.inside

        pub steps-given : Steps w c len (Ok (Some (gives h.layout w r.leaf r.next)))
        unfolding given
        steps-given = record {
          is = λ l z. sym (goes (Ok r) says l z);
          given = λ x e. let k : gives h.layout w r.leaf r.next ≡ x = cc in subst (λ (y : LeafStep). Readable w y.entries × (y.entries.count ≤ len)) k ((λ z. ((opens-fits w h o).0, (sound-leaf.inside, sound-leaf.many))), omega (arith, sound-leaf.many));
        }
