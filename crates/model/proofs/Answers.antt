-- An answer's number and values name it: two answers with the same ones are the same.
use Prim.Native.Nat.{ℕ}
use mathlib.Core.List.{List, [], ◌∷◌}
use mathlib.Core.Path.{◌≡◌, refl, sym, ap, ◌∙◌}
use lib.ListN.{get_or}
use Rattle.model.specs.Refusals.{Answer, result, refused, refusal, created, location, inserted, pruned, next_leaf, destroyed, checked_answer}
use Rattle.model.specs.declared.answer.Refusal.{Refusal}
use Rattle.model.specs.declared.answer.Refusal.TheVariants as R
use Rattle.model.specs.declared.answer.RowPageIndexInsert.{RowPageIndexInsert}
use Rattle.model.specs.declared.answer.RowPagePrefixPrune.{RowPagePrefixPrune}
use Rattle.model.specs.declared.answer.Leaf.{Leaf}
use Rattle.model.specs.declared.answer.Released.{Released}
use Rattle.model.specs.declared.answer.WellFormed.{WellFormed}
use Rattle.model.specs.declared.id.PageID.{PageID}
use Rattle.std.specs.Prelude.{Option, Some, None, Result, Ok, Err}

-- A refusal is a number and a detail, and no result.
pub record IsRefusal (a : Answer) : Type 0 where
  pub number : ℕ
  pub detail : ℕ
  pub is : a ≡ refused number detail

numbered : (n d : ℕ) → IsRefusal (refused n d)
numbered n d = record { number = n; detail = d; is = refl }

pub is-refusal : (r : Refusal) → IsRefusal (refusal r)
is-refusal R.BadParameters = numbered 1 0
is-refusal (R.Unsound n) = numbered 2 n.0
is-refusal R.Closed = numbered 3 0
is-refusal R.RowLimit = numbered 4 0
is-refusal (R.NoRoom needed) = numbered 5 needed
is-refusal R.HeightLimit = numbered 6 0
is-refusal R.NoPrefix = numbered 7 0
is-refusal (R.StartDiffers start) = numbered 8 start.0
is-refusal (R.PageDiffers place) = numbered 9 place
is-refusal (R.EndDiffers place) = numbered 10 place
is-refusal (R.ListTooLong held) = numbered 11 held
is-refusal (R.RowBelowPivot row) = numbered 12 row.0
is-refusal (R.ListTooShort wanted) = numbered 13 wanted

-- the refusal of a number and a detail: number 0 and those above 13 are none
abbrev refusal_of : ℕ → ℕ → Refusal
refusal_of k d =
    get_or
    (R.BadParameters ∷ R.BadParameters ∷ R.Unsound (record { 0 = d }) ∷ R.Closed ∷ R.RowLimit ∷ R.NoRoom d ∷ R.HeightLimit ∷ R.NoPrefix ∷ R.StartDiffers (record { 0 = d })
    ∷ R.PageDiffers d ∷ R.EndDiffers d ∷ R.ListTooLong d ∷ R.RowBelowPivot (record { 0 = d }) ∷ R.ListTooShort d ∷ [])
    k R.BadParameters

-- an answer from its values, or from its refusal
abbrev from : {A : Type 0} → (List ℕ → A) → (Refusal → A) → Answer → A
from f g (result l) = f l
from f g (refused k d) = g (refusal_of k d)

from-refusal : {A : Type 0} (f : List ℕ → A) (g : Refusal → A) (r : Refusal) → from f g (refusal r) ≡ g r
from-refusal f g R.BadParameters = refl
from-refusal f g (R.Unsound n) = refl
from-refusal f g R.Closed = refl
from-refusal f g R.RowLimit = refl
from-refusal f g (R.NoRoom needed) = refl
from-refusal f g R.HeightLimit = refl
from-refusal f g R.NoPrefix = refl
from-refusal f g (R.StartDiffers start) = refl
from-refusal f g (R.PageDiffers place) = refl
from-refusal f g (R.EndDiffers place) = refl
from-refusal f g (R.ListTooLong held) = refl
from-refusal f g (R.RowBelowPivot row) = refl
from-refusal f g (R.ListTooShort wanted) = refl

-- what can be told back from its answer is named by it
one : {A : Type 0} (f : A → Answer) (g : Answer → A) → ((a : A) → g (f a) ≡ a) → (a b : A) → f a ≡ f b → a ≡ b
one f g back a b e = sym (back a) ∙ ap g e ∙ back b

pub refusal-one : (a b : Refusal) → refusal a ≡ refusal b → a ≡ b
refusal-one = one (λ r. refusal r) (from (λ l. R.Closed) (λ r. r)) (from-refusal (λ l. R.Closed) (λ r. r))

pub created-one : (a b : Result Unit Refusal) → created a ≡ created b → a ≡ b
created-one = one (λ a. created a) (from values (λ r. Err r)) back
  where
    values : List ℕ → Result Unit Refusal
    values l = Ok tt

    back : (a : Result Unit Refusal) → from values (λ r. Err r) (created a) ≡ a
    back (Ok tt) = refl
    back (Err r) = from-refusal values (λ r. Err r) r

pub location-one : (a b : Result (Option PageID) Refusal) → location a ≡ location b → a ≡ b
location-one = one (λ a. location a) (from values (λ r. Err r)) back
  where
    values : List ℕ → Result (Option PageID) Refusal
    values [] = Ok None
    values (p ∷ l) = Ok (Some (record { 0 = p }))

    back : (a : Result (Option PageID) Refusal) → from values (λ r. Err r) (location a) ≡ a
    back (Ok (Some p)) = refl
    back (Ok None) = refl
    back (Err r) = from-refusal values (λ r. Err r) r

pub inserted-one : (a b : Result RowPageIndexInsert Refusal) → inserted a ≡ inserted b → a ≡ b
inserted-one = one (λ a. inserted a) (from values (λ r. Err r)) back
  where
    values : List ℕ → Result RowPageIndexInsert Refusal
    values l = Ok (record { start_row_id = record { 0 = get_or l 0 0 }; end_row_id = record { 0 = get_or l 1 0 }; taken_nodes = get_or l 2 0 })

    back : (a : Result RowPageIndexInsert Refusal) → from values (λ r. Err r) (inserted a) ≡ a
    back (Ok i) = refl
    back (Err r) = from-refusal values (λ r. Err r) r

pub pruned-one : (a b : Result RowPagePrefixPrune Refusal) → pruned a ≡ pruned b → a ≡ b
pruned-one = one (λ a. pruned a) (from values (λ r. Err r)) back
  where
    values : List ℕ → Result RowPagePrefixPrune Refusal
    values l = Ok (record { removed_entries = get_or l 0 0; reclaimed_nodes = get_or l 1 0; collapsed_levels = get_or l 2 0 })

    back : (a : Result RowPagePrefixPrune Refusal) → from values (λ r. Err r) (pruned a) ≡ a
    back (Ok p) = refl
    back (Err r) = from-refusal values (λ r. Err r) r

pub next-leaf-one : (a b : Result (Option Leaf) Refusal) → next_leaf a ≡ next_leaf b → a ≡ b
next-leaf-one = one (λ a. next_leaf a) (from values (λ r. Err r)) back
  where
    values : List ℕ → Result (Option Leaf) Refusal
    values [] = Ok None
    values (s ∷ l) = Ok (Some (record { start_row_id = record { 0 = s }; end_row_id = record { 0 = get_or l 0 0 }; count = get_or l 1 0 }))

    back : (a : Result (Option Leaf) Refusal) → from values (λ r. Err r) (next_leaf a) ≡ a
    back (Ok (Some l)) = refl
    back (Ok None) = refl
    back (Err r) = from-refusal values (λ r. Err r) r

pub destroyed-one : (a b : Result Released Refusal) → destroyed a ≡ destroyed b → a ≡ b
destroyed-one = one (λ a. destroyed a) (from values (λ r. Err r)) back
  where
    values : List ℕ → Result Released Refusal
    values l = Ok (record { nodes = get_or l 0 0; pages = get_or l 1 0 })

    back : (a : Result Released Refusal) → from values (λ r. Err r) (destroyed a) ≡ a
    back (Ok d) = refl
    back (Err r) = from-refusal values (λ r. Err r) r

pub checked-one : (a b : Result WellFormed Refusal) → checked_answer a ≡ checked_answer b → a ≡ b
checked-one = one (λ a. checked_answer a) (from values (λ r. Err r)) back
  where
    values : List ℕ → Result WellFormed Refusal
    values l = Ok (record { entries = get_or l 0 0; nodes = get_or l 1 0; free = get_or l 2 0 })

    back : (a : Result WellFormed Refusal) → from values (λ r. Err r) (checked_answer a) ≡ a
    back (Ok c) = refl
    back (Err r) = from-refusal values (λ r. Err r) r
