-- The contracts of seek and next decide the answer, the cursor and the list.
use mathlib.Core.List.{List}
use Prim.Native.Nat.{ℕ}
use mathlib.Core.Path.{◌≡◌, sym, ◌∙◌}
use Rattle.model.specs.Words.{lent}
use Rattle.model.specs.Refusals.{next_leaf}
use Rattle.model.specs.LeafWalk.{seek, next_leaf_of}
use Rattle.model.specs.declared.answer.Leaf.{Leaf}
use Rattle.model.specs.declared.answer.Refusal.{Refusal}
use Rattle.std.specs.Prelude.{Option, Result}
use Rattle.model.specs.declared.node.PageEntry.{PageEntry}
use Rattle.model.specs.declared.cursor.RowPageIndexMemCursor.{RowPageIndexMemCursor}
use Rattle.model.proofs.Answers.{next-leaf-one}

-- an answer, a cursor and a list that the contract allows
pub record Allowed (w : List ℕ) (c : RowPageIndexMemCursor) (list : List PageEntry) (a : Result (Option Leaf) Refusal) (d : RowPageIndexMemCursor) (l : List PageEntry) : Type 0 where
  pub answer : next_leaf a ≡ (next_leaf_of lent w c list).answer
  pub cursor : d ≡ (next_leaf_of lent w c list).cursor
  pub list-is : l ≡ (next_leaf_of lent w c list).list

pub next_unique : (w : List ℕ) (c : RowPageIndexMemCursor) (list : List PageEntry) (a b : Result (Option Leaf) Refusal) (d e : RowPageIndexMemCursor) (l m : List PageEntry)
    → Allowed w c list a d l → Allowed w c list b e m → (a ≡ b) × (d ≡ e) × (l ≡ m)
next_unique w c list a b d e l m p q = (next-leaf-one a b (p.answer ∙ sym q.answer), p.cursor ∙ sym q.cursor, p.list-is ∙ sym q.list-is)

pub seek_unique : (row : ℕ) (c d : RowPageIndexMemCursor) → c ≡ seek row → d ≡ seek row → c ≡ d
seek_unique row c d p q = p ∙ sym q
