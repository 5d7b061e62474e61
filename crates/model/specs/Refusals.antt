-- 01, "Refusals, a number and a detail": what a call answers, and the checks that every call but create begins with.
use Rattle.std.specs.Prelude.{ℕ, List, [], ◌∷◌, Bool, ◌&&◌, Option, Some, None, Result, Ok, Err, length, leb, eqb}
use Rattle.model.specs.Words.{pick, capacity, pool, root, free_head, free_count, sized}
use Rattle.model.specs.declared.answer.Refusal.{Refusal}
use Rattle.model.specs.declared.answer.Refusal.TheVariants as R
use Rattle.model.specs.declared.answer.RowPageIndexInsert.{RowPageIndexInsert}
use Rattle.model.specs.declared.answer.RowPagePrefixPrune.{RowPagePrefixPrune}
use Rattle.model.specs.declared.answer.Leaf.{Leaf}
use Rattle.model.specs.declared.answer.Released.{Released}
use Rattle.model.specs.declared.answer.WellFormed.{WellFormed}
use Rattle.model.specs.declared.id.PageID.{PageID}

-- what a call answers: the values that 01 names for it, or a refusal's number and detail
pub data Answer : Type 0 where
  result : List ℕ → Answer
  refused : ℕ → ℕ → Answer

-- an answer, and the words afterwards
pub record Outcome : Type 0 where
  pub answer : Answer
  pub words : List ℕ

-- "65,535 for the header, chain or free count"
abbrev pub damaged : Answer
damaged = refused 2 65535

-- "2 for the header (words 0 to 4: C, P, length, others at most P)"
unfoldable pub header_ok : List ℕ → Bool
header_ok w =
    sized (capacity w) (pool w) (length w) && leb (root w) (pool w) && leb (free_head w) (pool w) && leb (free_count w) (pool w)

-- "The rest begin with 2 for the header, then 3."
abbrev pub when_open : {A : Type 0} → List ℕ → (Answer → A) → A → A
when_open w refuse a =
    pick (header_ok w) (pick (eqb (root w) (pool w)) (refuse (refused 3 0)) a) (refuse damaged)

-- The number and the detail of each refusal, and 01's values of each answer -------------------------------

abbrev pub refusal : Refusal → Answer
refusal R.BadParameters = refused 1 0
refusal (R.Unsound n) = refused 2 n.0
refusal R.Closed = refused 3 0
refusal R.RowLimit = refused 4 0
refusal (R.NoRoom needed) = refused 5 needed
refusal R.HeightLimit = refused 6 0
refusal R.NoPrefix = refused 7 0
refusal (R.StartDiffers start) = refused 8 start.0
refusal (R.PageDiffers place) = refused 9 place
refusal (R.EndDiffers place) = refused 10 place
refusal (R.ListTooLong held) = refused 11 held
refusal (R.RowBelowPivot row) = refused 12 row.0
refusal (R.ListTooShort wanted) = refused 13 wanted

abbrev pub created : Result Unit Refusal → Answer
created (Ok u) = result []
created (Err r) = refusal r

-- the page, or none
abbrev pub location : Result (Option PageID) Refusal → Answer
location (Ok (Some p)) = result (p.0 ∷ [])
location (Ok None) = result []
location (Err r) = refusal r

-- "Answer: start, end, nodes taken."
abbrev pub inserted : Result RowPageIndexInsert Refusal → Answer
inserted (Ok i) = result (i.start_row_id.0 ∷ i.end_row_id.0 ∷ i.taken_nodes ∷ [])
inserted (Err r) = refusal r

-- "Answer: entries removed, nodes freed, levels collapsed"
abbrev pub pruned : Result RowPagePrefixPrune Refusal → Answer
pruned (Ok p) = result (p.removed_entries ∷ p.reclaimed_nodes ∷ p.collapsed_levels ∷ [])
pruned (Err r) = refusal r

-- "Next gives start, end and count of the leaf reached", or none
abbrev pub next_leaf : Result (Option Leaf) Refusal → Answer
next_leaf (Ok (Some l)) = result (l.start_row_id.0 ∷ l.end_row_id.0 ∷ l.count ∷ [])
next_leaf (Ok None) = result []
next_leaf (Err r) = refusal r

-- "Answer: nodes freed, pages."
abbrev pub destroyed : Result Released Refusal → Answer
destroyed (Ok d) = result (d.nodes ∷ d.pages ∷ [])
destroyed (Err r) = refusal r

-- "reports entries, tree nodes and free nodes"
abbrev pub checked_answer : Result WellFormed Refusal → Answer
checked_answer (Ok c) = result (c.entries ∷ c.nodes ∷ c.free ∷ [])
checked_answer (Err r) = refusal r
