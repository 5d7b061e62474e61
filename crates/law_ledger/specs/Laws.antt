-- What create, append and prune do to the ledger that a store holds.
use Rattle.std.specs.Prelude.{ℕ, ◌+◌, ◌-◌, ◌≤◌, List, [], ◌∷◌, ◌≡◌, length}
use Rattle.model.specs.Words.{Arrangement, free_count}
use Rattle.model.specs.Refusals.{result, refused, Outcome}
use Rattle.model.specs.Append.{insert_row_page}
use Rattle.model.specs.Ledger.{Range, Ledger, ledger_end, ledger_append, Cut, refuses, leaves}
use Rattle.law_formed.specs.Holds.{Holds}
use Rattle.law_append.specs.Inserted.{verdict}
use Rattle.law_ledger.specs.Sizes.{tree_height, tree_size, needed_nodes}

-- "Answer: start, end, nodes taken", or 4, 6, 5 in this order; the range begins where the ledger ends
pub record InsertLaw (L : Arrangement) (w : List ℕ) (l : Ledger) (k x : ℕ) : Type 0 where
  pub answer : (insert_row_page L w k x).answer ≡ verdict k (ledger_end l) (tree_height L w) (needed_nodes L w) (free_count w)
  pub refusal : (a d : ℕ) → (insert_row_page L w k x).answer ≡ refused a d → (insert_row_page L w k x).words ≡ w
  pub accepted : (v : List ℕ) → (insert_row_page L w k x).answer ≡ result v → Holds L (insert_row_page L w k x).words (ledger_append l k x)

-- "a reset to empty collapses none": the levels gone from height h to height g, with the ranges that are left
unfoldable pub levels_gone : ℕ → ℕ → List Range → ℕ
levels_gone h g [] = 0
levels_gone h g (a ∷ gs) = h - g

-- "entries removed, nodes freed, levels collapsed", by the former store w and the new store v
pub record CutLaw (L : Arrangement) (w : List ℕ) (e : ℕ) (ids : List ℕ) (gs : List Range) (o : Outcome) : Type 0 where
  pub freed : ℕ
  pub levels : ℕ
  pub answer : o.answer ≡ result (length ids ∷ freed ∷ levels ∷ [])
  pub holds : Holds L o.words (record { start = e; ranges = gs })
  pub nodes : freed ≡ tree_size L w - tree_size L o.words
  pub free : free_count o.words ≡ free_count w + freed
  pub collapsed : levels ≡ levels_gone (tree_height L w) (tree_height L o.words) gs
  pub lower : tree_height L o.words ≤ tree_height L w

-- a cut that the ledger refuses is refused, and nothing changes
unfoldable pub PruneLaw : Arrangement → List ℕ → ℕ → List ℕ → Cut → Outcome → Type 0
PruneLaw L w e ids (refuses a d) o = o ≡ record { answer = refused a d; words = w }
PruneLaw L w e ids (leaves gs) o = CutLaw L w e ids gs o
