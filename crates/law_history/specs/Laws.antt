-- What next, a walk and a release come to on a store that holds a ledger.
use Rattle.std.specs.Prelude.{ℕ, suc, ◌<◌, ◌≤◌, List, [], ◌∷◌, ◌++◌, map, true, false, ◌≡◌, ◌⊎◌, length, drop, leb, ltb, eqb}
use Rattle.model.specs.Words.{pick, capacity, NONE}
use Rattle.model.specs.Reading.{Fault, clear, at, unless_bad}
use Rattle.model.specs.Refusals.{Answer, result, refused}
use Rattle.model.specs.LeafWalk.{cursor_at, page_entry}
use Rattle.model.specs.Ledger.{Range, Ledger, end_from, walk_from, ledger_walk}
use Rattle.model.specs.declared.cursor.RowPageIndexMemCursor.{RowPageIndexMemCursor}
use Rattle.law_walk.specs.Walking.{first_pairs}
use Rattle.law_history.specs.Calls.{Loan, Call, next_leaf, Reply, reply, History}

-- Next -----------------------------------------------------------------------------------------------------------

-- "that leaf's end"; "an empty root leaf ends at NONE"
unfoldable pub leaf_end : ℕ → List Range → ℕ
leaf_end s [] = NONE
leaf_end s (g ∷ gs) = end_from s (g ∷ gs)

-- the leaf given for the cursor's row holds some ranges in turn, from row s on
pub record GivesLeaf (l : Ledger) (m : Loan) (r : Reply) : Type 0 where
  pub before : List Range
  pub those : List Range
  pub rest : List Range
  pub is : l.ranges ≡ before ++ (those ++ rest)
  pub s : ℕ
  pub begins : s ≡ end_from l.start before
  pub answer : r.answer ≡ result (s ∷ leaf_end s those ∷ length those ∷ [])
  pub cursor : r.loan.cursor ≡ cursor_at (leaf_end s those) (eqb (length rest) 0)
  pub records : r.loan.records ≡ map (λ (p : ℕ × ℕ). page_entry p.0 p.1) (walk_from s those) ++ drop (length those) m.records
  -- "below the start: the first; past the end: the last; empty: the empty root"
  pub low : (before ≡ []) ⊎ (s ≤ m.cursor.row_id.0)
  pub high : (rest ≡ []) ⊎ (m.cursor.row_id.0 < leaf_end s those)
  pub some : those ≡ [] → l.ranges ≡ []

-- "Next: 13, none if done"
pub record NextLaw (w : List ℕ) (l : Ledger) (m : Loan) (r : Reply) : Type 0 where
  pub short : length m.records < capacity w → r.answer ≡ refused 13 (capacity w)
  pub none : capacity w ≤ length m.records → m.cursor.done ≡ true → r ≡ record { answer = result []; words = w; loan = m }
  pub gives : capacity w ≤ length m.records → m.cursor.done ≡ false → GivesLeaf l m r

-- A walk from a cursor, among other calls that leave the store w as it is: n steps give a leaf each, the one after them
-- gives none, and the records of the leaves, joined, are these pairs.
pub data Walks (w : List ℕ) : RowPageIndexMemCursor → History → List (ℕ × ℕ) → ℕ → Type 0 where
  between : (c : RowPageIndexMemCursor) (m : Loan) (b : Call) (cs : History) (ps : List (ℕ × ℕ)) (n : ℕ) → (reply w m b).words ≡ w
      → Walks w c cs ps n → Walks w c ((m, b) ∷ cs) ps n
  gave : (c : RowPageIndexMemCursor) (m : Loan) (cs : History) (s e k : ℕ) (ps : List (ℕ × ℕ)) (n : ℕ) → m.cursor ≡ c
      → (reply w m next_leaf).answer ≡ result (s ∷ e ∷ k ∷ []) → Walks w (reply w m next_leaf).loan.cursor cs ps n
      → Walks w c ((m, next_leaf) ∷ cs) (first_pairs k (reply w m next_leaf).loan.records ++ ps) (suc n)
  over : (c : RowPageIndexMemCursor) (m : Loan) (cs : History) → m.cursor ≡ c → (reply w m next_leaf).answer ≡ result []
      → Walks w c ((m, next_leaf) ∷ cs) [] 0

-- Release ----------------------------------------------------------------------------------------------------------

-- "12, first such row"; "13, length wanted": pivot v, a tree of so many nodes, a lent list where so many page ids fit
unfoldable pub first_below : ℕ → List (ℕ × ℕ) → Fault
first_below v [] = clear
first_below v (p ∷ ps) = pick (ltb p.0 v) (at p.0) (first_below v ps)

unfoldable pub ledger_release : Ledger → ℕ → ℕ → ℕ → Answer
ledger_release l v nodes fit =
    let n = length l.ranges in
    unless_bad (first_below v (ledger_walk l)) (refused 12) (pick (leb n fit) (result (nodes ∷ n ∷ [])) (refused 13 n))
