-- Demand 3: what a store stands for after any history, and what each call then answers and leaves.
use Rattle.std.specs.Prelude.{ℕ, ◌+◌, ◌<◌, ◌≤◌, List, [], ◌∷◌, ◌++◌, map, false, ◌≡◌, ◌⊎◌, length, drop, eqb}
use Rattle.model.specs.Words.{store_shape, lent, pick, capacity, pool, root, free_head, free_count, max_height, Header}
use Rattle.model.specs.Reading.{occ}
use Rattle.model.specs.Refusals.{result, refused}
use Rattle.model.specs.WellFormed.{Chain}
use Rattle.model.specs.LeafWalk.{cursor_at, seek}
use Rattle.model.specs.Ledger.{Range, Ledger, ledger_find, ledger_end, ledger_cut, ledger_walk}
use Rattle.model.specs.declared.node.PageEntry.{PageEntry}
use Rattle.law_formed.specs.Holds.{Holds}
use Rattle.law_append.specs.Inserted.{verdict, Passes}
use Rattle.law_ledger.specs.Sizes.{tree_height, tree_size, needed_nodes}
use Rattle.law_ledger.specs.Laws.{PruneLaw}
use Rattle.law_walk.specs.Walking.{leaf_count, Gives, From}
use Rattle.law_history.specs.Calls.{Loan, Call, append, lookup, prune, seek_row, next_leaf, release, release_empty, check, Reply, reply, State, holding, closed, History}
use Rattle.law_history.specs.Laws.{NextLaw, Walks, ledger_release}

-- Each call on the store w with ledger l ---------------------------------------------------------------------------

unfoldable pub Told : List ℕ → Ledger → Loan → Call → Reply → Type 0
Told w l m (append k x) r =
    (r.answer ≡ verdict k (ledger_end l) (tree_height lent w) (needed_nodes lent w) (free_count w))
    × ((a : List ℕ) → r.answer ≡ result a → free_count r.words + needed_nodes lent w ≡ free_count w)
Told w l m (lookup q) r = r.answer ≡ ledger_find l q
Told w l m (prune s e ids) r = PruneLaw lent w e ids (ledger_cut l s e ids) (record { answer = r.answer; words = r.words })
Told w l m (seek_row q) r = r.loan.cursor ≡ cursor_at q false
Told w l m next_leaf r = NextLaw w l m r
Told w l m (release v) r =
    (r.answer ≡ ledger_release l v (tree_size lent w) (length m.pages))
    × ((a : List ℕ) → r.answer ≡ result a → r.loan.pages ≡ map (λ (g : Range). g.page) l.ranges ++ drop (length l.ranges) m.pages)
Told w l m release_empty r = r.answer ≡ pick (eqb (length l.ranges) 0) (result (1 ∷ 0 ∷ [])) (refused 12 0)
Told w l m check r = r.answer ≡ result (length l.ranges ∷ tree_size lent w ∷ free_count w ∷ [])

-- The store holds a ledger -----------------------------------------------------------------------------------------

pub record Holding (w : List ℕ) (l : Ledger) : Type 0 where
  -- well-formed, so every node stands once in the tree or once in the chain; the entries are the ledger's
  pub holds : Holds lent w l
  pub told : (m : Loan) (c : Call) → Told w l m c (reply w m c)
  -- a refusal changes nothing that was lent, and is neither 1 nor 2 nor 3; 6 comes at height 31 only
  pub same : (m : Loan) (c : Call) (a d : ℕ) → (reply w m c).answer ≡ refused a d → reply w m c ≡ record { answer = refused a d; words = w; loan = m }
  pub above : (m : Loan) (c : Call) (a d : ℕ) → (reply w m c).answer ≡ refused a d → 3 < a
  pub six : (m : Loan) (c : Call) (d : ℕ) → (reply w m c).answer ≡ refused 6 d → tree_height lent w ≡ max_height
  -- past 4 and 6: "no room" where, and only where, the nodes needed outnumber the free ones
  pub room : (m : Loan) (k x : ℕ) → Passes k (ledger_end l) (tree_height lent w) (needed_nodes lent w) → free_count w < needed_nodes lent w → (reply w m (append k x)).answer ≡ refused 5 (needed_nodes lent w)
  pub only : (m : Loan) (c : Call) (d : ℕ) → (reply w m c).answer ≡ refused 5 d → (free_count w < needed_nodes lent w) × (d ≡ needed_nodes lent w)
  -- whole walks, with no change of the store between their steps: from the start, from any row, and among other calls
  pub walk : (q : ℕ) (x : List PageEntry) → q ≤ l.start → capacity w ≤ length x → Gives w (seek q) x (ledger_walk l) (leaf_count w)
  pub from : (q : ℕ) (x : List PageEntry) → capacity w ≤ length x → From w l q x
  pub among : (q : ℕ) (x : List PageEntry) → capacity w ≤ length x → (cs : History) (ps : List (ℕ × ℕ)) (n : ℕ) → Walks w (seek q) cs ps n → Gives w (seek q) x ps n

-- After a release: every node is in the chain, once; each call that is lent the store answers 3 and changes nothing ----

pub record Closed (w : List ℕ) : Type 0 where
  pub fits : Header (capacity w) (pool w) w
  pub shut : root w ≡ pool w
  pub chain : List ℕ
  pub linked : Chain (store_shape lent w) (pool w) w (free_head w) chain
  pub free : free_count w ≡ pool w
  pub long : length chain ≡ pool w
  pub once : (n : ℕ) → n < pool w → occ n chain ≡ 1
  pub told : (m : Loan) (c : Call) → (reply w m c ≡ record { answer = refused 3 0; words = w; loan = m }) ⊎ ((q : ℕ) × (c ≡ seek_row q))

unfoldable pub Kept : List ℕ → State → Type 0
Kept w (holding l) = Holding w l
Kept w closed = Closed w
