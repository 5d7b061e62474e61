-- The entries of a leaf against the list, as the code answers it.
use Rattle.std.specs.Prelude.{ℕ, ◌-◌, ◌≤◌, eqb, ◌≡◌, List, [], Result, Ok, Err, drop}
use Rattle.model.specs.Refusals.{Answer, result, refused, refusal}
use Rattle.model.specs.Words.{Shape, pick, height, count}
use Rattle.model.specs.Prune.{Scan, stopped, on, entry_end, scan_leaf}
use Rattle.node_read.specs.Layout.{shape_of}
use Rattle.node_read.specs.declared.layout.Layout.{Layout}
use Rattle.model.specs.declared.answer.Refusal.{Refusal}
use Rattle.prune_leaf.specs.declared.Progress.{Progress}

-- a check that was refused so
abbrev pub stopped_by : Answer → Scan
stopped_by (result xs) = stopped 0 0
stopped_by (refused a d) = stopped a d

-- the ids left are those from the place on
abbrev pub progress_of : List ℕ → Result Progress Refusal → Scan
progress_of ids (Ok p) = on (drop p.place ids) p.place p.reached.0
progress_of ids (Err r) = stopped_by (refusal r)

-- what node n comes to, where it is a leaf, against the ids from place p on; the last entry before ended at c
abbrev pub node_scan : Layout → List ℕ → ℕ → ℕ → List ℕ → ℕ → ℕ → Scan
node_scan l w e n ids p c =
    pick (eqb (height (shape_of l) w n) 0) (scan_leaf (shape_of l) w e n 0 (count (shape_of l) w n) (on (drop p ids) p c)) (on (drop p ids) p c)

-- no ids are left, and the last entry ends at e
abbrev pub named_of : ℕ → Result ℕ Refusal → Scan
named_of e (Ok k) = on [] k e
named_of e (Err r) = stopped_by (refusal r)

-- a list is accepted where the last entry named ends at e
unfoldable pub EndsAt : ℕ → ℕ → Result ℕ Refusal → Type 0
EndsAt e c (Ok k) = c ≡ e
EndsAt e c (Err r) = Unit {0}

-- the last entry named is entry u - 1 of leaf n, and ends at row c
pub record Last (C : Shape) (w : List ℕ) (n u c : ℕ) : Type 0 where
  pub leaf : height C w n ≡ 0
  pub some : 1 ≤ u
  pub within : u ≤ count C w n
  pub ends : c ≡ entry_end C w n (u - 1)
