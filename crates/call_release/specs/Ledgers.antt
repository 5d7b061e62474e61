-- What release means to a plain ledger.
use Rattle.std.specs.Prelude.{ℕ, ◌<◌, ◌≤◌, List, [], ◌∷◌, ◌++◌, map, ◌≡◌, length, drop}
use Rattle.model.specs.Words.{store_shape, lent, capacity, pool, root, free_head, free_count}
use Rattle.model.specs.Reading.{occ, root_nodes}
use Rattle.model.specs.Refusals.{result}
use Rattle.model.specs.WellFormed.{Chain}
use Rattle.model.specs.Ledger.{Range, Ledger}
use Rattle.model.specs.Release.{Released}

-- every row is at or above row v
unfoldable pub AtOrAbove : ℕ → List (ℕ × ℕ) → Type 0
AtOrAbove v [] = Unit {0}
AtOrAbove v (p ∷ ps) = (v ≤ p.0) × AtOrAbove v ps

-- of the store w with ledger l, and the lent list x
pub record Releases (w : List ℕ) (l : Ledger) (x : List ℕ) (r : Released) : Type 0 where
  -- nodes freed, pages
  pub answer : r.answer ≡ result (length (root_nodes (store_shape lent w) w (root w)) ∷ length l.ranges ∷ [])
  -- the ledger's pages in order, and what stood behind them
  pub list : r.list ≡ map (λ (g : Range). g.page) l.ranges ++ drop (length l.ranges) x
  -- every node is in the chain, once
  pub chain : List ℕ
  pub linked : Chain (store_shape lent w) (pool w) r.words (free_head r.words) chain
  pub free : free_count r.words ≡ pool w
  pub long : length chain ≡ pool w
  pub once : (m : ℕ) → m < pool w → occ m chain ≡ 1
  -- the store is closed, and of the same layout
  pub closed : root r.words ≡ pool r.words
  pub same-capacity : capacity r.words ≡ capacity w
  pub same-pool : pool r.words ≡ pool w
  pub same_length : length r.words ≡ length w
