-- A leaf that a path reached: its entries can be searched.
use Rattle.std.specs.Prelude.{ℕ, ◌<◌, ◌≤◌, List, T}
use Rattle.model.specs.Words.{Shape, count}
use Rattle.model.specs.Tree.{pairs_from, rising}

pub record IsLeaf (C : Shape) (P : ℕ) (w : List ℕ) (n : ℕ) : Type 0 where
  pub inside : n < P
  pub many : count C w n ≤ C.cap
  pub rises : T (rising (pairs_from C w (λ (x : ℕ). x) n 0 (count C w n)))
