-- The plain ledger of row ranges: a start row, and the end and page of each range in turn. A range begins where the one
-- before it ends. What the calls of 01 mean to someone who has never seen a tree.
use Rattle.std.specs.Prelude.{ℕ, ◌+◌, List, [], ◌∷◌, ◌++◌, ◌&&◌, ◌||◌, length, leb, ltb, eqb}
use Rattle.model.specs.Words.{pick}
use Rattle.model.specs.Refusals.{Answer, result}

pub record Range : Type 0 where
  pub end : ℕ
  pub page : ℕ

pub record Ledger : Type 0 where
  pub start : ℕ
  pub ranges : List Range

abbrev pub empty_ledger : ℕ → Ledger
empty_ledger s = record { start = s; ranges = [] }

-- Lookup: the page of the range that holds row q, or none
unfoldable pub find_from : ℕ → List Range → ℕ → Answer
find_from s [] q = result []
find_from s (g ∷ gs) q = pick (leb s q && ltb q g.end) (result (g.page ∷ [])) (find_from g.end gs q)

unfoldable pub ledger_find : Ledger → ℕ → Answer
ledger_find l q = find_from l.start l.ranges q

-- Range: a new one begins where the last ends
unfoldable pub end_from : ℕ → List Range → ℕ
end_from s [] = s
end_from s (g ∷ gs) = end_from g.end gs

unfoldable pub ledger_end : Ledger → ℕ
ledger_end l = end_from l.start l.ranges

-- Append: k rows with page x
unfoldable pub ledger_append : Ledger → ℕ → ℕ → Ledger
ledger_append l k x = record { start = l.start; ranges = l.ranges ++ ((record { end = ledger_end l + k; page = x }) ∷ []) }

-- Cut: the pages named must be the first ones, ending at e. What is left, or the refusal
pub data Cut : Type 0 where
  refuses : ℕ → ℕ → Cut
  leaves : List Range → Cut

-- p ranges were named before, and c is where they ended
unfoldable pub cut_from : ℕ → ℕ → ℕ → List ℕ → List Range → Cut
cut_from e p c [] gs = pick (eqb c e) (leaves gs) (refuses 10 p)
cut_from e p c (x ∷ ids) [] = refuses 11 p
cut_from e p c (x ∷ ids) (g ∷ gs) =
    let more = cut_from e (p + 1) g.end ids gs in
    pick (eqb g.page x) (pick (leb g.end e) more (refuses 10 p)) (refuses 9 p)

unfoldable pub ledger_cut : Ledger → ℕ → ℕ → List ℕ → Cut
ledger_cut l s e ids =
    let eight = pick (eqb s l.start) (cut_from e 0 l.start ids l.ranges) (refuses 8 l.start) in
    pick (eqb (length ids) 0 || leb e s) (refuses 7 0) eight

-- Walk: the row and the page of each range in turn
unfoldable pub walk_from : ℕ → List Range → List (ℕ × ℕ)
walk_from s [] = []
walk_from s (g ∷ gs) = (s, g.page) ∷ walk_from g.end gs

unfoldable pub ledger_walk : Ledger → List (ℕ × ℕ)
ledger_walk l = walk_from l.start l.ranges
