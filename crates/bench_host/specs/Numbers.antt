-- What the benchmark's functions answer, as numbers.
use Rattle.std.specs.Prelude.{ℕ, ◌-◌, List, [], ◌∷◌, not, Option, Some, None, Result, Ok, Err, leb, eqb}
use Rattle.model.specs.Words.{pick, NONE}
use Rattle.model.specs.Tree.{Limit, Open, Below}
use Rattle.model.specs.Reading.{root_visits}
use Rattle.model.specs.Refusals.{Answer, result}
use Rattle.model.specs.Refusals as Answers
use Rattle.node_read.specs.Layout.{shape_of, opened}
use Rattle.node_test.specs.Test.{node_test}
use Rattle.node_read.specs.declared.header.StoreHeader.{StoreHeader}
use Rattle.tree_tally.specs.Tally.{no_counts, tally}
use Rattle.tree_tally.specs.declared.Counts.{Counts}
use Rattle.model.specs.declared.answer.Refusal.{Refusal}
use Rattle.model.specs.declared.answer.UnsoundNode.{UnsoundNode}

-- the header is damaged, the store is closed, a node number is out of range, or the tree is unsound
abbrev pub refused : ℕ
refused = NONE

abbrev pub when_opened : Result StoreHeader Refusal → (StoreHeader → ℕ) → ℕ
when_opened (Err r) f = refused
when_opened (Ok h) f = f h

abbrev pub test_number : Option ℕ → ℕ
test_number None = NONE - 1
test_number (Some first) = first

abbrev pub survey_number : Result Counts UnsoundNode → ℕ
survey_number (Err n) = refused
survey_number (Ok k) = k.nodes

abbrev pub limit_to : ℕ → ℕ → Limit
limit_to bounded row = pick (eqb bounded 0) Open (Below row)

-- "The header test alone"
abbrev pub open_number : List ℕ → ℕ
open_number w = when_opened (opened w) (λ h. h.layout.pool)

abbrev pub test_of : List ℕ → ℕ → ℕ → ℕ → Limit → ℕ
test_of w n height row b =
    when_opened (opened w) (λ h. pick (leb h.layout.pool n) refused (test_number (node_test (shape_of h.layout) h.layout.pool w n height row b)))

abbrev pub survey_of : List ℕ → ℕ → ℕ
survey_of w ends =
    when_opened (opened w) (λ h. survey_number (tally (shape_of h.layout) w (root_visits (not (eqb ends 0)) (shape_of h.layout) h.layout.pool w h.root.0) no_counts))

-- the end of the leaf that next gives
abbrev pub end_number : Answer → ℕ
end_number (result []) = refused
end_number (result (s ∷ [])) = refused
end_number (result (s ∷ e ∷ vs)) = e
end_number (Answers.refused n d) = refused
