-- 01, "Script program", "Lines": the line of an answer.
use Rattle.std.specs.Prelude.{ℕ, List, [], ◌∷◌, ◌++◌}
use Rattle.model.specs.Words.{pick}
use Rattle.model.specs.Refusals.{Answer, result, refused}
use Rattle.model.specs.LeafWalk.{gives_leaf}
use Rattle.script_text.specs.Lines.{line}
use Rattle.answer_line.specs.Names.{page_name, none_name, leaf_name, end_name, no_name}

-- one word with the values, another where there are none; "`no NUMBER DETAIL`"
unfoldable pub answer_line : List ℕ → List ℕ → Answer → List ℕ
answer_line given none (result []) = line none []
answer_line given none (result (v ∷ vs)) = line given (v ∷ vs)
answer_line given none (refused number detail) = line no_name (number ∷ detail ∷ [])

-- "`create`; `append START END TAKEN`", "`prune REMOVED FREED LEVELS`", "`release NODES PAGES`"
abbrev pub call_line : List ℕ → Answer → List ℕ
call_line name a = answer_line name name a

-- "`page ID` or `none`"
abbrev pub find_line : Answer → List ℕ
find_line a = answer_line page_name none_name a

abbrev pub leaf_line : Answer → List ℕ
leaf_line a = answer_line leaf_name end_name a

-- "`leaf START END COUNT` each, then `end` (or the line of the refusal that stops the walk"
abbrev pub leaf_lines : Answer → List ℕ → List ℕ
leaf_lines a more = leaf_line a ++ pick (gives_leaf a) more []
