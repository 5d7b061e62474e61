-- 01, "Release (`destroy`, `destroy_empty`)".
use Rattle.std.specs.Prelude.{ℕ, ◌+◌, List, [], ◌∷◌, false, length, set, leb, ltb}
use Rattle.model.specs.Words.{store_shape, Arrangement, Shape, pick, fill, free_all, pool, root, free_count}
use Rattle.model.specs.Tree.{empty_root, root_sound}
use Rattle.model.specs.Reading.{Fault, clear, at, unless_bad, first_bad, root_visits, Entry, page_ids, root_entries, root_nodes}
use Rattle.model.specs.Refusals.{Answer, result, refused, damaged, Outcome, when_open}

-- an answer, the words and the lent list afterwards
pub record Released : Type 0 where
  pub answer : Answer
  pub words : List ℕ
  pub list : List ℕ

-- "Every entry's row must be at or above the pivot": the first that is not
unfoldable pub first_low : ℕ → List Entry → Fault
first_low v [] = clear
first_low v (e ∷ es) = pick (ltb e.low v) (at e.low) (first_low v es)

-- "nodes are freed children first, left to right; the root word becomes P"
unfoldable pub released_words : Shape → ℕ → List ℕ → List ℕ → List ℕ
released_words C P w ns = set (free_all C w ns) 2 P

-- "Release: 2 over the tree, 12, 13"; "end with 2 where the free count and the nodes to be freed pass P together".
-- "Page ids go left to right into a lent list, the rest of which stays"
unfoldable pub destroy : Arrangement → List ℕ → ℕ → List ℕ → Released
destroy L w v l =
    let C = store_shape L w in
    let P = pool w in
    let n = root w in
    let es = root_entries C w n in
    let ns = root_nodes C w n in
    let refuse : Answer → Released = λ a. record { answer = a; words = w; list = l } in
    let done : Released = record { answer = result (length ns ∷ length es ∷ []); words = released_words C P w ns; list = fill l 0 (page_ids es) } in
    let last = pick (leb (free_count w + length ns) P) done (refuse damaged) in
    let thirteen = pick (leb (length es) (length l)) last (refuse (refused 13 (length es))) in
    let twelve = unless_bad (first_low v es) (λ (r : ℕ). refuse (refused 12 r)) thirteen in
    let two = unless_bad (first_bad (root_visits false C P w n)) (λ (m : ℕ). refuse (refused 2 m)) twelve in
    when_open w refuse two

-- "The empty form accepts only an empty root leaf."; "(empty form: the root only)"; "empty form: not empty (0)"
unfoldable pub destroy_empty : Arrangement → List ℕ → Outcome
destroy_empty L w =
    let C = store_shape L w in
    let P = pool w in
    let n = root w in
    let refuse : Answer → Outcome = λ a. record { answer = a; words = w } in
    let done : Outcome = record { answer = result (1 ∷ 0 ∷ []); words = released_words C P w (n ∷ []) } in
    let last = pick (leb (free_count w + 1) P) done (refuse damaged) in
    let twelve = pick (empty_root C w n) last (refuse (refused 12 0)) in
    when_open w refuse (pick (root_sound C w n) twelve (refuse (refused 2 n)))
