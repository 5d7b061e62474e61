-- 01, "Node words": "The full check accepts exactly these, and reports entries, tree nodes and free nodes."
-- 01, "Refusals": "The full check gives 2 for all else: unsound nodes, then a branch whose end is wrong, then 65,535."
use Rattle.std.specs.Prelude.{ℕ, zero, suc, ◌+◌, List, [], ◌∷◌, Bool, true, false, ◌&&◌, length, ltb, eqb}
use Rattle.model.specs.Words.{store_shape, Arrangement, Shape, pick, pool, root, free_head, free_count, height, count, free_mark}
use Rattle.model.specs.Reading.{unless_bad, first_bad, root_visits, root_entries, root_nodes}
use Rattle.model.specs.Refusals.{Answer, result, refused, damaged, when_open}

-- "the chain has free-count nodes and ends with P": k free nodes from n on, then P
unfoldable pub chain_ends : Shape → ℕ → List ℕ → ℕ → ℕ → Bool
chain_ends C P w n zero = eqb n P
chain_ends C P w n (suc k) =
    let more = chain_ends C P w (count C w n) k in
    ltb n P && eqb (height C w n) free_mark && more

-- No node stands twice in a sound tree or in a chain that ends, and none in both. So each node stands once just where
-- tree nodes and free nodes add up to P.
unfoldable pub full_check : Arrangement → List ℕ → Answer
full_check L w =
    let C = store_shape L w in
    let P = pool w in
    let n = root w in
    let tree = length (root_nodes C w n) in
    let held = result (length (root_entries C w n) ∷ tree ∷ free_count w ∷ []) in
    let chain = pick (chain_ends C P w (free_head w) (free_count w) && eqb (tree + free_count w) P) held damaged in
    let ends = unless_bad (first_bad (root_visits true C P w n)) (refused 2) chain in
    let nodes = unless_bad (first_bad (root_visits false C P w n)) (refused 2) ends in
    when_open w (λ (a : Answer). a) nodes
