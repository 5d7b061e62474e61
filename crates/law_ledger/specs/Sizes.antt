-- The sizes of a store's tree that answers speak of.
use Rattle.std.specs.Prelude.{ℕ, List, length}
use Rattle.model.specs.Words.{store_shape, Arrangement, root, height}
use Rattle.model.specs.Reading.{root_tree, root_nodes}
use Rattle.law_append.specs.Needed.{needed}

abbrev pub tree_height : Arrangement → List ℕ → ℕ
tree_height L w = height (store_shape L w) w (root w)

abbrev pub tree_size : Arrangement → List ℕ → ℕ
tree_size L w = length (root_nodes (store_shape L w) w (root w))

-- the nodes that an append needs, as 01 counts them
abbrev pub needed_nodes : Arrangement → List ℕ → ℕ
needed_nodes L w = needed (store_shape L w) (tree_height L w) (root_tree (store_shape L w) w (root w))
