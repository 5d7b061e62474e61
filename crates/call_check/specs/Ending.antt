-- The last of the full check: the chain, and tree nodes and free nodes together.
use Rattle.std.specs.Prelude.{◌+◌, [], ◌∷◌, Bool, ◌&&◌, eqb}
use Rattle.model.specs.Words.{pick}
use Rattle.model.specs.Refusals.{Answer, result, damaged}
use Rattle.node_read.specs.declared.header.StoreHeader.{StoreHeader}
use Rattle.tree_tally.specs.declared.Counts.{Counts}

unfoldable pub ending : StoreHeader → Counts → Bool → Answer
ending h k chain =
    let P = h.layout.pool in
    let free = h.free_count in
    pick (chain && eqb (k.nodes + free) P) (result (k.entries ∷ k.nodes ∷ free ∷ [])) damaged
