-- Counting over the visits of a tree.
use Rattle.std.specs.Prelude.{ℕ, ◌+◌, ◌^◌, List, [], ◌∷◌, Result, Ok, Err, ltb, eqb}
use Rattle.model.specs.Words.{Shape, pick, height, count}
use Rattle.model.specs.Reading.{Visit, Enter, Leave, Bad}
use Rattle.tree_tally.specs.declared.Counts.{Counts}
use Rattle.model.specs.declared.answer.UnsoundNode.{UnsoundNode}

-- k and some more, up to 2^32, which the counts of a sound tree do not reach
unfoldable pub more : ℕ → ℕ → ℕ
more k some = pick (ltb k (2 ^ 32)) (k + some) k

-- n counted one by one
unfoldable pub few : ℕ → ℕ
few n = pick (ltb n (2 ^ 32)) n (2 ^ 32)

abbrev pub no_counts : Counts
no_counts = record { nodes = 0; leaves = 0; entries = 0 }

-- node n counted: a leaf with its entries
unfoldable pub counted : Shape → List ℕ → ℕ → Counts → Counts
counted C w n k =
    pick (eqb (height C w n) 0)
    (record { nodes = more k.nodes 1; leaves = more k.leaves 1; entries = more k.entries (count C w n) })
    (record { nodes = more k.nodes 1; leaves = k.leaves; entries = k.entries })

-- over the visits, with the counts so far
unfoldable pub tally : Shape → List ℕ → List Visit → Counts → Result Counts UnsoundNode
tally C w [] k = Ok k
tally C w (Enter n ∷ vs) k = tally C w vs (counted C w n k)
tally C w (Leave n ∷ vs) k = tally C w vs k
tally C w (Bad n ∷ vs) k = Err (record { 0 = record { 0 = n } })
