-- 01, "What the source's own forms become": "`Vec` stacks become a path record holding 32 positions, one for each level."
use Rattle.std.specs.Prelude.{ℕ, zero, suc, ◌+◌, ◌-◌, List, [], ◌∷◌, get_or, replicate, set}
use Rattle.model.specs.declared.path.Position.{Position}
use Rattle.model.specs.declared.path.Path.{Path}

-- what stands past the end of an array
abbrev pub no_position : Position
no_position = record { node = record { 0 = 0 }; index = 0 }

-- the first d positions, the last one first
unfoldable pub stack : List Position → ℕ → List Position
stack l zero = []
stack l (suc d) = get_or l d no_position ∷ stack l d

abbrev pub trail : Path → List Position
trail p = stack p.positions p.depth

-- the last position, and the positions above it
abbrev pub last_of : Path → Position
last_of p = get_or p.positions (p.depth - 1) no_position

abbrev pub above : Path → List Position
above p = stack p.positions (p.depth - 1)

-- a position moved on to the next entry
abbrev pub turned : Position → Position
turned p = record { node = p.node; index = p.index + 1 }

-- a node just entered
abbrev pub entered : ℕ → Position
entered n = record { node = record { 0 = n }; index = 0 }

-- a path at it
abbrev pub rooted : ℕ → Path
rooted n = record { positions = replicate 32 (entered n); depth = 1 }

-- the last position left; moved on to the next entry; moved on, with node n entered below it
abbrev pub popped : Path → Path
popped p = record { positions = p.positions; depth = p.depth - 1 }

abbrev pub turned_path : Path → Path
turned_path p = record { positions = set p.positions (p.depth - 1) (turned (last_of p)); depth = p.depth }

abbrev pub entered_path : Path → ℕ → Path
entered_path p n = record { positions = set (set p.positions (p.depth - 1) (turned (last_of p))) p.depth (entered n); depth = p.depth + 1 }
