-- What a list of visits tells.
use Rattle.std.specs.Prelude.{ℕ, List, [], ◌∷◌, Bool, true, false}
use Rattle.model.specs.Reading.{Visit, Enter, Leave, Bad}

-- no node of them is unsound
unfoldable pub clean : List Visit → Bool
clean [] = true
clean (Enter n ∷ vs) = clean vs
clean (Leave n ∷ vs) = clean vs
clean (Bad n ∷ vs) = false

-- the nodes left, in turn
unfoldable pub lefts : List Visit → List ℕ
lefts [] = []
lefts (Enter n ∷ vs) = lefts vs
lefts (Leave n ∷ vs) = n ∷ lefts vs
lefts (Bad n ∷ vs) = lefts vs

-- the nodes entered, in turn
unfoldable pub enters : List Visit → List ℕ
enters [] = []
enters (Enter n ∷ vs) = n ∷ enters vs
enters (Leave n ∷ vs) = enters vs
enters (Bad n ∷ vs) = enters vs
