-- The names of the calls in a script's text, in ASCII.
use Rattle.std.specs.Prelude.{ℕ, List, [], ◌∷◌, eqb}
use Rattle.model.specs.Words.{pick}

-- `create`
abbrev pub create_name : List ℕ
create_name = 99 ∷ 114 ∷ 101 ∷ 97 ∷ 116 ∷ 101 ∷ []

-- `append`
abbrev pub append_name : List ℕ
append_name = 97 ∷ 112 ∷ 112 ∷ 101 ∷ 110 ∷ 100 ∷ []

-- `find`
abbrev pub find_name : List ℕ
find_name = 102 ∷ 105 ∷ 110 ∷ 100 ∷ []

-- `prune`
abbrev pub prune_name : List ℕ
prune_name = 112 ∷ 114 ∷ 117 ∷ 110 ∷ 101 ∷ []

-- `walk`
abbrev pub walk_name : List ℕ
walk_name = 119 ∷ 97 ∷ 108 ∷ 107 ∷ []

-- `release`
abbrev pub release_name : List ℕ
release_name = 114 ∷ 101 ∷ 108 ∷ 101 ∷ 97 ∷ 115 ∷ 101 ∷ []

-- 01, "Kinds: 1 create, 2 append, 3 find, 4 prune, 5 walk, 6 release"; nothing for another kind
unfoldable pub name_of : ℕ → List ℕ
name_of kind =
    let six = pick (eqb kind 6) release_name [] in
    let five = pick (eqb kind 5) walk_name six in
    let four = pick (eqb kind 4) prune_name five in
    let three = pick (eqb kind 3) find_name four in
    let two = pick (eqb kind 2) append_name three in
    pick (eqb kind 1) create_name two
