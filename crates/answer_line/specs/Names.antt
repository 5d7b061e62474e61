-- 01, "Script program", "Lines": the words that lines begin with, in ASCII.
use Rattle.std.specs.Prelude.{ℕ, List, [], ◌∷◌}

-- `create`
abbrev pub create_name : List ℕ
create_name = 99 ∷ 114 ∷ 101 ∷ 97 ∷ 116 ∷ 101 ∷ []

-- `append`
abbrev pub append_name : List ℕ
append_name = 97 ∷ 112 ∷ 112 ∷ 101 ∷ 110 ∷ 100 ∷ []

-- `page`
abbrev pub page_name : List ℕ
page_name = 112 ∷ 97 ∷ 103 ∷ 101 ∷ []

-- `none`
abbrev pub none_name : List ℕ
none_name = 110 ∷ 111 ∷ 110 ∷ 101 ∷ []

-- `prune`
abbrev pub prune_name : List ℕ
prune_name = 112 ∷ 114 ∷ 117 ∷ 110 ∷ 101 ∷ []

-- `leaf`
abbrev pub leaf_name : List ℕ
leaf_name = 108 ∷ 101 ∷ 97 ∷ 102 ∷ []

-- `end`
abbrev pub end_name : List ℕ
end_name = 101 ∷ 110 ∷ 100 ∷ []

-- `release`
abbrev pub release_name : List ℕ
release_name = 114 ∷ 101 ∷ 108 ∷ 101 ∷ 97 ∷ 115 ∷ 101 ∷ []

-- `no`
abbrev pub no_name : List ℕ
no_name = 110 ∷ 111 ∷ []

-- `free`
abbrev pub free_name : List ℕ
free_name = 102 ∷ 114 ∷ 101 ∷ 101 ∷ []

-- `bad record`
abbrev pub bad_record_name : List ℕ
bad_record_name = 98 ∷ 97 ∷ 100 ∷ 32 ∷ 114 ∷ 101 ∷ 99 ∷ 111 ∷ 114 ∷ 100 ∷ []
