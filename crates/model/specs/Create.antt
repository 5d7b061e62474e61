-- 01, "Create (`new`)": "Node 0 becomes an empty root leaf at the given start; the chain is 1, 2, … P − 1."
use Rattle.std.specs.Prelude.{ℕ, zero, suc, ◌+◌, ◌-◌, List, [], ◌∷◌, length, leb}
use Rattle.std.proofs.lemmas.List.Edits.{sets}
use Rattle.model.specs.Words.{Arrangement, Shape, shape, pick, put, emptied, sized, free_mark, row_limit}
use Rattle.model.specs.Refusals.{result, refused, Outcome}

-- nodes n, n + 1, …, k of them, are free, each before the next number
unfoldable pub chained : Shape → List ℕ → ℕ → ℕ → List ℕ
chained C w n zero = w
chained C w n (suc k) = chained C (put C (put C w n 0 free_mark) n 1 (n + 1)) (n + 1) k

-- words 0 to 4; "Words 5 to 7 are written 0 by create"
abbrev pub new_header : ℕ → ℕ → List ℕ
new_header C P = C ∷ P ∷ 0 ∷ 1 ∷ (P - 1) ∷ 0 ∷ 0 ∷ 0 ∷ []

unfoldable pub new_store : Shape → ℕ → ℕ → List ℕ → List ℕ
new_store C P s w = chained C (emptied C (sets w 0 (new_header C.cap P)) 0 s) 1 (P - 1)

-- "Order: create 1, 4."
unfoldable pub create : Arrangement → List ℕ → ℕ → ℕ → ℕ → Outcome
create L w C P s =
    let done : Outcome = record { answer = result []; words = new_store (shape L C) P s w } in
    let four = pick (leb s row_limit) done (record { answer = refused 4 0; words = w }) in
    pick (sized C P (length w)) four (record { answer = refused 1 0; words = w })
