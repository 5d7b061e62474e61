-- The last tests of an append.
use Rattle.std.specs.Prelude.{ℕ, List, [], ◌∷◌, leb}
use Rattle.model.specs.Words.{Shape, pick, height, free_head}
use Rattle.model.specs.Refusals.{result, damaged, Outcome}
use Rattle.model.specs.Append.{Room, chain_sound, hang, split_root, append_at}

-- "then 2 for the chain nodes wanted": page x with rows s to e goes to o
unfoldable pub placed : Shape → ℕ → List ℕ → ℕ → ℕ → ℕ → ℕ → Room → Outcome
placed C P w n s e x o =
    let done : Outcome = record { answer = result (s ∷ e ∷ o.needed ∷ []); words = append_at C w n s e x o } in
    pick (chain_sound C P w (free_head w) [] o.needed) done (record { answer = damaged; words = w })

-- the tree before the chain is written: the page goes to o, with the nodes ns
abbrev pub grown : Shape → List ℕ → ℕ → ℕ → ℕ → ℕ → Room → List ℕ → List ℕ
grown C w n s e x o ns = pick (leb o.needed (height C w n)) (hang C w o.node s e x ns) (split_root C w n s e x ns)
