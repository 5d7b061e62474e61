-- 01, "Script program": the listing that a script prints, a function of its bytes.
use Rattle.std.specs.Prelude.{ℕ, zero, suc, ◌+◌, List, [], ◌∷◌, ◌++◌, false, length, drop}
use Rattle.model.specs.Words.{pick, free_count}
use Rattle.script_text.specs.Lines.{line}
use Rattle.script_records.specs.Records.{body_length, first}
use Rattle.answer_line.specs.Names.{free_name}
use Rattle.script_calls.specs.Calls.{Memory, zeros, Performed, perform}

-- "last `free` and word 4"
abbrev pub free_line : Memory → List ℕ
free_line m = line free_name (free_count m.words ∷ [])

-- What a program does that takes the records one by one, with the bytes of the next one: none at the end of the script.
-- The lines of its turns are the listing (`turns` in proofs/Stepping).
unfoldable pub turn : Memory → List ℕ → Performed
turn m [] = record { lines = free_line m; memory = m; goes = false }
turn m (b ∷ bs) = perform m (first (b ∷ bs))

-- The listing of these bytes, of which there are at most k. A record has six bytes or more.
unfoldable pub listing_from : ℕ → Memory → List ℕ → List ℕ
listing_from zero m bs = free_line m
listing_from (suc k) m [] = free_line m
listing_from (suc k) m (b ∷ bs) =
    let p = perform m (first (b ∷ bs)) in
    let more = listing_from k p.memory (drop (4 + body_length (b ∷ bs)) (b ∷ bs)) in
    p.lines ++ pick p.goes more []

-- in a memory of so many words
unfoldable pub listing_of : ℕ → List ℕ → List ℕ
listing_of n bs = listing_from (length bs) (zeros n) bs

abbrev pub listing : List ℕ → List ℕ
listing bs = listing_of 4096 bs
