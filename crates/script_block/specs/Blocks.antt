-- Records in bytes that more bytes may follow.
use Rattle.std.specs.Prelude.{ℕ, ◌+◌, List, [], ◌++◌, ◌≡◌, Bool, Option, Some, None, is_some, length, drop, take, leb, ltb}
use Rattle.model.specs.Words.{pick}
use Rattle.script_records.specs.Records.{body_length}
use Rattle.script_text.specs.declared.Lines.{Lines}
use Rattle.script_calls.specs.Calls.{Memory}
use Rattle.script_step.specs.Script.{listing_from}

-- The bytes of the first record where it is known what it is: all of a whole one, the first four of one that is bad by its
-- length; else none.
unfoldable pub known_length : List ℕ → Option ℕ
known_length bs =
    let few = pick (leb (4 + body_length bs) (length bs)) (Some (4 + body_length bs)) None in
    pick (leb 4 (length bs)) (pick (ltb 4096 (body_length bs)) (Some 4) few) None

abbrev pub is_known : List ℕ → Bool
is_known bs = is_some (known_length bs)

-- the listing of all these bytes
abbrev pub listing_on : Memory → List ℕ → List ℕ
listing_on m bs = listing_from (length bs) m bs

-- What a run over bs that took k bytes says: whatever bytes follow, their listing is the lines that it gave, and then, where
-- the script goes on, the listing of what is left.
abbrev pub Lists : Memory → List ℕ → Memory → ℕ → List ℕ → Bool → Type 0
Lists m bs m₁ k lines goes = (more : List ℕ) → listing_on m (bs ++ more) ≡ lines ++ pick goes (listing_on m₁ (drop k bs ++ more)) []

-- the bytes that were put
abbrev pub put_since : Lines → Lines → List ℕ
put_since l l₁ = drop l.at (take l₁.at l₁.bytes.now)
