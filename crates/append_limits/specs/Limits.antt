-- The limits of an append.
use Rattle.std.specs.Prelude.{ℕ, Result, Ok, Err, ◌+◌, ◌&&◌, ◌||◌, ltb, eqb}
use Rattle.model.specs.Words.{pick, row_limit, max_height}
use Rattle.model.specs.declared.answer.Refusal.{Refusal}
use Rattle.model.specs.declared.answer.Refusal.TheVariants.{RowLimit, HeightLimit, NoRoom}

-- "then 4, 6, 5": k rows from s on, in a tree of height h that needs m more nodes, with so many free
unfoldable pub limits_told : ℕ → ℕ → ℕ → ℕ → ℕ → Result Unit Refusal
limits_told k s h m free =
    let five = pick (ltb free m) (Err (NoRoom m)) (Ok tt) in
    let six = pick (ltb h m && eqb h max_height) (Err HeightLimit) five in
    pick (eqb k 0 || ltb row_limit (s + k)) (Err RowLimit) six
