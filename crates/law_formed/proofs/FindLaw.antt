-- Lookup in a store is lookup in the ledger that it holds.
use Prim.Native.Nat.{ℕ}
use mathlib.Core.List.{List, [], ◌∷◌}
use mathlib.Core.Bool.{◌&&◌}
use mathlib.Core.Path.{◌≡◌, refl, ap, ◌∙◌}
use lib.Dec.{leb, ltb}
use Rattle.model.specs.Words.{store_shape, Arrangement, pick, pool, root}
use Rattle.model.specs.Reading.{Entry}
use Rattle.model.specs.Refusals.{Answer, result}
use Rattle.model.specs.WellFormed.{WellFormed}
use Rattle.model.specs.Lookup.{under, entry_find, find_in_tree, try_find_row}
use Rattle.model.specs.Ledger.{Range, Ledger, find_from, ledger_find}
use Rattle.model.proofs.Lookup.{find-entries}
use Rattle.law_formed.specs.Holds.{entries_from, Holds}
use Rattle.law_formed.proofs.Opens.{goes_on}

find-from : (q s : ℕ) (gs : List Range) → entry_find (entries_from s gs) q ≡ find_from s gs q
unfolding entry_find entries_from find_from under
find-from q s [] = refl
find-from q s (g ∷ gs) = ap (λ (a : Answer). pick (leb s q && ltb q g.end) (result (g.page ∷ [])) a) (find-from q g.end gs)

pub find_law : (L : Arrangement) (w : List ℕ) (l : Ledger) → Holds L w l → (q : ℕ) → try_find_row L w q ≡ ledger_find l q
unfolding try_find_row ledger_find WellFormed
find_law L w l H q =
    goes_on L w H.formed (λ (a : Answer). a) (find_in_tree (store_shape L w) (pool w) w (root w) q)
    ∙ find-entries (store_shape L w) (pool w) w q (root w) H.formed.sound
    ∙ ap (λ (es : List Entry). entry_find es q) H.entries
    ∙ find-from q l.start l.ranges
