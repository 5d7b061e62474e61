-- What new writes is a store.
use Prim.Native.Nat.{ℕ}
use mathlib.Core.List.{List}
use lib.ListN.{length-set}
use lib.Seq.{sets}
use Rattle.model.specs.Words.{shape, lent, emptied, Header}
use Rattle.model.specs.Create.{new_header}
use Rattle.model.proofs.Words.{header_at}
pub use Rattle.model.proofs.Header.{sized-header}
use Rattle.model.proofs.Writes.{emptied-length}

pub written : (C P : ℕ) (w : List ℕ) → Header C P w → Header C P (sets w 0 (new_header C P))
written C P w hd = header_at C P w _ hd (simp length-set)

pub emptied-header : (C P : ℕ) (w : List ℕ) (n s : ℕ) → Header C P w → Header C P (emptied (shape lent C) w n s)
emptied-header C P w n s hd = header_at C P w _ hd (emptied-length (shape lent C) w n s)

-- what the steps of new leave is a store
pub ruleset new_steps = (sized-header, written, emptied-header)
