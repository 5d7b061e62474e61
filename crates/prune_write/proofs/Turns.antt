-- Trimming, copying and freeing, one node at a time.
use Prim.Native.Nat.{ℕ, zero, suc, ◌+◌, ◌-◌, ◌<◌, ◌≤◌}
use mathlib.Core.List.{List, [], ◌∷◌, ◌++◌, reverse, reverse-append}
use mathlib.Core.Path.{◌≡◌, ap, ◌∙◌}
use mathlib.Core.Logic.{◌≢◌}
use native.Mathlib.Omega.{arith}
use native.Mathlib.Nat.{add-zero, zero-add}
use lib.ListN.{get_or}
use Rattle.model.specs.Words.{Shape, count, freed, free_all, Header}
use Rattle.model.specs.Prune.{trimmed}
use Rattle.model.specs.Words.{copied}
use Rattle.model.specs.Paths.{no_position}
use Rattle.model.specs.declared.id.NodeNo.{NodeNo}
use Rattle.model.specs.declared.path.Position.{Position}
use Rattle.model.proofs.Words.{header_at}
use Rattle.model.proofs.Writes.{copied-length, freed-length}
use Rattle.law_prune.proofs.Trim.{trimmed-header, trimmed-node}
use Rattle.node_write.proofs.Turns.{turn, stop}
use Rattle.node_chain.specs.Chain.{listed}
use Rattle.prune_boundary.specs.Trims.{trims_from, Apart, Trims}

-- the nodes after one that was trimmed can still be
trims-kept : (C : Shape) (P : ℕ) (w v : List ℕ) (n : ℕ) → ((m : ℕ) → m ≢ n → count C w m ≡ count C v m) → (ts : List (ℕ × ℕ)) → Apart n ts → Trims C P w ts → Trims C P v ts
unfolding Apart Trims
trims-kept C P w v n same [] a t = tt
trims-kept C P w v n same (x ∷ ts) a t =
    let q = same x.0 a.0 in
    record { inside = t.inside; keeps = omega (arith, t.keeps, q); narrow = omega (arith, t.narrow, q); apart = t.apart; after = trims-kept C P w v n same ts a.1 t.after }

pub trims-next : (C : Shape) (P : ℕ) (w : List ℕ) (hd : Header C.cap P w) (n k e : ℕ) (ts : List (ℕ × ℕ)) → Trims C P w ((n, k) ∷ ts) → Header C.cap P (trimmed C w n k e) × Trims C P (trimmed C w n k e) ts
unfolding Trims
trims-next C P w hd n k e ts t = (
  trimmed-header C P w hd n k e t.inside t.keeps t.narrow,
  trims-kept C P w (trimmed C w n k e) n (λ m d. trimmed-node C P w hd n k e t.inside t.keeps t.narrow m d 1 (omega arith)) ts t.apart t.after,
)

pub copied-header : (C : Shape) (P : ℕ) (w : List ℕ) → Header C.cap P w → (a b : ℕ) → Header C.cap P (copied C w a b)
copied-header C P w hd a b = header_at C.cap P w (copied C w a b) hd (copied-length C a b w)

-- the last of the nodes listed
pub listed-last : (l : List NodeNo) (i k : ℕ) → listed l i (suc k) ≡ listed l i k ++ ((get_or l (i + k) (record { 0 = 0 })).0 ∷ [])
unfolding listed
listed-last l i zero = rw add-zero
listed-last l i (suc k) = let q : i + 1 + k ≡ i + suc k = omega arith in ap (λ (z : List ℕ). (get_or l i (record { 0 = 0 })).0 ∷ z) (listed-last l (i + 1) k ∙ rw q)

-- is freed first
pub free-last : (C : Shape) (w : List ℕ) (l : List NodeNo) (i : ℕ) → 0 < i → free_all C w (reverse (listed l 0 i)) ≡ free_all C (freed C w (get_or l (i - 1) (record { 0 = 0 })).0) (reverse (listed l 0 (i - 1)))
unfolding free_all
free-last C w l zero z = absurd (omega arith)
free-last C w l (suc i) z =
    let q : suc i - 1 ≡ i = omega arith in
    rw (q, listed-last l 0 i, reverse-append (listed l 0 i) ((get_or l (0 + i) (record { 0 = 0 })).0 ∷ []), zero-add i)

pub freed-header : (C : Shape) (P : ℕ) (w : List ℕ) → Header C.cap P w → (n : ℕ) → Header C.cap P (freed C w n)
freed-header C P w hd n = header_at C.cap P w (freed C w n) hd (freed-length C w n)

-- the node at position i, of d positions
pub trims-turn : (l : List Position) (d i : ℕ) → i < d → trims_from l i (d - i) ≡ ((get_or l i no_position).node.0, (get_or l i no_position).index) ∷ trims_from l (i + 1) (d - (i + 1))
unfolding trims_from
trims-turn l d i h = turn (trims_from l i) i d h

pub trims-stop : (l : List Position) (d i : ℕ) → d ≤ i → trims_from l i (d - i) ≡ []
unfolding trims_from
trims-stop l d i h = stop (trims_from l i) i d h
