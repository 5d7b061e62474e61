-- After what goes is freed, the rest can be written as before.
use Prim.Native.Nat.{ℕ, ◌+◌, ◌≤◌}
use mathlib.Core.List.{List, [], ◌∷◌, ◌++◌, reverse}
use mathlib.Core.Path.{◌≡◌}
use native.Mathlib.Omega.{arith}
use lib.ListN.{length}
use Rattle.model.specs.Words.{Shape, free_count, free_all, copied, Header}
use Rattle.model.specs.Prune.{trimmed, trim_all, copy_all}
use Rattle.model.proofs.Words.{header_at}
use Rattle.model.proofs.Writes.{free-all-keeps, free-all-length, free-all-count, copied-length}
use Rattle.prune_write.proofs.Turns.{trims-next}
use Rattle.law_prune.proofs.Trim.{trims-word}
use Rattle.law_prune.proofs.Copy.{copies-word}
use Rattle.node_chain.specs.Chain.{listed}
use Rattle.model.specs.declared.id.NodeNo.{NodeNo}
use Rattle.model.specs.declared.path.Path.{Path}
use Rattle.prune_boundary.specs.Edge.{went_of}
use Rattle.prune_boundary.specs.Trims.{trims_of, Trims, Untouched}
use Rattle.prune_cut.specs.Writable.{Writable}
use Rattle.prune_cut.proofs.Order.{freed-first}

module _ (C : Shape) (P : ℕ) where
  pub freed-header : (w l : List ℕ) → Header C.cap P w → Header C.cap P (free_all C w l)
  freed-header w l hd = header_at C.cap P w (free_all C w l) hd (free-all-length C w l)

  freed-trims : (w l : List ℕ) (ts : List (ℕ × ℕ)) → Untouched l ts → Trims C P w ts → Trims C P (free_all C w l) ts
  unfolding Untouched Trims
  freed-trims w l [] u t = tt
  freed-trims w l (x ∷ ts) u t =
      let q = free-all-keeps C w l x.0 u.0 1 (omega arith) in
      record { inside = t.inside; keeps = omega (arith, t.keeps, q); narrow = omega (arith, t.narrow, q); apart = t.apart; after = freed-trims w l ts u.1 t.after }

  trims-header : (w : List ℕ) (e : ℕ) (ts : List (ℕ × ℕ)) → Header C.cap P w → Trims C P w ts → Header C.cap P (trim_all C w e ts)
  unfolding trim_all
  trims-header w e [] hd t = hd
  trims-header w e (x ∷ ts) hd t = let q = trims-next C P w hd x.0 x.1 e ts t in trims-header (trimmed C w x.0 x.1 e) e ts q.0 q.1

  copies-header : (w : List ℕ) (n : ℕ) (ms : List ℕ) → Header C.cap P w → Header C.cap P (copy_all C w n ms)
  unfolding copy_all
  copies-header w n [] hd = hd
  copies-header w n (m ∷ ms) hd = copies-header (copied C w m n) n ms (header_at C.cap P w (copied C w m n) hd (copied-length C m n w))

-- what is known after each write
module _ {C : Shape} {P : ℕ} {w : List ℕ} {root : ℕ} {edge : Path} {j : ℕ} {nodes : List NodeNo} (e : ℕ) (d : Writable C P w root edge j nodes) where
  pub after_free : Header C.cap P (free_all C w (went_of C w (trims_of edge))) × Trims C P (free_all C w (went_of C w (trims_of edge))) (trims_of edge)
  after_free = (freed-header C P w _ d.reset.ready.header, freed-trims C P w _ (trims_of edge) d.stays d.trims)

  pub after-trim : Header C.cap P (trim_all C (free_all C w (went_of C w (trims_of edge))) e (trims_of edge))
  after-trim = trims-header C P _ e (trims_of edge) after_free.0 after_free.1

  pub after-copy : Header C.cap P (copy_all C (trim_all C (free_all C w (went_of C w (trims_of edge))) e (trims_of edge)) root (listed nodes 0 (length nodes))) × (free_count (copy_all C (trim_all C (free_all C w (went_of C w (trims_of edge))) e (trims_of edge)) root (listed nodes 0 (length nodes))) + length nodes ≤ 65535)
  after-copy =
      let v = free_all C w (went_of C w (trims_of edge)) in
      let t = trim_all C v e (trims_of edge) in
      (copies-header C P t root (listed nodes 0 (length nodes)) after-trim, omega (arith, d.room, copies-word C t root (listed nodes 0 (length nodes)) 4 (omega arith), trims-word C v e (trims_of edge) 4 (omega arith), free-all-count C P w (went_of C w (trims_of edge)) d.reset.ready.header))

  pub in_order : free_all C (copy_all C (trim_all C (free_all C w (went_of C w (trims_of edge))) e (trims_of edge)) root (listed nodes 0 (length nodes))) (reverse (listed nodes 0 (length nodes))) ≡ free_all C (copy_all C (trim_all C w e (trims_of edge)) root (listed nodes 0 (length nodes))) (went_of C w (trims_of edge) ++ reverse (listed nodes 0 (length nodes)))
  in_order = freed-first C P w root e (trims_of edge) (listed nodes 0 (length nodes)) (went_of C w (trims_of edge)) d.reset.ready.header d.trims d.reset.root-stays d.copies-stay d.stays
