-- Freeing the nodes that went first is freeing them last: the writes between touch other nodes, and no header word.
use Prim.Native.Nat.{ℕ, zero, suc, ◌+◌, ◌-◌, ◌<◌, ◌≤◌}
use mathlib.Core.List.{List, [], ◌∷◌, ◌++◌, reverse}
use mathlib.Core.Path.{◌≡◌, refl, sym, ap, ◌∙◌}
use mathlib.Core.Logic.{◌≢◌}
use native.Mathlib.Omega.{arith}
use lib.ListN.{set}
use Rattle.model.specs.Words.{Shape, word, part, put, node_size, count, row, row_place, child, child_place, free_mark, NONE, freed, free_all, copy_from, copied, emptied, Header}
use Rattle.model.specs.Reading.{occ}
use Rattle.model.specs.Prune.{moved, trimmed, trim_all, copy_all}
use Rattle.model.proofs.Words.{put_word, put_comm, set-put}
use Rattle.model.proofs.Writes.{freed-keeps, not_first, not-rest}
use Rattle.prune_boundary.specs.Trims.{Trims, Outside, Untouched}
use Rattle.prune_write.proofs.Turns.{trims-next}

free-append : (C : Shape) (w : List ℕ) (a b : List ℕ) → free_all C w (a ++ b) ≡ free_all C (free_all C w a) b
unfolding free_all
free-append C w [] b = refl
free-append C w (n ∷ a) b = free-append C (freed C w n) a b

module _ (C : Shape) (n : ℕ) where
  -- the law of one write
  free-put : (w : List ℕ) (m j x : ℕ) → m ≢ n → j < node_size C.cap → freed C (put C w m j x) n ≡ put C (freed C w n) m j x
  unfolding freed
  free-put w m j x d l =
      let head = put_word C w m j x 3 (omega arith) in
      let count = put_word C w m j x 4 (omega arith) in
      let marked = put C w n 0 free_mark in
      let linked = put C marked n 1 (word w 3) in
      rw (
        head,
        count,
        put_comm C w n m 0 j free_mark x d (omega arith) l,
        put_comm C marked n m 1 j (word w 3) x d (omega arith) l,
        set-put C linked m j x 3 n (omega arith),
        set-put C (set linked 3 n) m j x 4 (word w 4 + 1) (omega arith),
      )

  free_moved : (w : List ℕ) (m k i c : ℕ) → m ≢ n → k + i + c ≤ C.cap → moved C (freed C w n) m k i c ≡ freed C (moved C w m k i c) n
  unfolding moved
  free_moved w m k i zero d l = refl
  free_moved w m k i (suc c) d l =
      let s = freed-keeps C w n m d in
      let v = put C w m (row_place i) (row C w m (k + i)) in
      rw (← s (row_place (k + i)) (omega arith), ← s (child_place (k + i)) (omega arith), ← free-put w m (row_place i) (row C w m (k + i)) d (omega arith), ← free-put v m (child_place i) (child C w m (k + i)) d (omega arith))
      (free_moved (put C v m (child_place i) (child C w m (k + i))) m k (i + 1) c d (omega arith))

  free-trimmed : (w : List ℕ) (m k e : ℕ) → 0 < C.cap → m ≢ n → k ≤ count C w m → count C w m ≤ C.cap → trimmed C (freed C w n) m k e ≡ freed C (trimmed C w m k e) n
  unfolding trimmed
  free-trimmed w m k e some d l f =
      let a = moved C w m k 0 (count C w m - k) in
      let b = put C a m 1 (count C w m - k) in
      rw (← freed-keeps C w n m d 1 (omega arith), free_moved w m k 0 (count C w m - k) d (omega arith), free-put (put C b m 2 e) m (row_place 0) e d (omega arith), free-put b m 2 e d (omega arith), free-put a m 1 (count C w m - k) d (omega arith))

  free-copy : (w : List ℕ) (a b j c : ℕ) → a ≢ n → b ≢ n → j + c ≤ node_size C.cap → copy_from C (freed C w n) a b j c ≡ freed C (copy_from C w a b j c) n
  unfolding copy_from
  free-copy w a b j zero d f l = refl
  free-copy w a b j (suc c) d f l =
      rw (← freed-keeps C w n a d j (omega arith), ← free-put w b j (part C w a j) f (omega arith)) (free-copy (put C w b j (part C w a j)) a b (j + 1) c d f (omega arith))

  free-copied : (w : List ℕ) (a b : ℕ) → a ≢ n → b ≢ n → copied C (freed C w n) a b ≡ freed C (copied C w a b) n
  unfolding copied
  free-copied w a b d f = free-copy w a b 0 (node_size C.cap) d f (omega arith)

  free-emptied : (w : List ℕ) (b e : ℕ) → b ≢ n → emptied C (freed C w n) b e ≡ freed C (emptied C w b e) n
  unfolding emptied
  free-emptied w b e d =
      let a = put C w b 0 0 in
      rw (← free-put w b 0 0 d (omega arith), ← free-put a b 1 0 d (omega arith), ← free-put (put C a b 1 0) b 2 e d (omega arith), ← free-put (put C (put C a b 1 0) b 2 e) b 3 NONE d (omega arith))

module _ (C : Shape) where
  all-trimmed : (l : List ℕ) (w : List ℕ) (m k e : ℕ) → 0 < C.cap → occ m l ≡ 0 → k ≤ count C w m → count C w m ≤ C.cap → trimmed C (free_all C w l) m k e ≡ free_all C (trimmed C w m k e) l
  unfolding free_all
  all-trimmed [] w m k e some z a f = refl
  all-trimmed (n ∷ l) w m k e some z a f =
      let s = freed-keeps C w n m (not_first m n l z) 1 (omega arith) in
      all-trimmed l (freed C w n) m k e some (not-rest m n l z) (omega arith) (omega arith) ∙ ap (λ (v : List ℕ). free_all C v l) (free-trimmed C n w m k e some (not_first m n l z) a f)

  all-copied : (l : List ℕ) (w : List ℕ) (a b : ℕ) → occ a l ≡ 0 → occ b l ≡ 0 → copied C (free_all C w l) a b ≡ free_all C (copied C w a b) l
  unfolding free_all
  all-copied [] w a b z y = refl
  all-copied (n ∷ l) w a b z y = all-copied l (freed C w n) a b (not-rest a n l z) (not-rest b n l y) ∙ ap (λ (v : List ℕ). free_all C v l) (free-copied C n w a b (not_first a n l z) (not_first b n l y))

  -- an empty root
  pub emptied-after : (l : List ℕ) (w : List ℕ) (b e : ℕ) → occ b l ≡ 0 → emptied C (free_all C w l) b e ≡ free_all C (emptied C w b e) l
  unfolding free_all
  emptied-after [] w b e z = refl
  emptied-after (n ∷ l) w b e z = emptied-after l (freed C w n) b e (not-rest b n l z) ∙ ap (λ (v : List ℕ). free_all C v l) (free-emptied C n w b e (not_first b n l z))

  trims-after : (P : ℕ) (l : List ℕ) (w : List ℕ) (e : ℕ) (ts : List (ℕ × ℕ)) → Header C.cap P w → Trims C P w ts → Untouched l ts → trim_all C (free_all C w l) e ts ≡ free_all C (trim_all C w e ts) l
  unfolding Trims Untouched trim_all
  trims-after P l w e [] hd t a = refl
  trims-after P l w e (x ∷ ts) hd t a =
      let q = trims-next C P w hd x.0 x.1 e ts t in
      ap (λ (v : List ℕ). trim_all C v e ts) (all-trimmed l w x.0 x.1 e (omega (arith, hd.cap-low)) a.0 (omega (arith, t.keeps)) t.narrow) ∙ trims-after P l (trimmed C w x.0 x.1 e) e ts q.0 q.1 a.1

  copies-after : (l : List ℕ) (w : List ℕ) (b : ℕ) (cs : List ℕ) → occ b l ≡ 0 → Outside l cs → copy_all C (free_all C w l) b cs ≡ free_all C (copy_all C w b cs) l
  unfolding Outside copy_all
  copies-after l w b [] z a = refl
  copies-after l w b (c ∷ cs) z a = ap (λ (v : List ℕ). copy_all C v b cs) (all-copied l w c b a.0 z) ∙ copies-after l (copied C w c b) b cs z a.1

  -- the law: freeing first writes what 01's order writes
  pub freed-first : (P : ℕ) (w : List ℕ) (n e : ℕ) (ts : List (ℕ × ℕ)) (cs l : List ℕ) → Header C.cap P w → Trims C P w ts → occ n l ≡ 0 → Outside l cs → Untouched l ts
      → free_all C (copy_all C (trim_all C (free_all C w l) e ts) n cs) (reverse cs) ≡ free_all C (copy_all C (trim_all C w e ts) n cs) (l ++ reverse cs)
  freed-first P w n e ts cs l hd t z o u =
      ap (λ (v : List ℕ). free_all C v (reverse cs)) (ap (λ (v : List ℕ). copy_all C v n cs) (trims-after P l w e ts hd t u) ∙ copies-after l (trim_all C w e ts) n cs z o)
      ∙ sym (free-append C (copy_all C (trim_all C w e ts) n cs) l (reverse cs))
