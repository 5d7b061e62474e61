-- An append after its tests: the writes, and the nodes wanted.
use Prim.Native.Nat.{ℕ, zero, suc, ◌+◌, ◌-◌, ◌<◌, ◌≤◌}
use mathlib.Core.List.{List, [], ◌∷◌, ◌++◌}
use mathlib.Core.Bool.{true}
use mathlib.Core.Path.{◌≡◌, refl, sym, ap, ◌∙◌, subst}
use mathlib.Core.Logic.{◌≢◌}
use native.Mathlib.Omega.{arith}
use lib.ListN.{set}
use lib.Seq.{set-get_or}
use borrow.Author.Tests.{le-leb}
use Rattle.model.specs.Words.{Shape, word, put, added, height, count, free_head, free_count, max_height}
use Rattle.model.specs.Refusals.{result}
use Rattle.model.specs.Append.{Room, firsts, past, chain_sound, taken, hang, append_at}
use Rattle.model.specs.declared.id.NodeNo.{NodeNo}
use Rattle.model.proofs.Words.{put_word}
use Rattle.model.proofs.Writes.{added-word}
use Rattle.model.proofs.Tests.{and_l, and_r, holds, is_true}
use Rattle.node_chain.specs.Chain.{listed}
use Rattle.node_chain.proofs.Links.{link}
use Rattle.std.proofs.lemmas.List.{drop_more}
use lib.ListN.{length, take, drop}
use Rattle.append_path.specs.Inside.{Inside, number_at, numbers}
use Rattle.call_append.specs.Placed.{placed}

-- The writes ---------------------------------------------------------------------------------------------

module _ (C : Shape) (P : ℕ) (w : List ℕ) (n s e x : ℕ) (o : Room) where
  -- room in the right leaf: no node is taken, and the words of the chain stay
  kept : taken C w (hang C w o.node s e x []) 0 ≡ hang C w o.node s e x []
  unfolding taken past hang
  kept =
      let u = added C w o.node s x in
      let v = put C u o.node 3 e in
      let head : free_head w ≡ word v 3 = sym (put_word C u o.node 3 e 3 (omega arith) ∙ added-word C w o.node s x 3 (omega arith)) in
      let free : free_count w - 0 ≡ word v 4 = omega (arith, put_word C u o.node 3 e 4 (omega arith), added-word C w o.node s x 4 (omega arith)) in
      ap (λ (z : ℕ). set (set v 3 z) 4 (free_count w - 0)) head ∙ ap (λ (z : List ℕ). set z 4 (free_count w - 0)) (set-get_or v 3 0) ∙ ap (set v 4) free ∙ set-get_or v 4 0

  pub placed-leaf : o.needed ≡ 0 → placed C P w n s e x o ≡ record { answer = result (s ∷ e ∷ o.needed ∷ []); words = hang C w o.node s e x [] }
  unfolding placed append_at chain_sound firsts
  placed-leaf z = rw (z, le-leb 0 (height C w n) (omega arith), kept)

-- The nodes wanted ---------------------------------------------------------------------------------------

module _ (C : Shape) (P : ℕ) (w : List ℕ) where
  firsts-inside : (a : ℕ) (seen : List ℕ) (k : ℕ) → chain_sound C P w a seen k ≡ true → Inside P (firsts C w a k)
  unfolding chain_sound firsts Inside
  firsts-inside a seen zero t = tt
  firsts-inside a seen (suc k) t =
      let h = holds (chain_sound C P w a seen (suc k)) t in
      ((link C P w a seen k t).inside, firsts-inside (count C w a) (seen ++ (a ∷ [])) k (is_true _ (search (and_l, and_r) depth 8)))

  -- the nodes that were read, as a slice
  module _ (q : List NodeNo) (a k : ℕ) (t : chain_sound C P w a [] k ≡ true) (f : numbers q ≡ firsts C w a k) where
    pub nodes_inside : Inside P (numbers q)
    nodes_inside = subst (Inside P) (sym f) (firsts-inside a [] k t)

    -- the first of them is free, so it is no node of the tree
    pub head_apart : (n : ℕ) → 0 < k → height C w n ≤ max_height → n ≢ number_at q 0
    unfolding firsts
    head_apart n p h e = apart q k t f p e
      where
        apart : (q : List NodeNo) (k : ℕ) → chain_sound C P w a [] k ≡ true → numbers q ≡ firsts C w a k → 0 < k → n ≢ number_at q 0
        apart q zero t f p e = absurd (omega arith)
        apart [] (suc k) t f p e = let z : ◌≡◌ {A = ℕ} 0 1 = cc in absurd (omega arith)
        apart (m ∷ q) (suc k) t f p e = let z : m.0 ≡ a = cc in omega (arith, (link C P w a [] k t).marked, ap (height C w) (e ∙ z))

-- k nodes of an array, as a slice
nodes-from : (l : List NodeNo) (i k : ℕ) → i + k ≤ length l → numbers (take k (drop i l)) ≡ listed l i k
unfolding listed
nodes-from l i zero h = refl
nodes-from l i (suc k) h =
    ap (λ (z : List NodeNo). numbers (take (suc k) z)) (drop_more l i (record { 0 = 0 }) (omega arith)) ∙ ap (λ (z : List ℕ). number_at l i ∷ z) (nodes-from l (i + 1) k (omega arith))

pub nodes_are : (l : List NodeNo) (k : ℕ) → k ≤ length l → numbers (take k l) ≡ listed l 0 k
nodes_are l k h = nodes-from l 0 k (omega arith)
