-- What a reading has left behind, one turn at a time.
use Prim.Native.Nat.{ℕ, zero, suc, ◌+◌, ◌-◌, ◌<◌, ◌≤◌, zero-le}
use mathlib.Core.List.{List, [], ◌∷◌, ◌++◌}
use mathlib.Core.Bool.{true, false}
use mathlib.Core.Path.{◌≡◌, refl, sym, ap, ◌∙◌, subst}
use mathlib.Core.Logic.{◌⊎◌, ⊎_elim}
use native.Mathlib.Omega.{arith}
use native.Mathlib.Nat.{zero-add}
use lib.Dec.{T, lt→ltb}
use borrow.Author.Tests.{lt-ltb, le-ltb}
use Rattle.model.specs.Words.{Shape, height, count, start, end, row, child}
use Rattle.model.specs.Tree.{Limit, Below, pairs_from, node_at, level, next, last, sound, all_pairs, AllSound}
use Rattle.model.specs.Reading.{passes, next_row}
use Rattle.model.specs.Paths.{stack, trail, last_of, above, turned, entered, rooted, popped, entered_path}
use Rattle.model.specs.declared.path.Position.{Position}
use Rattle.model.specs.declared.path.Path.{Path}
use Rattle.model.proofs.Tests.{holds, and_l}
use Rattle.model.proofs.Sound.{soundly, sound-at}
use Rattle.model.proofs.Frame.{length_pairs}
use Rattle.model.proofs.Paths.{stack_pop}
use Rattle.model.proofs.Writes.{pairs_snoc}
use Rattle.law_formed.proofs.Clean.{leaf-rises}
use Rattle.tree_turn.specs.Left.{bound, lowest}
use Rattle.tree_turn.specs.Turn.{has_child}
use Rattle.tree_turn.proofs.Rest.{bound-turned}
use Rattle.tree_turn.proofs.Tests.{branch, no_more}
use Rattle.tree_turn.proofs.Branch.{Went}
use Rattle.prune_boundary.specs.Behind.{Passed, limit_at, Done, Above, Behind, BehindPath}

-- one more pair at the end
all_snoc : {K : Type 0} (Q : K → ℕ → Limit → Type 0) (ps : List (ℕ × K)) (r : ℕ) (x : K) (b : Limit) → all_pairs Q ps (Below r) → Q x r b → all_pairs Q (ps ++ ((r, x) ∷ [])) b
unfolding all_pairs next
all_snoc Q [] r x b a q = (q, tt)
all_snoc Q (p ∷ []) r x b a q = (a.0, (q, tt))
all_snoc Q (p ∷ p₂ ∷ ps) r x b a q = (a.0, all_snoc Q (p₂ ∷ ps) r x b a.1 q)

module _ (C : Shape) (P : ℕ) (w : List ℕ) where
  pub tall : (h n : ℕ) (up : List Position) → Passed C P w h n up → height C w n ≡ h
  unfolding level
  tall h n up p = (soundly C h (level C w (suc h) n) (start C w n) (bound C w up) p.good).high

  pub few : (h n : ℕ) (up : List Position) → Passed C P w h n up → count C w n ≤ C.cap
  unfolding level
  few h n up p = omega (arith, (soundly C h (level C w (suc h) n) (start C w n) (bound C w up) p.good).many, length_pairs C w (level C w h) n 0 (count C w n))

  -- no entry is done
  pub done_none : (h n : ℕ) (up : List Position) → Done C P w h n 0 up
  unfolding Done pairs_from all_pairs
  done_none h n up = tt

  -- one more is
  pub done_more : (h n k : ℕ) (up : List Position) → k < count C w n → Done C P w h n k up → AllSound C P h (level C w h (child C w n k)) (row C w n k) (limit_at C P w h n (k + 1) up) → Done C P w h n (k + 1) up
  unfolding Done
  done_more h n k up l d q =
      let z : k + 1 ≡ suc k = omega arith in
      rw (z, pairs_snoc C w (level C w h) n 0 k, zero-add k)
      (all_snoc (AllSound C P h) (pairs_from C w (level C w h) n 0 k) (row C w n k) (level C w h (child C w n k)) (limit_at C P w h n (suc k) up) (rw (lt-ltb k (count C w n) l) at d) (rw z at q))

  -- a node all of whose entries are done, or a leaf
  pub whole : (h n k : ℕ) (up : List Position) → Passed C P w h n up → Done C P w h n k up → k ≤ count C w n → (h ≡ 0) ⊎ (count C w n ≤ k) → AllSound C P (suc h) (level C w (suc h) n) (start C w n) (bound C w up)
  unfolding AllSound Done level last
  whole h n k up p d l e =
      (lt→ltb n P p.inside, p.good, ⊎_elim (λ (z : h ≡ 0). leaf h n up p z) (λ (z : count C w n ≤ k). let y : count C w n ≡ k = omega arith in rw y (rw (le-ltb k (count C w n) z) at d)) e)
    where
      leaf : (h n : ℕ) (up : List Position) → Passed C P w h n up → h ≡ 0 → all_pairs (AllSound C P h) (pairs_from C w (level C w h) n 0 (count C w n)) (last h (end C w n) (bound C w up))
      leaf zero n up p z = leaf-rises C (level C w 1 n) (start C w n) (bound C w up) p.good
      leaf (suc h) n up p z = absurd (omega arith)

  -- the bound below a position that was moved on
  bound_mid : (q : Position) (up : List Position) (h : ℕ) → 1 ≤ q.index → bound C w (q ∷ up) ≡ limit_at C P w (suc h) q.node.0 (q.index - 1 + 1) up
  unfolding bound last
  bound_mid q up h l = let z : q.index - 1 + 1 ≡ q.index = omega arith in rw z

  -- a node is left
  pub behind-out : (root h : ℕ) (p : Position) (up : List Position) → Behind C P w root h (p ∷ up) → (h ≡ 0) ⊎ (count C w p.node.0 ≤ p.index) → Behind C P w root (suc h) up
  unfolding Behind Above
  behind-out root h p [] b e = tt
  behind-out root h p (q ∷ up) b e =
      let n = p.node.0 in
      let a = b.above in
      let m = q.node.0 in
      let j = q.index - 1 in
      let g : AllSound C P (suc h) (level C w (suc h) (child C w m j)) (row C w m j) (limit_at C P w (suc h) m (j + 1) up) =
      rw (← a.leads, ← a.begins, ← bound_mid q up h a.some) (whole h n p.index (q ∷ up) b.passed b.done b.within e) in
      let z : j + 1 ≡ q.index = omega (arith, a.some) in
      record { within = a.within; passed = a.passed; done = rw z at (done_more (suc h) m j up (omega (arith, a.some, a.within)) a.done g); above = a.above }

  pub sound-level : (g c r : ℕ) (x : Limit) → passes false C g (node_at C w c) r x ≡ true → T (sound C g (level C w (suc g) c) r x)
  unfolding passes level
  sound-level g c r x s =
      subst T (sym (sound-at (level C w g) C w g c r x)) (and_l (sound C g (node_at C w c) r x) true (holds (passes false C g (node_at C w c) r x) s))

  begins-at : (g c r : ℕ) (x : Limit) → T (sound C g (level C w (suc g) c) r x) → start C w c ≡ r
  unfolding level
  begins-at g c r x t = (soundly C g (level C w (suc g) c) r x t).begin

  -- a child is entered
  pub behind_in : (root g : ℕ) (p : Position) (up : List Position) → Behind C P w root (suc g) (p ∷ up) → p.index < count C w p.node.0 → child C w p.node.0 p.index < P
      → passes false C g (node_at C w (child C w p.node.0 p.index)) (row C w p.node.0 p.index) (bound C w (turned p ∷ up)) ≡ true
      → Behind C P w root g (entered (child C w p.node.0 p.index) ∷ turned p ∷ up)
  unfolding Behind Above
  behind_in root g p up b l i s =
      let c = child C w p.node.0 p.index in
      let r = row C w p.node.0 p.index in
      let x = bound C w (turned p ∷ up) in
      let t : T (sound C g (level C w (suc g) c) r x) = sound-level g c r x s in
      let o : start C w c ≡ r = begins-at g c r x t in
      let z : p.index + 1 - 1 ≡ p.index = omega arith in
      record {
        within = zero-le;
        passed = record { inside = i; good = subst (λ (k : ℕ). T (sound C g (level C w (suc g) c) k x)) (sym o) t };
        done = done_none g c (turned p ∷ up);
        above = record {
          some = omega arith;
          within = omega arith;
          leads = ap (child C w p.node.0) (sym z);
          begins = o ∙ ap (row C w p.node.0) (sym z);
          passed = b.passed;
          done = subst (λ (j : ℕ). Done C P w (suc g) p.node.0 j up) (sym z) b.done;
          above = b.above;
        };
      }

-- The same in the loop's terms -----------------------------------------------------------------------------
module _ (C : Shape) (P : ℕ) (w : List ℕ) (root : ℕ) where
  fit : (h : ℕ) (st : List Position) → Behind C P w root h st → Behind C P w root (lowest C w st) st
  unfolding Behind lowest
  fit h [] b = tt
  fit h (x ∷ st) b = subst (λ (k : ℕ). Behind C P w root k (x ∷ st)) (sym (tall C P w h x.node.0 st b.passed)) b

  to_path : (h : ℕ) (st : List Position) (q : Path) → trail q ≡ st → Behind C P w root h st → BehindPath C P w root q
  unfolding BehindPath
  to_path h st q e b = subst (λ (s : List Position). Behind C P w root (lowest C w s) s) (sym e) (fit h st b)

  pub start-behind : Passed C P w (height C w root) root [] → BehindPath C P w root (rooted root)
  unfolding stack Behind Above
  start-behind p = to_path (height C w root) (entered root ∷ []) (rooted root) refl (record { within = zero-le; passed = p; done = done_none C P w (height C w root) root []; above = refl })

  module _ (p : Path) (z : 0 < p.depth) (B : BehindPath C P w root p) where
    pub at_last_lem : Behind C P w root (height C w (last_of p).node.0) (last_of p ∷ above p)
    unfolding BehindPath lowest
    at_last_lem = subst (λ (st : List Position). Behind C P w root (lowest C w st) st) (stack_pop p.positions p.depth z) B

    pub path-out : has_child C w (last_of p).node.0 (last_of p).index ≡ false → BehindPath C P w root (popped p)
    path-out e = to_path (suc (height C w (last_of p).node.0)) (above p) (popped p) refl (behind-out C P w root (height C w (last_of p).node.0) (last_of p) (above p) at_last_lem (no_more C w (last_of p).node.0 (last_of p).index e))

    pub path_in : {b : Limit} {c : ℕ} {next : Limit} {first : ℕ} → b ≡ bound C w (above p) → Went C P w (last_of p).node.0 (last_of p).index b c next first
        → trail (entered_path p c) ≡ entered c ∷ turned (last_of p) ∷ above p → BehindPath C P w root (entered_path p c)
    path_in {b} {c} f W t =
        let n = (last_of p).node.0 in
        let i = (last_of p).index in
        let g = height C w n - 1 in
        let k = branch C w n i W.has in
        let hi : height C w n ≡ suc g = omega (arith, k.0) in
        let B₂ = subst (λ (k : ℕ). Behind C P w root k (last_of p ∷ above p)) hi at_last_lem in
        let s : passes false C g (node_at C w (child C w n i)) (row C w n i) (bound C w (turned (last_of p) ∷ above p)) ≡ true =
        ap (passes false C g (node_at C w (child C w n i)) (row C w n i)) (bound-turned C w (last_of p) (above p) ∙ ap (next_row C w n i) (sym f)) ∙ W.good in
        to_path g (entered (child C w n i) ∷ turned (last_of p) ∷ above p) (entered_path p c) (t ∙ ap (λ (x : ℕ). entered x ∷ turned (last_of p) ∷ above p) W.number)
        (behind_in C P w root g (last_of p) (above p) B₂ k.1 W.range s)
