-- How many nodes and entries a sound root has.
use Prim.Native.Nat.{ℕ, zero, suc, ◌+◌, ◌*◌, ◌<◌, ◌≤◌}
use mathlib.Core.List.{List, [], ◌∷◌}
use mathlib.Core.Path.{◌≡◌, refl, ap, ◌∙◌}
use native.Mathlib.Omega.{arith}
use native.Mathlib.Nat.{mul-add, mul-one}
use lib.ListN.{length, length-append}
use Rattle.model.specs.Words.{Shape, start}
use Rattle.model.specs.Tree.{Limit, Open, Level, level, next, last, over_pairs, all_pairs, AllSound}
use Rattle.model.specs.Reading.{entries, in_pairs, nodes}
use Rattle.model.specs.WellFormed.{SoundRoot, empty_tree, sound_tree}
use Rattle.model.proofs.Sound.{soundly}
use Rattle.law_formed.proofs.Counting.{most}
use Rattle.law_formed.proofs.Rooted.{empty_entries, root-once, root-inside}

pub leaf-entries : (ps : List (ℕ × ℕ)) (b : Limit) → length (over_pairs (entries 0) ps b) ≡ length ps
unfolding over_pairs entries
leaf-entries [] b = refl
leaf-entries (p ∷ ps) b = ap suc (leaf-entries ps b)

module _ (C : Shape) (P : ℕ) where
  few-pairs : {K A : Type 0} (f : K → ℕ → Limit → List A) (ns : K → List ℕ) (Q : K → ℕ → Limit → Type 0) → ((x : K) (r : ℕ) (b : Limit) → Q x r b → length (f x r b) ≤ C.cap * length (ns x))
      → (ps : List (ℕ × K)) (b : Limit) → all_pairs Q ps b → length (over_pairs f ps b) ≤ C.cap * length (in_pairs ns ps)
  unfolding over_pairs in_pairs all_pairs
  few-pairs f ns Q g [] b a = omega arith
  few-pairs f ns Q g (p ∷ ps) b a =
      omega (
        arith,
        length-append (f p.1 p.0 (next ps b)) (over_pairs f ps b),
        g p.1 p.0 (next ps b) a.0,
        few-pairs f ns Q g ps b a.1,
        mul-add C.cap (length (ns p.1)) (length (in_pairs ns ps)),
        ap (λ (z : ℕ). C.cap * z) (length-append (ns p.1) (in_pairs ns ps)),
      )

  wide : (h : ℕ) (t : Level (suc h)) (r : ℕ) (b : Limit) → AllSound C P (suc h) t r b → length t.pairs ≤ C.cap
  unfolding AllSound
  wide h t r b g = (soundly C h t r b g.1).many

  one_more : (h : ℕ) (t : Level (suc h)) → C.cap * length (nodes (suc h) t) ≡ C.cap * length (in_pairs (nodes h) t.pairs) + C.cap
  unfolding nodes
  one_more h t =
      ap (λ (z : ℕ). C.cap * z) (length-append (in_pairs (nodes h) t.pairs) (t.number ∷ [])) ∙ mul-add C.cap (length (in_pairs (nodes h) t.pairs)) 1
      ∙ ap (λ (z : ℕ). C.cap * length (in_pairs (nodes h) t.pairs) + z) (mul-one C.cap)

  -- at most C entries for each node
  pub few-entries : (h : ℕ) (t : Level (suc h)) (r : ℕ) (b : Limit) → AllSound C P (suc h) t r b → length (entries (suc h) t r b) ≤ C.cap * length (nodes (suc h) t)
  unfolding AllSound entries
  few-entries zero t r b g = omega (arith, leaf-entries t.pairs (last 0 t.end b), wide 0 t r b g, one_more 0 t)
  few-entries (suc h) t r b g =
      omega (arith, few-pairs (entries (suc h)) (nodes (suc h)) (AllSound C P (suc h)) (few-entries h) t.pairs (last (suc h) t.end b) g.2, one_more (suc h) t)

  module _ (w : List ℕ) (h n : ℕ) where
    pub root-few-nodes : n < P → SoundRoot C P w h n → length (nodes (suc h) (level C w (suc h) n)) ≤ P
    root-few-nodes i s = most (nodes (suc h) (level C w (suc h) n)) P (λ m l. root-inside C P w h n i m l s) (λ m. root-once C P w h n m s)

    pub root-few-entries : SoundRoot C P w h n → length (entries (suc h) (level C w (suc h) n) (start C w n) Open) ≤ C.cap * length (nodes (suc h) (level C w (suc h) n))
    root-few-entries (empty_tree e) = rw (empty_entries C w h n e) (omega arith)
    root-few-entries (sound_tree l g) = few-entries h (level C w (suc h) n) (start C w n) Open g
