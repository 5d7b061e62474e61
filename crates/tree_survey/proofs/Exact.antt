-- What a survey tells: the first unsound node, or, on a sound root, the tree's own counts.
use Prim.Native.Nat.{ℕ, zero, suc, ◌+◌, ◌*◌, ◌^◌, ◌<◌, ◌≤◌}
use mathlib.Core.List.{List, [], ◌∷◌, ◌++◌}
use mathlib.Core.Bool.{false}
use mathlib.Core.Path.{◌≡◌, refl, sym, ap, ◌∙◌}
use native.Mathlib.Omega.{arith}
use native.Mathlib.Nat.{zero-add, mul-le-mul_left, mul-le-mul_right}
use lib.ListN.{length}
use lib.Dec.{T, eqb}
use borrow.Author.Tests.{lt-ltb, eq-eqb, ne_eqb}
use Rattle.model.specs.Words.{Shape, pick, height, count, start, end, row, child, Header}
use Rattle.model.specs.Tree.{Limit, Open, pairs_from, level, next, last, over_pairs, all_pairs, AllSound}
use Rattle.model.specs.Reading.{Visit, Enter, Leave, Bad, visits, root_visits, Fault, clear, at, first_bad, root_entries, root_nodes}
use Rattle.model.specs.WellFormed.{SoundRoot, empty_tree, sound_tree}
use Rattle.model.proofs.Tests.{by_test}
use Rattle.model.proofs.Once.{own}
use Rattle.law_formed.specs.Visits.{clean}
use Rattle.law_formed.proofs.Clean.{clear-clean}
use Rattle.law_formed.proofs.Few.{root-few-nodes, root-few-entries}
use Rattle.law_formed.proofs.Rooted.{sound-root}
use Rattle.law_formed.proofs.Tally.{entered, pages_in, lower, sound-visits, leaf-visits, tree-visits, blank-visits, root-entered, root-pages}
use Rattle.tree_survey.specs.Leaves.{sum_pairs, leaves_below, root_leaves}
use Rattle.tree_tally.specs.Tally.{more, no_counts, counted, tally}
use Rattle.tree_tally.specs.declared.Counts.{Counts}
use Rattle.model.specs.declared.answer.UnsoundNode.{UnsoundNode}
use Rattle.std.specs.Prelude.{Result, Ok, Err}

-- Which node it names ------------------------------------------------------------------------------------

unfoldable pub fault_of : Result Counts UnsoundNode → Fault
fault_of (Err u) = at u.0.0
fault_of (Ok k) = clear

pub tally_fault : (C : Shape) (w : List ℕ) (vs : List Visit) (k : Counts) → fault_of (tally C w vs k) ≡ first_bad vs
unfolding tally first_bad fault_of
tally_fault C w [] k = refl
tally_fault C w (Enter n ∷ vs) k = tally_fault C w vs (counted C w n k)
tally_fault C w (Leave n ∷ vs) k = tally_fault C w vs k
tally_fault C w (Bad n ∷ vs) k = refl

module _ (C : Shape) (w : List ℕ) (vs : List Visit) (k : Counts) where
  pub survey_bad : (n : ℕ) → tally C w vs k ≡ Err (record { 0 = record { 0 = n } }) → first_bad vs ≡ at n
  unfolding fault_of
  survey_bad n e = sym (tally_fault C w vs k) ∙ ap fault_of e

  pub survey_clear : (j : Counts) → tally C w vs k ≡ Ok j → first_bad vs ≡ clear
  unfolding fault_of
  survey_clear j e = sym (tally_fault C w vs k) ∙ ap fault_of e

-- and back
pub bad_survey : (C : Shape) (w : List ℕ) (vs : List Visit) (k : Counts) (n : ℕ) → first_bad vs ≡ at n → tally C w vs k ≡ Err (record { 0 = record { 0 = n } })
unfolding tally first_bad
bad_survey C w [] k n e = let z : ◌≡◌ {A = ℕ} 0 1 = cc in absurd (omega arith)
bad_survey C w (Enter m ∷ vs) k n e = bad_survey C w vs (counted C w m k) n e
bad_survey C w (Leave m ∷ vs) k n e = bad_survey C w vs k n e
bad_survey C w (Bad m ∷ vs) k n e = let z : m ≡ n = cc in rw z

pub clear_survey : (C : Shape) (w : List ℕ) (vs : List Visit) (k : Counts) → first_bad vs ≡ clear → (j : Counts) × (tally C w vs k ≡ Ok j)
unfolding tally first_bad
clear_survey C w [] k e = (k, refl)
clear_survey C w (Enter m ∷ vs) k e = clear_survey C w vs (counted C w m k) e
clear_survey C w (Leave m ∷ vs) k e = clear_survey C w vs k e
clear_survey C w (Bad m ∷ vs) k e = let z : ◌≡◌ {A = ℕ} 0 1 = cc in absurd (omega arith)

-- How much it counts -------------------------------------------------------------------------------------

-- the leaves entered
unfoldable pub leaves_in : Shape → List ℕ → List Visit → ℕ
leaves_in C w [] = 0
leaves_in C w (Enter n ∷ vs) = pick (eqb (height C w n) 0) 1 0 + leaves_in C w vs
leaves_in C w (Leave n ∷ vs) = leaves_in C w vs
leaves_in C w (Bad n ∷ vs) = leaves_in C w vs

pub leaves-append : (C : Shape) (w : List ℕ) (a b : List Visit) → leaves_in C w (a ++ b) ≡ leaves_in C w a + leaves_in C w b
unfolding leaves_in
leaves-append C w [] b = sym (zero-add (leaves_in C w b))
leaves-append C w (Enter n ∷ a) b = omega (arith, leaves-append C w a b)
leaves-append C w (Leave n ∷ a) b = leaves-append C w a b
leaves-append C w (Bad n ∷ a) b = leaves-append C w a b

pub few-leaves : (C : Shape) (w : List ℕ) (vs : List Visit) → leaves_in C w vs ≤ entered vs
unfolding leaves_in entered
few-leaves C w [] = omega arith
few-leaves C w (Enter n ∷ vs) = by_test (eqb (height C w n) 0) (λ t. rw t (omega (arith, few-leaves C w vs))) (λ t. rw t (omega (arith, few-leaves C w vs)))
few-leaves C w (Leave n ∷ vs) = few-leaves C w vs
few-leaves C w (Bad n ∷ vs) = few-leaves C w vs

more-is : (k some : ℕ) → k < 2 ^ 32 → more k some ≡ k + some
unfolding more
more-is k some l = rw (lt-ltb k (2 ^ 32) l)

counts-is : {a b c d e f : ℕ} → a ≡ b → c ≡ d → e ≡ f → ◌≡◌ {A = Counts} (record { nodes = a; leaves = c; entries = e }) (record { nodes = b; leaves = d; entries = f })
counts-is p q r = rw (p, q, r)

module _ (C : Shape) (w : List ℕ) where
  abbrev plus : Counts → List Visit → Counts
  plus k vs = record { nodes = k.nodes + entered vs; leaves = k.leaves + leaves_in C w vs; entries = k.entries + pages_in C w vs }

  -- below 2^32 nothing is cut off
  pub counted-plus : (vs : List Visit) (k : Counts) → T (clean vs) → k.nodes + entered vs < 2 ^ 32 → k.leaves + leaves_in C w vs < 2 ^ 32 → k.entries + pages_in C w vs < 2 ^ 32
      → tally C w vs k ≡ Ok (plus k vs)
  unfolding tally clean counted entered leaves_in pages_in
  counted-plus [] k c a b d = ap Ok (counts-is (omega arith) (omega arith) (omega arith))
  counted-plus (Enter n ∷ vs) k c a b d =
      by_test (eqb (height C w n) 0)
      (λ t. let b₂ : k.leaves + (1 + leaves_in C w vs) < 2 ^ 32 = rw t at b in
      let d₂ : k.entries + (count C w n + pages_in C w vs) < 2 ^ 32 = rw t at d in
      let j : Counts = record { nodes = k.nodes + 1; leaves = k.leaves + 1; entries = k.entries + count C w n } in
      rw t
      (ap (tally C w vs) (counts-is (more-is k.nodes 1 (omega arith)) (more-is k.leaves 1 (omega arith)) (more-is k.entries (count C w n) (omega arith)))
      ∙ counted-plus vs j c (omega arith) (omega arith) (omega arith)
      ∙ ap Ok (counts-is (omega arith) (omega arith) (omega arith))))
      (λ t. let b₂ : k.leaves + (0 + leaves_in C w vs) < 2 ^ 32 = rw t at b in
      let d₂ : k.entries + (0 + pages_in C w vs) < 2 ^ 32 = rw t at d in
      let j : Counts = record { nodes = k.nodes + 1; leaves = k.leaves; entries = k.entries } in
      rw t
      (ap (tally C w vs) (counts-is (more-is k.nodes 1 (omega arith)) refl refl)
      ∙ counted-plus vs j c (omega arith) (omega arith) (omega arith)
      ∙ ap Ok (counts-is (omega arith) (omega arith) (omega arith))))
  counted-plus (Leave n ∷ vs) k c a b d = counted-plus vs k c a b d
  counted-plus (Bad n ∷ vs) k c a b d = absurd c

-- Leaves of a sound tree ---------------------------------------------------------------------------------

module _ (C : Shape) (P : ℕ) (w : List ℕ) where
  leaves-pairs : (h n i k : ℕ) (b : Limit)
      → ((m x r : ℕ) (a : Limit) → AllSound C P (suc h) (level C w (suc h) x) r a → leaves_in C w (visits false C P (suc h) m (level C w (suc h) x) r a) ≡ leaves_below h (level C w (suc h) x))
      → all_pairs (AllSound C P (suc h)) (pairs_from C w (level C w (suc h)) n i k) b
      → leaves_in C w (over_pairs (visits false C P (suc h) n) (pairs_from C w (level C w (suc h)) n i k) b) ≡ sum_pairs (leaves_below h) (pairs_from C w (level C w (suc h)) n i k)
  unfolding pairs_from over_pairs all_pairs leaves_in sum_pairs
  leaves-pairs h n i zero b f a = refl
  leaves-pairs h n i (suc k) b f a =
      let ps = pairs_from C w (level C w (suc h)) n (i + 1) k in
      let v = visits false C P (suc h) n (level C w (suc h) (child C w n i)) (row C w n i) (next ps b) in
      omega (arith, leaves-append C w v (over_pairs (visits false C P (suc h) n) ps b), f n (child C w n i) (row C w n i) (next ps b) a.0, leaves-pairs h n (i + 1) k b f a.1)

  pub leaves-sound : (h m n r : ℕ) (b : Limit) → AllSound C P (suc h) (level C w (suc h) n) r b
      → leaves_in C w (visits false C P (suc h) m (level C w (suc h) n) r b) ≡ leaves_below h (level C w (suc h) n)
  unfolding AllSound leaves_below level leaves_in
  leaves-sound zero m n r b g =
      let ps = pairs_from C w (level C w 0) n 0 (count C w n) in
      ap (leaves_in C w) (sound-visits C P 0 m (level C w 1 n) r b g)
      ∙ rw (leaf-visits C P n ps (last 0 (end C w n) b), eq-eqb (height C w n) 0 (own C P w 0 n r b g).0)
  leaves-sound (suc h) m n r b g =
      let below = lower C P false (suc h) m (level C w (suc (suc h)) n) r b in
      ap (leaves_in C w) (sound-visits C P (suc h) m (level C w (suc (suc h)) n) r b g)
      ∙ rw (ne_eqb (height C w n) 0 (λ e. absurd (omega (arith, (own C P w (suc h) n r b g).0))))
      (omega (arith, leaves-append C w below (Leave n ∷ []), leaves-pairs h n 0 (count C w n) (last (suc h) (end C w n) b) (λ m₂ x r₂ a q. leaves-sound h m₂ x r₂ a q) g.2))

  one-leaf : (h n : ℕ) → h ≡ 0 → leaves_below h (level C w (suc h) n) ≡ 1
  unfolding leaves_below
  one-leaf zero n e = refl
  one-leaf (suc h) n e = absurd (omega arith)

  module _ (n : ℕ) where
    root-leaves : SoundRoot C P w (height C w n) n → leaves_in C w (root_visits false C P w n) ≡ root_leaves C w n
    unfolding leaves_in
    root-leaves (empty_tree e) = ap (leaves_in C w) (blank-visits C P w n false e) ∙ rw (eq-eqb (height C w n) 0 e.leaf) (sym (one-leaf (height C w n) n e.leaf))
    root-leaves (sound_tree l g) = ap (leaves_in C w) (tree-visits C P w n l g) ∙ leaves-sound (height C w n) n n (start C w n) Open g

    -- the law
    pub survey_counts : Header C.cap P w → n < P → SoundRoot C P w (height C w n) n
        → tally C w (root_visits false C P w n) no_counts ≡ Ok (record { nodes = length (root_nodes C w n); leaves = root_leaves C w n; entries = length (root_entries C w n) })
    survey_counts hd i s =
        let vs = root_visits false C P w n in
        let few : length (root_nodes C w n) ≤ P = root-few-nodes C P w (height C w n) n i s in
        let es : length (root_entries C w n) ≤ C.cap * length (root_nodes C w n) = root-few-entries C P w (height C w n) n s in
        let top : C.cap * length (root_nodes C w n) ≤ 4094 * 65535 = omega (arith, mul-le-mul_left C.cap few, mul-le-mul_left C.cap hd.pool-high, mul-le-mul_right 65535 hd.cap-high) in
        counted-plus C w vs no_counts (clear-clean vs (sound-root C P w n s)) (omega (arith, root-entered C P w n s, few, hd.pool-high)) (omega (arith, few-leaves C w vs, root-entered C P w n s, few, hd.pool-high)) (omega (arith, root-pages C P w n s, es, top))
        ∙ ap Ok (counts-is (omega (arith, root-entered C P w n s)) (omega (arith, root-leaves s)) (omega (arith, root-pages C P w n s)))
