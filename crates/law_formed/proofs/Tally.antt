-- What the visits of a sound tree count: its nodes by those left, in the order of nodes, and its entries by the leaves
-- entered.
use Prim.Native.Nat.{ℕ, zero, suc, ◌+◌, ◌≤◌}
use mathlib.Core.List.{List, [], ◌∷◌, ◌++◌}
use mathlib.Core.Bool.{Bool, true, false}
use mathlib.Core.Path.{◌≡◌, refl, sym, ap, ap₂, ◌∙◌}
use native.Mathlib.Omega.{arith}
use native.Mathlib.Nat.{zero-add}
use lib.ListN.{length, length-append}
use lib.Dec.{T, ltb, eqb}
use borrow.Author.Tests.{eq-eqb, ne_eqb, le-leb}
use Rattle.model.specs.Words.{Shape, pick, height, count, start, end, row, child, max_height}
use Rattle.model.specs.Tree.{Limit, Open, pairs_from, sound, Level, level, next, last, over_pairs, all_pairs, AllSound}
use Rattle.model.specs.Reading.{Visit, Enter, Leave, Bad, end_fits, passes, visits, root_visits, occ, entries, in_pairs, nodes, root_entries, root_nodes}
use Rattle.model.specs.WellFormed.{EmptyRoot, SoundRoot, empty_tree, sound_tree}
use Rattle.model.proofs.Tests.{is_true}
use Rattle.model.proofs.Frame.{length_pairs, occ-append, occ_nil}
use Rattle.model.proofs.Once.{own}
use Rattle.model.proofs.Lookup.{is_empty, not_empty}
use Rattle.law_formed.specs.Visits.{lefts, enters}
use Rattle.law_formed.specs.Well.{Well}
use Rattle.law_formed.proofs.Rooted.{empty_nodes, empty_entries}
use Rattle.law_formed.proofs.Few.{leaf-entries}

-- how many nodes are entered
unfoldable pub entered : List Visit → ℕ
entered [] = 0
entered (Enter n ∷ vs) = suc (entered vs)
entered (Leave n ∷ vs) = entered vs
entered (Bad n ∷ vs) = entered vs

-- the entries of the leaves entered
unfoldable pub pages_in : Shape → List ℕ → List Visit → ℕ
pages_in C w [] = 0
pages_in C w (Enter n ∷ vs) = pick (eqb (height C w n) 0) (count C w n) 0 + pages_in C w vs
pages_in C w (Leave n ∷ vs) = pages_in C w vs
pages_in C w (Bad n ∷ vs) = pages_in C w vs

pub entered-append : (a b : List Visit) → entered (a ++ b) ≡ entered a + entered b
unfolding entered
entered-append [] b = sym (zero-add (entered b))
entered-append (Enter n ∷ a) b = omega (arith, entered-append a b)
entered-append (Leave n ∷ a) b = entered-append a b
entered-append (Bad n ∷ a) b = entered-append a b

pub left-append : (a b : List Visit) → lefts (a ++ b) ≡ lefts a ++ lefts b
unfolding lefts
left-append [] b = refl
left-append (Enter n ∷ a) b = left-append a b
left-append (Leave n ∷ a) b = ap (λ (l : List ℕ). n ∷ l) (left-append a b)
left-append (Bad n ∷ a) b = left-append a b

pub enters-append : (a b : List Visit) → enters (a ++ b) ≡ enters a ++ enters b
unfolding enters
enters-append [] b = refl
enters-append (Enter n ∷ a) b = ap (λ (l : List ℕ). n ∷ l) (enters-append a b)
enters-append (Leave n ∷ a) b = enters-append a b
enters-append (Bad n ∷ a) b = enters-append a b

pub pages-append : (C : Shape) (w : List ℕ) (a b : List Visit) → pages_in C w (a ++ b) ≡ pages_in C w a + pages_in C w b
unfolding pages_in
pages-append C w [] b = sym (zero-add (pages_in C w b))
pages-append C w (Enter n ∷ a) b = omega (arith, pages-append C w a b)
pages-append C w (Leave n ∷ a) b = pages-append C w a b
pages-append C w (Bad n ∷ a) b = pages-append C w a b

-- Nodes --------------------------------------------------------------------------------------------------

module _ (C : Shape) (P : ℕ) where
  pub left-pairs : {K : Type 0} (f : K → ℕ → Limit → List Visit) (ns : K → List ℕ) (Q : K → ℕ → Limit → Type 0) → ((x : K) (r : ℕ) (b : Limit) → Q x r b → lefts (f x r b) ≡ ns x)
      → (ps : List (ℕ × K)) (b : Limit) → all_pairs Q ps b → lefts (over_pairs f ps b) ≡ in_pairs ns ps
  unfolding over_pairs in_pairs all_pairs lefts
  left-pairs f ns Q g [] b a = refl
  left-pairs f ns Q g (p ∷ ps) b a =
      left-append (f p.1 p.0 (next ps b)) (over_pairs f ps b) ∙ ap₂ (λ (k l : List ℕ). k ++ l) (g p.1 p.0 (next ps b) a.0) (left-pairs f ns Q g ps b a.1)

  -- what the visits of a passed node are
  module _ (ends : Bool) (h m : ℕ) (t : Level (suc h)) (r : ℕ) (b : Limit) where
    abbrev pub lower : List Visit
    lower = over_pairs (visits ends C P h t.number) t.pairs (last h t.end b)

    pub visits-is : T (ltb t.number P) → T (passes ends C h t r b) → visits ends C P (suc h) m t r b ≡ Enter t.number ∷ (lower ++ (Leave t.number ∷ []))
    unfolding visits
    visits-is l s = rw (is_true (ltb t.number P) l, is_true (passes ends C h t r b) s)

  sound-passes : (h : ℕ) (t : Level (suc h)) (r : ℕ) (b : Limit) → T (sound C h t r b) → T (passes false C h t r b)
  unfolding passes
  sound-passes h t r b s = rw (is_true (sound C h t r b) s) tt

  pub sound-visits : (h m : ℕ) (t : Level (suc h)) (r : ℕ) (b : Limit) → AllSound C P (suc h) t r b → visits false C P (suc h) m t r b ≡ Enter t.number ∷ (lower false h m t r b ++ (Leave t.number ∷ []))
  unfolding AllSound
  sound-visits h m t r b g = visits-is false h m t r b g.0 (sound-passes h t r b g.1)

  pub left-nodes : (h m : ℕ) (t : Level h) (r : ℕ) (b : Limit) → AllSound C P h t r b → lefts (visits false C P h m t r b) ≡ nodes h t
  unfolding AllSound nodes lefts visits
  left-nodes zero m t r b g = refl
  left-nodes (suc h) m t r b g =
      ap lefts (sound-visits h m t r b g) ∙ left-append (lower false h m t r b) (Leave t.number ∷ [])
      ∙ ap (λ (l : List ℕ). l ++ (t.number ∷ [])) (left-pairs (visits false C P h t.number) (nodes h) (AllSound C P h) (left-nodes h t.number) t.pairs (last h t.end b) g.2)

  -- the nodes entered are those left, in another order
  pairs-enters : {K : Type 0} (f : K → ℕ → Limit → List Visit) (ns : K → List ℕ) (Q : K → ℕ → Limit → Type 0) (n : ℕ) → ((x : K) (r : ℕ) (b : Limit) → Q x r b → occ n (enters (f x r b)) ≡ occ n (ns x))
      → (ps : List (ℕ × K)) (b : Limit) → all_pairs Q ps b → occ n (enters (over_pairs f ps b)) ≡ occ n (in_pairs ns ps)
  unfolding over_pairs in_pairs all_pairs enters
  pairs-enters f ns Q n g [] b a = refl
  pairs-enters f ns Q n g (p ∷ ps) b a =
      let v = f p.1 p.0 (next ps b) in
      let vs = over_pairs f ps b in
      ap (occ n) (enters-append v vs)
      ∙ omega (arith, occ-append n (enters v) (enters vs), occ-append n (ns p.1) (in_pairs ns ps), g p.1 p.0 (next ps b) a.0, pairs-enters f ns Q n g ps b a.1)

  pub enters-nodes : (n h m : ℕ) (t : Level h) (r : ℕ) (b : Limit) → AllSound C P h t r b → occ n (enters (visits false C P h m t r b)) ≡ occ n (nodes h t)
  unfolding AllSound nodes enters visits
  enters-nodes n zero m t r b g = refl
  enters-nodes n (suc h) m t r b g =
      let vs = lower false h m t r b in
      ap (λ (z : List Visit). occ n (enters z)) (sound-visits h m t r b g)
      ∙ omega (
        arith,
        occ-append n (t.number ∷ []) (enters (vs ++ (Leave t.number ∷ []))),
        ap (occ n) (enters-append vs (Leave t.number ∷ [])),
        occ-append n (enters vs) [],
        occ-append n (in_pairs (nodes h) t.pairs) (t.number ∷ []),
        occ_nil n,
        pairs-enters (visits false C P h t.number) (nodes h) (AllSound C P h) n (enters-nodes n h t.number) t.pairs (last h t.end b) g.2,
      )

  -- as many nodes are entered as are left
  pairs-entered : {K : Type 0} (f : K → ℕ → Limit → List Visit) → ((x : K) (r : ℕ) (b : Limit) → entered (f x r b) ≡ length (lefts (f x r b)))
      → (ps : List (ℕ × K)) (b : Limit) → entered (over_pairs f ps b) ≡ length (lefts (over_pairs f ps b))
  unfolding over_pairs entered lefts
  pairs-entered f g [] b = refl
  pairs-entered f g (p ∷ ps) b =
      let v = f p.1 p.0 (next ps b) in
      let vs = over_pairs f ps b in
      omega (arith, entered-append v vs, ap length (left-append v vs), length-append (lefts v) (lefts vs), g p.1 p.0 (next ps b), pairs-entered f g ps b)

  pub entered-left : (ends : Bool) (h m : ℕ) (t : Level h) (r : ℕ) (b : Limit) → entered (visits ends C P h m t r b) ≡ length (lefts (visits ends C P h m t r b))
  unfolding visits entered lefts
  entered-left ends zero m t r b = refl
  entered-left ends (suc h) m t r b =
      go (pairs-entered (visits ends C P h t.number) (entered-left ends h t.number) t.pairs (last h t.end b)) (ltb t.number P) (passes ends C h t r b)
    where
      vs : List Visit
      vs = lower ends h m t r b

      whole : List Visit
      whole = Enter t.number ∷ (vs ++ (Leave t.number ∷ []))

      go : entered vs ≡ length (lefts vs) → (p s : Bool) → entered (pick p (pick s whole (Bad t.number ∷ [])) (Bad m ∷ [])) ≡ length (lefts (pick p (pick s whole (Bad t.number ∷ [])) (Bad m ∷ [])))
      go e true true = omega (arith, entered-append vs (Leave t.number ∷ []), ap length (left-append vs (Leave t.number ∷ [])), length-append (lefts vs) (t.number ∷ []))
      go e true false = refl
      go e false s = refl

-- Entries ------------------------------------------------------------------------------------------------

pub leaf-visits : (C : Shape) (P m : ℕ) (ps : List (ℕ × ℕ)) (b : Limit) → over_pairs (visits false C P 0 m) ps b ≡ []
unfolding over_pairs visits
leaf-visits C P m [] b = refl
leaf-visits C P m (p ∷ ps) b = leaf-visits C P m ps b

module _ (C : Shape) (P : ℕ) (w : List ℕ) where
  pages-pairs : (g n i k : ℕ) (b : Limit)
      → ((m x r : ℕ) (a : Limit) → AllSound C P g (level C w g x) r a → pages_in C w (visits false C P g m (level C w g x) r a) ≡ length (entries g (level C w g x) r a))
      → all_pairs (AllSound C P g) (pairs_from C w (level C w g) n i k) b
      → pages_in C w (over_pairs (visits false C P g n) (pairs_from C w (level C w g) n i k) b) ≡ length (over_pairs (entries g) (pairs_from C w (level C w g) n i k) b)
  unfolding pairs_from over_pairs all_pairs pages_in
  pages-pairs g n i zero b f a = refl
  pages-pairs g n i (suc k) b f a =
      let ps = pairs_from C w (level C w g) n (i + 1) k in
      let x = level C w g (child C w n i) in
      let v = visits false C P g n x (row C w n i) (next ps b) in
      let e = entries g x (row C w n i) (next ps b) in
      omega (arith, pages-append C w v (over_pairs (visits false C P g n) ps b), length-append e (over_pairs (entries g) ps b), f n (child C w n i) (row C w n i) (next ps b) a.0, pages-pairs g n (i + 1) k b f a.1)

  pub pages-entries : (h m n r : ℕ) (b : Limit) → AllSound C P (suc h) (level C w (suc h) n) r b
      → pages_in C w (visits false C P (suc h) m (level C w (suc h) n) r b) ≡ length (entries (suc h) (level C w (suc h) n) r b)
  unfolding AllSound entries level pages_in
  pages-entries zero m n r b g =
      let ps = pairs_from C w (level C w 0) n 0 (count C w n) in
      ap (pages_in C w) (sound-visits C P 0 m (level C w 1 n) r b g)
      ∙ rw (leaf-visits C P n ps (last 0 (end C w n) b), eq-eqb (height C w n) 0 (own C P w 0 n r b g).0)
      (omega (arith, leaf-entries ps (last 0 (end C w n) b), length_pairs C w (level C w 0) n 0 (count C w n)))
  pages-entries (suc h) m n r b g =
      let below = lower C P false (suc h) m (level C w (suc (suc h)) n) r b in
      ap (pages_in C w) (sound-visits C P (suc h) m (level C w (suc (suc h)) n) r b g)
      ∙ rw (ne_eqb (height C w n) 0 (λ e. absurd (omega (arith, (own C P w (suc h) n r b g).0))))
      (omega (arith, pages-append C w below (Leave n ∷ []), pages-pairs (suc h) n 0 (count C w n) (last (suc h) (end C w n) b) (λ m₂ x r₂ a q. pages-entries h m₂ x r₂ a q) g.2))

-- Where ends fit too, both visits are the same -----------------------------------------------------------

module _ (C : Shape) (P : ℕ) where
  same-pairs : {K : Type 0} (f g : K → ℕ → Limit → List Visit) (Q : K → ℕ → Limit → Type 0) → ((x : K) (r : ℕ) (b : Limit) → Q x r b → f x r b ≡ g x r b)
      → (ps : List (ℕ × K)) (b : Limit) → all_pairs Q ps b → over_pairs f ps b ≡ over_pairs g ps b
  unfolding over_pairs all_pairs
  same-pairs f g Q e [] b a = refl
  same-pairs f g Q e (p ∷ ps) b a = ap₂ (λ (k l : List Visit). k ++ l) (e p.1 p.0 (next ps b) a.0) (same-pairs f g Q e ps b a.1)

  pub same-visits : (h m : ℕ) (t : Level h) (r : ℕ) (b : Limit) → Well C P h t r b → visits true C P h m t r b ≡ visits false C P h m t r b
  unfolding Well visits passes
  same-visits zero m t r b g = refl
  same-visits (suc h) m t r b g =
      rw (is_true (end_fits h b t.end) g.2, same-pairs (visits true C P h t.number) (visits false C P h t.number) (Well C P h) (same-visits h t.number) t.pairs (last h t.end b) g.3)

-- From the root ------------------------------------------------------------------------------------------

module _ (C : Shape) (P : ℕ) (w : List ℕ) (n : ℕ) where
  abbrev tall : ℕ
  tall = height C w n

  pub tree-visits : tall ≤ max_height → AllSound C P (suc tall) (level C w (suc tall) n) (start C w n) Open
      → root_visits false C P w n ≡ visits false C P (suc tall) n (level C w (suc tall) n) (start C w n) Open
  unfolding root_visits
  tree-visits l g = rw (not_empty C P w tall n (start C w n) Open g, le-leb tall max_height l)

  pub blank-visits : (ends : Bool) → EmptyRoot C w n → root_visits ends C P w n ≡ Enter n ∷ Leave n ∷ []
  unfolding root_visits
  blank-visits ends e = rw (is_empty C w n e)

  pub root-left : SoundRoot C P w tall n → lefts (root_visits false C P w n) ≡ root_nodes C w n
  unfolding lefts
  root-left (empty_tree e) = ap lefts (blank-visits false e) ∙ sym (empty_nodes C w tall n e)
  root-left (sound_tree l g) = ap lefts (tree-visits l g) ∙ left-nodes C P (suc tall) n (level C w (suc tall) n) (start C w n) Open g

  pub root-entered : SoundRoot C P w tall n → entered (root_visits false C P w n) ≡ length (root_nodes C w n)
  unfolding entered
  root-entered (empty_tree e) = ap entered (blank-visits false e) ∙ sym (ap length (empty_nodes C w tall n e))
  root-entered (sound_tree l g) =
      let t = level C w (suc tall) n in
      ap entered (tree-visits l g) ∙ entered-left C P false (suc tall) n t (start C w n) Open ∙ ap length (left-nodes C P (suc tall) n t (start C w n) Open g)

  pub root-pages : SoundRoot C P w tall n → pages_in C w (root_visits false C P w n) ≡ length (root_entries C w n)
  unfolding pages_in
  root-pages (empty_tree e) =
      ap (pages_in C w) (blank-visits false e)
      ∙ rw (empty_entries C w tall n e (start C w n) Open, eq-eqb (height C w n) 0 e.leaf, e.none)
  root-pages (sound_tree l g) = ap (pages_in C w) (tree-visits l g) ∙ pages-entries C P w tall n n (start C w n) Open g
