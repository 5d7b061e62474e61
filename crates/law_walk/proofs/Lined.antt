-- The leaves of a sound tree, in order: each ends where the next begins; and the leaf that a row chooses among them.
use Prim.Native.Nat.{ℕ, ◌<◌, ◌≤◌}
use mathlib.Core.List.{List, [], ◌∷◌, ◌++◌, append-nil}
use mathlib.Core.Path.{◌≡◌, refl, sym, ap, ◌∙◌, subst}
use mathlib.Core.Logic.{◌⊎◌, inl, inr}
use native.Mathlib.Omega.{arith}
use lib.Dec.{leb}
use borrow.Author.Tests.{le-leb, lt-leb, leb-true, leb-false}
use Rattle.model.specs.Words.{Shape, pick, root, count, start, end}
use Rattle.model.specs.Tree.{Limit, Open, Below, pairs_from, next, over_pairs, all_pairs, Under}
use Rattle.model.proofs.Tests.{by_test}
use Rattle.model.proofs.Look.{choose}
use Rattle.model.proofs.Sound.{Begins, begins}
use Rattle.law_formed.proofs.Linked.{Meets}
use Rattle.law_walk.specs.Walking.{LeafAt}

-- what a step needs of a leaf
pub record Good (C : Shape) (w : List ℕ) (x : LeafAt) : Type 0 where
  pub many : count C w x.number ≤ C.cap
  pub held : x.pairs ≡ pairs_from C w (λ (y : ℕ). y) x.number 0 (count C w x.number)
  pub meets : Meets x.next (end C w x.number)
  pub begin : start C w x.number ≡ x.low
  -- but for the empty root
  pub first : 0 < count C w (root w) → Begins x.low x.pairs

unfoldable pub low_of : List LeafAt → ℕ
low_of [] = 0
low_of (x ∷ xs) = x.low

-- the last leaf whose start is not above q; the first where there is none
unfoldable pub chosen_from : ℕ → LeafAt → List LeafAt → LeafAt
chosen_from q x [] = x
chosen_from q x (y ∷ ys) = pick (leb y.low q) (chosen_from q y ys) x

abbrev no_leaf : LeafAt
no_leaf = record { number = 0; low = 0; next = Open; pairs = [] }

unfoldable pub chosen_in : ℕ → List LeafAt → LeafAt
chosen_in q [] = no_leaf
chosen_in q (x ∷ xs) = chosen_from q x xs

module _ (C : Shape) (w : List ℕ) where
  unfoldable pub Lined : List LeafAt → Limit → Type 0
  Lined [] b = ⊥
  Lined (x ∷ []) b = Good C w x × ((x.next ≡ b) × Under x.low b)
  Lined (x ∷ y ∷ xs) b = Good C w x × ((x.next ≡ Below y.low) × ((x.low < y.low) × Lined (y ∷ xs) b))

  pub lined-good : (x : LeafAt) (xs : List LeafAt) (b : Limit) → Lined (x ∷ xs) b → Good C w x
  unfolding Lined
  lined-good x [] b g = g.0
  lined-good x (y ∷ xs) b g = g.0

  lined-low : (x : LeafAt) (xs : List LeafAt) (e : ℕ) → Lined (x ∷ xs) (Below e) → x.low < e
  unfolding Lined Under
  lined-low x [] e g = g.1.1
  lined-low x (y ∷ xs) e g = omega (arith, g.1.1.0, lined-low y xs e g.1.1.1)

  lined_join : (xs ys : List LeafAt) (e : ℕ) (b : Limit) → Lined xs (Below e) → Lined ys b → low_of ys ≡ e → Lined (xs ++ ys) b × (low_of (xs ++ ys) ≡ low_of xs)
  unfolding Lined low_of Under
  lined_join [] ys e b g k z = absurd g
  lined_join (x ∷ xs) [] e b g k z = absurd k
  lined_join (x ∷ []) (y ∷ ys) e b g k z = ((g.0, (g.1.0 ∙ ap Below (sym z), (omega (arith, g.1.1, z), k))), refl)
  lined_join (x ∷ x₂ ∷ xs) (y ∷ ys) e b g k z = ((g.0, (g.1.0, (g.1.1.0, (lined_join (x₂ ∷ xs) (y ∷ ys) e b g.1.1.1 k z).0))), refl)

  -- what follows a prefix
  pub lined-rest : (pre : List LeafAt) (x : LeafAt) (post : List LeafAt) (b : Limit) → Lined (pre ++ (x ∷ post)) b → Lined (x ∷ post) b
  unfolding Lined
  lined-rest [] x post b g = g
  lined-rest (y ∷ []) x post b g = g.1.1.1
  lined-rest (y ∷ z ∷ pre) x post b g = lined-rest (z ∷ pre) x post b g.1.1.1

  module _ (q : ℕ) where
    join_from : (x : LeafAt) (xs : List LeafAt) (y : LeafAt) (ys : List LeafAt) → Lined (x ∷ xs) (Below y.low)
        → chosen_from q x (xs ++ (y ∷ ys)) ≡ pick (leb y.low q) (chosen_from q y ys) (chosen_from q x xs)
    unfolding chosen_from Lined
    join_from x [] y ys g = refl
    join_from x (x₂ ∷ xs) y ys g =
        let l = lined-low x₂ xs y.low g.1.1.1 in
        ap (λ (t : LeafAt). pick (leb x₂.low q) t x) (join_from x₂ xs y ys g.1.1.1)
        ∙ by_test (leb y.low q)
        (λ t. rw (t, le-leb x₂.low q (omega (arith, leb-true y.low q t))))
        (λ t. rw t)

    chosen_join : (xs ys : List LeafAt) (e : ℕ) (b : Limit) → Lined xs (Below e) → Lined ys b → low_of ys ≡ e
        → chosen_in q (xs ++ ys) ≡ pick (leb e q) (chosen_in q ys) (chosen_in q xs)
    unfolding chosen_in low_of Lined
    chosen_join [] ys e b g k z = absurd g
    chosen_join (x ∷ xs) [] e b g k z = absurd k
    chosen_join (x ∷ xs) (y ∷ ys) e b g k z =
        subst (λ (n : ℕ). chosen_from q x (xs ++ (y ∷ ys)) ≡ pick (leb n q) (chosen_from q y ys) (chosen_from q x xs)) z
        (join_from x xs y ys (subst (λ (n : ℕ). Lined (x ∷ xs) (Below n)) (sym z) g))

  -- Over pairs -----------------------------------------------------------------------------------------------
  module _ {K : Type 0} (f : K → ℕ → Limit → List LeafAt) (Q : K → ℕ → Limit → Type 0) (law : (x : K) (r : ℕ) (b : Limit) → Q x r b → Lined (f x r b) b × (low_of (f x r b) ≡ r)) where
    pairs-lined : (p : ℕ × K) (ps : List (ℕ × K)) (b : Limit) → all_pairs Q (p ∷ ps) b → Lined (over_pairs f (p ∷ ps) b) b × (low_of (over_pairs f (p ∷ ps) b) ≡ p.0)
    unfolding all_pairs over_pairs next
    pairs-lined p [] b a = rw append-nil (law p.1 p.0 b a.0)
    pairs-lined p (k ∷ ks) b a =
        let u = law p.1 p.0 (Below k.0) a.0 in
        let v = pairs-lined k ks b a.1 in
        let j = lined_join (f p.1 p.0 (Below k.0)) (over_pairs f (k ∷ ks) b) k.0 b u.0 v.0 v.1 in
        (j.0, j.1 ∙ u.1)

    pub begun-lined : (r : ℕ) (ps : List (ℕ × K)) (b : Limit) → Begins r ps → all_pairs Q ps b → Lined (over_pairs f ps b) b × (low_of (over_pairs f ps b) ≡ r)
    begun-lined r _ b (begins x ps) a = pairs-lined (r, x) ps b a

    -- the chosen leaf is the one that the chosen pair leads to
    pub chosen_pair : (q : ℕ) (p : ℕ × K) (ps : List (ℕ × K)) (b : Limit) → all_pairs Q (p ∷ ps) b
        → chosen_in q (over_pairs f (p ∷ ps) b) ≡ (let c = choose p ps b q in chosen_in q (f c.what c.low c.high))
    unfolding all_pairs over_pairs next choose
    chosen_pair q p [] b a = rw append-nil
    chosen_pair q p (k ∷ ks) b a =
        let u = law p.1 p.0 (Below k.0) a.0 in
        let v = pairs-lined k ks b a.1 in
        chosen_join q (f p.1 p.0 (Below k.0)) (over_pairs f (k ∷ ks) b) k.0 b u.0 v.0 v.1
        ∙ by_test (leb k.0 q) (λ t. rw t (chosen_pair q k ks b a.1)) (λ t. rw t)

  -- Along the leaves -----------------------------------------------------------------------------------------

  -- by its own start a leaf is chosen
  own-from : (y : LeafAt) (post : List LeafAt) (b : Limit) → Lined (y ∷ post) b → chosen_from y.low y post ≡ y
  unfolding chosen_from Lined
  own-from y [] b g = refl
  own-from y (z ∷ zs) b g = rw (lt-leb z.low y.low g.1.1.0)

  before : (x : LeafAt) (pre : List LeafAt) (y : LeafAt) (post : List LeafAt) (b : Limit) → Lined (x ∷ (pre ++ (y ∷ post))) b → x.low < y.low
  unfolding Lined
  before x [] y post b g = g.1.1.0
  before x (z ∷ pre) y post b g = omega (arith, g.1.1.0, before z pre y post b g.1.1.1)

  own-after : (x : LeafAt) (pre : List LeafAt) (y : LeafAt) (post : List LeafAt) (b : Limit) → Lined (x ∷ (pre ++ (y ∷ post))) b → chosen_from y.low x (pre ++ (y ∷ post)) ≡ y
  unfolding chosen_from Lined
  own-after x [] y post b g = rw (le-leb y.low y.low (omega arith)) (own-from y post b g.1.1.1)
  own-after x (z ∷ pre) y post b g = rw (le-leb z.low y.low (omega (arith, before z pre y post b g.1.1.1))) (own-after z pre y post b g.1.1.1)

  pub own : (pre : List LeafAt) (y : LeafAt) (post : List LeafAt) (b : Limit) → Lined (pre ++ (y ∷ post)) b → chosen_in y.low (pre ++ (y ∷ post)) ≡ y
  unfolding chosen_in
  own [] y post b g = own-from y post b g
  own (x ∷ pre) y post b g = own-after x pre y post b g

  -- the chosen leaf with what stands before and after it
  pub record Split (q : ℕ) (ls : List LeafAt) (x : LeafAt) : Type 0 where
    pub pre : List LeafAt
    pub post : List LeafAt
    pub is : ls ≡ pre ++ (x ∷ post)
    -- not above q, but for the first; what follows is above
    pub low : (pre ≡ []) ⊎ (x.low ≤ q)
    pub high : (post ≡ []) ⊎ (q < low_of post)

  split-low : (q : ℕ) (x : LeafAt) (xs : List LeafAt) → x.low ≤ q → (chosen_from q x xs).low ≤ q
  unfolding chosen_from
  split-low q x [] h = h
  split-low q x (y ∷ ys) h = by_test (leb y.low q) (λ t. rw t (split-low q y ys (leb-true y.low q t))) (λ t. rw t h)

  split_from : (q : ℕ) (x : LeafAt) (xs : List LeafAt) → Split q (x ∷ xs) (chosen_from q x xs)
  unfolding chosen_from low_of
  split_from q x [] = record { pre = []; post = []; is = refl; low = inl refl; high = inl refl }
  split_from q x (y ∷ ys) =
      by_test (leb y.low q)
      (λ t. rw t (let s = split_from q y ys in
      record { pre = x ∷ s.pre; post = s.post; is = ap (λ (l : List LeafAt). x ∷ l) s.is; low = inr (split-low q y ys (leb-true y.low q t)); high = s.high }))
      (λ t. rw t (record { pre = []; post = y ∷ ys; is = refl; low = inl refl; high = inr (leb-false y.low q t) }))

  pub split : (q : ℕ) (ls : List LeafAt) (b : Limit) → Lined ls b → Split q ls (chosen_in q ls)
  unfolding chosen_in Lined
  split q [] b g = absurd g
  split q (x ∷ xs) b g = split_from q x xs

  -- at or below the start: the first leaf
  pub first-chosen : (q : ℕ) (x : LeafAt) (xs : List LeafAt) (b : Limit) → Lined (x ∷ xs) b → q ≤ x.low → chosen_in q (x ∷ xs) ≡ x
  unfolding chosen_in chosen_from Lined
  first-chosen q x [] b g h = refl
  first-chosen q x (y ∷ ys) b g h = rw (lt-leb y.low q (omega (arith, g.1.1.0)))
