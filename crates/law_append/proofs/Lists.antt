-- Laws of lists of pairs: one more at the end, another last one.
use Prim.Native.Nat.{ℕ, suc, ◌+◌, ◌<◌}
use mathlib.Core.List.{List, [], ◌∷◌, ◌++◌, append-nil, append_assoc}
use mathlib.Core.Bool.{Bool, true, false, ◌||◌}
use mathlib.Core.Path.{◌≡◌, refl, sym, ap, ◌∙◌}
use native.Mathlib.Omega.{arith}
use lib.ListN.{length}
use lib.Dec.{T, ltb, eqb, lt→ltb}
use Rattle.model.specs.Tree.{Limit, Below, next, over_pairs, all_pairs, Under}
use Rattle.model.specs.Reading.{occ, in_pairs}
use Rattle.model.proofs.Tests.{and_l, and_r, both}
use Rattle.model.proofs.Sound.{rises, rows}
use Rattle.model.proofs.Frame.{occ-append}
use Rattle.law_append.specs.Grown.{on_last}
use Rattle.law_append.proofs.Right.{AtLast}

pub or_l : (a b : Bool) → T a → T (a || b)
or_l true b t = tt
or_l false b t = absurd t

pub or_r : (a b : Bool) → T b → T (a || b)
or_r true b t = tt
or_r false b t = t

module _ {K : Type 0} where
  pub all_snoc : (Q : K → ℕ → Limit → Type 0) (s : ℕ) (y : K) (b : Limit) → Q y s b → (ks : List (ℕ × K)) → all_pairs Q ks (Below s) → all_pairs Q (ks ++ ((s, y) ∷ [])) b
  unfolding all_pairs next
  all_snoc Q s y b q [] a = (q, tt)
  all_snoc Q s y b q (k ∷ []) a = (a.0, (q, tt))
  all_snoc Q s y b q (k ∷ k₂ ∷ ks) a = (a.0, all_snoc Q s y b q (k₂ ∷ ks) a.1)

  -- another bound, by what is known of the last child
  pub all-close : (Q : K → ℕ → Limit → Type 0) (R : K → Type 0) (b c : Limit) → ((x : K) (r : ℕ) → Q x r b → R x → Q x r c) → (ks : List (ℕ × K)) → all_pairs Q ks b → AtLast R ks → all_pairs Q ks c
  unfolding all_pairs next AtLast
  all-close Q R b c f [] a l = tt
  all-close Q R b c f (k ∷ []) a l = (f k.1 k.0 a.0 l, tt)
  all-close Q R b c f (k ∷ k₂ ∷ ks) a l = (a.0, all-close Q R b c f (k₂ ∷ ks) a.1 l)

  pub all-on-last : (Q : K → ℕ → Limit → Type 0) (R : K → Type 0) (g : K → K) (b : Limit) → ((x : K) (r : ℕ) → Q x r b → R x → Q (g x) r b) → (ks : List (ℕ × K)) → all_pairs Q ks b → AtLast R ks → all_pairs Q (on_last g ks) b
  unfolding all_pairs next AtLast on_last
  all-on-last Q R g b f [] a l = tt
  all-on-last Q R g b f (k ∷ []) a l = (f k.1 k.0 a.0 l, tt)
  all-on-last Q R g b f (k ∷ k₂ ∷ []) a l = (a.0, (f k₂.1 k₂.0 a.1.0 l, tt))
  all-on-last Q R g b f (k ∷ k₂ ∷ k₃ ∷ ks) a l = (a.0, all-on-last Q R g b f (k₂ ∷ k₃ ∷ ks) a.1 l)

  pub at_both : (R S : K → Type 0) (ks : List (ℕ × K)) → AtLast R ks → AtLast S ks → AtLast (λ x. R x × S x) ks
  unfolding AtLast
  at_both R S [] a b = a
  at_both R S (k ∷ []) a b = (a, b)
  at_both R S (k ∷ k₂ ∷ ks) a b = at_both R S (k₂ ∷ ks) a b

  module _ {A : Type 0} (f : K → ℕ → Limit → List A) where
    pub over_snoc : (s : ℕ) (y : K) (b : Limit) (ks : List (ℕ × K)) → over_pairs f (ks ++ ((s, y) ∷ [])) b ≡ over_pairs f ks (Below s) ++ f y s b
    unfolding over_pairs next
    over_snoc s y b [] = append-nil _
    over_snoc s y b (k ∷ []) = rw (append-nil, append-nil)
    over_snoc s y b (k ∷ k₂ ∷ ks) = ap (λ (l : List A). f k.1 k.0 (Below k₂.0) ++ l) (over_snoc s y b (k₂ ∷ ks)) ∙ sym (append_assoc (f k.1 k.0 (Below k₂.0)) (over_pairs f (k₂ ∷ ks) (Below s)) (f y s b))

    pub over-bound : (b c : Limit) → ((x : K) (r : ℕ) → f x r b ≡ f x r c) → (ks : List (ℕ × K)) → over_pairs f ks b ≡ over_pairs f ks c
    unfolding over_pairs next
    over-bound b c e [] = refl
    over-bound b c e (k ∷ []) = rw (e k.1 k.0)
    over-bound b c e (k ∷ k₂ ∷ ks) = rw (over-bound b c e (k₂ ∷ ks))

    pub over-on-last : (R : K → Type 0) (g : K → K) (b : Limit) (z : List A) → ((x : K) (r : ℕ) → R x → f (g x) r b ≡ f x r b ++ z) → (ks : List (ℕ × K)) → AtLast R ks → over_pairs f (on_last g ks) b ≡ over_pairs f ks b ++ z
    unfolding over_pairs next AtLast on_last
    over-on-last R g b z e [] l = absurd l
    over-on-last R g b z e (k ∷ []) l = rw (append-nil, append-nil) (e k.1 k.0 l)
    over-on-last R g b z e (k ∷ k₂ ∷ []) l = rw (append-nil, append-nil, e k₂.1 k₂.0 l, append_assoc)
    over-on-last R g b z e (k ∷ k₂ ∷ k₃ ∷ ks) l = ap (λ (l : List A). f k.1 k.0 (Below k₂.0) ++ l) (over-on-last R g b z e (k₂ ∷ k₃ ∷ ks) l) ∙ sym (append_assoc (f k.1 k.0 (Below k₂.0)) (over_pairs f (k₂ ∷ k₃ ∷ ks) b) z)

  pub occ-on-last : (f : K → List ℕ) (R : K → Type 0) (g : K → K) (m z : ℕ) → ((x : K) → R x → occ m (f (g x)) ≡ occ m (f x) + z) → (ks : List (ℕ × K)) → AtLast R ks → occ m (in_pairs f (on_last g ks)) ≡ occ m (in_pairs f ks) + z
  unfolding in_pairs AtLast on_last
  occ-on-last f R g m z e [] l = absurd l
  occ-on-last f R g m z e (k ∷ []) l = rw (append-nil, append-nil) (e k.1 l)
  occ-on-last f R g m z e (k ∷ k₂ ∷ ks) l =
      omega (arith, occ-append m (f k.1) (in_pairs f (on_last g (k₂ ∷ ks))), occ-append m (f k.1) (in_pairs f (k₂ ∷ ks)), occ-on-last f R g m z e (k₂ ∷ ks) l)

  pub length-on-last : (g : K → K) (ks : List (ℕ × K)) → length (on_last g ks) ≡ length ks
  unfolding on_last
  length-on-last g [] = refl
  length-on-last g (k ∷ []) = refl
  length-on-last g (k ∷ k₂ ∷ ks) = ap suc (length-on-last g (k₂ ∷ ks))

  module _ (z : ℕ → Bool) where
    rises-on-last : (g : K → K) (r : ℕ) (ks : List (ℕ × K)) → rises z r (on_last g ks) ≡ rises z r ks
    unfolding on_last rises
    rises-on-last g r [] = refl
    rises-on-last g r (k ∷ []) = refl
    rises-on-last g r (k ∷ k₂ ∷ ks) = rw (rises-on-last g k.0 (k₂ ∷ ks))

    pub rows-on-last : (g : K → K) (r : ℕ) (ks : List (ℕ × K)) → rows z r (on_last g ks) ≡ rows z r ks
    unfolding on_last rows rises
    rows-on-last g r [] = refl
    rows-on-last g r (k ∷ []) = refl
    rows-on-last g r (k ∷ k₂ ∷ ks) = rw (rises-on-last g k.0 (k₂ ∷ ks))

  -- rows below s, by what is known of the pairs
  module _ (Q : K → ℕ → Limit → Type 0) (below : (x : K) (r : ℕ) (b : Limit) → Q x r b → Under r b) (z y : ℕ → Bool) (s : ℕ) where
    rises_to : ((l : ℕ) → l < s → T (z l) → T (y l)) → (k : ℕ × K) (ks : List (ℕ × K)) → all_pairs Q (k ∷ ks) (Below s) → T (rises z k.0 ks) → T (rises y k.0 ks)
    unfolding rises all_pairs next Under
    rises_to f k [] a t = f k.0 (below k.1 k.0 (Below s) a.0) t
    rises_to f k (k₂ ∷ ks) a t = both (ltb k.0 k₂.0) (rises y k₂.0 ks) (and_l (ltb k.0 k₂.0) (rises z k₂.0 ks) t) (rises_to f k₂ ks a.1 (and_r (ltb k.0 k₂.0) (rises z k₂.0 ks) t))

    pub rows_to : ((l : ℕ) → l < s → T (z l) → T (y l)) → (r : ℕ) (ks : List (ℕ × K)) → all_pairs Q ks (Below s) → T (rows z r ks) → T (rows y r ks)
    unfolding rows
    rows_to f r [] a t = absurd t
    rows_to f r (k ∷ ks) a t = both (eqb k.0 r) (rises y k.0 ks) (and_l (eqb k.0 r) (rises z k.0 ks) t) (rises_to f k ks a (and_r (eqb k.0 r) (rises z k.0 ks) t))

    rises_snoc : (x : K) → T (y s) → (k : ℕ × K) (ks : List (ℕ × K)) → all_pairs Q (k ∷ ks) (Below s) → T (rises z k.0 ks) → T (rises y k.0 (ks ++ ((s, x) ∷ [])))
    unfolding rises all_pairs next Under
    rises_snoc x u k [] a t = both (ltb k.0 s) (y s) (lt→ltb k.0 s (below k.1 k.0 (Below s) a.0)) u
    rises_snoc x u k (k₂ ∷ ks) a t = both (ltb k.0 k₂.0) (rises y k₂.0 (ks ++ ((s, x) ∷ []))) (and_l (ltb k.0 k₂.0) (rises z k₂.0 ks) t) (rises_snoc x u k₂ ks a.1 (and_r (ltb k.0 k₂.0) (rises z k₂.0 ks) t))

    pub rows_snoc : (x : K) → T (y s) → (r : ℕ) (ks : List (ℕ × K)) → all_pairs Q ks (Below s) → T (rows z r ks) → T (rows y r (ks ++ ((s, x) ∷ [])))
    unfolding rows
    rows_snoc x u r [] a t = absurd t
    rows_snoc x u r (k ∷ ks) a t = both (eqb k.0 r) (rises y k.0 (ks ++ ((s, x) ∷ []))) (and_l (eqb k.0 r) (rises z k.0 ks) t) (rises_snoc x u k ks a (and_r (eqb k.0 r) (rises z k.0 ks) t))
