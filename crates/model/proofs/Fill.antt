-- Laws of `fill`: the length, the parts, and the list afterwards.
use Prim.Native.Nat.{ℕ, suc, ◌+◌, ◌≤◌}
use mathlib.Core.Path.{◌≡◌, refl, sym, ◌∙◌, ap}
use mathlib.Core.List.{List, [], ◌∷◌, ◌++◌, append_assoc}
use native.Mathlib.Omega.{arith}
use native.Mathlib.Nat.{add-zero}
use lib.ListN.{length, set, drop, length-set, length-append}
use Rattle.model.specs.Words.{fill}

pub length-fill : {A : Type 0} (l : List A) (i : ℕ) (xs : List A) → length (fill l i xs) ≡ length l
unfolding fill
length-fill l i [] = refl
length-fill l i (x ∷ xs) = length-fill (set l i x) (i + 1) xs ∙ length-set l i x

pub fill_snoc : {A : Type 0} (l : List A) (i : ℕ) (xs : List A) (x : A) → fill l i (xs ++ (x ∷ [])) ≡ set (fill l i xs) (i + length xs) x
unfolding fill
fill_snoc l i [] x = rw add-zero
fill_snoc l i (y ∷ xs) x = let e : i + 1 + length xs ≡ i + suc (length xs) = omega arith in fill_snoc (set l i y) (i + 1) xs x ∙ rw e

pub fill-append : {A : Type 0} (l : List A) (a : ℕ) (xs ys : List A) → fill l a (xs ++ ys) ≡ fill (fill l a xs) (a + length xs) ys
unfolding fill
fill-append l a [] ys = ap (λ (k : ℕ). fill l k ys) (let e : a ≡ a + 0 = omega arith in e)
fill-append l a (x ∷ xs) ys =
    fill-append (set l a x) (a + 1) xs ys ∙ ap (λ (k : ℕ). fill (fill (set l a x) (a + 1) xs) k ys) (let e : a + 1 + length xs ≡ a + suc (length xs) = omega arith in e)

set_at : {A : Type 0} (a : List A) (y : A) (l : List A) (x : A) → set (a ++ (y ∷ l)) (length a) x ≡ (a ++ (x ∷ [])) ++ l
set_at [] y l x = refl
set_at (b ∷ a) y l x = ap (λ m. b ∷ m) (set_at a y l x)

fill-after : {A : Type 0} (a l xs : List A) → length xs ≤ length l → fill (a ++ l) (length a) xs ≡ a ++ (xs ++ drop (length xs) l)
unfolding fill
fill-after a l [] h = refl
fill-after a [] (x ∷ xs) h = absurd (omega arith)
fill-after a (y ∷ l) (x ∷ xs) h =
    ap (λ m. fill m (length a + 1) xs) (set_at a y l x)
    ∙ ap (λ (k : ℕ). fill ((a ++ (x ∷ [])) ++ l) k xs) (sym (length-append a (x ∷ [])))
    ∙ fill-after (a ++ (x ∷ [])) l xs (omega arith)
    ∙ append_assoc a (x ∷ []) (xs ++ drop (length xs) l)

-- the list afterwards: what went into it, and what stood behind
pub fill_is : {A : Type 0} (l xs : List A) → length xs ≤ length l → fill l 0 xs ≡ xs ++ drop (length xs) l
fill_is l xs h = fill-after [] l xs h
