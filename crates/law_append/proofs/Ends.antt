-- An append begins where the entries end.
use Prim.Native.Nat.{ℕ, zero, suc}
use mathlib.Core.List.{List, [], ◌∷◌, ◌++◌, append-nil}
use mathlib.Core.Path.{◌≡◌, refl, sym, ap, ◌∙◌}
use native.Mathlib.Omega.{arith}
use lib.ListN.{length}
use borrow.Author.Tests.{eq-eqb, ne_eqb}
use Rattle.model.specs.Words.{Shape, root, count, end, row, child}
use Rattle.model.specs.Tree.{Limit, Open, Below, Level, level, next, last, over_pairs, AllSound}
use Rattle.model.specs.Reading.{Entry, entries, to_right}
use Rattle.model.specs.Append.{append_start}
use Rattle.model.proofs.Frame.{length_pairs}
use Rattle.law_formed.specs.Formed.{Blank, Whole, blank, held, tree_of}
use Rattle.law_formed.proofs.Clean.{well-sound}
use Rattle.law_append.specs.Needed.{entries_end}
use Rattle.law_append.proofs.Right.{AtLast, right_at}
use Rattle.law_append.proofs.Last.{at-child, last-sound}
use Rattle.law_append.proofs.Edge.{right-some}

end-append : (q : ℕ) (a b : List Entry) → entries_end q (a ++ b) ≡ entries_end (entries_end q a) b
unfolding entries_end
end-append q [] b = refl
end-append q (e ∷ a) b = end-append _ a b

over-ends : {K : Type 0} (f : K → ℕ → Limit → List Entry) (R : K → Type 0) (b : Limit) (s : ℕ) → ((x : K) (r q : ℕ) → R x → entries_end q (f x r b) ≡ s)
    → (ks : List (ℕ × K)) → AtLast R ks → (q : ℕ) → entries_end q (over_pairs f ks b) ≡ s
unfolding over_pairs AtLast next
over-ends f R b s g [] l q = absurd l
over-ends f R b s g (k ∷ []) l q = rw (append-nil (f k.1 k.0 b)) (g k.1 k.0 q l)
over-ends f R b s g (k ∷ k₂ ∷ ks) l q =
    end-append q (f k.1 k.0 (Below k₂.0)) (over_pairs f (k₂ ∷ ks) b) ∙ over-ends f R b s g (k₂ ∷ ks) l (entries_end q (f k.1 k.0 (Below k₂.0)))

page-ends : (x r q e : ℕ) → entries_end q (entries 0 x r (Below e)) ≡ e
unfolding entries entries_end
page-ends x r q e = refl

module _ (C : Shape) (P : ℕ) (w : List ℕ) where
  -- the entries of a tree end with its right leaf
  tree-ends : (h n r i q : ℕ) (c b : Limit) → AllSound C P (suc h) (level C w (suc h) n) r c → entries_end q (entries (suc h) (level C w (suc h) n) i b) ≡ end C w (right_at C w h n)
  unfolding entries last right_at level
  tree-ends zero n r i q c b g =
      over-ends (entries 0) (λ (x : ℕ). Unit {0}) (Below (end C w n)) (end C w n) (λ x k z u. page-ends x k z (end C w n)) (level C w 1 n).pairs
      (at-child C P w 0 n r c g (λ (x : ℕ). Unit {0}) tt) q
  tree-ends (suc h) n r i q c b g =
      let m = child C w n (to_right C w n) in
      let s = end C w (right_at C w h m) in
      let R : Level (suc h) → Type 0 = λ x. (k z : ℕ) → entries_end z (entries (suc h) x k b) ≡ s in
      over-ends (entries (suc h)) R b s (λ x k z u. u k z) (level C w (suc (suc h)) n).pairs
      (at-child C P w (suc h) n r c g R (λ k z. tree-ends h m (row C w n (to_right C w n)) k z c b (last-sound C P w (suc h) n r c g))) q

-- an empty root has no pairs
pub blank-count : (C : Shape) (P : ℕ) (w : List ℕ) (h r : ℕ) → Blank P h (tree_of C w h) r → count C w (root w) ≡ 0
unfolding level
blank-count C P w h r b = sym (length_pairs C w (level C w h) (root w) 0 (count C w (root w))) ∙ ap length b.none

pub blank-entries : (C : Shape) (P : ℕ) (w : List ℕ) (h r : ℕ) → Blank P h (tree_of C w h) r → entries (suc h) (tree_of C w h) r Open ≡ []
unfolding entries over_pairs level
blank-entries C P w h r b = ap (λ ks. over_pairs (entries h) ks (last h (end C w (root w)) Open)) b.none

blank-start : (C : Shape) (P : ℕ) (w : List ℕ) (h r : ℕ) → Blank P h (tree_of C w h) r → append_start C w (root w) ≡ r
unfolding append_start level
blank-start C P w h r b = rw (eq-eqb (count C w (root w)) 0 (blank-count C P w h r b)) b.begin

pub blank-ends : (C : Shape) (P : ℕ) (w : List ℕ) (h r : ℕ) → Blank P h (tree_of C w h) r → entries_end r (entries (suc h) (tree_of C w h) r Open) ≡ r
unfolding entries_end
blank-ends C P w h r b = ap (entries_end r) (blank-entries C P w h r b)

-- the law
pub start-ends : (C : Shape) (P : ℕ) (w : List ℕ) (h r : ℕ) → Whole C P h (tree_of C w h) r → append_start C w (right_at C w h (root w)) ≡ entries_end r (entries (suc h) (tree_of C w h) r Open)
unfolding append_start right_at
start-ends C P w h r (held g) =
    let n = root w in
    let good = well-sound C P (suc h) (tree_of C w h) r Open g in
    rw (ne_eqb (count C w (right_at C w h n)) 0 (omega (arith, right-some C P w h n r Open good))) (sym (tree-ends C P w h n r r r Open Open good))
start-ends C P w h r (blank b) =
    ap (λ (a : ℕ). append_start C w (right_at C w a (root w))) b.leaf ∙ blank-start C P w h r b ∙ sym (blank-ends C P w h r b)
