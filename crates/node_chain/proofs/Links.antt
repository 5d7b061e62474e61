-- The chain of free nodes: what a walk of it has listed, and what one more link adds.
use Prim.Native.Nat.{ℕ, zero, suc, ◌+◌, ◌-◌, ◌<◌, ◌≤◌}
use mathlib.Core.List.{List, [], ◌∷◌, ◌++◌, append-nil, append_assoc}
use mathlib.Core.Bool.{Bool, true, false, false≢true, not}
use mathlib.Core.Path.{◌≡◌, refl, sym, ap, ◌∙◌}
use native.Mathlib.Omega.{arith}
use native.Mathlib.Nat.{add-zero, zero-add}
use native.Mathlib.Numerals.{add-one}
use lib.ListN.{get_or, set, take, length}
use lib.Seq.{get_or-set_same, get_or-set_other}
use lib.Dec.{eqb, leb, ltb, ltb→lt, leb→le, eqb→eq}
use borrow.Author.Tests.{lt-ltb, le-ltb, le-leb, eq-eqb, ne_eqb, eqb-true, eqb-false}
use Rattle.std.specs.List.{list_any}
use Rattle.model.specs.Words.{Shape, height, count, free_mark}
use Rattle.model.specs.Reading.{occ}
use Rattle.model.specs.Append.{chain_sound, firsts}
use Rattle.model.specs.declared.id.NodeNo.{NodeNo}
use Rattle.model.proofs.Tests.{and_l, and_r, holds, is_true, by_test}
use Rattle.node_chain.specs.Chain.{is_link, listed}
use Rattle.node_write.proofs.Turns.{turn, stop}

abbrev none : NodeNo
none = record { 0 = 0 }

-- Nodes listed -------------------------------------------------------------------------------------------

listed-turn : (l : List NodeNo) (i k : ℕ) → i < k → listed l i (k - i) ≡ (get_or l i none).0 ∷ listed l (i + 1) (k - (i + 1))
unfolding listed
listed-turn l i k h = turn (listed l i) i k h

-- one more at the end
listed_snoc : (l : List NodeNo) (i k : ℕ) → listed l i (suc k) ≡ listed l i k ++ ((get_or l (i + k) none).0 ∷ [])
unfolding listed
listed_snoc l i zero = rw add-zero
listed_snoc l i (suc k) = let q : i + 1 + k ≡ i + suc k = omega arith in ap (λ (z : List ℕ). (get_or l i none).0 ∷ z) (listed_snoc l (i + 1) k ∙ rw q)

listed-other : (l : List NodeNo) (j : ℕ) (n : NodeNo) (i k : ℕ) → i + k ≤ j → listed (set l j n) i k ≡ listed l i k
unfolding listed
listed-other l j n i zero h = refl
listed-other l j n i (suc k) h = rw (get_or-set_other l j i n none (omega arith), listed-other l j n (i + 1) k (omega arith))

pub listed-set : (l : List NodeNo) (i : ℕ) (n : NodeNo) → i < length l → listed (set l i n) 0 (i + 1) ≡ listed l 0 i ++ (n.0 ∷ [])
listed-set l i n h = rw (add-one, listed_snoc, listed-other l i n 0 i (omega arith), zero-add, get_or-set_same l i n none h)

listed-cons : (x : NodeNo) (l : List NodeNo) (i k : ℕ) → listed (x ∷ l) (i + 1) k ≡ listed l i k
unfolding listed
listed-cons x l i zero = refl
listed-cons x l i (suc k) =
    let e : get_or (x ∷ l) (i + 1) none ≡ get_or l i none = rw add-one in
    rw (e, listed-cons x l (i + 1) k)

-- whether n is among the first k nodes
pub occ_any : (n : ℕ) (l : List NodeNo) (k : ℕ) → k ≤ length l → not (list_any (λ (y : NodeNo). eqb y.0 n) (take k l)) ≡ eqb (occ n (listed l 0 k)) 0
unfolding occ listed
occ_any n l zero h = refl
occ_any n [] (suc k) h = absurd (omega arith)
occ_any n (x ∷ l) (suc k) h =
    by_test (eqb x.0 n)
    (λ t. let e : n ≡ x.0 = sym (eqb-true x.0 n t) in rw (t, eq-eqb n x.0 e) (sym (ne_eqb (1 + occ n (listed (x ∷ l) 1 k)) 0 (λ z. omega arith))))
    (λ f. let e : listed (x ∷ l) (0 + 1) k ≡ listed l 0 k = listed-cons x l 0 k in
    rw (f, ne_eqb n x.0 (λ e. eqb-false x.0 n f (sym e)), e, zero-add) (occ_any n l k (omega arith)))

-- The chain ----------------------------------------------------------------------------------------------

-- the test of one node
module _ (C : Shape) (P : ℕ) (w : List ℕ) (n : ℕ) where
  pub link-out : P ≤ n → false ≡ is_link C P w n
  link-out h = rw (le-ltb n P h)

  pub link_unmarked : eqb (height C w n) free_mark ≡ false → false ≡ is_link C P w n
  link_unmarked e = by_test (ltb n P) (λ t. rw (t, e)) (λ t. rw t)

  pub link-marked : n < P → eqb (height C w n) free_mark ≡ true → leb (count C w n) P ≡ is_link C P w n
  link-marked h e = rw (lt-ltb n P h, e)

-- node n may follow the nodes seen
pub record Link (C : Shape) (P : ℕ) (w : List ℕ) (n : ℕ) (seen : List ℕ) : Type 0 where
  pub inside : n < P
  pub marked : height C w n ≡ free_mark
  pub next : count C w n ≤ P
  pub new : eqb (occ n seen) 0 ≡ true

module _ (C : Shape) (P : ℕ) (w : List ℕ) (n : ℕ) (seen : List ℕ) where
  pub link : (k : ℕ) → chain_sound C P w n seen (suc k) ≡ true → Link C P w n seen
  unfolding chain_sound
  link k e =
      let t = holds (chain_sound C P w n seen (suc k)) e in
      record {
        inside = ltb→lt n P (search (and_l, and_r) depth 8);
        marked = eqb→eq (height C w n) free_mark (search (and_l, and_r) depth 8);
        next = leb→le (count C w n) P (search (and_l, and_r) depth 8);
        new = is_true (eqb (occ n seen) 0) (search (and_l, and_r) depth 8);
      }

  pub link_of : is_link C P w n ≡ true → eqb (occ n seen) 0 ≡ true → Link C P w n seen
  link_of e u =
      let t = holds (is_link C P w n) e in
      record {
        inside = ltb→lt n P (search (and_l, and_r) depth 8);
        marked = eqb→eq (height C w n) free_mark (search (and_l, and_r) depth 8);
        next = leb→le (count C w n) P (search (and_l, and_r) depth 8);
        new = u;
      }

  pub link-is : Link C P w n seen → is_link C P w n ≡ true
  link-is p = rw (lt-ltb n P p.inside, eq-eqb (height C w n) free_mark p.marked, le-leb (count C w n) P p.next)

  module _ (i k : ℕ) (h : i < k) where
    pub linked : Link C P w n seen → chain_sound C P w n seen (k - i) ≡ chain_sound C P w (count C w n) (seen ++ (n ∷ [])) (k - (i + 1))
    unfolding chain_sound
    linked p = turn (chain_sound C P w n seen) i k h ∙ rw (lt-ltb n P p.inside, eq-eqb (height C w n) free_mark p.marked, le-leb (count C w n) P p.next, p.new)

    pub unlinked : (Link C P w n seen → ⊥) → chain_sound C P w n seen (k - i) ≡ false
    unlinked f = turn (chain_sound C P w n seen) i k h ∙ by_test (chain_sound C P w n seen (suc (k - (i + 1)))) (λ e. absurd (f (link (k - (i + 1)) e))) (λ e. e)

module _ (C : Shape) (w : List ℕ) (n i k : ℕ) where
  pub firsts-turn : (seen : List ℕ) → i < k → seen ++ firsts C w n (k - i) ≡ (seen ++ (n ∷ [])) ++ firsts C w (count C w n) (k - (i + 1))
  unfolding firsts
  firsts-turn seen h = ap (λ (z : List ℕ). seen ++ z) (turn (firsts C w n) i k h) ∙ sym (append_assoc seen (n ∷ []) (firsts C w (count C w n) (k - (i + 1))))

  pub firsts-done : (seen : List ℕ) → k ≤ i → seen ++ firsts C w n (k - i) ≡ seen
  unfolding firsts
  firsts-done seen h = ap (λ (z : List ℕ). seen ++ z) (stop (firsts C w n) i k h) ∙ append-nil seen
