-- Nodes taken from the chain.
use Prim.Native.Nat.{ℕ, zero, suc, ◌+◌, ◌-◌, ◌≤◌}
use mathlib.Core.List.{List, [], ◌∷◌, ◌++◌}
use mathlib.Core.Bool.{true}
use mathlib.Core.Path.{◌≡◌, refl, sym, ap, ◌∙◌}
use mathlib.Core.Logic.{◌≢◌}
use native.Mathlib.Omega.{arith}
use lib.ListN.{set, length, length-set}
use lib.Seq.{get_or-set_same, get_or-set_other}
use borrow.Author.Tests.{lt-ltb, le-leb, eq-eqb}
use Rattle.model.specs.Words.{Shape, word, free_head, free_count, part, height, count, child, row_place, child_place, Header, free_mark}
use Rattle.model.specs.Tree.{level}
use Rattle.model.specs.Reading.{occ}
use Rattle.model.specs.WellFormed.{Chain}
use Rattle.model.specs.Append.{firsts, past, chain_sound, taken}
use Rattle.model.proofs.Words.{set-part, header_at}
use Rattle.model.proofs.Frame.{occ-append, occ_self}
use Rattle.model.proofs.Writes.{pairs-same, occ_cons}
use Rattle.law_formed.proofs.Chains.{chain-low}
use Rattle.law_append.proofs.Right.{Inside, Distinct}

module _ (C : Shape) (w v : List ℕ) (k : ℕ) where
  pub taken-part : (n j : ℕ) → part C (taken C w v k) n j ≡ part C v n j
  unfolding taken
  taken-part n j = set-part C (set v 3 _) 4 _ n j (omega arith) ∙ set-part C v 3 _ n j (omega arith)

  -- header words other than the head and the count
  pub taken_word : (i : ℕ) → i ≢ 3 → i ≢ 4 → word (taken C w v k) i ≡ word v i
  unfolding taken
  taken_word i a b = get_or-set_other (set v 3 _) 4 i _ 0 b ∙ get_or-set_other v 3 i _ 0 a

  module _ (P : ℕ) (hd : Header C.cap P v) where
    pub taken-header : Header C.cap P (taken C w v k)
    unfolding taken
    taken-header = header_at C.cap P v (taken C w v k) hd (simp length-set)

    pub taken-head : free_head (taken C w v k) ≡ past C w (free_head w) k
    unfolding taken
    taken-head = get_or-set_other (set v 3 _) 4 3 _ 0 (omega arith) ∙ get_or-set_same v 3 _ 0 (omega (arith, hd.long))

    pub taken_free : free_count (taken C w v k) ≡ free_count w - k
    unfolding taken
    taken_free = get_or-set_same (set v 3 (past C w (free_head w) k)) 4 _ 0 (omega (arith, hd.long, length-set v 3 (past C w (free_head w) k)))

-- the same parts give the same tree
pub all-parts : (C : Shape) (w v : List ℕ) → ((n j : ℕ) → part C v n j ≡ part C w n j) → (h n : ℕ) → level C v h n ≡ level C w h n
unfolding level
all-parts C w v e zero n = refl
all-parts C w v e (suc h) n =
    rw (e n 0, e n 1, e n 2, e n 3, pairs-same C v w (level C v h) (level C w h) n n 0 (count C w n) (λ j a b. (e n (row_place j), e n (child_place j), all-parts C w v e h (child C v n j))))

module _ (C : Shape) (P : ℕ) (w : List ℕ) where
  -- the first k of the nodes ns
  pub record Taken (n k : ℕ) (ns : List ℕ) : Type 0 where
    pub rest : List ℕ
    pub whole : ns ≡ firsts C w n k ++ rest
    pub chain : Chain C P w (past C w n k) rest
    pub inside : Inside P (firsts C w n k)
    pub many : length (firsts C w n k) ≡ k

  pub chain-taken : (n k : ℕ) (ns : List ℕ) → k ≤ length ns → Chain C P w n ns → Taken n k ns
  unfolding Chain firsts past Inside
  chain-taken n zero ns l c = record { rest = ns; whole = refl; chain = c; inside = tt; many = refl }
  chain-taken n (suc k) [] l c = absurd (omega arith)
  chain-taken n (suc k) (m ∷ ms) l c =
      let t = chain-taken (count C w n) k ms (omega arith) (rw c.0 c.3) in
      record { rest = t.rest; whole = ap (λ (l : List ℕ). m ∷ l) t.whole ∙ ap (λ (a : ℕ). a ∷ (firsts C w (count C w n) k ++ t.rest)) (sym c.0); chain = t.chain; inside = (rw c.0 c.1, t.inside); many = ap suc t.many }

  -- the chain of a well-formed store passes the test of its first k nodes
  pub chain-passes : (k n : ℕ) (seen ns : List ℕ) → k ≤ length ns → Chain C P w n ns → ((m : ℕ) → occ m seen + occ m ns ≤ 1) → chain_sound C P w n seen k ≡ true
  unfolding chain_sound Chain
  chain-passes zero n seen ns l c d = refl
  chain-passes (suc k) n seen [] l c d = absurd (omega arith)
  chain-passes (suc k) n seen (m ∷ ms) l c d =
      rw (c.0, lt-ltb m P c.1, eq-eqb (height C w m) free_mark c.2, le-leb (count C w m) P (chain-low C P w (count C w m) ms c.3), eq-eqb (occ m seen) 0 (omega (arith, d m, occ_cons m m ms, occ_self m)))
      (chain-passes k (count C w m) (seen ++ (m ∷ [])) ms (omega arith) c.3 (λ j. omega (arith, d j, occ-append j seen (m ∷ []), occ_cons j m ms)))

-- each at most once
pub once-distinct : (ns : List ℕ) → ((m : ℕ) → occ m ns ≤ 1) → Distinct ns
unfolding Distinct
once-distinct [] o = tt
once-distinct (n ∷ ns) o = (omega (arith, o n, occ_cons n n ns, occ_self n), once-distinct ns (λ m. omega (arith, o m, occ_cons m n ns)))
