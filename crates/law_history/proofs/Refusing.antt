-- Which refusals a store that holds a ledger gives: never 1, 2 or 3; 6 at height 31 only; 5 for want of nodes; and a
-- refusal changes nothing that was lent.
use Prim.Native.Nat.{ℕ, ◌+◌, ◌<◌}
use mathlib.Core.List.{List, [], ◌∷◌}
use mathlib.Core.Bool.{Bool, true, false, ◌&&◌, ◌||◌}
use mathlib.Core.Path.{◌≡◌, refl, sym, ap, ◌∙◌}
use mathlib.Core.Logic.{⊎_elim}
use native.Mathlib.Omega.{arith}
use lib.ListN.{length, drop}
use lib.Dec.{leb, ltb, eqb}
use borrow.Author.Tests.{ltb-true, eqb-true}
use Rattle.model.specs.Words.{lent, pick, capacity, free_count, row_limit, max_height}
use Rattle.model.specs.Refusals.{Answer, result, refused}
use Rattle.model.specs.Append.{insert_row_page}
use Rattle.model.specs.Prune.{prune_checkpoint_prefix}
use Rattle.model.specs.Ledger.{Range, Ledger, find_from, ledger_find, ledger_end, Cut, refuses, leaves, cut_from, ledger_cut}
use Rattle.law_formed.specs.Holds.{Holds}
use Rattle.law_formed.proofs.Check.{accepted}
use Rattle.law_formed.proofs.FindLaw.{find_law}
use Rattle.law_append.specs.Inserted.{verdict}
use Rattle.law_ledger.specs.Sizes.{tree_height, needed_nodes}
use Rattle.law_ledger.specs.Laws.{PruneLaw}
use Rattle.law_ledger.proofs.Calls.{insert_law, prune_law}
use Rattle.law_history.specs.Calls.{Loan, Call, append, lookup, prune, seek_row, next_leaf, release, release_empty, check, Reply, reply}
use Rattle.law_history.proofs.Releasing.{Decided, below, short, good, decide, DecidedEmpty, filled, bare, decide_empty}
use Rattle.law_history.proofs.Next.{next-decide}
use Rattle.law_history.proofs.Among.{result-not}

pick-both : {A : Type 0} (Q : A → Type 0) (t : Bool) (a b : A) → (t ≡ true → Q a) → (t ≡ false → Q b) → Q (pick t a b)
pick-both Q true a b f g = f refl
pick-both Q false a b f g = g refl

-- Cuts: 7 to 11, or the ranges named go --------------------------------------------------------------------

unfoldable pub CutFits : List Range → Cut → Type 0
CutFits rest (refuses a d) = 6 < a
CutFits rest (leaves gs) = gs ≡ rest

cut-from : (e p c : ℕ) (ids : List ℕ) (gs : List Range) → CutFits (drop (length ids) gs) (cut_from e p c ids gs)
unfolding cut_from CutFits
cut-from e p c [] gs = pick-both (CutFits gs) (eqb c e) (leaves gs) (refuses 10 p) (λ t. refl) (λ t. omega arith)
cut-from e p c (x ∷ ids) [] = omega arith
cut-from e p c (x ∷ ids) (g ∷ gs) =
    pick-both (CutFits (drop (length ids) gs)) (eqb g.page x) _ (refuses 9 p)
    (λ t. pick-both (CutFits (drop (length ids) gs)) (leb g.end e) _ (refuses 10 p) (λ u. cut-from e (p + 1) g.end ids gs) (λ u. omega arith))
    (λ t. omega arith)

pub cut_fits : (l : Ledger) (s e : ℕ) (ids : List ℕ) → CutFits (drop (length ids) l.ranges) (ledger_cut l s e ids)
unfolding ledger_cut CutFits
cut_fits l s e ids =
    let Q = CutFits (drop (length ids) l.ranges) in
    pick-both Q (eqb (length ids) 0 || leb e s) (refuses 7 0) _ (λ t. omega arith)
    (λ t. pick-both Q (eqb s l.start) _ (refuses 8 l.start) (λ u. cut-from e 0 l.start ids l.ranges) (λ u. omega arith))

-- Appends: 4, 6, 5 -----------------------------------------------------------------------------------------

-- refusal a with detail d, in a tree of height h that needs n more nodes, with so many free
pub record Allowed (h n free a d : ℕ) : Type 0 where
  pub above : 3 < a
  pub six : a ≡ 6 → h ≡ max_height
  pub five : a ≡ 5 → (free < n) × (d ≡ n)

unfoldable AllowedAnswer : ℕ → ℕ → ℕ → Answer → Type 0
AllowedAnswer h n free (result v) = Unit {0}
AllowedAnswer h n free (refused a d) = Allowed h n free a d

both : (a b : Bool) → a && b ≡ true → (a ≡ true) × (b ≡ true)
both true true e = (refl, refl)
both true false e = (refl, e)
both false b e = (e, absurd (no_way e))
  where
    no_way : false ≡ true → ⊥
    no_way e = let f : ◌≡◌ {A = ℕ} 0 1 = cc in absurd (omega arith)

verdict_allowed : (k s h n free : ℕ) → AllowedAnswer h n free (verdict k s h n free)
unfolding verdict AllowedAnswer
verdict_allowed k s h n free =
    let Q = AllowedAnswer h n free in
    pick-both Q (eqb k 0 || ltb row_limit (s + k)) (refused 4 0) _
    (λ t. record { above = omega arith; six = λ e. absurd (omega arith); five = λ e. absurd (omega arith) })
    (λ t. pick-both Q (ltb h n && eqb h max_height) (refused 6 0) _
    (λ u. record { above = omega arith; six = λ e. eqb-true h max_height (both (ltb h n) (eqb h max_height) u).1; five = λ e. absurd (omega arith) })
    (λ u. pick-both Q (ltb free n) (refused 5 n) (result (s ∷ (s + k) ∷ n ∷ []))
    (λ v. record { above = omega arith; six = λ e. absurd (omega arith); five = λ e. (ltb-true free n v, refl) })
    (λ v. tt)))

-- Lookups are never refused --------------------------------------------------------------------------------

find-result : (s : ℕ) (gs : List Range) (q : ℕ) → (v : List ℕ) × (find_from s gs q ≡ result v)
unfolding find_from
find-result s [] q = ([], refl)
find-result s (g ∷ gs) q =
    pick-both (λ (a : Answer). (v : List ℕ) × (a ≡ result v)) (leb s q && ltb q g.end) (result (g.page ∷ [])) (find_from g.end gs q) (λ t. (g.page ∷ [], refl)) (λ t. find-result g.end gs q)

-- Every call -----------------------------------------------------------------------------------------------

module _ (w : List ℕ) (l : Ledger) (H : Holds lent w l) (m : Loan) where
  abbrev still : ℕ → ℕ → Reply
  still a d = record { answer = refused a d; words = w; loan = m }

  abbrev Fair : ℕ → ℕ → Type 0
  Fair a d = Allowed (tree_height lent w) (needed_nodes lent w) (free_count w) a d

  data Decides (c : Call) : Type 0 where
    accepts : (v : List ℕ) → (reply w m c).answer ≡ result v → Decides c
    refusing : (a d : ℕ) → Fair a d → reply w m c ≡ still a d → Decides c

  fair : (a d : ℕ) → 6 < a → Fair a d
  fair a d h = record { above = omega arith; six = λ e. absurd (omega arith); five = λ e. absurd (omega arith) }

  decides-append : (k x : ℕ) → Decides (append k x)
  unfolding reply AllowedAnswer
  decides-append k x =
      let L = insert_law lent w l H k x in
      go (verdict k (ledger_end l) (tree_height lent w) (needed_nodes lent w) (free_count w)) L.answer (verdict_allowed k (ledger_end l) (tree_height lent w) (needed_nodes lent w) (free_count w)) L.refusal
    where
      go : (a : Answer) → (insert_row_page lent w k x).answer ≡ a → AllowedAnswer (tree_height lent w) (needed_nodes lent w) (free_count w) a
          → ((b d : ℕ) → (insert_row_page lent w k x).answer ≡ refused b d → (insert_row_page lent w k x).words ≡ w) → Decides (append k x)
      go (result v) e q f = accepts v e
      go (refused a d) e q f = refusing a d q (rw (e, f a d e))

  decides-prune : (s e : ℕ) (ids : List ℕ) → Decides (prune s e ids)
  unfolding reply CutFits PruneLaw
  decides-prune s e ids = go (ledger_cut l s e ids) (cut_fits l s e ids) (prune_law lent w l H s e ids)
    where
      go : (c : Cut) → CutFits (drop (length ids) l.ranges) c → PruneLaw lent w e ids c (prune_checkpoint_prefix lent w s e ids) → Decides (prune s e ids)
      go (refuses a d) h p = refusing a d (fair a d h) (rw p)
      go (leaves gs) h p = accepts _ p.answer

  decides-release : (v : ℕ) → Decides (release v)
  unfolding reply
  decides-release v = go (decide w l H v m.pages)
    where
      go : Decided w l H v m.pages → Decides (release v)
      go (below r a e) = refusing 12 r (fair 12 r (omega arith)) (rw e)
      go (short a e) = refusing 13 (length l.ranges) (fair 13 (length l.ranges) (omega arith)) (rw e)
      go (good a e R) = accepts _ R.answer

  decides_empty : Decides release_empty
  unfolding reply
  decides_empty = go (decide_empty w l H)
    where
      go : DecidedEmpty w l H → Decides release_empty
      go (filled t e) = refusing 12 0 (fair 12 0 (omega arith)) (rw e)
      go (bare t e c) = accepts _ e

  decides-find : (q : ℕ) → Decides (lookup q)
  unfolding reply ledger_find
  decides-find q = let f = find-result l.start l.ranges q in accepts f.0 (find_law lent w l H q ∙ f.1)

  decides-check : Decides check
  unfolding reply
  decides-check = accepts _ (accepted lent w H.formed)

  decides-next : Decides next_leaf
  decides-next = ⊎_elim (λ e. refusing 13 (capacity w) (fair 13 (capacity w) (omega arith)) e) (λ a. accepts a.0 a.1) (next-decide w l H m)

  decides : (c : Call) → Decides c
  unfolding reply
  decides (append k x) = decides-append k x
  decides (lookup q) = decides-find q
  decides (prune s e ids) = decides-prune s e ids
  decides (seek_row q) = accepts [] refl
  decides next_leaf = decides-next
  decides (release v) = decides-release v
  decides release_empty = decides_empty
  decides check = decides-check

  -- a refusal is one of those allowed, and nothing changed
  pub refusal_is : (c : Call) (a d : ℕ) → (reply w m c).answer ≡ refused a d → Fair a d × (reply w m c ≡ still a d)
  refusal_is c a d e = go (decides c)
    where
      go : Decides c → Fair a d × (reply w m c ≡ still a d)
      go (accepts v r) = absurd (result-not v a d (sym r ∙ e))
      go (refusing b k f r) =
          let z : refused b k ≡ refused a d = sym (ap (λ (o : Reply). o.answer) r) ∙ e in
          let p : b ≡ a = cc in
          let q : k ≡ d = cc in
          rw (← p, ← q) (f, r)
