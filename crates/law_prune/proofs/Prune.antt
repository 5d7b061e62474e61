-- Prune on a well-formed store: an accepted one keeps it well-formed, and every answer is the ledger's.
use Prim.Native.Nat.{ℕ, suc, ◌+◌, ◌<◌, ◌≤◌}
use mathlib.Core.List.{List, [], ◌∷◌}
use mathlib.Core.Bool.{Bool, true, false, ◌||◌}
use mathlib.Core.Path.{◌≡◌, sym, ap, ◌∙◌}
use native.Mathlib.Omega.{arith}
use lib.ListN.{length, drop}
use lib.Dec.{leb, eqb}
use borrow.Author.Tests.{eqb-true, leb-false}
use Rattle.model.specs.Words.{Shape, root}
use Rattle.model.specs.Tree.{Open, Level, last, over_pairs}
use Rattle.model.specs.Reading.{Entry, entries}
use Rattle.model.specs.Refusals.{result, refused, Outcome}
use Rattle.model.specs.Prune.{Scan, on, ran_out, prune_scanned, prune_checkpoint_prefix}
use Rattle.model.specs.Ledger.{Range, Ledger, Cut, refuses, leaves, cut_from, ledger_cut}
use Rattle.model.proofs.Tests.{by_test}
use Rattle.law_formed.specs.Well.{Well}
use Rattle.law_formed.specs.Formed.{Blank, Whole, blank, held, tree_of, Formed}
use Rattle.law_formed.specs.Holds.{entries_from}
use Rattle.law_formed.proofs.Clean.{well-sound}
use Rattle.law_formed.proofs.Linked.{sound-linked}
use Rattle.law_prune.specs.Pruned.{Pruned, Accepts, Follows}
use Rattle.law_prune.proofs.Stay.{sound-starts}
use Rattle.law_prune.proofs.Check.{run}
use Rattle.law_prune.proofs.Call.{asked-blank, asked-held}
use Rattle.law_prune.proofs.Keeps.{or-false, fresh, accepted}
use Rattle.law_prune.proofs.Told.{Told, told, past_all, no_entries_lem, ledger-numbers, run-ranges}

no_result : {A : Type 0} (a d : ℕ) (xs : List ℕ) → refused a d ≡ result xs → A
no_result a d xs p = let z : ◌≡◌ {A = ℕ} 0 1 = cc in absurd (omega arith)

blank-entries : (P h : ℕ) (t : Level (suc h)) (r : ℕ) → Blank P h t r → entries (suc h) t r Open ≡ []
unfolding entries over_pairs
blank-entries P h t r b = ap (λ (ps : List (ℕ × Level h)). over_pairs (entries h) ps (last h t.end Open)) b.none

-- a store that holds ledger l
module _ (C : Shape) (P : ℕ) (w : List ℕ) (h : ℕ) (ns : List ℕ) (l : Ledger) (formed : Formed C P w h l.start ns)
    (holds : entries (suc h) (tree_of C w h) l.start Open ≡ entries_from l.start l.ranges) (s e : ℕ) (ids : List ℕ) where
  abbrev call : Outcome
  call = prune_checkpoint_prefix C.slots w s e ids

  abbrev r : ℕ
  r = l.start

  abbrev tree : Level (suc h)
  tree = tree_of C w h

  abbrev seventh : Bool
  seventh = eqb (length ids) 0 || leb e s

  -- on a root that holds entries, past refusals 7 and 8
  module _ (well : Well C P (suc h) tree r Open) (seven : seventh ≡ false) (eight : eqb s r ≡ true) where
    some : eqb (length ids) 0 ≡ false
    some = (or-false (eqb (length ids) 0) (leb e s) seven).0

    below : r < e
    below = omega (arith, leb-false e s (or-false (eqb (length ids) 0) (leb e s) seven).1, eqb-true s r eight)

    -- the check of the list
    abbrev checked : Scan
    checked = ran_out e (run e (entries (suc h) tree r Open) (on ids 0 0))

    asked : call ≡ prune_scanned C P w (root w) h e tree checked
    asked = asked-held C P w h r ns formed s e ids well ∙ rw (seven, eight)

    by_ranges : checked ≡ ran_out e (run e (entries_from r l.ranges) (on ids 0 r))
    by_ranges =
        ap (ran_out e)
        (fresh e r 0 (entries (suc h) tree r Open) (sound-starts C P (suc h) tree r Open (well-sound C P (suc h) tree r Open well)) ids some
        ∙ ap (λ (es : List Entry). run e es (on ids 0 r)) holds)

    follow : (c : Cut) → Told e r 0 ids l.ranges c checked → Follows C P w h r ns e ids c call
    unfolding Told Follows prune_scanned
    follow (refuses a d) q = asked ∙ rw q
    follow (leaves rest) q =
        let y : Accepts C P w h r ns e ids call = rw (asked, q.0) (accepted C P w h r ns formed well e ids below some [] (0 + length ids) e q.0) in
        (y, y.pruned.entries-left ∙ ap (drop (length ids)) holds ∙ sym q.1)

  answer_by : Whole C P h tree r → Follows C P w h r ns e ids (ledger_cut l s e ids) call
  unfolding Follows ledger_cut cut_from
  answer_by (blank b) =
      let asks = asked-blank C P w h r ns formed s e ids b in
      by_test seventh (λ t. rw t (asks ∙ rw t))
      (λ t. by_test (eqb s r)
      (λ u. rw (t, u, past_all e r ids l.ranges (or-false (eqb (length ids) 0) (leb e s) t).0 (sym holds ∙ blank-entries P h tree r b)) (asks ∙ rw (t, u)))
      (λ u. rw (t, u) (asks ∙ rw (t, u))))
  answer_by (held g) =
      let asks = asked-held C P w h r ns formed s e ids g in
      by_test seventh (λ t. rw t (asks ∙ rw t))
      (λ t. by_test (eqb s r)
      (λ u. rw (t, u) (follow g t u (cut_from e 0 r ids l.ranges) (rw (by_ranges g t u) (told e r 0 ids l.ranges))))
      (λ u. rw (t, u) (asks ∙ rw (t, u))))

  -- the answer is the ledger's
  pub prune-answer : Follows C P w h l.start ns e ids (ledger_cut l s e ids) (prune_checkpoint_prefix C.slots w s e ids)
  prune-answer = answer_by formed.whole

-- every well-formed store holds a ledger
whole-ranges : (C : Shape) (P h : ℕ) (t : Level (suc h)) (r : ℕ) → Whole C P h t r → (gs : List Range) × (entries (suc h) t r Open ≡ entries_from r gs)
whole-ranges C P h t r (blank b) = ([], blank-entries P h t r b ∙ sym (no_entries_lem r))
whole-ranges C P h t r (held g) = let k = sound-linked C P h t r Open (well-sound C P (suc h) t r Open g) in run-ranges r (entries (suc h) t r Open) k.end k.run

module _ (C : Shape) (P : ℕ) (w : List ℕ) (h r : ℕ) (ns : List ℕ) (formed : Formed C P w h r ns) where
  pub formed-ranges : (gs : List Range) × (entries (suc h) (tree_of C w h) r Open ≡ entries_from r gs)
  formed-ranges = whole-ranges C P h (tree_of C w h) r formed.whole

  abbrev ledger : Ledger
  ledger = record { start = r; ranges = formed-ranges.0 }

  module _ (e : ℕ) (ids : List ℕ) where
    accepted_by : (c : Cut) (o : Outcome) (xs : List ℕ) → Follows C P w h r ns e ids c o → o.answer ≡ result xs → Accepts C P w h r ns e ids o
    unfolding Follows
    accepted_by (refuses a d) o xs q p = no_result a d xs (sym (ap (λ (x : Outcome). x.answer) q) ∙ p)
    accepted_by (leaves gs) o xs q p = q.0

    refused_by : (c : Cut) (o : Outcome) (a d : ℕ) → Follows C P w h r ns e ids c o → o.answer ≡ refused a d → (c ≡ refuses a d) × (o.words ≡ w)
    unfolding Follows
    refused_by (refuses a₂ d₂) o a d q p =
        let z : refused a₂ d₂ ≡ refused a d = sym (ap (λ (x : Outcome). x.answer) q) ∙ p in
        let y : a₂ ≡ a = cc in
        let x : d₂ ≡ d = cc in
        (rw (y, x), ap (λ (x : Outcome). x.words) q)
    refused_by (leaves gs) o a d q p = no_result a d (length ids ∷ q.0.f ∷ q.0.l ∷ []) (sym p ∙ q.0.answer)

  module _ (s e : ℕ) (ids : List ℕ) where
    told_as : (o : Outcome) (k f l : ℕ) → o.answer ≡ result (k ∷ f ∷ l ∷ []) → Accepts C P w h r ns e ids o → (k ≡ length ids) × Pruned C P w h r ns e k f l o.words
    told_as o k f l p x =
        let q : result (length ids ∷ x.f ∷ x.l ∷ []) ≡ result (k ∷ f ∷ l ∷ []) = sym x.answer ∙ p in
        let a : length ids ≡ k = cc in
        let b : x.f ≡ f = cc in
        let c : x.l ≡ l = cc in
        (sym a, rw (← a, ← b, ← c) x.pruned)

    follows : Follows C P w h r ns e ids (ledger_cut ledger s e ids) (prune_checkpoint_prefix C.slots w s e ids)
    follows = prune-answer C P w h ns ledger formed formed-ranges.1 s e ids

    -- an accepted prune
    pub prune-keeps : (k f l : ℕ) → (prune_checkpoint_prefix C.slots w s e ids).answer ≡ result (k ∷ f ∷ l ∷ [])
        → (k ≡ length ids) × Pruned C P w h r ns e k f l (prune_checkpoint_prefix C.slots w s e ids).words
    prune-keeps k f l p = told_as (prune_checkpoint_prefix C.slots w s e ids) k f l p (accepted_by e ids (ledger_cut ledger s e ids) (prune_checkpoint_prefix C.slots w s e ids) (k ∷ f ∷ l ∷ []) follows p)

    -- a refused one changes nothing, and only 7 to 11 are refused: neither an unsound node nor the free count
    pub prune-refusals : (a d : ℕ) → (prune_checkpoint_prefix C.slots w s e ids).answer ≡ refused a d → (7 ≤ a) × (a ≤ 11) × ((prune_checkpoint_prefix C.slots w s e ids).words ≡ w)
    prune-refusals a d p =
        let q = refused_by e ids (ledger_cut ledger s e ids) (prune_checkpoint_prefix C.slots w s e ids) a d follows p in
        let n = ledger-numbers ledger s e ids a d q.0 in
        (n.0, n.1, q.1)
