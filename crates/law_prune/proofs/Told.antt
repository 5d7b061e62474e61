-- The list against the entries of a ledger's ranges is the ledger's cut.
use Prim.Native.Nat.{ℕ, suc, ◌+◌, ◌≤◌}
use mathlib.Core.List.{List, [], ◌∷◌}
use mathlib.Core.Bool.{false, ◌||◌}
use mathlib.Core.Path.{◌≡◌, refl, sym, ap, ◌∙◌}
use native.Mathlib.Omega.{arith}
use native.Mathlib.Nat.{add-zero}
use lib.ListN.{length, drop}
use lib.Dec.{leb, eqb}
use borrow.Author.Tests.{eqb-true}
use Rattle.model.specs.Words.{pick}
use Rattle.model.specs.Tree.{Below}
use Rattle.model.specs.Reading.{Entry}
use Rattle.model.specs.Prune.{Scan, stopped, on, against, ran_out}
use Rattle.model.specs.Ledger.{Range, Ledger, Cut, refuses, leaves, cut_from, ledger_cut}
use Rattle.model.proofs.Tests.{by_test}
use Rattle.law_formed.specs.Holds.{entries_from}
use Rattle.law_formed.proofs.Linked.{Run, none, more}
use Rattle.law_prune.proofs.Check.{run, run-stopped, run-used}

-- what the check says, where the ledger's cut is known
unfoldable pub Told : ℕ → ℕ → ℕ → List ℕ → List Range → Cut → Scan → Type 0
Told e s p ids gs (refuses a d) x = x ≡ stopped a d
Told e s p ids gs (leaves rest) x = (x ≡ on [] (p + length ids) e) × (entries_from e rest ≡ drop (length ids) (entries_from s gs))

told_more : (e s p x : ℕ) (ids : List ℕ) (g : Range) (gs : List Range) (c : Cut) (y : Scan) → Told e g.end (p + 1) ids gs c y → Told e s p (x ∷ ids) (g ∷ gs) c y
unfolding Told entries_from
told_more e s p x ids g gs (refuses a d) y q = q
told_more e s p x ids g gs (leaves rest) y q = let n : p + 1 + length ids ≡ p + suc (length ids) = omega arith in (q.0 ∙ ap (λ (k : ℕ). on [] k e) n, q.1)

pub no_entries_lem : (s : ℕ) → entries_from s [] ≡ []
unfolding entries_from
no_entries_lem s = refl

run_step : (e s p x : ℕ) (ids : List ℕ) (g : Range) (gs : List Range) → run e (entries_from s (g ∷ gs)) (on (x ∷ ids) p s)
    ≡ run e (entries_from g.end gs) (pick (eqb g.page x) (pick (leb g.end e) (on ids (p + 1) g.end) (stopped 10 p)) (stopped 9 p))
unfolding run entries_from against
run_step e s p x ids g gs = refl

-- the law
pub told : (e s p : ℕ) (ids : List ℕ) (gs : List Range) → Told e s p ids gs (cut_from e p s ids gs) (ran_out e (run e (entries_from s gs) (on ids p s)))
unfolding Told cut_from ran_out run
told e s p [] gs =
    rw (run-used e (entries_from s gs) p s)
    (by_test (eqb s e)
    (λ t. let q = eqb-true s e t in rw t (ap (on [] p) q ∙ rw add-zero, ap (λ (k : ℕ). entries_from k gs) (sym q)))
    (λ t. rw t refl))
told e s p (x ∷ ids) [] = rw (no_entries_lem s) refl
told e s p (x ∷ ids) (g ∷ gs) =
    rw (run_step e s p x ids g gs)
    (by_test (eqb g.page x)
    (λ t. by_test (leb g.end e)
    (λ u. rw (t, u) (told_more e s p x ids g gs (cut_from e (p + 1) g.end ids gs) (ran_out e (run e (entries_from g.end gs) (on ids (p + 1) g.end))) (told e g.end (p + 1) ids gs)))
    (λ u. rw (t, u, run-stopped) refl))
    (λ t. rw (t, run-stopped) refl))

-- no range is left to name
pub past_all : (e s : ℕ) (ids : List ℕ) (gs : List Range) → eqb (length ids) 0 ≡ false → entries_from s gs ≡ [] → cut_from e 0 s ids gs ≡ refuses 11 0
unfolding cut_from entries_from
past_all e s [] gs z p = let n : ◌≡◌ {A = ℕ} 0 1 = cc in absurd (omega arith)
past_all e s (x ∷ ids) [] z p = refl
past_all e s (x ∷ ids) (g ∷ gs) z p = let n : ◌≡◌ {A = ℕ} 0 1 = cc in absurd (omega arith)

-- the numbers of its refusals
cut-numbers : (e p c : ℕ) (ids : List ℕ) (gs : List Range) (a d : ℕ) → cut_from e p c ids gs ≡ refuses a d → (9 ≤ a) × (a ≤ 11)
unfolding cut_from
cut-numbers e p c [] gs a d =
    by_test (eqb c e) (λ t. rw t (λ q. let z : ◌≡◌ {A = ℕ} 0 1 = cc in absurd (omega arith))) (λ t. rw t (λ q. let z : 10 ≡ a = cc in (omega arith, omega arith)))
cut-numbers e p c (x ∷ ids) [] a d = λ q. let z : 11 ≡ a = cc in (omega arith, omega arith)
cut-numbers e p c (x ∷ ids) (g ∷ gs) a d =
    by_test (eqb g.page x)
    (λ t. by_test (leb g.end e)
    (λ u. rw (t, u) (cut-numbers e (p + 1) g.end ids gs a d))
    (λ u. rw (t, u) (λ q. let z : 10 ≡ a = cc in (omega arith, omega arith))))
    (λ t. rw t (λ q. let z : 9 ≡ a = cc in (omega arith, omega arith)))

pub ledger-numbers : (l : Ledger) (s e : ℕ) (ids : List ℕ) (a d : ℕ) → ledger_cut l s e ids ≡ refuses a d → (7 ≤ a) × (a ≤ 11)
unfolding ledger_cut
ledger-numbers l s e ids a d =
    by_test (eqb (length ids) 0 || leb e s)
    (λ t. rw t (λ q. let z : 7 ≡ a = cc in (omega arith, omega arith)))
    (λ t. by_test (eqb s l.start)
    (λ u. rw (t, u) (λ q. let n = cut-numbers e 0 l.start ids l.ranges a d q in (omega (arith, n.0), n.1)))
    (λ u. rw (t, u) (λ q. let z : 8 ≡ a = cc in (omega arith, omega arith))))

-- entries that follow each other are ranges
pub run-ranges : (r : ℕ) (es : List Entry) (z : ℕ) → Run r es z → (gs : List Range) × (es ≡ entries_from r gs)
unfolding entries_from
run-ranges _ _ _ (none r) = ([], refl)
run-ranges _ _ _ (more r x z page es l t) =
    let q = run-ranges x es z t in
    (record { end = x; page = page } ∷ q.0, ap (λ (l : List Entry). record { low = r; high = Below x; page = page } ∷ l) q.1)
