-- A well-formed store holds exactly one ledger.
use Prim.Native.Nat.{ℕ, suc, ◌<◌, ◌≤◌}
use mathlib.Core.List.{List, [], ◌∷◌, ◌++◌}
use mathlib.Core.Path.{◌≡◌, refl, sym, ap, ap₂, ◌∙◌, subst}
use native.Mathlib.Omega.{arith}
use lib.ListN.{length}
use Rattle.model.specs.Words.{store_shape, Arrangement, shape, Shape, pool, root, height, start, row_limit}
use Rattle.model.specs.Tree.{Limit, Open, Below, Level, over_pairs}
use Rattle.model.specs.Reading.{Entry, entries, root_entries}
use Rattle.model.specs.WellFormed.{WellFormed}
use Rattle.model.specs.Ledger.{Range, Ledger, end_from}
use Rattle.law_formed.specs.Formed.{Whole, tree_of, Formed}
use Rattle.law_formed.specs.Holds.{entries_from, Holds}
use Rattle.law_formed.proofs.Clean.{well-sound}
use Rattle.law_formed.proofs.Linked.{Run, none, more, sound-linked}
use Rattle.law_formed.proofs.Bridge.{formed_of, formed-root, well-formed}

abbrev pub end_of : Limit → ℕ
end_of Open = 0
end_of (Below x) = x

-- entries as ranges
unfoldable pub ledger_of : List Entry → List Range
ledger_of [] = []
ledger_of (e ∷ es) = record { end = end_of e.high; page = e.page } ∷ ledger_of es

pub ledger-from : (s : ℕ) (gs : List Range) → ledger_of (entries_from s gs) ≡ gs
unfolding ledger_of entries_from
ledger-from s [] = refl
ledger-from s (g ∷ gs) = ap (λ (l : List Range). g ∷ l) (ledger-from g.end gs)

pub from-length : (s : ℕ) (gs : List Range) → length (entries_from s gs) ≡ length gs
unfolding entries_from
from-length s [] = refl
from-length s (g ∷ gs) = ap suc (from-length g.end gs)

pub from-append : (s : ℕ) (gs fs : List Range) → entries_from s (gs ++ fs) ≡ entries_from s gs ++ entries_from (end_from s gs) fs
unfolding entries_from end_from
from-append s [] fs = refl
from-append s (g ∷ gs) fs = ap (λ (t : List Entry). record { low = s; high = Below g.end; page = g.page } ∷ t) (from-append g.end gs fs)

run-ledger : (r z : ℕ) (es : List Entry) → Run r es z → entries_from r (ledger_of es) ≡ es
unfolding ledger_of entries_from
run-ledger _ _ _ (none r) = refl
run-ledger _ _ _ (more r x z page es l s) = ap (λ (t : List Entry). record { low = r; high = Below x; page = page } ∷ t) (run-ledger x z es s)

-- rows rise strictly from s on, and the last end is at most 2^62
unfoldable pub Rising : ℕ → List Range → Type 0
Rising s [] = s ≤ row_limit
Rising s (g ∷ gs) = (s < g.end) × Rising g.end gs

-- where the ranges end
pub rises-end : (s : ℕ) (gs : List Range) → Rising s gs → (s ≤ end_from s gs) × (end_from s gs ≤ row_limit)
unfolding Rising end_from
rises-end s [] u = (omega arith, u)
rises-end s (g ∷ gs) u = let z = rises-end g.end gs u.1 in (omega (arith, u.0, z.0), z.1)

run-rises : (r z : ℕ) (es : List Entry) → Run r es z → z ≤ row_limit → Rising r (ledger_of es)
unfolding ledger_of Rising
run-rises _ _ _ (none r) u = u
run-rises _ _ _ (more r x z page es l s) u = (l, run-rises x z es s u)

-- the entries of a whole tree: a run from its start
module _ (C : Shape) (P h : ℕ) (t : Level (suc h)) (r : ℕ) where
  pub whole_run : Whole C P h t r → (z : ℕ) × Run r (entries (suc h) t r Open) z × (z ≤ row_limit)
  unfolding entries over_pairs
  whole_run (Whole.blank b) = (r, rw b.none (none r), b.low)
  whole_run (Whole.held g) = let l = sound-linked C P h t r Open (well-sound C P (suc h) t r Open g) in (l.end, l.run, l.low)

  pub whole-ledger : Whole C P h t r → entries_from r (ledger_of (entries (suc h) t r Open)) ≡ entries (suc h) t r Open
  whole-ledger u = let z = whole_run u in run-ledger r z.0 (entries (suc h) t r Open) z.1

  pub whole-rises : Whole C P h t r → Rising r (ledger_of (entries (suc h) t r Open))
  whole-rises u = let z = whole_run u in run-rises r z.0 (entries (suc h) t r Open) z.1 z.2

-- the ledger of a store
abbrev pub ledger_at : Arrangement → List ℕ → Ledger
ledger_at L w = record { start = start (store_shape L w) w (root w); ranges = ledger_of (root_entries (store_shape L w) w (root w)) }

module _ (L : Arrangement) (w : List ℕ) where
  pub held : WellFormed L w → Holds L w (ledger_at L w)
  held F =
      record {
        formed = F;
        begin = refl;
        entries = sym (whole-ledger (store_shape L w) (pool w) (height (store_shape L w) w (root w)) _ (start (store_shape L w) w (root w)) (formed_of L w F).1.whole);
      }

  pub holds-is : (l : Ledger) → Holds L w l → ledger_at L w ≡ l
  holds-is l H =
      ap₂ (λ (s : ℕ) (gs : List Range). let k : Ledger = record { start = s; ranges = gs } in k) H.begin (ap ledger_of H.entries ∙ ledger-from l.start l.ranges)

  pub holds-one : (a b : Ledger) → Holds L w a → Holds L w b → a ≡ b
  holds-one a b x y = sym (holds-is a x) ∙ holds-is b y

  pub holds-rises : (l : Ledger) → Holds L w l → Rising l.start l.ranges
  holds-rises l H =
      subst (λ (k : Ledger). Rising k.start k.ranges) (holds-is l H)
      (whole-rises (store_shape L w) (pool w) (height (store_shape L w) w (root w)) _ (start (store_shape L w) w (root w)) (formed_of L w H.formed).1.whole)

-- From the working form and back -------------------------------------------------------------------------

module _ (C : Shape) (P : ℕ) (w : List ℕ) (h r : ℕ) (ns : List ℕ) (F : Formed C P w h r ns) where
  -- the root's entries, whatever names the store's parts
  pub formed-entries : root_entries (store_shape C.slots w) w (root w) ≡ entries (suc h) (tree_of C w h) r Open
  formed-entries =
      let R = formed-root C P w h r ns F in
      rw F.capacity-is (ap (λ (s : ℕ). entries (suc (height C w (root w))) (tree_of C w (height C w (root w))) s Open) R.begin ∙ ap (λ (k : ℕ). entries (suc k) (tree_of C w k) r Open) R.tall)

  pub formed-holds : (gs : List Range) → entries (suc h) (tree_of C w h) r Open ≡ entries_from r gs → Holds C.slots w (record { start = r; ranges = gs })
  formed-holds gs e =
      record {
        formed = well-formed C P w h r ns F;
        begin = ap (λ (x : ℕ). start (shape C.slots x) w (root w)) F.capacity-is ∙ (formed-root C P w h r ns F).begin;
        entries = formed-entries ∙ e;
      }

  pub holds-formed : (l : Ledger) → Holds C.slots w l → (l.start ≡ r) × (entries (suc h) (tree_of C w h) r Open ≡ entries_from r l.ranges)
  holds-formed l H =
      let s : l.start ≡ r = sym H.begin ∙ ap (λ (x : ℕ). start (shape C.slots x) w (root w)) F.capacity-is ∙ (formed-root C P w h r ns F).begin in
      (s, sym formed-entries ∙ H.entries ∙ ap (λ (x : ℕ). entries_from x l.ranges) s)
