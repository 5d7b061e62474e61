-- Release of a store that holds a ledger: the ledger's pages are handed out, and every node is free.
use Prim.Native.Nat.{ℕ, suc, ◌+◌, ◌<◌, ◌≤◌}
use mathlib.Core.List.{List, [], ◌∷◌, ◌++◌, map, reverse}
use mathlib.Core.Path.{◌≡◌, refl, sym, ap, ◌∙◌, subst}
use native.Mathlib.Omega.{arith}
use lib.ListN.{length, set, drop, length-set}
use lib.Seq.{get_or-set_same, get_or-set_other}
use lib.Dec.{ltb}
use borrow.Author.Tests.{le-leb, le-ltb, ltb-true, ltb-false}
use Rattle.model.specs.Words.{store_shape, Shape, lent, fill, word, pool, root, free_head, free_count, height, free_all, Header}
use Rattle.model.specs.Reading.{clear, Entry, page_ids, occ, root_entries, root_nodes}
use Rattle.model.specs.Refusals.{Answer, result}
use Rattle.model.specs.WellFormed.{Chain, WellFormed}
use Rattle.model.specs.Ledger.{Range, Ledger, walk_from, ledger_walk}
use Rattle.model.specs.Release.{Released, first_low, released_words, destroy}
use Rattle.model.proofs.Tests.{by_test}
use Rattle.model.proofs.Frame.{occ-append}
use Rattle.model.proofs.Writes.{set_keeps, free-all-length, free-all-word, free-all-count, chain_same}
use Rattle.law_formed.specs.Holds.{entries_from, Holds}
use Rattle.law_formed.proofs.Bridge.{beyond}
use Rattle.law_formed.proofs.Counting.{long}
use Rattle.law_formed.proofs.Entries.{from-length}
use Rattle.law_formed.proofs.Opens.{sum, goes_on}
use Rattle.law_formed.proofs.Rooted.{sound-root}
use Rattle.law_prune.proofs.CutTree.{occ-reverse}
use Rattle.law_prune.proofs.PruneTree.{chain-free-all}
use Rattle.call_release.specs.Ledgers.{AtOrAbove, Releases}
use Rattle.model.proofs.Fill.{fill_is}

-- Entries of a ledger -------------------------------------------------------------------------------------

none-low : (v s : ℕ) (gs : List Range) → AtOrAbove v (walk_from s gs) → first_low v (entries_from s gs) ≡ clear
unfolding AtOrAbove walk_from first_low entries_from
none-low v s [] a = refl
none-low v s (g ∷ gs) a = rw (le-ltb s v a.0) (none-low v g.end gs a.1)

abbrev pages_in : List Range → List ℕ
pages_in gs = map (λ (g : Range). g.page) gs

ids-are : (s : ℕ) (gs : List Range) → page_ids (entries_from s gs) ≡ pages_in gs
unfolding entries_from
ids-are s [] = refl
ids-are s (g ∷ gs) = ap (λ (l : List ℕ). g.page ∷ l) (ids-are g.end gs)

pages-length : (gs : List Range) → length (pages_in gs) ≡ length gs
pages-length [] = refl
pages-length (g ∷ gs) = ap suc (pages-length gs)

-- The words afterwards ------------------------------------------------------------------------------------

module _ (w : List ℕ) (F : WellFormed lent w) where
  abbrev C : Shape
  C = store_shape lent w

  abbrev P : ℕ
  P = pool w

  abbrev ns : List ℕ
  ns = root_nodes C w (root w)

  abbrev u : List ℕ
  u = free_all C w ns

  header : Header C.cap P w
  unfolding WellFormed
  header = F.fits

  abbrev old : List ℕ
  unfolding WellFormed
  old = F.chain

  none_out : (m : ℕ) → P ≤ m → occ m ns + occ m old ≡ 0
  unfolding WellFormed
  none_out m p = beyond C P w (height C w (root w)) (root w) F.is_open F.sound old F.linked m p

  each-once : (m : ℕ) → m < P → occ m ns + occ m old ≡ 1
  unfolding WellFormed
  each-once m p = F.once m p

  chained : Chain C P u (free_head u) (reverse ns ++ old)
  unfolding WellFormed
  chained =
      chain-free-all C P w ns old header
      (λ m p. by_test (ltb m P) (λ t. ltb-true m P t) (λ t. absurd (omega (arith, none_out m (ltb-false m P t)))))
      (λ m. by_test (ltb m P) (λ t. omega (arith, each-once m (ltb-true m P t))) (λ t. omega (arith, none_out m (ltb-false m P t))))
      F.linked

  occ-all : (m : ℕ) → occ m (reverse ns ++ old) ≡ occ m ns + occ m old
  occ-all m = omega (arith, occ-append m (reverse ns) old, occ-reverse m ns)

  -- a header word other than the root
  word_after : (i : ℕ) → (i ≡ 2 → ⊥) → word (set u 2 P) i ≡ word u i
  word_after i d = get_or-set_other u 2 i P 0 d

  module _ (l : Ledger) (H : Holds lent w l) (v : ℕ) (x : List ℕ) (above : AtOrAbove v (ledger_walk l)) (enough : length l.ranges ≤ length x) where
    es-are : root_entries C w (root w) ≡ entries_from l.start l.ranges
    es-are = H.entries

    many : length (root_entries C w (root w)) ≡ length l.ranges
    many = ap length es-are ∙ from-length l.start l.ranges

    done : destroy lent w v x ≡ record { answer = result (length ns ∷ length (root_entries C w (root w)) ∷ []); words = released_words C P w ns; list = fill x 0 (page_ids (root_entries C w (root w))) }
    unfolding destroy WellFormed ledger_walk
    done =
        goes_on lent w F (λ (a : Answer). let r : Released = record { answer = a; words = w; list = x } in r) _
        ∙ rw (
          sound-root C P w (root w) F.sound,
          ap (first_low v) es-are ∙ none-low v l.start l.ranges above,
          le-leb (length (root_entries C w (root w))) (length x) (omega (arith, many)),
          le-leb (free_count w + length ns) P (omega (arith, sum lent w F)),
        )

    ids : page_ids (root_entries C w (root w)) ≡ pages_in l.ranges
    ids = ap (λ (es : List Entry). page_ids es) es-are ∙ ids-are l.start l.ranges

    of_formed : Releases w l x (destroy lent w v x)
    unfolding released_words
    of_formed =
        rw done
        (record {
          answer = ap (λ (k : ℕ). result (length ns ∷ k ∷ [])) many;
          list =
              ap (fill x 0) ids ∙ fill_is x (pages_in l.ranges) (omega (arith, pages-length l.ranges))
              ∙ ap (λ (k : ℕ). pages_in l.ranges ++ drop k x) (pages-length l.ranges);
          chain = reverse ns ++ old;
          linked =
              subst (λ (k : ℕ). Chain C P (set u 2 P) k (reverse ns ++ old)) (sym (word_after 3 (λ e. omega arith)))
              (chain_same C P u (set u 2 P) (reverse ns ++ old) (free_head u) (λ m p. set_keeps C u 2 P m (omega arith)) chained);
          free = word_after 4 (λ e. omega arith) ∙ free-all-count C P w ns header ∙ omega (arith, sum lent w F);
          long = long (reverse ns ++ old) P (λ m p. omega (arith, occ-all m, none_out m p)) (λ m p. occ-all m ∙ each-once m p);
          once = λ m p. occ-all m ∙ each-once m p;
          closed =
              get_or-set_same u 2 P 0 (omega (arith, free-all-length C w ns, header.long))
              ∙ sym (word_after 1 (λ e. omega arith) ∙ free-all-word C w ns 1 (omega arith) (λ e. omega arith) (λ e. omega arith));
          same-capacity = word_after 0 (λ e. omega arith) ∙ free-all-word C w ns 0 (omega arith) (λ e. omega arith) (λ e. omega arith);
          same-pool = word_after 1 (λ e. omega arith) ∙ free-all-word C w ns 1 (omega arith) (λ e. omega arith) (λ e. omega arith);
          same_length = length-set u 2 P ∙ free-all-length C w ns;
        })

-- the law
pub releases : (w : List ℕ) (l : Ledger) → Holds lent w l → (v : ℕ) (x : List ℕ) → AtOrAbove v (ledger_walk l) → length l.ranges ≤ length x → Releases w l x (destroy lent w v x)
releases w l H v x above enough = of_formed w H.formed l H v x above enough
