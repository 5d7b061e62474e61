-- Release on a store that holds a ledger: 12 and 13 as the ledger and the list decide, never 2.
use Prim.Native.Nat.{ℕ, ◌+◌}
use mathlib.Core.List.{List, [], ◌∷◌}
use mathlib.Core.Bool.{true, false}
use mathlib.Core.Path.{◌≡◌, refl, sym, ap, ◌∙◌, subst}
use native.Mathlib.Omega.{arith}
use lib.ListN.{length}
use lib.Dec.{leb, ltb, eqb}
use borrow.Author.Tests.{le-leb, le-ltb, leb-true, ltb-false, eqb-true, eqb-false}
use Rattle.model.specs.Words.{store_shape, lent, shape, pick, fill, capacity, pool, root, free_head, free_count, Header}
use Rattle.model.specs.Reading.{Fault, clear, at, unless_bad, page_ids, root_entries, root_nodes}
use Rattle.model.specs.Refusals.{Answer, result, refused, Outcome}
use Rattle.model.specs.WellFormed.{Chain, WellFormed}
use Rattle.model.specs.Ledger.{Range, Ledger, walk_from, ledger_walk}
use Rattle.model.specs.Release.{Released, first_low, released_words, destroy, destroy_empty}
use Rattle.model.proofs.Tests.{by_test}
use Rattle.law_formed.specs.Holds.{entries_from, Holds}
use Rattle.law_formed.proofs.Entries.{from-length}
use Rattle.law_formed.proofs.Opens.{sum, goes_on}
use Rattle.law_formed.proofs.Rooted.{sound-root}
use Rattle.law_ledger.specs.Sizes.{tree_size}
use Rattle.call_release.specs.Ledgers.{AtOrAbove, Releases}
use Rattle.call_release.proofs.ByLedger.{releases}
use Rattle.call_release.proofs.EmptyLedger.{empty_released, filled-refused}
use Rattle.law_history.specs.Laws.{first_below, ledger_release}
use Rattle.law_history.specs.Histories.{Closed}
use Rattle.law_history.proofs.Shut.{shut-header, shut-told}

low-is : (v s : ℕ) (gs : List Range) → first_low v (entries_from s gs) ≡ first_below v (walk_from s gs)
unfolding first_low entries_from first_below walk_from
low-is v s [] = refl
low-is v s (g ∷ gs) = ap (λ (f : Fault). pick (ltb s v) (at s) f) (low-is v g.end gs)

none_below : (v : ℕ) (ps : List (ℕ × ℕ)) → first_below v ps ≡ clear → AtOrAbove v ps
unfolding first_below AtOrAbove
none_below v [] e = tt
none_below v (p ∷ ps) e =
    by_test (ltb p.0 v)
    (λ t. let z : at p.0 ≡ clear = rw t at e in absurd (at-not p.0 z))
    (λ t. let z : first_below v ps ≡ clear = rw t at e in (ltb-false p.0 v t, none_below v ps z))
  where
    at-not : (n : ℕ) → at n ≡ clear → ⊥
    at-not n z = let f : ◌≡◌ {A = ℕ} 0 1 = cc in absurd (omega arith)

-- A release leaves a closed store --------------------------------------------------------------------------

closed_as : (w v : List ℕ) → Header (capacity w) (pool w) w → capacity v ≡ capacity w → pool v ≡ pool w → length v ≡ length w → Header (capacity v) (pool v) v
closed_as w v h c p n =
    let C = store_shape lent v in
    rw (c, p) (record { cap-low = h.cap-low; cap-high = h.cap-high; pool-low = h.pool-low; pool-high = h.pool-high; long = n ∙ h.long })

pub closed_of : (w : List ℕ) (l : Ledger) (x : List ℕ) (r : Released) → WellFormed lent w → Releases w l x r → Closed r.words
unfolding WellFormed
closed_of w l x r F R =
    let v = r.words in
    let fits = closed_as w v F.fits R.same-capacity R.same-pool R.same_length in
    let linked : Chain (store_shape lent v) (pool v) v (free_head v) R.chain =
    subst (λ (c : ℕ). Chain (shape lent c) (pool v) v (free_head v) R.chain) (sym R.same-capacity)
    (subst (λ (p : ℕ). Chain (store_shape lent w) p v (free_head v) R.chain) (sym R.same-pool) R.linked) in
    let free : free_count v ≡ pool v = R.free ∙ sym R.same-pool in
    record {
      fits = fits;
      shut = R.closed;
      chain = R.chain;
      linked = linked;
      free = free;
      long = R.long ∙ sym R.same-pool;
      once = λ m p. R.once m (omega (arith, R.same-pool));
      told = shut-told v (shut-header v fits R.closed R.chain linked free) R.closed;
    }

-- The answers ----------------------------------------------------------------------------------------------

module _ (w : List ℕ) (l : Ledger) (H : Holds lent w l) (v : ℕ) (x : List ℕ) where
  abbrev still : Answer → Released
  still a = record { answer = a; words = w; list = x }

  abbrev n : ℕ
  n = length l.ranges

  abbrev done : Released
  done = record { answer = result (tree_size lent w ∷ n ∷ []); words = released_words (store_shape lent w) (pool w) w (root_nodes (store_shape lent w) w (root w)); list = fill x 0 (page_ids (root_entries (store_shape lent w) w (root w))) }

  many : length (root_entries (store_shape lent w) w (root w)) ≡ n
  many = ap length H.entries ∙ from-length l.start l.ranges

  low : first_low v (root_entries (store_shape lent w) w (root w)) ≡ first_below v (ledger_walk l)
  unfolding ledger_walk
  low = ap (first_low v) H.entries ∙ low-is v l.start l.ranges

  decided : destroy lent w v x ≡ unless_bad (first_below v (ledger_walk l)) (λ (r : ℕ). still (refused 12 r)) (pick (leb n (length x)) done (still (refused 13 n)))
  unfolding destroy WellFormed
  decided =
      goes_on lent w H.formed still _
      ∙ rw (
        sound-root (store_shape lent w) (pool w) w (root w) H.formed.sound,
        low,
        many,
        le-leb (free_count w + length (root_nodes (store_shape lent w) w (root w))) (pool w) (omega (arith, sum lent w H.formed)),
      )

  pub data Decided : Type 0 where
    below : (r : ℕ) → ledger_release l v (tree_size lent w) (length x) ≡ refused 12 r → destroy lent w v x ≡ still (refused 12 r) → Decided
    short : ledger_release l v (tree_size lent w) (length x) ≡ refused 13 n → destroy lent w v x ≡ still (refused 13 n) → Decided
    good : ledger_release l v (tree_size lent w) (length x) ≡ result (tree_size lent w ∷ n ∷ []) → destroy lent w v x ≡ done → Releases w l x (destroy lent w v x) → Decided

  pub decide : Decided
  unfolding ledger_release
  decide = go (first_below v (ledger_walk l)) refl
    where
      go : (f : Fault) → first_below v (ledger_walk l) ≡ f → Decided
      go (at r) e = below r (rw e) (decided ∙ rw e)
      go clear e =
          by_test (leb n (length x))
          (λ t. good (rw (e, t)) (decided ∙ rw (e, t)) (releases w l H v x (none_below v (ledger_walk l) e) (leb-true n (length x) t)))
          (λ t. short (rw (e, t)) (decided ∙ rw (e, t)))

-- The empty form -------------------------------------------------------------------------------------------

clear_zero : (ps : List (ℕ × ℕ)) → first_below 0 ps ≡ clear
unfolding first_below
clear_zero [] = refl
clear_zero (p ∷ ps) = rw (le-ltb p.0 0 (omega arith)) (clear_zero ps)

module _ (w : List ℕ) (l : Ledger) (H : Holds lent w l) where
  -- it does what release does with pivot 0 and no list
  same-words : length l.ranges ≡ 0 → (destroy lent w 0 []).words ≡ released_words (store_shape lent w) (pool w) w (root_nodes (store_shape lent w) w (root w))
  same-words z =
      let e : destroy lent w 0 [] ≡ done w l H 0 [] = decided w l H 0 [] ∙ rw (clear_zero (ledger_walk l), le-leb (length l.ranges) 0 (omega (arith, z))) in
      ap (λ (r : Released). r.words) e

  closed_empty : length l.ranges ≡ 0 → Closed (released_words (store_shape lent w) (pool w) w (root_nodes (store_shape lent w) w (root w)))
  closed_empty z =
      subst Closed (same-words z)
      (closed_of w l [] (destroy lent w 0 []) H.formed (releases w l H 0 [] (none_below 0 (ledger_walk l) (clear_zero (ledger_walk l))) (omega (arith, z))))

  pub data DecidedEmpty : Type 0 where
    filled : eqb (length l.ranges) 0 ≡ false → destroy_empty lent w ≡ record { answer = refused 12 0; words = w } → DecidedEmpty
    bare : eqb (length l.ranges) 0 ≡ true → (destroy_empty lent w).answer ≡ result (1 ∷ 0 ∷ []) → Closed (destroy_empty lent w).words → DecidedEmpty

  pub decide_empty : DecidedEmpty
  decide_empty =
      by_test (eqb (length l.ranges) 0)
      (λ t. let e = empty_released w l H (eqb-true (length l.ranges) 0 t) in
      bare t (ap (λ (o : Outcome). o.answer) e) (subst Closed (sym (ap (λ (o : Outcome). o.words) e)) (closed_empty (eqb-true (length l.ranges) 0 t))))
      (λ t. filled t (filled-refused w l H (omega (arith, eqb-false (length l.ranges) 0 t))))
