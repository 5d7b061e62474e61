-- Demand 3: after any history from a store that holds a ledger, as after an accepted create.
use Prim.Native.Nat.{ℕ, ◌+◌}
use mathlib.Core.List.{List, [], ◌∷◌}
use mathlib.Core.Path.{◌≡◌, refl, sym, ap, ◌∙◌, subst}
use mathlib.Core.Logic.{⊎_elim}
use native.Mathlib.Omega.{arith}
use lib.ListN.{length, drop, length-append}
use Rattle.model.specs.Words.{store_shape, lent, pool, root, free_count, start}
use Rattle.model.specs.Refusals.{Answer, result, refused, Outcome}
use Rattle.model.specs.Create.{create}
use Rattle.model.specs.Append.{insert_row_page}
use Rattle.model.specs.Prune.{prune_checkpoint_prefix}
use Rattle.model.specs.LeafWalk.{seek}
use Rattle.model.specs.Release.{Released, destroy, destroy_empty}
use Rattle.model.specs.Ledger.{Range, Ledger, empty_ledger, ledger_end, ledger_append, Cut, refuses, leaves, ledger_cut}
use Rattle.law_formed.specs.Holds.{Holds}
use Rattle.law_formed.proofs.Bridge.{formed_of}
use Rattle.law_formed.proofs.Check.{accepted}
use Rattle.law_formed.proofs.Entries.{from-length}
use Rattle.law_formed.proofs.FindLaw.{find_law}
use Rattle.law_append.proofs.Insert.{insert_keeps}
use Rattle.law_append.proofs.Verdict.{verdict-five}
use Rattle.law_ledger.specs.Sizes.{tree_height, tree_size, needed_nodes}
use Rattle.law_ledger.specs.Laws.{PruneLaw}
use Rattle.law_ledger.proofs.Calls.{create_law, insert_law, prune_law}
use Rattle.law_walk.proofs.Walk.{walk_law, walk_from_lem}
use Rattle.law_history.specs.Calls.{Loan, Call, append, lookup, prune, seek_row, next_leaf, release, release_empty, check, Reply, reply, State, holding, closed, if_done, state_after, History, Place, begin, run}
use Rattle.law_history.specs.Histories.{Told, Holding, Closed, Kept}
use Rattle.law_history.proofs.Releasing.{closed_of, Decided, below, short, good, decide, DecidedEmpty, filled, bare, decide_empty}
use Rattle.law_history.proofs.Next.{next_law}
use Rattle.law_history.proofs.Among.{result-not, walk-among}
use Rattle.law_history.proofs.Refusing.{CutFits, cut_fits, refusal_is}

-- an append takes the nodes it needs from the chain
taken : (w : List ℕ) (l : Ledger) → Holds lent w l → (k x : ℕ) (a : List ℕ) → (insert_row_page lent w k x).answer ≡ result a → free_count (insert_row_page lent w k x).words + needed_nodes lent w ≡ free_count w
taken w l H k x a e =
    let F = formed_of lent w H.formed in
    let A = insert_keeps (store_shape lent w) (pool w) w (tree_height lent w) (start (store_shape lent w) w (root w)) F.0 F.1 k x a e in
    omega (arith, F.1.free, A.formed.free, ap length A.left, length-append A.gone A.rest, A.many)

module _ (w : List ℕ) (l : Ledger) (H : Holds lent w l) where
  -- What each call answers ---------------------------------------------------------------------------------

  told-release : (m : Loan) (v : ℕ) → Told w l m (release v) (reply w m (release v))
  unfolding Told reply
  told-release m v = go (decide w l H v m.pages)
    where
      go : Decided w l H v m.pages → Told w l m (release v) (reply w m (release v))
      go (below r a e) = (ap (λ (o : Released). o.answer) e ∙ sym a, λ v f. absurd (result-not v 12 r (sym f ∙ ap (λ (o : Released). o.answer) e)))
      go (short a e) = (ap (λ (o : Released). o.answer) e ∙ sym a, λ v f. absurd (result-not v 13 _ (sym f ∙ ap (λ (o : Released). o.answer) e)))
      go (good a e R) = (ap (λ (o : Released). o.answer) e ∙ sym a, λ v f. R.list)

  told_empty : (m : Loan) → Told w l m release_empty (reply w m release_empty)
  unfolding Told reply
  told_empty m = go (decide_empty w l H)
    where
      go : DecidedEmpty w l H → Told w l m release_empty (reply w m release_empty)
      go (filled t e) = ap (λ (o : Outcome). o.answer) e ∙ rw t
      go (bare t e c) = e ∙ rw t

  told : (m : Loan) (c : Call) → Told w l m c (reply w m c)
  unfolding Told reply
  told m (append k x) = ((insert_law lent w l H k x).answer, λ a e. taken w l H k x a e)
  told m (lookup q) = find_law lent w l H q
  told m (prune s e ids) = prune_law lent w l H s e ids
  told m (seek_row q) = refl
  told m next_leaf = next_law w l H m
  told m (release v) = told-release m v
  told m release_empty = told_empty m
  told m check = accepted lent w H.formed ∙ ap (λ (n : ℕ). result (n ∷ tree_size lent w ∷ free_count w ∷ [])) (ap length H.entries ∙ from-length l.start l.ranges)

  pub holding_of : Holding w l
  unfolding reply
  holding_of =
      record {
        holds = H;
        told = told;
        same = λ m c a d e. (refusal_is w l H m c a d e).1;
        above = λ m c a d e. (refusal_is w l H m c a d e).0.above;
        six = λ m c d e. (refusal_is w l H m c 6 d e).0.six refl;
        room = λ m k x p f. (insert_law lent w l H k x).answer ∙ verdict-five k (ledger_end l) (tree_height lent w) (needed_nodes lent w) (free_count w) p f;
        only = λ m c d e. (refusal_is w l H m c 5 d e).0.five refl;
        walk = λ q x h room. walk_law w l H q h x room;
        from = λ q x room. walk_from_lem w l H q x room;
        among = λ q x room cs ps n g. walk-among w l H (seek q) cs ps n g x room;
      }

-- What each call leaves -------------------------------------------------------------------------------------

module _ (w : List ℕ) (l : Ledger) (H : Holds lent w l) where
  -- nothing changed
  stays : (v : List ℕ) → v ≡ w → Holding v l
  stays v e = subst (λ (u : List ℕ). Holding u l) (sym e) (holding_of w l H)

  kept_append : (k x : ℕ) (a : Answer) → (insert_row_page lent w k x).answer ≡ a → Kept (insert_row_page lent w k x).words (holding (if_done a (ledger_append l k x) l))
  unfolding Kept if_done
  kept_append k x (result v) e = holding_of (insert_row_page lent w k x).words (ledger_append l k x) ((insert_law lent w l H k x).accepted v e)
  kept_append k x (refused a d) e = stays (insert_row_page lent w k x).words ((insert_law lent w l H k x).refusal a d e)

  kept-prune : (s e : ℕ) (ids : List ℕ) (c : Cut) → CutFits (drop (length ids) l.ranges) c → PruneLaw lent w e ids c (prune_checkpoint_prefix lent w s e ids)
      → Kept (prune_checkpoint_prefix lent w s e ids).words (holding (if_done (prune_checkpoint_prefix lent w s e ids).answer (record { start = e; ranges = drop (length ids) l.ranges }) l))
  unfolding Kept if_done PruneLaw CutFits
  kept-prune s e ids (refuses a d) i p = rw p (holding_of w l H)
  kept-prune s e ids (leaves gs) i p =
      rw p.answer
      (subst (λ (fs : List Range). Holding (prune_checkpoint_prefix lent w s e ids).words (record { start = e; ranges = fs })) i
      (holding_of (prune_checkpoint_prefix lent w s e ids).words (record { start = e; ranges = gs }) p.holds))

  kept-release : (v : ℕ) (x : List ℕ) → Decided w l H v x → Kept (destroy lent w v x).words (if_done (destroy lent w v x).answer closed (holding l))
  unfolding Kept if_done
  kept-release v x (below r a e) = rw e (holding_of w l H)
  kept-release v x (short a e) = rw e (holding_of w l H)
  kept-release v x (good a e R) = rw R.answer (closed_of w l x (destroy lent w v x) H.formed R)

  kept_empty : DecidedEmpty w l H → Kept (destroy_empty lent w).words (if_done (destroy_empty lent w).answer closed (holding l))
  unfolding Kept if_done
  kept_empty (filled t e) = rw e (holding_of w l H)
  kept_empty (bare t e c) = rw e c

  kept-held : (m : Loan) (c : Call) → Kept (reply w m c).words (state_after (holding l) c (reply w m c).answer)
  unfolding reply state_after Kept
  kept-held m (append k x) = kept_append k x (insert_row_page lent w k x).answer refl
  kept-held m (lookup q) = holding_of w l H
  kept-held m (prune s e ids) = kept-prune s e ids (ledger_cut l s e ids) (cut_fits l s e ids) (prune_law lent w l H s e ids)
  kept-held m (seek_row q) = holding_of w l H
  kept-held m next_leaf = holding_of w l H
  kept-held m (release v) = kept-release v m.pages (decide w l H v m.pages)
  kept-held m release_empty = kept_empty (decide_empty w l H)
  kept-held m check = holding_of w l H

same-words : (w : List ℕ) → Closed w → (m : Loan) (c : Call) → (reply w m c).words ≡ w
unfolding reply
same-words w K m c = ⊎_elim (λ e. ap (λ (r : Reply). r.words) e) (λ e. ap (λ (b : Call). (reply w m b).words) e.1) (K.told m c)

kept_step : (w : List ℕ) (s : State) → Kept w s → (m : Loan) (c : Call) → Kept (reply w m c).words (state_after s c (reply w m c).answer)
unfolding Kept state_after
kept_step w (holding l) K m c = kept-held w l K.holds m c
kept_step w closed K m c = subst Closed (sym (same-words w K m c)) K

-- from any place on
pub kept_run : (p : Place) → Kept p.words p.state → (cs : History) → Kept (run p cs).words (run p cs).state
unfolding run
kept_run p K [] = K
kept_run p K ((m, c) ∷ cs) =
    let r = reply p.words m c in
    kept_run (record { words = r.words; state = state_after p.state c r.answer }) (kept_step p.words p.state K m c) cs

-- The theorem. From a store that holds a ledger, after any calls with any arguments, accepted or refused: the store holds
-- the ledger that the calls' answers make, or it was released; and each further call answers and leaves what `Kept` says.
pub histories : (w : List ℕ) (l : Ledger) → Holds lent w l → (cs : History) → (let p = run (begin w l) cs in Kept p.words p.state)
unfolding Kept
histories w l H cs = kept_run (begin w l) (holding_of w l H) cs

-- "from an accepted create", on a lent slice of any former contents
pub from-create : (w : List ℕ) (C P s : ℕ) → (create lent w C P s).answer ≡ result [] → (cs : History)
    → (let p = run (begin (create lent w C P s).words (empty_ledger s)) cs in Kept p.words p.state)
from-create w C P s e cs = histories (create lent w C P s).words (empty_ledger s) (create_law lent w C P s e) cs
