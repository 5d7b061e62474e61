-- What `histories` says of some answers by themselves, over all histories from a store that holds a ledger. After an
-- accepted create it is the empty one (`create-law`).
use Prim.Native.Nat.{ℕ, ◌≤◌}
use mathlib.Core.List.{List, []}
use mathlib.Core.Path.{◌≡◌, refl, sym, ap, ◌∙◌, subst}
use mathlib.Core.Logic.{⊎_elim}
use native.Mathlib.Omega.{arith}
use lib.ListN.{length, replicate, length-replicate}
use Rattle.model.specs.Words.{lent, capacity}
use Rattle.model.specs.Refusals.{refused}
use Rattle.model.specs.LeafWalk.{seek, page_entry}
use Rattle.model.specs.Ledger.{Ledger, ledger_walk}
use Rattle.law_formed.specs.Holds.{Holds}
use Rattle.law_walk.specs.Walking.{leaf_count}
use Rattle.law_walk.proofs.Walk.{gives-once}
use Rattle.law_history.specs.Calls.{Loan, Call, Reply, reply, State, holding, closed, History, Place, begin, run}
use Rattle.law_history.specs.Laws.{Walks}
use Rattle.law_history.specs.Histories.{Kept}
use Rattle.law_history.proofs.Among.{result-not}
use Rattle.law_history.proofs.Histories.{histories}

three : {a d : ℕ} → refused 3 0 ≡ refused a d → a ≡ 3
three e = cc

-- Of one place ---------------------------------------------------------------------------------------------

module _ (w : List ℕ) where
  -- 3 or more; 3 where the store is closed, and only there
  record Fair (s : State) (a : ℕ) : Type 0 where
    least : 3 ≤ a
    shut : a ≡ 3 → s ≡ closed

  fair : (s : State) → Kept w s → (m : Loan) (c : Call) (a d : ℕ) → (reply w m c).answer ≡ refused a d → Fair s a
  unfolding Kept reply
  fair (holding l) K m c a d e = record { least = omega (arith, K.above m c a d e); shut = λ z. absurd (omega (arith, K.above m c a d e)) }
  fair closed K m c a d e =
      let is : a ≡ 3 =
      ⊎_elim (λ f. three (sym (ap (λ (r : Reply). r.answer) f) ∙ e))
      (λ f. absurd (result-not [] a d (sym (ap (λ (b : Call). (reply w m b).answer) f.1) ∙ e))) (K.told m c) in
      record { least = omega (arith, is); shut = λ z. refl }

  whole : (l : Ledger) → Kept w (holding l) → (q : ℕ) → q ≤ l.start → (cs : History) (ps : List (ℕ × ℕ)) (n : ℕ) → Walks w (seek q) cs ps n → (ps ≡ ledger_walk l) × (n ≡ leaf_count w)
  unfolding Kept
  whole l K q h cs ps n g =
      let x = replicate (capacity w) (page_entry 0 0) in
      let room : capacity w ≤ length x = omega (arith, length-replicate (capacity w) (page_entry 0 0)) in
      gives-once w (seek q) x ps (ledger_walk l) n (leaf_count w) (K.among q x room cs ps n g) (K.walk q x h room)

-- Of all histories -----------------------------------------------------------------------------------------

module _ (w : List ℕ) (k : Ledger) (H : Holds lent w k) (cs : History) where
  abbrev here : Place
  here = run (begin w k) cs

  -- refusals 1 and 2 never occur
  pub never-one-two : (m : Loan) (c : Call) (a d : ℕ) → (reply here.words m c).answer ≡ refused a d → 3 ≤ a
  never-one-two m c a d e = (fair here.words here.state (histories w k H cs) m c a d e).least

  -- 3 after a release only
  pub three-closed : (m : Loan) (c : Call) (d : ℕ) → (reply here.words m c).answer ≡ refused 3 d → here.state ≡ closed
  three-closed m c d e = (fair here.words here.state (histories w k H cs) m c 3 d e).shut refl

  -- "a whole walk equals the ledger if no call changes the store during it", and it has a step for each leaf
  pub whole-walk : (l : Ledger) → here.state ≡ holding l → (q : ℕ) → q ≤ l.start → (during : History) (ps : List (ℕ × ℕ)) (n : ℕ) → Walks here.words (seek q) during ps n
      → (ps ≡ ledger_walk l) × (n ≡ leaf_count here.words)
  whole-walk l e q h during ps n g = whole here.words l (subst (Kept here.words) e (histories w k H cs)) q h during ps n g
