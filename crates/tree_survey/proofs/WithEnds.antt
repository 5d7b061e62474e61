-- Both readings in one walk: the one with ends goes along with the one without, until a wrong end is seen.
use Prim.Native.Nat.{ℕ, ◌<◌}
use mathlib.Core.List.{List, [], ◌∷◌}
use mathlib.Core.Bool.{Bool, true, false}
use mathlib.Core.Path.{◌≡◌, refl, sym, ap, ◌∙◌}
use native.Mathlib.Omega.{arith}
use lib.Dec.{leb}
use borrow.Author.Tests.{le-ltb}
use Rattle.model.specs.Words.{Shape, height, start, end, max_height}
use Rattle.model.specs.Tree.{Open, node_at, empty_root}
use Rattle.model.specs.Tree as Tree
use Rattle.model.specs.Reading.{Visit, end_fits, passes, root_visits}
use Rattle.model.specs.Paths.{entered, rooted, entered_path}
use Rattle.model.proofs.Tests.{by_test}
use Rattle.node_test.specs.Test.{limit_of}
use Rattle.model.specs.declared.id.NodeNo.{NodeNo}
use Rattle.model.specs.declared.answer.UnsoundNode.{UnsoundNode}
use Rattle.std.specs.Prelude.{Option, Some, None, Result, Ok, Err}
use Rattle.tree_turn.specs.Left.{left, below, Valid}
use Rattle.tree_turn.specs.Turn.{out_of}
use Rattle.tree_turn.specs.Walk.{Walking, Turned, rooted_walk}
use Rattle.tree_turn.specs.declared.turn.Entered.{Entered}
use Rattle.tree_turn.specs.declared.walk.TreeWalk.{TreeWalk}
use Rattle.tree_turn.proofs.Rest.{left-none}
use Rattle.tree_turn.proofs.InPlace.{rooted-left}
use Rattle.tree_turn.proofs.Turns.{falls, by_ends, start-walking, turn_up, turn-bad, narrow, turn-down, turn-wrong}
use Rattle.tree_tally.specs.Tally.{counted, tally}
use Rattle.tree_tally.specs.declared.Counts.{Counts}
use Rattle.tree_survey.specs.Ends.{first_of, wrong_end, with_ends, wrong_of}
use Rattle.tree_survey.proofs.FromRoot.{from-bad, from-good}

-- a node that is told of after a wrong end is not told
with_wrong : (m : Option NodeNo) (n : ℕ) (t u : Result Counts UnsoundNode) → t ≡ Err (record { 0 = record { 0 = n } }) → with_ends m t ≡ with_ends (first_of m n) u
with_wrong None n t u e = e
with_wrong (Some m) n t u e = refl

-- node n looked at
module _ (C : Shape) (w : List ℕ) (n : ℕ) (b : Tree.Limit) (m : Option NodeNo) where
  end-right : end_fits (height C w n) b (end C w n) ≡ true → wrong_end C w n b m ≡ m
  unfolding wrong_end
  end-right e = rw e

  end-wrong : end_fits (height C w n) b (end C w n) ≡ false → wrong_end C w n b m ≡ first_of m n
  unfolding wrong_end
  end-wrong e = rw e

-- The turns ------------------------------------------------------------------------------------------------

module _ (C : Shape) (P : ℕ) (w : List ℕ) where
  -- T and E are the answers without ends and with, m the first wrong end, k what was counted so far
  pub record Both (T E : Result Counts UnsoundNode) (t : TreeWalk) (k : Counts) (m : Option NodeNo) : Type 0 where
    pub walking : Walking C P w t
    pub nodes : T ≡ tally C w (left false C P w t.path) k
    pub ends : E ≡ with_ends m (tally C w (left true C P w t.path) k)

module _ {C : Shape} {P : ℕ} {w : List ℕ} {T E : Result Counts UnsoundNode} {t : TreeWalk} {k : Counts} {m : Option NodeNo} (B : Both C P w T E t k m) where
  pub both-done : t.path.depth ≡ 0 → (Ok k ≡ T) × (with_ends m (Ok k) ≡ E)
  unfolding tally
  both-done z =
      (sym (B.nodes ∙ rw (left-none false C P w t.path z)), sym (B.ends ∙ rw (left-none true C P w t.path z)))

  module _ (z : 0 < t.path.depth) {v : TreeWalk} where
    pub both-up : Turned C P w t (Ok None) v → Both C P w T E v k m
    unfolding tally
    both-up q =
        record {
          walking = q.walking;
          nodes = B.nodes ∙ rw ((turn_up B.walking z q.tells false).one, q.after);
          ends = B.ends ∙ rw ((turn_up B.walking z q.tells true).one, q.after);
        }

    pub both-bad : {u : UnsoundNode} → Turned C P w t (Err u) v → (Err u ≡ T) × (with_ends m (Err u) ≡ E)
    unfolding tally
    both-bad q = (sym (B.nodes ∙ rw (turn-bad B.walking z q.tells false).one), sym (B.ends ∙ rw (turn-bad B.walking z q.tells true).one))

    module _ (d : Entered) (q : Turned C P w t (Ok (Some d)) v) where
      abbrev c : ℕ
      c = d.child.0

      ended_in : E ≡ with_ends (wrong_end C w c (limit_of d.next) m) (tally C w (left true C P w (entered_path t.path c)) (counted C w c k))
      unfolding tally
      ended_in =
          by_test (end_fits (height C w c) (limit_of d.next) (end C w c))
          (λ f. rw (end-right C w c (limit_of d.next) m f) (B.ends ∙ rw (turn-down B.walking z q.tells true f).one))
          (λ f. rw (end-wrong C w c (limit_of d.next) m f) (B.ends ∙ with_wrong m c _ _ (rw (turn-wrong B.walking z q.tells f).one)))

      pub both-down : Both C P w T E v (counted C w d.child.0 k) (wrong_end C w d.child.0 (limit_of d.next) m)
      unfolding tally
      both-down = record { walking = q.walking; nodes = B.nodes ∙ rw ((turn-down B.walking z q.tells false refl).one, q.after); ends = rw q.after ended_in }

-- The first turn, and the root -----------------------------------------------------------------------------

pub start-both : (C : Shape) (P : ℕ) (w : List ℕ) (root first : ℕ) (k : Counts) (m : Option NodeNo) → Valid C P w (height C w root) (entered root ∷ []) → first ≡ out_of C P w (height C w root) root
    → Both C P w (tally C w (below false C P w root) k) (with_ends m (tally C w (below true C P w root) k)) (rooted_walk root first) k m
start-both C P w root first k m v e =
    let same : (ends : Bool) → tally C w (below ends C P w root) k ≡ tally C w (left ends C P w (rooted root)) k = λ ends. ap (λ (vs : List Visit). tally C w vs k) (sym (rooted-left ends C P w root v)) in
    record { walking = start-walking C P w root first v e; nodes = same false; ends = ap (with_ends m) (same true) }

-- a sound root was looked at
pub from-both : (C : Shape) (P : ℕ) (w : List ℕ) (n : ℕ) (k : Counts) → empty_root C w n ≡ false → leb (height C w n) max_height ≡ true → n < P → passes false C (height C w n) (node_at C w n) (start C w n) Open ≡ true
    → tally C w (root_visits true C P w n) k ≡ with_ends (wrong_end C w n Open None) (tally C w (below true C P w n) (counted C w n k))
from-both C P w n k e h i s =
    let both_ways : (x : Bool) → end_fits (height C w n) Open (end C w n) ≡ x → passes true C (height C w n) (node_at C w n) (start C w n) Open ≡ x = λ x f. by_ends true C (height C w n) (node_at C w n) (start C w n) Open true s ∙ f in
    by_test (end_fits (height C w n) Open (end C w n))
    (λ f. rw (end-right C w n Open None f) (from-good true C P w n k e h i (both_ways true f)))
    (λ f. rw (end-wrong C w n Open None f) (from-bad true C P w n k e h i (both_ways false f)))

pub ruleset below_turns = (both-done, both-bad, falls, turn_up, narrow, turn-down)

-- number P is no wrong end
pub no_wrong : (P : ℕ) → wrong_of P P ≡ None
unfolding wrong_of
no_wrong P = rw (le-ltb P P (omega arith))

pub ruleset both_roots = (from-both, no_wrong)
