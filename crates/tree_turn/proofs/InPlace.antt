-- A path that is stored to in place: what its positions are after each kind of turn.
use Prim.Native.Nat.{ℕ, ◌-◌, ◌<◌, ◌≤◌}
use mathlib.Core.Bool.{Bool}
use mathlib.Core.List.{List, [], ◌∷◌}
use mathlib.Core.Path.{◌≡◌, refl, ap, ◌∙◌}
use native.Mathlib.Omega.{arith}
use lib.ListN.{get_or, set, length, length-set}
use lib.Seq.{get_or-set_same, get_or-set_other}
use Rattle.model.specs.Paths.{no_position, stack, trail, last_of, above, turned, entered, rooted, turned_path, entered_path}
use Rattle.model.specs.declared.path.Position.{Position}
use Rattle.model.specs.declared.path.Path.{Path}
use Rattle.model.specs.Words.{Shape, height}
use Rattle.tree_turn.specs.Left.{below, Valid, left}
use Rattle.tree_turn.proofs.Rest.{left_is}
use Rattle.model.proofs.Paths.{stack_set, stack_push, stack-turn}

pub rooted-left : (ends : Bool) (C : Shape) (P : ℕ) (w : List ℕ) (n : ℕ) → Valid C P w (height C w n) (entered n ∷ []) → left ends C P w (rooted n) ≡ below ends C P w n
unfolding stack
rooted-left ends C P w n v = left_is ends C P w (rooted n) (height C w n) (entered n ∷ []) refl v

module _ (p : Path) (z : 0 < p.depth) (l : length p.positions ≡ 32) where
  pub turned-trail : p.depth ≤ 32 → trail (turned_path p) ≡ turned (last_of p) ∷ above p
  turned-trail d = stack-turn p.positions p.depth (turned (last_of p)) z (omega arith)

  pub turned-length : length (set p.positions (p.depth - 1) (turned (last_of p))) ≡ 32
  turned-length = length-set p.positions (p.depth - 1) (turned (last_of p)) ∙ l

  module _ (n : ℕ) where
    pub entered-length : length (entered_path p n).positions ≡ 32
    entered-length = length-set (set p.positions (p.depth - 1) (turned (last_of p))) p.depth (entered n) ∙ turned-length

    pub entered-trail : p.depth < 32 → trail (entered_path p n) ≡ entered n ∷ turned (last_of p) ∷ above p
    entered-trail d =
        stack_push (set p.positions (p.depth - 1) (turned (last_of p))) p.depth (entered n) (omega (arith, turned-length))
        ∙ ap (λ (st : List Position). entered n ∷ st) (turned-trail (omega arith))

    -- what stood above a position stays, and so does every position but the last
    pub entered-above : (d : ℕ) → d ≤ p.depth - 1 → stack (entered_path p n).positions d ≡ stack p.positions d
    entered-above d h =
        stack_set (set p.positions (p.depth - 1) (turned (last_of p))) p.depth (entered n) d (omega arith)
        ∙ stack_set p.positions (p.depth - 1) (turned (last_of p)) d h

    -- what stands above the node entered
    pub entered-under : p.depth ≤ 32 → stack (entered_path p n).positions p.depth ≡ turned (last_of p) ∷ above p
    entered-under d =
        stack_set (set p.positions (p.depth - 1) (turned (last_of p))) p.depth (entered n) p.depth (omega arith) ∙ turned-trail d

    pub entered-other : (d : ℕ) → d < p.depth - 1 → get_or (entered_path p n).positions d no_position ≡ get_or p.positions d no_position
    entered-other d h =
        get_or-set_other (set p.positions (p.depth - 1) (turned (last_of p))) p.depth d (entered n) no_position (λ e. omega arith)
        ∙ get_or-set_other p.positions (p.depth - 1) d (turned (last_of p)) no_position (λ e. omega arith)

    pub entered-turned : p.depth ≤ 32 → get_or (entered_path p n).positions (p.depth - 1) no_position ≡ turned (last_of p)
    entered-turned d =
        get_or-set_other (set p.positions (p.depth - 1) (turned (last_of p))) p.depth (p.depth - 1) (entered n) no_position (λ e. omega arith)
        ∙ get_or-set_same p.positions (p.depth - 1) (turned (last_of p)) no_position (omega arith)

    pub entered-last : p.depth < 32 → get_or (entered_path p n).positions p.depth no_position ≡ entered n
    entered-last d = get_or-set_same (set p.positions (p.depth - 1) (turned (last_of p))) p.depth (entered n) no_position (omega (arith, turned-length))
