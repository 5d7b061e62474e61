use mathlib.Core.Path.{refl}
use Rattle.tree_turn.proofs.Turns.{held_down}
use Rattle.tree_turn.proofs.walk.TreeWalk.turn.Goals as goal

pub returns : goal.returns
returns c =
    let p = c.requires in
    let e = rw c.last-top.ensures at c.in_ok-down.ensures in
    rw c.enter.ensures (record { tells = e; after = refl; walking = held_down p.walking p.not_over _ e })
