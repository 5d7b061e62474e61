-- A store's words as they are lent for writing.
use Rattle.std.specs.Prelude.{◌≡◌}
use Rattle.node_read.specs.declared.store.StoreMut.{StoreMut}

-- the layout is the same, and so is the reference
pub record SameLoan (before after : StoreMut) : Type 0 where
  pub layout : after.layout ≡ before.layout
  pub reference : after.words.ghost_name ≡ before.words.ghost_name
