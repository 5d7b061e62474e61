use mathlib.Core.Path.{◌≡◌}
use lib.ListN.{drop}
use Rattle.model.specs.Append.{new_path}
use Rattle.node_read.specs.Layout.{shape_of}
use Rattle.node_read.specs.Store.{SameLoan}
use Rattle.append_path.specs.Inside.{numbers}
use Rattle.append_path.proofs.new_path.Given as goal

abbrev pub invariant-loop-i : goal.invariant-loop-i
invariant-loop-i l = SameLoan l.fn.s l.s
    × (new_path (shape_of l.fn.s.layout) l.fn.s.words.now l.new.start.0 l.new.end.0 l.new.page.0 (numbers l.nodes) ≡ new_path (shape_of l.fn.s.layout) l.s.words.now l.new.start.0 l.new.end.0 l.new.page.0 (numbers (drop l.i l.nodes)))
