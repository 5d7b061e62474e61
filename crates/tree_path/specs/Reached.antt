-- What a path to a leaf answers.
use Rattle.model.specs.Reading as R
use Rattle.node_test.specs.Test.{limit_of}
use Rattle.tree_path.specs.declared.path.Reached.{Reached}
use Rattle.model.specs.declared.answer.UnsoundNode.{UnsoundNode}
use Rattle.std.specs.Prelude.{Result, Ok, Err}

abbrev pub reached_of : Result Reached UnsoundNode → R.Reached
reached_of (Ok r) = R.leaf r.leaf.0 (limit_of r.next)
reached_of (Err u) = R.unsound u.0.0
