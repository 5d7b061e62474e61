-- The step by value.
use Rattle.std.specs.Prelude.{ℕ, ◌≤◌, List, Option, Some, None, Result, Ok, Err, ◌≡◌, length}
use Rattle.node_read.specs.Layout.{shape_of}
use Rattle.model.specs.Words.{lent, fill, count, start, end}
use Rattle.model.specs.Refusals.{next_leaf}
use Rattle.model.specs.LeafWalk.{Stepped, cursor_at, is_last, next_leaf_of}
use Rattle.model.specs.declared.id.NodeNo.{NodeNo}
use Rattle.model.specs.declared.node.PageEntry.{PageEntry}
use Rattle.model.specs.declared.answer.Leaf.{Leaf}
use Rattle.model.specs.declared.answer.Refusal.{Refusal}
use Rattle.model.specs.declared.id.RowID.{RowID}
use Rattle.model.specs.declared.cursor.RowPageIndexMemCursor.{RowPageIndexMemCursor}
use Rattle.node_test.specs.Test.{limit_of}
use Rattle.node_read.specs.declared.layout.Layout.{Layout}
use Rattle.next_records.specs.Listing.{records_of, Readable}
use Rattle.next_step.specs.declared.LeafStep.{LeafStep}

-- leaf n, with what is next for it
abbrev pub gives : Layout → List ℕ → NodeNo → Option RowID → LeafStep
gives l w n b =
    let C = shape_of l in
    record {
      leaf = record {
        start_row_id = record { 0 = start C w n.0 };
        end_row_id = record { 0 = end C w n.0 };
        count = count C w n.0;
      };
      cursor = cursor_at (end C w n.0) (is_last (limit_of b));
      entries = record { layout = l; leaf = n; count = count C w n.0 };
    }

-- what a step from a cursor comes to on a lent list
abbrev pub on_list : List ℕ → RowPageIndexMemCursor → Result (Option LeafStep) Refusal → List PageEntry → Stepped
on_list w c (Ok (Some g)) l = record { answer = next_leaf (Ok (Some g.leaf)); cursor = g.cursor; list = fill l 0 (records_of w g.entries) }
on_list w c (Ok None) l = record { answer = next_leaf (Ok None); cursor = c; list = l }
on_list w c (Err r) l = record { answer = next_leaf (Err r); cursor = c; list = l }

-- the step for every list of this length, with what a copy of its entries needs
pub record Steps (w : List ℕ) (c : RowPageIndexMemCursor) (len : ℕ) (r : Result (Option LeafStep) Refusal) : Type 0 where
  pub is : (l : List PageEntry) → length l ≡ len → on_list w c r l ≡ next_leaf_of lent w c l
  pub given : (g : LeafStep) → r ≡ Ok (Some g) → Readable w g.entries × (g.entries.count ≤ len)
