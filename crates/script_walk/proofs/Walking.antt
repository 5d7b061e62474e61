-- A walk put step by step.
use Prim.Native.Nat.{ℕ, suc, ◌/◌}
use mathlib.Core.Path.{◌≡◌, sym, ◌∙◌, ap}
use mathlib.Core.List.{List, append-nil}
use mathlib.Core.Bool.{Bool, true, false}
use native.Mathlib.Omega.{arith}
use lib.ListN.{length, length-replicate}
use Rattle.model.specs.Words.{lent}
use Rattle.model.specs.Refusals.{next_leaf}
use Rattle.model.specs.LeafWalk.{Stepped, page_entry, next_leaf_of, gives_leaf}
use Rattle.model.specs.declared.cursor.RowPageIndexMemCursor.{RowPageIndexMemCursor}
use Rattle.next_words.specs.Written.{WordSteps}
use Rattle.next_words.specs.declared.WordStep.{WordStep}
use Rattle.script_text.specs.Lines.{Put}
use Rattle.script_text.specs.declared.Lines.{Lines}
use Rattle.script_text.proofs.Putting.{then}
use Rattle.answer_line.specs.Answers.{leaf_line}
use Rattle.script_calls.specs.Calls.{lent_records, walk_lines}

-- the words lent for the records of a leaf
half : (before : List ℕ) → length before ≡ 4096 → length lent_records ≡ length before / 2
half before e = length-replicate 2048 (page_entry 0 0) ∙ omega arith

-- what a turn of a walk does: it goes on from a cursor where a leaf was given
pub record Walks (p : Stepped) (l : Lines) (c₁ : RowPageIndexMemCursor) (on : Bool) (l₁ : Lines) : Type 0 where
  pub cursor : c₁ ≡ p.cursor
  pub goes : on ≡ gives_leaf p.answer
  pub puts : Put l (leaf_line p.answer) l₁

pub once : {w before after : List ℕ} {c : RowPageIndexMemCursor} {r : WordStep} {l l₁ : Lines} {goes : Bool} → length before ≡ 4096 → WordSteps w c before after r → Put l (leaf_line (next_leaf r.answer)) l₁ → goes ≡ gives_leaf (next_leaf r.answer) → Walks (next_leaf_of lent w c lent_records) l r.cursor goes l₁
once {before = before} h st p g =
    let e = half before h in
    let a = st.answer lent_records e in
    record { cursor = st.cursor lent_records e; goes = g ∙ ap gives_leaf a; puts = rw a at p }

module _ (s : List ℕ) (c : RowPageIndexMemCursor) (left : ℕ) {l l₁ : Lines} {c₁ : RowPageIndexMemCursor} {goes : Bool} (w : Walks (next_leaf_of lent s c lent_records) l c₁ goes l₁) where
  pub walks-on : goes ≡ true → (l₂ : Lines) → Put l₁ (walk_lines s left c₁) l₂ → Put l (walk_lines s (suc left) c) l₂
  unfolding walk_lines
  walks-on g l₂ p = rw (sym w.goes ∙ g) (then w.puts (rw w.cursor at p))

  pub walks-out : goes ≡ false → Put l (walk_lines s (suc left) c) l₁
  unfolding walk_lines
  walks-out g = rw (sym w.goes ∙ g, append-nil) w.puts
