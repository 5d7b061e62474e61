-- What each call does, from its answer, its words and its line.
use Prim.Native.Nat.{ℕ, ◌+◌, ◌≤◌, ◌<◌}
use mathlib.Core.Path.{◌≡◌, refl, ◌∙◌, ap}
use mathlib.Core.List.{List, [], ◌++◌}
use mathlib.Core.Bool.{true, false, ◌&&◌}
use native.Mathlib.Omega.{arith}
use lib.ListN.{length, take, drop, length-append, length-drop, length-take}
use lib.Dec.{leb, leb→le}
use borrow.Author.Tests.{le-leb, lt-leb}
use Rattle.model.specs.Words.{lent, in_range, store_length}
use Rattle.model.specs.Refusals.{Answer, result, refused}
use Rattle.model.specs.Create.{create}
use Rattle.model.specs.Lookup.{try_find_row}
use Rattle.model.specs.Append.{insert_row_page}
use Rattle.model.specs.Prune.{prune_checkpoint_prefix}
use Rattle.model.specs.LeafWalk.{seek}
use Rattle.model.specs.Release.{destroy}
use Rattle.model.proofs.Tests.{and_r, by_test, holds}
use Rattle.script_text.specs.Lines.{line, Put}
use Rattle.script_text.specs.declared.Lines.{Lines}
use Rattle.script_records.specs.Records.{Request, Create, Append, Find, Prune, Walk, Release, Bad}
use Rattle.answer_line.specs.Names.{create_name, append_name, prune_name, release_name, bad_record_name}
use Rattle.answer_line.specs.Answers.{call_line, find_line}
use Rattle.script_calls.specs.Calls.{lent_pages, walk_lines, create_length, if_accepted, perform}
use Rattle.script_calls.specs.Steps.{memory, memory_of, Does}
use Rattle.script_calls.specs.declared.memory.Memory as M

-- The length that a create gets ---------------------------------------------------------------------------

module _ (all C P : ℕ) where
  pub out_of_range : in_range C P ≡ false → all ≡ create_length all C P
  unfolding create_length
  out_of_range e = rw e

  pub too_many : in_range C P ≡ true → all < store_length C P → all ≡ create_length all C P
  unfolding create_length
  too_many e h = rw (e, lt-leb (store_length C P) all h)

  pub enough : in_range C P ≡ true → store_length C P ≤ all → store_length C P ≡ create_length all C P
  unfolding create_length
  enough e h = rw (e, le-leb (store_length C P) all h)

  pub within : create_length all C P ≤ all
  unfolding create_length
  within =
      by_test (in_range C P && leb (store_length C P) all)
      (λ t. rw t (leb→le (store_length C P) all (and_r (in_range C P) (leb (store_length C P) all) (holds _ t))))
      (λ t. rw t (omega arith))

-- Calls -----------------------------------------------------------------------------------------------------

as_many : (u : ℕ) (w v : List ℕ) → u ≤ length w → length v ≡ length (take u w) → length (v ++ drop u w) ≡ length w
as_many u w v h e = omega (arith, length-append v (drop u w), length-drop u w, length-take u w)

module _ (m m₁ : M.Memory) (l l₁ : Lines) (lent₁ : m₁.words.ghost_name ≡ m.words.ghost_name) (a : Answer) (v : List ℕ) where
  pub creates : (C P s len : ℕ) → length v ≡ length (take len m.words.now) → len ≡ create_length (length m.words.now) C P → a ≡ (create lent (take len m.words.now) C P s).answer → v ≡ (create lent (take len m.words.now) C P s).words → m₁.words.now ≡ v ++ drop len m.words.now → m₁.used ≡ if_accepted a len m.used → Put l (call_line create_name a) l₁ → Does (perform (memory_of m) (Create C P s)) m l m₁ l₁
  unfolding perform
  creates C P s len n is e f w u p = record { lent = lent₁; many = ap length w ∙ as_many len m.words.now v (omega (arith, within (length m.words.now) C P)) n; words = rw (f, is) at w; used = rw (e, is) at u; puts = rw (e, is) at p }

  module _ (n : length v ≡ length (take m.used m.words.now)) (w : m₁.words.now ≡ v ++ drop m.used m.words.now) (u : m₁.used ≡ m.used) where
    same_many : length m₁.words.now ≡ length m.words.now
    same_many = ap length w ∙ as_many m.used m.words.now v m.in_words n

    pub appends : (k x : ℕ) → a ≡ (insert_row_page lent (take m.used m.words.now) k x).answer → v ≡ (insert_row_page lent (take m.used m.words.now) k x).words → Put l (call_line append_name a) l₁ → Does (perform (memory_of m) (Append k x)) m l m₁ l₁
    unfolding perform
    appends k x e f p = record { lent = lent₁; many = same_many; words = rw f at w; used = u; puts = rw e at p }

    pub prunes : (s e₀ : ℕ) (ids : List ℕ) → a ≡ (prune_checkpoint_prefix lent (take m.used m.words.now) s e₀ ids).answer → v ≡ (prune_checkpoint_prefix lent (take m.used m.words.now) s e₀ ids).words → Put l (call_line prune_name a) l₁ → Does (perform (memory_of m) (Prune s e₀ ids)) m l m₁ l₁
    unfolding perform
    prunes s e₀ ids e f p = record { lent = lent₁; many = same_many; words = rw f at w; used = u; puts = rw e at p }

    pub releases : (q : ℕ) → a ≡ (destroy lent (take m.used m.words.now) q lent_pages).answer → v ≡ (destroy lent (take m.used m.words.now) q lent_pages).words → Put l (call_line release_name a) l₁ → Does (perform (memory_of m) (Release q)) m l m₁ l₁
    unfolding perform
    releases q e f p = record { lent = lent₁; many = same_many; words = rw f at w; used = u; puts = rw e at p }

module _ (m : M.Memory) (l l₁ : Lines) where
  pub finds : (q : ℕ) (a : Answer) → a ≡ try_find_row lent (take m.used m.words.now) q → Put l (find_line a) l₁ → Does (perform (memory_of m) (Find q)) m l m l₁
  unfolding perform
  finds q a e p = record { lent = refl; many = refl; words = refl; used = refl; puts = rw e at p }

  pub walks : (q : ℕ) → Put l (walk_lines (take m.used m.words.now) (length (take m.used m.words.now) + 1) (seek q)) l₁ → Does (perform (memory_of m) (Walk q)) m l m l₁
  unfolding perform
  walks q p = record { lent = refl; many = refl; words = refl; used = refl; puts = p }

  pub spoiled : Put l (line bad_record_name []) l₁ → Does (perform (memory_of m) Bad) m l m l₁
  unfolding perform
  spoiled p = record { lent = refl; many = refl; words = refl; used = refl; puts = p }

-- the words in use are words of the memory
accepted-fits : (a : Answer) (n m k : ℕ) → n ≤ k → m ≤ k → if_accepted a n m ≤ k
unfolding if_accepted
accepted-fits (result vs) n m k h l = h
accepted-fits (refused d e) n m k h l = l

pub used-fits : (w : List ℕ) (u : ℕ) (a : Request) → u ≤ length w → (perform (memory w u) a).memory.used ≤ length w
unfolding perform
used-fits w u (Create C P s) h = let n = create_length (length w) C P in accepted-fits (create lent (take n w) C P s).answer n u (length w) (within (length w) C P) h
used-fits w u (Append k x) h = h
used-fits w u (Find q) h = h
used-fits w u (Prune s e ids) h = h
used-fits w u (Walk q) h = h
used-fits w u (Release v) h = h
used-fits w u Bad h = h
