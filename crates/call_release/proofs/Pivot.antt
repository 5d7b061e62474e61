-- Refusal 12 on a sound tree: its start tells it, because rows rise from there.
use Prim.Native.Nat.{ℕ, suc, ◌≤◌}
use mathlib.Core.List.{List}
use mathlib.Core.Bool.{◌&&◌}
use mathlib.Core.Path.{◌≡◌, refl}
use native.Mathlib.Omega.{arith}
use lib.ListN.{length}
use lib.Dec.{ltb}
use borrow.Author.Tests.{lt-ltb, le-ltb, ltb-false}
use Rattle.model.specs.Words.{Shape, pick, height, start}
use Rattle.model.specs.Tree.{Open, level}
use Rattle.model.specs.Reading.{Entry, root_entries, clear, at}
use Rattle.model.specs.Release.{first_low}
use Rattle.model.specs.WellFormed.{SoundRoot, empty_tree, sound_tree}
use Rattle.model.proofs.Tests.{by_test}
use Rattle.law_formed.proofs.Linked.{Run, none, more, sound-linked}
use Rattle.law_formed.proofs.Rooted.{empty_entries}
use Rattle.release_pages.specs.Releasable.{starts_below}

module _ (v : ℕ) where
  run-clear : (r z : ℕ) (es : List Entry) → Run r es z → v ≤ r → first_low v es ≡ clear
  unfolding first_low
  run-clear _ _ _ (none r) l = refl
  run-clear _ _ _ (more r x z page es u s) l = rw (le-ltb r v l) (run-clear x z es s (omega arith))

  run-pivot : (r z : ℕ) (es : List Entry) → Run r es z → first_low v es ≡ pick (ltb 0 (length es) && ltb r v) (at r) clear
  unfolding first_low
  run-pivot _ _ _ (none r) = refl
  run-pivot _ _ _ (more r x z page es u s) =
      by_test (ltb r v)
      (λ t. rw (t, lt-ltb 0 (suc (length es)) (omega arith)))
      (λ t. rw (t, lt-ltb 0 (suc (length es)) (omega arith)) (run-clear x z es s (omega (arith, ltb-false r v t))))

  module _ (C : Shape) (P : ℕ) (w : List ℕ) (n : ℕ) where
    root-run : SoundRoot C P w (height C w n) n → (z : ℕ) × Run (start C w n) (root_entries C w n) z
    root-run (empty_tree e) = (start C w n, rw (empty_entries C w (height C w n) n e (start C w n) Open) (none (start C w n)))
    root-run (sound_tree l g) = let k = sound-linked C P (height C w n) (level C w (suc (height C w n)) n) (start C w n) Open g in (k.end, k.run)

    -- the law
    pub pivot : SoundRoot C P w (height C w n) n → first_low v (root_entries C w n) ≡ pick (starts_below C w n (length (root_entries C w n)) v) (at (start C w n)) clear
    pivot s = let q = root-run s in run-pivot (start C w n) q.0 (root_entries C w n) q.1
