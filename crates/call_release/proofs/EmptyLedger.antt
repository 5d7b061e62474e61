-- The empty form on a store that holds a ledger: it accepts exactly the ledgers with no range, and then does what
-- release does.
use Prim.Native.Nat.{ℕ, suc, ◌+◌, ◌<◌, ◌≤◌}
use mathlib.Core.List.{List, [], ◌∷◌}
use mathlib.Core.Path.{◌≡◌, ap, ◌∙◌}
use native.Mathlib.Omega.{arith}
use lib.ListN.{length}
use borrow.Author.Tests.{le-leb}
use Rattle.model.specs.Words.{store_shape, Shape, lent, pool, root, free_count, height, start, max_height}
use Rattle.model.specs.Tree.{Open, sound, root_sound, level, AllSound}
use Rattle.model.specs.Reading.{Entry, root_entries, root_nodes}
use Rattle.model.specs.Refusals.{Answer, result, refused, Outcome}
use Rattle.model.specs.WellFormed.{EmptyRoot, SoundRoot, empty_tree, sound_tree, WellFormed}
use Rattle.model.specs.Ledger.{Ledger}
use Rattle.model.specs.Release.{released_words, destroy_empty}
use Rattle.model.proofs.Tests.{is_true}
use Rattle.model.proofs.Sound.{sound-at}
use Rattle.model.proofs.Lookup.{is_empty, not_empty}
use Rattle.law_formed.specs.Holds.{Holds}
use Rattle.law_formed.proofs.Opens.{sum, goes_on}
use Rattle.law_formed.proofs.Rooted.{empty_nodes, empty_entries}
use Rattle.law_formed.proofs.Entries.{from-length}
use Rattle.law_prune.proofs.Stay.{Starts, starts, sound-starts}

some-entries : (r : ℕ) (es : List Entry) → Starts r es → 0 < length es
some-entries r _ (starts a es e) = omega arith

module _ (w : List ℕ) (F : WellFormed lent w) where
  abbrev C : Shape
  C = store_shape lent w

  abbrev P : ℕ
  P = pool w

  abbrev n : ℕ
  n = root w

  abbrev refuses : Answer → Outcome
  refuses a = record { answer = a; words = w }

  root_is : SoundRoot C P w (height C w n) n
  unfolding WellFormed
  root_is = F.sound

  accepts_empty : EmptyRoot C w n → destroy_empty lent w ≡ record { answer = result (1 ∷ 0 ∷ []); words = released_words C P w (root_nodes C w n) }
  unfolding destroy_empty root_sound
  accepts_empty e =
      let one = empty_nodes C w (height C w n) n e in
      goes_on lent w F refuses _
      ∙ rw (is_empty C w n e, le-leb (free_count w + 1) P (omega (arith, sum lent w F, ap length one)), one)

  refuses-filled : height C w n ≤ max_height → AllSound C P (suc (height C w n)) (level C w (suc (height C w n)) n) (start C w n) Open → destroy_empty lent w ≡ refuses (refused 12 0)
  unfolding destroy_empty root_sound AllSound level
  refuses-filled u g =
      let h = height C w n in
      goes_on lent w F refuses _
      ∙ rw (not_empty C P w h n (start C w n) Open g, le-leb h max_height u, ← sound-at (level C w h) C w h n (start C w n) Open, is_true (sound C h (level C w (suc h) n) (start C w n) Open) g.1)

  module _ (l : Ledger) (H : Holds lent w l) where
    many : length (root_entries C w n) ≡ length l.ranges
    many = ap length H.entries ∙ from-length l.start l.ranges

    accepted : length l.ranges ≡ 0 → destroy_empty lent w ≡ record { answer = result (1 ∷ 0 ∷ []); words = released_words C P w (root_nodes C w n) }
    accepted z = go root_is
      where
        go : SoundRoot C P w (height C w n) n → destroy_empty lent w ≡ record { answer = result (1 ∷ 0 ∷ []); words = released_words C P w (root_nodes C w n) }
        go (empty_tree e) = accepts_empty e
        go (sound_tree u g) = absurd (omega (arith, many, z, some-entries (start C w n) (root_entries C w n) (sound-starts C P (suc (height C w n)) (level C w (suc (height C w n)) n) (start C w n) Open g)))

    refused_when_filled : 0 < length l.ranges → destroy_empty lent w ≡ refuses (refused 12 0)
    refused_when_filled z = go root_is
      where
        go : SoundRoot C P w (height C w n) n → destroy_empty lent w ≡ refuses (refused 12 0)
        go (empty_tree e) = absurd (omega (arith, many, z, ap length (empty_entries C w (height C w n) n e (start C w n) Open)))
        go (sound_tree u g) = refuses-filled u g

module _ (w : List ℕ) (l : Ledger) (H : Holds lent w l) where
  pub empty_released : length l.ranges ≡ 0 → destroy_empty lent w ≡ record { answer = result (1 ∷ 0 ∷ []); words = released_words (store_shape lent w) (pool w) w (root_nodes (store_shape lent w) w (root w)) }
  empty_released z = accepted w H.formed l H z

  pub filled-refused : 0 < length l.ranges → destroy_empty lent w ≡ record { answer = refused 12 0; words = w }
  filled-refused z = refused_when_filled w H.formed l H z
