-- The call on a well-formed store: its first checks, and that the rest goes by the entries.
use Prim.Native.Nat.{ℕ, suc}
use mathlib.Core.List.{List}
use mathlib.Core.Bool.{true, false, ◌||◌}
use mathlib.Core.Path.{◌≡◌, sym, ap, ◌∙◌, subst}
use native.Mathlib.Omega.{arith}
use lib.ListN.{length}
use lib.Dec.{leb, eqb}
use borrow.Author.Tests.{le-leb, ne_eqb}
use Rattle.model.specs.Words.{Shape, pick, root, height, start, max_height}
use Rattle.model.specs.Tree.{node_at, Open, sound, empty_root, root_sound, Level, level}
use Rattle.model.specs.Reading.{visits, entries}
use Rattle.model.specs.Refusals.{refused, Outcome}
use Rattle.model.specs.Prune.{Scan, on, scan, ran_out, prune_scanned, prune_root, prune_checkpoint_prefix}
use Rattle.model.proofs.Tests.{is_true}
use Rattle.model.proofs.Sound.{sound-at}
use Rattle.model.proofs.Once.{own}
use Rattle.model.proofs.Lookup.{not_empty, is_empty}
use Rattle.law_formed.specs.Well.{Well}
use Rattle.law_formed.specs.Formed.{Blank, tree_of, Formed}
use Rattle.law_formed.proofs.Clean.{well-sound}
use Rattle.law_formed.proofs.Bridge.{blank_empty, formed-root}
use Rattle.law_formed.proofs.Opens.{formed-header}
use Rattle.law_prune.proofs.Check.{run, scan-sound}

-- nothing changes
abbrev refuse : List ℕ → ℕ → ℕ → Outcome
refuse w a d = record { answer = refused a d; words = w }

module _ (C : Shape) (P : ℕ) (w : List ℕ) (h r : ℕ) (ns : List ℕ) (formed : Formed C P w h r ns) where
  abbrev tree : Level (suc h)
  tree = tree_of C w h

  is_open : eqb (root w) P ≡ false
  is_open = ne_eqb (root w) P (λ e. omega (arith, (formed-root C P w h r ns formed).inside))

  module _ (none : Blank P h tree r) where
    empty_start : start C w (root w) ≡ r
    unfolding level
    empty_start = none.begin

  module _ (well : Well C P (suc h) tree r Open) where
    root-own : (height C w (root w) ≡ h) × (start C w (root w) ≡ r)
    root-own = own C P w h (root w) r Open (well-sound C P (suc h) tree r Open well)

    not-blank : empty_root C w (root w) ≡ false
    not-blank = not_empty C P w h (root w) r Open (well-sound C P (suc h) tree r Open well)

    root_ok : root_sound C w (root w) ≡ true
    unfolding root_sound Well level
    root_ok =
        let n = root w in
        let here : sound C h (node_at C w n) r Open ≡ true = sym (sound-at (level C w h) C w h n r Open) ∙ is_true (sound C h tree r Open) well.1 in
        let there : sound C (height C w n) (node_at C w n) (start C w n) Open ≡ true =
        subst (λ (k : ℕ). sound C k (node_at C w n) (start C w n) Open ≡ true) (sym root-own.0) (subst (λ (k : ℕ). sound C h (node_at C w n) k Open ≡ true) (sym root-own.1) here) in
        rw (not-blank, there, le-leb (height C w n) max_height (omega (arith, root-own.0, formed.high)))

  module _ (s e : ℕ) (ids : List ℕ) where
    -- on an empty root
    pub asked-blank : Blank P h tree r
        → prune_checkpoint_prefix C.slots w s e ids ≡ pick (eqb (length ids) 0 || leb e s) (refuse w 7 0) (pick (eqb s r) (refuse w 11 0) (refuse w 8 r))
    unfolding prune_checkpoint_prefix root_sound
    asked-blank none = rw (formed-header C P w h r ns formed, formed.pool-is, is_open, formed.capacity-is, is_empty C w (root w) (blank_empty C P w h r none), empty_start none)

    module _ (well : Well C P (suc h) tree r Open) where
      by_entries : prune_root C P w (root w) h e ids tree ≡ prune_scanned C P w (root w) h e tree (ran_out e (run e (entries (suc h) tree r Open) (on ids 0 0)))
      unfolding prune_root level
      by_entries =
          ap (λ (x : Scan). prune_scanned C P w (root w) h e tree (ran_out e x))
          (subst (λ (k : ℕ). scan C w e (visits false C P (suc h) (root w) tree k Open) (on ids 0 0) ≡ run e (entries (suc h) tree r Open) (on ids 0 0)) (sym (root-own well).1)
          (scan-sound C P w e h (root w) (root w) r Open (on ids 0 0) (well-sound C P (suc h) tree r Open well)))

      pub asked-held : prune_checkpoint_prefix C.slots w s e ids
          ≡ pick (eqb (length ids) 0 || leb e s) (refuse w 7 0)
          (pick (eqb s r) (prune_scanned C P w (root w) h e tree (ran_out e (run e (entries (suc h) tree r Open) (on ids 0 0)))) (refuse w 8 r))
      unfolding prune_checkpoint_prefix
      asked-held = rw (formed-header C P w h r ns formed, formed.pool-is, is_open, formed.capacity-is, root_ok well, not-blank well, (root-own well).0, (root-own well).1, by_entries)
