-- The walk that takes page ids: what it knows at each turn, and what a turn keeps.
use Prim.Native.Nat.{ℕ, suc, ◌+◌, ◌<◌, ◌≤◌}
use mathlib.Core.List.{List, [], ◌∷◌, ◌++◌}
use mathlib.Core.Bool.{false}
use mathlib.Core.Path.{◌≡◌, refl, sym, ap, ◌∙◌}
use native.Mathlib.Omega.{arith}
use lib.ListN.{length, length-append}
use Rattle.model.specs.Words.{Shape, fill, height}
use Rattle.model.specs.Reading.{Visit, Entry, page_ids, root_entries}
use Rattle.model.specs.Paths.{stack, last_of, entered, rooted, popped, entered_path}
use Rattle.model.specs.declared.path.Path.{Path}
use Rattle.model.proofs.Fill.{fill-append, length-fill}
use Rattle.tree_turn.specs.Left.{lowest, left, ValidPath}
use Rattle.std.specs.Prelude.{Some, None}
use Rattle.tree_turn.specs.Turn.{stepping}
use Rattle.tree_turn.proofs.Valid.{valid-path}
use Rattle.tree_turn.proofs.Rest.{left-none}
use Rattle.tree_turn.proofs.InPlace.{rooted-left}
use Rattle.tree_turn.proofs.Turns.{Known, sure, falls, step-up, known_up, step_down, known-down}
use Rattle.tree_free.proofs.Root.{begin}
use Rattle.release_pages.specs.Pages.{pages_at, pages_of}
use Rattle.release_pages.specs.Releasable.{Releasable}
use Rattle.release_pages.proofs.Found.{rest-pages}

-- L is the list at the end; the next page goes to place a of list l
pub record Taking (C : Shape) (P : ℕ) (w L : List ℕ) (p : Path) (l : List ℕ) (a : ℕ) : Type 0 where
  pub walk : Known C P w p
  pub told : L ≡ fill l a (pages_of C w (left false C P w p))
  pub room : a + length (pages_of C w (left false C P w p)) ≤ length l

pub record Takes (C : Shape) (P : ℕ) (w L : List ℕ) (p q : Path) (l : List ℕ) (a : ℕ) : Type 0 where
  pub taking : Taking C P w L q l a
  pub less : length (left false C P w q) < length (left false C P w p)

ids-length : (es : List Entry) → length (page_ids es) ≡ length es
ids-length [] = refl
ids-length (e ∷ es) = ap suc (ids-length es)

module _ (C : Shape) (P : ℕ) (w : List ℕ) (n : ℕ) (l : List ℕ) (d : Releasable C P w n 0) where
  walks : Known C P w (rooted n)
  unfolding stack
  walks =
      let b = begin C P w n d.inside d.sound in
      record { valid = valid-path C P w (rooted n) (height C w n) (entered n ∷ []) refl b.valid; deep = omega arith; long = refl; all-clean = rw (rooted-left false C P w n b.valid) b.all-clean }

  all-pages : pages_of C w (left false C P w (rooted n)) ≡ page_ids (root_entries C w n)
  unfolding ValidPath lowest stack
  all-pages = ap (pages_of C w) (rooted-left false C P w n walks.valid) ∙ rest-pages C P w n d.inside d.sound

  pub start-taking : length (root_entries C w n) ≤ length l → Taking C P w (fill l 0 (page_ids (root_entries C w n))) (rooted n) l 0
  start-taking h =
      record {
        walk = walks;
        told = ap (fill l 0) (sym all-pages);
        room = omega (arith, h, ap length all-pages, ids-length (root_entries C w n));
      }

module _ {C : Shape} {P : ℕ} {w L : List ℕ} {p : Path} {l : List ℕ} {a : ℕ} (t : Taking C P w L p l a) where
  pub all-taken : p.depth ≤ 0 → l ≡ L
  unfolding fill pages_of
  all-taken z = sym (t.told ∙ ap (λ (vs : List Visit). fill l a (pages_of C w vs)) (left-none false C P w p (omega arith)))

  module _ (z : 0 < p.depth) where
    -- a node is left
    module _ (e : None ≡ stepping C w (last_of p).node.0 (last_of p).index) where
      found : pages_of C w (left false C P w p) ≡ pages_at C w (last_of p).node.0 ++ pages_of C w (left false C P w (popped p))
      unfolding pages_of
      found = ap (pages_of C w) (step-up (sure t.walk) z e).one

      both : length (pages_of C w (left false C P w p)) ≡ length (pages_at C w (last_of p).node.0) + length (pages_of C w (left false C P w (popped p)))
      both = ap length found ∙ length-append (pages_at C w (last_of p).node.0) (pages_of C w (left false C P w (popped p)))

      pub leaf_room : a + length (pages_at C w (last_of p).node.0) ≤ length l
      leaf_room = omega (arith, both, t.room)

      pub takes_out : Takes C P w L p (popped p) (fill l a (pages_at C w (last_of p).node.0)) (a + length (pages_at C w (last_of p).node.0))
      takes_out =
          record {
            taking = record {
              walk = known_up t.walk z e;
              told = t.told ∙ ap (fill l a) found ∙ fill-append l a (pages_at C w (last_of p).node.0) (pages_of C w (left false C P w (popped p)));
              room = omega (arith, both, t.room, length-fill l a (pages_at C w (last_of p).node.0));
            };
            less = falls (step-up (sure t.walk) z e);
          }

    -- a child is entered
    pub takes_in : {c : ℕ} → Some (record { 0 = c }) ≡ stepping C w (last_of p).node.0 (last_of p).index → Takes C P w L p (entered_path p c) l a
    unfolding pages_of
    takes_in e =
        let m = step_down (sure t.walk) z e in
        record {
          taking = record {
            walk = known-down t.walk z e;
            told = t.told ∙ ap (λ (vs : List Visit). fill l a (pages_of C w vs)) m.one;
            room = omega (arith, t.room, ap (λ (vs : List Visit). length (pages_of C w vs)) m.one);
          };
          less = falls m;
        }
