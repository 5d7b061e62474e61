-- From its root on, all nodes of a sound tree are left, and can be freed.
use Prim.Native.Nat.{ℕ, suc, ◌+◌, ◌<◌, ◌≤◌, zero-le}
use mathlib.Core.List.{List, [], ◌∷◌, append-nil}
use mathlib.Core.Bool.{true, false}
use mathlib.Core.Path.{◌≡◌, refl, sym, ap, ◌∙◌, subst}
use native.Mathlib.Omega.{arith}
use lib.ListN.{length, take}
use lib.Seq.{take_all}
use lib.Dec.{T, eqb}
use Rattle.model.specs.Words.{Shape, height, count, start, free_count, Header, free_all, max_height}
use Rattle.model.specs.Tree.{Open, pairs_from, node_at, sound, level, AllSound}
use Rattle.model.specs.Reading.{Visit, Enter, Leave, passes, visits, occ, in_pairs, nodes, root_tree, root_nodes}
use Rattle.model.specs.WellFormed.{EmptyRoot, SoundRoot, empty_tree, sound_tree}
use Rattle.model.specs.Paths.{stack, entered, rooted}
use Rattle.model.proofs.Tests.{by_test, is_true}
use Rattle.model.proofs.Sound.{sound-at}
use Rattle.model.proofs.Once.{once}
use Rattle.model.proofs.Writes.{occ_cons}
use Rattle.law_formed.specs.Visits.{clean, lefts, enters}
use Rattle.law_formed.proofs.Clean.{sound-clean}
use Rattle.law_formed.proofs.Tally.{left-nodes, enters-nodes}
use Rattle.tree_turn.specs.Left.{bound, rest, Valid, on_path}
use Rattle.tree_turn.proofs.Valid.{valid-path}
use Rattle.tree_turn.proofs.Rest.{child-good, rest_end, valid-entered}
use Rattle.tree_turn.proofs.InPlace.{rooted-left}
use Rattle.tree_free.specs.CanFree.{CanFree}
use Rattle.tree_free.proofs.Freeing.{Freeable}

-- the visits of the tree from node n on, after the first
abbrev pub ahead : Shape → ℕ → List ℕ → ℕ → List Visit
ahead C P w n = rest false C P w (height C w n) (entered n ∷ [])

pub record Begin (C : Shape) (P : ℕ) (w : List ℕ) (n : ℕ) : Type 0 where
  pub valid : Valid C P w (height C w n) (entered n ∷ [])
  pub all-clean : T (clean (ahead C P w n))
  pub are : lefts (ahead C P w n) ≡ root_nodes C w n
  pub once-each : (m : ℕ) → occ m (n ∷ enters (ahead C P w n)) ≤ 1

occ-one : (m n : ℕ) → occ m (n ∷ []) ≤ 1
unfolding occ
occ-one m n = by_test (eqb m n) (λ t. rw t (omega arith)) (λ t. rw t (omega arith))

module _ (C : Shape) (P : ℕ) (w : List ℕ) (n : ℕ) (inside : n < P) where
  abbrev tall : ℕ
  tall = height C w n

  empty_nodes : count C w n ≡ 0 → root_nodes C w n ≡ n ∷ []
  unfolding nodes level pairs_from in_pairs
  empty_nodes z = rw z

  empty_rest : count C w n ≡ 0 → ahead C P w n ≡ Leave n ∷ []
  unfolding rest
  empty_rest z = rest_end false C P w tall (entered n) [] (omega arith)

  empty_begin : EmptyRoot C w n → Begin C P w n
  unfolding Valid clean lefts enters
  empty_begin e =
      record {
        valid = record { inside = inside; high = refl; within = zero-le; narrow = omega (arith, e.none); above = omega (arith, e.leaf) };
        all-clean = rw (empty_rest e.none) tt;
        are = rw (empty_rest e.none, empty_nodes e.none);
        once-each = λ m. rw (empty_rest e.none) (occ-one m n);
      }

  module _ (high : tall ≤ max_height) (g : AllSound C P (suc tall) (root_tree C w n) (start C w n) Open) where
    passed : passes false C tall (node_at C w n) (start C w n) Open ≡ true
    unfolding AllSound level passes
    passed = rw (← sound-at (level C w tall) C w tall n (start C w n) Open, is_true (sound C tall (root_tree C w n) (start C w n) Open) g.1)

    -- the visits of the tree
    from-root : visits false C P (suc tall) n (root_tree C w n) (start C w n) Open ≡ Enter n ∷ ahead C P w n
    unfolding bound rest
    from-root = sym (append-nil _) ∙ child-good false C P w tall n n (start C w n) [] inside passed

    sound-begin : Begin C P w n
    unfolding clean lefts enters Valid
    sound-begin =
        record {
          valid = valid-entered false C P w n tall (start C w n) Open [] inside passed (omega (arith, high));
          all-clean = subst (λ (vs : List Visit). T (clean vs)) from-root (sound-clean C P (suc tall) n (root_tree C w n) (start C w n) Open g);
          are = sym (ap (λ (vs : List Visit). lefts vs) from-root) ∙ left-nodes C P (suc tall) n (root_tree C w n) (start C w n) Open g;
          once-each = λ m. omega (arith, once C P w m (suc tall) n (start C w n) Open g, enters-nodes C P m (suc tall) n (root_tree C w n) (start C w n) Open g, ap (λ (vs : List Visit). occ m (enters vs)) from-root);
        }

  pub begin : SoundRoot C P w (height C w n) n → Begin C P w n
  begin (empty_tree e) = empty_begin e
  begin (sound_tree l g) = sound-begin l g

  -- the law: all nodes of a sound tree can be freed
  pub ready : Header C.cap P w → SoundRoot C P w (height C w n) n → (k : ℕ) → k ≡ length (root_nodes C w n) → free_count w + k ≤ 65535 → CanFree C P w n k
  ready hd s k e room =
      let b = begin s in
      record {
        header = hd;
        valid = b.valid;
        seen = ahead C P w n;
        after = [];
        parts = sym (append-nil (ahead C P w n));
        all-clean = b.all-clean;
        once-each = b.once-each;
        are = b.are ∙ sym (take_all k (root_nodes C w n) (omega arith));
        many = ap (λ (ns : List ℕ). length ns) b.are ∙ sym e;
        room = room;
      }

-- the first turn
pub start-freeing : (C : Shape) (P : ℕ) (w : List ℕ) (n k : ℕ) → CanFree C P w n k → Freeable C P w (free_all C w (take k (root_nodes C w n))) k 0 w (rooted n)
unfolding stack on_path
start-freeing C P w n k d =
    record {
      header = d.header;
      valid = valid-path C P w (rooted n) (height C w n) (entered n ∷ []) refl d.valid;
      deep = omega arith;
      long = refl;
      seen = d.seen;
      after = d.after;
      parts = rooted-left false C P w n d.valid ∙ d.parts;
      all-clean = d.all-clean;
      once-each = λ m. omega (arith, d.once-each m, occ_cons m n (enters d.seen));
      same = λ m h j b. refl;
      many = omega (arith, d.many);
      room = omega (arith, d.room, d.many);
      told = ap (free_all C w) (sym d.are);
    }
