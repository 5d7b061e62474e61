-- A path settled level by level.
use Prim.Native.Nat.{ℕ, ◌+◌, ◌<◌, ◌≤◌}
use mathlib.Core.Path.{◌≡◌, refl, ◌∙◌}
use native.Mathlib.Omega.{arith}
use lib.ListN.{get_or, set, length, length-set}
use lib.Seq.{get_or-set_same, get_or-set_other}
use lib.Dec.{eqb}
use borrow.Author.Tests.{eqb-true, eqb-false}
use Rattle.model.specs.Paths.{no_position}
use Rattle.model.specs.declared.path.Position.{Position}
use Rattle.model.specs.declared.path.Path.{Path}
use Rattle.model.proofs.Tests.{by_test}
use Rattle.prune_boundary.specs.Edge.{goes_at, Settled}

-- position i of path p, settled
abbrev pub settled_at : Path → ℕ → Position
settled_at p i = record { node = (get_or p.positions i no_position).node; index = goes_at p.depth i (get_or p.positions i no_position).index }

-- the first i levels of q are
pub record Settling (p q : Path) (d i : ℕ) : Type 0 where
  pub settled : Settled p q i
  pub rest : (j : ℕ) → i ≤ j → get_or q.positions j no_position ≡ get_or p.positions j no_position
  pub within : i ≤ d

pub start_settling : (p : Path) (d : ℕ) → length p.positions ≡ 32 → Settling p p d 0
start_settling p d l = record { settled = record { depth_is = refl; long = l; each = λ j m. absurd (omega arith) }; rest = λ j m. refl; within = omega arith }

module _ {p q : Path} {d i : ℕ} (s : Settling p q d i) where
  pub done : d ≤ i → Settled p q d
  done l = record { depth_is = s.settled.depth_is; long = s.settled.long; each = λ j m. s.settled.each j (omega arith) }

  pub settle_one : i < d → d ≤ 32 → (k : ℕ) → k ≡ goes_at q.depth i (get_or q.positions i no_position).index
      → Settling p (record { positions = set q.positions i (record { node = (get_or q.positions i no_position).node; index = k }); depth = q.depth }) d (i + 1)
  settle_one l m k e =
      let x : Position = record { node = (get_or q.positions i no_position).node; index = k } in
      let same = s.rest i (omega arith) in
      let is : x ≡ settled_at p i = rw (e, same, s.settled.depth_is) in
      record {
        settled = record {
          depth_is = s.settled.depth_is;
          long = length-set q.positions i x ∙ s.settled.long;
          each = λ j b. by_test (eqb j i)
              (λ t. let y : j ≡ i = eqb-true j i t in rw y (get_or-set_same q.positions i x no_position (omega (arith, s.settled.long)) ∙ is))
              (λ t. get_or-set_other q.positions i j x no_position (λ z. eqb-false j i t z) ∙ s.settled.each j (omega (arith, eqb-false j i t)));
        };
        rest = λ j b. get_or-set_other q.positions i j x no_position (λ z. omega arith) ∙ s.rest j (omega arith);
        within = omega arith;
      }
