-- The climb, a node at a time.
use Prim.Native.Nat.{ℕ, ◌+◌, ◌<◌, ◌≤◌}
use mathlib.Core.List.{List}
use mathlib.Core.Path.{◌≡◌, refl, ap, ◌∙◌}
use native.Mathlib.Omega.{arith}
use lib.ListN.{length}
use Rattle.model.specs.Words.{Shape, count, Header}
use Rattle.model.specs.Paths.{last_of, popped}
use Rattle.model.specs.declared.path.Path.{Path}
use Rattle.law_formed.specs.Visits.{lefts}
use Rattle.tree_tally.specs.Tally.{few}
use Rattle.tree_tally.proofs.Few.{few-is, few-most}
use Rattle.prune_boundary.specs.Edge.{went_of, trims_on, Ended, Climbed, Topped}
use Rattle.prune_boundary.proofs.Climbs.{marked, went-marked, start-climb, climb, one_more, edge_few}

-- k nodes go where the climb began, j where it stands
pub record Climbing (C : Shape) (P : ℕ) (w : List ℕ) (p : Path) (k : ℕ) (q : Path) (j : ℕ) : Type 0 where
  pub end : ℕ
  pub root : ℕ
  pub climbed : Climbed C P w end root q
  pub keeps : (e n : ℕ) → Climbed C P w e n p → Climbed C P w e n q
  pub steps : j + q.depth ≡ k + p.depth
  pub more : length (went_of C w (trims_on q)) + q.depth ≡ length (went_of C w (trims_on p)) + p.depth
  pub low : p.depth ≤ 32
  pub small : k ≤ 4294967296

module _ {C : Shape} {P : ℕ} {w : List ℕ} where
  -- k is the count of the scan
  pub start_climbing : (e n : ℕ) (p : Path) (u k : ℕ) → Ended C P w e n p u k → p.depth ≤ 32 → Climbing C P w (marked p u) k (marked p u) k
  start_climbing e n p u k d l =
      record { end = e; root = n; climbed = start-climb d; keeps = λ x y c. c; steps = refl; more = refl; low = l; small = omega (arith, d.counted, few-most (length (lefts d.seen))) }

  module _ {p : Path} {k : ℕ} {q : Path} {j : ℕ} (c : Climbing C P w p k q j) where
    pub step : 1 < q.depth → count C w (last_of q).node.0 ≤ (last_of q).index → Climbing C P w p k (popped q) (j + 1)
    step l m =
        record {
          end = c.end;
          root = c.root;
          climbed = climb c.climbed l m;
          keeps = λ e n x. climb (c.keeps e n x) l m;
          steps = omega (arith, c.steps);
          more = omega (arith, c.more, one_more c.climbed l m);
          low = c.low;
          small = c.small;
        }

-- the climb ends
pub topped : {C : Shape} {P : ℕ} {w : List ℕ} (e n : ℕ) (p : Path) (u k : ℕ) (q : Path) (j : ℕ) → Header C.cap P w → Climbing C P w (marked p u) k q j
    → (count C w (last_of q).node.0 ≤ (last_of q).index → q.depth ≡ 1) → Ended C P w e n p u k → Topped C P w e n q j
topped {C} {P} {w} e n p u k q j hd c whole d =
    let s = start-climb d in
    let few-went = edge_few s in
    let are : lefts d.seen ≡ went_of C w (trims_on (marked p u)) = went-marked d in
    let exact : k ≡ length (went_of C w (trims_on (marked p u))) = d.counted ∙ ap (λ (ns : List ℕ). few (length ns)) are ∙ few-is (length (went_of C w (trims_on (marked p u)))) (omega (arith, few-went, hd.pool-high)) in
    record { climbed = c.keeps e n s; whole = whole; counted = omega (arith, exact, c.steps, c.more) }
