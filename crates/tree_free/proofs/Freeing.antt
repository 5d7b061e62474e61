-- Nodes freed as they are left. The walk is told in the words w before the first was freed: of them each turn reads nodes
-- that were not freed yet, and no soundness test is needed.
use Prim.Native.Nat.{ℕ, suc, ◌+◌, ◌<◌, ◌≤◌}
use mathlib.Core.List.{List, [], ◌∷◌, ◌++◌}
use mathlib.Core.Bool.{false}
use mathlib.Core.Path.{◌≡◌, refl, sym, ap, ◌∙◌, subst}
use native.Mathlib.Omega.{arith}
use lib.ListN.{length}
use lib.Dec.{T, ltb}
use borrow.Author.Tests.{ltb-true, ltb-false}
use Rattle.model.specs.Words.{Shape, count, free_count, Header, freed, free_all}
use Rattle.model.specs.Reading.{Visit, Enter, Leave, Bad, occ}
use Rattle.model.specs.Paths.{trail, last_of, above, popped, entered_path}
use Rattle.model.specs.declared.path.Position.{Position}
use Rattle.model.specs.declared.path.Path.{Path}
use Rattle.model.proofs.Tests.{by_test}
use Rattle.model.proofs.Words.{header_at}
use Rattle.model.proofs.Paths.{stack_pop}
use Rattle.model.proofs.Frame.{Same, occ_self}
use Rattle.model.proofs.Writes.{occ_cons, freed-length, freed-keeps, freed-count}
use Rattle.law_formed.specs.Visits.{clean, lefts, enters}
use Rattle.tree_turn.specs.Left.{left, ValidPath, on_path}
use Rattle.tree_turn.specs.Turn.{stepping}
use Rattle.std.specs.Prelude.{Option, Some, None}
use Rattle.model.specs.declared.id.NodeNo.{NodeNo}
use Rattle.tree_turn.proofs.Valid.{valid-top}
use Rattle.tree_turn.proofs.Rest.{left-none}
use Rattle.tree_turn.proofs.InPlace.{entered-trail, entered-length}
use Rattle.tree_turn.proofs.Branch.{step_same}
use Rattle.tree_turn.proofs.Turns.{falls, Sure, step-up, step_room, step-short, step_down}

-- What holds at a turn: j of k nodes are freed in words s, and W are the words at the end. The visits seen are the next ones.
pub record Freeable (C : Shape) (P : ℕ) (w W : List ℕ) (k j : ℕ) (s : List ℕ) (p : Path) : Type 0 where
  pub header : Header C.cap P s
  pub valid : ValidPath C P w p
  pub deep : p.depth ≤ 32
  pub long : length p.positions ≡ 32
  pub seen : List Visit
  pub after : List Visit
  pub parts : left false C P w p ≡ seen ++ after
  pub all-clean : T (clean seen)
  pub once-each : (m : ℕ) → occ m (on_path (trail p)) + occ m (enters seen) ≤ 1
  pub same : (m : ℕ) → 0 < occ m (on_path (trail p)) + occ m (enters seen) → Same C w s m
  pub many : j + length (lefts seen) ≡ k
  pub room : free_count s + length (lefts seen) ≤ 65535
  pub told : W ≡ free_all C s (lefts seen)

-- the first of the visits seen
first-seen : (seen after vs : List Visit) (x : Visit) → seen ++ after ≡ x ∷ vs → 0 < length (lefts seen) → (more : List Visit) × (seen ≡ x ∷ more) × (vs ≡ more ++ after)
unfolding lefts
first-seen [] after vs x e l = absurd (omega arith)
first-seen (y ∷ ys) after vs x e l = (ys, cc, cc)

module _ {C : Shape} {P : ℕ} {w W : List ℕ} {k j : ℕ} {s : List ℕ} {p : Path} (f : Freeable C P w W k j s p) where
  -- k nodes are freed
  none_left : (vs : List Visit) → length (lefts vs) ≡ 0 → free_all C s (lefts vs) ≡ s
  unfolding free_all
  none_left vs e = go (lefts vs) e
    where
      go : (ns : List ℕ) → length ns ≡ 0 → free_all C s ns ≡ s
      go [] z = refl
      go (n ∷ ns) z = absurd (omega arith)

  pub enough : k ≤ j → s ≡ W
  enough l = sym (f.told ∙ none_left f.seen (omega (arith, f.many)))

  -- there are visits left where some node is
  some_left : j < k → 0 < p.depth
  unfolding lefts
  some_left l =
      by_test (ltb 0 p.depth) (λ t. ltb-true 0 p.depth t)
      (λ t. let e : f.seen ++ f.after ≡ [] = sym f.parts ∙ left-none false C P w p (omega (arith, ltb-false 0 p.depth t)) in
      absurd (omega (arith, l, f.many, none f.seen f.after e)))
    where
      none : (a b : List Visit) → a ++ b ≡ [] → length (lefts a) ≡ 0
      none [] b e = refl
      none (x ∷ a) b e = let y : ◌≡◌ {A = ℕ} 0 1 = cc in absurd (omega arith)

  module _ (l : j < k) where
    pub some_depth : 0 < p.depth
    some_depth = some_left l

    pops : trail p ≡ last_of p ∷ above p
    pops = stack_pop p.positions p.depth some_depth

    on-top : (m : ℕ) → occ m (on_path (trail p)) ≡ occ m ((last_of p).node.0 ∷ []) + occ m (on_path (above p))
    unfolding on_path
    on-top m = ap (λ (st : List Position). occ m (on_path st)) pops ∙ occ_cons m (last_of p).node.0 (on_path (above p))

    -- the last node has the words that it had
    same-last : Same C w s (last_of p).node.0
    same-last = f.same (last_of p).node.0 (omega (arith, on-top (last_of p).node.0, occ_self (last_of p).node.0))

    pub last_in_lem : ((last_of p).node.0 < P) × (count C s (last_of p).node.0 ≤ C.cap)
    last_in_lem = let t = valid-top C P w p some_depth f.valid in (t.inside, omega (arith, t.narrow, same-last 1 (omega arith)))

    same_step : (x : Option NodeNo) → x ≡ stepping C s (last_of p).node.0 (last_of p).index → x ≡ stepping C w (last_of p).node.0 (last_of p).index
    same_step x e = e ∙ sym (step_same C w s (last_of p).node.0 (last_of p).index same-last (valid-top C P w p some_depth f.valid).narrow)

    -- the next visit is no unsound node
    pub sure : Sure C P w p
    unfolding clean
    sure =
        record {
          valid = f.valid;
          deep = f.deep;
          long = f.long;
          no_bad = λ m a. (let q = first-seen f.seen f.after _ (Bad m) (sym f.parts ∙ a.one) (omega (arith, f.many)) in
              absurd (subst (λ (vs : List Visit). T (clean vs)) q.1 f.all-clean));
        }

    -- the last node is left, and freed
    module _ (g : None ≡ stepping C s (last_of p).node.0 (last_of p).index) where
      up : None ≡ stepping C w (last_of p).node.0 (last_of p).index
      up = same_step None g

      pub goes-out : Freeable C P w W k (j + 1) (freed C s (last_of p).node.0) (popped p)
      unfolding clean lefts enters free_all
      goes-out =
          let n = (last_of p).node.0 in
          let a = step-up sure some_depth up in
          let q = first-seen f.seen f.after (left false C P w (popped p)) (Leave n) (sym f.parts ∙ a.one) (omega (arith, f.many)) in
          let more = q.0 in
          let long-is : length (lefts f.seen) ≡ suc (length (lefts more)) = ap (λ (vs : List Visit). length (lefts vs)) q.1 in
          let in_is : (m : ℕ) → occ m (enters f.seen) ≡ occ m (enters more) = λ m. ap (λ (vs : List Visit). occ m (enters vs)) q.1 in
          record {
            header = header_at C.cap P s (freed C s n) f.header (freed-length C s n);
            valid = a.valid;
            deep = omega (arith, f.deep);
            long = f.long;
            seen = more;
            after = f.after;
            parts = q.2;
            all-clean = subst (λ (vs : List Visit). T (clean vs)) q.1 f.all-clean;
            once-each = λ m. omega (arith, f.once-each m, on-top m, in_is m);
            same = λ m h i b. (f.same m (omega (arith, on-top m, in_is m)) i b
                ∙ freed-keeps C s n m (λ x. absurd (omega (arith, f.once-each n, on-top n, in_is n, occ_self n, subst (λ (y : ℕ). 0 < occ y (on_path (above p)) + occ y (enters more)) x h))) i b);
            many = omega (arith, f.many, long-is);
            room = omega (arith, f.room, long-is, freed-count C s n P f.header);
            told = f.told ∙ ap (λ (vs : List Visit). free_all C s (lefts vs)) q.1;
          }

      pub less-out : length (left false C P w (popped p)) < length (left false C P w p)
      less-out = falls (step-up sure some_depth up)

    -- a child is entered
    module _ (c : ℕ) (g : Some (record { 0 = c }) ≡ stepping C s (last_of p).node.0 (last_of p).index) where
      down : Some (record { 0 = c }) ≡ stepping C w (last_of p).node.0 (last_of p).index
      down = same_step (Some (record { 0 = c })) g

      pub goes_in : Freeable C P w W k j s (entered_path p c)
      unfolding clean lefts enters on_path
      goes_in =
          let n = (last_of p).node.0 in
          let a = step_down sure some_depth down in
          let q = first-seen f.seen f.after (left false C P w (entered_path p c)) (Enter c) (sym f.parts ∙ a.one) (omega (arith, f.many)) in
          let more = q.0 in
          let left_is : lefts f.seen ≡ lefts more = ap (λ (vs : List Visit). lefts vs) q.1 in
          let on-is : (m : ℕ) → occ m (on_path (trail (entered_path p c))) + occ m (enters more) ≡ occ m (on_path (trail p)) + occ m (enters f.seen) =
          λ m. omega (arith, on-top m, ap (λ (vs : List Visit). occ m (enters vs)) q.1, occ_cons m c (enters more), ap (λ (st : List Position). occ m (on_path st)) (entered-trail p some_depth f.long c (step_room sure some_depth down)), occ_cons m c (n ∷ on_path (above p)), occ_cons m n (on_path (above p))) in
          record {
            header = f.header;
            valid = a.valid;
            deep = omega (arith, step_room sure some_depth down);
            long = entered-length p some_depth f.long c;
            seen = more;
            after = f.after;
            parts = q.2;
            all-clean = subst (λ (vs : List Visit). T (clean vs)) q.1 f.all-clean;
            once-each = λ m. omega (arith, f.once-each m, on-is m);
            same = λ m h. f.same m (omega (arith, on-is m));
            many = omega (arith, f.many, ap (λ (ns : List ℕ). length ns) left_is);
            room = omega (arith, f.room, ap (λ (ns : List ℕ). length ns) left_is);
            told = f.told ∙ ap (free_all C s) left_is;
          }

      pub less_in : length (left false C P w (entered_path p c)) < length (left false C P w p)
      less_in = falls (step_down sure some_depth down)

      pub room_in : (p.depth < 32) × ((last_of p).index < C.cap)
      room_in = (step_room sure some_depth down, step-short sure some_depth down)

-- what `free_first` cites
pub ruleset of_free_first = (goes-out, goes_in)
