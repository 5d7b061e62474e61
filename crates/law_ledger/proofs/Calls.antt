-- The laws of create, append and prune on a store that holds a ledger.
use Prim.Native.Nat.{ℕ, suc, ◌+◌, ◌-◌}
use mathlib.Core.List.{List, [], ◌∷◌, ◌++◌}
use mathlib.Core.Path.{◌≡◌, refl, sym, ap, ◌∙◌, subst}
use native.Mathlib.Omega.{arith}
use lib.ListN.{length}
use Rattle.model.specs.Words.{store_shape, Arrangement, shape, capacity, pool, root, height, start}
use Rattle.model.specs.Tree.{Open, Below, level}
use Rattle.model.specs.Reading.{Entry, entries, nodes}
use Rattle.model.specs.Refusals.{result, Outcome}
use Rattle.model.specs.Create.{create}
use Rattle.model.specs.Append.{insert_row_page}
use Rattle.model.specs.Prune.{prune_checkpoint_prefix}
use Rattle.model.specs.Ledger.{Range, Ledger, empty_ledger, end_from, ledger_end, ledger_append, Cut, refuses, leaves, ledger_cut}
use Rattle.law_formed.specs.Formed.{tree_of, Formed}
use Rattle.law_formed.specs.Holds.{entries_from, Holds}
use Rattle.law_formed.proofs.Bridge.{formed_of, formed-root}
use Rattle.law_formed.proofs.Entries.{from-append, formed-holds, holds-formed}
use Rattle.law_append.specs.Needed.{entries_end}
use Rattle.law_append.specs.Inserted.{end_row, verdict}
use Rattle.law_append.specs.Created.{numbers_from}
use Rattle.model.proofs.Still.{insert_still}
use Rattle.law_append.proofs.Insert.{insert_verdict, insert_keeps}
use Rattle.law_append.proofs.Create.{create-formed, create_empty}
use Rattle.law_prune.specs.Pruned.{collapsed_levels, Follows}
use Rattle.law_prune.proofs.Prune.{prune-answer}
use Rattle.law_ledger.specs.Sizes.{tree_height, tree_size, needed_nodes}
use Rattle.law_ledger.specs.Laws.{InsertLaw, levels_gone, PruneLaw}

-- entries end where the ledger does
pub ends : (s : ℕ) (gs : List Range) → entries_end s (entries_from s gs) ≡ end_from s gs
unfolding entries_end entries_from end_from
ends s [] = refl
ends s (g ∷ gs) = ends g.end gs

levels-are : (e h g : ℕ) (gs : List Range) → collapsed_levels h g (entries_from e gs) ≡ levels_gone h g gs
unfolding collapsed_levels entries_from levels_gone
levels-are e h g [] = refl
levels-are e h g (a ∷ gs) = refl

-- Create -------------------------------------------------------------------------------------------------

pub create_law : (L : Arrangement) (w : List ℕ) (C P s : ℕ) → (create L w C P s).answer ≡ result [] → Holds L (create L w C P s).words (empty_ledger s)
unfolding entries_from
create_law L w C P s e = formed-holds (shape L C) P (create L w C P s).words 0 s (numbers_from 1 (P - 1)) (create-formed (shape L C) P w s e) [] (create_empty (shape L C) P w s e)

-- Append -------------------------------------------------------------------------------------------------

module _ (L : Arrangement) (w : List ℕ) (l : Ledger) (H : Holds L w l) where
  F : (ns : List ℕ) × Formed (store_shape L w) (pool w) w (tree_height L w) (start (store_shape L w) w (root w)) ns
  F = formed_of L w H.formed

  at : (l.start ≡ start (store_shape L w) w (root w)) × (entries (suc (tree_height L w)) (tree_of (store_shape L w) w (tree_height L w)) (start (store_shape L w) w (root w)) Open ≡ entries_from (start (store_shape L w) w (root w)) l.ranges)
  at = holds-formed (store_shape L w) (pool w) w (tree_height L w) (start (store_shape L w) w (root w)) F.0 F.1 l H

  end_is : end_row (store_shape L w) w (tree_height L w) (start (store_shape L w) w (root w)) ≡ ledger_end l
  unfolding ledger_end
  end_is = ap (entries_end (start (store_shape L w) w (root w))) at.1 ∙ ends (start (store_shape L w) w (root w)) l.ranges ∙ ap (λ (s : ℕ). end_from s l.ranges) (sym at.0)

  -- the new range as an entry
  added : (k x : ℕ) → entries_from (start (store_shape L w) w (root w)) (ledger_append l k x).ranges
      ≡ entries_from (start (store_shape L w) w (root w)) l.ranges ++ ((record { low = ledger_end l; high = Below (ledger_end l + k); page = x }) ∷ [])
  unfolding ledger_append ledger_end entries_from
  added k x =
      let r = start (store_shape L w) w (root w) in
      from-append r l.ranges ((record { end = ledger_end l + k; page = x }) ∷ [])
      ∙ ap (λ (s : ℕ). entries_from r l.ranges ++ ((record { low = end_from s l.ranges; high = Below (ledger_end l + k); page = x }) ∷ [])) (sym at.0)

  kept : (k x : ℕ) (v : List ℕ) → (insert_row_page L w k x).answer ≡ result v → Holds L (insert_row_page L w k x).words (ledger_append l k x)
  unfolding ledger_append
  kept k x v e =
      let r = start (store_shape L w) w (root w) in
      let A = insert_keeps (store_shape L w) (pool w) w (tree_height L w) r F.0 F.1 k x v e in
      let one : ℕ → List Entry = λ s. (record { low = s; high = Below (s + k); page = x }) ∷ [] in
      subst (λ (s : ℕ). Holds L (insert_row_page L w k x).words (record { start = s; ranges = (ledger_append l k x).ranges })) (sym at.0)
      (formed-holds (store_shape L w) (pool w) (insert_row_page L w k x).words A.above r A.rest A.formed (ledger_append l k x).ranges
      (A.more ∙ ap (λ (es : List Entry). es ++ one (end_row (store_shape L w) w (tree_height L w) r)) at.1
      ∙ ap (λ (s : ℕ). entries_from r l.ranges ++ one s) end_is ∙ sym (added k x)))

  pub insert_law : (k x : ℕ) → InsertLaw L w l k x
  insert_law k x =
      record {
        answer =
            insert_verdict (store_shape L w) (pool w) w (tree_height L w) (start (store_shape L w) w (root w)) F.0 F.1 k x
            ∙ ap (λ (s : ℕ). verdict k s (tree_height L w) (needed_nodes L w) (length F.0)) end_is
            ∙ ap (verdict k (ledger_end l) (tree_height L w) (needed_nodes L w)) (sym F.1.free);
        refusal = λ a d e. ap (λ (o : Outcome). o.words) (insert_still w L k x a d e);
        accepted = kept k x;
      }

  -- Prune ------------------------------------------------------------------------------------------------

  module _ (s e : ℕ) (ids : List ℕ) where
    o : Outcome
    o = prune_checkpoint_prefix L w s e ids

    -- from the start that the ledger has
    G : Formed (store_shape L w) (pool w) w (tree_height L w) l.start F.0
    G = subst (λ (r : ℕ). Formed (store_shape L w) (pool w) w (tree_height L w) r F.0) (sym at.0) F.1

    es : entries (suc (tree_height L w)) (tree_of (store_shape L w) w (tree_height L w)) l.start Open ≡ entries_from l.start l.ranges
    es = subst (λ (r : ℕ). entries (suc (tree_height L w)) (tree_of (store_shape L w) w (tree_height L w)) r Open ≡ entries_from r l.ranges) (sym at.0) at.1

    follows : (c : Cut) → Follows (store_shape L w) (pool w) w (tree_height L w) l.start F.0 e ids c (prune_checkpoint_prefix L w s e ids) → PruneLaw L w e ids c (prune_checkpoint_prefix L w s e ids)
    unfolding Follows PruneLaw
    follows (refuses a d) f = f
    follows (leaves gs) f =
        let v = (prune_checkpoint_prefix L w s e ids).words in
        let A = f.0 in
        let p = A.pruned in
        let R = formed-root (store_shape L w) (pool w) v p.height e p.chain p.formed in
        let c : capacity v ≡ capacity w = p.formed.capacity-is in
        let tall : tree_height L v ≡ p.height = ap (λ (x : ℕ). height (shape L x) v (root v)) c ∙ R.tall in
        record {
          freed = A.f;
          levels = A.l;
          answer = A.answer;
          holds = formed-holds (store_shape L w) (pool w) v p.height e p.chain p.formed gs f.1;
          nodes = p.fewer ∙ ap (λ (x : ℕ). tree_size L w - x)
              (ap (λ (h : ℕ). length (nodes (suc h) (level (store_shape L w) v (suc h) (root v)))) (sym tall) ∙ ap (λ (x : ℕ). length (nodes (suc (tree_height L v)) (level (shape L x) v (suc (tree_height L v)) (root v)))) (sym c));
          collapsed = p.levels ∙ ap (collapsed_levels (tree_height L w) p.height) f.1 ∙ levels-are e (tree_height L w) p.height gs ∙ ap (λ (h : ℕ). levels_gone (tree_height L w) h gs) (sym tall);
          free = p.formed.free ∙ p.more ∙ ap (λ (x : ℕ). x + A.f) (sym F.1.free);
          lower = omega (arith, tall, p.lower);
        }

    pub prune_law : PruneLaw L w e ids (ledger_cut l s e ids) (prune_checkpoint_prefix L w s e ids)
    prune_law = follows (ledger_cut l s e ids) (prune-answer (store_shape L w) (pool w) w (tree_height L w) F.0 l G es s e ids)
