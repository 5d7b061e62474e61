-- The words of a leaf's pairs are its records, written as words.
use Prim.Native.Nat.{ℕ, zero, suc, ◌+◌, ◌*◌, ◌/◌, ◌≤◌, ◌<◌}
use mathlib.Core.Path.{◌≡◌, refl, sym, ◌∙◌, ap, subst}
use mathlib.Core.List.{List, [], ◌∷◌}
use native.Mathlib.Omega.{arith}
use native.Mathlib.Numerals.{add-one}
use lib.ListN.{length, set, take, get_or}
use lib.Seq.{take-suc, length-take-le}
use Rattle.model.specs.Words.{lent, shape, fill, row, child, pair_words, Header}
use Rattle.std.specs.Prelude.{Option, Some, Result, Ok}
use Rattle.model.specs.LeafWalk.{Stepped, records, next_leaf_of}
use Rattle.model.specs.Refusals.{next_leaf}
use Rattle.model.specs.declared.answer.Leaf.{Leaf}
use Rattle.model.specs.declared.answer.Refusal.{Refusal}
use Rattle.model.specs.declared.cursor.RowPageIndexMemCursor.{RowPageIndexMemCursor}
use Rattle.model.specs.declared.node.PageEntry.{PageEntry}
use Rattle.model.proofs.Fill.{fill_snoc}
use Rattle.model.proofs.Parts.{pair_first}
use Rattle.node_read.specs.Layout.{shape_of, Fits}
use Rattle.next_records.specs.Listing.{records_of}
use Rattle.next_records.specs.declared.LeafEntries.{LeafEntries}
use Rattle.next_records.proofs.Filling.{length-records}
use Rattle.next_step.specs.declared.LeafStep.{LeafStep}
use Rattle.next_step.specs.Steps.{Steps}
use Rattle.next_words.specs.Written.{record_words, WordSteps}

pub length-words : (es : List PageEntry) → length (record_words es) ≡ 2 * length es
unfolding record_words
length-words [] = refl
length-words (e ∷ es) = omega (arith, length-words es)

-- from entry i on
pub pairs-are : (C : ℕ) (P : ℕ) (w : List ℕ) → Header C P w → (n i k : ℕ) → n < P → i + k ≤ C → pair_words (shape lent C) w n i k ≡ record_words (records (shape lent C) w n i k)
unfolding record_words records
pairs-are C P w hd n i zero l h = refl
pairs-are C P w hd n i (suc k) l h = pair_first C P w hd n i k l h ∙ ap (λ (t : List ℕ). row (shape lent C) w n i ∷ child (shape lent C) w n i ∷ t) (pairs-are C P w hd n (i + 1) k l (omega arith))

-- of a leaf with entries, all that are to be copied
pub pairs-all : (s : List ℕ) (e : LeafEntries) → Fits e.layout s × ((e.leaf.0 < e.layout.pool) × (e.count ≤ e.layout.capacity)) → pair_words (shape_of e.layout) s e.leaf.0 0 e.count ≡ record_words (records_of s e)
pairs-all s e (f, (l, k)) = pairs-are e.layout.capacity e.layout.pool s f e.leaf.0 0 e.count l (omega arith)

-- where there are none, nothing changes
pub no_pairs : (l s : List ℕ) (e : LeafEntries) → e.count ≡ 0 → l ≡ fill l 0 (record_words (records_of s e))
unfolding fill record_words records
no_pairs l s e z = let w : l ≡ fill l 0 (record_words (records (shape_of e.layout) s e.leaf.0 0 0)) = refl in subst (λ (k : ℕ). l ≡ fill l 0 (record_words (records (shape_of e.layout) s e.leaf.0 0 k))) (sym z) w

-- no word of a list yet
pub none : (l xs : List ℕ) → l ≡ fill l 0 (take 0 xs)
unfolding fill
none l xs = refl

-- one word more of a list
pub one_more : (l xs ys : List ℕ) (i : ℕ) → i < length xs → ys ≡ fill l 0 (take i xs) → set ys i (get_or xs i 0) ≡ fill l 0 (take (i + 1) xs)
one_more l xs ys i h is =
    let e : 0 + length (take i xs) ≡ i = omega (arith, length-take-le i xs (omega arith)) in
    rw (is, add-one i, take-suc xs i 0 h, fill_snoc l 0 (take i xs) (get_or xs i 0), e)

-- A step of each kind, for callers that lend words.
module _ (w : List ℕ) (c : RowPageIndexMemCursor) (before : List ℕ) where
  pub given-words : (g : LeafStep) (after : List ℕ) → Steps w c (length before / 2) (Ok (Some g)) → after ≡ fill before 0 (record_words (records_of w g.entries))
      → WordSteps w c before after (record { answer = Ok (Some g.leaf); cursor = g.cursor })
  given-words g after st e =
      record {
        given = records_of w g.entries;
        answer = λ l z. ap (λ (o : Stepped). o.answer) (st.is l z);
        cursor = λ l z. ap (λ (o : Stepped). o.cursor) (st.is l z);
        list = λ l z. sym (ap (λ (o : Stepped). o.list) (st.is l z));
        few = let p = st.given g refl in omega (arith, p.1, length-records (shape_of g.entries.layout) w g.entries.leaf.0 0 g.entries.count);
        words = e;
      }

  pub still_words : (a : Result (Option Leaf) Refusal) → ((l : List PageEntry) → length l ≡ length before / 2 → record { answer = next_leaf a; cursor = c; list = l } ≡ next_leaf_of lent w c l)
      → WordSteps w c before before (record { answer = a; cursor = c })
  unfolding fill record_words
  still_words a f =
      record {
        given = [];
        answer = λ l z. ap (λ (o : Stepped). o.answer) (f l z);
        cursor = λ l z. ap (λ (o : Stepped). o.cursor) (f l z);
        list = λ l z. sym (ap (λ (o : Stepped). o.list) (f l z));
        few = omega arith;
        words = refl;
      }
