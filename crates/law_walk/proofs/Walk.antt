-- A walk over a store that holds a ledger gives the ledger's records: demand 3. Nothing changes the store between the
-- steps.
use Prim.Native.Nat.{ℕ, zero, suc, ◌+◌, ◌<◌, ◌≤◌}
use mathlib.Core.List.{List, [], ◌∷◌, ◌++◌, map, tail, append-nil, append_assoc}
use mathlib.Core.Bool.{Bool, true, false}
use mathlib.Core.Path.{◌≡◌, refl, sym, ap, ◌∙◌, subst}
use mathlib.Core.Logic.{◌⊎◌, inl, inr, ⊎_elim}
use native.Mathlib.Omega.{arith}
use native.Mathlib.Numerals.{add-one}
use lib.ListN.{length, set, take, length-append}
use borrow.Author.Tests.{le-ltb}
use Rattle.model.specs.Words.{store_shape, lent, Shape, fill, capacity, root, height, count, start, end, row, child}
use Rattle.model.specs.Tree.{Limit, Open, Below, pairs_from, Level, last, over_pairs, next}
use Rattle.model.specs.Reading.{Entry, entries}
use Rattle.model.specs.Refusals.{result}
use Rattle.model.specs.WellFormed.{WellFormed}
use Rattle.model.specs.Ledger.{Range, Ledger, end_from, walk_from, ledger_walk}
use Rattle.model.specs.LeafWalk.{Stepped, seek, records, is_last, given, next_leaf_of}
use Rattle.model.specs.declared.node.PageEntry.{PageEntry}
use Rattle.model.specs.declared.cursor.RowPageIndexMemCursor.{RowPageIndexMemCursor}
use Rattle.model.proofs.Sound.{Begins, begins}
use Rattle.law_formed.specs.Holds.{entries_from, Holds}
use Rattle.law_formed.proofs.Linked.{Meets}
use Rattle.law_formed.proofs.Opens.{goes_on}
use Rattle.model.proofs.Fill.{length-fill}
use Rattle.next_records.proofs.Filling.{length-records}
use Rattle.law_walk.specs.Walking.{LeafAt, leaves_of, store_leaves, leaf_count, pair_of, first_pairs, Gives, ended, one, From}
use Rattle.next_step.proofs.Stepping.{still}
use Rattle.law_walk.proofs.Lined.{Good, Lined, chosen_in, first-chosen, lined-good, lined-rest, low_of, own, split}
use Rattle.law_walk.proofs.Chosen.{leaf_of, store_full, store_lined, store_reach}

-- The records of the leaves are the ledger's --------------------------------------------------------------------

unfoldable pub joined : List LeafAt → List (ℕ × ℕ)
joined [] = []
joined (x ∷ xs) = x.pairs ++ joined xs

joined-append : (xs ys : List LeafAt) → joined (xs ++ ys) ≡ joined xs ++ joined ys
unfolding joined
joined-append [] ys = refl
joined-append (x ∷ xs) ys = ap (λ (t : List (ℕ × ℕ)). x.pairs ++ t) (joined-append xs ys) ∙ sym (append_assoc x.pairs (joined xs) (joined ys))

abbrev pub low_page : Entry → ℕ × ℕ
low_page e = (e.low, e.page)

map-append : (a b : List Entry) → map low_page (a ++ b) ≡ map low_page a ++ map low_page b
map-append [] b = refl
map-append (e ∷ a) b = ap (λ (t : List (ℕ × ℕ)). low_page e ∷ t) (map-append a b)

pub leaf-joined : (ps : List (ℕ × ℕ)) (b : Limit) → map low_page (over_pairs (entries 0) ps b) ≡ ps
unfolding over_pairs entries
leaf-joined [] b = refl
leaf-joined (p ∷ ps) b = ap (λ (t : List (ℕ × ℕ)). p ∷ t) (leaf-joined ps b)

over-joined : {K : Type 0} (f : K → ℕ → Limit → List Entry) (g : K → ℕ → Limit → List LeafAt) → ((x : K) (r : ℕ) (b : Limit) → map low_page (f x r b) ≡ joined (g x r b))
    → (ps : List (ℕ × K)) (b : Limit) → map low_page (over_pairs f ps b) ≡ joined (over_pairs g ps b)
unfolding over_pairs joined
over-joined f g e [] b = refl
over-joined f g e (p ∷ ps) b =
    map-append (f p.1 p.0 (next ps b)) (over_pairs f ps b)
    ∙ rw (e p.1 p.0 (next ps b), over-joined f g e ps b)
    (sym (joined-append (g p.1 p.0 (next ps b)) (over_pairs g ps b)))

tree-joined : (h : ℕ) (t : Level (suc h)) (r : ℕ) (b : Limit) → map low_page (entries (suc h) t r b) ≡ joined (leaves_of h t r b)
unfolding entries leaves_of joined last
tree-joined zero t r b = leaf-joined t.pairs (Below t.end) ∙ sym (append-nil t.pairs)
tree-joined (suc h) t r b = over-joined (entries (suc h)) (leaves_of h) (tree-joined h) t.pairs b

pub from-walk : (s : ℕ) (gs : List Range) → map low_page (entries_from s gs) ≡ walk_from s gs
unfolding entries_from walk_from
from-walk s [] = refl
from-walk s (g ∷ gs) = ap (λ (t : List (ℕ × ℕ)). (s, g.page) ∷ t) (from-walk g.end gs)

store_joined : (w : List ℕ) (l : Ledger) → Holds lent w l → joined (store_leaves w) ≡ ledger_walk l
unfolding ledger_walk
store_joined w l H =
    let C = store_shape lent w in
    sym (tree-joined (height C w (root w)) _ (start C w (root w)) Open) ∙ ap (map low_page) H.entries ∙ from-walk l.start l.ranges

-- What a caller reads of the list -------------------------------------------------------------------------------

fill_on : {A : Type 0} (x : A) (l : List A) (i : ℕ) (xs : List A) → fill (x ∷ l) (suc i) xs ≡ x ∷ fill l i xs
unfolding fill
fill_on x l i [] = refl
fill_on x l i (y ∷ ys) = rw (add-one (suc i), add-one i) (fill_on x (set l i y) (suc i) ys)

take-filled : {A : Type 0} (l xs : List A) → length xs ≤ length l → take (length xs) (fill l 0 xs) ≡ xs
unfolding fill
take-filled l [] h = refl
take-filled [] (x ∷ xs) h = absurd (omega arith)
take-filled (y ∷ l) (x ∷ xs) h = rw (add-one 0, fill_on x l 0 xs) (ap (λ t. x ∷ t) (take-filled l xs (omega arith)))

module _ (C : Shape) (w : List ℕ) (n : ℕ) where
  pairs_of : (i k : ℕ) → map pair_of (records C w n i k) ≡ pairs_from C w (λ (x : ℕ). x) n i k
  unfolding records pairs_from
  pairs_of i zero = refl
  pairs_of i (suc k) = ap (λ (t : List (ℕ × ℕ)). (row C w n i, child C w n i) ∷ t) (pairs_of (i + 1) k)

  pub read : (k : ℕ) (l : List PageEntry) → k ≤ length l → first_pairs k (fill l 0 (records C w n 0 k)) ≡ pairs_from C w (λ (x : ℕ). x) n 0 k
  read k l h =
      let e = length-records C w n 0 k in
      ap (map pair_of) (subst (λ (x : ℕ). take x (fill l 0 (records C w n 0 k)) ≡ records C w n 0 k) e (take-filled l (records C w n 0 k) (omega (arith, e)))) ∙ pairs_of 0 k

-- The steps -----------------------------------------------------------------------------------------------------

module _ (w : List ℕ) (F : WellFormed lent w) (c : RowPageIndexMemCursor) (l : List PageEntry) (room : capacity w ≤ length l) where
  ends : c.done ≡ true → next_leaf_of lent w c l ≡ still c l (result [])
  unfolding next_leaf_of
  ends d = goes_on lent w F (still c l) _ ∙ rw (le-ltb (length l) (capacity w) room, d)

  goes : c.done ≡ false → next_leaf_of lent w c l ≡ given (store_shape lent w) w c l (leaf_of (chosen_in c.row_id.0 (store_leaves w)))
  unfolding next_leaf_of
  goes d = (goes_on lent w F (still c l) _ ∙ rw (le-ltb (length l) (capacity w) room, d)) ∙ ap (given (store_shape lent w) w c l) (store_reach w F c.row_id.0)

  -- no step is refused
  pub never-refused : (ys : List ℕ) × ((next_leaf_of lent w c l).answer ≡ result ys)
  unfolding given
  never-refused = by_done c.done refl
    where
      by_done : (d : Bool) → c.done ≡ d → (ys : List ℕ) × ((next_leaf_of lent w c l).answer ≡ result ys)
      by_done true e = ([], ap (λ (s : Stepped). s.answer) (ends e))
      by_done false e = (_, ap (λ (s : Stepped). s.answer) (goes e))

  -- a step that gives leaf x
  record Gave (x : LeafAt) : Type 0 where
    answer : (next_leaf_of lent w c l).answer ≡ result (x.low ∷ end (store_shape lent w) w x.number ∷ count (store_shape lent w) w x.number ∷ [])
    pairs : first_pairs (count (store_shape lent w) w x.number) (next_leaf_of lent w c l).list ≡ x.pairs
    long : length (next_leaf_of lent w c l).list ≡ length l
    kept : (next_leaf_of lent w c l).cursor.row_id.0 ≡ end (store_shape lent w) w x.number
    over : (next_leaf_of lent w c l).cursor.done ≡ is_last x.next

  gave : (x : LeafAt) → c.done ≡ false → chosen_in c.row_id.0 (store_leaves w) ≡ x → Good (store_shape lent w) w x → Gave x
  unfolding given
  gave x d h g =
      let C = store_shape lent w in
      let n = x.number in
      let e : next_leaf_of lent w c l ≡ given C w c l (leaf_of x) = goes d ∙ ap (λ (y : LeafAt). given C w c l (leaf_of y)) h in
      record {
        answer = ap (λ (s : Stepped). s.answer) e ∙ ap (λ (z : ℕ). result (z ∷ end C w n ∷ count C w n ∷ [])) g.begin;
        pairs = ap (λ (s : Stepped). first_pairs (count C w n) s.list) e ∙ read C w n (count C w n) l (omega (arith, g.many)) ∙ sym g.held;
        long = ap (λ (s : Stepped). length s.list) e ∙ length-fill l 0 (records C w n 0 (count C w n));
        kept = ap (λ (s : Stepped). s.cursor.row_id.0) e;
        over = ap (λ (s : Stepped). s.cursor.done) e;
      }

module _ (w : List ℕ) (F : WellFormed lent w) where
  rest : (pre : List LeafAt) (x : LeafAt) (post : List LeafAt) → store_leaves w ≡ pre ++ (x ∷ post) → Lined (store_shape lent w) w (x ∷ post) Open
  rest pre x post e = lined-rest (store_shape lent w) w pre x post Open (subst (λ (ls : List LeafAt). Lined (store_shape lent w) w ls Open) e (store_lined w F).0)

  chosen-own : (pre : List LeafAt) (y : LeafAt) (post : List LeafAt) → store_leaves w ≡ pre ++ (y ∷ post) → chosen_in y.low (store_leaves w) ≡ y
  chosen-own pre y post e =
      ap (chosen_in y.low) e ∙ own (store_shape lent w) w pre y post Open (subst (λ (ls : List LeafAt). Lined (store_shape lent w) w ls Open) e (store_lined w F).0)

  -- from leaf x on
  walks : (pre : List LeafAt) (x : LeafAt) (post : List LeafAt) → store_leaves w ≡ pre ++ (x ∷ post) → (c : RowPageIndexMemCursor) (l : List PageEntry)
      → capacity w ≤ length l → c.done ≡ false → chosen_in c.row_id.0 (store_leaves w) ≡ x → Gives w c l (joined (x ∷ post)) (suc (length post))
  unfolding joined is_last Lined Meets
  walks pre x [] e c l room d h =
      let L = rest pre x [] e in
      let g = gave w F c l room x d h (lined-good (store_shape lent w) w x [] Open L) in
      let s = next_leaf_of lent w c l in
      let o : s.cursor.done ≡ true = g.over ∙ ap is_last L.1.0 in
      subst (λ (ps : List (ℕ × ℕ)). Gives w c l (ps ++ []) 1) g.pairs
      (one c l _ _ _ [] 0 g.answer (ended s.cursor s.list (ends w F s.cursor s.list (omega (arith, g.long)) o)))
  walks pre x (y ∷ ys) e c l room d h =
      let L = rest pre x (y ∷ ys) e in
      let g = gave w F c l room x d h (lined-good (store_shape lent w) w x (y ∷ ys) Open L) in
      let s = next_leaf_of lent w c l in
      let o : s.cursor.done ≡ false = g.over ∙ ap is_last L.1.0 in
      let k : s.cursor.row_id.0 ≡ y.low = g.kept ∙ subst (λ (b : Limit). Meets b (end (store_shape lent w) w x.number)) L.1.0 (lined-good (store_shape lent w) w x (y ∷ ys) Open L).meets in
      let e' : store_leaves w ≡ (pre ++ (x ∷ [])) ++ (y ∷ ys) = e ∙ sym (append_assoc pre (x ∷ []) (y ∷ ys)) in
      let u : chosen_in s.cursor.row_id.0 (store_leaves w) ≡ y =
      ap (λ (q : ℕ). chosen_in q (store_leaves w)) k ∙ chosen-own (pre ++ (x ∷ [])) y ys e' in
      subst (λ (ps : List (ℕ × ℕ)). Gives w c l (ps ++ joined (y ∷ ys)) (suc (suc (length ys)))) g.pairs
      (one c l _ _ _ (joined (y ∷ ys)) (suc (length ys)) g.answer (walks (pre ++ (x ∷ [])) y ys e' s.cursor s.list (omega (arith, g.long)) o u))

-- The laws ------------------------------------------------------------------------------------------------------

-- (a) from a row at or below the start: all records, in as many steps as the tree has leaves
pub walk_law : (w : List ℕ) (l : Ledger) → Holds lent w l → (q : ℕ) → q ≤ l.start → (list : List PageEntry) → capacity w ≤ length list
    → Gives w (seek q) list (ledger_walk l) (leaf_count w)
unfolding Lined low_of
walk_law w l H q h list room = subst (λ (ps : List (ℕ × ℕ)). Gives w (seek q) list ps (length (store_leaves w))) (store_joined w l H) (go (store_leaves w) refl)
  where
    lined : (ls : List LeafAt) → store_leaves w ≡ ls → Lined (store_shape lent w) w ls Open
    lined ls e = subst (λ (xs : List LeafAt). Lined (store_shape lent w) w xs Open) e (store_lined w H.formed).0

    go : (ls : List LeafAt) → store_leaves w ≡ ls → Gives w (seek q) list (joined ls) (length ls)
    go [] e = absurd (lined [] e)
    go (x ∷ xs) e =
        let low : x.low ≡ l.start = ap low_of (sym e) ∙ (store_lined w H.formed).1 ∙ H.begin in
        walks w H.formed [] x xs e (seek q) list room refl (ap (chosen_in q) e ∙ first-chosen (store_shape lent w) w q x xs Open (lined (x ∷ xs) e) (omega (arith, low)))

record Parted (s : ℕ) (gs : List Range) (a b : List (ℕ × ℕ)) : Type 0 where
  before : List Range
  after : List Range
  is : gs ≡ before ++ after
  rest : walk_from (end_from s before) after ≡ b

walk-part : (a : List (ℕ × ℕ)) (s : ℕ) (gs : List Range) (b : List (ℕ × ℕ)) → walk_from s gs ≡ a ++ b → Parted s gs a b
unfolding walk_from end_from
walk-part [] s gs b e = record { before = []; after = gs; is = refl; rest = e }
walk-part (p ∷ a) s [] b e = absurd (omega (arith, ap length e))
walk-part (p ∷ a) s (g ∷ gs) b e =
    let u = walk-part a g.end gs b (ap tail e) in
    record { before = g ∷ u.before; after = u.after; is = ap (λ (t : List Range). g ∷ t) u.is; rest = u.rest }

-- a walk that begins at row r
walk_begins : (s : ℕ) (gs : List Range) (r x : ℕ) (ps : List (ℕ × ℕ)) → walk_from s gs ≡ (r, x) ∷ ps → s ≡ r
unfolding walk_from
walk_begins s [] r x ps e = absurd (omega (arith, ap length e))
walk_begins s (g ∷ gs) r x ps e = ap (λ (l : List (ℕ × ℕ)). (head_of l).0) e
  where
    head_of : List (ℕ × ℕ) → ℕ × ℕ
    head_of [] = (0, 0)
    head_of (p ∷ ps) = p

begins-row : (s : ℕ) (gs : List Range) (r : ℕ) (ps qs : List (ℕ × ℕ)) → Begins r ps → walk_from s gs ≡ ps ++ qs → s ≡ r
begins-row s gs r _ qs (begins x ps) e = walk_begins s gs r x (ps ++ qs) e

module _ (w : List ℕ) (l : Ledger) (H : Holds lent w l) (q : ℕ) (list : List PageEntry) (room : capacity w ≤ length list) where
  abbrev reached : LeafAt
  reached = chosen_in q (store_leaves w)

  end-next : (post : List LeafAt) → Lined (store_shape lent w) w (reached ∷ post) Open → q < low_of post → q < end (store_shape lent w) w reached.number
  unfolding Lined low_of Meets
  end-next [] L h = absurd (omega arith)
  end-next (y ∷ ys) L h =
      let m : end (store_shape lent w) w reached.number ≡ y.low = subst (λ (b : Limit). Meets b (end (store_shape lent w) w reached.number)) L.1.0 L.0.meets in
      omega (arith, m)

  -- the ranges before and after the leaf
  made : (pre post : List LeafAt) → store_leaves w ≡ pre ++ (reached ∷ post) → (post ≡ []) ⊎ (q < low_of post) → (before after : List Range) → l.ranges ≡ before ++ after
      → end_from l.start before ≡ reached.low → walk_from (end_from l.start before) after ≡ joined (reached ∷ post) → (before ≡ []) ⊎ (end_from l.start before ≤ q) → From w l q list
  made pre post e hi before after is at walk lo =
      let C = store_shape lent w in
      let n = reached.number in
      let L = rest w H.formed pre reached post e in
      let g = gave w H.formed (seek q) list room reached refl refl (lined-good C w reached post Open L) in
      record {
        before = before;
        after = after;
        is = is;
        end = end C w n;
        many = count C w n;
        answer = g.answer ∙ ap (λ (z : ℕ). result (z ∷ end C w n ∷ count C w n ∷ [])) (sym at);
        steps = length post;
        gives = subst (λ (ps : List (ℕ × ℕ)). Gives w (seek q) list ps (suc (length post))) (sym walk) (walks w H.formed pre reached post e (seek q) list room refl refl);
        low = lo;
        high = ⊎_elim (λ z. inl (ap length z)) (λ h. inr (end-next post L h)) hi;
      }

  from-split : (pre post : List LeafAt) → store_leaves w ≡ pre ++ (reached ∷ post) → (pre ≡ []) ⊎ (reached.low ≤ q) → (post ≡ []) ⊎ (q < low_of post) → From w l q list
  unfolding joined low_of end_from ledger_walk
  from-split [] post e lo hi =
      let at : l.start ≡ reached.low = sym H.begin ∙ sym (store_lined w H.formed).1 ∙ ap low_of e in
      made [] post e hi [] l.ranges refl at (sym (store_joined w l H) ∙ ap joined e) (inl refl)
  from-split (p ∷ pre) post e lo hi =
      ⊎_elim
      (λ f.
      let t = walk-part (joined (p ∷ pre)) l.start l.ranges (joined (reached ∷ post)) (sym (store_joined w l H) ∙ ap joined e ∙ joined-append (p ∷ pre) (reached ∷ post)) in
      let good = lined-good (store_shape lent w) w reached post Open (rest w H.formed (p ∷ pre) reached post e) in
      let at = begins-row (end_from l.start t.before) t.after reached.low reached.pairs (joined post) (good.first f) t.rest in
      made (p ∷ pre) post e hi t.before t.after t.is at t.rest
      (⊎_elim (λ z. absurd (omega (arith, ap length z))) (λ h. inr (omega (arith, at))) lo))
      (λ y. absurd (omega (arith, ap length (sym y.1 ∙ e), length-append pre (reached ∷ post))))
      (store_full w H.formed)

  -- (b) from any row
  pub walk_from_lem : From w l q list
  walk_from_lem = let s = split (store_shape lent w) w q (store_leaves w) Open (store_lined w H.formed).0 in from-split s.pre s.post s.is s.low s.high

-- (c) no step is refused: any cursor, any row
pub walk-never : (w : List ℕ) (l : Ledger) → Holds lent w l → (c : RowPageIndexMemCursor) (list : List PageEntry) → capacity w ≤ length list
    → (ys : List ℕ) × ((next_leaf_of lent w c list).answer ≡ result ys)
walk-never w l H c list room = never-refused w H.formed c list room

pub none-some : {s e k : ℕ} → result [] ≡ result (s ∷ e ∷ k ∷ []) → ⊥
none-some {s} {e} {k} p = let z : [] ≡ s ∷ e ∷ k ∷ [] = cc in absurd (omega (arith, ap length z))

pub third : {s e k s₂ e₂ k₂ : ℕ} → result (s ∷ e ∷ k ∷ []) ≡ result (s₂ ∷ e₂ ∷ k₂ ∷ []) → k ≡ k₂
third e = cc

-- a walk is one: the steps decide the records and how many leaves there are
pub gives-once : (w : List ℕ) (c : RowPageIndexMemCursor) (l : List PageEntry) (ps qs : List (ℕ × ℕ)) (n m : ℕ) → Gives w c l ps n → Gives w c l qs m → (ps ≡ qs) × (n ≡ m)
gives-once w c l _ _ _ _ (ended _ _ a) (ended _ _ b) = (refl, refl)
gives-once w c l _ _ _ _ (ended _ _ a) (one _ _ s e k ps n b g) = absurd (none-some (sym (ap (λ (z : Stepped). z.answer) a) ∙ b))
gives-once w c l _ _ _ _ (one _ _ s e k ps n b g) (ended _ _ a) = absurd (none-some (sym (ap (λ (z : Stepped). z.answer) a) ∙ b))
gives-once w c l _ _ _ _ (one _ _ s e k ps n a g) (one _ _ s₂ e₂ k₂ qs m b h) =
    let r = gives-once w (next_leaf_of lent w c l).cursor (next_leaf_of lent w c l).list ps qs n m g h in
    let x : k ≡ k₂ = third (sym a ∙ b) in
    (rw (x, r.0), ap suc r.1)
