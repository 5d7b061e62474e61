-- What a turn of a walk keeps.
use Prim.Native.Nat.{ℕ, suc, ◌-◌, ◌<◌, ◌≤◌, zero-le}
use mathlib.Core.List.{List, [], ◌∷◌}
use mathlib.Core.Bool.{Bool, true, false, not, ◌&&◌, and-true}
use mathlib.Core.Path.{◌≡◌, refl, sym, ap, ◌∙◌, subst}
use mathlib.Core.Logic.{⊎_elim}
use native.Mathlib.Omega.{arith}
use native.Mathlib.Nat.{eq-or-lt_of_le}
use lib.ListN.{get_or, length, length-set}
use lib.Seq.{get_or-set_same, get_or-set_other}
use lib.Dec.{T, ltb}
use borrow.Author.Tests.{ltb-true, ltb-false, not-true, not-false}
use Rattle.model.specs.Words.{Shape, pick, height, count, end, row, child}
use Rattle.model.specs.Tree.{Node, node_at, sound}
use Rattle.model.specs.Tree as Tree
use Rattle.model.specs.Reading.{Visit, Enter, Leave, Bad, end_fits, passes, next_row}
use Rattle.model.specs.Paths.{no_position, stack, last_of, above, turned, entered, rooted, popped, turned_path, entered_path}
use Rattle.model.specs.declared.path.Position.{Position}
use Rattle.model.specs.declared.path.Path.{Path}
use Rattle.model.proofs.Tests.{by_test}
use Rattle.law_formed.specs.Visits.{clean}
use Rattle.node_test.specs.Test.{limit_of}
use Rattle.tree_turn.specs.Left.{bound, left, Valid, ValidPath, Moves}
use Rattle.std.specs.Prelude.{Some, None}
use Rattle.tree_turn.specs.Turn.{has_child, out_of, Placed, up, down, bad, stepping}
use Rattle.tree_turn.specs.Walk.{Beside, Walking, rooted_walk, turn_at, left_walk, entered_walk}
use Rattle.tree_turn.specs.declared.turn.Entered.{Entered}
use Rattle.tree_turn.specs.declared.walk.TreeWalk.{TreeWalk}
use Rattle.tree_turn.proofs.Valid.{Top, valid-top, valid-path}
use Rattle.tree_turn.proofs.Rest.{bound-turned, passes-fits}
use Rattle.tree_turn.proofs.Moves.{far_move, bad_move, enter_move}
use Rattle.tree_turn.proofs.Tests.{branch, turns_up, before}
use Rattle.tree_turn.proofs.Branch.{Went, left_it, went, barred, step-out, step_in, move_out}
use Rattle.tree_turn.proofs.InPlace.{turned-trail, entered-trail, entered-length, entered-above, entered-other, entered-under, entered-turned, entered-last}

-- what is left gets shorter
pub falls : {ends : Bool} {C : Shape} {P : ℕ} {w : List ℕ} {p : Path} {v : Visit} {q : Path} → Moves ends C P w p v q → length (left ends C P w q) < length (left ends C P w p)
falls m = rw m.one (omega arith)

-- the test with ends by the one without
pub by_ends : {K : Type 0} (ends : Bool) (C : Shape) (h : ℕ) (t : Node K) (r : ℕ) (b : Tree.Limit) (x : Bool) → passes false C h t r b ≡ x → passes ends C h t r b ≡ (x && pick ends (end_fits h b t.end) true)
unfolding passes
by_ends ends C h t r b x e = rw (sym (and-true (sound C h t r b)) ∙ e)

-- The tested turn ----------------------------------------------------------------------------------------

-- at a node just entered
pub start-walking : (C : Shape) (P : ℕ) (w : List ℕ) (root first : ℕ) → Valid C P w (height C w root) (entered root ∷ []) → first ≡ out_of C P w (height C w root) root → Walking C P w (rooted_walk root first)
unfolding stack bound
start-walking C P w root first v e =
    record {
      valid = valid-path C P w (rooted root) (height C w root) (entered root ∷ []) refl v;
      deep = omega arith;
      long = refl;
      long-next = refl;
      long-first = refl;
      beside = λ d l. let z : d ≡ 0 = omega arith in subst (λ (j : ℕ). Beside C P w (rooted_walk root first) j) (sym z) (record { next-is = refl; first-is = e; ahead = zero-le });
    }

module _ {C : Shape} {P : ℕ} {w : List ℕ} {t : TreeWalk} (H : Walking C P w t) (z : 0 < t.path.depth) where
  abbrev p : Path
  p = t.path

  abbrev n : ℕ
  n = (last_of p).node.0

  abbrev i : ℕ
  i = (last_of p).index

  abbrev b₀ : Tree.Limit
  b₀ = limit_of (get_or t.nexts (p.depth - 1) None)

  B : Beside C P w t (p.depth - 1)
  B = H.beside (p.depth - 1) (omega arith)

  top : Top C P w p.positions p.depth (height C w (last_of p).node.0)
  top = valid-top C P w p z H.valid

  -- what the turn asks for
  pub placed : Placed C P w (last_of p) (get_or t.firsts (p.depth - 1) 0)
  placed = record { inside = top.inside; narrow = top.narrow; first-is = B.first-is; ahead = B.ahead }

  -- a node that is done is left
  pub done-up : not (has_child C w (last_of p).node.0 (last_of p).index) ≡ true → up ≡ turn_at C P w t
  done-up e = sym (turns_up C P w (last_of p) b₀ (not-true (has_child C w n i) e))

  module _ (e : up ≡ turn_at C P w t) where
    pub turn_up : (ends : Bool) → Moves ends C P w p (Leave (last_of p).node.0) (popped p)
    turn_up ends = move_out ends C P w p H.valid z (popped p) (left_it C P w n i b₀ e) refl

    pub held_up : Walking C P w (left_walk t)
    held_up = record { valid = (turn_up false).valid; deep = omega (arith, H.deep); long = H.long; long-next = H.long-next; long-first = H.long-first; beside = λ d h. (let o = H.beside d (omega arith) in record { next-is = o.next-is; first-is = o.first-is; ahead = o.ahead }) }

  module _ (e : has_child C w (last_of p).node.0 (last_of p).index ≡ true) where
    tall : height C w n ≡ suc (height C w n - 1)
    tall = omega (arith, (branch C w n i e).0)

    inside : i < count C w n
    inside = (branch C w n i e).1

    low : p.depth < 32
    low = omega (arith, top.deep, tall)

  next-is : bound C w (turned (last_of p) ∷ above p) ≡ next_row C w n i b₀
  next-is = bound-turned C w (last_of p) (above p) ∙ ap (next_row C w n i) (sym B.next-is)

  -- an unsound node
  pub turn-bad : {c : ℕ} → bad c ≡ turn_at C P w t → (ends : Bool) → Moves ends C P w p (Bad c) (turned_path p)
  turn-bad {c} e ends =
      let k = barred C P w n i b₀ c e in
      let moved = turned-trail p z H.long H.deep in
      ⊎_elim
      (λ o. subst (λ (x : ℕ). Moves ends C P w p (Bad x) (turned_path p)) o.1 (far_move ends C P w p H.valid z (turned_path p) (height C w n - 1) (tall k.has) (inside k.has) o.0 moved))
      (λ o. subst (λ (x : ℕ). Moves ends C P w p (Bad x) (turned_path p)) o.1
      (bad_move ends C P w p H.valid z (turned_path p) (height C w n - 1) (tall k.has) (inside k.has) o.0
      (ap (passes ends C (height C w n - 1) (node_at C w (child C w n i)) (row C w n i)) next-is ∙ by_ends ends C (height C w n - 1) (node_at C w (child C w n i)) (row C w n i) (next_row C w n i b₀) false o.2) moved))
      k.way

  -- a child is entered
  module _ {c : ℕ} {next : Tree.Limit} {first : ℕ} (e : down c next first ≡ turn_at C P w t) where
    W : Went C P w n i b₀ c next first
    W = went C P w n i b₀ c next first e

    pub room : p.depth < 32
    room = low W.has

    -- its index can be moved on
    pub short : (last_of p).index < C.cap
    short = omega (arith, inside W.has, top.narrow)

    fits : (height C w (child C w n i) ≡ height C w n - 1) × (count C w (child C w n i) ≤ C.cap)
    fits = passes-fits false C w (child C w n i) (height C w n - 1) (row C w n i) (next_row C w n i b₀) W.good

    pub narrow : (c < P) × (count C w c ≤ C.cap)
    narrow = subst (λ (x : ℕ). (x < P) × (count C w x ≤ C.cap)) (sym W.number) (W.range, fits.1)

    high : height C w c ≡ height C w n - 1
    high = ap (height C w) W.number ∙ fits.0

    pass : (ends x : Bool) → pick ends (end_fits (height C w c) next (end C w c)) true ≡ x → passes ends C (height C w n - 1) (node_at C w (child C w n i)) (row C w n i) (bound C w (turned (last_of p) ∷ above p)) ≡ x
    pass ends x f =
        let same : end_fits (height C w c) next (end C w c) ≡ end_fits (height C w n - 1) (next_row C w n i b₀) (end C w (child C w n i)) = rw (high, W.beyond, W.number) in
        ap (passes ends C (height C w n - 1) (node_at C w (child C w n i)) (row C w n i)) next-is
        ∙ by_ends ends C (height C w n - 1) (node_at C w (child C w n i)) (row C w n i) (next_row C w n i b₀) true W.good
        ∙ sym (ap (λ (y : Bool). pick ends y true) same) ∙ f

    -- in the reading with ends where its end fits
    pub turn-down : (ends : Bool) → pick ends (end_fits (height C w c) next (end C w c)) true ≡ true → Moves ends C P w p (Enter c) (entered_path p c)
    turn-down ends f =
        subst (λ (x : ℕ). Moves ends C P w p (Enter x) (entered_path p x)) (sym W.number)
        (enter_move ends C P w p H.valid z (entered_path p (child C w n i)) (height C w n - 1) (tall W.has) (inside W.has) W.range (pass ends true f) (entered-trail p z H.long (child C w n i) room))

    -- where it does not
    pub turn-wrong : end_fits (height C w c) next (end C w c) ≡ false → Moves true C P w p (Bad c) (turned_path p)
    turn-wrong f =
        subst (λ (x : ℕ). Moves true C P w p (Bad x) (turned_path p)) (sym W.number)
        (bad_move true C P w p H.valid z (turned_path p) (height C w n - 1) (tall W.has) (inside W.has) W.range (pass true false f) (turned-trail p z H.long H.deep))

  module _ (kid : Entered) (e : down kid.child.0 (limit_of kid.next) kid.first ≡ turn_at C P w t) where
    abbrev c : ℕ
    c = kid.child.0

    abbrev After : ℕ → Type 0
    After d = Beside C P w (entered_walk t kid) d

    -- beside a position that was there, and is moved on where it was the last
    kept : (d : ℕ) → d < p.depth → (q : Position) → get_or (entered_path p c).positions d no_position ≡ q → q.node ≡ (get_or p.positions d no_position).node → q.index ≤ get_or t.firsts d 0 → After d
    kept d l q g s a =
        let o = H.beside d l in
        record {
          next-is = ap limit_of (get_or-set_other t.nexts p.depth d kid.next None (λ x. omega arith)) ∙ o.next-is ∙ ap (bound C w) (sym (entered-above p z H.long c d (omega arith)));
          first-is = get_or-set_other t.firsts p.depth d kid.first 0 (λ x. omega arith) ∙ o.first-is ∙ rw (g, s);
          ahead = omega (arith, a, get_or-set_other t.firsts p.depth d kid.first 0 (λ x. omega arith), ap (λ (x : Position). x.index) g);
        }

    -- beside the child
    new : After p.depth
    new =
        let q = entered-last p z H.long c (room e) in
        let f : kid.first ≡ out_of C P w (height C w c) c = (W e).out ∙ ap (λ (x : ℕ). out_of C P w (height C w n - 1) x) (sym (W e).number) ∙ ap (λ (x : ℕ). out_of C P w x c) (sym (high e)) in
        record {
          next-is = ap limit_of (get_or-set_same t.nexts p.depth kid.next None (omega (arith, room e, H.long-next))) ∙ (W e).beyond ∙ sym (ap (bound C w) (entered-under p z H.long c H.deep) ∙ next-is);
          first-is = get_or-set_same t.firsts p.depth kid.first 0 (omega (arith, room e, H.long-first)) ∙ f ∙ rw q;
          ahead = omega (arith, ap (λ (x : Position). x.index) q);
        }

    pub held_down : Walking C P w (entered_walk t kid)
    held_down =
        record {
          valid = (turn-down e false refl).valid;
          deep = omega (arith, room e);
          long = entered-length p z H.long c;
          long-next = length-set t.nexts p.depth kid.next ∙ H.long-next;
          long-first = length-set t.firsts p.depth kid.first ∙ H.long-first;
          beside = λ d l. ⊎_elim (λ (x : suc d ≡ suc p.depth). let y : p.depth ≡ d = omega arith in subst After y new)
              (λ (x : suc d < suc p.depth). ⊎_elim
              (λ (y : d ≡ p.depth - 1). subst After (sym y) (kept (p.depth - 1) (omega arith) (turned (last_of p)) (entered-turned p z H.long c H.deep) refl (omega (arith, before placed (W e).has (W e).range))))
              (λ (y : d < p.depth - 1). kept d (omega arith) (get_or p.positions d no_position) (entered-other p z H.long c d y) refl (H.beside d (omega arith)).ahead)
              (eq-or-lt_of_le (omega arith)))
              (eq-or-lt_of_le (omega arith));
        }

pub ruleset walk_turn = (placed, done-up, held_up, room, short, held_down, not-false)

-- The turn that tests nothing ----------------------------------------------------------------------------

-- a path whose next visit is no unsound node
pub record Sure (C : Shape) (P : ℕ) (w : List ℕ) (p : Path) : Type 0 where
  pub valid : ValidPath C P w p
  pub deep : p.depth ≤ 32
  pub long : length p.positions ≡ 32
  pub no_bad : (m : ℕ) → Moves false C P w p (Bad m) (turned_path p) → ⊥

module _ {C : Shape} {P : ℕ} {w : List ℕ} {p : Path} (S : Sure C P w p) (z : 0 < p.depth) where
  pub at_top : Top C P w p.positions p.depth (height C w (last_of p).node.0)
  at_top = valid-top C P w p z S.valid

  pub step-up : None ≡ stepping C w (last_of p).node.0 (last_of p).index → Moves false C P w p (Leave (last_of p).node.0) (popped p)
  step-up e = move_out false C P w p S.valid z (popped p) (step-out C w (last_of p).node.0 (last_of p).index e) refl

  -- a child that no visit calls unsound is entered
  module _ (e : has_child C w (last_of p).node.0 (last_of p).index ≡ true) where
    below_32 : p.depth < 32
    below_32 = omega (arith, at_top.deep, (branch C w (last_of p).node.0 (last_of p).index e).0)

    sure_in : Moves false C P w p (Enter (child C w (last_of p).node.0 (last_of p).index)) (entered_path p (child C w (last_of p).node.0 (last_of p).index))
    sure_in =
        let m = (last_of p).node.0 in
        let kid = child C w m (last_of p).index in
        let g = height C w m - 1 in
        let hi : height C w m ≡ suc g = omega (arith, (branch C w m (last_of p).index e).0) in
        let inside = (branch C w m (last_of p).index e).1 in
        let t = turned-trail p z S.long S.deep in
        by_test (ltb kid P)
        (λ u. let l = ltb-true kid P u in
        by_test (passes false C g (node_at C w kid) (row C w m (last_of p).index) (bound C w (turned (last_of p) ∷ above p)))
        (λ s. enter_move false C P w p S.valid z (entered_path p kid) g hi inside l s (entered-trail p z S.long kid below_32))
        (λ s. absurd (S.no_bad kid (bad_move false C P w p S.valid z (turned_path p) g hi inside l s t))))
        (λ u. absurd (S.no_bad m (far_move false C P w p S.valid z (turned_path p) g hi inside (ltb-false kid P u) t)))

  module _ {c : ℕ} (e : Some (record { 0 = c }) ≡ stepping C w (last_of p).node.0 (last_of p).index) where
    pub step_room : p.depth < 32
    step_room = below_32 (step_in C w (last_of p).node.0 (last_of p).index c e).0

    pub step-short : (last_of p).index < C.cap
    step-short = let s = step_in C w (last_of p).node.0 (last_of p).index c e in omega (arith, (branch C w (last_of p).node.0 (last_of p).index s.0).1, at_top.narrow)

    pub step_down : Moves false C P w p (Enter c) (entered_path p c)
    step_down = let s = step_in C w (last_of p).node.0 (last_of p).index c e in subst (λ (x : ℕ). Moves false C P w p (Enter x) (entered_path p x)) s.1 (sure_in s.0)

-- a path that has no unsound node left
pub record Known (C : Shape) (P : ℕ) (w : List ℕ) (p : Path) : Type 0 where
  pub valid : ValidPath C P w p
  pub deep : p.depth ≤ 32
  pub long : length p.positions ≡ 32
  pub all-clean : T (clean (left false C P w p))

module _ {C : Shape} {P : ℕ} {w : List ℕ} {p : Path} (K : Known C P w p) where
  pub sure : Sure C P w p
  unfolding clean
  sure = record { valid = K.valid; deep = K.deep; long = K.long; no_bad = λ m a. absurd (subst (λ (vs : List Visit). T (clean vs)) a.one K.all-clean) }

  after : (v : Visit) (q : Path) → Moves false C P w p v q → q.depth ≤ 32 → length q.positions ≡ 32 → ((vs : List Visit) → T (clean (v ∷ vs)) → T (clean vs)) → Known C P w q
  after v q m d l f = record { valid = m.valid; deep = d; long = l; all-clean = f (left false C P w q) (subst (λ (vs : List Visit). T (clean vs)) m.one K.all-clean) }

  module _ (z : 0 < p.depth) where
    pub known_up : None ≡ stepping C w (last_of p).node.0 (last_of p).index → Known C P w (popped p)
    unfolding clean
    known_up e = after (Leave (last_of p).node.0) (popped p) (step-up sure z e) (omega (arith, K.deep)) K.long (λ vs t. t)

    pub known-down : {c : ℕ} → Some (record { 0 = c }) ≡ stepping C w (last_of p).node.0 (last_of p).index → Known C P w (entered_path p c)
    unfolding clean
    known-down {c} e = after (Enter c) (entered_path p c) (step_down sure z e) (omega (arith, step_room sure z e)) (entered-length p z K.long c) (λ vs t. t)
