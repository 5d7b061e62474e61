-- Lookup by the path alone is lookup among all entries, on a tree whose nodes are all sound.
use Prim.Native.Nat.{ℕ, zero, suc, ◌<◌, ◌≤◌}
use mathlib.Core.List.{List, [], ◌∷◌, ◌++◌}
use mathlib.Core.Bool.{◌&&◌}
use mathlib.Core.Path.{◌≡◌, refl, sym, ap, ◌∙◌}
use native.Mathlib.Omega.{arith}
use lib.Dec.{leb}
use borrow.Author.Tests.{le-ltb, le-leb, lt-leb, leb-true, leb-false}
use Rattle.model.specs.Words.{Shape, pick}
use Rattle.model.specs.Tree.{Limit, Below, Level, next, last, over_pairs, all_pairs, Under, AllSound}
use Rattle.model.specs.Reading.{Entry, entries}
use Rattle.model.specs.Lookup.{under, entry_find}
use Rattle.model.specs.Refusals.{Answer, result}
use Rattle.model.proofs.Tests.{by_test}
use Rattle.model.proofs.Sound.{chain, Begins, begins, sound-begins, sound-ends, sound-below, last-is}

pub data Found : Type 0 where
  nothing : Found
  found : ℕ → Found

abbrev or_else : Found → Found → Found
or_else nothing b = b
or_else (found x) b = found x

-- the page of an entry, if it holds row q
unfoldable pub hit : Entry → ℕ → Found
hit e q = pick (leb e.low q && under q e.high) (found e.page) nothing

unfoldable pub look : List Entry → ℕ → Found
look [] q = nothing
look (e ∷ es) q = or_else (hit e q) (look es q)

-- the last pair whose row is not above q, where the first one's is not
pub record Chosen (K : Type 0) : Type 0 where
  pub what : K
  pub low : ℕ
  pub high : Limit

unfoldable pub choose : {K : Type 0} → ℕ × K → List (ℕ × K) → Limit → ℕ → Chosen K
choose k [] b q = record { what = k.1; low = k.0; high = b }
choose k (k₂ ∷ ks) b q =
    pick (leb k₂.0 q) (choose k₂ ks b q) (record { what = k.1; low = k.0; high = Below k₂.0 })

unfoldable pub from_pairs : {K : Type 0} → (K → ℕ → Limit → Found) → List (ℕ × K) → Limit → ℕ → Found
from_pairs f [] b q = nothing
from_pairs f (k ∷ ks) b q =
    let c = choose k ks b q in
    f c.what c.low c.high

unfoldable pub find_at : (h : ℕ) → ℕ → Level h → ℕ → Limit → Found
find_at zero q x r b = hit (record { low = r; high = b; page = x }) q
find_at (suc h) q t r b = from_pairs (find_at h q) t.pairs (last h t.end b) q

abbrev pub locate : Found → Answer
locate nothing = result []
locate (found x) = result (x ∷ [])

pub entry-find : (es : List Entry) (q : ℕ) → entry_find es q ≡ locate (look es q)
unfolding entry_find look hit
entry-find [] q = refl
entry-find (e ∷ es) q =
    by_test (leb e.low q && under q e.high) (λ t. rw t) (λ t. rw (t, entry-find es q))

or_else_assoc : (a b c : Found) → or_else (or_else a b) c ≡ or_else a (or_else b c)
or_else_assoc nothing b c = refl
or_else_assoc (found x) b c = refl

or_else-nothing : (a : Found) → or_else a nothing ≡ a
or_else-nothing nothing = refl
or_else-nothing (found x) = refl

look-append : (a b : List Entry) (q : ℕ) → look (a ++ b) q ≡ or_else (look a q) (look b q)
unfolding look
look-append [] b q = refl
look-append (x ∷ a) b q = ap (or_else (hit x q)) (look-append a b q) ∙ sym (or_else_assoc (hit x q) (look a q) (look b q))

over-look : {K : Type 0} (f : K → ℕ → Limit → List Entry) (q : ℕ) (k : ℕ × K) (ks : List (ℕ × K)) (b : Limit) →
    look (over_pairs f (k ∷ ks) b) q ≡ or_else (look (f k.1 k.0 (next ks b)) q) (look (over_pairs f ks b) q)
unfolding over_pairs
over-look f q k ks b = look-append (f k.1 k.0 (next ks b)) (over_pairs f ks b) q

over_nil : {K : Type 0} (f : K → ℕ → Limit → List Entry) (q : ℕ) (b : Limit) → look (over_pairs f [] b) q ≡ nothing
unfolding over_pairs look
over_nil f q b = refl

-- What holds of each child, of the list: P gives a child's bound, and where it misses
module _ {K : Type 0} (Q : K → ℕ → Limit → Type 0) (below : (x : K) (r : ℕ) (b : Limit) → Q x r b → Under r b) where
  module _ (f : K → ℕ → Limit → List Entry) (q : ℕ)
      (left : (x : K) (r : ℕ) (b : Limit) → Q x r b → q < r → look (f x r b) q ≡ nothing) where
    before : (k : ℕ × K) (ks : List (ℕ × K)) (b : Limit) → all_pairs Q (k ∷ ks) b → q < k.0 → look (over_pairs f (k ∷ ks) b) q ≡ nothing
    unfolding all_pairs next Under
    before k [] b g h = rw (over-look, left k.1 k.0 b g.0 h, over_nil)
    before k (k₂ ∷ ks) b g h =
        let h₂ : k.0 < k₂.0 = below k.1 k.0 (Below k₂.0) g.0 in
        rw (over-look f q k, left k.1 k.0 (Below k₂.0) g.0 h, before k₂ ks b g.1 (omega arith))

    module _ (right : (x : K) (r e : ℕ) → Q x r (Below e) → e ≤ q → look (f x r (Below e)) q ≡ nothing) where
      behind : (k : ℕ × K) (ks : List (ℕ × K)) (e : ℕ) → all_pairs Q (k ∷ ks) (Below e) → e ≤ q → look (over_pairs f (k ∷ ks) (Below e)) q ≡ nothing
      unfolding all_pairs next Under
      behind k [] e g h = rw (over-look, right k.1 k.0 e g.0 h, over_nil)
      behind k (k₂ ∷ ks) e g h =
          let h₂ : k₂.0 < e = chain Q below k₂ ks (Below e) g.1 in
          rw (over-look f q k, right k.1 k.0 k₂.0 g.0 (omega arith), behind k₂ ks e g.1 h)

      module _ (F : K → ℕ → Limit → Found) (here : (x : K) (r : ℕ) (b : Limit) → Q x r b → r ≤ q → F x r b ≡ look (f x r b) q) where
        chosen : (k : ℕ × K) (ks : List (ℕ × K)) (b : Limit) → all_pairs Q (k ∷ ks) b → k.0 ≤ q
            → F (choose k ks b q).what (choose k ks b q).low (choose k ks b q).high ≡ look (over_pairs f (k ∷ ks) b) q
        unfolding all_pairs next Under choose
        chosen k [] b g h = rw (over-look, here k.1 k.0 b g.0 h, over_nil, or_else-nothing)
        chosen k (k₂ ∷ ks) b g h =
            by_test (leb k₂.0 q)
            (λ e. rw (e, over-look f q k, right k.1 k.0 k₂.0 g.0 (leb-true _ _ e)) (chosen k₂ ks b g.1 (leb-true _ _ e)))
            (λ e. rw (e, over-look f q k, before k₂ ks b g.1 (leb-false _ _ e), or_else-nothing) (here k.1 k.0 (Below k₂.0) g.0 h))

module _ (C : Shape) (P q : ℕ) where
  pub all-begins : (h : ℕ) (t : Level (suc h)) (r : ℕ) (b : Limit) → AllSound C P (suc h) t r b → Begins r t.pairs
  unfolding AllSound
  all-begins h t r b g = sound-begins C h t r b g.1

  pairs-left : {K : Type 0} (Q : K → ℕ → Limit → Type 0) (below : (x : K) (r : ℕ) (b : Limit) → Q x r b → Under r b) (f : K → ℕ → Limit → List Entry)
      (left : (x : K) (r : ℕ) (b : Limit) → Q x r b → q < r → look (f x r b) q ≡ nothing)
      (r : ℕ) (b : Limit) (ks : List (ℕ × K)) → Begins r ks → all_pairs Q ks b → q < r → look (over_pairs f ks b) q ≡ nothing
  pairs-left Q below f left r b _ (begins x ks) g h = before Q below f q left (r, x) ks b g h

  pub all_left : (h : ℕ) (t : Level h) (r : ℕ) (b : Limit) → AllSound C P h t r b → q < r → look (entries h t r b) q ≡ nothing
  unfolding AllSound entries look hit
  all_left zero x r b g l = rw (lt-leb r q l)
  all_left (suc h) t r b g l =
      pairs-left (AllSound C P h) (sound-below C P h) (entries h) (all_left h) r (last h t.end b) t.pairs (all-begins h t r b g) g.2 l

  pairs-right : {K : Type 0} (Q : K → ℕ → Limit → Type 0) (below : (x : K) (r : ℕ) (b : Limit) → Q x r b → Under r b) (f : K → ℕ → Limit → List Entry)
      (left : (x : K) (r : ℕ) (b : Limit) → Q x r b → q < r → look (f x r b) q ≡ nothing)
      (right : (x : K) (r e : ℕ) → Q x r (Below e) → e ≤ q → look (f x r (Below e)) q ≡ nothing)
      (r e : ℕ) (ks : List (ℕ × K)) → Begins r ks → all_pairs Q ks (Below e) → e ≤ q → look (over_pairs f ks (Below e)) q ≡ nothing
  pairs-right Q below f left right r e _ (begins x ks) g h = behind Q below f q left right (r, x) ks e g h

  pub all_right : (h : ℕ) (t : Level h) (r e : ℕ) → AllSound C P h t r (Below e) → e ≤ q → look (entries h t r (Below e)) q ≡ nothing
  unfolding AllSound entries look hit under Under
  all_right zero x r e g l = rw (le-ltb q e l, le-leb r q (omega arith))
  all_right (suc h) t r e g l =
      let m : last h t.end (Below e) ≡ Below e = last-is h t e (sound-ends C h t r (Below e) g.1) in
      rw m (pairs-right (AllSound C P h) (sound-below C P h) (entries h) (all_left h) (all_right h) r e t.pairs (all-begins h t r (Below e) g) (rw m at g.2) l)

  pairs-here : {K : Type 0} (Q : K → ℕ → Limit → Type 0) (below : (x : K) (r : ℕ) (b : Limit) → Q x r b → Under r b) (f : K → ℕ → Limit → List Entry)
      (left : (x : K) (r : ℕ) (b : Limit) → Q x r b → q < r → look (f x r b) q ≡ nothing)
      (right : (x : K) (r e : ℕ) → Q x r (Below e) → e ≤ q → look (f x r (Below e)) q ≡ nothing)
      (F : K → ℕ → Limit → Found) (here : (x : K) (r : ℕ) (b : Limit) → Q x r b → r ≤ q → F x r b ≡ look (f x r b) q)
      (r : ℕ) (b : Limit) (ks : List (ℕ × K)) → Begins r ks → all_pairs Q ks b → r ≤ q → from_pairs F ks b q ≡ look (over_pairs f ks b) q
  unfolding from_pairs
  pairs-here Q below f left right F here r b _ (begins x ks) g h = chosen Q below f q left right F here (r, x) ks b g h

  -- the law
  pub find-look : (h : ℕ) (t : Level h) (r : ℕ) (b : Limit) → AllSound C P h t r b → r ≤ q → find_at h q t r b ≡ look (entries h t r b) q
  unfolding find_at entries AllSound look
  find-look zero x r b g l = sym (or_else-nothing _)
  find-look (suc h) t r b g l =
      pairs-here (AllSound C P h) (sound-below C P h) (entries h) (all_left h) (all_right h) (find_at h q) (find-look h) r (last h t.end b) t.pairs (all-begins h t r b g) g.2 l
