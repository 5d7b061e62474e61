-- What trimming a node changes.
use Prim.Native.Nat.{ℕ, zero, suc, ◌+◌, ◌-◌, ◌<◌, ◌≤◌}
use mathlib.Core.List.{List, [], ◌∷◌}
use mathlib.Core.Path.{◌≡◌, refl, ◌∙◌}
use mathlib.Core.Logic.{⊎_elim, ◌≢◌}
use native.Mathlib.Omega.{arith}
use native.Mathlib.Nat.{add-zero, zero-add, eq-or-lt_of_le}
use Rattle.model.specs.Words.{Shape, word, part, put, height, count, start, end, row, child, row_place, child_place, Header}
use Rattle.model.specs.Tree.{pairs_from, node_with}
use Rattle.model.specs.Prune.{moved, trimmed, trim_all}
use Rattle.model.proofs.Words.{put_same, put_other, put_word, put-header}
use Rattle.model.proofs.Frame.{Same}
use Rattle.model.proofs.Writes.{put_keeps}

module _ (C : Shape) (P n k : ℕ) (inside : n < P) where
  -- one entry moved
  step : List ℕ → ℕ → List ℕ
  step w i = put C (put C w n (row_place i) (row C w n (k + i))) n (child_place i) (child C w n (k + i))

  step-header : (w : List ℕ) (i : ℕ) → Header C.cap P w → Header C.cap P (step w i)
  unfolding step
  step-header w i hd = put-header C P _ (put-header C P w hd n _ _) n _ _

  step_other : (w : List ℕ) (i j : ℕ) → j ≢ row_place i → j ≢ child_place i → part C (step w i) n j ≡ part C w n j
  unfolding step
  step_other w i j a b = put_other C _ n _ j _ b ∙ put_other C w n _ j _ a

  step_row : (w : List ℕ) (i : ℕ) → Header C.cap P w → i < C.cap → row C (step w i) n i ≡ row C w n (k + i)
  unfolding step
  step_row w i hd l = put_other C _ n _ _ _ (omega arith) ∙ put_same C P w hd n _ _ inside (omega arith)

  step-child : (w : List ℕ) (i : ℕ) → Header C.cap P w → i < C.cap → child C (step w i) n i ≡ child C w n (k + i)
  unfolding step
  step-child w i hd l = put_same C P _ (put-header C P w hd n _ _) n _ _ inside (omega arith)

  step-node : (w : List ℕ) (i m : ℕ) → i < C.cap → m ≢ n → Same C w (step w i) m
  unfolding step
  step-node w i m l d j b = put_keeps C w n m _ _ d (omega arith) j b ∙ put_keeps C _ n m _ _ d (omega arith) j b

  moved-step : (w : List ℕ) (i m : ℕ) → moved C w n k i (suc m) ≡ moved C (step w i) n k (i + 1) m
  unfolding moved step
  moved-step w i m = refl

  moved_none : (w : List ℕ) (i : ℕ) → moved C w n k i zero ≡ w
  unfolding moved
  moved_none w i = refl

  pub moved-header : (w : List ℕ) (i m : ℕ) → Header C.cap P w → Header C.cap P (moved C w n k i m)
  moved-header w i zero hd = rw (moved_none w i) hd
  moved-header w i (suc m) hd = rw (moved-step w i m) (moved-header (step w i) (i + 1) m (step-header w i hd))

  -- a word that is no place of the entries written
  pub moved_other : (w : List ℕ) (i m j : ℕ) → ((a : ℕ) → i ≤ a → a < i + m → (j ≢ row_place a) × (j ≢ child_place a)) → part C (moved C w n k i m) n j ≡ part C w n j
  moved_other w i zero j l = rw (moved_none w i)
  moved_other w i (suc m) j l =
      let q = l i (omega arith) (omega arith) in
      rw (moved-step w i m) (moved_other (step w i) (i + 1) m j (λ a u v. l a (omega arith) (omega arith)) ∙ step_other w i j q.0 q.1)

  pub moved-node : (w : List ℕ) (i m x : ℕ) → i + m ≤ C.cap → x ≢ n → Same C w (moved C w n k i m) x
  moved-node w i zero x l d j b = rw (moved_none w i)
  moved-node w i (suc m) x l d j b = rw (moved-step w i m) (step-node w i x (omega arith) d j b ∙ moved-node (step w i) (i + 1) m x (omega arith) d j b)

  -- entry a, of those moved
  pub moved_at : (w : List ℕ) (i m : ℕ) → Header C.cap P w → k + i + m ≤ C.cap → (a : ℕ) → i ≤ a → a < i + m
      → (row C (moved C w n k i m) n a ≡ row C w n (k + a)) × (child C (moved C w n k i m) n a ≡ child C w n (k + a))
  moved_at w i zero hd f a l u = absurd (omega arith)
  moved_at w i (suc m) hd f a l u =
      rw (moved-step w i m)
      (⊎_elim
      (λ (e : i ≡ a). rw (← e)
      (moved_other (step w i) (i + 1) m _ (λ c v z. (omega arith, omega arith)) ∙ step_row w i hd (omega arith), moved_other (step w i) (i + 1) m _ (λ c v z. (omega arith, omega arith)) ∙ step-child w i hd (omega arith)))
      (λ (h : i < a). let q = moved_at (step w i) (i + 1) m (step-header w i hd) (omega arith) a (omega arith) (omega arith) in
      (q.0 ∙ step_other w i _ (omega arith) (omega arith), q.1 ∙ step_other w i _ (omega arith) (omega arith)))
      (eq-or-lt_of_le l))

-- entries that stand k places on
pub pairs_shift : {K : Type 0} (C : Shape) (v w : List ℕ) (f g : ℕ → K) (n k i m : ℕ)
    → ((a : ℕ) → i ≤ a → a < i + m → (row C v n a ≡ row C w n (k + a)) × (child C v n a ≡ child C w n (k + a)) × (f (child C w n (k + a)) ≡ g (child C w n (k + a))))
    → pairs_from C v f n i m ≡ pairs_from C w g n (k + i) m
unfolding pairs_from
pairs_shift C v w f g n k i zero p = refl
pairs_shift C v w f g n k i (suc m) p =
    let q = p i (omega arith) (omega arith) in
    let e : k + (i + 1) ≡ k + i + 1 = omega arith in
    rw (q.0, q.1, q.2, ← e, pairs_shift C v w f g n k (i + 1) m (λ a l u. p a (omega arith) (omega arith)))

module _ (C : Shape) (P : ℕ) (w : List ℕ) (hd : Header C.cap P w) (n k e : ℕ) (inside : n < P) (loses : k < count C w n) (narrow : count C w n ≤ C.cap) where
  m₀ : List ℕ
  m₀ = moved C w n k 0 (count C w n - k)

  m₁ : List ℕ
  m₁ = put C m₀ n 1 (count C w n - k)

  m₂ : List ℕ
  m₂ = put C m₁ n 2 e

  is-trimmed : trimmed C w n k e ≡ put C m₂ n (row_place 0) e
  unfolding trimmed m₀ m₁ m₂
  is-trimmed = refl

  h₀ : Header C.cap P m₀
  unfolding m₀
  h₀ = moved-header C P n k inside w 0 (count C w n - k) hd

  h₁ : Header C.cap P m₁
  unfolding m₁
  h₁ = put-header C P m₀ h₀ n 1 (count C w n - k)

  h₂ : Header C.cap P m₂
  unfolding m₂
  h₂ = put-header C P m₁ h₁ n 2 e

  pub trimmed-header : Header C.cap P (trimmed C w n k e)
  trimmed-header = rw is-trimmed (put-header C P m₂ h₂ n (row_place 0) e)

  pub trimmed-node : (x : ℕ) → x ≢ n → Same C w (trimmed C w n k e) x
  unfolding m₀ m₁ m₂
  trimmed-node x d j b =
      rw is-trimmed (moved-node C P n k inside w 0 (count C w n - k) x (omega arith) d j b ∙ put_keeps C m₀ n x 1 (count C w n - k) d (omega arith) j b
      ∙ put_keeps C m₁ n x 2 e d (omega arith) j b ∙ put_keeps C m₂ n x 4 e d (omega arith) j b)

  -- a word that is none of the three written last
  other : (j : ℕ) → j ≢ 1 → j ≢ 2 → j ≢ row_place 0 → part C (trimmed C w n k e) n j ≡ part C m₀ n j
  unfolding m₁ m₂
  other j a b c = rw is-trimmed (put_other C m₂ n (row_place 0) j e c ∙ put_other C m₁ n 2 j e b ∙ put_other C m₀ n 1 j (count C w n - k) a)

  t_height : height C (trimmed C w n k e) n ≡ height C w n
  unfolding m₀
  t_height = other 0 (omega arith) (omega arith) (omega arith) ∙ moved_other C P n k inside w 0 (count C w n - k) 0 (λ a u v. (omega arith, omega arith))

  t_end : end C (trimmed C w n k e) n ≡ end C w n
  unfolding m₀
  t_end = other 3 (omega arith) (omega arith) (omega arith) ∙ moved_other C P n k inside w 0 (count C w n - k) 3 (λ a u v. (omega arith, omega arith))

  t_count : count C (trimmed C w n k e) n ≡ count C w n - k
  unfolding m₁ m₂
  t_count = rw is-trimmed (put_other C m₂ n (row_place 0) 1 e (omega arith) ∙ put_other C m₁ n 2 1 e (omega arith) ∙ put_same C P m₀ h₀ n 1 (count C w n - k) inside (omega arith))

  t_start : start C (trimmed C w n k e) n ≡ e
  unfolding m₂
  t_start = rw is-trimmed (put_other C m₂ n (row_place 0) 2 e (omega arith) ∙ put_same C P m₁ h₁ n 2 e inside (omega arith))

  t_first : row C (trimmed C w n k e) n 0 ≡ e
  t_first = rw is-trimmed (put_same C P m₂ h₂ n (row_place 0) e inside (omega arith))

  t_child : (a : ℕ) → a < count C w n - k → child C (trimmed C w n k e) n a ≡ child C w n (k + a)
  unfolding m₀
  t_child a l = other (child_place a) (omega arith) (omega arith) (omega arith) ∙ (moved_at C P n k inside w 0 (count C w n - k) hd (omega arith) a (omega arith) (omega arith)).1

  t_row : (a : ℕ) → 0 < a → a < count C w n - k → row C (trimmed C w n k e) n a ≡ row C w n (k + a)
  unfolding m₀
  t_row a z l = other (row_place a) (omega arith) (omega arith) (omega arith) ∙ (moved_at C P n k inside w 0 (count C w n - k) hd (omega arith) a (omega arith) (omega arith)).0

  -- the law
  pub trimmed-pairs : {K : Type 0} (f : ℕ → K) → pairs_from C (trimmed C w n k e) f n 0 (count C w n - k) ≡ (e, f (child C w n k)) ∷ pairs_from C w f n (k + 1) (count C w n - (k + 1))
  unfolding pairs_from
  trimmed-pairs f =
      let s : count C w n - k ≡ suc (count C w n - (k + 1)) = omega arith in
      rw (
        s,
        t_first,
        t_child 0 (omega arith),
        add-zero,
        zero-add,
        pairs_shift C (trimmed C w n k e) w f f n k 1 (count C w n - (k + 1)) (λ a l u. (t_row a (omega arith) (omega arith), t_child a (omega arith), refl)),
      )

  pub trimmed_with : {K : Type 0} (f : ℕ → K) → node_with C (trimmed C w n k e) f n
      ≡ record { number = n; height = height C w n; start = e; end = end C w n; pairs = (e, f (child C w n k)) ∷ pairs_from C w f n (k + 1) (count C w n - (k + 1)) }
  trimmed_with f = rw (t_height, t_end, t_count, t_start, trimmed-pairs f)

  pub trimmed-few : count C (trimmed C w n k e) n ≤ C.cap
  trimmed-few = omega (arith, t_count)

-- header words stay
moved_word : (C : Shape) (w : List ℕ) (n k i m a : ℕ) → a < 8 → word (moved C w n k i m) a ≡ word w a
unfolding moved
moved_word C w n k i zero a l = refl
moved_word C w n k i (suc m) a l =
    moved_word C (put C (put C w n (row_place i) (row C w n (k + i))) n (child_place i) (child C w n (k + i))) n k (i + 1) m a l ∙ put_word C _ n (child_place i) _ a l ∙ put_word C w n (row_place i) _ a l

trimmed-word : (C : Shape) (w : List ℕ) (n k e a : ℕ) → a < 8 → word (trimmed C w n k e) a ≡ word w a
unfolding trimmed
trimmed-word C w n k e a l = put_word C _ n (row_place 0) e a l ∙ put_word C _ n 2 e a l ∙ put_word C _ n 1 _ a l ∙ moved_word C w n k 0 _ a l

pub trims-word : (C : Shape) (w : List ℕ) (e : ℕ) (ts : List (ℕ × ℕ)) (a : ℕ) → a < 8 → word (trim_all C w e ts) a ≡ word w a
unfolding trim_all
trims-word C w e [] a l = refl
trims-word C w e (t ∷ ts) a l = trims-word C (trimmed C w t.0 t.1 e) e ts a l ∙ trimmed-word C w t.0 t.1 e a l
