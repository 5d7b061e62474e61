-- On a tree whose nodes are all sound the check of the list over the visits is a check over the entries.
use Prim.Native.Nat.{ℕ, zero, suc, ◌+◌, ◌<◌, ◌≤◌}
use mathlib.Core.List.{List, [], ◌∷◌, ◌++◌}
use mathlib.Core.Bool.{Bool, true, false}
use mathlib.Core.Path.{◌≡◌, refl, sym, ap, ◌∙◌}
use native.Mathlib.Omega.{arith}
use lib.ListN.{length, drop}
use lib.Dec.{leb, ltb, eqb}
use borrow.Author.Tests.{lt-ltb, le-ltb, ne_eqb, leb-true}
use Rattle.model.specs.Words.{Shape, pick, height, count, end, row, child}
use Rattle.model.specs.Tree.{Limit, Open, Below, pairs_from, level, next, last, sound, over_pairs, all_pairs, AllSound}
use Rattle.model.specs.Reading.{Visit, Enter, Leave, Bad, passes, visits, Entry, entries}
use Rattle.model.specs.Prune.{Scan, stopped, on, entry_end, against, scan_leaf, spoilt, scan}
use Rattle.model.proofs.Tests.{by_test, is_true}
use Rattle.model.proofs.Once.{own}
use Rattle.law_formed.proofs.Linked.{Run, none, more}
use Rattle.law_prune.specs.Cutting.{drop_to, Lands}

abbrev pub end_of : Limit → ℕ
end_of Open = 0
end_of (Below x) = x

-- the check over the entries
unfoldable pub run : ℕ → List Entry → Scan → Scan
run e [] s = s
run e (a ∷ es) s = run e es (against e a.page (end_of a.high) s)

run-append : (e : ℕ) (a b : List Entry) (s : Scan) → run e (a ++ b) s ≡ run e b (run e a s)
unfolding run
run-append e [] b s = refl
run-append e (x ∷ a) b s = run-append e a b (against e x.page (end_of x.high) s)

module _ (C : Shape) (P : ℕ) (w : List ℕ) (e : ℕ) where
  pub scan-append : (a b : List Visit) (s : Scan) → scan C w e (a ++ b) s ≡ scan C w e b (scan C w e a s)
  unfolding scan
  scan-append [] b s = refl
  scan-append (Enter n ∷ a) b s = scan-append a b (pick (eqb (height C w n) 0) (scan_leaf C w e n 0 (count C w n) s) s)
  scan-append (Leave n ∷ a) b s = scan-append a b s
  scan-append (Bad n ∷ a) b s = scan-append a b (spoilt n s)

  -- a leaf
  leaf-run : (n i k : ℕ) (s : Scan) → i + k ≡ count C w n → scan_leaf C w e n i k s ≡ run e (over_pairs (entries 0) (pairs_from C w (level C w 0) n i k) (Below (end C w n))) s
  unfolding scan_leaf over_pairs entries pairs_from run next entry_end level
  leaf-run n i zero s p = refl
  leaf-run n i (suc zero) s p = rw (le-ltb (i + 1) (count C w n) (omega arith))
  leaf-run n i (suc (suc k)) s p =
      rw (lt-ltb (i + 1) (count C w n) (omega arith)) (leaf-run n (i + 1) (suc k) (against e (child C w n i) (row C w n (i + 1)) s) (omega arith))

  pub pages : (m : ℕ) (ps : List (ℕ × ℕ)) (b : Limit) → over_pairs (visits false C P 0 m) ps b ≡ []
  unfolding over_pairs visits
  pages m [] b = refl
  pages m (k ∷ ps) b = pages m ps b

  pairs-run : (h m n : ℕ) → ((x r : ℕ) (b : Limit) (s : Scan) → AllSound C P h (level C w h x) r b → scan C w e (visits false C P h m (level C w h x) r b) s ≡ run e (entries h (level C w h x) r b) s)
      → (i k : ℕ) (b : Limit) (s : Scan) → all_pairs (AllSound C P h) (pairs_from C w (level C w h) n i k) b
      → scan C w e (over_pairs (visits false C P h m) (pairs_from C w (level C w h) n i k) b) s ≡ run e (over_pairs (entries h) (pairs_from C w (level C w h) n i k) b) s
  unfolding over_pairs pairs_from all_pairs scan run
  pairs-run h m n law i zero b s a = refl
  pairs-run h m n law i (suc k) b s a =
      let x = level C w h (child C w n i) in
      let c = next (pairs_from C w (level C w h) n (i + 1) k) b in
      scan-append (visits false C P h m x (row C w n i) c) (over_pairs (visits false C P h m) (pairs_from C w (level C w h) n (i + 1) k) b) s
      ∙ pairs-run h m n law (i + 1) k b (scan C w e (visits false C P h m x (row C w n i) c) s) a.1
      ∙ ap (run e (over_pairs (entries h) (pairs_from C w (level C w h) n (i + 1) k) b)) (law (child C w n i) (row C w n i) c s a.0)
      ∙ sym (run-append e (entries h x (row C w n i) c) (over_pairs (entries h) (pairs_from C w (level C w h) n (i + 1) k) b) s)

  -- a sound node is entered
  shows : (h m n r : ℕ) (b : Limit) → AllSound C P (suc h) (level C w (suc h) n) r b
      → visits false C P (suc h) m (level C w (suc h) n) r b ≡ Enter n ∷ (over_pairs (visits false C P h n) (pairs_from C w (level C w h) n 0 (count C w n)) (last h (end C w n) b) ++ (Leave n ∷ []))
  unfolding visits passes AllSound level
  shows h m n r b g = rw (is_true (ltb n P) g.0, is_true (sound C h (level C w (suc h) n) r b) g.1)

  pub enter_branch : (n h : ℕ) (vs : List Visit) (s : Scan) → height C w n ≡ suc h → scan C w e (Enter n ∷ vs) s ≡ scan C w e vs s
  unfolding scan
  enter_branch n h vs s p = ap (λ (t : Bool). scan C w e vs (pick t (scan_leaf C w e n 0 (count C w n) s) s)) (ne_eqb (height C w n) 0 (λ q. absurd (omega arith)))

  -- the law
  pub scan-sound : (h m n r : ℕ) (b : Limit) (s : Scan) → AllSound C P (suc h) (level C w (suc h) n) r b
      → scan C w e (visits false C P (suc h) m (level C w (suc h) n) r b) s ≡ run e (entries (suc h) (level C w (suc h) n) r b) s
  unfolding scan entries level last AllSound
  scan-sound zero m n r b s g =
      rw (shows 0 m n r b g, pages, (own C P w 0 n r b g).0) (leaf-run n 0 (count C w n) s (omega arith))
  scan-sound (suc h) m n r b s g =
      rw (shows (suc h) m n r b g)
      (enter_branch n h (over_pairs (visits false C P (suc h) n) (pairs_from C w (level C w (suc h)) n 0 (count C w n)) b ++ (Leave n ∷ [])) s (own C P w (suc h) n r b g).0
      ∙ scan-append (over_pairs (visits false C P (suc h) n) (pairs_from C w (level C w (suc h)) n 0 (count C w n)) b) (Leave n ∷ []) s
      ∙ pairs-run (suc h) n n (λ x r₂ b₂ s₂ q. scan-sound h n x r₂ b₂ s₂ q) 0 (count C w n) b s g.2)

-- What the check says of the entries ---------------------------------------------------------------
pub run-stopped : (e : ℕ) (es : List Entry) (a d : ℕ) → run e es (stopped a d) ≡ stopped a d
unfolding run against
run-stopped e [] a d = refl
run-stopped e (x ∷ es) a d = run-stopped e es a d

pub run-used : (e : ℕ) (es : List Entry) (p c : ℕ) → run e es (on [] p c) ≡ on [] p c
unfolding run against
run-used e [] p c = refl
run-used e (x ∷ es) p c = run-used e es p c

run_up : (r : ℕ) (es : List Entry) (z : ℕ) → Run r es z → r ≤ z
run_up _ _ _ (none r) = omega arith
run_up _ _ _ (more r x z page es l t) = omega (arith, run_up x es z t)

-- the ids are those of the first entries, from row r on, and these end at e
pub record Used (e r z p k : ℕ) (ids : List ℕ) (es : List Entry) : Type 0 where
  pub number : k ≡ p + length ids
  pub cut : drop_to e es ≡ drop (length ids) es
  pub lands : Lands e (drop_to e es)
  pub low : r ≤ e
  pub high : e ≤ z
  pub enough : length ids ≤ length es

pub no_way : {A : Type 0} (a d : ℕ) (ids : List ℕ) (p c : ℕ) → stopped a d ≡ on ids p c → A
no_way a d ids p c q = let z : ◌≡◌ {A = ℕ} 0 1 = cc in absurd (omega arith)

used-first : (e r z p k : ℕ) (a : Entry) (es : List Entry) → r ≤ z → a.low ≡ r → on [] p r ≡ on [] k e → Used e r z p k [] (a ∷ es)
unfolding drop_to Lands
used-first e r z p k a es v l q =
    let n : p ≡ k = cc in
    let c : r ≡ e = cc in
    let d : ltb a.low e ≡ false = le-ltb a.low e (omega arith) in
    record { number = omega arith; cut = rw d; lands = rw d (l ∙ c); low = omega arith; high = omega arith; enough = omega arith }

one_more : (e r x z p k y page : ℕ) (ids : List ℕ) (es : List Entry) → r < x → x ≤ e → Used e x z (p + 1) k ids es → Used e r z p k (y ∷ ids) (record { low = r; high = Below x; page = page } ∷ es)
unfolding drop_to
one_more e r x z p k y page ids es l m u =
    let d : ltb r e ≡ true = lt-ltb r e (omega arith) in
    record { number = omega (arith, u.number); cut = rw d u.cut; lands = rw d u.lands; low = omega arith; high = u.high; enough = omega (arith, u.enough) }

pub used-run : (e r z : ℕ) (es : List Entry) → Run r es z → (ids : List ℕ) (p k : ℕ) → run e es (on ids p r) ≡ on [] k e → Used e r z p k ids es
unfolding run against drop_to Lands
used-run e _ _ _ (none r) [] p k q =
    let n : p ≡ k = cc in
    let c : r ≡ e = cc in
    record { number = omega arith; cut = refl; lands = tt; low = omega arith; high = omega arith; enough = omega arith }
used-run e _ _ _ (none r) (y ∷ ids) p k q = let z : ◌≡◌ {A = ℕ} 0 1 = cc in absurd (omega arith)
used-run e _ _ _ (more r x z page es l t) [] p k q = used-first e r z p k (record { low = r; high = Below x; page = page }) es (omega (arith, run_up x es z t)) refl (sym (run-used e es p r) ∙ q)
used-run e _ _ _ (more r x z page es l t) (y ∷ ids) p k q =
    by_test (eqb page y)
    (λ u. by_test (leb x e)
    (λ v. one_more e r x z p k y page ids es l (leb-true x e v) (used-run e x z es t ids (p + 1) k (rw (u, v) at q)))
    (λ v. no_way 10 p [] k e (sym (run-stopped e es 10 p) ∙ (rw (u, v) at q))))
    (λ u. no_way 9 p [] k e (sym (run-stopped e es 9 p) ∙ (rw u at q)))
