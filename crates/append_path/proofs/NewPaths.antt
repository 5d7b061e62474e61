-- Nodes of a slice, and the new path over them.
use Prim.Native.Nat.{ℕ, zero, suc, ◌+◌, ◌-◌, ◌<◌, ◌≤◌}
use mathlib.Core.List.{List, [], ◌∷◌}
use mathlib.Core.Path.{◌≡◌, refl, sym, ap, ◌∙◌}
use mathlib.Core.Logic.{◌≢◌}
use native.Mathlib.Omega.{arith}
use lib.ListN.{length, take, drop}
use Rattle.model.specs.Words.{Shape, put, added, copied, height, NONE, max_height, Header}
use Rattle.model.specs.Append.{fresh, top_of, end_over, new_path, hang, raised, split_root}
use Rattle.model.specs.declared.id.NodeNo.{NodeNo}
use Rattle.model.proofs.Words.{put-length, header_at}
use Rattle.model.proofs.Writes.{put_keeps, copied-keeps}
use Rattle.std.proofs.lemmas.List.{drop_more, drop_all, take_rest, length-drop}
use Rattle.append_path.specs.Inside.{Inside, number_at, numbers}

nodes_from : (l : List NodeNo) (i : ℕ) → i < length l → numbers (drop i l) ≡ number_at l i ∷ numbers (drop (i + 1) l)
nodes_from l i h = ap numbers (drop_more l i (record { 0 = 0 }) h)

pub inside_at : (P : ℕ) (l : List NodeNo) (i : ℕ) → Inside P (numbers l) → i < length l → number_at l i < P
unfolding Inside
inside_at P [] i h a = absurd (omega arith)
inside_at P (n ∷ l) zero h a = h.0
inside_at P (n ∷ l) (suc i) h a = inside_at P l i h.1 (omega arith)

-- the nodes after the first
abbrev rest : List NodeNo → List NodeNo
rest l = take (length l - 1) (drop 1 l)

rest-is : (n : NodeNo) (l : List NodeNo) → rest (n ∷ l) ≡ l
rest-is n l = take_rest (n ∷ l) 1

pub inside_rest : (P : ℕ) (l : List NodeNo) → Inside P (numbers l) → Inside P (numbers (rest l))
unfolding Inside
inside_rest P [] h = h
inside_rest P (n ∷ l) h = rw (rest-is n l) h.1

pub length-numbers : (l : List NodeNo) → length (numbers l) ≡ length l
length-numbers [] = refl
length-numbers (n ∷ l) = ap suc (length-numbers l)

-- the nodes from place i on, the leaf last
module _ (C : Shape) (s e x : ℕ) (w : List ℕ) (l : List NodeNo) where
  pub path_turn : (i : ℕ) → i < length l - 1
      → new_path C w s e x (numbers (drop i l)) ≡ new_path C (fresh C w (number_at l i) (length l - 1 - i) s NONE (number_at l (i + 1))) s e x (numbers (drop (i + 1) l))
  unfolding new_path top_of end_over
  path_turn i h =
      let a = nodes_from l i (omega arith) in
      let b = nodes_from l (i + 1) (omega arith) in
      let more = numbers (drop (i + 1 + 1) l) in
      let k : suc (length more) ≡ length l - 1 - i = omega (arith, length-numbers (drop (i + 1 + 1) l), length-drop (i + 1 + 1) l) in
      ap (new_path C w s e x) (a ∙ ap (λ (z : List ℕ). number_at l i ∷ z) b)
      ∙ ap (λ (j : ℕ). new_path C (fresh C w (number_at l i) j s NONE (number_at l (i + 1))) s e x (number_at l (i + 1) ∷ more)) k
      ∙ ap (new_path C (fresh C w (number_at l i) (length l - 1 - i) s NONE (number_at l (i + 1))) s e x) (sym b)

  pub path_end : (i : ℕ) → i ≡ length l - 1 → 0 < length l → new_path C w s e x (numbers (drop i l)) ≡ fresh C w (number_at l i) 0 s e x
  unfolding new_path top_of end_over
  path_end i h g =
      let z : drop (i + 1) l ≡ [] = drop_all (i + 1) l (omega arith) in
      rw (nodes_from l i (omega arith), z)

module _ (C : Shape) (w : List ℕ) (n s e x : ℕ) where
  pub hang_is : (l : List NodeNo) → 0 < length l → hang C w n s e x (numbers l) ≡ new_path C (added C w n s (number_at l 0)) s e x (numbers l)
  unfolding hang
  hang_is [] z = absurd (omega arith)
  hang_is (m ∷ l) z = refl

  pub split_is : (l : List NodeNo) → 2 ≤ length l
      → split_root C w n s e x (numbers l) ≡ new_path C (raised C (put C (copied C w n (number_at l 0)) (number_at l 0) 3 s) n (number_at l 0) s (number_at l 1)) s e x (numbers (rest l))
  unfolding split_root top_of
  split_is [] h = absurd (omega arith)
  split_is (c ∷ []) h = absurd (omega arith)
  split_is (c ∷ m ∷ l) h = rw (rest-is c (m ∷ l))

-- the root's height is the same where its copy was written
module _ (C : Shape) (w : List ℕ) (n c s : ℕ) (d : n ≢ c) where
  pub split_high : height C w n ≤ max_height → height C (put C (copied C w n c) c 3 s) n ≤ max_height
  split_high l = omega (arith, copied-keeps C n c w n d 0 (omega arith), put_keeps C (copied C w n c) c n 3 s d (omega arith) 0 (omega arith))

pub raised_header : (C : Shape) (P : ℕ) (w : List ℕ) (n c s m : ℕ) → Header C.cap P w → Header C.cap P (raised C w n c s m)
unfolding raised
raised_header C P w n c s m hd = header_at C.cap P w _ hd (simp put-length)

-- what a split of the root cites
pub ruleset split_steps = (inside_at, inside_rest, split_is, split_high)
