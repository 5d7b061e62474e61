-- The page ids of a body, one after the other.
use Prim.Native.Nat.{ℕ, ◌+◌, ◌*◌, ◌-◌, ◌/◌, ◌≤◌, ◌<◌}
use mathlib.Core.Path.{◌≡◌, sym, ◌∙◌, ap}
use mathlib.Core.List.{List}
use native.Mathlib.Omega.{arith}
use native.Mathlib.Numerals.{add-one}
use lib.ListN.{length, get_or, set, take, drop, length-drop}
use lib.Seq.{take-suc, take-suc-set, take_all, get_or-drop}
use Rattle.script_records.specs.Records.{little}
use Rattle.script_records.specs.Read.{body_words, Copied}
use Rattle.script_records.proofs.Little.{length_words, word_at}

module _ (body : List ℕ) where
  abbrev pub ids : List ℕ
  ids = drop 2 (body_words body)

  pub length_ids : length ids ≡ (length body - 2) / 8 - 2
  length_ids = length-drop 2 (body_words body) ∙ ap (λ (n : ℕ). n - 2) (length_words ((length body - 2) / 8) (drop 2 body))

  pub one_more : (l : List ℕ) (i r : ℕ) → 26 + 8 * i ≤ length body → i < length l → r ≡ little (take 8 (drop (2 + 8 * (2 + i)) body)) → take i l ≡ take i ids → take (i + 1) (set l i r) ≡ take (i + 1) ids
  one_more l i r h t e is =
      let k = (length body - 2) / 8 in
      let w : get_or ids i 0 ≡ r = get_or-drop 2 (body_words body) i 0 ∙ word_at k (2 + i) body (omega arith) ∙ sym e in
      let n : i < length ids = omega (arith, length_ids) in
      rw (add-one i, take-suc-set l i r t, take-suc ids i 0 n, w, is)

  pub all : (l : List ℕ) (i : ℕ) → length body < 26 + 8 * i → take i l ≡ take i ids → i ≤ length l → Copied body l i
  all l i h is t = record { is = is ∙ take_all i ids (omega (arith, length_ids)); few = t }
