-- Whole records and others.
use Prim.Native.Nat.{ℕ, ◌+◌, ◌≤◌}
use mathlib.Core.Path.{◌≡◌}
use mathlib.Core.List.{List}
use mathlib.Core.Bool.{true, false, ◌&&◌}
use native.Mathlib.Omega.{arith}
use lib.ListN.{length}
use lib.Dec.{leb, leb→le}
use Rattle.model.proofs.Tests.{and_l, and_r, by_test, holds}
use Rattle.script_records.specs.Records.{body_length, whole}
use Rattle.script_records.specs.Read.{head_of}
use Rattle.std.specs.Prelude.{Some, None}

-- what a whole record gives
pub record Whole (bs : List ℕ) (n : ℕ) : Type 0 where
  pub is : n ≡ body_length bs
  pub short : n ≤ 4096
  pub fits : 4 + n ≤ length bs
  pub whole : whole bs ≡ true

pub within : (bs : List ℕ) → whole bs ≡ true → (body_length bs ≤ 4096) × (4 + body_length bs ≤ length bs)
unfolding whole
within bs t =
    let a = leb 4 (length bs) in
    let b = leb (body_length bs) 4096 in
    let d = leb (4 + body_length bs) (length bs) in
    let h = holds _ t in
    (leb→le (body_length bs) 4096 (and_r a b (and_l (a && b) d h)), leb→le (4 + body_length bs) (length bs) (and_r (a && b) d h))

pub wholly : (bs : List ℕ) (n : ℕ) → Some n ≡ head_of bs → Whole bs n
unfolding head_of
wholly bs n e =
    by_test (whole bs)
    (λ t.
    let f : Some n ≡ Some (body_length bs) = rw t at e in
    let is : n ≡ body_length bs = cc in
    let w = within bs t in
    record { is = is; short = omega arith; fits = omega arith; whole = t })
    (λ t. let f : Some n ≡ None = rw t at e in cc)

pub badly : (bs : List ℕ) → None ≡ head_of bs → whole bs ≡ false
unfolding head_of
badly bs e =
    by_test (whole bs)
    (λ t. let f : None ≡ Some (body_length bs) = rw t at e in cc)
    (λ t. t)
