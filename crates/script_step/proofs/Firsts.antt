-- What the first record of some bytes asks for.
use Prim.Native.Nat.{ℕ, ◌+◌, ◌-◌}
use mathlib.Core.Path.{◌≡◌, refl, sym, ◌∙◌}
use mathlib.Core.List.{List}
use mathlib.Core.Bool.{true, false}
use native.Mathlib.Omega.{arith}
use lib.ListN.{take, drop}
use Rattle.script_records.specs.Records.{Request, Bad, first, asked}
use Rattle.script_records.specs.Read.{head_of, meant}
use Rattle.script_records.specs.declared.Record.{Record}
use Rattle.script_records.specs.declared.Record.TheVariants as R
use Rattle.std.specs.Prelude.{Some, None}
use Rattle.script_records.proofs.Heads.{wholly, badly}
use Rattle.script_calls.specs.Calls.{Memory, perform}

pub first-bad : (bs : List ℕ) → None ≡ head_of bs → first bs ≡ Bad
unfolding first
first-bad bs e = rw (badly bs e)

first-whole : (bs : List ℕ) (n : ℕ) → Some n ≡ head_of bs → first bs ≡ asked (take n (drop 4 bs))
unfolding first
first-whole bs n e = let w = wholly bs n e in rw (w.whole, w.is)

-- the body as it is cut out, and what it was found to ask for
pub first-meant : (bs : List ℕ) (n : ℕ) → Some n ≡ head_of bs → (x : Request) → x ≡ asked (take (4 + n - 4) (drop 4 bs)) → first bs ≡ x
first-meant bs n h x e = let k : 4 + n - 4 ≡ n = omega arith in first-whole bs n h ∙ sym (rw k at e)

-- only a bad record ends a script
pub bad-ends : (m : Memory) → (perform m Bad).goes ≡ false
unfolding perform
bad-ends m = refl

pub meant-goes : (m : Memory) (body : List ℕ) (r : Record) → (perform m (meant body (Some r))).goes ≡ true
unfolding perform
meant-goes m body (R.Create capacity nodes start) = refl
meant-goes m body (R.Append count page) = refl
meant-goes m body (R.Find row) = refl
meant-goes m body (R.Prune start end) = refl
meant-goes m body (R.Walk row) = refl
meant-goes m body (R.Release pivot) = refl
