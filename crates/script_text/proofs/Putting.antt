-- Bytes put one after the other.
use Prim.Native.Nat.{ℕ, ◌+◌, ◌-◌, ◌^◌, ◌≤◌, ◌<◌}
use mathlib.Core.Path.{◌≡◌, refl, sym, ◌∙◌, ap}
use mathlib.Core.List.{List, [], ◌∷◌, ◌++◌, append_assoc, append-nil}
use native.Mathlib.Omega.{arith, min_cases}
use native.Mathlib.Numerals.{add-one}
use lib.ListN.{length, get_or, set, take, length-append}
use lib.Seq.{set_out, take-suc}
use Rattle.model.specs.Words.{fill}
use Rattle.model.proofs.Fill.{length-fill, fill-append}
use Rattle.script_text.specs.Lines.{decimal, space, newline, numbers, line, capped, Puts, Put}
use Rattle.script_text.specs.declared.Lines.{Lines}

-- past the end nothing is written
pub fill-out : (l : List ℕ) (i : ℕ) (xs : List ℕ) → length l ≤ i → fill l i xs ≡ l
unfolding fill
fill-out l i [] h = refl
fill-out l i (x ∷ xs) h =
    let e = set_out l i x h in ap (λ (m : List ℕ). fill m (i + 1) xs) e ∙ fill-out l (i + 1) xs (omega arith)

-- a place past every length serves for those past it
pub fill-capped : (l : List ℕ) (i : ℕ) (xs : List ℕ) → length l < 2 ^ 64 → fill l (capped i) xs ≡ fill l i xs
fill-capped l i xs h =
    min_cases i (2 ^ 64 - 1) (fill l (capped i) xs ≡ fill l i xs)
    (λ t e. ap (λ (j : ℕ). fill l j xs) e)
    (λ t e. fill-out l (capped i) xs (omega arith) ∙ sym (fill-out l i xs (omega arith)))

pub nothing : (o : List ℕ) (at : ℕ) → at < 2 ^ 64 → Puts o at [] o at
unfolding fill
nothing o at h = record { is = refl; place = omega arith }

pub joins : {o o₁ o₂ : List ℕ} {at r₁ r₂ : ℕ} {xs ys : List ℕ} → length o < 2 ^ 64 → Puts o at xs o₁ r₁ → Puts o₁ r₁ ys o₂ r₂ → Puts o at (xs ++ ys) o₂ r₂
joins {o} {o₁} {o₂} {at} {r₁} {r₂} {xs} {ys} h p q =
    record {
      is =
          q.is ∙ ap (λ (j : ℕ). fill o₁ j ys) p.place ∙ fill-capped o₁ (at + length xs) ys (omega (arith, ap length p.is, length-fill o at xs))
          ∙ ap (λ (l : List ℕ). fill l (at + length xs) ys) p.is ∙ sym (fill-append o at xs ys);
      place = omega (arith, p.place, q.place, length-append xs ys);
    }

-- one byte: in place; past the end
pub one_in : (o : List ℕ) (at r b : ℕ) → r ≡ capped (at + 1) → Puts o at (b ∷ []) (set o at b) r
unfolding fill
one_in o at r b e = record { is = refl; place = e }

pub one_out : (o : List ℕ) (at r b : ℕ) → length o ≤ at → r ≡ capped (at + 1) → Puts o at (b ∷ []) o r
one_out o at r b h e = record { is = sym (fill-out o at (b ∷ []) h); place = e }

pub same : {o o₁ : List ℕ} {at r : ℕ} {xs : List ℕ} → Puts o at xs o₁ r → length o₁ ≡ length o
same {o} {o₁} {at} {r} {xs} p = ap length p.is ∙ length-fill o at xs

-- what the bytes are after it, found another way
pub is_also : {o o₁ o₂ : List ℕ} {at r : ℕ} {xs : List ℕ} → o₂ ≡ o₁ → Puts o at xs o₁ r → Puts o at xs o₂ r
is_also e p = record { is = e ∙ p.is; place = p.place }

-- Lines that are put -------------------------------------------------------------------------------------

pub none : (l : Lines) → l.at < 2 ^ 64 → Put l [] l
none l h = record { lent = refl; puts = nothing l.bytes.now l.at h }

pub then : {l l₁ l₂ : Lines} {xs ys : List ℕ} → Put l xs l₁ → Put l₁ ys l₂ → Put l (xs ++ ys) l₂
then {l} p q = record { lent = q.lent ∙ p.lent; puts = joins l.short p.puts q.puts }

-- a list put byte by byte
pub one_more : {l l₁ l₂ : Lines} (bs : List ℕ) (i : ℕ) → i < length bs → Put l (take i bs) l₁ → Put l₁ (get_or bs i 0 ∷ []) l₂ → Put l (take (i + 1) bs) l₂
one_more bs i t p q = rw (add-one i, take-suc bs i 0 t) (then p q)

numbers-append : (xs ys : List ℕ) → numbers (xs ++ ys) ≡ numbers xs ++ numbers ys
unfolding numbers
numbers-append [] ys = refl
numbers-append (x ∷ xs) ys = rw (numbers-append xs ys, append_assoc (decimal x) (numbers xs) (numbers ys))

number-alone : (v : ℕ) → numbers (v ∷ []) ≡ space ∷ decimal v
unfolding numbers
number-alone v = rw append-nil

-- numbers put one by one
pub number_more : {l l₁ l₂ : Lines} (vs : List ℕ) (i : ℕ) → i < length vs → Put l (numbers (take i vs)) l₁ → Put l₁ (space ∷ decimal (get_or vs i 0)) l₂ → Put l (numbers (take (i + 1) vs)) l₂
number_more vs i t p q =
    rw (add-one i, take-suc vs i 0 t, numbers-append (take i vs) (get_or vs i 0 ∷ []), number-alone (get_or vs i 0)) (then p q)

pub line_put : {l l₁ l₂ l₃ : Lines} (word vs : List ℕ) → Put l word l₁ → Put l₁ (numbers vs) l₂ → Put l₂ (newline ∷ []) l₃ → Put l (line word vs) l₃
unfolding line
line_put word vs p q s = then p (then q s)
