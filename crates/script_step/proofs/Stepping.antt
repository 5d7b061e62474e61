-- The record that bytes begin with, and the listing after it.
use Prim.Native.Nat.{ℕ, zero, suc, ◌+◌, ◌≤◌, ◌<◌}
use mathlib.Core.Path.{◌≡◌, refl, sym, ap}
use mathlib.Core.List.{List, [], ◌∷◌, ◌++◌, append-nil}
use mathlib.Core.Bool.{true, false}
use native.Mathlib.Omega.{arith}
use lib.ListN.{length, drop, replicate, length-drop}
use Rattle.model.specs.Words.{pick, free_count}
use Rattle.model.proofs.Tests.{by_test}
use Rattle.script_text.specs.Lines.{Put, line}
use Rattle.script_text.specs.declared.Lines.{Lines}
use Rattle.script_text.proofs.Putting.{then}
use Rattle.script_records.specs.Records.{body_length, whole, first}
use Rattle.script_records.proofs.Heads.{within}
use Rattle.answer_line.specs.Names.{free_name}
use Rattle.script_calls.specs.Calls.{Memory, perform}
use Rattle.script_walk.proofs.Short.{line-short, short}
use Rattle.script_calls.specs.Steps.{memory, memory_of, Does}
use Rattle.script_calls.specs.declared.memory.Memory as M
use Rattle.script_step.specs.Script.{free_line, listing_from, listing_of, turn}

pub goes-whole : (m : Memory) (bs : List ℕ) → (perform m (first bs)).goes ≡ true → whole bs ≡ true
unfolding first perform
goes-whole m bs g =
    by_test (whole bs)
    (λ t. t)
    (λ t. let f : false ≡ true = rw t at g in let z : ◌≡◌ {A = ℕ} 0 1 = cc in absurd (omega arith))

-- The listing, record by record -------------------------------------------------------------------------------

fuel : (j k : ℕ) (m : Memory) (bs : List ℕ) → length bs ≤ j → length bs ≤ k → listing_from j m bs ≡ listing_from k m bs
unfolding listing_from
fuel zero zero m bs h l = refl
fuel zero (suc k) m [] h l = refl
fuel zero (suc k) m (b ∷ bs) h l = absurd (omega arith)
fuel (suc j) zero m [] h l = refl
fuel (suc j) zero m (b ∷ bs) h l = absurd (omega arith)
fuel (suc j) (suc k) m [] h l = refl
fuel (suc j) (suc k) m (b ∷ bs) h l =
    let p = perform m (first (b ∷ bs)) in
    let n = 4 + body_length (b ∷ bs) in
    let d = length-drop n (b ∷ bs) in
    let e = fuel j k p.memory (drop n (b ∷ bs)) (omega arith) (omega arith) in
    ap (λ (more : List ℕ). p.lines ++ pick p.goes more []) e

abbrev rest : List ℕ → List ℕ
rest bs = drop (4 + body_length bs) bs

one_record : (m : Memory) (bs : List ℕ) → 0 < length bs → listing_from (length bs) m bs ≡ (perform m (first bs)).lines ++ pick (perform m (first bs)).goes (listing_from (length (rest bs)) (perform m (first bs)).memory (rest bs)) []
unfolding listing_from
one_record m [] h = absurd (omega arith)
one_record m (b ∷ bs) h =
    let p = perform m (first (b ∷ bs)) in
    let n = 4 + body_length (b ∷ bs) in
    let d = length-drop n (b ∷ bs) in
    let e = fuel (length bs) (length (rest (b ∷ bs))) p.memory (rest (b ∷ bs)) (omega arith) (omega arith) in
    ap (λ (more : List ℕ). p.lines ++ pick p.goes more []) e

-- the listing, turn by turn
pub turns : (m : Memory) (bs : List ℕ) → listing_from (length bs) m bs ≡ (turn m bs).lines ++ pick (turn m bs).goes (listing_from (length (rest bs)) (turn m bs).memory (rest bs)) []
unfolding turn listing_from
turns m [] = sym (append-nil _)
turns m (b ∷ bs) = one_record m (b ∷ bs) (omega arith)

-- where no bytes are left
pub last_line : (m : Memory) (bs : List ℕ) → length bs ≡ 0 → listing_from (length bs) m bs ≡ free_line m
unfolding listing_from
last_line m [] h = refl
last_line m (b ∷ bs) h = absurd (omega arith)

pub turn-some : (m : Memory) (bs : List ℕ) → 0 < length bs → turn m bs ≡ perform m (first bs)
unfolding turn
turn-some m [] h = absurd (omega arith)
turn-some m (b ∷ bs) h = refl

ends_with : (m : Memory) (bs : List ℕ) → length bs ≡ 0 → turn m bs ≡ record { lines = free_line m; memory = m; goes = false }
unfolding turn
ends_with m [] h = refl
ends_with m (b ∷ bs) h = absurd (omega arith)

pub turn-short : (m : Memory) (bs : List ℕ) → length m.words ≤ 4096 → length (turn m bs).lines ≤ 65536
unfolding turn
turn-short m [] h = omega (arith, line-short free_name (free_count m.words ∷ []))
turn-short m (b ∷ bs) h = short m h (first (b ∷ bs))

module _ (m : M.Memory) (bs : List ℕ) where
  pub turn-none : {l l₁ : Lines} → length bs ≡ 0 → Put l (line free_name (free_count m.words.now ∷ [])) l₁ → Does (turn (memory_of m) bs) m l m l₁
  turn-none {l} {l₁} h p = rw (ends_with (memory_of m) bs h) (record { lent = refl; many = refl; words = refl; used = refl; puts = p })

  module _ (some : 0 < length bs) {m₁ : M.Memory} {l l₁ : Lines} (d : Does (perform (memory_of m) (first bs)) m l m₁ l₁) where
    pub stops : (perform (memory_of m) (first bs)).goes ≡ false → Put l (listing_from (length bs) (memory_of m) bs) l₁
    stops g = rw (one_record (memory_of m) bs some, g, append-nil) d.puts

    pub goes_on : (perform (memory_of m) (first bs)).goes ≡ true → (n : ℕ) → n ≡ 4 + body_length bs → (l₂ : Lines) → Put l₁ (listing_from (length (drop n bs)) (memory_of m₁) (drop n bs)) l₂ → Put l (listing_from (length bs) (memory_of m) bs) l₂
    goes_on g n e l₂ p = rw (one_record (memory_of m) bs some, g) (then d.puts (rw (d.words, d.used, e) at p))

pub next_fits : (m : Memory) (bs : List ℕ) → (perform m (first bs)).goes ≡ true → 4 + body_length bs ≤ length bs
next_fits m bs g = (within bs (goes-whole m bs g)).1

-- the listing from words that are zero at first
pub from-zeros : (n : ℕ) (bs : List ℕ) → listing_from (length bs) (memory (replicate n 0) n) bs ≡ listing_of n bs
unfolding listing_of
from-zeros n bs = refl
