-- A record that is known, the listing after it, and lines put where they have room.
use Prim.Native.Nat.{ℕ, ◌+◌, ◌-◌, ◌^◌, ◌≤◌, ◌<◌}
use mathlib.Core.Path.{◌≡◌, refl, sym, ◌∙◌, ap}
use mathlib.Core.List.{List, [], ◌++◌, append-nil, append_assoc}
use mathlib.Core.Bool.{Bool, true, false, ◌&&◌}
use native.Mathlib.Omega.{arith}
use lib.Dec.{leb, ltb}
use lib.ListN.{length, take, drop, length-append, length-drop, take-append-drop}
use Rattle.std.proofs.lemmas.List.{drop-take}
use lib.Seq.{take-append-le, drop-append-le, take_at, length-take-le, drop-drop}
use borrow.Author.Tests.{le-leb, lt-leb, le-ltb, leb-true, ltb-true, ltb-false}
use Rattle.std.specs.Prelude.{Option, Some, None, Result, Ok, Err, OnErr}
use Rattle.model.specs.Words.{fill}
use Rattle.model.proofs.Tests.{by_test}
use Rattle.model.proofs.Fill.{fill-append, fill_is}
use Rattle.script_text.specs.Lines.{Puts}
use Rattle.script_text.proofs.Putting.{same}
use Rattle.script_records.specs.Records.{body_length, whole, first}
use Rattle.script_records.proofs.Heads.{within}
use Rattle.script_calls.specs.Calls.{Memory, perform}
use Rattle.script_calls.specs.Steps.{memory_of, Does}
use Rattle.script_text.specs.declared.Lines.{Lines}
use Rattle.script_calls.specs.declared.memory.Memory as M
use Rattle.script_step.specs.Script.{turn}
use Rattle.script_step.proofs.Stepping.{goes-whole, turns, turn-some, turn-short}
use Rattle.script_block.specs.Blocks.{known_length, is_known, listing_on, put_since}

-- The first record, with bytes after it --------------------------------------------------------------------------

module _ (bs more : List ℕ) where
  same_length : 4 ≤ length bs → body_length (bs ++ more) ≡ body_length bs
  same_length h = rw (take-append-le 4 bs more h)

  same_body : 4 + body_length bs ≤ length bs → take (body_length bs) (drop 4 (bs ++ more)) ≡ take (body_length bs) (drop 4 bs)
  same_body h =
      let a : 4 ≤ length bs = omega arith in
      let b : body_length bs ≤ length (drop 4 bs) = omega (arith, length-drop 4 bs) in
      rw (drop-append-le 4 bs more a, take-append-le (body_length bs) (drop 4 bs) more b)

  long-first : 4 ≤ length bs → 4096 < body_length bs → first (bs ++ more) ≡ first bs
  unfolding first whole
  long-first h l =
      let a : 4 ≤ length (bs ++ more) = omega (arith, length-append bs more) in
      rw (same_length h, le-leb 4 (length (bs ++ more)) a, le-leb 4 (length bs) h, lt-leb (body_length bs) 4096 l)

  whole-first : 4 + body_length bs ≤ length bs → body_length bs ≤ 4096 → first (bs ++ more) ≡ first bs
  unfolding first whole
  whole-first h l =
      let four : 4 ≤ length bs = omega arith in
      let a : 4 ≤ length (bs ++ more) = omega (arith, length-append bs more) in
      let b : 4 + body_length bs ≤ length (bs ++ more) = omega (arith, length-append bs more) in
      rw (same_length four, same_body h, le-leb 4 (length (bs ++ more)) a, le-leb 4 (length bs) four, le-leb (body_length bs) 4096 l, le-leb (4 + body_length bs) (length (bs ++ more)) b, le-leb (4 + body_length bs) (length bs) h)

-- what a known length says of the bytes
pub record Known (bs : List ℕ) (n : ℕ) : Type 0 where
  pub four : 4 ≤ length bs
  pub some : 4 ≤ n
  pub first : (more : List ℕ) → first (bs ++ more) ≡ first bs

pub known : (bs : List ℕ) (n : ℕ) → known_length bs ≡ Some n → Known bs n
unfolding known_length
known bs n h =
    by_test (leb 4 (length bs))
    (λ t.
    let four = leb-true 4 (length bs) t in
    by_test (ltb 4096 (body_length bs))
    (λ u.
    let e : Some 4 ≡ Some n = rw (t, u) at h in
    let is : 4 ≡ n = cc in
    record { four = four; some = omega arith; first = λ more. long-first bs more four (ltb-true 4096 (body_length bs) u) })
    (λ u.
    by_test (leb (4 + body_length bs) (length bs))
    (λ v.
    let e : Some (4 + body_length bs) ≡ Some n = rw (t, u, v) at h in
    let is : 4 + body_length bs ≡ n = cc in
    record { four = four; some = omega arith; first = λ more. whole-first bs more (leb-true (4 + body_length bs) (length bs) v) (ltb-false 4096 (body_length bs) u) })
    (λ v. let z : ◌≡◌ {A = Option ℕ} None (Some n) = rw (t, u, v) at h in (cc))))
    (λ t. let z : ◌≡◌ {A = Option ℕ} None (Some n) = rw t at h in (cc))

-- a whole record is as long as its known length
pub whole-known : (bs : List ℕ) → whole bs ≡ true → known_length bs ≡ Some (4 + body_length bs)
unfolding known_length
whole-known bs w =
    let i = within bs w in
    rw (le-leb 4 (length bs) (omega arith), le-ltb 4096 (body_length bs) i.0, le-leb (4 + body_length bs) (length bs) i.1)

-- The listing, with a known record first ----------------------------------------------------------------------

module _ (m : Memory) (bs : List ℕ) (n : ℕ) (h : known_length bs ≡ Some n) where
  turn_is : (more : List ℕ) → turn m (bs ++ more) ≡ perform m (first bs)
  turn_is more =
      let k = known bs n h in
      turn-some m (bs ++ more) (omega (arith, length-append bs more, k.four)) ∙ ap (perform m) (k.first more)

  pub last_record : (perform m (first bs)).goes ≡ false → (more : List ℕ) → listing_on m (bs ++ more) ≡ (perform m (first bs)).lines
  last_record g more = turns m (bs ++ more) ∙ rw (turn_is more, g) (append-nil (perform m (first bs)).lines)

  pub all-known : (perform m (first bs)).goes ≡ true → n ≡ 4 + body_length bs
  all-known g =
      let e : Some n ≡ Some (4 + body_length bs) = sym h ∙ whole-known bs (goes-whole m bs g) in (cc)

  pub next_record : (perform m (first bs)).goes ≡ true → (more : List ℕ) → listing_on m (bs ++ more) ≡ (perform m (first bs)).lines ++ listing_on (perform m (first bs)).memory (drop n bs ++ more)
  next_record g more =
      let k = known bs n h in
      let fits = (within bs (goes-whole m bs g)).1 in
      turns m (bs ++ more) ∙ rw (turn_is more, g, same_length bs more k.four, drop-append-le (4 + body_length bs) bs more fits, all-known g)

  pub lines-short : length m.words ≤ 4096 → length (perform m (first bs)).lines ≤ 65536
  lines-short l =
      let e = turn-some m bs (omega (arith, (known bs n h).four)) in
      rw e at (turn-short m bs l)

  pub goes-fits : (perform m (first bs)).goes ≡ true → n ≤ length bs
  goes-fits g = omega (arith, all-known g, (within bs (goes-whole m bs g)).1)

-- Lines where they have room ------------------------------------------------------------------------------------

pub put-after : {o o₁ xs : List ℕ} {at r : ℕ} → length o < 2 ^ 64 → at + length xs ≤ length o → Puts o at xs o₁ r → (r ≡ at + length xs) × (take r o₁ ≡ take at o ++ xs)
put-after {o} {o₁} {xs} {at} {r} small h p =
    let n : length (take at o) ≡ at = length-take-le at o (omega arith) in
    let e : r ≡ at + length xs = omega (arith, p.place) in
    let l : length (take at o ++ xs) ≡ r = omega (arith, length-append (take at o) xs) in
    let own : fill o 0 (take at o) ≡ o = fill_is o (take at o) (omega arith) ∙ rw n (take-append-drop at o) in
    let all : fill o at xs ≡ fill o 0 (take at o ++ xs) = sym (fill-append o 0 (take at o) xs ∙ rw (own, n) (ap (λ (k : ℕ). fill o k xs) (let z : 0 + at ≡ at = omega arith in z))) in
    (e, rw (p.is, all, fill_is o (take at o ++ xs) (omega arith)) (take_at (take at o ++ xs) _ r l))

-- A turn of the loop --------------------------------------------------------------------------------------------

-- the lines so far, whatever bytes follow
abbrev pub Says : Memory → List ℕ → List ℕ → Memory → List ℕ → Type 0
Says m bs lines m₁ rest = (more : List ℕ) → listing_on m (bs ++ more) ≡ lines ++ listing_on m₁ (rest ++ more)

module _ {m m₁ : M.Memory} {l l₁ : Lines} (bs : List ℕ) {n : ℕ} (h : known_length bs ≡ Some n) (few : length m.words.now ≤ 4096) (small : length l.bytes.now < 2 ^ 64) (room : l.at + 65536 ≤ length l.bytes.now) (d : Does (perform (memory_of m) (first bs)) m l m₁ l₁) where
  fits : l.at + length (perform (memory_of m) (first bs)).lines ≤ length l.bytes.now
  fits = omega (arith, lines-short (memory_of m) bs n h few)

  pub placed : (l.at ≤ l₁.at) × (l₁.at ≤ length l₁.bytes.now)
  placed =
      let p = put-after small fits d.puts.puts in
      (omega (arith, p.0), omega (arith, p.0, same d.puts.puts, fits))

  since : (l₀ : Lines) → l₀.at ≤ l.at → put_since l₀ l₁ ≡ put_since l₀ l ++ (perform (memory_of m) (first bs)).lines
  since l₀ before =
      let p = put-after small fits d.puts.puts in
      let k : l₀.at ≤ length (take l.at l.bytes.now) = omega (arith, length-take-le l.at l.bytes.now (omega arith)) in
      ap (drop l₀.at) p.1 ∙ drop-append-le l₀.at (take l.at l.bytes.now) (perform (memory_of m) (first bs)).lines k

  module _ (l₀ : Lines) (m₀ : Memory) (bytes : List ℕ) (before : l₀.at ≤ l.at) (says : Says m₀ bytes (put_since l₀ l) (memory_of m) bs) where
    pub stopped : (perform (memory_of m) (first bs)).goes ≡ false → (more : List ℕ) → listing_on m₀ (bytes ++ more) ≡ put_since l₀ l₁ ++ []
    stopped g more =
        says more ∙ ap (λ (x : List ℕ). put_since l₀ l ++ x) (last_record (memory_of m) bs n h g more) ∙ sym (since l₀ before) ∙ sym (append-nil (put_since l₀ l₁))

    pub went : (perform (memory_of m) (first bs)).goes ≡ true → (bs₁ : List ℕ) → bs₁ ≡ drop n bs → Says m₀ bytes (put_since l₀ l₁) (memory_of m₁) bs₁
    went g bs₁ e more =
        let p = perform (memory_of m) (first bs) in
        let x = listing_on p.memory (drop n bs ++ more) in
        rw (d.words, d.used, since l₀ before, e) (says more ∙ ap (λ (y : List ℕ). put_since l₀ l ++ y) (next_record (memory_of m) bs n h g more) ∙ sym (append_assoc (put_since l₀ l) p.lines x))

-- what is left after a record
module _ (bs : List ℕ) {bs₁ : List ℕ} {n : ℕ} (fits : n ≤ length bs) (e : bs₁ ≡ drop n bs) where
  pub left : length bs₁ ≡ length bs - n
  left = rw e (length-drop n bs)

  pub behind : (bytes : List ℕ) → length bs ≤ length bytes → bs ≡ drop (length bytes - length bs) bytes → bs₁ ≡ drop (length bytes - length bs₁) bytes
  behind bytes h f =
      let k : (length bytes - length bs) + n ≡ length bytes - length bs₁ = omega (arith, left) in
      e ∙ ap (drop n) f ∙ drop-drop n (length bytes - length bs) bytes ∙ ap (λ (i : ℕ). drop i bytes) k

pub ended : {T E P : Type 0} (r : Result T E) → P → OnErr r P
ended (Ok x) p = tt
ended (Err e) p = p

-- nothing is put at first
pub at_first : (l : Lines) → put_since l l ≡ []
at_first l = let z : l.at + 0 ≡ l.at = omega arith in rw z at (drop-take l.at 0 l.bytes.now)

-- Why a run rests: the next record is not known, or its lines may have no room
pub unknown : (bs : List ℕ) (t : Bool) → known_length bs ≡ None → (is_known bs && t) ≡ false
unknown bs t e = rw e

pub full : (t : Bool) (at n : ℕ) → n < at + 65536 → (t && leb (at + 65536) n) ≡ false
full true at n h = rw (lt-leb (at + 65536) n h)
full false at n h = refl
