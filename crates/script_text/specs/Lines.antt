-- 01, "Script program", "Lines": the bytes of a line, and a listing in lent bytes.
use Rattle.std.specs.Prelude.{ℕ, zero, suc, ◌+◌, ◌-◌, ◌/◌, ◌%◌, ◌^◌, min, List, [], ◌∷◌, ◌++◌, ◌≡◌, length, ltb}
use Rattle.model.specs.Words.{pick, fill}
use Rattle.script_text.specs.declared.Lines.{Lines}

-- the ASCII code of a decimal digit
abbrev pub digit : ℕ → ℕ
digit d = 48 + d

-- the decimal digits of n, which has at most k
unfoldable pub digits_of : ℕ → ℕ → List ℕ
digits_of zero n = []
digits_of (suc k) n = pick (ltb n 10) (digit n ∷ []) (digits_of k (n / 10) ++ (digit (n % 10) ∷ []))

-- a 64-bit number has at most twenty
unfoldable pub decimal : ℕ → List ℕ
decimal n = digits_of 20 n

abbrev pub space : ℕ
space = 32

abbrev pub newline : ℕ
newline = 10

-- each number after a space
unfoldable pub numbers : List ℕ → List ℕ
numbers [] = []
numbers (v ∷ vs) = space ∷ (decimal v ++ numbers vs)

-- a word, its numbers, and the end of the line
unfoldable pub line : List ℕ → List ℕ → List ℕ
line word vs = word ++ (numbers vs ++ (newline ∷ []))

-- "returns the whole length": a length past every 64-bit number is given as the largest one
abbrev pub capped : ℕ → ℕ
capped n = min n (2 ^ 64 - 1)

-- Bytes were put at a place: "it writes the bytes that fit" (`fill` leaves out what lies past the end, and the rest
-- stays), and r is the place after them
pub record Puts (before : List ℕ) (at : ℕ) (bytes after : List ℕ) (r : ℕ) : Type 0 where
  pub is : after ≡ fill before at bytes
  pub place : r ≡ capped (at + length bytes)

-- what a function of src/ puts: the bytes stay the ones that were lent
pub record Put (l : Lines) (bytes : List ℕ) (l₁ : Lines) : Type 0 where
  pub lent : l₁.bytes.ghost_name ≡ l.bytes.ghost_name
  pub puts : Puts l.bytes.now l.at bytes l₁.bytes.now l₁.at
