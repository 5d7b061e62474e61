-- 01, "Node words": "A store is well-formed when it fits its length, is open, all nodes from the root are sound, each
-- node is either reached once or in the chain once, the chain has free-count nodes and ends with P, and each branch's
-- end is NONE or, off the right edge, the end of its last leaf."
use Rattle.std.specs.Prelude.{ℕ, zero, suc, ◌+◌, ◌<◌, ◌≤◌, List, [], ◌∷◌, ◌≡◌, ◌⊎◌, length}
use Rattle.model.specs.Words.{store_shape, Arrangement, Shape, pool, root, free_head, free_count, height, count, start, end, Header, NONE, row_limit, free_mark, max_height}
use Rattle.model.specs.Tree.{Limit, Open, Below, Level, level, last, all_pairs, AllSound}
use Rattle.model.specs.Reading.{occ, nodes}

-- the chain from number n is the list: "A free node has height 2^32 − 1 and the next free number, or P, as its count."
unfoldable pub Chain : Shape → ℕ → List ℕ → ℕ → List ℕ → Type 0
Chain C P w n [] = n ≡ P
Chain C P w n (m ∷ ms) = (n ≡ m) × (m < P) × (height C w m ≡ free_mark) × Chain C P w (count C w m) ms

-- "the end of its last leaf"
unfoldable pub of_last : {K : Type 0} → (K → ℕ) → List (ℕ × K) → ℕ
of_last f [] = 0
of_last f (p ∷ []) = f p.1
of_last f (p ∷ q ∷ ps) = of_last f (q ∷ ps)

unfoldable pub last_end : (h : ℕ) → Level (suc h) → ℕ
last_end zero t = t.end
last_end (suc h) t = of_last (last_end h) t.pairs

-- "off the right edge": there is a next entry on the path
unfoldable pub OffEdge : Limit → Type 0
OffEdge Open = ⊥
OffEdge (Below r) = Unit {0}

unfoldable pub EndFits : (h : ℕ) → Level (suc h) → Limit → Type 0
EndFits zero t b = Unit {0}
EndFits (suc h) t b = (t.end ≡ NONE) ⊎ (OffEdge b × (t.end ≡ last_end (suc h) t))

-- each branch's end, from level h down
unfoldable pub EndsFit : (h : ℕ) → Level h → ℕ → Limit → Type 0
EndsFit zero x r b = Unit {0}
EndsFit (suc h) t r b = EndFits h t b × all_pairs (EndsFit h) t.pairs (last h t.end b)

pub record EmptyRoot (C : Shape) (w : List ℕ) (n : ℕ) : Type 0 where
  pub leaf : height C w n ≡ 0
  pub none : count C w n ≡ 0
  pub low : start C w n ≤ row_limit
  pub ends : end C w n ≡ NONE

-- "all nodes from the root are sound"
pub data SoundRoot (C : Shape) (P : ℕ) (w : List ℕ) (h n : ℕ) : Type 0 where
  empty_tree : EmptyRoot C w n → SoundRoot C P w h n
  sound_tree : h ≤ max_height → AllSound C P (suc h) (level C w (suc h) n) (start C w n) Open → SoundRoot C P w h n

-- root n has height h
pub record WellFormedAt (C : Shape) (P : ℕ) (w : List ℕ) (h n : ℕ) : Type 0 where
  pub fits : Header C.cap P w
  pub is_open : n < P
  pub sound : SoundRoot C P w h n
  pub chain : List ℕ
  pub linked : Chain C P w (free_head w) chain
  pub free : length chain ≡ free_count w
  pub once : (m : ℕ) → m < P → occ m (nodes (suc h) (level C w (suc h) n)) + occ m chain ≡ 1
  pub ends : EndsFit (suc h) (level C w (suc h) n) (start C w n) Open

unfoldable pub WellFormed : Arrangement → List ℕ → Type 0
WellFormed L w = let C = store_shape L w in WellFormedAt C (pool w) w (height C w (root w)) (root w)
