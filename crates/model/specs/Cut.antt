-- 01, "Prune": the cut of a tree at row e. "What lies below goes."
use Rattle.std.specs.Prelude.{ℕ, zero, suc, ◌-◌, List, [], ◌∷◌, ◌++◌, length, ltb}
use Rattle.model.specs.Words.{pick}
use Rattle.model.specs.Tree.{Node, Level}

-- what is left of a subtree
pub data Rest (K : Type 0) : Type 0 where
  gone : Rest K
  stays : K → Rest K

-- by what is left
unfoldable pub if_gone : {K A : Type 0} → Rest K → A → A → A
if_gone gone a b = a
if_gone (stays x) a b = b

-- the first pair that stays "takes the end as its first row", and those after it are as they were
unfoldable pub keep : {K : Type 0} → ℕ → ℕ → Rest K → List (ℕ × K) → List (ℕ × K) → List (ℕ × K)
keep e r gone ps more = more
keep e r (stays x) ps more = (pick (ltb r e) e r, x) ∷ ps

unfoldable pub cut_pairs : {K : Type 0} → ℕ → (K → ℕ → Rest K) → List (ℕ × K) → List (ℕ × K)
cut_pairs e f [] = []
cut_pairs e f (p ∷ ps) = keep e p.0 (f p.1 p.0) ps (cut_pairs e f ps)

-- "takes the end as its start"; a node of which nothing is left goes
unfoldable pub trim : {K : Type 0} → ℕ → Node K → List (ℕ × K) → Rest (Node K)
trim e t [] = gone
trim e t (p ∷ ps) = stays (record { number = t.number; height = t.height; start = e; end = t.end; pairs = p ∷ ps })

-- what is left of what a pair of row r leads to
unfoldable pub cut : (h : ℕ) → ℕ → Level h → ℕ → Rest (Level h)
cut zero e x r = pick (ltb r e) gone (stays x)
cut (suc h) e t r = let c = trim e t (cut_pairs e (cut h e) t.pairs) in pick (ltb r e) c (stays t)

-- "the nodes whose rows all went", "children before parents, left to right"; the first pair that stays ends them
unfoldable pub went_pairs : {K : Type 0} → (K → ℕ → Rest K) → (K → ℕ → List ℕ) → List (ℕ × K) → List ℕ
went_pairs f g [] = []
went_pairs f g (p ∷ ps) = g p.1 p.0 ++ if_gone (f p.1 p.0) (went_pairs f g ps) []

unfoldable pub went : (h : ℕ) → ℕ → Level h → ℕ → List ℕ
went zero e x r = []
went (suc h) e t r =
    let self = if_gone (trim e t (cut_pairs e (cut h e) t.pairs)) (t.number ∷ []) [] in
    let l = went_pairs (cut h e) (went h e) t.pairs ++ self in
    pick (ltb r e) l []

-- "each node that stays but loses rows", the top first, with how many entries it loses
unfoldable pub trims_pairs : {K : Type 0} → (K → ℕ → Rest K) → (K → ℕ → List (ℕ × ℕ)) → List (ℕ × K) → List (ℕ × ℕ)
trims_pairs f g [] = []
trims_pairs f g (p ∷ ps) = if_gone (f p.1 p.0) (trims_pairs f g ps) (g p.1 p.0)

unfoldable pub trims : (h : ℕ) → ℕ → Level h → ℕ → List (ℕ × ℕ)
trims zero e x r = []
trims (suc h) e t r =
    let lost = length t.pairs - length (cut_pairs e (cut h e) t.pairs) in
    let l : List (ℕ × ℕ) = (t.number, lost) ∷ trims_pairs (cut h e) (trims h e) t.pairs in
    pick (ltb r e) l []

-- how many entries of a node stay
unfoldable pub kept : (h : ℕ) → ℕ → Level (suc h) → ℕ → ℕ
kept h e t r = pick (ltb r e) (length (cut_pairs e (cut h e) t.pairs)) (length t.pairs)
