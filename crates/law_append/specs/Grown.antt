-- 01, "Append (`insert_row_page`)", on trees: which way a tree grows.
use Rattle.std.specs.Prelude.{ℕ, zero, suc, List, [], ◌∷◌, ◌++◌, ◌≡◌, length}
use Rattle.model.specs.Words.{NONE}
use Rattle.model.specs.Tree.{Level}
use Rattle.model.specs.Append.{end_over}

-- the last pair leads to f of what it led to
unfoldable pub on_last : {K : Type 0} → (K → K) → List (ℕ × K) → List (ℕ × K)
on_last f [] = []
on_last f (p ∷ []) = (p.0, f p.1) ∷ []
on_last f (p ∷ q ∷ ps) = p ∷ on_last f (q ∷ ps)

-- "a new path of one-entry nodes", "top node first", over page x with rows s to e
unfoldable pub path_tree : ℕ → ℕ → ℕ → (ns : List ℕ) → Level (length ns)
path_tree s e x [] = x
path_tree s e x (n ∷ ns) = record { number = n; height = length ns; start = s; end = end_over e ns; pairs = (s, path_tree s e x ns) ∷ [] }

-- the end of a node of height p that gets one more entry
unfoldable pub end_at : ℕ → ℕ → ℕ → ℕ
end_at zero e old = e
end_at (suc p) e old = old

-- d levels above p
abbrev pub up : ℕ → ℕ → ℕ
up p zero = p
up p (suc d) = suc (up p d)

-- "hangs there": y with rows from s is one more entry, d steps down the right edge
unfoldable pub hung : (d p : ℕ) → Level (suc (up p d)) → ℕ → ℕ → Level p → Level (suc (up p d))
hung zero p t s e y =
    record { number = t.number; height = t.height; start = t.start; end = end_at p e t.end; pairs = t.pairs ++ ((s, y) ∷ []) }
hung (suc d) p t s e y =
    record { number = t.number; height = t.height; start = t.start; end = t.end; pairs = on_last (λ x. hung d p x s e y) t.pairs }

-- "copied into the first node taken, that copy's end becomes the new row": the root in node c, with end s
unfoldable pub renamed : (h : ℕ) → Level (suc h) → ℕ → ℕ → Level (suc h)
renamed h t c s = record { number = c; height = t.height; start = t.start; end = s; pairs = t.pairs }

-- a root over its copy and y
unfoldable pub parted : (h : ℕ) → Level (suc h) → ℕ → ℕ → Level (suc h) → Level (suc (suc h))
parted h t c s y =
    record { number = t.number; height = suc h; start = t.start; end = NONE; pairs = (t.start, renamed h t c s) ∷ (s, y) ∷ [] }

-- Tree t of height h became one of height a, with page x for rows s to e, by the nodes fs: an empty root got its first
-- entry; or a new path over fs hangs d steps down the right edge, or the entry itself where fs is empty; or the root
-- was copied into node c, under a root over that copy and a new path.
pub data Grown (s e x : ℕ) : (h : ℕ) → Level (suc h) → (a : ℕ) → Level (suc a) → List ℕ → Type 0 where
  begins : (t : Level 1) → t.pairs ≡ [] → Grown s e x 0 t 0 (path_tree s e x (t.number ∷ [])) []
  hangs : (d : ℕ) (fs : List ℕ) (t : Level (suc (up (length fs) d))) → Grown s e x (up (length fs) d) t (up (length fs) d) (hung d (length fs) t s e (path_tree s e x fs)) fs
  splits : (c m : ℕ) (ms : List ℕ) (t : Level (suc (length ms))) → Grown s e x (length ms) t (suc (length ms)) (parted (length ms) t c s (path_tree s e x (m ∷ ms))) (c ∷ m ∷ ms)
