-- What an append to a well-formed store answers and leaves.
use Rattle.std.specs.Prelude.{ℕ, suc, ◌+◌, ◌<◌, ◌≤◌, List, [], ◌∷◌, ◌++◌, ◌&&◌, ◌||◌, ◌≡◌, ◌≢◌, ◌⊎◌, length, ltb, eqb}
use Rattle.model.specs.Words.{Shape, pick, row_limit, max_height}
use Rattle.model.specs.Tree.{Open, Below}
use Rattle.model.specs.Reading.{entries, occ, nodes}
use Rattle.model.specs.Refusals.{Answer, result, refused, Outcome}
use Rattle.law_formed.specs.Formed.{tree_of, Formed}
use Rattle.law_append.specs.Needed.{needed, entries_end}
use Rattle.law_append.specs.Grown.{Grown}

-- in a store whose root has height h and whose rows begin at r: the row where an append begins, and the nodes it needs
abbrev pub end_row : Shape → List ℕ → ℕ → ℕ → ℕ
end_row C w h r = entries_end r (entries (suc h) (tree_of C w h) r Open)

abbrev pub wanted : Shape → List ℕ → ℕ → ℕ
wanted C w h = needed C h (tree_of C w h)

-- k rows from s on, in a tree of height h that needs n more nodes, with so many free: 4, then 6, then 5
unfoldable pub verdict : ℕ → ℕ → ℕ → ℕ → ℕ → Answer
verdict k s h n free =
    let five = pick (ltb free n) (refused 5 n) (result (s ∷ (s + k) ∷ n ∷ [])) in
    let six = pick (ltb h n && eqb h max_height) (refused 6 0) five in
    pick (eqb k 0 || ltb row_limit (s + k)) (refused 4 0) six

-- neither 4 nor 6
pub record Passes (k s h n : ℕ) : Type 0 where
  pub some : 0 < k
  pub most : s + k ≤ row_limit
  pub low : h < n → h ≢ max_height

-- a refusal leaves the words w, a result the words v
unfoldable pub told : List ℕ → List ℕ → Answer → Outcome
told w v (result l) = record { answer = result l; words = v }
told w v (refused a b) = record { answer = refused a b; words = w }

-- v is the store w, of height h with rows from r on and the free nodes ns, with page x for the rows s to e added, by n
-- nodes of the chain
pub record Appended (C : Shape) (P : ℕ) (w v : List ℕ) (h r n s e x : ℕ) (ns : List ℕ) : Type 0 where
  pub above : ℕ
  pub rest : List ℕ
  pub formed : Formed C P v above r rest
  pub gone : List ℕ
  pub left : ns ≡ gone ++ rest
  pub many : length gone ≡ n
  -- the root is split, or not
  pub tall : ((above ≡ h) × (n ≤ h)) ⊎ ((above ≡ suc h) × (n ≡ h + 2))
  pub grew : (m : ℕ) → occ m (nodes (suc above) (tree_of C v above)) ≡ occ m (nodes (suc h) (tree_of C w h)) + occ m gone
  -- which way the tree grew
  pub grown : Grown s e x h (tree_of C w h) above (tree_of C v above) gone
  pub more : entries (suc above) (tree_of C v above) r Open ≡ entries (suc h) (tree_of C w h) r Open ++ ((record { low = s; high = Below e; page = x }) ∷ [])
