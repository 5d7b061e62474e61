-- A run of calls over the definitions of the calls.
use Rattle.std.specs.Prelude.{ℕ, zero, suc, ◌+◌, List, [], ◌∷◌, map, length, set, replicate, take, drop}
use Rattle.model.specs.Words.{store_shape, lent, root, free_head, free_count, store_length, part, put, height}
use Rattle.model.specs.Tree.{Level, over_pairs, Open}
use Rattle.model.specs.Reading.{root_tree}
use Rattle.model.specs.Refusals.{Answer, result, refused, Outcome}
use Rattle.model.specs.Create.{create}
use Rattle.model.specs.Lookup.{try_find_row}
use Rattle.model.specs.Append.{insert_row_page}
use Rattle.model.specs.Prune.{prune_checkpoint_prefix}
use Rattle.model.specs.LeafWalk.{seek, page_entry, Stepped, next_leaf_of}
use Rattle.model.specs.Release.{destroy, destroy_empty}
use Rattle.model.specs.FullCheck.{full_check}

pub data CaseCall : Type 0 where
  Create : ℕ → ℕ → ℕ → CaseCall
  Append : ℕ → ℕ → CaseCall
  Find : ℕ → CaseCall
  Prune : ℕ → ℕ → List ℕ → CaseCall
  Walk : ℕ → CaseCall
  Release : ℕ → CaseCall
  ReleaseEmpty : CaseCall
  Check : CaseCall
  -- height, count, start and end of every node, in reading order
  Shape : CaseCall
  -- k words of the store from word i on, or of node n from its word j on
  Words : ℕ → ℕ → CaseCall
  Part : ℕ → ℕ → ℕ → CaseCall
  -- the free nodes in the order of the chain, as many as the free count says, and the number after them
  Chain : CaseCall
  -- word i of the store, or word j of node n, becomes x; or the store becomes these words
  Set : ℕ → ℕ → CaseCall
  Put : ℕ → ℕ → ℕ → CaseCall
  Load : List ℕ → CaseCall

-- the leaves from a cursor on: the answers up to the first that is no leaf
unfoldable pub walk_answers : List ℕ → ℕ → Stepped → List Answer
walk_answers w zero s = []
walk_answers w (suc k) s = s.answer ∷ unless_leaf s.answer (walk_answers w k (next_leaf_of lent w s.cursor s.list))
  where
    unless_leaf : Answer → List Answer → List Answer
    unless_leaf (result []) more = []
    unless_leaf (result (x ∷ xs)) more = more
    unless_leaf (refused a d) more = []

unfoldable pub shapes : (h : ℕ) → Level h → List ℕ
shapes zero x = []
shapes (suc h) t =
    t.height ∷ length t.pairs ∷ t.start ∷ t.end ∷ over_pairs (λ x r b. shapes h x) t.pairs Open

-- words j, j + 1, … of node n, k of them
unfoldable pub parts_from : List ℕ → ℕ → ℕ → ℕ → List ℕ
parts_from w n j zero = []
parts_from w n j (suc k) = part (store_shape lent w) w n j ∷ parts_from w n (j + 1) k

-- "the next free number, or P, as its count"
unfoldable pub chain_from : List ℕ → ℕ → ℕ → List ℕ
chain_from w n zero = n ∷ []
chain_from w n (suc k) = n ∷ chain_from w (part (store_shape lent w) w n 1) k

-- an answer, or those of a walk, and the words afterwards
pub record Ran : Type 0 where
  pub answers : List Answer
  pub words : List ℕ

abbrev pub ran : Outcome → Ran
ran o = record { answers = o.answer ∷ []; words = o.words }

-- lists lent here always suffice
unfoldable pub run : List ℕ → CaseCall → Ran
run w (Create C P s) = ran (create lent (replicate (store_length C P) 7) C P s)
run w (Append k x) = ran (insert_row_page lent w k x)
run w (Find q) = record { answers = try_find_row lent w q ∷ []; words = w }
run w (Prune s e ids) = ran (prune_checkpoint_prefix lent w s e ids)
run w (Walk q) = record { answers = walk_answers w 20 (next_leaf_of lent w (seek q) (replicate 8 (page_entry 0 0))); words = w }
run w (Release v) = let r = destroy lent w v (replicate 20 0) in record { answers = r.answer ∷ []; words = r.words }
run w ReleaseEmpty = ran (destroy_empty lent w)
run w Check = record { answers = full_check lent w ∷ []; words = w }
run w Shape =
    record { answers = result (shapes (suc (height (store_shape lent w) w (root w))) (root_tree (store_shape lent w) w (root w))) ∷ []; words = w }
run w (Words i k) = record { answers = result (take k (drop i w)) ∷ []; words = w }
run w (Part n j k) = record { answers = result (parts_from w n j k) ∷ []; words = w }
run w Chain = record { answers = result (chain_from w (free_head w) (free_count w)) ∷ []; words = w }
run w (Set i x) = record { answers = result [] ∷ []; words = set w i x }
run w (Put n j x) = record { answers = result [] ∷ []; words = put (store_shape lent w) w n j x }
run w (Load v) = record { answers = result [] ∷ []; words = v }

-- a call and what it must answer
abbrev pub Line : Type 0
Line = CaseCall × List Answer

unfoldable pub answers_from : List ℕ → List Line → List (List Answer)
answers_from w [] = []
answers_from w (l ∷ ls) = let r = run w l.0 in r.answers ∷ answers_from r.words ls

abbrev pub expected : List Line → List (List Answer)
expected ls = map (λ (l : Line). l.1) ls
