-- What the functions of src/ read.
use Rattle.std.specs.Prelude.{ℕ, ◌-◌, ◌/◌, ◌^◌, ◌≤◌, ◌<◌, List, Option, Some, None, ◌≡◌, length, take, drop}
use Rattle.model.specs.Words.{pick}
use Rattle.script_records.specs.Records.{little, words_in, Request, body_length, whole}
use Rattle.script_records.specs.Records as C
use Rattle.script_records.specs.declared.Record.{Record}
use Rattle.script_records.specs.declared.Record.TheVariants.{Create, Append, Find, Prune, Walk, Release}

-- r is the number in the k bytes from place i on
pub record Reads (bs : List ℕ) (i k r : ℕ) : Type 0 where
  pub is : r ≡ little (take k (drop i bs))
  pub small : r < 256 ^ k

-- the words of a body
abbrev pub body_words : List ℕ → List ℕ
body_words body = words_in ((length body - 2) / 8) (drop 2 body)

-- what a record asks for, with the page ids that stand in its body
abbrev pub meant : List ℕ → Option Record → Request
meant body (Some (Create capacity nodes start)) = C.Create capacity nodes start
meant body (Some (Append k x)) = C.Append k x
meant body (Some (Find q)) = C.Find q
meant body (Some (Prune s e)) = C.Prune s e (drop 2 (body_words body))
meant body (Some (Walk q)) = C.Walk q
meant body (Some (Release v)) = C.Release v
meant body None = C.Bad

-- the length that a whole record begins with
unfoldable pub head_of : List ℕ → Option ℕ
head_of bs = pick (whole bs) (Some (body_length bs)) None

-- the page ids of a body stand at the front of a list, k of them
pub record Copied (body list : List ℕ) (k : ℕ) : Type 0 where
  pub is : take k list ≡ drop 2 (body_words body)
  pub few : k ≤ length list
