-- The tree part of well-formedness by one recursion: sound, with branch ends that fit, and so all below.
use Rattle.std.specs.Prelude.{ℕ, zero, suc, T, ltb}
use Rattle.model.specs.Words.{Shape}
use Rattle.model.specs.Tree.{Limit, Level, last, sound, all_pairs, Under}
use Rattle.model.specs.Reading.{end_fits}

unfoldable pub Well : Shape → ℕ → (h : ℕ) → Level h → ℕ → Limit → Type 0
Well C P zero x r b = Under r b
Well C P (suc h) t r b =
    T (ltb t.number P) × T (sound C h t r b) × T (end_fits h b t.end) × all_pairs (Well C P h) t.pairs (last h t.end b)
