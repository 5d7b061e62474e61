use borrow.Author.Rules.{rules}
use mathlib.Core.Bool.{true, false}
use mathlib.Core.Path.{◌≡◌, ◌∙◌}
use Rattle.std.specs.Prelude.{is_ok}
use Rattle.script_create.proofs.Lengths.{done, not_done}
use Rattle.script_create.proofs.create_step.Goals as goal

pub returns-then-is_err-clause-does : goal.returns-then-is_err-clause-does
returns-then-is_err-clause-does c =
    let n = c.create_length-len in
    let r = c.new-a.ensures in
    let e : is_ok c.new-a.result ≡ false = search rules in
    record {
      words = rw (r.words, n.ensures.is);
      used = λ u. not_done c.new-a.result n.result u e ∙ rw (r.answer, n.ensures.is);
      puts = rw (r.answer, n.ensures.is) at c.put_answer.ensures;
    }

pub returns-clause-does : goal.returns-clause-does
returns-clause-does c =
    let n = c.create_length-len in
    let r = c.new-a.ensures in
    let e : is_ok c.new-a.result ≡ true = search rules in
    record {
      words = rw (r.words, n.ensures.is);
      used = λ u. done c.new-a.result n.result u e ∙ rw (r.answer, n.ensures.is);
      puts = rw (r.answer, n.ensures.is) at c.put_answer.ensures;
    }
