use borrow.Author.Rules.{rules}
use Rattle.script_text.proofs.Putting.{is_also, line_put}
use Rattle.script_text.proofs.Lines.line_at.Goals as goal

pub returns : goal.returns
returns c =
    let p = line_put _ _ c.put_bytes.ensures c.put_numbers.ensures c.put_byte.ensures in
    is_also (search (rules, p.lent)) p.puts
