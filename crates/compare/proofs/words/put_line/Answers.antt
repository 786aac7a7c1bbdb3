use Prim.Native.Nat.{◌+◌}
use borrow.Author.Rules.{rules}
use Rattle.compare.proofs.Written.{line_put}
use Rattle.compare.proofs.words.put_line.Goals as goal

pub returns : goal.returns
returns c =
    let done =
    line_put (c.args.top + 1) c.args.x c.args.y c.args.why c.put_rows.ensures c.put_word.ensures c.from.ensures c.put_relation.ensures c.put_why.ensures in
    search rules
