use Rattle.std.proofs.Common.{◌≡◌, ◌++◌, drop}
use Rattle.tg_tree.specs.glue.Lists.{stms_of}
use Rattle.tg_show.specs.Flat.{statement_lines}
use Rattle.tg_show.proofs.flat.put_statements.Given as goal

abbrev pub invariant-loop-statement : goal.invariant-loop-statement
invariant-loop-statement l =
    l.initial.text.items ++ statement_lines l.names l.margin (stms_of l.statements)
    ≡ l.text.items ++ statement_lines l.names l.margin (stms_of (drop l.statement-index l.statements))
