use Rattle.std.proofs.Common.{◌≡◌, ◌++◌, drop}
use Rattle.tg_emit.specs.mirror.Text.{text_of, lines_text}
use Rattle.tg_emit.proofs.writing.text.Given as goal

-- what is left is the text of the lines that are left
abbrev pub invariant-loop-at : goal.invariant-loop-at
invariant-loop-at l = text_of l.lines ≡ l.text.items ++ lines_text l.before (drop l.at l.lines)
