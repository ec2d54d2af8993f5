use Rattle.std.proofs.Common.{◌≡◌, ◌++◌, drop}
use Rattle.tg_explain_types.specs.Lines.{more_names}
use Rattle.tg_explain_types.proofs.lines.put_more_names.Given as goal

abbrev pub invariant-loop-one : goal.invariant-loop-one
invariant-loop-one l = l.line.items ++ more_names l.text (drop l.one-index l.near) ≡ l.initial.line.items ++ more_names l.text l.near
