use Rattle.std.proofs.Common.{◌≡◌, ◌++◌, drop}
use Rattle.tg_explain.specs.Lines.{kind_texts}
use Rattle.tg_explain.proofs.lines.put_kinds.Given as goal

abbrev pub invariant-loop-kind : goal.invariant-loop-kind
invariant-loop-kind l = l.line.items ++ kind_texts (drop l.kind-index l.kinds) ≡ l.initial.line.items ++ kind_texts l.kinds
