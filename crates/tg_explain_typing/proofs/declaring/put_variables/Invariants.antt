use Rattle.std.proofs.Common.{◌≡◌, drop}
use Rattle.tg_explain_typing.specs.Facts.{variables_facts}
use Rattle.tg_explain_typing.proofs.declaring.put_variables.Given as goal

abbrev pub invariant-loop-param : goal.invariant-loop-param
invariant-loop-param l = variables_facts l.text (drop l.param-index l.params) l.seen l.all.items ≡ variables_facts l.text l.params l.seen l.initial.all.items
