use Rattle.std.proofs.Common.{◌≡◌, ◌++◌, take}
use Rattle.tg_explain_types.specs.Parts.{param_parts}
use Rattle.tg_explain_types.proofs.parts.put_params.Given as goal

abbrev pub invariant-loop-param : goal.invariant-loop-param
invariant-loop-param l = l.all.items ≡ l.initial.all.items ++ param_parts (take l.param-index l.param-items) l.seen
