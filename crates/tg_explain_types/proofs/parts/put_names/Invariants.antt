use Rattle.std.proofs.Common.{◌≡◌, take}
use Rattle.std.specs.Prelude.{fold}
use Rattle.tg_explain_types.specs.Parts.{between}
use Rattle.tg_explain_types.proofs.Lists.{with_name}
use Rattle.tg_explain_types.proofs.parts.put_names.Given as goal

abbrev pub invariant-loop-function : goal.invariant-loop-function
invariant-loop-function l = l.all.items ≡ fold (with_name (between l.from l.end)) l.initial.all.items (take l.function-index l.function-items)
