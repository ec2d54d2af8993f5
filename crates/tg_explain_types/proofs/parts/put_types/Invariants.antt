use Rattle.std.proofs.Common.{◌≡◌, ◌++◌, take, map}
use Rattle.tg_explain_types.specs.declared.declarations.Sort.TheVariants.{TypeName}
use Rattle.tg_explain_types.specs.Parts.{between, declared}
use Rattle.tg_explain_types.proofs.parts.put_types.Given as goal

abbrev pub invariant-loop-dec : goal.invariant-loop-dec
invariant-loop-dec l = l.all.items ≡ l.initial.all.items ++ map (λ d. declared d.name TypeName (between l.from l.end)) (take l.dec-index l.dec-items)
