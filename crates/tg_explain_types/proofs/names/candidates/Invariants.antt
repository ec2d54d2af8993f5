use Rattle.std.proofs.Common.{◌≡◌, filter, map, take}
use Rattle.tg_explain_types.specs.declared.names.Near.TheVariants.{Declared}
use Rattle.tg_explain_types.specs.Names.{is_wanted}
use Rattle.tg_explain_types.proofs.names.candidates.Given as goal

abbrev pub invariant-loop-declaration : goal.invariant-loop-declaration
invariant-loop-declaration l = l.all.items ≡ map (λ d. Declared d.ident) (filter (λ d. is_wanted l.wanted d.sort) (take l.declaration-index l.seen))
