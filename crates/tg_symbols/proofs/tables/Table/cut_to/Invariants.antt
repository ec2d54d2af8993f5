use Rattle.std.proofs.Common.{length}
use Rattle.tg_symbols.proofs.TableLemmas.{IsCut}
use Rattle.tg_symbols.proofs.tables.Table.cut_to.Given as goal

abbrev pub invariant-loop-self : goal.invariant-loop-self
invariant-loop-self g l = IsCut l.len l.initial.self l.self

abbrev pub decreases-loop-self : goal.decreases-loop-self
decreases-loop-self g l = length l.self
