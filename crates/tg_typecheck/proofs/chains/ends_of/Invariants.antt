use Rattle.tg_typecheck.proofs.ChainSteps.{Squares}
use Rattle.tg_typecheck.proofs.chains.ends_of.Given as goal

abbrev pub invariant-loop-count : goal.invariant-loop-count
invariant-loop-count l = Squares l.initial.links.items l.ends.items l.links.items l.count

abbrev pub decreases-loop-count : goal.decreases-loop-count
decreases-loop-count l = l.count
