use Rattle.tg_parser.proofs.NestingSteps.{Nested}
use Rattle.tg_parser.proofs.nesting.first_deep.Given as goal

abbrev pub invariant-loop-place : goal.invariant-loop-place
invariant-loop-place l = Nested l.tokens l.place l.counts
