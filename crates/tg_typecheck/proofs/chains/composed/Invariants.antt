use Rattle.std.proofs.Common.{◌≡◌, map, take}
use Rattle.tg_typecheck.specs.glue.Declaring.{followed}
use Rattle.tg_typecheck.proofs.chains.composed.Given as goal

abbrev pub invariant-loop-chain : goal.invariant-loop-chain
invariant-loop-chain l = l.both.items ≡ map (λ c. followed c l.second) (take l.chain-index l.first)
