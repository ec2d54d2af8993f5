use Rattle.std.proofs.Common.{arith}
use Rattle.tg_irc_definition.proofs.Choosing.{least_is_allowed}
use Rattle.tg_irc_definition.proofs.policies.LeastUseSpillPolicy.choose.Goals as goal

pub returns-clause-allowed : goal.returns-clause-allowed
returns-clause-allowed c =
    least_is_allowed c.args.candidates.now c.loop-at.least c.loop-at.invariant.0
    (λ k l. c.loop-at.invariant.1 k (omega arith))
