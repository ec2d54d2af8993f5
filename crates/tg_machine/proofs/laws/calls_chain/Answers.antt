use Rattle.tg_machine.proofs.Chaining.{calls_chain}
use Rattle.tg_machine.proofs.laws.calls_chain.Goals as goal

pub returns : goal.returns
returns g c = calls_chain
