use Rattle.tg_machine.proofs.Chaining.{watched_calls_chain}
use Rattle.tg_machine.proofs.laws.watched_calls_chain.Goals as goal

pub returns : goal.returns
returns g c = watched_calls_chain
