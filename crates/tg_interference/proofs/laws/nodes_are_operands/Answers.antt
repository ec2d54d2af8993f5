use Rattle.tg_interference.proofs.Colours.{node_operand, no_other, node_exists}
use Rattle.tg_interference.proofs.laws.nodes_are_operands.Goals as goal

pub returns-clause-stand : goal.returns-clause-stand
returns-clause-stand c = node_operand

pub returns-clause-alone : goal.returns-clause-alone
returns-clause-alone c = no_other

pub returns-clause-exist : goal.returns-clause-exist
returns-clause-exist c = node_exists
