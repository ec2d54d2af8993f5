use Rattle.tg_tree.proofs.Linking.{calls_carried, programs_carried}
use Rattle.tg_tree.proofs.laws.functions_carry.Goals as goal

pub returns-clause-calls : goal.returns-clause-calls
returns-clause-calls g c = λ a e size floor units units' runner runner' functions functions'. calls_carried a e size floor
    units units' runner runner' functions functions'

pub returns-clause-programs : goal.returns-clause-programs
returns-clause-programs g c = λ a e size floor units units' runner runner' functions functions'. programs_carried a e size
    floor units units' runner runner' functions functions'
