use Rattle.tg_tree.proofs.TreeRuns.{fills_stack}
use Rattle.tg_tree.proofs.laws.full_stack_ends_the_call.Goals as goal

pub returns : goal.returns
returns g c = λ size floor runner found f vs top back w n e lt. fills_stack size floor runner found f vs top back w n e lt
