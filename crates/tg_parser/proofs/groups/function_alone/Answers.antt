use Rattle.tg_parser.proofs.GroupSteps.{function_alone}
use Rattle.tg_parser.proofs.groups.function_alone.Goals as goal

pub returns : goal.returns
returns c = function_alone c.args.dec c.in_ok-items.items c.in_ok-items.ensures
