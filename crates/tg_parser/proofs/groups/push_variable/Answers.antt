use Rattle.std.proofs.Common.{◌∙◌, ap}
use Rattle.tg_syntax.specs.glue.Lists.{decs_of}
use Rattle.tg_parser.proofs.GroupSteps.{variable_end}
use Rattle.tg_parser.proofs.groups.push_variable.Goals as goal

pub returns : goal.returns
returns c = ap decs_of c.in_ok-push.ensures.items ∙ variable_end c.args.decs.now.items c.args.name c.args.kind c.args.value
