use Rattle.std.proofs.Common.{ap}
use Rattle.tg_syntax.specs.Tree.{Call}
use Rattle.tg_syntax.proofs.ListLaws.{plain_exps-made}
use Rattle.tg_syntax.proofs.making.call.Goals as goal

pub returns : goal.returns
returns c = ap (Call c.args.span c.args.function) (plain_exps-made c.args.arguments)
