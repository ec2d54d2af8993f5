use Rattle.std.proofs.Common.{ap}
use Rattle.tg_syntax.specs.Tree.{Seq}
use Rattle.tg_syntax.proofs.ListLaws.{plain_exps-made}
use Rattle.tg_syntax.proofs.making.sequence.Goals as goal

pub returns : goal.returns
returns c = ap (Seq c.args.span) (plain_exps-made c.args.items)
