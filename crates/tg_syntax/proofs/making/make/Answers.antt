use Rattle.std.proofs.Common.{ap}
use Rattle.tg_syntax.specs.Tree.{Make}
use Rattle.tg_syntax.proofs.ListLaws.{plain_inits-made}
use Rattle.tg_syntax.proofs.making.make.Goals as goal

pub returns : goal.returns
returns c = ap (Make c.args.span c.args.name) (plain_inits-made c.args.inits)
