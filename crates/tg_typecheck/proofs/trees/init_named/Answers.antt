use Rattle.std.specs.Prelude.{length}
use Rattle.tg_typecheck.proofs.TreeSteps.{init_below}
use Rattle.tg_typecheck.proofs.trees.init_named.Goals as goal

pub returns : goal.returns
returns c = init_below (length c.args.names.now) c.args.all.now c.requires.among.0 c.args.init.now c.requires.all c.requires.among.1 c.requires.among.2
