use Rattle.std.specs.Prelude.{length}
use Rattle.tg_typecheck.proofs.TreeSteps.{exp_below}
use Rattle.tg_typecheck.proofs.trees.exp_named.Goals as goal

pub returns : goal.returns
returns c = exp_below (length c.args.names.now) c.args.all.now c.requires.among.0 c.args.e.now c.requires.all c.requires.among.1 c.requires.among.2
