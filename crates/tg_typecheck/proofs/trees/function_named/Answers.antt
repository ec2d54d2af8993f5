use Rattle.std.specs.Prelude.{length}
use Rattle.tg_typecheck.proofs.TreeSteps.{function_below}
use Rattle.tg_typecheck.proofs.trees.function_named.Goals as goal

pub returns : goal.returns
returns c =
    function_below (length c.args.names.now) c.args.all.now c.requires.among.0 c.args.function.now c.requires.all c.requires.among.1 c.requires.among.2
