use Rattle.std.specs.Prelude.{length}
use Rattle.tg_typecheck.proofs.TreeSteps.{dec_below}
use Rattle.tg_typecheck.proofs.trees.dec_named.Goals as goal

pub returns : goal.returns
returns c =
    dec_below (length c.args.names.now) c.args.all.now.items.items c.requires.among.0 c.args.dec.now c.requires.all c.requires.among.1 c.requires.among.2
