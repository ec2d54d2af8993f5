use Rattle.tg_tree.specs.glue.Plain.{plain_ts}
use Rattle.tg_compile.proofs.Preparing.{with_body}
use Rattle.tg_compile.proofs.bodies.fold_body.Goals as goal

pub returns : goal.returns
returns c = with_body c.args.one.frame (plain_ts c.args.one.body) (plain_ts c.in_ok-folded.folded) c.in_ok-folded.ensures
