use Rattle.tg_typecheck.specs.glue.States.{no_memory, noted_of}
use Rattle.tg_typecheck.proofs.Steps.{ended}
use Rattle.tg_typecheck.proofs.GroupSteps.{shape_is}
use Rattle.tg_typecheck.proofs.groups.add_shape.Goals as goal

pub returns-in_err-push-clause-given : goal.returns-in_err-push-clause-given
returns-in_err-push-clause-given c = ended _ _ _ c.from_residual.ensures no_memory

pub returns-clause-given : goal.returns-clause-given
returns-clause-given c = shape_is c.args.at c.args.shape (noted_of c.args.state.now) c.in_ok-push.ensures.ok
