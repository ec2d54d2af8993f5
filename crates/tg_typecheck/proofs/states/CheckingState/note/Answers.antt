use Rattle.tg_typecheck.specs.glue.States.{no_memory}
use Rattle.tg_typecheck.proofs.Steps.{ended, noted}
use Rattle.tg_typecheck.proofs.states.CheckingState.note.Goals as goal

pub returns-in_err-push-clause-given : goal.returns-in_err-push-clause-given
returns-in_err-push-clause-given c = ended _ _ _ c.from_residual.ensures no_memory

pub returns-clause-given : goal.returns-clause-given
returns-clause-given c = noted _ _ _ c.in_ok-push.ensures.items
