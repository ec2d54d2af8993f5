use Rattle.tg_typecheck.specs.glue.States.{no_memory}
use Rattle.tg_typecheck.proofs.Steps.{ended}
use Rattle.tg_typecheck.proofs.groups.fresh.Goals as goal

pub returns-in_err-is_new-clause-given : goal.returns-in_err-is_new-clause-given
returns-in_err-is_new-clause-given c = λ seen h n. ended _ _ _ c.from_residual.ensures no_memory
