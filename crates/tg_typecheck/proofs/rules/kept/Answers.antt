use Rattle.tg_typecheck.specs.glue.States.{bad}
use Rattle.tg_typecheck.proofs.Steps.{kept_true, kept_false}
use Rattle.tg_typecheck.proofs.rules.kept.Goals as goal

pub returns-then-is_kept : goal.returns-then-is_kept
returns-then-is_kept c = λ n. kept_true _ _ c.if-is_kept.true

pub returns-else-is_kept : goal.returns-else-is_kept
returns-else-is_kept c = λ n. bad (kept_false _ c.if-is_kept.false)
