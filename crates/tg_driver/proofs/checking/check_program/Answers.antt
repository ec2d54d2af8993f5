use Rattle.tg_driver.proofs.AnswerLemmas.{checked_of_refused}
use Rattle.tg_driver.proofs.Typings.{names_within, begins_apart, typed_fault, is_source}
use Rattle.tg_driver.proofs.checking.check_program.Goals as goal

pub check-requires-clause-names : goal.check-requires-clause-names
check-requires-clause-names c = names_within _ _ _ c.requires

pub check-requires-clause-apart : goal.check-requires-clause-apart
check-requires-clause-apart c = begins_apart _ _ _ c.requires

pub returns-in-Ok : goal.returns-in-Ok
returns-in-Ok c = is_source _ _ _ _ c.requires c.in-Ok.ensures.ok

pub refused-requires : goal.refused-requires
refused-requires c = c.ill_typed.ensures _ (typed_fault _ _ _ _ c.requires c.in-Err.ensures.err)

pub returns-in-Err : goal.returns-in-Err
returns-in-Err c = checked_of_refused _ _ c.refused.ensures
