use Rattle.tg_driver.proofs.Typings.{names_within, begins_apart, typed_fault, compiles_to, literals_fit}
use Rattle.tg_driver.proofs.compiling.compile_program.Goals as goal

pub check-requires-clause-names : goal.check-requires-clause-names
check-requires-clause-names g c = names_within _ _ _ c.requires.1

pub check-requires-clause-apart : goal.check-requires-clause-apart
check-requires-clause-apart g c = begins_apart _ _ _ c.requires.1

pub compile_checked-requires : goal.compile_checked-requires
compile_checked-requires g c = rw c.in-Ok.ensures.program (literals_fit c.literals_fit_text.ensures.segment _ _ _ c.requires.1 _)

pub returns-in_ok-compile_checked-in-Ok-clause-compiled : goal.returns-in_ok-compile_checked-in-Ok-clause-compiled
returns-in_ok-compile_checked-in-Ok-clause-compiled g c = λ text t.
    compiles_to _ _ text _ _ _ _ _ t c.in-Ok.ensures.ok (rw c.in-Ok.ensures.program at c.in_ok-compile_checked-in-Ok.ensures.compiles)

pub returns-in-Err-clause-compiled : goal.returns-in-Err-clause-compiled
returns-in-Err-clause-compiled g c = λ text t. c.ill_typed.ensures text (typed_fault _ _ _ _ t c.in-Err.ensures.err)
