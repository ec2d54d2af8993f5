use Rattle.tg_driver.proofs.DelayedTypings.{compiles_small, large_at}
use Rattle.tg_driver.proofs.Typings.{names_within, begins_apart, typed_fault, literals_fit, delays, is_too_large}
use Rattle.tg_driver.proofs.delaying.delay_program.Goals as goal

pub check-requires-clause-names : goal.check-requires-clause-names
check-requires-clause-names g c = names_within _ _ _ c.requires.1

pub check-requires-clause-apart : goal.check-requires-clause-apart
check-requires-clause-apart g c = begins_apart _ _ _ c.requires.1

pub returns-then-program_nodes-gt-MOST_NODES : goal.returns-then-program_nodes-gt-MOST_NODES
returns-then-program_nodes-gt-MOST_NODES g c = λ text t.
    is_too_large text _ _ _ _ t c.in-Ok.ensures.ok
    (large_at c.args.source.now.program.body _ c.program_nodes.ensures c.if-program_nodes-gt-MOST_NODES.true)

pub compile_delayed-requires : goal.compile_delayed-requires
compile_delayed-requires g c = rw c.in-Ok.ensures.program (literals_fit c.literals_fit_text.ensures.segment _ _ _ c.requires.1 _)

pub returns : goal.returns
returns g c = λ text t.
    delays _ _ text _ _ _ _ t c.in-Ok.ensures.ok
    (compiles_small _ _ _ c.args.source.now.program.body _ _ _ c.program_nodes.ensures c.if-program_nodes-gt-MOST_NODES.false
    (rw c.in-Ok.ensures.program at c.in_ok-compiled.ensures.compiles))

pub returns-in-Err : goal.returns-in-Err
returns-in-Err g c = λ text t. c.ill_typed.ensures text (typed_fault _ _ _ _ t c.in-Err.ensures.err)
