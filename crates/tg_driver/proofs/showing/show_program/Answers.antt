use Rattle.tg_driver.proofs.Typings.{names_within, begins_apart, typed_fault, shows, literals_fit, short_text}
use Rattle.tg_driver.proofs.showing.show_program.Goals as goal

pub check-requires-clause-names : goal.check-requires-clause-names
check-requires-clause-names g c = names_within _ _ _ c.requires

pub check-requires-clause-apart : goal.check-requires-clause-apart
check-requires-clause-apart g c = begins_apart _ _ _ c.requires

pub show_checked-requires-clause-small : goal.show_checked-requires-clause-small
show_checked-requires-clause-small g c = short_text _ _ _ c.requires

pub show_checked-requires-clause-fit : goal.show_checked-requires-clause-fit
show_checked-requires-clause-fit g c = rw c.in-Ok.ensures.program (literals_fit c.literals_fit_text.ensures.segment _ _ _ c.requires _)

pub returns-in_ok-show_checked-in-Ok : goal.returns-in_ok-show_checked-in-Ok
returns-in_ok-show_checked-in-Ok g c =
    shows _ _ c.args.text.now _ _ _ _ c.requires c.in-Ok.ensures.ok
    (rw (c.in-Ok.ensures.program, c.in-Ok.ensures.names) at c.in_ok-show_checked-in-Ok.ensures.shows)

pub returns-in-Err : goal.returns-in-Err
returns-in-Err g c = c.ill_typed.ensures c.args.text.now (typed_fault _ _ _ _ c.requires c.in-Err.ensures.err)
