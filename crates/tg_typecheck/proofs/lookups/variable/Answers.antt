use Rattle.std.proofs.Common.{ap}
use Rattle.tg_typecheck.proofs.Steps.{ended}
use Rattle.tg_typecheck.specs.glue.States.{noted_of}
use Rattle.tg_typecheck.proofs.Namings.{bound_open, bound_outside, variable_found, variable_fails, variable_not, variable_standard, variable_unknown, bad_is}
use Rattle.tg_typecheck.proofs.lookups.variable.Goals as goal

pub returns-in_err-note-in-Some-as_variable-clause-given : goal.returns-in_err-note-in-Some-as_variable-clause-given
returns-in_err-note-in-Some-as_variable-clause-given c = λ in_loop scope h.
    ended _ _ _ c.from_residual.ensures (variable_fails c.args.x (noted_of c.args.state.now)
    (bound_open c.args.x scope _ _ (ap (λ s. s.bindings) h) c.in-Some.ensures) c.in-Some-as_variable.ensures
    c.in_err-note-in-Some-as_variable.ensures.given)

pub returns-in_ok-note-in-Some-as_variable-clause-given : goal.returns-in_ok-note-in-Some-as_variable-clause-given
returns-in_ok-note-in-Some-as_variable-clause-given c = λ in_loop scope h.
    variable_found c.args.x (noted_of c.args.state.now) (bound_open c.args.x scope _ _ (ap (λ s. s.bindings) h) c.in-Some.ensures)
    c.in-Some-as_variable.ensures c.in_ok-note-in-Some-as_variable.ensures.given

pub returns-in-None-as_variable-clause-given : goal.returns-in-None-as_variable-clause-given
returns-in-None-as_variable-clause-given c = λ in_loop scope h.
    bad_is c.bad.ensures (variable_not c.args.x (noted_of c.args.state.now)
    (bound_open c.args.x scope _ _ (ap (λ s. s.bindings) h) c.in-Some.ensures) c.in-None-as_variable.ensures)

pub returns-in-Some-standard_of-clause-given : goal.returns-in-Some-standard_of-clause-given
returns-in-Some-standard_of-clause-given c = λ in_loop scope h.
    bad_is c.bad-in-Some-standard_of.ensures (variable_standard c.args.x (noted_of c.args.state.now)
    (bound_outside c.args.x scope _ c.args.names.now (ap (λ s. s.bindings) h) c.in-None.ensures c.text.ensures.value c.in-Some-standard_of.ensures))

pub returns-in-None-standard_of-clause-given : goal.returns-in-None-standard_of-clause-given
returns-in-None-standard_of-clause-given c = λ in_loop scope h.
    bad_is c.bad-in-None-standard_of.ensures (variable_unknown c.args.x (noted_of c.args.state.now)
    (bound_outside c.args.x scope _ c.args.names.now (ap (λ s. s.bindings) h) c.in-None.ensures c.text.ensures.value c.in-None-standard_of.ensures))
