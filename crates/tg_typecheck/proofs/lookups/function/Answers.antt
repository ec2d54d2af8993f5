use Rattle.std.proofs.Common.{ap, sym, ◌∙◌}
use Rattle.tg_typecheck.specs.Checks.{fine}
use Rattle.tg_typecheck.specs.glue.States.{no_memory, noted_of}
use Rattle.tg_typecheck.proofs.Steps.{ended}
use Rattle.tg_typecheck.proofs.Namings.{bound_open, bound_outside, function_found, function_fails, function_not, standard_found, standard_fails}
use Rattle.tg_typecheck.proofs.Namings.{function_unknown, bad_is}
use Rattle.tg_typecheck.proofs.lookups.function.Goals as goal

pub returns-in_err-signature-in-Some-as_function-clause-given : goal.returns-in_err-signature-in-Some-as_function-clause-given
returns-in_err-signature-in-Some-as_function-clause-given c = λ in_loop scope h. ended _ _ _ c.from_residual.ensures no_memory

pub returns-in_err-note-in-Some-as_function-clause-given : goal.returns-in_err-note-in-Some-as_function-clause-given
returns-in_err-note-in-Some-as_function-clause-given c = λ in_loop scope h.
    ended _ _ _ c.from_residual-in_err-note-in-Some-as_function.ensures
    (function_fails c.args.f (noted_of c.args.state.now)
    (bound_open c.args.f scope _ _ (ap (λ s. s.bindings) h) c.in-Some.ensures) c.in-Some-as_function.ensures.value
    c.in_err-note-in-Some-as_function.ensures.given)

pub returns-in_err-note-in-Some-standard_of-clause-given : goal.returns-in_err-note-in-Some-standard_of-clause-given
returns-in_err-note-in-Some-standard_of-clause-given c = λ in_loop scope h.
    ended _ _ _ c.from_residual-in_err-note-in-Some-standard_of.ensures
    (standard_fails c.args.f (noted_of c.args.state.now)
    (bound_outside c.args.f scope _ c.args.names.now (ap (λ s. s.bindings) h) c.in-None.ensures c.text.ensures.value c.in-Some-standard_of.ensures)
    c.in_err-note-in-Some-standard_of.ensures.given)

pub returns-in_err-signature_of-in-Some-standard_of-clause-given : goal.returns-in_err-signature_of-in-Some-standard_of-clause-given
returns-in_err-signature_of-in-Some-standard_of-clause-given c =
    λ in_loop scope h. ended _ _ _ c.from_residual-in_err-signature_of-in-Some-standard_of.ensures no_memory

pub returns-in-None-as_function-clause-given : goal.returns-in-None-as_function-clause-given
returns-in-None-as_function-clause-given c = λ in_loop scope h.
    bad_is c.bad.ensures (function_not c.args.f (noted_of c.args.state.now)
    (bound_open c.args.f scope _ _ (ap (λ s. s.bindings) h) c.in-Some.ensures) c.in-None-as_function.ensures.value c.in-None-as_function.ensures.declared)

pub returns-in-None-standard_of-clause-given : goal.returns-in-None-standard_of-clause-given
returns-in-None-standard_of-clause-given c = λ in_loop scope h.
    bad_is c.bad-in-None-standard_of.ensures (function_unknown c.args.f (noted_of c.args.state.now)
    (bound_outside c.args.f scope _ c.args.names.now (ap (λ s. s.bindings) h) c.in-None.ensures c.text.ensures.value c.in-None-standard_of.ensures))

pub returns-in_ok-note-in-Some-as_function-clause-given : goal.returns-in_ok-note-in-Some-as_function-clause-given
returns-in_ok-note-in-Some-as_function-clause-given c = λ in_loop scope h.
    function_found c.args.f (noted_of c.args.state.now) (bound_open c.args.f scope _ _ (ap (λ s. s.bindings) h) c.in-Some.ensures)
    c.in-Some-as_function.ensures.value c.in_ok-note-in-Some-as_function.ensures.given ∙ ap (λ s. fine s (noted_of c.note.new.self))
    (sym c.in_ok-signature-in-Some-as_function.ensures)

pub returns-in_ok-signature_of-in-Some-standard_of-clause-given : goal.returns-in_ok-signature_of-in-Some-standard_of-clause-given
returns-in_ok-signature_of-in-Some-standard_of-clause-given c = λ in_loop scope h.
    standard_found c.args.f (noted_of c.args.state.now) (bound_outside c.args.f scope _ c.args.names.now
    (ap (λ s. s.bindings) h) c.in-None.ensures c.text.ensures.value c.in-Some-standard_of.ensures) c.in_ok-note-in-Some-standard_of.ensures.given ∙ ap
    (λ s. fine s (noted_of c.note-in-Some-standard_of.new.self)) (sym c.in_ok-signature_of-in-Some-standard_of.ensures)
