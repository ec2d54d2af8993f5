use Rattle.std.proofs.Common.{length, arith}
use Rattle.tg_typecheck.proofs.Steps.{ended}
use Rattle.tg_typecheck.proofs.GroupSteps.{form_within, forms_one, forms_fail, forms_all}
use Rattle.tg_typecheck.proofs.groups.known_forms.Goals as goal

pub known_form-requires : goal.known_form-requires
known_form-requires c =
    form_within (length c.args.names.now) c.args.group.now c.loop-dec.dec-index c.dec-item.result c.requires c.loop-dec-test.true c.dec-item.is

pub returns-in_err-known_form : goal.returns-in_err-known_form
returns-in_err-known_form c = λ whole scope in_loop h e n.
    ended _ _ _ c.from_residual.ensures (forms_fail c.args.group.now c.dec-item.result c.loop-dec.invariant c.loop-dec-test.true c.dec-item.is
    c.in_err-known_form.ensures whole scope in_loop h e n)

pub loop-dec-preserved : goal.loop-dec-preserved
loop-dec-preserved c = forms_one c.args.group.now c.dec-item.result c.loop-dec.invariant c.loop-dec-test.true c.dec-item.is c.in_ok-known_form.ensures

pub returns : goal.returns
returns c =
    λ whole scope in_loop h e n. forms_all c.args.group.now c.loop-dec.invariant
    (omega (arith, c.loop-dec.auto.dec-index-end, c.loop-dec-test.false)) whole scope in_loop h e n
