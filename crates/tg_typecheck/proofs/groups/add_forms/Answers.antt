use Rattle.std.proofs.Common.{length, arith}
use Rattle.tg_typecheck.proofs.Steps.{ended}
use Rattle.tg_typecheck.proofs.GroupSteps.{form_within, added_one, added_fail, added_all}
use Rattle.tg_typecheck.proofs.groups.add_forms.Goals as goal

pub add_form-requires : goal.add_form-requires
add_form-requires c =
    form_within (length c.args.names.now) c.args.group.now c.loop-dec.dec-index c.dec-item.result c.requires c.loop-dec-test.true c.dec-item.is

pub returns-in_err-add_form-clause-given : goal.returns-in_err-add_form-clause-given
returns-in_err-add_form-clause-given c = λ in_loop scope h.
    ended _ _ _ c.from_residual.ensures (added_fail c.args.group.now c.dec-item.result c.loop-dec.invariant c.loop-dec-test.true c.dec-item.is
    c.in_err-add_form.ensures.given in_loop scope h)

pub loop-dec-preserved : goal.loop-dec-preserved
loop-dec-preserved c =
    added_one c.args.group.now c.dec-item.result c.loop-dec.invariant c.loop-dec-test.true c.dec-item.is c.in_ok-add_form.ensures.kept
    c.in_ok-add_form.ensures.given

pub returns-clause-given : goal.returns-clause-given
returns-clause-given c = λ in_loop scope h.
    added_all c.args.group.now c.loop-dec.invariant (omega (arith, c.loop-dec.auto.dec-index-end, c.loop-dec-test.false)) in_loop scope h
