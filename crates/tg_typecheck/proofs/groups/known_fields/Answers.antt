use Rattle.std.proofs.Common.{length, arith}
use Rattle.tg_typecheck.proofs.Steps.{ended}
use Rattle.tg_typecheck.proofs.GroupSteps.{fields_one, fields_repeat, fields_unknown, fields_all, field_within}
use Rattle.tg_typecheck.proofs.groups.known_fields.Goals as goal

pub returns-in_err-fresh : goal.returns-in_err-fresh
returns-in_err-fresh c = λ whole scope in_loop h e n.
    let a = c.loop-field.invariant in
    ended _ _ _ c.from_residual.ensures (fields_repeat a c.loop-field-test.true
    (λ m. c.in_err-fresh.ensures.given a.earlier a.has m) whole scope in_loop h e n)

pub known-requires : goal.known-requires
known-requires c = field_within (length c.args.names.now) c.args.fields.now c.loop-field.field-index c.requires c.loop-field-test.true

pub returns-in_err-known : goal.returns-in_err-known
returns-in_err-known c = λ whole scope in_loop h e n.
    let a = c.loop-field.invariant in
    ended _ _ _ c.from_residual-in_err-known.ensures (fields_unknown a c.loop-field-test.true
    (λ m. c.in_ok-fresh.ensures.given a.earlier a.has m) c.in_err-known.ensures whole scope in_loop h e n)

pub loop-field-preserved : goal.loop-field-preserved
loop-field-preserved c =
    let a = c.loop-field.invariant in
    fields_one a c.loop-field-test.true (λ m. c.in_ok-fresh.ensures.given a.earlier a.has m) c.in_ok-known.ensures
    (c.in_ok-fresh.ensures.seen a.earlier a.has)

pub returns : goal.returns
returns c =
    λ whole scope in_loop h e n. fields_all c.loop-field.invariant
    (omega (arith, c.loop-field.auto.field-index-end, c.loop-field-test.false)) whole scope in_loop h e n
