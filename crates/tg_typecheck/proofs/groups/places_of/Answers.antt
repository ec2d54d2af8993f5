use Rattle.std.proofs.Common.{sym, ap, ◌∙◌, [], map, arith}
use Rattle.std.specs.Option.{is_some}
use Rattle.tg_syntax.specs.glue.Plain.{plain_type}
use Rattle.tg_typecheck.specs.Checks.{Noted}
use Rattle.tg_typecheck.specs.glue.States.{no_memory}
use Rattle.tg_typecheck.proofs.Steps.{ended}
use Rattle.tg_typecheck.proofs.GroupSteps.{places_one, places_repeat, places_all, plain_at, plain_below, plain_end, none_of, differ}
use Rattle.tg_typecheck.proofs.groups.places_of.Goals as goal

pub returns-in_err-insert-clause-given : goal.returns-in_err-insert-clause-given
returns-in_err-insert-clause-given c = λ n. ended _ _ _ c.from_residual.ensures no_memory

pub returns-then-is_some-clause-given : goal.returns-then-is_some-clause-given
returns-then-is_some-clause-given c = λ n.
    let group = c.args.group.now in
    let k = c.loop-at.at in
    places_repeat (plain_type c.index-group-at.result) c.loop-at.invariant (plain_below group k c.loop-at-test.true)
    (plain_at group k c.index-group-at.result c.loop-at-test.true c.index-group-at.is)
    (ap (λ o. is_some o) (sym c.in_ok-insert.ensures.old) ∙ (sym c.is_some.ensures ∙ c.if-is_some.true)) n

pub loop-at-preserved : goal.loop-at-preserved
loop-at-preserved c =
    let group = c.args.group.now in
    let k = c.loop-at.at in
    places_one (plain_type c.index-group-at.result) c.loop-at.invariant (plain_below group k c.loop-at-test.true)
    (plain_at group k c.index-group-at.result c.loop-at-test.true c.index-group-at.is)
    (none_of _ (ap (λ o. is_some o) (sym c.in_ok-insert.ensures.old) ∙ (sym c.is_some.ensures ∙ c.if-is_some.false))) c.in_ok-insert.ensures.updates.0

pub returns-clause-given : goal.returns-clause-given
returns-clause-given c =
    λ n. places_all c.loop-at.invariant (plain_end c.args.group.now c.loop-at.at (omega (arith, c.loop-at.auto.at-end, c.loop-at-test.false))) n

pub returns-clause-different : goal.returns-clause-different
returns-clause-different c =
    let n : Noted = record { shapes = []; notes = [] } in
    differ (map plain_type c.args.group.now) [] n (places_all c.loop-at.invariant
    (plain_end c.args.group.now c.loop-at.at (omega (arith, c.loop-at.auto.at-end, c.loop-at-test.false))) n)
