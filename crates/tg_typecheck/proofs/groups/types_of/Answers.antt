use Rattle.std.proofs.Common.{ap, ◌∙◌, map, arith}
use Rattle.tg_syntax.specs.glue.Plain.{plain_type}
use Rattle.tg_typecheck.specs.Groups as groups
use Rattle.tg_typecheck.specs.glue.Declaring.{chain_from}
use Rattle.tg_typecheck.proofs.GroupSteps.{mapped_one, front_all}
use Rattle.tg_typecheck.proofs.groups.types_of.Goals as goal

pub loop-end-preserved : goal.loop-end-preserved
loop-end-preserved c = λ scope in_loop h.
    mapped_one (λ e. groups.type_at_end (chain_from (map plain_type c.args.group.now) e) scope) c.args.ends.now c.loop-end.end-index _ c.loop-end.types.items
    c.push.new.self.items c.type_at_end.result c.loop-end-test.true (c.loop-end.invariant scope in_loop h) c.in_ok-push.ensures.items
    (c.type_at_end.ensures scope in_loop h)

pub returns : goal.returns
returns c = λ scope in_loop h.
    c.loop-end.invariant scope in_loop h ∙ ap (λ es. map (λ e. groups.type_at_end (chain_from (map plain_type c.args.group.now) e) scope) es)
    (front_all c.args.ends.now c.loop-end.end-index (omega (arith, c.loop-end.auto.end-index-end, c.loop-end-test.false)))
