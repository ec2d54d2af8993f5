use Rattle.std.proofs.Common.{◌∙◌, arith}
use Rattle.tg_explain_typing.proofs.Following.{alias_on, known_on}
use Rattle.tg_explain_typing.proofs.lookups.named_type.Goals as goal

pub loop-most-preserved : goal.loop-most-preserved
loop-most-preserved c =
    alias_on c.args.text.now c.args.facts.now c.loop-most.most c.loop-most.name c.in-Alias.next _ c.outermost_type-outer.result (omega arith) c.spelled.ensures
    c.outermost_type-outer.ensures c.in-Alias.ensures
    ∙ c.loop-most.invariant

pub returns-in-Known : goal.returns-in-Known
returns-in-Known c =
    known_on c.args.text.now c.args.facts.now c.loop-most.most c.loop-most.name c.in-Known.ty _ c.outermost_type-outer.result (omega arith) c.spelled.ensures
    c.outermost_type-outer.ensures c.in-Known.ensures
    ∙ c.loop-most.invariant
