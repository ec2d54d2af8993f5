use Rattle.std.proofs.Common.{◌+◌, unwrap_or, drop, sym, ap, ◌∙◌}
use Rattle.std.proofs.lemmas.List.{at_drop_all}
use Rattle.tg_redundancy.specs.mirror.Facts.{stands}
use Rattle.tg_redundancy.proofs.FactWalks.{stands_turn}
use Rattle.tg_redundancy.proofs.facts.stands.Goals as goal

pub returns-in-Some : goal.returns-in-Some
returns-in-Some c =
    let list = c.args.list.now in
    let rest = stands (drop (c.loop-fact.fact-index + 1) list) c.args.operand.now in
    ap (λ o. unwrap_or o rest) c.in-Some.ensures
    ∙ stands_turn list c.loop-fact.fact-index c.fact-item.result c.args.operand.now c.loop-fact-test.true c.fact-item.is c.loop-fact.invariant

pub loop-fact-preserved : goal.loop-fact-preserved
loop-fact-preserved c =
    let list = c.args.list.now in
    let rest = stands (drop (c.loop-fact.fact-index + 1) list) c.args.operand.now in
    ap (λ o. unwrap_or o rest) c.in_default.ensures
    ∙ stands_turn list c.loop-fact.fact-index c.fact-item.result c.args.operand.now c.loop-fact-test.true c.fact-item.is c.loop-fact.invariant

pub returns : goal.returns
returns c =
    sym (at_drop_all (λ rest. stands rest c.args.operand.now) c.args.list.now c.loop-fact.fact-index c.loop-fact-test.false) ∙ c.loop-fact.invariant
