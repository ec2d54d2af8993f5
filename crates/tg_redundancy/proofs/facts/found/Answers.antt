use Rattle.std.proofs.Common.{◌+◌, drop, sym, ap, ◌∙◌}
use Rattle.std.proofs.lemmas.List.{at_drop_all}
use Rattle.tg_redundancy.specs.mirror.Facts.{found}
use Rattle.tg_redundancy.proofs.FactWalks.{first, found_turn}
use Rattle.tg_redundancy.proofs.facts.found.Goals as goal

pub returns-in-Some : goal.returns-in-Some
returns-in-Some c =
    let list = c.args.list.now in
    let rest = found c.args.to c.args.reading.now (drop (c.loop-fact.fact-index + 1) list) in
    ap (λ o. first o rest) c.in-Some.ensures
    ∙ found_turn c.args.to c.args.reading.now list c.loop-fact.fact-index c.fact-item.result c.loop-fact-test.true c.fact-item.is c.loop-fact.invariant

pub loop-fact-preserved : goal.loop-fact-preserved
loop-fact-preserved c =
    let list = c.args.list.now in
    let rest = found c.args.to c.args.reading.now (drop (c.loop-fact.fact-index + 1) list) in
    ap (λ o. first o rest) c.in_default.ensures
    ∙ found_turn c.args.to c.args.reading.now list c.loop-fact.fact-index c.fact-item.result c.loop-fact-test.true c.fact-item.is c.loop-fact.invariant

pub returns : goal.returns
returns c =
    sym (at_drop_all (found c.args.to c.args.reading.now) c.args.list.now c.loop-fact.fact-index c.loop-fact-test.false) ∙ c.loop-fact.invariant
