use Rattle.std.proofs.Common.{◌+◌, ◌||◌, drop, sym, ap, ◌∙◌}
use Rattle.std.proofs.lemmas.List.{at_drop_all}
use Rattle.tg_redundancy.specs.mirror.Facts.{is_untrue}
use Rattle.tg_redundancy.proofs.FactWalks.{untrue_turn}
use Rattle.tg_redundancy.proofs.facts.is_untrue.Goals as goal

pub returns-then-denies : goal.returns-then-denies
returns-then-denies c =
    let list = c.args.list.now in
    let rest = is_untrue c.args.rel c.args.left.now c.args.right.now (drop (c.loop-fact.fact-index + 1) list) in
    ap (λ b. b || rest) (sym c.if-denies.true ∙ c.denies.ensures)
    ∙ untrue_turn c.args.rel c.args.left.now c.args.right.now list c.loop-fact.fact-index c.fact-item.result c.loop-fact-test.true c.fact-item.is
    c.loop-fact.invariant

pub loop-fact-preserved : goal.loop-fact-preserved
loop-fact-preserved c =
    let list = c.args.list.now in
    let rest = is_untrue c.args.rel c.args.left.now c.args.right.now (drop (c.loop-fact.fact-index + 1) list) in
    ap (λ b. b || rest) (sym c.if-denies.false ∙ c.denies.ensures)
    ∙ untrue_turn c.args.rel c.args.left.now c.args.right.now list c.loop-fact.fact-index c.fact-item.result c.loop-fact-test.true c.fact-item.is
    c.loop-fact.invariant

pub returns : goal.returns
returns c =
    sym (at_drop_all (is_untrue c.args.rel c.args.left.now c.args.right.now) c.args.list.now c.loop-fact.fact-index c.loop-fact-test.false)
    ∙ c.loop-fact.invariant
