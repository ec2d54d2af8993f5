use Rattle.std.proofs.Common.{◌++◌, ◌+◌, drop, map, sym, ap, subst, ◌∙◌, arith}
use Rattle.std.specs.List.{All}
use Rattle.tg_syntax.specs.glue.Plain.{plain_type}
use Rattle.tg_typecheck.specs.glue.Declaring.{ChainWithin, links_in}
use Rattle.tg_typecheck.proofs.ChainSteps.{links_more, links_all, links_within}
use Rattle.tg_typecheck.proofs.chains.links_of.Goals as goal

pub loop-at-preserved : goal.loop-at-preserved
loop-at-preserved c =
    let whole = map plain_type c.args.group.now in
    ap (λ l. l ++ links_in whole (c.loop-at.at + 1) (drop (c.loop-at.at + 1) whole)) c.in_ok-push.ensures.items
    ∙ links_more whole c.args.group.now c.loop-at.links.items _ c.loop-at.at c.index-group-at.result c.link_of.result c.loop-at-test.true
    c.index-group-at.is c.link_of.ensures c.loop-at.invariant

pub returns-clause-within : goal.returns-clause-within
returns-clause-within c = λ n t.
    let whole = map plain_type c.args.group.now in
    subst (λ l. All (ChainWithin n whole) l) (sym (links_all whole c.args.group.now c.loop-at.links.items _ c.loop-at.at
    (omega (arith, c.loop-at.auto.at-end, c.loop-at-test.false)) c.loop-at.invariant)) (links_within n whole 0 whole (omega arith) t)
