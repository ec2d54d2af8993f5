use Rattle.std.proofs.Common.{arith, ap, ◌∙◌}
use Rattle.std.proofs.lemmas.Grind.{common_steps}
use Rattle.tg_syntax.specs.Measures.{size}
use Rattle.tg_syntax.specs.glue.Plain.{plain_kind}
use Rattle.tg_syntax.proofs.SizeLemmas.{exps_size-plain_exps, inits_size-plain_inits, size-Let}
use Rattle.tg_syntax.proofs.measures.+nodes.Goals as goal

pub list_nodes-returns : goal.list_nodes-returns
list_nodes-returns t c = rw (exps_size-plain_exps c.args.exps.now) (grind (arith, common_steps))

pub init_nodes-returns : goal.init_nodes-returns
init_nodes-returns t c = rw (inits_size-plain_inits c.args.inits.now) (grind (arith, common_steps))

pub nodes-returns-after-loop-dec : goal.nodes-returns-after-loop-dec
nodes-returns-after-loop-dec t c =
    rw (ap (λ k. size (plain_kind k c.args.body.now.span)) c.in-Let.is ∙ size-Let c.in-Let.decs c.in-Let.body c.args.body.now.span)
    (grind (arith, common_steps))
