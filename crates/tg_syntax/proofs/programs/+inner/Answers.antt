use Rattle.std.proofs.Common.{arith, ap, ◌∙◌}
use Rattle.std.proofs.lemmas.Grind.{common_steps}
use Rattle.tg_syntax.specs.InnerMeasures.{inner}
use Rattle.tg_syntax.specs.glue.Plain.{plain_kind}
use Rattle.tg_syntax.proofs.InnerLemmas.{inner_exps-plain_exps, inner_inits-plain_inits, inner_functions-plain_functions, inner-Let}
use Rattle.tg_syntax.proofs.programs.+inner.Goals as goal

pub list_inner-returns : goal.list_inner-returns
list_inner-returns t c = rw (inner_exps-plain_exps c.args.exps.now) (grind (arith, common_steps))

pub init_inner-returns : goal.init_inner-returns
init_inner-returns t c = rw (inner_inits-plain_inits c.args.inits.now) (grind (arith, common_steps))

pub functions_inner-returns : goal.functions_inner-returns
functions_inner-returns t c = rw (inner_functions-plain_functions c.args.functions.now) (grind (arith, common_steps))

pub inner_nodes-returns-after-loop-dec : goal.inner_nodes-returns-after-loop-dec
inner_nodes-returns-after-loop-dec t c =
    rw (ap (λ k. inner (plain_kind k c.args.e.now.span)) c.in-Let.is ∙ inner-Let c.in-Let.decs c.in-Let.body c.args.e.now.span) (grind (arith, common_steps))
