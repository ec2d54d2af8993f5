use Rattle.std.proofs.Common.{arith, ap, ◌∙◌}
use Rattle.std.proofs.lemmas.Grind.{common_steps}
use Rattle.tg_syntax.specs.glue.Plain.{plain_kind}
use Rattle.tg_syntax.proofs.ListLaws.{plain_exps-items, plain_inits-items, plain_functions-items, plain_kind-Let}
use Rattle.tg_variables.proofs.Declaring.{decs_texts-dec}
use Rattle.tg_variables.proofs.functions.+texts.Goals as goal

pub put_of_exps-returns : goal.put_of_exps-returns
put_of_exps-returns t c = rw (plain_exps-items c.args.exps.now) (grind (arith, common_steps))

pub put_of_inits-returns : goal.put_of_inits-returns
put_of_inits-returns t c = rw (plain_inits-items c.args.inits.now) (grind (arith, common_steps))

pub put_of_decs-loop-dec-preserved : goal.put_of_decs-loop-dec-preserved
put_of_decs-loop-dec-preserved t c = grind (arith, common_steps, decs_texts-dec)

pub put_texts-returns-in_ok-put_of_decs-in-Let : goal.put_texts-returns-in_ok-put_of_decs-in-Let
put_texts-returns-in_ok-put_of_decs-in-Let t c =
    rw (ap (λ k. plain_kind k c.args.e.now.span) c.in-Let.is ∙ plain_kind-Let c.in-Let.decs c.in-Let.body c.args.e.now.span)
    (grind (arith, common_steps))

pub put_of_functions-returns : goal.put_of_functions-returns
put_of_functions-returns t c = rw (plain_functions-items c.args.group.now) (grind (arith, common_steps))
