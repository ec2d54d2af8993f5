use Rattle.std.proofs.Common.{arith, ap}
use Rattle.std.proofs.lemmas.Grind.{common_steps}
use Rattle.tg_parser.specs.Depth.{depth}
use Rattle.tg_syntax.specs.glue.Plain.{plain_kind}
use Rattle.tg_parser.proofs.WithinLists.{exps_within, inits_within, functions_within, let_within}
use Rattle.tg_parser.proofs.depths.+within.Goals as goal

pub are_within-returns : goal.are_within-returns
are_within-returns t c = λ _. exps_within c.args.exps.now c.args.most (grind (arith, common_steps))

pub are_inits_within-returns : goal.are_inits_within-returns
are_inits_within-returns t c = λ _. inits_within c.args.inits.now c.args.most (grind (arith, common_steps))

pub are_functions_within-returns : goal.are_functions_within-returns
are_functions_within-returns t c = λ _. functions_within c.args.functions.now c.args.most (grind (arith, common_steps))

pub is_within-returns-after-loop-dec : goal.is_within-returns-after-loop-dec
is_within-returns-after-loop-dec t c = λ h.
    rw (ap (λ k. depth (plain_kind k c.args.e.now.span)) c.in-Let.is)
    (grind (arith, common_steps, let_within c.in-Let.decs c.in-Let.body c.args.e.now.span))
