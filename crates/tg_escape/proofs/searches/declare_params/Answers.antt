use Rattle.std.proofs.Common.{arith}
use Rattle.tg_escape.proofs.SearchSteps.{names_begin, one_param, params_end}
use Rattle.tg_escape.proofs.searches.declare_params.Goals as goal

pub loop-param-init : goal.loop-param-init
loop-param-init c = names_begin

pub loop-param-preserved : goal.loop-param-preserved
loop-param-preserved c = one_param c.loop-param.invariant c.loop-param-test.true c.in_ok-declare_variable.ensures

pub returns : goal.returns
returns c = params_end c.loop-param.invariant (omega (arith, c.loop-param.auto.param-index-end, c.loop-param-test.false))
