use Rattle.std.proofs.Common.{ap, sym, ◌∙◌}
use Rattle.tg_typecheck.specs.glue.Faults.{rule_and_byte}
use Rattle.tg_typecheck.proofs.LimitSteps.{in_first, in_second}
use Rattle.tg_typecheck.proofs.limits.first_of.Goals as goal

pub returns-in-Some : goal.returns-in-Some
returns-in-Some c = λ a b e d. in_first a b (ap rule_and_byte (sym c.in-Some.is) ∙ e)

pub returns-in-None : goal.returns-in-None
returns-in-None c = λ a b e d. in_second _ a b (ap rule_and_byte (sym c.in-None.is) ∙ e) d
