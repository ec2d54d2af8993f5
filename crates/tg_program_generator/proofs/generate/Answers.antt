use Rattle.std.proofs.Common.{◌∙◌}
use Rattle.tg_program_generator.proofs.Lines.{one_more}
use Rattle.tg_program_generator.proofs.generate.Goals as goal

pub loop-i-preserved : goal.loop-i-preserved
loop-i-preserved c = c.in_ok-push_function.ensures ∙ one_more _ _ c.loop-i.invariant
