use Rattle.std.proofs.Common.{length}
use Rattle.tg_asm.specs.glue.Layouts.{laid_of, lined_labels}
use Rattle.tg_asm.proofs.LinePass.{LaidOut}
use Rattle.tg_asm.proofs.layouts.Draft.add_lines.Given as goal

abbrev pub invariant-loop-rule : goal.invariant-loop-rule
invariant-loop-rule l = LaidOut l.text l.rest (lined_labels l.self) (laid_of l.self) l.number

abbrev pub decreases-loop-rule : goal.decreases-loop-rule
decreases-loop-rule l = length l.rest
