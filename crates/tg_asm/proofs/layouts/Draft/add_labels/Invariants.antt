use Rattle.std.proofs.Common.{length}
use Rattle.tg_asm.specs.glue.Layouts.{laid_of, lined_labels}
use Rattle.tg_asm.proofs.LayoutLoops.{Labelling}
use Rattle.tg_asm.proofs.layouts.Draft.add_labels.Given as goal

abbrev pub invariant-loop-name : goal.invariant-loop-name
invariant-loop-name l = Labelling l.number (laid_of l.initial.self) (lined_labels l.initial.self) l.line (laid_of l.self) (lined_labels l.self) l.rest

abbrev pub decreases-loop-name : goal.decreases-loop-name
decreases-loop-name l = length l.rest
