use Rattle.std.proofs.Common.{length}
use Rattle.tg_asm.specs.glue.Layouts.{layout_of}
use Rattle.tg_asm.specs.Images.{made_of}
use Rattle.tg_asm.proofs.MakingPass.{InMaking}
use Rattle.tg_asm.proofs.making.make.Given as goal

abbrev pub invariant-loop-rule : goal.invariant-loop-rule
invariant-loop-rule l = InMaking l.text l.rest (layout_of l.layout) (made_of l.made) l.number

abbrev pub decreases-loop-rule : goal.decreases-loop-rule
decreases-loop-rule l = length l.rest
