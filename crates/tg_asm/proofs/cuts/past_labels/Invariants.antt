use Rattle.std.proofs.Common.{length}
use Rattle.tg_asm.proofs.CutLoops.{PastLabels}
use Rattle.tg_asm.proofs.cuts.past_labels.Given as goal

abbrev pub invariant-loop-more : goal.invariant-loop-more
invariant-loop-more l = PastLabels l.line l.rest

abbrev pub decreases-loop-more : goal.decreases-loop-more
decreases-loop-more l = length l.rest
