use Rattle.std.proofs.Common.{sym}
use Rattle.tg_asm.proofs.CutLoops.{labels_begin, labels_shorter, labels_more}
use Rattle.tg_asm.proofs.cuts.past_labels.Goals as goal

pub loop-more-init : goal.loop-more-init
loop-more-init c = labels_begin _ _ c.skip-rest.ensures

pub loop-more-smaller : goal.loop-more-smaller
loop-more-smaller c = labels_shorter _ _ _ _ (sym c.in-Some.ensures) c.skip-rest-in-Some.ensures

pub loop-more-preserved : goal.loop-more-preserved
loop-more-preserved c = labels_more _ _ _ _ _ c.loop-more.invariant (sym c.in-Some.ensures) c.skip-rest-in-Some.ensures
