use Rattle.tg_translate.proofs.constructs.+frame_out.Given as goal

abbrev pub decreases-frame_out : goal.decreases-frame_out
decreases-frame_out l = l.hops
