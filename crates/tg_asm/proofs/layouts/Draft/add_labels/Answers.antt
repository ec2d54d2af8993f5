use Rattle.std.proofs.Common.{◌∙◌, sym, ap}
use Rattle.tg_asm.specs.glue.Cuts.{pair_of}
use Rattle.tg_asm.proofs.CutLoops.{labels_shorter}
use Rattle.tg_asm.proofs.LayoutLoops.{labelling_begin, labelling_more, labelling_end}
use Rattle.tg_asm.proofs.layouts.Draft.add_labels.Goals as goal

pub loop-name-init : goal.loop-name-init
loop-name-init c = labelling_begin _ _ _ _ _ c.skip-rest.ensures

pub loop-name-smaller : goal.loop-name-smaller
loop-name-smaller c = labels_shorter _ _ _ _ (sym c.in-Some.ensures) c.skip-rest-in-Some.ensures

pub loop-name-preserved : goal.loop-name-preserved
loop-name-preserved c = labelling_more _ _ _ _ _ _ _ _ _ _ _ _ c.loop-name.invariant (sym c.in-Some.ensures) c.skip-rest-in-Some.ensures
    c.in_ok-add_label.ensures.laid c.in_ok-add_label.ensures.lined

pub returns-clause-laid : goal.returns-clause-laid
returns-clause-laid c = (labelling_end _ _ _ _ _ _ _ c.loop-name.invariant (sym c.label_at.ensures ∙ ap pair_of c.in_default.is)).0
