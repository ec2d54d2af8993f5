use Rattle.std.proofs.Common.{sym, subst}
use Rattle.tg_asm.specs.glue.Cuts.{labels_of}
use Rattle.tg_asm.specs.glue.Layouts.{IsSmall, laid_of}
use Rattle.tg_asm.proofs.LayoutLoops.{put_small}
use Rattle.tg_asm.proofs.layouts.Draft.add_reading.Goals as goal

pub add_item-requires : goal.add_item-requires
add_item-requires c =
    subst IsSmall (sym c.in_ok-add_labels.ensures.laid) (put_small (labels_of c.args.reading.now.line.now) (laid_of c.args.self.now) c.requires)
