use Rattle.std.proofs.Common.{ap, ◌∙◌, length, ◌-◌}
use Rattle.tg_machine.proofs.WrittenWords.{word_written}
use Rattle.tg_machine.proofs.words.put_word.Goals as goal
use borrow.Rule.Slice.PartMut.{put_mid}

pub returns : goal.returns
returns c =
    ap (λ ys. put_mid c.args.at (length c.args.bytes.now - c.args.at) c.args.bytes.now ys) c.write_u32.ensures
    ∙ word_written c.args.bytes.now c.args.at c.args.value c.requires c.ranges.value.fits
