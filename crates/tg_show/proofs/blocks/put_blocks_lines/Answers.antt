use Rattle.tg_show.proofs.Steps.{blocks_step}
use Rattle.tg_show.proofs.blocks.put_blocks_lines.Goals as goal

pub loop-place-preserved : goal.loop-place-preserved
loop-place-preserved c =
    blocks_step c.args.names.now c.loop-place.place c.args.list.now c.index-list-place.result _ c.loop-place.text.items _ c.loop-place-test.true
    c.index-list-place.is c.loop-place.invariant c.in_ok-put_block.ensures
