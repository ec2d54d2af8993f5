use Rattle.tg_show.proofs.Steps.{live_step, set_next}
use Rattle.tg_show.proofs.liveness.put_live_lines.Goals as goal

pub loop-at-preserved : goal.loop-at-preserved
loop-at-preserved c =
    let now = c.in_ok-advance.ensures in
    record {
      set = set_next c.args.sets.now c.loop-at.at c.advance.new.set.items now;
      text = live_step c.args.names.now c.args.sets.now c.loop-at.at c.args.list.now c.index-list-at.result c.loop-at.set.items
          c.advance.new.set.items _ c.loop-at.text.items _ c.loop-at-test.true c.index-list-at.is now c.loop-at.invariant.text
          (rw (c.deref-in-loop-at.ensures.value, c.deref-in-loop-at-2.ensures.value, c.in_ok-before.ensures.items, c.deref.ensures.value) at
          c.in_ok-put_live_line.ensures);
    }
