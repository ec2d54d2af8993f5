use Rattle.std.proofs.Common.{◌≡◌, ◌++◌, [], drop}
use Rattle.tg_live.specs.glue.LiveChanges.{set_before}
use Rattle.tg_show.specs.Live.{live_lines}
use Rattle.tg_show.proofs.liveness.put_live_lines.Given as goal

abbrev pub invariant-loop-at : goal.invariant-loop-at
invariant-loop-at l = record {
  set : l.set.items ≡ set_before l.sets l.at;
  text : l.initial.text.items ++ live_lines l.names l.sets [] 0 l.list
      ≡ l.text.items ++ live_lines l.names l.sets l.set.items l.at (drop l.at l.list);
}
