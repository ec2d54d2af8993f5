use Rattle.std.proofs.Common.{◌≡◌, ◌≤◌, length, drop}
use Rattle.tg_regalloc.specs.Rounds.{stage_of}
use Rattle.tg_stages.specs.glue.Allocating.{HasRounds}
use Rattle.tg_stages.proofs.LaterRounds.{ToldTo}
use Rattle.tg_stages.proofs.rounds.put_later_rounds.Given as goal

abbrev pub invariant-loop-at : goal.invariant-loop-at
invariant-loop-at l = record {
  left : HasRounds l.code.temps (stage_of l.progress.code l.progress.slots) (drop l.at l.rounds);
  size : length l.progress.locations.items ≡ l.code.temps;
  originals : l.code.temps ≤ l.progress.code.temps;
  told : ToldTo l.code.temps l.names (stage_of l.code l.slots) l.rounds l.initial.text.items l.at (stage_of l.progress.code l.progress.slots) l.text.items;
}
