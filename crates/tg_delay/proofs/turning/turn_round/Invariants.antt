use Rattle.std.proofs.Common.{◌≡◌, ◌++◌, drop}
use Rattle.tg_delay.specs.Filling.{branches_in, turned_round}
use Rattle.tg_delay.proofs.turning.turn_round.Given as goal

abbrev pub invariant-loop-line : goal.invariant-loop-line
invariant-loop-line l = record {
  behind : l.behind ≡ branches_in (drop l.line-index l.lines);
  lines : l.list.items ++ turned_round (drop l.line-index l.lines) ≡ turned_round l.lines;
}
