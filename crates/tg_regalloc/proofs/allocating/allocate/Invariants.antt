use Rattle.std.proofs.Common.{◌≡◌}
use Rattle.tg_regalloc.specs.Rounds.{stage_of}
use Rattle.tg_regalloc.proofs.UnderWay.{IsUnderWay}
use Rattle.tg_regalloc.proofs.allocating.allocate.Given as goal

abbrev pub invariant-rounds : goal.invariant-rounds
invariant-rounds g l = record {
  under_way : IsUnderWay ((goal.SpillPolicy-dyn g l.fn.policy.now).rule l.fn.policy.now.1) l.code l.frame
      (stage_of l.progress.code l.progress.slots) l.progress.locations.items l.rounds.items;
  same : (goal.SpillPolicy-dyn g l.policy.now).rule l.policy.now.1
      ≡ (goal.SpillPolicy-dyn g l.fn.policy.now).rule l.fn.policy.now.1;
}
