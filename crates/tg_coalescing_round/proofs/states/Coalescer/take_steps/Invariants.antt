use Rattle.std.proofs.Common.{◌≡◌}
use Rattle.tg_irc_definition.specs.States.{Problem}
use Rattle.tg_coalescing_round.specs.glue.Standing.{IsOrderly, IsRunOf, left_to_do}
use Rattle.tg_coalescing_round.proofs.states.Coalescer.take_steps.Given as goal

abbrev pub invariant-loop : goal.invariant-loop
invariant-loop g l = record {
  orderly : IsOrderly l.self;
  run : (p : Problem) → p.rule ≡ (goal.SpillPolicy-dyn g l.fn.policy.now).rule l.fn.policy.now.1 →
      IsRunOf p l.fn.self → IsRunOf p l.self;
  same : (goal.SpillPolicy-dyn g l.policy.now).rule l.policy.now.1
      ≡ (goal.SpillPolicy-dyn g l.fn.policy.now).rule l.fn.policy.now.1;
}

abbrev pub decreases-loop : goal.decreases-loop
decreases-loop g l = left_to_do l.self
