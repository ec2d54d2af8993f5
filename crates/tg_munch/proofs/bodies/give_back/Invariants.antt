use Rattle.std.proofs.Common.{◌≡◌, ◌+◌}
use Rattle.tg_munch.specs.mirror.Munching.{given_back}
use Rattle.tg_munch.proofs.Walking.{Leads}
use Rattle.tg_munch.proofs.bodies.give_back.Given as goal

abbrev pub invariant-loop-register : goal.invariant-loop-register
invariant-loop-register l = record {
  from : l.from ≡ l.keeps + l.register-index;
  leads : Leads given_back l.registers l.keeps l.from l.register-index l.fn.draft l.draft;
}
