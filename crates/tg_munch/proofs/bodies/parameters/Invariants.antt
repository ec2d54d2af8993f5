use Rattle.tg_munch.specs.mirror.Bodies.{parameters}
use Rattle.tg_munch.proofs.Walking.{Leads}
use Rattle.tg_munch.proofs.bodies.parameters.Given as goal

abbrev pub invariant-loop-i : goal.invariant-loop-i
invariant-loop-i l = Leads parameters l.homes 0 l.i l.i l.fn.draft l.draft
